-- Two digits in an octet: what the contracts of the loops over whole octets cite.
use Rattle.std.specs.Prelude.{ℕ, ◌/◌, ◌%◌, Bool, ◌&&◌}
use Rattle.annex.specs.Digits.{is_code}
use Rattle.annex.specs.declared.Alphabet.{Alphabet}

-- both halves of an octet stand for digits
abbrev pub is_pair : Alphabet → ℕ → Bool
is_pair z x = is_code z (x % 16) && is_code z (x / 16)
