-- What holds of each element of an array that is a field of a struct, from what holds of the struct by its types.
use Rattle.std.specs.Prelude.{List, [], ◌∷◌, map}
use denote.Array.{each}
use denote.Shadow.{shadow}
use denote.Struct.Field.{Field}
use mir.Val.{Val}
use Rattle.annex.specs.Allowed.{Each}

pub each_element : (F : Field) (P : F.Value → Type 0) → ((x : F.Value) (u : Val) → shadow (F.row.own_val (F.into x) (u ∷ [])) → P x)
    → (xs : List F.Value) (us : List Val) → shadow (each F.row.Denot F.row.own_val (map F.into xs) us) → Each P xs
each_element F P h [] us s = tt
each_element F P h (x ∷ xs) [] s = absurd s
each_element F P h (x ∷ xs) (u ∷ us) s = (h x u s.0, each_element F P h xs us s.1)
