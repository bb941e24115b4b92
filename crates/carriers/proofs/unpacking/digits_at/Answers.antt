-- `digits_at` meets its contract: the digits are unpacked where they stand in the contents.
use Rattle.std.proofs.Common.{◌+◌, ◌<◌, get_or, arith, sym, ◌∙◌}
use Rattle.carriers.specs.Codes.{no_code, code_short, code_given}
use Rattle.carriers.proofs.unpacking.digits_at.Goals as goal

pub returns-then-not-is_code : goal.returns-then-not-is_code
returns-then-not-is_code c =
    no_code c.args.s.now c.args.c c.requires c.args.out.now (sym c.is_code.ensures ∙ c.if-not-is_code.true)

pub returns-then-not-unpack_digits : goal.returns-then-not-unpack_digits
returns-then-not-unpack_digits c =
    let a = c.args in
    let octet : get_or a.s.now (a.c.at + 1) 0 < 256 = omega (arith, c.type_inv.s (a.c.at + 1)) in
    let u = rw (c.octets_from-octets.ensures, c.code_count-count.ensures, c.held-code.ensures) at c.unpack_digits.ensures in
    let no = c.if-not-unpack_digits.true in
    let t = code_short a.s.now a.c c.requires (sym c.is_code.ensures ∙ c.if-not-is_code.false) octet a.out.now (sym u.0 ∙ no) in
    (t.0, u.1 ∙ rw no t.1)

pub returns : goal.returns
returns c =
    let a = c.args in
    let octet : get_or a.s.now (a.c.at + 1) 0 < 256 = omega (arith, c.type_inv.s (a.c.at + 1)) in
    let u = rw (c.octets_from-octets.ensures, c.code_count-count.ensures, c.held-code.ensures) at c.unpack_digits.ensures in
    let yes = c.if-not-unpack_digits.false in
    let t =
    code_given a.s.now a.c c.requires (sym c.is_code.ensures ∙ c.if-not-is_code.false) octet a.out.now _ (sym u.0 ∙ yes) (u.1 ∙ rw yes) in
    (rw (c.code_count-count.ensures, c.held-code.ensures) t.0, t.1)
