-- `head_refusal` meets its contract: its tests are those of the definition, in their order.
use mathlib.Core.Path.{◌≡◌, sym, ◌∙◌}
use mathlib.Core.Bool.{true, not}
use mathlib.Core.List.{[]}
use borrow.Author.Tests.{ne_eqb, lt-ltb, le-ltb}
use Rattle.annex.specs.Answers.{refuse, not_allowed, bad_form, Accepted}
use Rattle.annex.specs.Heads.{among, common_headers, value_allowed}
use Rattle.annex.specs.Allowed.{value_fits}
use Rattle.annex.specs.Records.{value_head, raw_part}
use Rattle.annex.specs.Writing.{part_writing}
use Rattle.refusing.specs.Laying.{head_length, head_laid}
use Rattle.refusing.specs.Refusing.{head_checked}
use Rattle.refusing.proofs.head_refusal.Goals.{then-header-eq-END_MARK-via-then-header-eq-END_MARK, then-header-eq-END_MARK-via-else-header-eq-END_MARK+then-not-listed}
use Rattle.refusing.proofs.head_refusal.Goals as goal

pub returns-then-header-eq-END_MARK : goal.returns-then-header-eq-END_MARK
returns-then-header-eq-END_MARK c =
    let a = c.args in
    elim c.then-header-eq-END_MARK.branch [
      | then-header-eq-END_MARK-via-then-header-eq-END_MARK w ↦ rw (head_checked _ a.c, w.if-header-eq-END_MARK.true)
      | then-header-eq-END_MARK-via-else-header-eq-END_MARK+then-not-listed w ↦
          let e : w.listed.result ≡ among a.c.header common_headers = w.listed.ensures ∙ rw (ne_eqb _ _ w.if-header-eq-END_MARK.false) in
          rw (head_checked _ a.c, ← e, w.if-not-listed.true)
    ]

pub returns-then-times-gt0 : goal.returns-then-times-gt0
returns-then-times-gt0 c =
    let listed-is : c.listed.result ≡ among c.args.c.header common_headers =
    c.listed.ensures ∙ rw (ne_eqb _ _ c.if-header-eq-END_MARK.false) in
    let common : among c.args.c.header common_headers ≡ true =
    sym (listed-is) ∙ c.if-not-listed.false in
    rw (head_checked _ c.args.c, common, lt-ltb _ _ c.if-times-gt0.true)

pub returns-then-not-value_allowed : goal.returns-then-not-value_allowed
returns-then-not-value_allowed c =
    let listed-is : c.listed.result ≡ among c.args.c.header common_headers =
    c.listed.ensures ∙ rw (ne_eqb _ _ c.if-header-eq-END_MARK.false) in
    let common : among c.args.c.header common_headers ≡ true =
    sym (listed-is) ∙ c.if-not-listed.false in
    let past-3 : (let a = c.args in
    part_writing a.times 0 (raw_part a.c [])
    ≡ refuse (not (value_allowed a.c.header a.c.value)) not_allowed 0
    (refuse (not (value_fits (raw_part a.c []))) bad_form 0 (Accepted (head_length a.c.header)))) =
    let a = c.args in
    rw (head_checked a.times a.c, common, le-ltb _ _ c.if-times-gt0.false) in
    rw (past-3, ← c.value_allowed.ensures, c.if-not-value_allowed.true)

pub returns-then-not-value_fits : goal.returns-then-not-value_fits
returns-then-not-value_fits c =
    let listed-is : c.listed.result ≡ among c.args.c.header common_headers =
    c.listed.ensures ∙ rw (ne_eqb _ _ c.if-header-eq-END_MARK.false) in
    let common : among c.args.c.header common_headers ≡ true =
    sym (listed-is) ∙ c.if-not-listed.false in
    let past-3 : (let a = c.args in
    part_writing a.times 0 (raw_part a.c [])
    ≡ refuse (not (value_allowed a.c.header a.c.value)) not_allowed 0
    (refuse (not (value_fits (raw_part a.c []))) bad_form 0 (Accepted (head_length a.c.header)))) =
    let a = c.args in
    rw (head_checked a.times a.c, common, le-ltb _ _ c.if-times-gt0.false) in
    rw (
      past-3,
      ← c.value_allowed.ensures,
      c.if-not-value_allowed.false,
      ← c.value_fits.ensures,
      c.if-not-value_fits.true,
    )

pub returns : goal.returns
returns c =
    let listed-is : c.listed.result ≡ among c.args.c.header common_headers =
    c.listed.ensures ∙ rw (ne_eqb _ _ c.if-header-eq-END_MARK.false) in
    let common : among c.args.c.header common_headers ≡ true =
    sym (listed-is) ∙ c.if-not-listed.false in
    let past-3 : (let a = c.args in
    part_writing a.times 0 (raw_part a.c [])
    ≡ refuse (not (value_allowed a.c.header a.c.value)) not_allowed 0
    (refuse (not (value_fits (raw_part a.c []))) bad_form 0 (Accepted (head_length a.c.header)))) =
    let a = c.args in
    rw (head_checked a.times a.c, common, le-ltb _ _ c.if-times-gt0.false) in
    rw (
      past-3,
      ← c.value_allowed.ensures,
      c.if-not-value_allowed.false,
      ← c.value_fits.ensures,
      c.if-not-value_fits.false,
      c.head_len.ensures,
      head_laid (value_head c.args.c.header 0),
    )
