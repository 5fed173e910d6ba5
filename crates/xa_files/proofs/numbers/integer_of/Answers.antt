use Rattle.std.proofs.Common.{ℤ, FitsSigned, w64, sym, ◌∙◌, ap, subst}
use Rattle.std.specs.Prelude.{Some}
use Rattle.std.proofs.lemmas.Int.{to_z-of_z}
use Rattle.xa_base.specs.XidText.{is_canonical_decimal}
use Rattle.xa_files.proofs.NumberLemmas.{integer_of-read, integer_of-other, integer_of-unread}
use Rattle.xa_files.proofs.numbers.integer_of.Goals as goal

pub returns-in-Ok : goal.returns-in-Ok
returns-in-Ok c =
    let canonical = ap is_canonical_decimal (sym c.as_bytes.ensures.value) ∙ sym c.if-is_canonical.ensures in
    let read = c.in-Ok.ensures.value.0 in
    let fits : FitsSigned w64 c.in-Ok.number = subst (λ (z : ℤ). FitsSigned w64 z) (sym read.1) read.0.1 in
    ap Some (to_z-of_z w64 c.in-Ok.number fits) ∙ sym (integer_of-read c.args.word.now c.in-Ok.number read canonical fits)

pub returns-in_default : goal.returns-in_default
returns-in_default c =
    sym (integer_of-other c.args.word.now (ap is_canonical_decimal (sym c.as_bytes.ensures.value) ∙ sym c.if-is_canonical.ensures))

pub returns-in_default-2 : goal.returns-in_default-2
returns-in_default-2 c = sym (integer_of-unread c.args.word.now c.in_default.ensures.value.0)
