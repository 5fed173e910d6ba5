use Rattle.std.proofs.Common.{sym, ◌∙◌, ap}
use Rattle.xa_base.specs.XidText.{is_canonical_decimal}
use Rattle.xa_files.proofs.NumberLemmas.{index_of-read, index_of-other, index_of-unread}
use Rattle.xa_files.proofs.numbers.index_of.Goals as goal

pub returns-in-Ok : goal.returns-in-Ok
returns-in-Ok c =
    sym (index_of-read c.args.word.now c.in-Ok.number c.in-Ok.ensures.value.0
    (ap is_canonical_decimal (sym c.as_bytes.ensures.value) ∙ sym c.if-is_canonical.ensures))

pub returns-in_default : goal.returns-in_default
returns-in_default c =
    sym (index_of-other c.args.word.now (ap is_canonical_decimal (sym c.as_bytes.ensures.value) ∙ sym c.if-is_canonical.ensures))

pub returns-in_default-2 : goal.returns-in_default-2
returns-in_default-2 c = sym (index_of-unread c.args.word.now c.in_default.ensures.value.0)
