use Rattle.std.proofs.Common.{◌≡◌, false, take}
use Rattle.std.specs.List.{list_any}
use Rattle.xa_conduct.specs.Texts.{is_told}
use Rattle.xa_conduct.proofs.transaction.Transaction.first_verb.Given as goal

-- none that was looked at was told one
abbrev pub invariant-loop-part : goal.invariant-loop-part
invariant-loop-part l = list_any is_told (take l.part-index l.part-items) ≡ false
