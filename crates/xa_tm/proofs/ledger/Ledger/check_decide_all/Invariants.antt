use Rattle.std.proofs.Common.{◌≡◌, [], drop, take}
use Rattle.xa_base.specs.declared.step.Step.TheVariants as Steps
use Rattle.xa_tm.specs.LedgerBook.{as_book}
use Rattle.xa_tm.proofs.Several.Refusals.{decided_again, turn}
use Rattle.xa_tm.proofs.ledger.Ledger.check_decide_all.Given as goal

abbrev pub invariant-loop-i : goal.invariant-loop-i
invariant-loop-i l = turn (λ g. Steps.Decide g l.outcome) decided_again (as_book l.self) (take l.i l.gtrids) (drop l.i l.gtrids)
    ≡ turn (λ g. Steps.Decide g l.outcome) decided_again (as_book l.self) [] l.gtrids
