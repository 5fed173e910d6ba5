-- The branches of transactions, and what was decided of them (XA, section 2.3, Transaction Completion and Recovery; a commit in one
-- phase is of section 2.3.2, Protocol Optimisations). Claims are this manager's own.
use Rattle.std.specs.Prelude.{List, [], ◌∷◌, Bool, false, not, ◌&&◌, ◌||◌, true}
use Rattle.xa_base.specs.Branch.{gtrid_eq, branch_eq}
use Rattle.xa_base.specs.declared.step.Part.TheVariants as Part
use Rattle.xa_model.specs.Facts.HeardAnswers.{page, lists_one_of, was_told, says_yes, says_read_only}
use Rattle.xa_model.specs.Facts.Manager.{begun}
use Rattle.xa_base.specs.declared.call.Call.TheVariants as Calls
use Rattle.xa_model.specs.Trace.{Gtrid, Branch, Outcome, Happening.Issued, Happening.ResolvedOpen, Happening.Claimed, Happening.Decided, Happening.Crashed, Happening.Failed, Happening.Restarted, Trace, Trace.From, Trace.Then}

-- a branch of its transaction: its xa_start was accepted
abbrev pub started : Trace → Branch → Bool
started (From o) b = false
started (Then tr (Issued l (Calls.Start c join))) b = branch_eq c b || started tr b
started (Then tr _) b = started tr b

-- the branches of all transactions, the newest first
abbrev pub branches : Trace → List Branch
branches (From o) = []
branches (Then tr (Issued l (Calls.Start b join))) = b ∷ branches tr
branches (Then tr _) = branches tr

-- an xa_commit in one phase was accepted: the resource manager decides the outcome
abbrev pub handed_over : Trace → Gtrid → Bool
handed_over (From o) g = false
handed_over (Then tr (Issued l (Calls.Commit b true))) g = gtrid_eq b.gtrid g || handed_over tr g
handed_over (Then tr _) g = handed_over tr g

-- claimed in this incarnation, and not yet settled or abandoned
abbrev pub claimed : Trace → Gtrid → Bool
claimed (From o) g = false
claimed (Then tr (Claimed h)) g = gtrid_eq h g || claimed tr g
claimed (Then tr (Decided h o)) g = not (gtrid_eq h g) && claimed tr g
claimed (Then tr (Crashed Part.Manager)) g = false
claimed (Then tr (Failed f)) g = false
claimed (Then tr (Restarted i d h)) g = false
claimed (Then tr _) g = claimed tr g

-- decided so. A recovery that may decide rolls back each transaction of its page that is begun, and neither claimed nor committed
-- nor handed over
abbrev pub decided_so : Outcome → Trace → Gtrid → Bool
decided_so Outcome.Commit (From o) g = false
decided_so Outcome.Rollback (From o) g = false
decided_so Outcome.Commit (Then tr (Decided h Outcome.Commit)) g = gtrid_eq h g || decided_so Outcome.Commit tr g
decided_so Outcome.Rollback (Then tr (Decided h Outcome.Rollback)) g = gtrid_eq h g || decided_so Outcome.Rollback tr g
decided_so Outcome.Rollback (Then tr (ResolvedOpen r)) g =
    (lists_one_of g (page tr r) && (begun tr g && not (claimed tr g || (decided_so Outcome.Commit tr g || handed_over tr g))))
    || decided_so Outcome.Rollback tr g
decided_so o (Then tr _) g = decided_so o tr g

-- begun in this incarnation, and neither decided nor handed over
abbrev pub live : Trace → Gtrid → Bool
live tr g = begun tr g && not (decided_so Outcome.Commit tr g || (decided_so Outcome.Rollback tr g || handed_over tr g))

-- each branch of the transaction passes the test
abbrev pub all_of : Gtrid → (Branch → Bool) → List Branch → Bool
all_of g test [] = true
all_of g test (b ∷ bs) = (not (gtrid_eq b.gtrid g) || test b) && all_of g test bs

-- XA_OK or XA_RDONLY was heard to the branch's xa_prepare
abbrev pub has_voted : Trace → Branch → Bool
has_voted tr b = was_told tr (says_yes b) || was_told tr (says_read_only b)
