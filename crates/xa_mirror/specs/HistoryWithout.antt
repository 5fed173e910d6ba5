-- A decision to commit, left out of a history: as if the log had failed in it, and its row hadn't
-- been written.
use Rattle.std.specs.Prelude.{◌≡◌, List, [], ◌∷◌, length, true, false, ◌||◌, if◌then◌else◌}
use Rattle.xa_base.specs.Branch.{gtrid_eq}
use Rattle.xa_base.specs.declared.call.Call.TheVariants as Calls
use Rattle.xa_base.specs.declared.step.Outcome.TheVariants as Outcome
use Rattle.xa_model.specs.Facts.{decided_so, has_row, heuristic_rows, incarnation, lists_one_of, log, page, standing, without}
use Rattle.xa_model.specs.Protocol.{AllRight}
use Rattle.xa_model.specs.Trace.{Branch, Fault, Fault.InDecide, Fault.InDone, Gtrid, Happening, Happening.Decided, Happening.Done, Happening.Failed, Happening.Issued, Happening.Nothing, Happening.Resolved, Happening.ResolvedOpen, Happening.Restarted, Trace, Trace.From, Trace.Then}

-- ** what was done about a decision

-- it is decided to commit it, in this process, or by a row
abbrev pub IsToCommitIn : Trace → Gtrid → Type 0
IsToCommitIn tr g = (decided_so Outcome.Commit tr g || has_row tr g) ≡ true

-- The happening does nothing about it: it issues no xa_commit of a branch of the transaction, and
-- resolves no page that lists one.
abbrev pub LeavesUntouched : Gtrid → Trace → Happening → Type 0
LeavesUntouched g tr (Issued l (Calls.Commit b one_phase)) = gtrid_eq b.gtrid g ≡ false
LeavesUntouched g tr (Resolved r) = IsToCommitIn tr g → lists_one_of g (page tr r) ≡ false
LeavesUntouched g tr (ResolvedOpen r) = IsToCommitIn tr g → lists_one_of g (page tr r) ≡ false
LeavesUntouched g tr _ = Unit

-- so does all that happened
abbrev pub IsLeftUntouched : Gtrid → Trace → Type 0
IsLeftUntouched g (From o) = Unit
IsLeftUntouched g (Then tr e) = IsLeftUntouched g tr × LeavesUntouched g tr e

-- ** the history without it

-- these transactions except the one
abbrev pub others : Gtrid → List Gtrid → List Gtrid
others g [] = []
others g (h ∷ hs) = if gtrid_eq h g then others g hs else h ∷ others g hs

-- the log failed in the decisions, or the rows that were to leave, except the one
abbrev pub fault_without : Gtrid → Fault → Fault
fault_without g (InDecide gs) = InDecide (others g gs)
fault_without g (InDone gs) = InDone (others g gs)
fault_without g f = f

-- The same happened, except the decision and that its row left the log: nothing happened in their
-- place, and if the log failed in them, it failed in the others. The start has no row of it, and a
-- restart finds none.
abbrev pub history_without : Gtrid → Trace → Trace
history_without g (From o) = From (record o { rows = without g o.rows })
history_without g (Then tr (Decided h Outcome.Commit)) =
    Then (history_without g tr) (if gtrid_eq h g then Nothing else Decided h Outcome.Commit)
history_without g (Then tr (Done h)) = Then (history_without g tr) (if gtrid_eq h g then Nothing else Done h)
history_without g (Then tr (Failed f)) = Then (history_without g tr) (Failed (fault_without g f))
history_without g (Then tr (Restarted i d h)) =
    Then (history_without g tr) (Restarted i (length (without g (log (Then tr (Restarted i d h))))) h)
history_without g (Then tr e) = Then (history_without g tr) e

-- ** what is so of it

-- It is right, leaves each branch where it stood, and has the same records and the same rows,
-- except this one.
pub record IsRightWithout (g : Gtrid) (tr : Trace) : Type 0 where
  pub right : AllRight (history_without g tr)
  pub there : (b : Branch) → standing (history_without g tr) b ≡ standing tr b
  pub rows : log (history_without g tr) ≡ without g (log tr)
  pub records : heuristic_rows (history_without g tr) ≡ heuristic_rows tr
  pub incarnation_is : incarnation (history_without g tr) ≡ incarnation tr

-- A decision about which nothing was done may be left out of a right history.
abbrev pub DecisionsMayBeLeftOut : Type 0
DecisionsMayBeLeftOut = (g : Gtrid) (tr : Trace) → AllRight tr → IsLeftUntouched g tr → IsRightWithout g tr
