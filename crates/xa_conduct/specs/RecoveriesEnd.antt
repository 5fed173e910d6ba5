-- That a recovery ends what its pages list, as a statement of how a conductor goes on by a report. It is not proved.
use Rattle.std.specs.Prelude.{◌≡◌, ◌<◌, ◌+◌, ◌⊎◌, ℕ, zero, suc, Bool, true, false, List, Option, Some, None, length, slice_get}
use Rattle.std.specs.List.{Contains, sum_by}
use Rattle.xa_base.specs.Xid.{Xid}
use Rattle.xa_base.specs.declared.branch.Branch.{Branch}
use Rattle.xa_base.specs.declared.call.Call.TheVariants as calls
use Rattle.xa_log.specs.Contract.{Moment}
use Rattle.xa_model.specs.Trace.{Call}
use Rattle.xa_session.specs.Session.{known_at}
use Rattle.xa_conduct.specs.declared.conductor.Conductor.{Conductor}
use Rattle.xa_conduct.specs.declared.debt.Debt.{Debt}
use Rattle.xa_conduct.specs.declared.debt.Due.{Due}
use Rattle.xa_conduct.specs.declared.debt.Due.TheVariants as dues
use Rattle.xa_conduct.specs.declared.recovery.Listed.{Listed}
use Rattle.xa_conduct.specs.declared.recovery.Listed.TheVariants.{Earlier}
use Rattle.xa_conduct.specs.declared.recovery.Recovery.{Recovery}
use Rattle.xa_conduct.specs.declared.recovery.Stage.{Stage}
use Rattle.xa_conduct.specs.declared.recovery.Stage.TheVariants.{Idle, Paging}

-- ** how many reports are left

-- to a call: one, and one more to the xa_forget behind it, if it ends a prepared branch
abbrev pub reports_to : Option Call → ℕ
reports_to (Some (calls.Commit b one_phase)) = 2
reports_to (Some (calls.Rollback b)) = 2
reports_to (Some (calls.Forget b)) = 1
reports_to call = 0

abbrev pub reports_for : Due → ℕ
reports_for dues.Commit = 2
reports_for dues.Rollback = 2
reports_for dues.Forget = 1

-- what a recovery still has to pay
abbrev pub reports_owed : Option Recovery → ℕ
reports_owed None = 0
reports_owed (Some recovery) = sum_by (λ (debt : Debt). reports_for debt.due) recovery.left.items

abbrev pub stage_of : Option Recovery → Option Stage
stage_of None = None
stage_of (Some recovery) = Some recovery.stage

module _ {L : Type 0} (moment : L → Moment) where
  -- to the first so many calls that wait on the recovery's line
  pub reports_waiting : (rm : ℕ) → Conductor L → ℕ → ℕ
  reports_waiting rm c zero = 0
  reports_waiting rm c (suc n) = reports_waiting rm c n + reports_to (known_at c.server.session.lines 0 rm n)

  -- a line has no more than 64
  abbrev pub reports_left : (rm : ℕ) → Conductor L → ℕ
  reports_left rm c = reports_waiting rm c 64 + reports_owed (slice_get c.notes.recoveries.items rm)

  -- ** by a page

  -- a call that ends the branch waits: which of them, the log says
  pub record IsTold (rm : ℕ) (c : Conductor L) (b : Branch) : Type 0 where
    pub at : ℕ
    pub within : at < 64
    pub call :
        (known_at c.server.session.lines 0 rm at ≡ Some (calls.Commit b false))
        ⊎ (known_at c.server.session.lines 0 rm at ≡ Some (calls.Rollback b))

  -- Each branch that the page lists and an earlier incarnation began is told a call, or nothing is told any more. `listed_as` says what it is.
  abbrev pub PagesAreTold : (listed_as : Xid → Listed) → (rm : ℕ) → List Xid → (new : Conductor L) → Type 0
  PagesAreTold listed_as rm xids new =
      (new.notes.is_stopped ≡ true)
      ⊎ ((x : Xid) (b : Branch) → Contains xids x → listed_as x ≡ Earlier b → IsTold rm new b)

  -- ** by a report

  -- By each report that is taken fewer are left, or the recovery comes to its next page or to what is owed, or to its end, or nothing is told any
  -- more. So of a page with n branches at most 2 n reports are taken, and 2 n of n debts.
  abbrev pub RecoveriesEnd : (rm : ℕ) → (old new : Conductor L) → Type 0
  RecoveriesEnd rm old new =
      (reports_left rm new < reports_left rm old)
      ⊎ ((stage_of (slice_get new.notes.recoveries.items rm) ≡ stage_of (slice_get old.notes.recoveries.items rm) → ⊥)
      ⊎ (new.notes.is_stopped ≡ true))

  -- a recovery that has nothing left to be told, and waits for no page, is over
  abbrev pub NothingIsLeft : (rm : ℕ) → Conductor L → Type 0
  NothingIsLeft rm c =
      rm < length c.notes.recoveries.items → (stage_of (slice_get c.notes.recoveries.items rm) ≡ Some Paging → ⊥) → reports_left rm c ≡ 0
      → stage_of (slice_get c.notes.recoveries.items rm) ≡ Some Idle
