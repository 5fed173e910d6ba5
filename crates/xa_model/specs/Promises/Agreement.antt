-- What holds of every history in which each reply is allowed: the headline of this manager. `AreAlike` is the consistency of TCommit,
-- of Gray and Lamport, "Consensus on Transaction Commit".
use Rattle.std.specs.Prelude.{ℕ, ◌+◌, ◌≡◌, ◌⊎◌, List, [], ◌∷◌, ◌++◌, length, Bool, true, false, if◌then◌else◌, Some, slice_get}
use Rattle.xa_base.specs.StateTable.{State.S5, state_of}
use Rattle.xa_base.specs.declared.state.Standing.{Standing}
use Rattle.xa_base.specs.declared.state.Standing.TheVariants.{Active, Idle, Prepared, RollbackOnly, Completed, Committed, RolledBack, Lost, ReadOnly, Forgotten}
use Rattle.xa_model.specs.Promises.Commitment.{Phase, Leads, phase_of}
use Rattle.xa_model.specs.Facts.{up, started, has_row, ever, recorded_as, doubt, Change.NoChange, taken, issued, standing}
use Rattle.xa_base.specs.declared.call.Call.TheVariants as Calls
use Rattle.xa_model.specs.Trace.{Gtrid, Branch, Line, Call, How, Answer, Happening, Trace, Trace.From, Trace.Then}

-- ** moments

-- the history, followed by further happenings
abbrev pub followed_by : Trace → List Happening → Trace
followed_by tr [] = tr
followed_by tr (e ∷ es) = followed_by (Then tr e) es

-- the whole history is that beginning, then this happening, then others
abbrev pub IsMoment : Trace → Happening → Trace → Type 0
IsMoment tr e whole = (later : List Happening) × (followed_by (Then tr e) later ≡ whole)

-- ** lines

-- the one list begins the other
abbrev pub IsPrefixOf : List Call → List Call → Type 0
IsPrefixOf xs ys = (rest : List Call) × (xs ++ rest ≡ ys)

-- the call of a pair
abbrev pub call_of : Call × Answer → Call
call_of p = p.0

-- xa_close is the last call where it is one
abbrev pub ClosesLast : List Call → Type 0
ClosesLast calls = (i : ℕ) → slice_get calls i ≡ Some Calls.CloseRm → i + 1 ≡ length calls

-- ** ends

-- whether the branch exists and has not come to an end
abbrev pub is_at_work : Standing → Bool
is_at_work Active = true
is_at_work Idle = true
is_at_work Prepared = true
is_at_work RollbackOnly = true
is_at_work _ = false

-- where a branch that has ended stands
abbrev pub end_named : Standing → List Standing
end_named Committed = Committed ∷ []
end_named RolledBack = RolledBack ∷ []
end_named Lost = Lost ∷ []
end_named ReadOnly = ReadOnly ∷ []
end_named (Completed how) = Completed how ∷ []
end_named _ = []

-- the end that this change is, if it is one. Forgetting a heuristic completion is no further end
abbrev pub end_in : (before now : Standing) → List Standing
end_in before now = if is_at_work before then end_named now else []

-- the ends of a branch, the newest first
abbrev pub ends : Trace → Branch → List Standing
ends (From o) b = []
ends (Then tr e) b = end_in (standing tr b) (standing (Then tr e) b) ++ ends tr b

-- where a branch stays for good
abbrev pub IsFinal : Standing → Type 0
IsFinal Committed = Unit
IsFinal RolledBack = Unit
IsFinal Lost = Unit
IsFinal ReadOnly = Unit
IsFinal (Forgotten how) = Unit
IsFinal _ = ⊥

-- ** alike

-- rolled back, or lost with its line
abbrev pub IsUndone : Standing → Type 0
IsUndone f = (f ≡ RolledBack) ⊎ (f ≡ Lost)

-- no branch of a transaction is committed beside one that is rolled back or lost
abbrev pub AreAlike : Trace → Type 0
AreAlike tr = (b c : Branch) → b.gtrid ≡ c.gtrid → standing tr b ≡ Committed → IsUndone (standing tr c) → ⊥

-- the branch is one of the transaction
abbrev pub IsBranchOf : Trace → Gtrid → Branch → Type 0
IsBranchOf tr g b = (b.gtrid ≡ g) × (started tr b ≡ true)

-- the phase of each branch
abbrev pub phases : Trace → Branch → Phase
phases tr b = phase_of (standing tr b)

-- what happens is some steps of the abstract commitment of each transaction, over the branches that it has in the end
abbrev pub IsCommitment : Trace → Happening → Trace → Type 0
IsCommitment tr e whole = (g : Gtrid) → Leads (IsBranchOf whole g) (phases (Then tr e)) (phases tr)

-- a heuristic completion is still there to be found, or recorded as what it was
abbrev pub IsHeld : Trace → Branch → How → Type 0
IsHeld tr b how = (state_of (standing tr b) ≡ S5 how) ⊎ (recorded_as tr b ≡ Some how)

-- each heuristic completion is held so, even after the resource manager was told to forget it
abbrev pub HeuristicsAreHeld : Trace → Type 0
HeuristicsAreHeld tr = (b : Branch) (how : How) → (standing tr b ≡ Completed how) ⊎ (standing tr b ≡ Forgotten how) → IsHeld tr b how

-- ** the log

-- a prepared branch that is committed now has a row now; one that is rolled back now never has a row, to the end of the whole history
pub record AsLogged (tr : Trace) (e : Happening) (whole : Trace) : Type 0 where
  pub committed : (b : Branch) → standing tr b ≡ Prepared → standing (Then tr e) b ≡ Committed → has_row tr b.gtrid ≡ true
  pub rolled_back : (b : Branch) → standing tr b ≡ Prepared → standing (Then tr e) b ≡ RolledBack → ever whole b.gtrid ≡ false

-- a change is in doubt only while the manager is down, and then no line holds a call or an answer
abbrev pub DoubtIsDown : Trace → Type 0
DoubtIsDown tr = (doubt tr ≡ NoChange) ⊎ ((up tr ≡ false) × ((l : Line) → (issued tr l ≡ []) × (taken tr l ≡ [])))
