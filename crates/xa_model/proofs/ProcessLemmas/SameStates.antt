-- Where two branches are in the same state, what happens to both leaves them in the same one.
use Rattle.std.proofs.Common.{◌≡◌, Bool, true, false, refl, sym, ap, ◌∙◌}
use Rattle.std.specs.Prelude.{if◌then◌else◌, Option, Some, None}
use Rattle.xa_base.specs.Branch.{branch_eq}
use Rattle.xa_base.specs.Standing.{is_in_doubt}
use Rattle.xa_base.specs.StateTable.{Kind, Kind.Start, Kind.End, Kind.Prepare, Kind.Commit, Kind.OnePhase, Kind.Rollback, Kind.Forget, State, State.S0, State.S1, State.S2, State.S3, State.S4, State.S5, state_of, moved, broken, completed, after_end, after_prepare, after_one_phase, after_commit}
use Rattle.xa_base.specs.declared.state.Standing.{Standing}
use Rattle.xa_base.specs.declared.state.Standing.TheVariants.{Unstarted, Active, Idle, Prepared, RollbackOnly, Completed, Committed, RolledBack, Lost, ReadOnly, Forgotten}
use Rattle.xa_model.specs.Facts.Standings.{moved_by}
use Rattle.xa_model.specs.Trace.{Branch, Code, How}

-- the state after a call that was answered so
state_after : State → Kind → Code → State
state_after S0 Start a = S1
state_after S1 (End fail) a = state_of (after_end a)
state_after S2 Prepare a = state_of (after_prepare a)
state_after S2 OnePhase a = state_of (after_one_phase a)
state_after S2 Rollback a = S0
state_after S3 Commit a = state_of (after_commit a)
state_after S3 Rollback a = S0
state_after S4 Rollback a = S0
state_after (S5 how) Forget a = S0
state_after s k a = s

state_moved : (f : Standing) (k : Kind) (a : Code) → state_of (moved f k a) ≡ state_after (state_of f) k a
unfolding state_after
state_moved Unstarted Start a = refl
state_moved Active (End fail) a = refl
state_moved Idle Prepare a = refl
state_moved Prepared Commit a = refl
state_moved RollbackOnly Rollback a = refl
state_moved (Completed how) Forget a = refl
state_moved Committed Start a = refl
state_moved RolledBack Start a = refl
state_moved Lost Start a = refl
state_moved ReadOnly Start a = refl
state_moved (Forgotten how) Start a = refl
state_moved f k a = refl

same_moved : (f g : Standing) (k : Kind) (a : Code) → state_of f ≡ state_of g → state_of (moved f k a) ≡ state_of (moved g k a)
same_moved f g k a e = state_moved f k a ∙ (ap (λ s. state_after s k a) e ∙ sym (state_moved g k a))

pub same_moved_by : (o : Option (Kind × Branch)) (a : Code) (b : Branch) (f g : Standing) → state_of f ≡ state_of g
    → state_of (moved_by o a b f) ≡ state_of (moved_by o a b g)
same_moved_by (Some (k, c)) a b f g e = by_test (branch_eq c b)
  where
    by_test : (t : Bool) → state_of (if t then moved f k a else f) ≡ state_of (if t then moved g k a else g)
    by_test true = same_moved f g k a e
    by_test false = e
same_moved_by None a b f g e = e

-- after a break
state_broken : State → State
state_broken S1 = S0
state_broken S2 = S0
state_broken S4 = S0
state_broken s = s

broken_is : (f : Standing) → state_of (broken f) ≡ state_broken (state_of f)
unfolding state_broken
broken_is Active = refl
broken_is f = refl

pub same_broken : (f g : Standing) (t : Bool) → state_of f ≡ state_of g → state_of (if t then broken f else f) ≡ state_of (if t then broken g else g)
same_broken f g true e = broken_is f ∙ (ap state_broken e ∙ sym (broken_is g))
same_broken f g false e = e

-- after a heuristic end
state_completed : State → How → State
state_completed S3 how = S5 how
state_completed s how = s

completed_is : (f : Standing) (how : How) → state_of (completed f how) ≡ state_completed (state_of f) how
unfolding state_completed
completed_is Prepared how = refl
completed_is f how = refl

pub same_completed : (f g : Standing) (how : How) (t : Bool) → state_of f ≡ state_of g
    → state_of (if t then completed f how else f) ≡ state_of (if t then completed g how else g)
same_completed f g how true e = completed_is f how ∙ (ap (λ s. state_completed s how) e ∙ sym (completed_is g how))
same_completed f g how false e = e

-- ** what a state tells

pub prepared_by_state : (f : Standing) → state_of f ≡ S3 → f ≡ Prepared
prepared_by_state Prepared e = refl
prepared_by_state Unstarted e = absurd (cc)
prepared_by_state _ e = absurd (cc)

doubtful : State → Bool
doubtful S3 = true
doubtful (S5 how) = true
doubtful s = false

doubtful_is : (f : Standing) → is_in_doubt f ≡ doubtful (state_of f)
unfolding doubtful
doubtful_is Prepared = refl
doubtful_is f = refl

pub same_in_doubt : (f g : Standing) → state_of f ≡ state_of g → is_in_doubt f ≡ is_in_doubt g
same_in_doubt f g e = doubtful_is f ∙ (ap doubtful e ∙ sym (doubtful_is g))
