-- What the row of an answer says of a call on the branch.
use Rattle.std.proofs.Common.{◌≡◌, ℕ, true, ◌⊎◌, refl, sym, ap, ◌∙◌, subst}
use Rattle.std.specs.Prelude.{Option, Some, None}
use mathlib.Core.Logic.{◌⊎◌.inl, ◌⊎◌.inr}
use Rattle.xa_base.specs.StateTable.{Kind, State, State.S3, State.S5, answer, moved, state_of}
use Rattle.xa_base.specs.declared.code.Code.{Code}
use Rattle.xa_base.specs.declared.code.How.{How}
use Rattle.xa_base.specs.declared.state.Standing.{Standing}
use Rattle.xa_base.specs.declared.state.Standing.TheVariants.{Prepared, Completed}
use Rattle.xa_base.specs.declared.vote.Vote.{Vote}
use Rattle.xa_monitor.specs.Rows.{found_by_call, row, row_if}
use Rattle.xa_monitor.specs.Standings.{Explains}
use Rattle.xa_monitor.specs.States.{LeadsInto, LeadsOnto, MovesAsAsked, has}
use Rattle.xa_monitor.specs.declared.states.States.{States}
use Rattle.xa_monitor.proofs.RowLemmas.StateSets.{there, moves_by_state, found_same, found_ended, found_how}
use Rattle.xa_monitor.proofs.RowLemmas.AnswerRows.{into_row, CameFrom, onto_row}
use Rattle.xa_model.proofs.ProcessLemmas.SameStates.{prepared_by_state}

-- the state that a call found, with its answer there
pub record Found (k : Kind) (a : Code) (s : States) (g : Standing) : Type 0 where
  pub state : State
  pub was : has (found_by_call s) state ≡ true
  pub vote : Vote
  pub retries : ℕ
  pub answers : answer k state vote retries ≡ a
  pub leads : state_of g ≡ state_of (moved (there state) k (answer k state vote retries))

pub was_found : (k : Kind) (a : Code) (s : States) (f g : Standing) → has s (state_of f) ≡ true → Explains f k a g → Found k a s g
was_found k a s f g h x = record {
  state = state_of x.as_called;
  was = is_found x.alone;
  vote = x.vote;
  retries = x.retries;
  answers = x.answers;
  leads = ap state_of x.moves
      ∙ (moves_by_state x.as_called k a ∙ ap (λ z. state_of (moved (there (state_of x.as_called)) k z)) (sym x.answers));
}
  where
    is_found : (x.as_called ≡ f) ⊎ ((f ≡ Prepared) × ((how : How) × (x.as_called ≡ Completed how)))
        → has (found_by_call s) (state_of x.as_called) ≡ true
    is_found (inl e) = found_same s (state_of x.as_called) (ap (λ z. has s (state_of z)) e ∙ h)
    is_found (inr (p, (how, e))) = ap (λ z. has (found_by_call s) (state_of z)) e ∙ found_ended s how (ap (λ z. has s (state_of z)) (sym p) ∙ h)

pub asked_into : (k : Kind) (a : Code) (s : States) (f g : Standing) → has s (state_of f) ≡ true → Explains f k a g
    → has (row k a (found_by_call s)) (state_of g) ≡ true
asked_into k a s f g h x =
    let c = was_found k a s f g h x in
    subst (λ z. has (row k z (found_by_call s)) (state_of g) ≡ true) c.answers
    (ap (λ z. has (row k (answer k c.state c.vote c.retries) (found_by_call s)) z) c.leads
    ∙ into_row k c.state c.vote c.retries (found_by_call s) c.was)

pub asked_onto : {X : Type 0} (x : X) (k : Kind) (a : Code) (s : States) → LeadsOnto s (MovesAsAsked (Some (k, x)) a) (row k a (found_by_call s))
asked_onto x k a s t h = by_found (found_how s c.state c.was)
  where
    c : CameFrom k a (found_by_call s) t
    c = onto_row k a t (found_by_call s) h

    by_found : (has s c.state ≡ true) ⊎ ((s.s3 ≡ true) × ((how : How) × (c.state ≡ S5 how)))
        → (z : State) × (has s z ≡ true) × ((f : Standing) → state_of f ≡ z → (g : Standing) × Explains f k a g × (state_of g ≡ t))
    by_found (inl w) = (
      c.state,
      w,
      λ f e. (
        moved f k a,
        record {
          as_called = f;
          alone = inl refl;
          vote = c.vote;
          retries = c.retries;
          answers = ap (λ z. answer k z c.vote c.retries) e ∙ c.answers;
          moves = refl;
        },
        moves_by_state f k a ∙ (ap (λ z. state_of (moved (there z) k a)) e ∙ c.moves),
      ),
    )
    by_found (inr (w, (how, e))) = (
      S3,
      w,
      λ f p. (
        moved (Completed how) k a,
        record {
          as_called = Completed how;
          alone = inr (prepared_by_state f p, (how, refl));
          vote = c.vote;
          retries = c.retries;
          answers = ap (λ z. answer k z c.vote c.retries) (sym e) ∙ c.answers;
          moves = refl;
        },
        ap (λ z. state_of (moved (there z) k a)) (sym e) ∙ c.moves,
      ),
    )

pub into_if : {X : Type 0} (asks : Option (Kind × X)) (a : Code) (s after : States) → after ≡ row_if asks a s → LeadsInto s (MovesAsAsked asks a) after
into_if (Some (k, x)) a s after e f g h y = ap (λ z. has z (state_of g)) e ∙ asked_into k a s f g h y
into_if None a s after e f g h y = ap (λ z. has z (state_of g)) e ∙ (ap (λ z. has s (state_of z)) y ∙ h)

pub onto_if : {X : Type 0} (asks : Option (Kind × X)) (a : Code) (s after : States) → after ≡ row_if asks a s → LeadsOnto s (MovesAsAsked asks a) after
onto_if (Some (k, x)) a s after e t h = asked_onto x k a s t (sym (ap (λ z. has z t) e) ∙ h)
onto_if None a s after e t h = (t, sym (ap (λ z. has z t) e) ∙ h, λ f p. (f, refl, p))
