-- The row of an answer holds the states to which it leads, and no other.
use Rattle.std.proofs.Common.{◌≡◌, ℕ, zero, suc, true, false, ◌⊎◌, refl, sym, ap, ◌∙◌, subst}
use Rattle.std.proofs.lemmas.Bool.{or_cases, or_left, or_right}
use mathlib.Core.Logic.{◌⊎◌.inl, ◌⊎◌.inr}
use Rattle.xa_base.specs.StateTable.{Kind, Kind.Start, Kind.Join, Kind.End, Kind.Prepare, Kind.Commit, Kind.OnePhase, Kind.Rollback, Kind.Forget, State, State.S0, State.S1, State.S2, State.S3, State.S4, State.S5, answer, moved, state_of}
use Rattle.xa_base.specs.declared.code.Code.{Code}
use Rattle.xa_base.specs.declared.code.Code.TheVariants.{DuplicateXid, Heuristic, NotAnXid, Protocol, Retry, RolledBack, Success}
use Rattle.xa_base.specs.declared.code.Code.TheVariants as Codes
use Rattle.xa_base.specs.declared.code.How.{How}
use Rattle.xa_base.specs.declared.code.RbCode.TheVariants as Rb
use Rattle.xa_base.specs.declared.state.Standing.TheVariants.{Completed}
use Rattle.xa_base.specs.declared.vote.Vote.{Vote}
use Rattle.xa_base.specs.declared.vote.Vote.TheVariants.{Yes, ReadOnly, No}
use Rattle.xa_monitor.specs.Rows.{only_end, row}
use Rattle.xa_monitor.specs.States.{has, has_end}
use Rattle.xa_monitor.specs.declared.states.States.{States}
use Rattle.xa_monitor.proofs.RowLemmas.StateSets.{there, none_ended, none_there, only_that, no_other, some_end, which_end}

-- ** a row holds where its answer leads

pub into_row : (k : Kind) (s : State) (v : Vote) (n : ℕ) (m : States) → has m s ≡ true
    → has (row k (answer k s v n) m) (state_of (moved (there s) k (answer k s v n))) ≡ true
into_row Start S0 v n m h = h
into_row Start _ v n m h = h
into_row Join S0 v n m h = h
into_row Join _ v n m h = h
into_row (End true) S1 v n m h = h
into_row (End false) S1 v n m h = h
into_row (End fail) S0 v n m h = h
into_row (End fail) _ v n m h = h
into_row Prepare S2 Yes n m h = h
into_row Prepare S2 ReadOnly n m h = h
into_row Prepare S2 (No code) n m h = h
into_row Prepare S0 v n m h = h
into_row Prepare _ v n m h = h
into_row Commit S3 v zero m h = h
into_row Commit S3 v (suc n) m h = h
into_row Commit (S5 how) v n m h = subst (λ t. t ≡ true) (sym (only_that how m.s5)) h
into_row Commit S0 v n m h = h
into_row Commit _ v n m h = h
into_row OnePhase S2 Yes n m h = h
into_row OnePhase S2 ReadOnly n m h = h
into_row OnePhase S2 (No code) n m h = h
into_row OnePhase (S5 how) v n m h = subst (λ t. t ≡ true) (sym (only_that how m.s5)) h
into_row OnePhase S0 v n m h = h
into_row OnePhase _ v n m h = h
into_row Rollback S2 v n m h = or_left _ _ h
into_row Rollback S3 v n m h = or_right _ _ h
into_row Rollback (S5 how) v n m h = subst (λ t. t ≡ true) (sym (only_that how m.s5)) h
into_row Rollback S0 v n m h = h
into_row Rollback _ v n m h = h
into_row Forget (S5 how) v n m h = some_end how m.s5 h
into_row Forget S0 v n m h = h
into_row Forget _ v n m h = h

-- ** and nothing else

-- a state from which the call is answered so, and leads there
pub record CameFrom (k : Kind) (a : Code) (m : States) (t : State) : Type 0 where
  pub state : State
  pub was : has m state ≡ true
  pub vote : Vote
  pub retries : ℕ
  pub answers : answer k state vote retries ≡ a
  pub moves : state_of (moved (there state) k a) ≡ t

abbrev pub came : {k : Kind} {a : Code} {m : States} {t : State} (s : State) (v : Vote) (n : ℕ) → has m s ≡ true
    → answer k s v n ≡ a → state_of (moved (there s) k a) ≡ t → CameFrom k a m t
came s v n h e w = record { state = s; was = h; vote = v; retries = n; answers = e; moves = w }

ended_so : (k : Kind) (how t : How) (m : States) → has_end (only_end how m.s5) t ≡ true
    → answer k (S5 how) Yes 0 ≡ Heuristic how → state_of (moved (Completed how) k (Heuristic how)) ≡ S5 how → CameFrom k (Heuristic how) m (S5 t)
ended_so k how t m h e w =
    let same : t ≡ how = no_other how t m.s5 h in
    came (S5 how) Yes 0 (sym (only_that how m.s5) ∙ (ap (λ x. has_end (only_end how m.s5) x) (sym same) ∙ h)) e (w ∙ ap S5 (sym same))

rolled_back : (m : States) → (m.s2 ≡ true) ⊎ (m.s3 ≡ true) → CameFrom Rollback Success m S0
rolled_back m (inl h) = came S2 Yes 0 h refl refl
rolled_back m (inr h) = came S3 Yes 0 h refl refl

pub onto_row : (k : Kind) (a : Code) (t : State) (m : States) → has (row k a m) t ≡ true → CameFrom k a m t
onto_row Start Success S1 m h = came S0 Yes 0 h refl refl
onto_row Start Success (S5 how) m h = absurd (none_ended how h)
onto_row Start Success _ m h = absurd (cc)
onto_row Start DuplicateXid S0 m h = absurd (cc)
onto_row Start DuplicateXid t m h = came t Yes 0 h refl refl
onto_row Start a t m h = absurd (none_there t h)
onto_row Join NotAnXid S0 m h = came S0 Yes 0 h refl refl
onto_row Join NotAnXid (S5 how) m h = absurd (none_ended how h)
onto_row Join NotAnXid _ m h = absurd (cc)
onto_row Join Protocol S0 m h = absurd (cc)
onto_row Join Protocol t m h = came t Yes 0 h refl refl
onto_row Join a t m h = absurd (none_there t h)
onto_row (End false) Success S2 m h = came S1 Yes 0 h refl refl
onto_row (End false) Success (S5 how) m h = absurd (none_ended how h)
onto_row (End false) Success _ m h = absurd (cc)
onto_row (End true) (RolledBack Rb.Rollback) S4 m h = came S1 Yes 0 h refl refl
onto_row (End true) (RolledBack Rb.Rollback) (S5 how) m h = absurd (none_ended how h)
onto_row (End true) (RolledBack Rb.Rollback) _ m h = absurd (cc)
onto_row (End false) NotAnXid S0 m h = came S0 Yes 0 h refl refl
onto_row (End false) NotAnXid (S5 how) m h = absurd (none_ended how h)
onto_row (End false) NotAnXid _ m h = absurd (cc)
onto_row (End false) Protocol S0 m h = absurd (cc)
onto_row (End false) Protocol S1 m h = absurd (cc)
onto_row (End false) Protocol t m h = came t Yes 0 h refl refl
onto_row (End false) a t m h = absurd (none_there t h)
onto_row (End true) NotAnXid S0 m h = came S0 Yes 0 h refl refl
onto_row (End true) NotAnXid (S5 how) m h = absurd (none_ended how h)
onto_row (End true) NotAnXid _ m h = absurd (cc)
onto_row (End true) Protocol S0 m h = absurd (cc)
onto_row (End true) Protocol S1 m h = absurd (cc)
onto_row (End true) Protocol t m h = came t Yes 0 h refl refl
onto_row (End true) a t m h = absurd (none_there t h)
onto_row Prepare Success S3 m h = came S2 Yes 0 h refl refl
onto_row Prepare Success (S5 how) m h = absurd (none_ended how h)
onto_row Prepare Success _ m h = absurd (cc)
onto_row Prepare Codes.ReadOnly S0 m h = came S2 ReadOnly 0 h refl refl
onto_row Prepare Codes.ReadOnly (S5 how) m h = absurd (none_ended how h)
onto_row Prepare Codes.ReadOnly _ m h = absurd (cc)
onto_row Prepare (RolledBack code) S0 m h = came S2 (No code) 0 h refl refl
onto_row Prepare (RolledBack code) (S5 how) m h = absurd (none_ended how h)
onto_row Prepare (RolledBack code) _ m h = absurd (cc)
onto_row Prepare NotAnXid S0 m h = came S0 Yes 0 h refl refl
onto_row Prepare NotAnXid (S5 how) m h = absurd (none_ended how h)
onto_row Prepare NotAnXid _ m h = absurd (cc)
onto_row Prepare Protocol S0 m h = absurd (cc)
onto_row Prepare Protocol S2 m h = absurd (cc)
onto_row Prepare Protocol t m h = came t Yes 0 h refl refl
onto_row Prepare a t m h = absurd (none_there t h)
onto_row Commit Success S0 m h = came S3 Yes 0 h refl refl
onto_row Commit Success (S5 how) m h = absurd (none_ended how h)
onto_row Commit Success _ m h = absurd (cc)
onto_row Commit Retry S3 m h = came S3 Yes 1 h refl refl
onto_row Commit Retry (S5 how) m h = absurd (none_ended how h)
onto_row Commit Retry _ m h = absurd (cc)
onto_row Commit (Heuristic how) (S5 t) m h = ended_so Commit how t m h refl refl
onto_row Commit (Heuristic how) _ m h = absurd (cc)
onto_row Commit NotAnXid S0 m h = came S0 Yes 0 h refl refl
onto_row Commit NotAnXid (S5 how) m h = absurd (none_ended how h)
onto_row Commit NotAnXid _ m h = absurd (cc)
onto_row Commit Protocol S0 m h = absurd (cc)
onto_row Commit Protocol S3 m h = absurd (cc)
onto_row Commit Protocol (S5 how) m h = absurd (none_ended how h)
onto_row Commit Protocol t m h = came t Yes 0 h refl refl
onto_row Commit a t m h = absurd (none_there t h)
onto_row OnePhase Success S0 m h = came S2 Yes 0 h refl refl
onto_row OnePhase Success (S5 how) m h = absurd (none_ended how h)
onto_row OnePhase Success _ m h = absurd (cc)
onto_row OnePhase (RolledBack code) S0 m h = came S2 (No code) 0 h refl refl
onto_row OnePhase (RolledBack code) (S5 how) m h = absurd (none_ended how h)
onto_row OnePhase (RolledBack code) _ m h = absurd (cc)
onto_row OnePhase (Heuristic how) (S5 t) m h = ended_so OnePhase how t m h refl refl
onto_row OnePhase (Heuristic how) _ m h = absurd (cc)
onto_row OnePhase NotAnXid S0 m h = came S0 Yes 0 h refl refl
onto_row OnePhase NotAnXid (S5 how) m h = absurd (none_ended how h)
onto_row OnePhase NotAnXid _ m h = absurd (cc)
onto_row OnePhase Protocol S0 m h = absurd (cc)
onto_row OnePhase Protocol S2 m h = absurd (cc)
onto_row OnePhase Protocol (S5 how) m h = absurd (none_ended how h)
onto_row OnePhase Protocol t m h = came t Yes 0 h refl refl
onto_row OnePhase a t m h = absurd (none_there t h)
onto_row Rollback Success S0 m h = rolled_back m (or_cases _ _ h)
onto_row Rollback Success (S5 how) m h = absurd (none_ended how h)
onto_row Rollback Success _ m h = absurd (cc)
onto_row Rollback (RolledBack Rb.Rollback) S0 m h = came S4 Yes 0 h refl refl
onto_row Rollback (RolledBack Rb.Rollback) (S5 how) m h = absurd (none_ended how h)
onto_row Rollback (RolledBack Rb.Rollback) _ m h = absurd (cc)
onto_row Rollback (Heuristic how) (S5 t) m h = ended_so Rollback how t m h refl refl
onto_row Rollback (Heuristic how) _ m h = absurd (cc)
onto_row Rollback NotAnXid S0 m h = came S0 Yes 0 h refl refl
onto_row Rollback NotAnXid (S5 how) m h = absurd (none_ended how h)
onto_row Rollback NotAnXid _ m h = absurd (cc)
onto_row Rollback Protocol S0 m h = absurd (cc)
onto_row Rollback Protocol S2 m h = absurd (cc)
onto_row Rollback Protocol S3 m h = absurd (cc)
onto_row Rollback Protocol S4 m h = absurd (cc)
onto_row Rollback Protocol (S5 how) m h = absurd (none_ended how h)
onto_row Rollback Protocol t m h = came t Yes 0 h refl refl
onto_row Rollback a t m h = absurd (none_there t h)
onto_row Forget Success S0 m h = let e = which_end m.s5 h in came (S5 e.0) Yes 0 e.1 refl refl
onto_row Forget Success (S5 how) m h = absurd (none_ended how h)
onto_row Forget Success _ m h = absurd (cc)
onto_row Forget NotAnXid S0 m h = came S0 Yes 0 h refl refl
onto_row Forget NotAnXid (S5 how) m h = absurd (none_ended how h)
onto_row Forget NotAnXid _ m h = absurd (cc)
onto_row Forget Protocol S0 m h = absurd (cc)
onto_row Forget Protocol (S5 how) m h = absurd (none_ended how h)
onto_row Forget Protocol t m h = came t Yes 0 h refl refl
onto_row Forget a t m h = absurd (none_there t h)
