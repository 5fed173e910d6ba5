-- How the standing of a branch may change, and what the table says of it.
use Rattle.std.proofs.Common.{◌≡◌, ℕ, zero, suc, true, false, refl, ◌⊎◌}
use mathlib.Core.Logic.{◌⊎◌.inl, ◌⊎◌.inr}
use Rattle.xa_model.specs.Trace.{Branch, Kind, Kind.Start, Kind.Join, Kind.End, Kind.Prepare, Kind.Commit, Kind.OnePhase, Kind.Rollback, Kind.Forget, How, Trace, Vote}
use Rattle.xa_base.specs.declared.vote.Vote.TheVariants as Votes
use Rattle.xa_base.specs.StateTable.{state_of, answer, moved, broken}
use Rattle.xa_base.specs.declared.state.Standing.{Standing}
use Rattle.xa_base.specs.declared.state.Standing.TheVariants.{Unstarted, Active, Idle, Prepared, RollbackOnly, Completed, Committed, RolledBack, Lost, ReadOnly, Forgotten}
use Rattle.xa_model.specs.Facts.{started, ever, had_row, recorded, handed_over}
use Rattle.xa_model.proofs.Invariant.{Closed, IsAtRest, IsEnded, IsGood, IsHeuristic, HasBegun}

abbrev pub CanRollBack : Standing → Type 0
CanRollBack Idle = Unit
CanRollBack Prepared = Unit
CanRollBack RollbackOnly = Unit
CanRollBack _ = ⊥

-- a change of standing, with why it may come
pub data Move (tr : Trace) (b : Branch) : Standing → Standing → Type 0 where
  Stays : (f : Standing) → Move tr b f f
  Starts : started tr b ≡ true → Move tr b Unstarted Active
  Ends : Move tr b Active Idle
  Fails : Move tr b Active RollbackOnly
  Prepares : Move tr b Idle Prepared
  Only_reads : Move tr b Idle ReadOnly
  Refuses : Move tr b Idle RolledBack
  In_one_phase : handed_over tr b.gtrid ≡ true → Move tr b Idle Committed
  Commits : had_row tr b.gtrid ≡ true → Move tr b Prepared Committed
  Rolls_back : (f : Standing) → CanRollBack f → Closed tr b.gtrid → (started tr b ≡ true → ever tr b.gtrid ≡ true → IsAtRest f) → Move tr b f RolledBack
  Completes : (how : How) → Move tr b Prepared (Completed how)
  Forgets : (how : How) → recorded tr b ≡ true → Move tr b (Completed how) (Forgotten how)
  Loses_active : Move tr b Active Lost
  Loses_idle : Move tr b Idle Lost
  Loses_rollback_only : Move tr b RollbackOnly Lost

-- ** a call that was taken

prepare_move : (tr : Trace) (b : Branch) (v : Vote) (n : ℕ) → Move tr b Idle (moved Idle Prepare (answer Prepare (state_of Idle) v n))
prepare_move tr b Votes.Yes n = Prepares
prepare_move tr b Votes.ReadOnly n = Only_reads
prepare_move tr b (Votes.No c) n = Refuses

one_phase_move : (tr : Trace) (b : Branch) (v : Vote) (n : ℕ) → handed_over tr b.gtrid ≡ true
    → Move tr b Idle (moved Idle OnePhase (answer OnePhase (state_of Idle) v n))
one_phase_move tr b Votes.Yes n h = In_one_phase h
one_phase_move tr b Votes.ReadOnly n h = In_one_phase h
one_phase_move tr b (Votes.No c) n h = Refuses

commit_move : (tr : Trace) (b : Branch) (v : Vote) (n : ℕ) → had_row tr b.gtrid ≡ true
    → Move tr b Prepared (moved Prepared Commit (answer Commit (state_of Prepared) v n))
commit_move tr b v zero h = Commits h
commit_move tr b v (suc n) h = Stays Prepared

-- what the facts of a waiting call say at a standing
abbrev pub TakenFact : Trace → Kind → Branch → Standing → Type 0
TakenFact tr Start b f = (started tr b ≡ true) × (f ≡ Unstarted)
TakenFact tr Join b f = Unit
TakenFact tr (End fail) b f = Unit
TakenFact tr Prepare b f = Unit
TakenFact tr OnePhase b f = handed_over tr b.gtrid ≡ true
TakenFact tr Commit b f = had_row tr b.gtrid ≡ true
TakenFact tr Rollback b f = Closed tr b.gtrid × (started tr b ≡ true → ever tr b.gtrid ≡ true → IsAtRest f)
TakenFact tr Forget b f = recorded tr b ≡ true

pub taken_move : (tr : Trace) (b : Branch) (f : Standing) (k : Kind) (v : Vote) (n : ℕ) → TakenFact tr k b f
    → Move tr b f (moved f k (answer k (state_of f) v n))
taken_move tr b Unstarted Start v n h = Starts h.0
taken_move tr b Active Start v n h = cc (h.1)
taken_move tr b Idle Start v n h = cc (h.1)
taken_move tr b Prepared Start v n h = cc (h.1)
taken_move tr b RollbackOnly Start v n h = cc (h.1)
taken_move tr b (Completed how) Start v n h = cc (h.1)
taken_move tr b Committed Start v n h = cc (h.1)
taken_move tr b RolledBack Start v n h = cc (h.1)
taken_move tr b Lost Start v n h = cc (h.1)
taken_move tr b ReadOnly Start v n h = cc (h.1)
taken_move tr b (Forgotten how) Start v n h = cc (h.1)
taken_move tr b Active (End true) v n h = Fails
taken_move tr b Active (End false) v n h = Ends
taken_move tr b Idle Prepare v n h = prepare_move tr b v n
taken_move tr b Idle OnePhase v n h = one_phase_move tr b v n h
taken_move tr b Idle Rollback v n h = Rolls_back Idle tt h.0 h.1
taken_move tr b Prepared Commit v n h = commit_move tr b v n h
taken_move tr b Prepared Rollback v n h = Rolls_back Prepared tt h.0 h.1
taken_move tr b RollbackOnly Rollback v n h = Rolls_back RollbackOnly tt h.0 h.1
taken_move tr b (Completed how) Forget v n h = Forgets how h
taken_move tr b f k v n h = Stays f

pub broken_move : (tr : Trace) (b : Branch) (f : Standing) → Move tr b f (broken f)
broken_move tr b Active = Loses_active
broken_move tr b Idle = Loses_idle
broken_move tr b RollbackOnly = Loses_rollback_only
broken_move tr b f = Stays f

-- ** what a change of standing keeps

pub begun_moves : (tr : Trace) (b : Branch) (f g : Standing) → Move tr b f g → HasBegun f → HasBegun g
begun_moves tr b f g (Stays x) h = h
begun_moves tr b f g (Starts s) h = tt
begun_moves tr b f g _ h = tt

pub ended_moves : (tr : Trace) (b : Branch) (f g : Standing) → Move tr b f g → IsEnded f → g ≡ f
ended_moves tr b f g (Stays x) h = refl
ended_moves tr b f g (Starts s) h = absurd h
ended_moves tr b f g Ends h = absurd h
ended_moves tr b f g Fails h = absurd h
ended_moves tr b f g Prepares h = absurd h
ended_moves tr b f g Only_reads h = absurd h
ended_moves tr b f g Refuses h = absurd h
ended_moves tr b f g (In_one_phase p) h = absurd h
ended_moves tr b f g (Commits p) h = absurd h
ended_moves tr b f g (Rolls_back Idle c p q) h = absurd h
ended_moves tr b f g (Rolls_back Prepared c p q) h = absurd h
ended_moves tr b f g (Rolls_back RollbackOnly c p q) h = absurd h
ended_moves tr b f g (Rolls_back _ c p q) h = absurd c
ended_moves tr b f g (Completes how) h = absurd h
ended_moves tr b f g (Forgets how r) h = absurd h
ended_moves tr b f g Loses_active h = absurd h
ended_moves tr b f g Loses_idle h = absurd h
ended_moves tr b f g Loses_rollback_only h = absurd h

no_roll_back_at_rest : (f : Standing) → CanRollBack f → IsAtRest f → ⊥
no_roll_back_at_rest Idle c h = h
no_roll_back_at_rest Prepared c h = h
no_roll_back_at_rest RollbackOnly c h = h
no_roll_back_at_rest _ c h = c

pub heuristic_moves : (tr : Trace) (b : Branch) (how : How) (f g : Standing) → Move tr b f g → IsHeuristic how f → IsHeuristic how g
heuristic_moves tr b how f g (Stays x) h = h
heuristic_moves tr b how f g (Forgets k r) h = h
heuristic_moves tr b how f g (Rolls_back Idle c p q) h = absurd h
heuristic_moves tr b how f g (Rolls_back Prepared c p q) h = absurd h
heuristic_moves tr b how f g (Rolls_back RollbackOnly c p q) h = absurd h
heuristic_moves tr b how f g (Rolls_back _ c p q) h = absurd c
heuristic_moves tr b how f g _ h = absurd h

pub rest_moves : (tr : Trace) (b : Branch) (f g : Standing) → Move tr b f g → IsAtRest f → IsAtRest g
rest_moves tr b f g (Stays x) h = h
rest_moves tr b f g (Forgets how r) h = tt
rest_moves tr b f g (Rolls_back x c p q) h = tt
rest_moves tr b f g (Starts s) h = absurd h
rest_moves tr b f g Ends h = absurd h
rest_moves tr b f g Fails h = absurd h
rest_moves tr b f g Prepares h = absurd h
rest_moves tr b f g _ h = tt

-- a good branch stays good, unless it is rolled back, which needs a closed transaction that never had a row
pub good_moves : (tr : Trace) (b : Branch) (f g : Standing) → Move tr b f g → started tr b ≡ true
    → (Closed tr b.gtrid → ever tr b.gtrid ≡ true) → IsGood f → IsGood g
good_moves tr b f g (Stays x) s e h = h
good_moves tr b f g (Starts p) s e h = absurd h
good_moves tr b f g Ends s e h = absurd h
good_moves tr b f g Fails s e h = absurd h
good_moves tr b f g Prepares s e h = tt
good_moves tr b f g Only_reads s e h = tt
good_moves tr b f g Refuses s e h = absurd h
good_moves tr b f g (In_one_phase p) s e h = tt
good_moves tr b f g (Commits p) s e h = tt
good_moves tr b f g (Rolls_back x c p q) s e h = absurd (no_roll_back_at_rest x c (q s (e p)))
good_moves tr b f g (Completes how) s e h = tt
good_moves tr b f g (Forgets how r) s e h = tt
good_moves tr b f g Loses_active s e h = absurd h
good_moves tr b f g Loses_idle s e h = absurd h
good_moves tr b f g Loses_rollback_only s e h = absurd h

pub unstarted_moves : (tr : Trace) (b : Branch) (f g : Standing) → Move tr b f g → started tr b ≡ false → f ≡ Unstarted → g ≡ Unstarted
unstarted_moves tr b f g (Stays x) s e = e
unstarted_moves tr b f g (Starts p) s e = cc
unstarted_moves tr b f g (Rolls_back Idle c p q) s e = cc
unstarted_moves tr b f g (Rolls_back Prepared c p q) s e = cc
unstarted_moves tr b f g (Rolls_back RollbackOnly c p q) s e = cc
unstarted_moves tr b f g (Rolls_back _ c p q) s e = absurd c
unstarted_moves tr b f g _ s e = cc

pub committed_moves : (tr : Trace) (b : Branch) (f g : Standing) → Move tr b f g → g ≡ Committed
    → (f ≡ Committed) ⊎ ((had_row tr b.gtrid ≡ true) ⊎ (handed_over tr b.gtrid ≡ true))
committed_moves tr b f g (Stays x) e = inl e
committed_moves tr b f g (In_one_phase p) e = inr (inr p)
committed_moves tr b f g (Commits p) e = inr (inl p)
committed_moves tr b f g _ e = cc

pub forgotten_moves : (tr : Trace) (b : Branch) (f g : Standing) (how : How) → Move tr b f g → g ≡ Forgotten how
    → (f ≡ Forgotten how) ⊎ ((f ≡ Completed how) × (recorded tr b ≡ true))
forgotten_moves tr b f g how (Stays x) e = inl e
forgotten_moves tr b f g how (Forgets h p) e = inr (cc, p)
forgotten_moves tr b f g how _ e = cc
