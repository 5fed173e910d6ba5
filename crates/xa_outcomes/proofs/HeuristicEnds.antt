-- An end by a database that an answer told stays.
use Rattle.std.proofs.Common.{◌≡◌, ◌⊎◌, inl, inr, ℕ, zero, suc, Bool, true, false, Option, Some, None, refl, sym, ap, subst}
use Rattle.std.proofs.lemmas.Bool.{true≢false}
use Rattle.std.specs.Prelude.{if◌then◌else◌}
use Rattle.xa_base.proofs.BranchKeys.{branch_eq-true}
use Rattle.xa_base.specs.Branch.{branch_eq}
use Rattle.xa_base.specs.StateTable.{Kind, Kind.Commit, Kind.End, Kind.Forget, Kind.Join, Kind.OnePhase, Kind.Prepare, Kind.Rollback, Kind.Start, State, State.S0, State.S1, State.S2, State.S3, State.S4, State.S5, answer, asks_of, broken, moved, state_of}
use Rattle.xa_base.specs.declared.answer.Answer.TheVariants.{Ret}
use Rattle.xa_base.specs.declared.call.Call.TheVariants as Calls
use Rattle.xa_base.specs.declared.code.Code.TheVariants as Codes
use Rattle.xa_base.specs.declared.state.Standing.TheVariants.{Active, Committed, Completed, Forgotten, Idle, Lost, Prepared, ReadOnly, RollbackOnly, RolledBack, Unstarted}
use Rattle.xa_base.specs.declared.state.Standing.{Standing}
use Rattle.xa_base.specs.declared.step.Part.TheVariants as Part
use Rattle.xa_base.specs.declared.vote.Vote.TheVariants as Votes
use Rattle.xa_model.proofs.Invariant.Moves.{Move, Move.Forgets, Move.Rolls_back, Move.Stays}
use Rattle.xa_model.proofs.Invariant.Now.{step_move}
use Rattle.xa_model.proofs.Invariant.Preservation.{always}
use Rattle.xa_model.specs.Facts.Standings.{moved_by}
use Rattle.xa_model.specs.Facts.{retries, vote, standing}
use Rattle.xa_model.specs.Protocol.{AllRight, SoundAnswer, call_code}
use Rattle.xa_model.specs.Trace.{Answer, Branch, Call, Happening, Happening.Crashed, Happening.Heard, Happening.Took, Code, How, Line, Origin, Trace, Trace.Then, Vote}
use Rattle.xa_monitor.specs.Across.{continued_by}
use Rattle.xa_monitor.specs.Seen.{IsHistory, IsHistory.Does, IsHistory.Hears, IsHistory.Loses, IsHistory.LosesAnswer, IsHistory.Starts, Seen, Seen.Answered, break_of}
use Rattle.xa_outcomes.proofs.Lasting.{on_alone, right_alone, some_lasts}
use Rattle.xa_outcomes.proofs.OneHistory.{gone_so}
use Rattle.xa_outcomes.proofs.Reached.{reached}
use Rattle.xa_outcomes.specs.Outcomes.{HeuristicEndsStay, IsAskedOf, IsEndedAs, TellsHeuristic}

ended_moves : (tr : Trace) (b : Branch) (how : How) (f g : Standing) → Move tr b f g → IsEndedAs how f → IsEndedAs how g
ended_moves tr b how f g (Stays x) h = h
ended_moves tr b how f g (Forgets x r) h = h
ended_moves tr b how f g (Rolls_back (Completed x) c p rest) h = absurd c
ended_moves tr b how f g (Rolls_back (Forgotten x) c p rest) h = absurd c
ended_moves tr b how f g (Rolls_back _ c p rest) h = absurd h
ended_moves tr b how f g _ h = absurd h

ended_step : (b : Branch) (how : How) (tr : Trace) (e : Happening) → AllRight (Then tr e) → IsEndedAs how (standing tr b)
    → IsEndedAs how (standing (Then tr e) b)
ended_step b how tr e right h =
    ended_moves tr b how (standing tr b) (standing (Then tr e) b) (step_move tr e b (always tr right.0) right.1) h

-- only a branch in that state answers so
by_state : (k : Kind) (st : State) (v : Vote) (n : ℕ) (how : How) (code : Code) → code ≡ answer k st v n → code ≡ Codes.Heuristic how → st ≡ S5 how
by_state Commit (S5 h) v n how code e is = let same : h ≡ how = cc in ap S5 same
by_state OnePhase (S5 h) v n how code e is = let same : h ≡ how = cc in ap S5 same
by_state Rollback (S5 h) v n how code e is = let same : h ≡ how = cc in ap S5 same
by_state Start (S5 h) v n how code e is = absurd (cc)
by_state Join (S5 h) v n how code e is = absurd (cc)
by_state (End fail) (S5 h) v n how code e is = absurd (cc)
by_state Prepare (S5 h) v n how code e is = absurd (cc)
by_state Forget (S5 h) v n how code e is = absurd (cc)
by_state Start S0 v n how code e is = absurd (cc)
by_state Start S1 v n how code e is = absurd (cc)
by_state Start S2 v n how code e is = absurd (cc)
by_state Start S3 v n how code e is = absurd (cc)
by_state Start S4 v n how code e is = absurd (cc)
by_state Join S0 v n how code e is = absurd (cc)
by_state Join S1 v n how code e is = absurd (cc)
by_state Join S2 v n how code e is = absurd (cc)
by_state Join S3 v n how code e is = absurd (cc)
by_state Join S4 v n how code e is = absurd (cc)
by_state (End true) S0 v n how code e is = absurd (cc)
by_state (End true) S1 v n how code e is = absurd (cc)
by_state (End true) S2 v n how code e is = absurd (cc)
by_state (End true) S3 v n how code e is = absurd (cc)
by_state (End true) S4 v n how code e is = absurd (cc)
by_state (End false) S0 v n how code e is = absurd (cc)
by_state (End false) S1 v n how code e is = absurd (cc)
by_state (End false) S2 v n how code e is = absurd (cc)
by_state (End false) S3 v n how code e is = absurd (cc)
by_state (End false) S4 v n how code e is = absurd (cc)
by_state Prepare S0 v n how code e is = absurd (cc)
by_state Prepare S1 v n how code e is = absurd (cc)
by_state Prepare S2 Votes.Yes n how code e is = absurd (cc)
by_state Prepare S2 Votes.ReadOnly n how code e is = absurd (cc)
by_state Prepare S2 (Votes.No c) n how code e is = absurd (cc)
by_state Prepare S3 v n how code e is = absurd (cc)
by_state Prepare S4 v n how code e is = absurd (cc)
by_state Commit S0 v n how code e is = absurd (cc)
by_state Commit S1 v n how code e is = absurd (cc)
by_state Commit S2 v n how code e is = absurd (cc)
by_state Commit S3 v zero how code e is = absurd (cc)
by_state Commit S3 v (suc n) how code e is = absurd (cc)
by_state Commit S4 v n how code e is = absurd (cc)
by_state OnePhase S0 v n how code e is = absurd (cc)
by_state OnePhase S1 v n how code e is = absurd (cc)
by_state OnePhase S2 Votes.Yes n how code e is = absurd (cc)
by_state OnePhase S2 Votes.ReadOnly n how code e is = absurd (cc)
by_state OnePhase S2 (Votes.No c) n how code e is = absurd (cc)
by_state OnePhase S3 v n how code e is = absurd (cc)
by_state OnePhase S4 v n how code e is = absurd (cc)
by_state Rollback S0 v n how code e is = absurd (cc)
by_state Rollback S1 v n how code e is = absurd (cc)
by_state Rollback S2 v n how code e is = absurd (cc)
by_state Rollback S3 v n how code e is = absurd (cc)
by_state Rollback S4 v n how code e is = absurd (cc)
by_state Forget S0 v n how code e is = absurd (cc)
by_state Forget S1 v n how code e is = absurd (cc)
by_state Forget S2 v n how code e is = absurd (cc)
by_state Forget S3 v n how code e is = absurd (cc)
by_state Forget S4 v n how code e is = absurd (cc)

moved_ended : (k : Kind) (h how : How) (code : Code) → h ≡ how → IsEndedAs how (moved (Completed h) k code)
moved_ended Start h how code same = same
moved_ended Join h how code same = same
moved_ended (End fail) h how code same = same
moved_ended Prepare h how code same = same
moved_ended Commit h how code same = same
moved_ended OnePhase h how code same = same
moved_ended Rollback h how code same = same
moved_ended Forget h how code same = same

-- what answers so was ended so
heuristic_state : (k : Kind) (s : Standing) (how : How) (code : Code) → state_of s ≡ S5 how → IsEndedAs how (moved s k code)
heuristic_state k (Completed h) how code e = moved_ended k h how code (let same : h ≡ how = cc in same)
heuristic_state k Unstarted how code e = absurd (cc)
heuristic_state k Active how code e = absurd (cc)
heuristic_state k Idle how code e = absurd (cc)
heuristic_state k Prepared how code e = absurd (cc)
heuristic_state k RollbackOnly how code e = absurd (cc)
heuristic_state k Committed how code e = absurd (cc)
heuristic_state k RolledBack how code e = absurd (cc)
heuristic_state k Lost how code e = absurd (cc)
heuristic_state k ReadOnly how code e = absurd (cc)
heuristic_state k (Forgotten h) how code e = absurd (cc)

-- the answer is so, to a call on the branch
record IsHeuristicAnswer (b : Branch) (how : How) (c : Call) (a : Answer) : Type 0 where
  of : IsAskedOf (asks_of c) b
  answer_is : a ≡ Ret (Codes.Heuristic how)

heuristic_now : (b : Branch) (how : How) (seen : Seen) (l : Line) (c : Call) (a : Answer) → TellsHeuristic b how (Answered seen l c a)
    → IsHeuristicAnswer b how c a ⊎ TellsHeuristic b how seen
heuristic_now b how seen l c (Ret (Codes.Heuristic h)) (inl t) = inl (record { of = t.0; answer_is = ap (λ z. Ret (Codes.Heuristic z)) t.1 })
heuristic_now b how seen l c (Ret (Codes.Heuristic h)) (inr t) = inr t
heuristic_now b how seen l c _ t = inr t

took_heuristic : (b : Branch) (how : How) (tr : Trace) (l : Line) (c : Call) → IsAskedOf (asks_of c) b → SoundAnswer tr l c (Ret (Codes.Heuristic how))
    → IsEndedAs how (standing (Then tr (Took l c (Ret (Codes.Heuristic how)))) b)
took_heuristic b how tr l c of sound = by (asks_of c) refl of (so c of sound)
  where
    so : (c : Call) → IsAskedOf (asks_of c) b → SoundAnswer tr l c (Ret (Codes.Heuristic how)) → Codes.Heuristic how ≡ call_code tr (asks_of c)
    so (Calls.Recover n x y) of sound = absurd of
    so Calls.OpenRm of sound = absurd of
    so Calls.CloseRm of sound = absurd of
    so (Calls.Start x j) of sound = let e : (let a : Answer = Ret (Codes.Heuristic how) in a) ≡ Ret (call_code tr (asks_of (Calls.Start x j))) = sound in cc
    so (Calls.End x j) of sound = let e : (let a : Answer = Ret (Codes.Heuristic how) in a) ≡ Ret (call_code tr (asks_of (Calls.End x j))) = sound in cc
    so (Calls.Prepare x) of sound = let e : (let a : Answer = Ret (Codes.Heuristic how) in a) ≡ Ret (call_code tr (asks_of (Calls.Prepare x))) = sound in cc
    so (Calls.Commit x j) of sound = let e : (let a : Answer = Ret (Codes.Heuristic how) in a) ≡ Ret (call_code tr (asks_of (Calls.Commit x j))) = sound in cc
    so (Calls.Rollback x) of sound = let e : (let a : Answer = Ret (Codes.Heuristic how) in a) ≡ Ret (call_code tr (asks_of (Calls.Rollback x))) = sound in cc
    so (Calls.Forget x) of sound = let e : (let a : Answer = Ret (Codes.Heuristic how) in a) ≡ Ret (call_code tr (asks_of (Calls.Forget x))) = sound in cc

    by : (q : Option (Kind × Branch)) → asks_of c ≡ q → IsAskedOf q b → Codes.Heuristic how ≡ call_code tr q
        → IsEndedAs how (moved_by q (Codes.Heuristic how) b (standing tr b))
    by None is of e = absurd of
    by (Some (k, d)) is of e =
        let at : Codes.Heuristic how ≡ answer k (state_of (standing tr b)) (vote tr b) (retries tr b) =
        subst (λ z. Codes.Heuristic how ≡ answer k (state_of (standing tr z)) (vote tr z) (retries tr z)) (branch_eq-true d b of) e in
        on (branch_eq d b) of (heuristic_state k (standing tr b) how (Codes.Heuristic how)
        (by_state k (state_of (standing tr b)) (vote tr b) (retries tr b) how (Codes.Heuristic how) at refl))
      where
        on : (t : Bool) → t ≡ true → IsEndedAs how (moved (standing tr b) k (Codes.Heuristic how))
            → IsEndedAs how (if t then moved (standing tr b) k (Codes.Heuristic how) else standing tr b)
        on true e h = h
        on false e h = absurd (true≢false (sym e))

module _ (p : Trace) (b : Branch) (how : How) where
  abbrev Ended : Trace → Type 0
  Ended tr = IsEndedAs how (standing tr b)

  heard_heuristic : (at : Trace) (l : Line) (c : Call) (a : Answer) → AllRight (Then (Then at (Took l c a)) (Heard l c a)) → IsHeuristicAnswer b how c a
      → Ended (Then (Then at (Took l c a)) (Heard l c a))
  heard_heuristic at l c a right x =
      ended_step b how (Then at (Took l c a)) (Heard l c a) right
      (subst (λ z. Ended (Then at (Took l c z))) (sym x.answer_is)
      (took_heuristic b how at l c x.of (subst (λ z. SoundAnswer at l c z) x.answer_is right.0.1.1)))

  ended_so : (o : Origin) (seen : Seen) (told : Trace) → IsHistory o seen told → AllRight (continued_by p told) → TellsHeuristic b how seen
      → Ended (continued_by p told)
  ended_so o _ _ (Starts held) right t = absurd t
  ended_so o _ _ (Does seen tr e i) right t = ended_step b how (continued_by p tr) e right (ended_so o seen tr i right.0 t)
  ended_so o _ _ (Hears seen tr now l c a i alone) right t =
      by (ended_so o seen tr i (right_alone p tr now alone right.0.0)) (heuristic_now b how seen l c a t)
    where
      by : (TellsHeuristic b how seen → Ended (continued_by p tr)) → IsHeuristicAnswer b how c a ⊎ TellsHeuristic b how seen
          → Ended (Then (Then (continued_by p now) (Took l c a)) (Heard l c a))
      by rest (inl x) = heard_heuristic (continued_by p now) l c a right x
      by rest (inr earlier) =
          ended_step b how (Then (continued_by p now) (Took l c a)) (Heard l c a) right
          (ended_step b how (continued_by p now) (Took l c a) right.0 (on_alone Ended (ended_step b how) p tr now alone right.0.0 (rest earlier)))
  ended_so o _ _ (Loses seen tr l c i) right t = ended_step b how (continued_by p tr) (break_of l) right (ended_so o seen tr i right.0 t)
  ended_so o _ _ (LosesAnswer seen tr now l c a i alone) right t =
      ended_step b how (Then (continued_by p now) (Took l c a)) (break_of l) right
      (ended_step b how (continued_by p now) (Took l c a) right.0
      (on_alone Ended (ended_step b how) p tr now alone right.0.0 (ended_so o seen tr i (right_alone p tr now alone right.0.0) t)))

whole_ended : (how : How) (s : Standing) → IsEndedAs how (broken s) → IsEndedAs how s
whole_ended how Active h = absurd h
whole_ended how Idle h = absurd h
whole_ended how RollbackOnly h = absurd h
whole_ended how s h = h

pub ends_stay : HeuristicEndsStay
ends_stay log f after b how was =
    let m = reached log f after in
    whole_ended how (f b) (subst (IsEndedAs how) (m.there b)
    (ended_step b how m.whole (Crashed Part.Manager) (gone_so log f after m)
    (some_lasts (TellsHeuristic b how) (λ tr. IsEndedAs how (standing tr b)) (ended_step b how)
    (λ p o seen told i right t. ended_so p b how o seen told i right t) log f after m.whole m.parts m.right was)))
