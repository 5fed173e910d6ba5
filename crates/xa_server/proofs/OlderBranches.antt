-- A transaction of an earlier process in the history of a later one: what its branches do goes by its own row, its own records and its own
-- calls, wherever the branches of other transactions stand.
use Rattle.std.proofs.Common.{◌≡◌, ◌<◌, ◌⊎◌, inl, inr, ℕ, zero, suc, List, [], ◌∷◌, length, Bool, true, false, ◌||◌, refl, sym, ◌∙◌, subst, arith}
use Rattle.std.proofs.lemmas.Bool.{and_parts, false_from_ne_true, or_cases}
use Rattle.std.specs.Prelude.{if◌then◌else◌, Option, Some, None, slice_get}
use Rattle.xa_base.proofs.BranchKeys.{branch_eq-true}
use Rattle.xa_base.proofs.Lists.{get_none}
use Rattle.xa_base.specs.Branch.{branch_eq}
use Rattle.xa_base.specs.StateTable.{after_commit, answer, broken, completed, moved, on, state_of}
use Rattle.xa_base.specs.declared.answer.Answer.TheVariants.{Page, Ret}
use Rattle.xa_base.specs.declared.call.Call.TheVariants as Calls
use Rattle.xa_base.specs.declared.code.Code.TheVariants as Codes
use Rattle.xa_base.specs.declared.state.Standing.{Standing}
use Rattle.xa_base.specs.declared.state.Standing.TheVariants.{Active, Committed, Completed, Forgotten, Idle, Lost, Prepared, RollbackOnly, RolledBack, Unstarted}
use Rattle.xa_base.specs.declared.step.Outcome.TheVariants as Outcome
use Rattle.xa_model.proofs.Invariant.{AnswerFact, DoubtFact, HeuristicFact, Inv, IsHeuristic, IsOlder}
use Rattle.xa_model.proofs.Invariant.Grows.{told_new}
use Rattle.xa_model.proofs.Invariant.Lines.{NewTaken, NewTaken.Now, NewTaken.Was, taken_back}
use Rattle.xa_model.proofs.Invariant.Moves.{Move, Move.Ends, Move.Fails, Move.Forgets, Move.Loses_active, Move.Loses_idle, Move.Loses_rollback_only, Move.Only_reads, Move.Prepares, Move.Refuses, Move.Rolls_back, Move.Starts, Move.Stays, committed_moves, unstarted_moves}
use Rattle.xa_model.proofs.Invariant.NewFacts.{answer_new}
use Rattle.xa_model.proofs.Invariant.Now.{code_of, front_waits, older_closed, older_not_started, step_move}
use Rattle.xa_model.proofs.Invariant.OneMore.{not_handed_kept}
use Rattle.xa_model.proofs.Invariant.Preservation.{run_always}
use Rattle.xa_model.proofs.Invariant.Records.{NewRecord, NewRecord.By_answer, NewRecord.By_doubt_too, NewRecord.Had_record, has_of, recorded_how, recorded_new}
use Rattle.xa_model.proofs.Invariant.RowLists.{each_is, rows_made}
use Rattle.xa_model.proofs.Invariant.Rows.{LeftRow, LeftRow.By_done, LeftRow.By_doubt, NewRow, NewRow.By_decision, NewRow.By_restart, NewRow.Had, RowNow, RowNow.Before, RowNow.Decided_now, RowNow.Restarted_now, row_back, row_lost, rowed_new, settled_lately_settled}
use Rattle.xa_model.specs.Facts.{Change.AddRecord, Change.DropRows, acknowledges, adds_row, breaks, doubt, each, each_of_some, fault_change, had_row, handed_over, has_branch, has_gtrid, has_record, has_row, held_of, heard, heuristic_rows, is_settled, is_settled_lately, lists_row, live, next_call, origin, participants, participants_in, record_of, record_of_next, recorded, says_read_only, standing, started, taken, up, was_told}
use Rattle.xa_model.specs.Protocol.{IsRowSettled, IsRun, Right, RightDecision, RightDone, RightFault, RightRow}
use Rattle.xa_model.specs.Trace.{Answer, Branch, Call, Code, Fault, Fault.InDecide, Fault.InDone, Fault.InHear, Fault.InResolve, Fault.InRestart, Gtrid, Happening, Happening.CompletedAlone, Happening.Failed, Happening.Heard, Happening.Restarted, Happening.Took, How, Kind, Kind.Commit, Kind.End, Kind.Forget, Kind.Join, Kind.OnePhase, Kind.Prepare, Kind.Rollback, Kind.Start, Line, Origin, Recorded, Trace, Trace.From, Trace.Then, Vote, line_of}

-- ** standings

-- it waits for nothing: neither at work nor prepared
abbrev pub IsPast : Standing → Type 0
IsPast Active = ⊥
IsPast Idle = ⊥
IsPast RollbackOnly = ⊥
IsPast Prepared = ⊥
IsPast _ = Unit

-- it is neither at work nor undone
abbrev pub IsKept : Standing → Type 0
IsKept Active = ⊥
IsKept Idle = ⊥
IsKept RollbackOnly = ⊥
IsKept RolledBack = ⊥
IsKept Lost = ⊥
IsKept _ = Unit

-- its database ended it by itself, whether or not it knows that still
abbrev pub IsEndedAlone : Standing → Type 0
IsEndedAlone (Completed how) = Unit
IsEndedAlone (Forgotten how) = Unit
IsEndedAlone _ = ⊥

alone_past : (f : Standing) → IsEndedAlone f → IsPast f
alone_past (Completed how) h = tt
alone_past (Forgotten how) h = tt
alone_past _ h = absurd h

alone_moves : (tr : Trace) (b : Branch) (f g : Standing) → Move tr b f g → IsEndedAlone f → IsEndedAlone g
alone_moves tr b f g (Stays x) h = h
alone_moves tr b f g (Forgets how r) h = tt
alone_moves tr b f g (Rolls_back Idle c p q) h = absurd h
alone_moves tr b f g (Rolls_back Prepared c p q) h = absurd h
alone_moves tr b f g (Rolls_back RollbackOnly c p q) h = absurd h
alone_moves tr b f g (Rolls_back _ c p q) h = absurd c
alone_moves tr b f g _ h = absurd h

past_moves : (tr : Trace) (b : Branch) (f g : Standing) → Move tr b f g → started tr b ≡ false → IsPast f → IsPast g
past_moves tr b f g (Stays x) s h = h
past_moves tr b f g (Starts p) s h = cc
past_moves tr b f g Ends s h = absurd h
past_moves tr b f g Fails s h = absurd h
past_moves tr b f g Prepares s h = absurd h
past_moves tr b f g _ s h = tt

-- a branch without a row to lose is kept, unless it is rolled back where it was prepared
kept_moves : (tr : Trace) (b : Branch) (f g : Standing) → Move tr b f g → started tr b ≡ false → (f ≡ Prepared → g ≡ RolledBack → ⊥) → IsKept f → IsKept g
kept_moves tr b f g (Stays x) s never h = h
kept_moves tr b f g (Starts p) s never h = cc
kept_moves tr b f g Ends s never h = absurd h
kept_moves tr b f g Fails s never h = absurd h
kept_moves tr b f g Prepares s never h = absurd h
kept_moves tr b f g Only_reads s never h = absurd h
kept_moves tr b f g Refuses s never h = absurd h
kept_moves tr b f g (Rolls_back Idle c p q) s never h = absurd h
kept_moves tr b f g (Rolls_back Prepared c p q) s never h = never refl refl
kept_moves tr b f g (Rolls_back RollbackOnly c p q) s never h = absurd h
kept_moves tr b f g (Rolls_back _ c p q) s never h = absurd c
kept_moves tr b f g Loses_active s never h = absurd h
kept_moves tr b f g Loses_idle s never h = absurd h
kept_moves tr b f g Loses_rollback_only s never h = absurd h
kept_moves tr b f g _ s never h = tt

prepared_back : (tr : Trace) (b : Branch) (f g : Standing) → Move tr b f g → IsKept f → g ≡ Prepared → f ≡ Prepared
prepared_back tr b f g (Stays x) h e = e
prepared_back tr b f g Prepares h e = absurd h
prepared_back tr b f g _ h e = cc

past_or_prepared : (f : Standing) → IsKept f → IsPast f ⊎ (f ≡ Prepared)
past_or_prepared Active h = absurd h
past_or_prepared Idle h = absurd h
past_or_prepared RollbackOnly h = absurd h
past_or_prepared Prepared h = inr refl
past_or_prepared _ h = inl tt

heuristic_alone : (how : How) (f : Standing) → IsHeuristic how f → IsEndedAlone f
heuristic_alone how (Completed h) e = tt
heuristic_alone how (Forgotten h) e = tt
heuristic_alone how _ e = absurd e

-- ** a prepared branch is rolled back only where its transaction has no row

not_rolled : (a : Code) → after_commit a ≡ RolledBack → ⊥
not_rolled Codes.Success e = cc
not_rolled _ e = cc

rolled_if : (tr : Trace) (l : Line) (k : Kind) (c b : Branch) (a : Code) → Inv tr → next_call tr l ≡ Some (on k c) → (t : Bool) → branch_eq c b ≡ t
    → standing tr b ≡ Prepared → (if t then moved (standing tr b) k a else standing tr b) ≡ RolledBack → has_row tr b.gtrid ≡ false
rolled_if tr l k c b a inv w false s p e = cc
rolled_if tr l k c b a inv w true s p e = by k w (subst (λ f. moved f k a ≡ RolledBack) p e)
  where
    by : (k : Kind) → next_call tr l ≡ Some (on k c) → moved Prepared k a ≡ RolledBack → has_row tr b.gtrid ≡ false
    by Rollback w e =
        subst (λ (x : Branch). has_row tr x.gtrid ≡ false) (branch_eq-true c b s) (inv.waiting l Rollback c (front_waits tr l (on Rollback c) w)).no_row
    by Commit w e = absurd (not_rolled a e)
    by _ w e = absurd (cc)

ended_if : (t : Bool) (f : Standing) (how : How) → f ≡ Prepared → (if t then completed f how else f) ≡ RolledBack → ⊥
ended_if true f how p e = let x : Completed how ≡ RolledBack = subst (λ z. completed z how ≡ RolledBack) p e in cc
ended_if false f how p e = cc

broken_if : (t : Bool) (f : Standing) → f ≡ Prepared → (if t then broken f else f) ≡ RolledBack → ⊥
broken_if true f p e = let x : Prepared ≡ RolledBack = subst (λ z. broken z ≡ RolledBack) p e in cc
broken_if false f p e = cc

same_not : (f : Standing) → f ≡ Prepared → f ≡ RolledBack → ⊥
same_not f p e = cc

rolled_unrowed : (tr : Trace) (e : Happening) (b : Branch) → Inv tr → Right tr e → standing tr b ≡ Prepared → standing (Then tr e) b ≡ RolledBack
    → has_row tr b.gtrid ≡ false
rolled_unrowed tr (Took l (Calls.Start c false) (Ret a)) b inv r p e = rolled_if tr l Start c b a inv r.0 (branch_eq c b) refl p e
rolled_unrowed tr (Took l (Calls.Start c true) (Ret a)) b inv r p e = rolled_if tr l Join c b a inv r.0 (branch_eq c b) refl p e
rolled_unrowed tr (Took l (Calls.End c fail) (Ret a)) b inv r p e = rolled_if tr l (End fail) c b a inv r.0 (branch_eq c b) refl p e
rolled_unrowed tr (Took l (Calls.Prepare c) (Ret a)) b inv r p e = rolled_if tr l Prepare c b a inv r.0 (branch_eq c b) refl p e
rolled_unrowed tr (Took l (Calls.Commit c false) (Ret a)) b inv r p e = rolled_if tr l Commit c b a inv r.0 (branch_eq c b) refl p e
rolled_unrowed tr (Took l (Calls.Commit c true) (Ret a)) b inv r p e = rolled_if tr l OnePhase c b a inv r.0 (branch_eq c b) refl p e
rolled_unrowed tr (Took l (Calls.Rollback c) (Ret a)) b inv r p e = rolled_if tr l Rollback c b a inv r.0 (branch_eq c b) refl p e
rolled_unrowed tr (Took l (Calls.Forget c) (Ret a)) b inv r p e = rolled_if tr l Forget c b a inv r.0 (branch_eq c b) refl p e
rolled_unrowed tr (CompletedAlone c how) b inv r p e = absurd (ended_if (branch_eq c b) (standing tr b) how p e)
rolled_unrowed tr (Took l c (Page names)) b inv r p e = absurd (same_not (standing tr b) p e)
rolled_unrowed tr (Took l Calls.OpenRm (Ret a)) b inv r p e = absurd (same_not (standing tr b) p e)
rolled_unrowed tr (Took l Calls.CloseRm (Ret a)) b inv r p e = absurd (same_not (standing tr b) p e)
rolled_unrowed tr (Took l (Calls.Recover n x y) (Ret a)) b inv r p e = absurd (same_not (standing tr b) p e)
rolled_unrowed tr e b inv r p x = absurd (broken_if (breaks tr e (line_of b)) (standing tr b) p x)

-- ** what is acknowledged waits for nothing

retried : (v : Vote) (n : ℕ) → Codes.NotAnXid ≡ answer Commit (state_of Prepared) v n → ⊥
retried v zero e = cc
retried v (suc n) e = cc

unknown_past : (f : Standing) (v : Vote) (n : ℕ) → Codes.NotAnXid ≡ answer Commit (state_of f) v n → IsPast f
unknown_past Active v n e = cc
unknown_past Idle v n e = cc
unknown_past RollbackOnly v n e = cc
unknown_past Prepared v n e = retried v n e
unknown_past _ v n e = tt

took_past : (tr : Trace) (l : Line) (c : Call) (a : Answer) (b : Branch) → Inv tr → Right tr (Took l c a) → started tr b ≡ false
    → acknowledges b c a ≡ true → IsPast (standing (Then tr (Took l c a)) b)
took_past tr l (Calls.Commit d false) (Ret Codes.Success) b inv r new t =
    subst (λ x. IsPast (standing (Then tr (Took l (Calls.Commit d false) (Ret Codes.Success))) x)) (branch_eq-true d b t)
    (subst IsPast (sym (answer_new tr l (Calls.Commit d false) (Ret Codes.Success) inv r)) tt)
took_past tr l (Calls.Commit d false) (Ret Codes.NotAnXid) b inv r new t =
    past_moves tr b _ _ (step_move tr (Took l (Calls.Commit d false) (Ret Codes.NotAnXid)) b inv r) new
    (subst (λ x. IsPast (standing tr x)) (branch_eq-true d b t) (unknown_past (standing tr d) _ _ (code_of r.1)))
took_past tr l _ _ b inv r new t = absurd (cc)

-- a record is of a branch that its database ended
record_alone : (tr : Trace) (b : Branch) (how : How) (c : Call) (a : Answer)
    → record_of c a ≡ AddRecord (record { branch = b; how = how }) → AnswerFact tr c a → IsEndedAlone (standing tr b)
record_alone tr b how c a q h = by c a q h
  where
    same : (d : Branch) (k : How) → AddRecord (record { branch = d; how = k }) ≡ AddRecord (record { branch = b; how = how }) → HeuristicFact tr d k
        → IsEndedAlone (standing tr b)
    same d k q h =
        let p : record { branch = d; how = k } ≡ record { branch = b; how = how } = cc in
        subst (λ (x : Recorded). IsEndedAlone (standing tr x.branch)) p (heuristic_alone k (standing tr d) h.heuristic)

    by : (c : Call) (a : Answer) → record_of c a ≡ AddRecord (record { branch = b; how = how }) → AnswerFact tr c a → IsEndedAlone (standing tr b)
    by (Calls.Commit d false) (Ret (Codes.Heuristic k)) q h = same d k q h
    by (Calls.Commit d true) (Ret (Codes.Heuristic k)) q h = same d k q h
    by (Calls.Rollback d) (Ret (Codes.Heuristic k)) q h = same d k q h
    by _ _ q h = absurd (cc)

record_after : (tr : Trace) (e : Happening) → IsRun tr → Right tr e → (b : Branch) → (recorded tr b ≡ true → IsEndedAlone (standing tr b))
    → recorded (Then tr e) b ≡ true → IsEndedAlone (standing (Then tr e) b)
record_after tr e run r b before h =
    let k = recorded_how (Then tr e) b h in alone_moves tr b _ _ (step_move tr e b inv r) (by k.0 (recorded_new tr e b k.0 k.1))
  where
    inv : Inv tr
    inv = run_always tr run

    by : (how : How) → NewRecord tr e b how → IsEndedAlone (standing tr b)
    by how (Had_record p) = before (has_of (heuristic_rows tr) b how p)
    by how (By_answer l c w p k) =
        let s : Right tr (Heard l c w) = subst (Right tr) p r in record_alone tr b how c w k (inv.answered l (length (heard tr l)) c w s.1)
    by how (By_doubt_too p) =
        let f : DoubtFact tr (AddRecord (record { branch = b; how = how })) = subst (DoubtFact tr) p inv.in_doubt in
        heuristic_alone how (standing tr b) f.heuristic

record_adds : (c : Call) (a : Answer) (g : Gtrid) → adds_row (record_of c a) g ≡ false
record_adds (Calls.Commit d one) (Ret (Codes.Heuristic k)) g = refl
record_adds (Calls.Rollback d) (Ret (Codes.Heuristic k)) g = refl
record_adds _ _ g = refl

next_adds : (o : Option (Call × Answer)) (g : Gtrid) → adds_row (record_of_next o) g ≡ false
next_adds (Some p) g = record_adds p.0 p.1 g
next_adds None g = refl

record_drops : (c : Call) (a : Answer) (gs : List Gtrid) → record_of c a ≡ DropRows gs → ⊥
record_drops (Calls.Commit d one) (Ret (Codes.Heuristic k)) gs e = cc
record_drops (Calls.Rollback d) (Ret (Codes.Heuristic k)) gs e = cc
record_drops _ _ gs e = cc

next_drops : (o : Option (Call × Answer)) (gs : List Gtrid) → record_of_next o ≡ DropRows gs → ⊥
next_drops (Some p) gs e = record_drops p.0 p.1 gs e
next_drops None gs e = cc

-- a row waits for its participants
each_settled : (tr : Trace) (b : Branch) (bs : List Branch) → each (is_settled_lately tr) bs ≡ true → has_branch bs b ≡ true → is_settled tr b ≡ true
each_settled tr b [] h k = cc
each_settled tr b (x ∷ bs) h k = by_place (or_cases _ _ k) (each_settled tr b bs (and_parts _ _ h).1)
  where
    by_place : (branch_eq x b ≡ true) ⊎ (has_branch bs b ≡ true) → (has_branch bs b ≡ true → is_settled tr b ≡ true) → is_settled tr b ≡ true
    by_place (inl s) f = subst (λ y. is_settled tr y ≡ true) (branch_eq-true x b s) (settled_lately_settled tr x (and_parts _ _ h).0)
    by_place (inr s) f = f s

some_settled : (tr : Trace) (b : Branch) (bs : List Branch) → each_of_some (is_settled_lately tr) bs ≡ true → has_branch bs b ≡ true → is_settled tr b ≡ true
some_settled tr b [] h k = cc
some_settled tr b (x ∷ bs) h k = each_settled tr b (x ∷ bs) h k

-- ** a transaction of which no branch was started since the start

-- it was begun in an earlier incarnation
abbrev pub IsEarlier : Trace → Gtrid → Type 0
IsEarlier tr g = g.incarnation < (origin tr).incarnation

-- what its answers and its records say; nothing adds a row of it, and none of it is committed in one phase
pub record Answers (tr : Trace) (g : Gtrid) : Type 0 where
  pub unhanded : handed_over tr g ≡ false
  pub no_adds : adds_row (doubt tr) g ≡ false
  pub answered : (l : Line) (k : ℕ) (c : Call) (a : Answer) (b : Branch) → b.gtrid ≡ g → slice_get (taken tr l) k ≡ Some (c, a)
      → acknowledges b c a ≡ true → IsPast (standing tr b)
  pub acknowledged : (b : Branch) → b.gtrid ≡ g → was_told tr (acknowledges b) ≡ true → IsPast (standing tr b)
  pub recorded_alone : (b : Branch) → b.gtrid ≡ g → recorded tr b ≡ true → IsEndedAlone (standing tr b)

-- it has a row, or had one at the start
pub record HasRow (tr : Trace) (g : Gtrid) : Type 0 where
  pub kept : (b : Branch) → b.gtrid ≡ g → IsKept (standing tr b)
  pub left : has_row tr g ≡ false → (b : Branch) → b.gtrid ≡ g → IsPast (standing tr b)
  pub covers : has_row tr g ≡ true → (b : Branch) → b.gtrid ≡ g → standing tr b ≡ Prepared → has_branch (participants tr g) b ≡ true
  pub drops : (gs : List Gtrid) → doubt tr ≡ DropRows gs → has_gtrid gs g ≡ true → (b : Branch) → b.gtrid ≡ g → IsPast (standing tr b)

-- it has none: none of its branches is committed, or all wait for nothing and none is undone, or there is but one
pub data HasNoRow (h : Branch → Standing) (g : Gtrid) : Type 0 where
  None_committed : ((b : Branch) → b.gtrid ≡ g → h b ≡ Committed → ⊥) → HasNoRow h g
  All_over : ((b : Branch) → b.gtrid ≡ g → IsKept (h b) × IsPast (h b)) → HasNoRow h g
  Only_one : (d : Branch) → ((b : Branch) → b.gtrid ≡ g → (b ≡ d → ⊥) → h b ≡ Unstarted) → HasNoRow h g

module _ (g : Gtrid) (tr : Trace) (e : Happening) (run : IsRun tr) (r : Right tr e) (earlier : IsEarlier tr g) where
  inv : Inv tr
  inv = run_always tr run

  is_older : (b : Branch) → b.gtrid ≡ g → IsOlder tr b
  is_older b q = subst (λ (x : Gtrid). x.incarnation < (origin tr).incarnation) (sym q) earlier

  dead : live tr g ≡ false
  dead = (older_closed tr (record { gtrid = g; thread = 0; rm = 0 }) inv earlier).not_live

  undecided : RightDecision tr g Outcome.Commit → ⊥
  undecided d = let l = d.is_live in let n = dead in cc

  unbegun : (b : Branch) → b.gtrid ≡ g → started tr b ≡ false
  unbegun b q = false_from_ne_true _ (λ s. older_not_started tr b inv (is_older b q) s)

  move : (b : Branch) → Move tr b (standing tr b) (standing (Then tr e) b)
  move b = step_move tr e b inv r

  past_after : (b : Branch) → b.gtrid ≡ g → IsPast (standing tr b) → IsPast (standing (Then tr e) b)
  past_after b q h = past_moves tr b _ _ (move b) (unbegun b q) h

  over_after : ((b : Branch) → b.gtrid ≡ g → IsKept (standing tr b) × IsPast (standing tr b)) → (b : Branch) → b.gtrid ≡ g
      → IsKept (standing (Then tr e) b) × IsPast (standing (Then tr e) b)
  over_after over b q = (
    kept_moves tr b _ _ (move b) (unbegun b q) (λ p x. subst IsPast p (over b q).1) (over b q).0,
    past_after b q (over b q).1,
  )

  -- ** its answers

  fault_adds : (f : Fault) → RightFault tr f → adds_row (fault_change tr f) g ≡ false
  fault_adds (InDecide gs) r = false_from_ne_true _ (λ h. undecided (each_is (RightRow tr) gs r g (sym (rows_made tr gs g) ∙ h)).0)
  fault_adds (InDone gs) r = refl
  fault_adds (InHear l) r = next_adds _ g
  fault_adds InResolve r = refl
  fault_adds InRestart r = refl

  module _ (a : Answers tr g) where
    no_adds_after : (e : Happening) → Right tr e → adds_row (doubt (Then tr e)) g ≡ false
    no_adds_after (Failed f) r = by (up tr)
      where
        by : (t : Bool) → adds_row (if t then fault_change tr f else doubt tr) g ≡ false
        by true = fault_adds f r
        by false = a.no_adds
    no_adds_after (Restarted i d n) r = refl
    no_adds_after _ r = a.no_adds

    answered_after : (l : Line) (k : ℕ) (c : Call) (w : Answer) (b : Branch) → b.gtrid ≡ g → slice_get (taken (Then tr e) l) k ≡ Some (c, w)
        → acknowledges b c w ≡ true → IsPast (standing (Then tr e) b)
    answered_after l k c w b q h t = by (taken_back tr e l k c w h)
      where
        by : NewTaken tr e l k c w → IsPast (standing (Then tr e) b)
        by (Was p) = past_after b q (a.answered l k c w b q p t)
        by (Now p) = subst (λ x. IsPast (standing (Then tr x) b)) (sym p) (took_past tr l c w b inv (subst (Right tr) p r) (unbegun b q) t)

    acknowledged_after : (b : Branch) → b.gtrid ≡ g → was_told (Then tr e) (acknowledges b) ≡ true → IsPast (standing (Then tr e) b)
    acknowledged_after b q h = past_after b q (by (told_new tr e (acknowledges b) h))
      where
        by : (was_told tr (acknowledges b) ≡ true) ⊎ ((l : Line) × (c : Call) × (w : Answer) × (e ≡ Heard l c w) × (acknowledges b c w ≡ true))
            → IsPast (standing tr b)
        by (inl k) = a.acknowledged b q k
        by (inr k) =
            let s : Right tr (Heard k.0 k.1 k.2) = subst (Right tr) k.3 r in a.answered k.0 (length (heard tr k.0)) k.1 k.2 b q s.1 k.4

    answers_after : Answers (Then tr e) g
    answers_after = record {
      unhanded = not_handed_kept tr e g r dead a.unhanded;
      no_adds = no_adds_after e r;
      answered = answered_after;
      acknowledged = acknowledged_after;
      recorded_alone = λ b q h. record_after tr e run r b (a.recorded_alone b q) h;
    }

    -- ** with a row

    module _ (w : HasRow tr g) where
      settled_past : (b : Branch) → b.gtrid ≡ g → is_settled tr b ≡ true → IsPast (standing tr b)
      settled_past b q s = by (or_cases _ _ s)
        where
          told : (was_told tr (says_read_only b) ≡ true) ⊎ (was_told tr (acknowledges b) ≡ true) → IsPast (standing tr b)
          told (inl h) = subst IsPast (sym (inv.voted_read_only b h)) tt
          told (inr h) = a.acknowledged b q h

          by : (recorded tr b ≡ true) ⊎ ((was_told tr (says_read_only b) || was_told tr (acknowledges b)) ≡ true) → IsPast (standing tr b)
          by (inl h) = alone_past (standing tr b) (a.recorded_alone b q h)
          by (inr h) = told (or_cases _ _ h)

      done_past : RightDone tr g → (b : Branch) → b.gtrid ≡ g → IsPast (standing tr b)
      done_past d b q = by (past_or_prepared (standing tr b) (w.kept b q))
        where
          by : IsPast (standing tr b) ⊎ (standing tr b ≡ Prepared) → IsPast (standing tr b)
          by (inl h) = h
          by (inr p) = settled d.is_settled
            where
              settled : IsRowSettled tr g → IsPast (standing tr b)
              settled (inl h) = let s = inv.begun_since g h.0 in absurd (omega (arith, s, earlier))
              settled (inr h) = settled_past b q (some_settled tr b (participants tr g) h.1 (w.covers d.has b q p))

      kept_after : (b : Branch) → b.gtrid ≡ g → IsKept (standing (Then tr e) b)
      kept_after b q = kept_moves tr b _ _ (move b) (unbegun b q) never (w.kept b q)
        where
          never : standing tr b ≡ Prepared → standing (Then tr e) b ≡ RolledBack → ⊥
          never p x = subst IsPast p (w.left (subst (λ y. has_row tr y ≡ false) q (rolled_unrowed tr e b inv r p x)) b q)

      left_after : has_row (Then tr e) g ≡ false → (b : Branch) → b.gtrid ≡ g → IsPast (standing (Then tr e) b)
      left_after n b q = past_after b q (by (has_row tr g) refl)
        where
          lost : LeftRow tr e g → IsPast (standing tr b)
          lost (By_done p) = done_past (subst (Right tr) p r) b q
          lost (By_doubt d) = w.drops d.dropped d.is d.of b q

          by : (t : Bool) → has_row tr g ≡ t → IsPast (standing tr b)
          by true h = lost (row_lost tr e g h n)
          by false h = w.left h b q

      covers_after : has_row (Then tr e) g ≡ true → (b : Branch) → b.gtrid ≡ g → standing (Then tr e) b ≡ Prepared
          → has_branch (participants (Then tr e) g) b ≡ true
      covers_after h b q p = by (row_back tr e g h)
        where
          by : RowNow tr e g → has_branch (participants (Then tr e) g) b ≡ true
          by (Before k s) =
              subst (λ bs. has_branch bs b ≡ true) (sym s) (w.covers k b q (prepared_back tr b _ _ (move b) (w.kept b q) p))
          by (Decided_now k s) = absurd (undecided (subst (Right tr) k r))
          by (Restarted_now i d n k x s) =
              absurd (let one : adds_row (doubt tr) g ≡ true = subst (λ y. adds_row y g ≡ true) (sym x.is) x.of in let none = a.no_adds in cc)

      drops_after : (e : Happening) → Right tr e → (gs : List Gtrid) → doubt (Then tr e) ≡ DropRows gs → has_gtrid gs g ≡ true
          → (b : Branch) → b.gtrid ≡ g → IsPast (standing tr b)
      drops_after (Failed f) r gs e has b q = by (up tr) e has b q
        where
          of_fault : (f : Fault) → RightFault tr f → fault_change tr f ≡ DropRows gs → has_gtrid gs g ≡ true → (b : Branch) → b.gtrid ≡ g
              → IsPast (standing tr b)
          of_fault (InDecide hs) r e has b q = absurd (cc)
          of_fault (InDone hs) r e has b q =
              let same : hs ≡ gs = cc in done_past (each_is (RightDone tr) hs r g (subst (λ xs. has_gtrid xs g ≡ true) (sym same) has)) b q
          of_fault (InHear l) r e has b q = absurd (next_drops _ gs e)
          of_fault InResolve r e has b q = absurd (cc)
          of_fault InRestart r e has b q = absurd (cc)

          by : (t : Bool) → (if t then fault_change tr f else doubt tr) ≡ DropRows gs → has_gtrid gs g ≡ true → (b : Branch) → b.gtrid ≡ g
              → IsPast (standing tr b)
          by true e has b q = of_fault f r e has b q
          by false e has b q = w.drops gs e has b q
      drops_after (Restarted i d n) r gs e has b q = absurd (cc)
      drops_after _ r gs e has b q = w.drops gs e has b q

      row_after : HasRow (Then tr e) g
      row_after = record {
        kept = kept_after;
        left = left_after;
        covers = covers_after;
        drops = λ gs d has b q. past_after b q (drops_after e r gs d has b q);
      }

    -- ** without one

    unrowed_after : had_row tr g ≡ false → had_row (Then tr e) g ≡ false
    unrowed_after n = false_from_ne_true _ (λ h. by (rowed_new tr e g h))
      where
        by : NewRow tr e g → ⊥
        by (Had k) = cc
        by (By_decision k s) = undecided (subst (Right tr) k r)
        by (By_restart i d m k x s) = let none = a.no_adds in cc

    none_after : had_row tr g ≡ false → ((b : Branch) → b.gtrid ≡ g → standing tr b ≡ Committed → ⊥) → (b : Branch) → b.gtrid ≡ g
        → standing (Then tr e) b ≡ Committed → ⊥
    none_after n none b q p = by b q (committed_moves tr b _ _ (move b) p)
      where
        by : (b : Branch) → b.gtrid ≡ g → (standing tr b ≡ Committed) ⊎ ((had_row tr b.gtrid ≡ true) ⊎ (handed_over tr b.gtrid ≡ true)) → ⊥
        by b q (inl h) = none b q h
        by b q (inr (inl h)) = let x : had_row tr g ≡ true = subst (λ y. had_row tr y ≡ true) q h in cc
        by b q (inr (inr h)) = let x : handed_over tr g ≡ true = subst (λ y. handed_over tr y ≡ true) q h in let y = a.unhanded in cc

    no_row_after : had_row tr g ≡ false → HasNoRow (standing tr) g → HasNoRow (standing (Then tr e)) g
    no_row_after n (None_committed none) = None_committed (none_after n none)
    no_row_after n (All_over over) = All_over (over_after over)
    no_row_after n (Only_one d others) = Only_one d (λ b q apart. unstarted_moves tr b _ _ (move b) (unbegun b q) (others b q apart))

-- ** through the whole history

-- where its branches stood at the start
abbrev pub held_at : Origin → Branch → Standing
held_at o b = (held_of o b).standing

-- what is recorded was ended by its database, if what the start had recorded was
pub records_at : (tr : Trace) → IsRun tr → (b : Branch) → (has_record (origin tr).heuristic_rows b ≡ true → IsEndedAlone (held_at (origin tr) b))
    → recorded tr b ≡ true → IsEndedAlone (standing tr b)
records_at (From o) run b records h = records h
records_at (Then tr e) run b records h = record_after tr e run.0 run.1 b (records_at tr run.0 b records) h

pub answers_at : (g : Gtrid) (tr : Trace) → IsRun tr → IsEarlier tr g
    → ((b : Branch) → b.gtrid ≡ g → has_record (origin tr).heuristic_rows b ≡ true → IsEndedAlone (held_at (origin tr) b)) → Answers tr g
answers_at g (From o) run earlier records = record {
  unhanded = refl;
  no_adds = refl;
  answered = λ l k c a b q h t. absurd (get_none k (c, a) h);
  acknowledged = λ b q h. absurd (cc);
  recorded_alone = records;
}
answers_at g (Then tr e) run earlier records = answers_after g tr e run.0 run.1 earlier (answers_at g tr run.0 earlier records)

pub row_at : (g : Gtrid) (tr : Trace) → IsRun tr → IsEarlier tr g
    → ((b : Branch) → b.gtrid ≡ g → has_record (origin tr).heuristic_rows b ≡ true → IsEndedAlone (held_at (origin tr) b))
    → lists_row (origin tr).rows g ≡ true → ((b : Branch) → b.gtrid ≡ g → IsKept (held_at (origin tr) b))
    → ((b : Branch) → b.gtrid ≡ g → held_at (origin tr) b ≡ Prepared → has_branch (participants_in (origin tr).rows g) b ≡ true) → HasRow tr g
row_at g (From o) run earlier records row kept covers = record {
  kept = kept;
  left = λ n b q. absurd (cc);
  covers = λ h b q p. covers b q p;
  drops = λ gs d has b q. absurd (cc);
}
row_at g (Then tr e) run earlier records row kept covers =
    row_after g tr e run.0 run.1 earlier (answers_at g tr run.0 earlier records) (row_at g tr run.0 earlier records row kept covers)

-- it has no row, and had none
pub record NoRowAt (tr : Trace) (g : Gtrid) : Type 0 where
  pub had_none : had_row tr g ≡ false
  pub stands : HasNoRow (standing tr) g

pub no_row_at : (g : Gtrid) (tr : Trace) → IsRun tr → IsEarlier tr g
    → ((b : Branch) → b.gtrid ≡ g → has_record (origin tr).heuristic_rows b ≡ true → IsEndedAlone (held_at (origin tr) b))
    → lists_row (origin tr).rows g ≡ false → HasNoRow (held_at (origin tr)) g → NoRowAt tr g
no_row_at g (From o) run earlier records none stands = record { had_none = none; stands = stands }
no_row_at g (Then tr e) run earlier records none stands =
    let before = no_row_at g tr run.0 earlier records none stands in
    let answers = answers_at g tr run.0 earlier records in
    record {
      had_none = unrowed_after g tr e run.0 run.1 earlier answers before.had_none;
      stands = no_row_after g tr e run.0 run.1 earlier answers before.had_none before.stands;
    }

-- and none of its branches is committed, if none was
pub none_at : (g : Gtrid) (tr : Trace) → IsRun tr → IsEarlier tr g
    → ((b : Branch) → b.gtrid ≡ g → has_record (origin tr).heuristic_rows b ≡ true → IsEndedAlone (held_at (origin tr) b))
    → lists_row (origin tr).rows g ≡ false → ((b : Branch) → b.gtrid ≡ g → held_at (origin tr) b ≡ Committed → ⊥)
    → (b : Branch) → b.gtrid ≡ g → standing tr b ≡ Committed → ⊥
none_at g (From o) run earlier records none start = start
none_at g (Then tr e) run earlier records none start =
    none_after g tr e run.0 run.1 earlier (answers_at g tr run.0 earlier records)
    (no_row_at g tr run.0 earlier records none (None_committed start)).had_none (none_at g tr run.0 earlier records none start)

-- all of its branches that wait for nothing, and none of which is undone, stay so
pub over_at : (g : Gtrid) (tr : Trace) → IsRun tr → IsEarlier tr g
    → ((b : Branch) → b.gtrid ≡ g → IsKept (held_at (origin tr) b) × IsPast (held_at (origin tr) b))
    → (b : Branch) → b.gtrid ≡ g → IsKept (standing tr b) × IsPast (standing tr b)
over_at g (From o) run earlier start = start
over_at g (Then tr e) run earlier start = over_after g tr e run.0 run.1 earlier (over_at g tr run.0 earlier start)
