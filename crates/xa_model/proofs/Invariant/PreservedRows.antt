-- Transactions, rows and what is in doubt, after one right happening more.
use Rattle.std.proofs.Common.{◌≡◌, List, [], ◌∷◌, length, Bool, true, false, not, ◌&&◌, ◌||◌, refl, sym, ap, ◌∙◌, subst, arith, ◌⊎◌}
use Rattle.std.specs.Prelude.{if◌then◌else◌, filter, Option, Some, None}
use mathlib.Core.Logic.{◌⊎◌.inl, ◌⊎◌.inr}
use Rattle.std.proofs.lemmas.Bool.{and_parts, false_from_ne_true, or_cases, or_left, or_right}
use Rattle.xa_base.specs.declared.call.Call.TheVariants as Calls
use Rattle.xa_base.specs.declared.answer.Answer.TheVariants.{Ret}
use Rattle.xa_model.specs.Trace.{Gtrid, Branch, Line, Call, Answer, Outcome, Fault, Fault.InDecide, Fault.InDone, Fault.InHear, Fault.InResolve, Fault.InRestart, Happening, Happening.Issued, Happening.Decided, Happening.Crashed, Happening.Failed, Happening.Restarted, Trace, Trace.From, Trace.Then}
use Rattle.xa_base.specs.declared.code.Code.TheVariants as Codes
use Rattle.xa_base.specs.declared.step.Part.TheVariants as Part
use Rattle.xa_base.specs.Branch.{gtrid_eq, branch_eq}
use Rattle.xa_model.specs.Facts.{up, begun, decided_so, handed_over, live, started, was_told, says_read_only, has_branch, participants_in, participants, is_settled, is_settled_lately, each, each_of_some, branches, takes_part, row_for, has_row, had_row, ever, doubt, fault_change, record_of, adds_row, record_of, Change.AddRows, Change.DropRows, Change.NoChange, record_of_next, heard, next_answer, standing}
use Rattle.xa_model.specs.Protocol.{HasVoted, AllHaveVoted, AllAreSettled, IsRowSettled, RightDecision, RightRow, RightDone, Right}
use Rattle.xa_model.proofs.Invariant.{Closed, IsGood, AnswerFact, RowFact, Covers, DoubtFact, Inv}
use Rattle.xa_base.proofs.BranchKeys.{branch_eq-true, gtrid_eq-refl, branch_eq-refl}
use Rattle.xa_model.proofs.Invariant.Moves.{good_moves}
use Rattle.xa_model.proofs.Invariant.Grows.{closed_kept}
use Rattle.xa_model.proofs.Invariant.Rows.{RowNow, RowNow.Before, RowNow.Decided_now, RowNow.Restarted_now, row_back, settled_lately_settled, NewRow, NewRow.Had, NewRow.By_decision, NewRow.By_restart, rowed_new, LeftRow, LeftRow.By_done, LeftRow.By_doubt, row_lost}
use Rattle.xa_model.proofs.Invariant.RowLists.{or_map, each_is, rows_made, made_for}
use Rattle.xa_model.proofs.Invariant.Now.{row_fact_ever, live_begun, step_move}
use Rattle.xa_model.proofs.Invariant.OneMore.{heuristic_fact_kept, decided_voted, row_fact_kept, covers_kept, all_settled_kept, doubt_kept}

-- ** rows

pub voted_good : (tr : Trace) (b : Branch) → Inv tr → live tr b.gtrid ≡ true → HasVoted tr b → IsGood (standing tr b)
voted_good tr b inv l (inl h) = (inv.voted_yes b h).good l
voted_good tr b inv l (inr h) = subst IsGood (sym (inv.voted_read_only b h)) tt

not_handed_live : (tr : Trace) (g : Gtrid) → live tr g ≡ true → handed_over tr g ≡ false
not_handed_live tr g l = false_from_ne_true _ (λ h. grind arith)

not_rolled_back_live : (tr : Trace) (g : Gtrid) → live tr g ≡ true → decided_so Outcome.Rollback tr g ≡ false
not_rolled_back_live tr g l = false_from_ne_true _ (λ h. grind arith)

no_longer_live : (b c d h s : Bool) → s ≡ true → (b && not ((s || c) || (d || h))) ≡ true → ⊥
no_longer_live b c d h true p q = grind arith
no_longer_live b c d h false p q = cc

decided_row_fact : (tr : Trace) (g : Gtrid) → Inv tr → RightDecision tr g Outcome.Commit → RowFact (Then tr (Decided g Outcome.Commit)) g
decided_row_fact tr g inv d = record {
  closed =
      record {
        old = inv.begun_old g (live_begun tr g d.is_live);
        not_live = false_from_ne_true _
            (λ l. no_longer_live (begun tr g) (decided_so Outcome.Commit tr g) (decided_so Outcome.Rollback tr g) (handed_over tr g) _
            (gtrid_eq-refl g) l);
      };
  good = λ b q s. voted_good tr b inv (ap (live tr) q ∙ d.is_live) (decided_voted tr g inv d b q s);
  not_handed = not_handed_live tr g d.is_live;
  not_rolled_back = not_rolled_back_live tr g d.is_live;
}

pub rows_after : (tr : Trace) (e : Happening) (g : Gtrid) → Inv tr → Right tr e → had_row (Then tr e) g ≡ true → RowFact (Then tr e) g
rows_after tr e g inv r h = by_case (rowed_new tr e g h)
  where
    by_case : NewRow tr e g → RowFact (Then tr e) g
    by_case (Had k) = row_fact_kept tr e g inv r (or_right _ _ k) (inv.rows g k)
    by_case (By_decision q w) = subst (λ x. RowFact (Then tr x) g) (sym q) (decided_row_fact tr g inv (subst (Right tr) q r))
    by_case (By_restart i d n q x w) = let v : ever tr g ≡ true = or_left _ _ x in row_fact_kept tr e g inv r v (row_fact_ever tr g inv v)

-- a row waits for its participants: what they have settled, all branches have
each_settled : (tr : Trace) (b : Branch) (bs : List Branch) → each (is_settled_lately tr) bs ≡ true → has_branch bs b ≡ true → is_settled tr b ≡ true
each_settled tr b [] h k = cc
each_settled tr b (x ∷ bs) h k = by_place (or_cases _ _ k) (each_settled tr b bs (and_parts _ _ h).1)
  where
    by_place : (branch_eq x b ≡ true) ⊎ (has_branch bs b ≡ true) → (has_branch bs b ≡ true → is_settled tr b ≡ true) → is_settled tr b ≡ true
    by_place (inl s) f = subst (λ y. is_settled tr y ≡ true) (branch_eq-true x b s) (settled_lately_settled tr x (and_parts _ _ h).0)
    by_place (inr s) f = f s

each_of_some_settled : (tr : Trace) (b : Branch) (bs : List Branch) → each_of_some (is_settled_lately tr) bs ≡ true → has_branch bs b ≡ true
    → is_settled tr b ≡ true
each_of_some_settled tr b [] h k = cc
each_of_some_settled tr b (x ∷ bs) h k = each_settled tr b (x ∷ bs) h k

row_settled_all : (tr : Trace) (g : Gtrid) → Inv tr → has_row tr g ≡ true → IsRowSettled tr g → AllAreSettled tr g
row_settled_all tr g inv w (inl h) b q s = h.1 b q s
row_settled_all tr g inv w (inr h) b q s = by_case (inv.covered g w b q s)
  where
    by_case : (has_branch (participants tr g) b ≡ true) ⊎ (was_told tr (says_read_only b) ≡ true) → is_settled tr b ≡ true
    by_case (inl k) = each_of_some_settled tr b (participants tr g) h.1 k
    by_case (inr k) = or_right _ _ (or_left _ _ k)

done_settled : (tr : Trace) (g : Gtrid) → Inv tr → RightDone tr g → AllAreSettled tr g
done_settled tr g inv d = row_settled_all tr g inv d.has d.is_settled

pub row_left_after : (tr : Trace) (e : Happening) (g : Gtrid) → Inv tr → Right tr e → had_row (Then tr e) g ≡ true
    → has_row (Then tr e) g ≡ false → AllAreSettled (Then tr e) g
row_left_after tr e g inv r h n = by_case (rowed_new tr e g h)
  where
    by_loss : LeftRow tr e g → had_row tr g ≡ true → AllAreSettled tr g
    by_loss (By_done q) k = let d : RightDone tr g = subst (Right tr) q r in done_settled tr g inv d
    by_loss (By_doubt d) k = let f : DoubtFact tr (DropRows d.dropped) = subst (DoubtFact tr) d.is inv.in_doubt in (f g d.of).1

    by_row : (t : Bool) → has_row tr g ≡ t → had_row tr g ≡ true → AllAreSettled tr g
    by_row true t k = by_loss (row_lost tr e g t n) k
    by_row false t k = inv.row_left g k t

    by_case : NewRow tr e g → AllAreSettled (Then tr e) g
    by_case (Had k) = all_settled_kept tr e g r (inv.rows g k).closed (by_row (has_row tr g) refl k)
    by_case (By_decision q w) = absurd (cc)
    by_case (By_restart i d m q x w) = absurd (cc)

-- ** participants

in_filter : (test : Branch → Bool) (bs : List Branch) (b : Branch) → has_branch bs b ≡ true → test b ≡ true → has_branch (filter test bs) b ≡ true
in_filter test [] b h t = cc
in_filter test (x ∷ bs) b h t = by_place (or_cases _ _ h) (in_filter test bs b)
  where
    here : (u : Bool) → test x ≡ u → x ≡ b → has_branch (if u then x ∷ filter test bs else filter test bs) b ≡ true
    here true p q = or_left _ _ (ap (λ y. branch_eq y b) q ∙ branch_eq-refl b)
    here false p q = let k = ap test q in absurd (cc)

    behind : (u : Bool) → has_branch (filter test bs) b ≡ true → has_branch (if u then x ∷ filter test bs else filter test bs) b ≡ true
    behind true k = or_right _ _ k
    behind false k = k

    by_place : (branch_eq x b ≡ true) ⊎ (has_branch bs b ≡ true)
        → (has_branch bs b ≡ true → test b ≡ true → has_branch (filter test bs) b ≡ true) → has_branch (filter test (x ∷ bs)) b ≡ true
    by_place (inl s) f = here (test x) refl (branch_eq-true x b s)
    by_place (inr s) f = behind (test x) (f s t)

pub started_listed : (tr : Trace) (b : Branch) → started tr b ≡ true → has_branch (branches tr) b ≡ true
started_listed (From o) b s = cc
started_listed (Then tr (Issued l (Calls.Start c false))) b s = or_map (branch_eq c b) _ _ (started_listed tr b) s
started_listed (Then tr (Issued l (Calls.Start c true))) b s = or_map (branch_eq c b) _ _ (started_listed tr b) s
started_listed (Then tr _) b s = started_listed tr b s

-- the row that a decision makes covers the branches, since all have voted
row_for_covers : (tr : Trace) (g : Gtrid) → AllHaveVoted tr g → Covers tr (row_for tr g).participants g
row_for_covers tr g v b q s = by_vote (v b q s)
  where
    by_vote : HasVoted tr b → (has_branch (row_for tr g).participants b ≡ true) ⊎ (was_told tr (says_read_only b) ≡ true)
    by_vote (inl h) = inl (in_filter (takes_part tr g) (branches tr) b (started_listed tr b s) (and_both (ap (λ y. gtrid_eq y g) q ∙ gtrid_eq-refl g) h))
      where
        and_both : {x y : Bool} → x ≡ true → y ≡ true → (x && y) ≡ true
        and_both p k = (λ i. p i && k i)
    by_vote (inr h) = inr h

pub covered_after : (tr : Trace) (e : Happening) (g : Gtrid) → Inv tr → Right tr e → has_row (Then tr e) g ≡ true
    → Covers (Then tr e) (participants (Then tr e) g) g
covered_after tr e g inv r h = by_case (row_back tr e g h)
  where
    by_case : RowNow tr e g → Covers (Then tr e) (participants (Then tr e) g) g
    by_case (Before k p) = subst (λ y. Covers (Then tr e) y g) (sym p) (covers_kept tr e _ g r (inv.rows g (inv.row_rowed g k)).closed (inv.covered g k))
    by_case (Decided_now q p) =
        let d : RightDecision tr g Outcome.Commit = subst (Right tr) q r in
        subst (λ y. Covers (Then tr e) y g) (sym p) (covers_decided d q)
      where
        covers_decided : RightDecision tr g Outcome.Commit → e ≡ Decided g Outcome.Commit → Covers (Then tr e) (row_for tr g).participants g
        covers_decided d q = subst (λ y. Covers (Then tr y) (row_for tr g).participants g) (sym q) (row_for_covers tr g (decided_voted tr g inv d))
    by_case (Restarted_now i d n q a p) =
        let f : DoubtFact tr (AddRows a.added) = subst (DoubtFact tr) a.is inv.in_doubt in let k = f g a.of in
        subst (λ y. Covers (Then tr e) y g) (sym p) (covers_kept tr e (participants_in a.added g) g r k.0.closed k.1)

-- ** what is in doubt

pub doubt_down_after : (tr : Trace) (e : Happening) → Inv tr → Right tr e → up (Then tr e) ≡ true → doubt (Then tr e) ≡ NoChange
doubt_down_after tr (Crashed Part.Manager) inv r u = cc
doubt_down_after tr (Failed f) inv r u = cc
doubt_down_after tr (Restarted i d n) inv r u = refl
doubt_down_after tr _ inv r u = inv.doubt_down u

record_fact : (tr : Trace) (e : Happening) (l : Line) (c : Call) (a : Answer) → Inv tr → Right tr e → AnswerFact tr c a → DoubtFact (Then tr e) (record_of c a)
record_fact tr e l (Calls.Commit b false) (Ret (Codes.Heuristic how)) inv r h = heuristic_fact_kept tr e b how inv r h
record_fact tr e l (Calls.Commit b true) (Ret (Codes.Heuristic how)) inv r h = heuristic_fact_kept tr e b how inv r h
record_fact tr e l (Calls.Rollback b) (Ret (Codes.Heuristic how)) inv r h = heuristic_fact_kept tr e b how inv r h
record_fact tr e l _ _ inv r h = tt

next_fact : (tr : Trace) (e : Happening) (l : Line) → Inv tr → Right tr e → (o : Option (Call × Answer)) → next_answer tr l ≡ o
    → DoubtFact (Then tr e) (record_of_next o)
next_fact tr e l inv r (Some p) q = record_fact tr e l p.0 p.1 inv r (inv.answered l (length (heard tr l)) p.0 p.1 q)
next_fact tr e l inv r None q = tt

failed_decision : (tr : Trace) (gs : List Gtrid) (g : Gtrid) → Inv tr → Right tr (Failed (InDecide gs)) → RightDecision tr g Outcome.Commit
    → RowFact (Then tr (Failed (InDecide gs))) g
failed_decision tr gs g inv r d = record {
  closed = record { old = inv.begun_old g (live_begun tr g d.is_live); not_live = refl };
  good = λ b q s. let l =
      ap (live tr) q ∙ d.is_live
      in good_moves tr b _ _ (step_move tr (Failed (InDecide gs)) b inv r) s (λ c. absurd (not_both tr b.gtrid c l))
      (voted_good tr b inv l (decided_voted tr g inv d b q s));
  not_handed = not_handed_live tr g d.is_live;
  not_rolled_back = not_rolled_back_live tr g d.is_live;
}
  where
    not_both : (tr : Trace) (g : Gtrid) → Closed tr g → live tr g ≡ true → ⊥
    not_both tr g c l = let n = c.not_live in cc

fault_fact : (tr : Trace) (f : Fault) → Inv tr → Right tr (Failed f) → DoubtFact (Then tr (Failed f)) (fault_change tr f)
fault_fact tr (InDecide gs) inv r = λ g l.
    let h = sym (rows_made tr gs g) ∙ l in let d = (each_is (RightRow tr) gs r g h).0 in (
      failed_decision tr gs g inv r d,
      subst (λ bs. Covers (Then tr (Failed (InDecide gs))) bs g) (sym (made_for tr gs g h)) (row_for_covers tr g (decided_voted tr g inv d)),
    )
fault_fact tr (InDone gs) inv r = λ g h.
    let d = each_is (RightDone tr) gs r g h in let c = (inv.rows g (inv.row_rowed g d.has)).closed in
    (closed_kept tr (Failed (InDone gs)) g r c, all_settled_kept tr (Failed (InDone gs)) g r c (done_settled tr g inv d))
fault_fact tr (InHear l) inv r = next_fact tr (Failed (InHear l)) l inv r (next_answer tr l) refl
fault_fact tr InResolve inv r = tt
fault_fact tr InRestart inv r = tt

doubted_row : (tr : Trace) (g : Gtrid) → adds_row (doubt tr) g ≡ true → ever tr g ≡ true
doubted_row tr g h = or_left _ _ h

pub in_doubt_after : (tr : Trace) (e : Happening) → Inv tr → Right tr e → DoubtFact (Then tr e) (doubt (Then tr e))
in_doubt_after tr (Failed f) inv r = by_up (up tr)
  where
    by_up : (t : Bool) → DoubtFact (Then tr (Failed f)) (if t then fault_change tr f else doubt tr)
    by_up true = fault_fact tr f inv r
    by_up false = doubt_kept tr (Failed f) inv r (doubt tr) (doubted_row tr) inv.in_doubt
in_doubt_after tr (Restarted i d n) inv r = tt
in_doubt_after tr e inv r = doubt_kept tr e inv r (doubt tr) (doubted_row tr) inv.in_doubt
