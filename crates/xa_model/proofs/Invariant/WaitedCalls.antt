-- Calls that waited before, after one happening more.
use Rattle.std.proofs.Common.{◌≡◌, ◌≤◌, [], ◌∷◌, ◌++◌, length, length-append, Bool, true, false, refl, sym, ap, ◌∙◌, subst, arith}
use Rattle.std.specs.Prelude.{if◌then◌else◌, Some, slice_get}
use Rattle.std.proofs.lemmas.Bool.{false_from_ne_true}
use Rattle.xa_base.specs.declared.call.Call.TheVariants as Calls
use Rattle.xa_base.specs.declared.answer.Answer.TheVariants.{Ret, Page}
use Rattle.xa_model.specs.Trace.{Gtrid, Branch, Line, Kind, Kind.Start, Kind.Join, Kind.End, Kind.Prepare, Kind.Commit, Kind.OnePhase, Kind.Rollback, Kind.Forget, Call, Code, Answer, Happening, Happening.Took, Happening.CompletedAlone, Happening.Restarted, Trace, Trace.Then, line_of}
use Rattle.xa_base.specs.declared.step.Outcome.TheVariants as Outcome
use Rattle.xa_base.specs.Branch.{branch_eq}
use Rattle.xa_base.specs.StateTable.{on, moved, broken, completed}
use Rattle.xa_base.specs.declared.state.Standing.TheVariants.{Unstarted}
use Rattle.xa_model.specs.Facts.{up, live, has_row, breaks, new_taken, taken, issued, standing}
use Rattle.xa_model.specs.Promises.AgreementInvariant.{Starts}
use Rattle.xa_model.specs.Protocol.{RightDecision, Right}
use Rattle.xa_model.proofs.Invariant.{Waits, WaitingStart, CallFact, Inv}
use Rattle.xa_base.proofs.BranchKeys.{branch_eq-true}
use Rattle.xa_model.proofs.Keys.{line_eq-refl}
use Rattle.xa_model.proofs.Invariant.Grows.{closed_kept, started_kept, handed_kept}
use Rattle.xa_model.proofs.Invariant.Rows.{rowed_kept, RowNow, RowNow.Before, RowNow.Decided_now, RowNow.Restarted_now, row_back}
use Rattle.xa_model.proofs.Invariant.Records.{recorded_kept}
use Rattle.xa_model.proofs.Invariant.Now.{front_waits}

-- ** calls that waited before

moved_unstarted : (k : Kind) (a : Code) → (k ≡ Start → ⊥) → moved Unstarted k a ≡ Unstarted
moved_unstarted Start a n = absurd (n refl)
moved_unstarted Join a n = refl
moved_unstarted (End t) a n = refl
moved_unstarted Prepare a n = refl
moved_unstarted Commit a n = refl
moved_unstarted OnePhase a n = refl
moved_unstarted Rollback a n = refl
moved_unstarted Forget a n = refl

took_unstarted : (tr : Trace) (k : Kind) (c : Branch) (a : Code) (b : Branch) (t : Bool) → branch_eq c b ≡ t
    → ((k ≡ Start) × (branch_eq c b ≡ true) → ⊥) → standing tr b ≡ Unstarted → (if t then moved (standing tr b) k a else standing tr b) ≡ Unstarted
took_unstarted tr k c a b true s n u = ap (λ f. moved f k a) u ∙ moved_unstarted k a (λ q. n (q, s))
took_unstarted tr k c a b false s n u = u

-- a branch whose xa_start still waits stays unstarted
unstarted_stays : (tr : Trace) (e : Happening) (b : Branch) → ((l : Line) (a : Answer) → e ≡ Took l (Calls.Start b false) a → ⊥)
    → standing tr b ≡ Unstarted → standing (Then tr e) b ≡ Unstarted
unstarted_stays tr (Took l (Calls.Start c false) (Ret a)) b n u =
    took_unstarted tr Start c a b (branch_eq c b) refl (λ q. n l (Ret a) (λ i. Took l (Calls.Start (branch_eq-true c b (q.1) i) false) (Ret a))) u
unstarted_stays tr (Took l (Calls.Start c true) (Ret a)) b n u = took_unstarted tr Join c a b (branch_eq c b) refl (λ q. let p : ⊥ = cc in p) u
unstarted_stays tr (Took l (Calls.End c fail) (Ret a)) b n u = took_unstarted tr (End fail) c a b (branch_eq c b) refl (λ q. let p : ⊥ = cc in p) u
unstarted_stays tr (Took l (Calls.Prepare c) (Ret a)) b n u = took_unstarted tr Prepare c a b (branch_eq c b) refl (λ q. let p : ⊥ = cc in p) u
unstarted_stays tr (Took l (Calls.Commit c false) (Ret a)) b n u = took_unstarted tr Commit c a b (branch_eq c b) refl (λ q. let p : ⊥ = cc in p) u
unstarted_stays tr (Took l (Calls.Commit c true) (Ret a)) b n u = took_unstarted tr OnePhase c a b (branch_eq c b) refl (λ q. let p : ⊥ = cc in p) u
unstarted_stays tr (Took l (Calls.Rollback c) (Ret a)) b n u = took_unstarted tr Rollback c a b (branch_eq c b) refl (λ q. let p : ⊥ = cc in p) u
unstarted_stays tr (Took l (Calls.Forget c) (Ret a)) b n u = took_unstarted tr Forget c a b (branch_eq c b) refl (λ q. let p : ⊥ = cc in p) u
unstarted_stays tr (CompletedAlone c how) b n u = by_branch (branch_eq c b)
  where
    by_branch : (t : Bool) → (if t then completed (standing tr b) how else standing tr b) ≡ Unstarted
    by_branch true = ap (λ f. completed f how) u
    by_branch false = u
unstarted_stays tr (Took l c (Page names)) b n u = u
unstarted_stays tr (Took l Calls.OpenRm (Ret a)) b n u = u
unstarted_stays tr (Took l Calls.CloseRm (Ret a)) b n u = u
unstarted_stays tr (Took l (Calls.Recover m x y) (Ret a)) b n u = u
unstarted_stays tr e b n u = by_break (breaks tr e (line_of b))
  where
    by_break : (t : Bool) → (if t then broken (standing tr b) else standing tr b) ≡ Unstarted
    by_break true = ap broken u
    by_break false = u

length_took : (l : Line) (c : Call) (a : Answer) → length (new_taken (Took l c a) l) ≡ 1
length_took l c a = ap (λ t. length {A = Call × Answer} (if t then (c, a) ∷ [] else [])) (line_eq-refl l)

-- the xa_start that is taken is not one that waits behind it
start_not_taken : (tr : Trace) (e : Happening) (l : Line) (x : Kind) (b : Branch) → Starts x → Inv tr → Right tr e
    → WaitingStart tr l b → (w : Waits tr l (on x b)) → length (taken tr l ++ new_taken e l) ≤ w.place → (m : Line) (a : Answer)
    → e ≡ Took m (Calls.Start b false) a → ⊥
start_not_taken tr e l x b s inv r f w n m a q =
    let q' : Right tr (Took m (Calls.Start b false) a) = subst (Right tr) q r in
    let y = (inv.waiting m Start b (front_waits tr m (Calls.Start b false) q'.0)).own_line in
    let same : m ≡ l = y ∙ sym f.own_line in
    let here : slice_get (issued tr l) (length (taken tr l)) ≡ Some (Calls.Start b false) =
    subst (λ z. slice_get (issued tr z) (length (taken tr z)) ≡ Some (Calls.Start b false)) same q'.0 in
    let p = inv.start_once l b x Start w.place (length (taken tr l)) s tt w.is here in
    let e' : e ≡ Took l (Calls.Start b false) a = q ∙ ap (λ z. Took z (Calls.Start b false) a) same in
    let k : length (new_taken e l) ≡ 1 = ap (λ z. length (new_taken z l)) e' ∙ length_took l (Calls.Start b false) a in
    omega (arith, length-append (taken tr l) (new_taken e l))

-- an xa_start that waits goes on to wait for a branch that stays unstarted
start_kept : (tr : Trace) (e : Happening) (l : Line) (x : Kind) (b : Branch) → Starts x → Inv tr → Right tr e
    → WaitingStart tr l b → (w : Waits tr l (on x b)) → length (taken tr l ++ new_taken e l) ≤ w.place → WaitingStart (Then tr e) l b
start_kept tr e l x b s inv r f w n =
    record {
      own_line = f.own_line;
      is_started = started_kept tr e b f.is_started;
      unstarted = unstarted_stays tr e b (start_not_taken tr e l x b s inv r f w n) f.unstarted;
    }

no_row_kept : (tr : Trace) (e : Happening) (g : Gtrid) → Right tr e → up tr ≡ true → live tr g ≡ false → has_row tr g ≡ false → has_row (Then tr e) g ≡ false
no_row_kept tr e g r u n h = false_from_ne_true _ (λ k. by_case (row_back tr e g k))
  where
    by_case : RowNow tr e g → ⊥
    by_case (Before k p) = cc
    by_case (Decided_now q p) = let d : RightDecision tr g Outcome.Commit = subst (Right tr) q r in let lv = d.is_live in cc
    by_case (Restarted_now i d m q a p) = let x : Right tr (Restarted i d m) = subst (Right tr) q r in let dn = x.0 in cc

pub waited_kept : (tr : Trace) (e : Happening) (l : Line) (k : Kind) (b : Branch) → Inv tr → Right tr e
    → (w : Waits tr l (on k b)) → length (taken tr l ++ new_taken e l) ≤ w.place → CallFact (Then tr e) l k b
waited_kept tr e l Start b inv r w n = start_kept tr e l Start b tt inv r (inv.waiting l Start b w) w n
waited_kept tr e l Join b inv r w n = start_kept tr e l Join b tt inv r (inv.waiting l Join b w) w n
waited_kept tr e l (End t) b inv r w n = tt
waited_kept tr e l Prepare b inv r w n = tt
waited_kept tr e l OnePhase b inv r w n = handed_kept tr e b.gtrid (inv.waiting l OnePhase b w)
waited_kept tr e l Commit b inv r w n = rowed_kept tr e b.gtrid (inv.waiting l Commit b w)
waited_kept tr e l Rollback b inv r w n =
    let f = inv.waiting l Rollback b w in
    record {
      closed = closed_kept tr e b.gtrid r f.closed;
      no_row = no_row_kept tr e b.gtrid r (inv.waiting_up l (Calls.Rollback b) w) f.closed.not_live f.no_row;
    }
waited_kept tr e l Forget b inv r w n = recorded_kept tr e b (inv.waiting l Forget b w)
