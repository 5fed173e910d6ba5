-- What is right for the last process alone is right for the history that goes on.
use Rattle.std.proofs.Common.{◌≡◌, ℕ, ◌+◌, ◌<◌, List, [], ◌∷◌, length, Bool, true, false, ◌&&◌, ◌||◌, refl, sym, ap, ◌∙◌, subst, ◌⊎◌}
use Rattle.std.specs.Prelude.{nat_eq, nat_lt, Option, Some, None, IfSome, slice_get}
use Rattle.std.proofs.lemmas.Bool.{or_left, or_right}
use mathlib.Core.Logic.{◌⊎◌.inl, ◌⊎◌.inr}
use Rattle.xa_base.specs.StateTable.{Kind, Kind.Start, Kind.Join, Kind.End, Kind.Prepare, Kind.Commit, Kind.OnePhase, Kind.Rollback, Kind.Forget, state_of, asks_of, answer}
use Rattle.xa_base.specs.Opening.{has_closed}
use Rattle.xa_base.specs.declared.answer.Answer.TheVariants.{Page, Ret}
use Rattle.xa_base.specs.declared.call.Call.TheVariants as Calls
use Rattle.xa_base.specs.declared.reply.Event.{Event}
use Rattle.xa_base.specs.declared.step.Part.TheVariants as Part
use Rattle.xa_model.specs.Facts.{begun, decided_so, claimed, live, started, was_told, says_yes, says_read_only, acknowledges, is_settled, is_settled_lately, participants, has_row, outlived, next_call, next_answer, is_closed, standing}
use Rattle.xa_model.specs.Facts.Distinct.{EachOnce}
use Rattle.xa_model.specs.Facts.InDoubt.{is_in_doubt_at}
use Rattle.xa_model.specs.Protocol.{HasVoted, AllHaveVoted, AllAreSettled, IsOnlyBranch, IsOpen, IsKnown, MayBeCalled, RightCall, SoundAnswer, IsSoundPage, call_code, RightClaim, RightDecision, IsRowSettled, RightDone, RightRow, RightFault, Right, AllRight}
use Rattle.xa_model.specs.Promises.Processes.{gone, resumed, Resumes, joined, OfProcesses, OfProcesses.Alone, OfProcesses.First, OfProcesses.Next}
use Rattle.xa_model.specs.Replies.Allowed.{AllAllowed, with_steps}
use Rattle.xa_model.specs.Replies.History.{AreAllowed, history}
use Rattle.xa_model.specs.Replies.Steps.{Step, Reply, happened}
use Rattle.xa_model.specs.Trace.{Gtrid, Branch, Line, Call, Answer, Outcome, Fault, Fault.InDecide, Fault.InDone, Fault.InHear, Fault.InResolve, Fault.InRestart, Happening, Happening.Begun, Happening.Issued, Happening.Resolved, Happening.ResolvedOpen, Happening.Took, Happening.Heard, Happening.CompletedAlone, Happening.Claimed, Happening.Decided, Happening.Done, Happening.Crashed, Happening.Failed, Happening.Restarted, Origin, Trace, Trace.From, Trace.Then}
use Rattle.xa_model.proofs.Invariant.{Inv}
use Rattle.xa_model.proofs.Invariant.Preservation.{always}
use Rattle.xa_model.proofs.Replies.Replies.{all_right, allowed_right}
use Rattle.xa_model.proofs.ProcessLemmas.SameParts.{Faces, SameBranches, or_false}
use Rattle.xa_model.proofs.ProcessLemmas.Facing.{faces_after, record_is, row_is, rows_after, records_after}
use Rattle.xa_model.proofs.ProcessLemmas.FacingDeals.{live_is, live_later}
use Rattle.xa_model.proofs.ProcessLemmas.SameLogs.{each_of_some_same, rows_again, records_again}
use Rattle.xa_model.proofs.ProcessLemmas.SameStates.{prepared_by_state, same_in_doubt}
use Rattle.xa_model.proofs.ProcessLemmas.Since.{IsLater, none_started}

-- the answers of the state table depend on the state alone
code_by_state : (tr ur : Trace) → SameBranches tr ur → (o : Option (_ × Branch)) → call_code ur o ≡ call_code tr o
code_by_state tr ur h (Some (k, b)) = λ i. answer k (h.states b i) (h.votes b i) (h.retries b i)
code_by_state tr ur h None = refl

pub each_once : (P Q : Gtrid → Type 0) → ((g : Gtrid) → P g → Q g) → (gs : List Gtrid) → EachOnce P gs → EachOnce Q gs
each_once P Q f [] h = tt
each_once P Q f (g ∷ gs) h = (f g h.0, h.1, each_once P Q f gs h.2)

module _ (past : Trace) (inv : Inv past) (tr ur : Trace) (f : Faces past tr ur) where
  live_same : (g : Gtrid) → live ur g ≡ true → live tr g ≡ true
  live_same g l = live_is past inv tr ur f.deals g ∙ l

  claimed_same : (g : Gtrid) → claimed ur g ≡ true → claimed tr g ≡ true
  claimed_same g c = f.deals.claimed_is g ∙ c

  has_row_same : (g : Gtrid) → has_row ur g ≡ true → has_row tr g ≡ true
  has_row_same g h = row_is past inv tr ur f.deals f.logs g ∙ h

  -- ** branches of a transaction that was begun since

  started_same : (b : Branch) → IsLater past b.gtrid → started tr b ≡ started ur b
  started_same b n = or_false _ _ _ (f.sayings.started_is b) (none_started past b inv n)

  told_more : (test : Call → Answer → Bool) → was_told ur test ≡ true → was_told tr test ≡ true
  told_more test h = f.sayings.told_is test ∙ or_left _ _ h

  has_voted_same : (b : Branch) → HasVoted ur b → HasVoted tr b
  has_voted_same b (inl h) = inl (told_more (says_yes b) h)
  has_voted_same b (inr h) = inr (told_more (says_read_only b) h)

  all_voted_same : (g : Gtrid) → IsLater past g → AllHaveVoted ur g → AllHaveVoted tr g
  all_voted_same g n v b q s = has_voted_same b (v b q (sym (started_same b (subst (IsLater past) (sym q) n)) ∙ s))

  settled_same : (b : Branch) → is_settled ur b ≡ true → is_settled tr b ≡ true
  settled_same b h =
      or_three (λ k. record_is past inv tr ur f.deals f.logs b ∙ k) (told_more (says_read_only b)) (told_more (acknowledges b)) h
    where
      or_three : {a b c x y z : Bool} → (a ≡ true → x ≡ true) → (b ≡ true → y ≡ true) → (c ≡ true → z ≡ true)
          → (a || (b || c)) ≡ true → (x || (y || z)) ≡ true
      or_three {a = true} p q r e = or_left _ _ (p refl)
      or_three {a = false} {b = true} p q r e = or_right _ _ (or_left _ _ (q refl))
      or_three {a = false} {b = false} p q r e = or_right _ _ (or_right _ _ (r e))

  all_settled_same : (g : Gtrid) → IsLater past g → AllAreSettled ur g → AllAreSettled tr g
  all_settled_same g n h b q s = settled_same b (h b q (sym (started_same b (subst (IsLater past) (sym q) n)) ∙ s))

  is_open_same : (g : Gtrid) → IsOpen ur g → IsOpen tr g
  is_open_same g o = record { is_live = live_same g o.is_live; unclaimed = f.deals.claimed_is g ∙ o.unclaimed }

  -- ** calls

  older_same : (g : Gtrid) → outlived ur g ≡ true → outlived tr g ≡ true
  older_same g h = (λ i. nat_lt g.incarnation (f.deals.incarnation_is i) && row_is past inv tr ur f.deals f.logs g i) ∙ h

  begun_same : (g : Gtrid) → begun ur g ≡ true → begun tr g ≡ true
  begun_same g h = f.deals.begun_is g ∙ h

  begun_or_outlived : (g : Gtrid) → (begun ur g || outlived ur g) ≡ true → (begun tr g || outlived tr g) ≡ true
  begun_or_outlived g h =
      (λ i. f.deals.begun_is g i || (nat_lt g.incarnation (f.deals.incarnation_is i) && row_is past inv tr ur f.deals f.logs g i)) ∙ h

  known_same : (k : Kind) (g : Gtrid) → IsKnown ur k g → IsKnown tr k g
  known_same Commit g h = begun_or_outlived g h
  known_same Start g h = begun_same g h
  known_same Join g h = begun_same g h
  known_same (End fail) g h = begun_same g h
  known_same Prepare g h = begun_same g h
  known_same OnePhase g h = begun_same g h
  known_same Rollback g h = begun_same g h
  known_same Forget g h = begun_same g h

  not_started_same : (b : Branch) → IsOpen ur b.gtrid → started ur b ≡ false → started tr b ≡ false
  not_started_same b o s = started_same b (live_later past inv tr ur f.deals b.gtrid o.is_live) ∙ s

  only_same : (b : Branch) → IsOpen ur b.gtrid → IsOnlyBranch ur b → IsOnlyBranch tr b
  only_same b o only =
      let n = live_later past inv tr ur f.deals b.gtrid o.is_live in (
        started_same b n ∙ only.0,
        λ c q s. only.1 c q (sym (started_same c (subst (IsLater past) (sym q) n)) ∙ s),
      )

  may_be_same : (k : Kind) (b : Branch) → MayBeCalled ur k b → MayBeCalled tr k b
  may_be_same Start b m = (not_started_same b m.1 m.0, is_open_same b.gtrid m.1)
  may_be_same Join b m = (not_started_same b m.1 m.0, is_open_same b.gtrid m.1)
  may_be_same (End fail) b m = tt
  may_be_same Prepare b m = is_open_same b.gtrid m
  may_be_same OnePhase b m = (is_open_same b.gtrid m.0, only_same b m.0 m.1)
  may_be_same Commit b m = has_row_same b.gtrid m
  may_be_same Rollback b (inl m) = inl (f.deals.decided_is Outcome.Rollback b.gtrid ∙ or_left _ _ m)
  may_be_same Rollback b (inr m) = inr (f.deals.handed_is b.gtrid ∙ or_left _ _ m)
  may_be_same Forget b m = record_is past inv tr ur f.deals f.logs b ∙ m

  call_same : (l : Line) (o : Option (Kind × Branch)) → IfSome o (λ p. RightCall ur l p.0 p.1) → IfSome o (λ p. RightCall tr l p.0 p.1)
  call_same l (Some (k, b)) r =
      record { known = known_same k b.gtrid r.known; own_rm = r.own_rm; own_thread = r.own_thread; may_be = may_be_same k b r.may_be }
  call_same l None r = tt

  closed_same : (l : Line) → is_closed ur l ≡ false → is_closed tr l ≡ false
  closed_same l h = ap has_closed (f.lines.issued_is l) ∙ h

  -- ** answers

  next_same : (l : Line) (c : Call) → next_call ur l ≡ Some c → next_call tr l ≡ Some c
  next_same l c h = (λ i. slice_get (f.lines.issued_is l i) (length (f.lines.taken_is l i))) ∙ h

  heard_same : (l : Line) (p : Call × Answer) → next_answer ur l ≡ Some p → next_answer tr l ≡ Some p
  heard_same l p h = (λ i. slice_get (f.lines.taken_is l i) (length (f.lines.heard_is l i))) ∙ h

  doubt_same : (r : ℕ) (b : Branch) → is_in_doubt_at ur r b ≡ true → is_in_doubt_at tr r b ≡ true
  doubt_same r b h = ap (λ t. nat_eq b.rm r && t) (sym (same_in_doubt (standing ur b) (standing tr b) (f.held.states b))) ∙ h

  page_same : (r : ℕ) (a : Answer) → IsSoundPage ur r a → IsSoundPage tr r a
  page_same r (Page names) h = λ b l. doubt_same r b (h b l)
  page_same r (Ret code) h = tt

  code_same : (c : Call) (a : Answer) → a ≡ Ret (call_code ur (asks_of c)) → a ≡ Ret (call_code tr (asks_of c))
  code_same c a h = h ∙ ap (λ x. Ret x) (code_by_state tr ur f.held (asks_of c))

  answer_same : (l : Line) (c : Call) (a : Answer) → SoundAnswer ur l c a → SoundAnswer tr l c a
  answer_same l (Calls.Recover n s e) a h = page_same l.rm a h
  answer_same l Calls.OpenRm a h = h
  answer_same l Calls.CloseRm a h = h
  answer_same l (Calls.Start b join) a h = code_same (Calls.Start b join) a h
  answer_same l (Calls.End b fail) a h = code_same (Calls.End b fail) a h
  answer_same l (Calls.Prepare b) a h = code_same (Calls.Prepare b) a h
  answer_same l (Calls.Commit b one_phase) a h = code_same (Calls.Commit b one_phase) a h
  answer_same l (Calls.Rollback b) a h = code_same (Calls.Rollback b) a h
  answer_same l (Calls.Forget b) a h = code_same (Calls.Forget b) a h

  -- ** decisions

  decision_same : (g : Gtrid) (o : Outcome) → RightDecision ur g o → RightDecision tr g o
  decision_same g o r = record { is_up = f.deals.up_is ∙ r.is_up; is_live = live_same g r.is_live; votes = λ q. by_votes (r.votes q) }
    where
      by_votes : AllHaveVoted ur g ⊎ (claimed ur g ≡ true) → AllHaveVoted tr g ⊎ (claimed tr g ≡ true)
      by_votes (inl v) = inl (all_voted_same g (live_later past inv tr ur f.deals g r.is_live) v)
      by_votes (inr c) = inr (claimed_same g c)

  claim_same : (g : Gtrid) → RightClaim ur g → RightClaim tr g
  claim_same g r = record {
    is_up = f.deals.up_is ∙ r.is_up;
    is_live = live_same g r.is_live;
    votes = all_voted_same g (live_later past inv tr ur f.deals g r.is_live) r.votes;
  }

  lately_same : (b : Branch) → is_settled_lately ur b ≡ is_settled_lately tr b
  lately_same b = sym (λ i. record_is past inv tr ur f.deals f.logs b i || f.sayings.lately_is (acknowledges b) i)

  row_settled_same : (g : Gtrid) → IsRowSettled ur g → IsRowSettled tr g
  row_settled_same g (inl h) = inl (begun_same g h.0, all_settled_same g (f.deals.begun_later g h.0) h.1)
  row_settled_same g (inr h) =
      inr (
        older_same g h.0,
        each_of_some_same (is_settled_lately ur) (is_settled_lately tr) (participants ur g) (participants tr g) lately_same (f.logs.rows.participants g) h.1,
      )

  done_same : (g : Gtrid) → RightDone ur g → RightDone tr g
  done_same g r = record { is_up = f.deals.up_is ∙ r.is_up; has = has_row_same g r.has; is_settled = row_settled_same g r.is_settled }

  fault_same : (e : Fault) → RightFault ur e → RightFault tr e
  fault_same (InDecide gs) r = each_once (RightRow ur) (RightRow tr) (λ g k. (decision_same g Outcome.Commit k.0, told_more _ k.1)) gs r
  fault_same (InDone gs) r = each_once (RightDone ur) (RightDone tr) done_same gs r
  fault_same (InHear l) r = f.deals.up_is ∙ r
  fault_same InResolve r = f.deals.up_is ∙ r
  fault_same InRestart r = f.deals.up_is ∙ r

  -- ** all that may happen

  pub right_same : (e : Happening) → Right ur e → Right tr e
  right_same (Begun g) r = (f.deals.up_is ∙ r.0, r.1 ∙ sym f.deals.incarnation_is, r.2 ∙ ap (λ n. n + 1) (sym f.deals.sequence_is))
  right_same (Issued l c) r = (f.deals.up_is ∙ r.0, call_same l (asks_of c) r.1, closed_same l r.2)
  right_same (Resolved n) r = (f.deals.up_is ∙ r.0, closed_same _ r.1)
  right_same (ResolvedOpen n) r = (f.deals.up_is ∙ r.0, closed_same _ r.1)
  right_same (Claimed g) r = claim_same g r
  right_same (Took l c a) r = (next_same l c r.0, answer_same l c a r.1)
  right_same (Heard l c a) r = (f.deals.up_is ∙ r.0, heard_same l (c, a) r.1)
  right_same (CompletedAlone b how) r = prepared_by_state (standing tr b) (sym (f.held.states b) ∙ ap state_of r)
  right_same (Decided g o) r = decision_same g o r
  right_same (Done g) r = done_same g r
  right_same (Crashed part) r = tt
  right_same (Failed e) r = fault_same e r
  right_same (Restarted i d h) r = (
    f.deals.up_is ∙ r.0,
    subst (λ n. n < i) (sym f.deals.incarnation_is) r.1,
    r.2 ∙ (rows_after past inv tr ur f.deals f.sayings f.logs (Restarted i d h) r).number,
    r.3 ∙ (records_after past inv tr ur f.deals f.logs (Restarted i d h)).number,
  )
  right_same _ r = tt

-- ** the start

pub gone_right : (past : Trace) → AllRight past → AllRight (gone past)
gone_right past a = (a, tt)

pub resumed_right : (past : Trace) (o : Origin) → AllRight past → Resumes past o → AllRight (resumed past o)
resumed_right past o a r = (gone_right past a, (refl, r.later, r.rows.number, r.records.number))

pub faces_first : (past : Trace) (o : Origin) → AllRight past → Resumes past o → Faces (gone past) (resumed past o) (From o)
faces_first past o a r = record {
  deals = record {
    later = r.later;
    up_is = refl;
    incarnation_is = refl;
    sequence_is = refl;
    begun_is = λ g. refl;
    begun_later = λ g b. absurd (none b);
    claimed_is = λ g. refl;
    decided_is = decided_first;
    handed_is = λ g. refl;
    page_is = λ n. refl;
  };
  sayings = record { started_is = λ b. refl; branches_are = refl; told_is = λ test. refl; lately_is = λ test. refl };
  logs = record { rows = r.rows; records = r.records; doubt_is = refl };
  lines = record { issued_is = λ l. refl; taken_is = λ l. refl; heard_is = λ l. refl };
  held = record { states = r.states; votes = r.votes; retries = r.retries };
}
  where
    none : false ≡ true → ⊥
    none e = cc

    decided_first : (x : Outcome) (g : Gtrid) → decided_so x (resumed past o) g ≡ (decided_so x (From o) g || decided_so x (gone past) g)
    decided_first Outcome.Commit g = refl
    decided_first Outcome.Rollback g = refl

-- ** all events

pub facing_all : (past tr ur : Trace) (xs : List (Step × Reply)) → AllRight past → AllRight tr → Faces past tr ur → AllAllowed ur xs
    → AllRight (with_steps tr xs) × Faces past (with_steps tr xs) (with_steps ur xs)
facing_all past tr ur [] a r f d = (r, f)
facing_all past tr ur (x ∷ xs) a r f d =
    let e = happened x.0 x.1 in
    let now : Right ur e = allowed_right ur x.0 x.1 d.0 in
    facing_all past (Then tr e) (Then ur e) xs a (r, right_same past (always past a) tr ur f e now) (faces_after past (always past a) tr ur f.deals f e now) d.1

pub joined_faces : (past : Trace) (o : Origin) (events : List Event) → AllRight past → Resumes past o → AreAllowed o events
    → AllRight (joined past o events) × Faces (gone past) (joined past o events) (history o events)
joined_faces past o events a r d =
    facing_all (gone past) (resumed past o) (From o) _ (gone_right past a) (resumed_right past o a r) (faces_first past o a r) d

-- ** the process after

pub resumes_both : (past tr ur : Trace) (next : Origin) → AllRight past → Faces past tr ur → Resumes ur next → Resumes tr next
resumes_both past tr ur next a f r = record {
  later = subst (λ n. n < next.incarnation) (sym f.deals.incarnation_is) r.later;
  rows = rows_again _ _ _ r.rows both.logs.rows;
  records = records_again _ _ _ r.records both.logs.records;
  states = λ b. r.states b ∙ crashed.held.states b;
  votes = λ b. r.votes b ∙ f.held.votes b;
  retries = λ b. r.retries b ∙ f.held.retries b;
}
  where
    crashed : Faces past (gone tr) (gone ur)
    crashed = faces_after past (always past a) tr ur f.deals f (Crashed Part.Manager) tt

    both : Faces past (resumed tr next) (resumed ur next)
    both = faces_after past (always past a) (gone tr) (gone ur) crashed.deals crashed _ (refl, r.later, r.rows.number, r.records.number)

-- ** any number of processes

pub of_processes_right : (whole : Trace) → OfProcesses whole → AllRight whole
of_processes_right _ (First o events r d) = all_right _ _ r d
of_processes_right _ (Next past o events p r d) = (joined_faces past o events (of_processes_right past p) r d).0
of_processes_right _ (Alone past b how p s) = (of_processes_right past p, s)
