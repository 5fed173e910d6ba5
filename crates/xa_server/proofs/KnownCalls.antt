-- Calls that a session takes are known to a history.
use Rattle.std.proofs.Common.{◌≡◌, ℕ, Bool, true, false, not, Option, Some, None, refl, sym, ◌∙◌, subst}
use Rattle.std.specs.Prelude.{if◌then◌else◌, slice_get}
use Rattle.std.specs.Option.{option_map, option_or}
use Rattle.xa_base.specs.Answer.{map_answer}
use Rattle.xa_base.specs.Call.{map_call}
use Rattle.xa_base.specs.Xid.{Xid}
use Rattle.xa_base.specs.declared.answer.Answer as Given
use Rattle.xa_base.specs.declared.answer.Answer.TheVariants.{Page, Ret}
use Rattle.xa_base.specs.declared.call.Call as Asking
use Rattle.xa_base.specs.declared.call.Call.TheVariants as Calls
use Rattle.xa_base.specs.declared.step.Step.TheVariants as Steps
use Rattle.xa_server.specs.Calls.{is_other, is_to, waits_for_other}
use Rattle.xa_line.specs.Grid.{line_at}
use Rattle.xa_line.specs.Histories.{known}
use Rattle.xa_model.specs.Replies.History.{name_of}
use Rattle.xa_model.specs.Replies.Steps.{accepted}
use Rattle.xa_model.specs.Trace.{Answer, Call, Name.Foreign, Name.Ours}
use Rattle.xa_requests.specs.declared.request.CallName.{CallName}
use Rattle.xa_session.specs.Hearing.{can_hear}
use Rattle.xa_session.specs.Session.{issue_refusal, line_refusal, unfit, unfit_for}
use Rattle.xa_session.specs.declared.session.Session.{Session}
use Rattle.xa_session.specs.declared.session.answers.Unfit.TheVariants as Unfits
use Rattle.xa_session.proofs.Lines.{issue_rule, may_tell}
use Rattle.xa_tm.specs.Calls.{book_in}
use Rattle.xa_tm.specs.News.{Asked}
use Rattle.xa_model.proofs.Replies.Guards.{known_call}
use Rattle.xa_tm.specs.Refusing.{refusal_in, view_in}
use Rattle.xa_tm.proofs.Maps.Issue.{none_of_call}

-- ** reasons

pub or_none : {A : Type 0} (x y : Option A) → option_or x y ≡ None → (x ≡ None) × (y ≡ None)
or_none None y e = (refl, e)
or_none (Some a) y e = absurd (cc)

map_none : {A B : Type 0} (f : A → B) (x : Option A) → option_map f x ≡ None → x ≡ None
map_none f None e = refl
map_none f (Some a) e = absurd (cc)

-- ** a call that may be issued

pub known_issue : {L : Type 0} (s : Session L) (t r : ℕ) (call : Asking.Call Xid) → issue_refusal s t r call ≡ None → (c : Call) × (known call ≡ Some c)
known_issue s t r call none =
    let asked = map_call name_of call in
    let rules : refusal_in (book_in s.manager) (Steps.Issue t r asked) ≡ None =
    (or_none _ _ (or_none _ _ (or_none _ _ (sym (issue_rule s t r call) ∙ none)).1).1).0 in
    known_call (view_in (book_in s.manager)) t r asked (none_of_call (book_in s.manager) t r asked rules)

-- ** a call that waits first, and is answered

known_heard : (a : Asked) (answer : Answer) → can_hear a answer ≡ true → (c : Call) × (accepted a ≡ Some c)
known_heard Calls.OpenRm answer e = (_, refl)
known_heard Calls.CloseRm answer e = (_, refl)
known_heard (Calls.Recover n x y) answer e = (_, refl)
known_heard (Calls.Start (Ours b) j) answer e = (_, refl)
known_heard (Calls.Start (Foreign x) j) (Ret code) e = absurd (cc)
known_heard (Calls.Start (Foreign x) j) (Page names) e = absurd (cc)
known_heard (Calls.End (Ours b) j) answer e = (_, refl)
known_heard (Calls.End (Foreign x) j) (Ret code) e = absurd (cc)
known_heard (Calls.End (Foreign x) j) (Page names) e = absurd (cc)
known_heard (Calls.Prepare (Ours b)) answer e = (_, refl)
known_heard (Calls.Prepare (Foreign x)) (Ret code) e = absurd (cc)
known_heard (Calls.Prepare (Foreign x)) (Page names) e = absurd (cc)
known_heard (Calls.Commit (Ours b) o) answer e = (_, refl)
known_heard (Calls.Commit (Foreign x) o) (Ret code) e = absurd (cc)
known_heard (Calls.Commit (Foreign x) o) (Page names) e = absurd (cc)
known_heard (Calls.Rollback (Ours b)) answer e = (_, refl)
known_heard (Calls.Rollback (Foreign x)) (Ret code) e = absurd (cc)
known_heard (Calls.Rollback (Foreign x)) (Page names) e = absurd (cc)
known_heard (Calls.Forget (Ours b)) answer e = (_, refl)
known_heard (Calls.Forget (Foreign x)) (Ret code) e = absurd (cc)
known_heard (Calls.Forget (Foreign x)) (Page names) e = absurd (cc)

-- it waits, and is known so
pub record IsKnownFirst (waiting : Option (Asking.Call Xid)) : Type 0 where
  pub call : Asking.Call Xid
  pub waits : waiting ≡ Some call
  pub known_so : (c : Call) × (known call ≡ Some c)

first_fit : (waiting : Option (Asking.Call Xid)) (answer : Given.Answer Xid) → unfit_for waiting answer ≡ None → IsKnownFirst waiting
first_fit None answer e = absurd (cc)
first_fit (Some call) answer e = record { call = call; waits = refl; known_so = known_heard (map_call name_of call) (map_answer name_of answer) (by _ e) }
  where
    by : (t : Bool) → (if t then None else Some Unfits.NoSuchAnswer) ≡ None → t ≡ true
    by true e = refl
    by false e = absurd (cc)

pub known_first : {L : Type 0} (s : Session L) (t r : ℕ) (answer : Given.Answer Xid) → unfit s t r answer ≡ None
    → IsKnownFirst (slice_get (line_at s.lines t r).calls.waiting 0)
known_first s t r answer none = first_fit (slice_get (line_at s.lines t r).calls.waiting 0) answer (or_none _ _ none).1

-- it has the name that was told
pub named_first : {L : Type 0} (s : Session L) (t r : ℕ) (answer : Given.Answer Xid) (name : CallName) (call : Asking.Call Xid) → unfit s t r answer ≡ None
    → slice_get (line_at s.lines t r).calls.waiting 0 ≡ Some call → waits_for_other s.lines t r name ≡ false → is_to call name ≡ true
named_first s t r answer name call none waits same =
    let waiting = slice_get (line_at s.lines t r).calls.waiting 0 in
    let told : line_refusal s t r ≡ None = map_none Unfits.Refused (line_refusal s t r)
    (or_none (option_map Unfits.Refused (line_refusal s t r)) (unfit_for waiting answer) none).0 in
    by _ (subst (λ b. is_other (if b then slice_get (line_at s.lines t r).calls.waiting 0 else None) name ≡ false) (may_tell s t r told).there same) waits
  where
    not_not : (b : Bool) → not b ≡ false → b ≡ true
    not_not true e = refl
    not_not false e = absurd (cc)

    by : (waiting : Option (Asking.Call Xid)) → is_other waiting name ≡ false → waiting ≡ Some call → is_to call name ≡ true
    by None e waits = absurd (cc)
    by (Some first) e waits = not_not (is_to call name) (subst (λ w. is_other w name ≡ false) waits e)
