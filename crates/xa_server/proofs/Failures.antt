-- Requests in which the log failed.
use Rattle.std.proofs.Common.{◌≡◌, ◌∙◌, ◌⊎◌, inl, inr, ℕ, ℤ, [], ◌∷◌, Bool, true, false, Option, Some, None, ap, refl, sym}
use Rattle.std.specs.Prelude.{if◌then◌else◌, length, IfErr, MatchBool, Result, Ok, Err, slice_get}
use Rattle.std.specs.Option.{option_and_then, option_map, option_or}
use Rattle.xa_base.specs.Answer.{answer_number, map_answer}
use Rattle.xa_base.specs.Call.{map_call}
use Rattle.xa_base.specs.Xid.{Xid}
use Rattle.xa_base.specs.declared.answer.Answer.{Answer}
use Rattle.xa_base.specs.declared.answer.Answer.TheVariants.{Ret}
use Rattle.xa_base.specs.declared.branch.Gtrid.{Gtrid}
use Rattle.xa_base.specs.declared.call.Call.{Call as Waiting}
use Rattle.xa_base.specs.declared.refusal.Refusal.{Refusal}
use Rattle.xa_base.specs.declared.refusal.Refusal.TheVariants.{Limit, LogFault, Memory}
use Rattle.xa_base.specs.declared.step.Part.TheVariants as Parts
use Rattle.xa_base.specs.declared.step.Step.TheVariants as Steps
use Rattle.xa_server.specs.Calls.{answer_reply, waits_for_other}
use Rattle.xa_session.specs.Steps.{Hears}
use Rattle.xa_server.specs.Faults.{MayChangeRows}
use Rattle.xa_server.specs.Performing.{Performs}
use Rattle.xa_server.specs.Releasing.{ReleasesAll, if_taken, transaction_of}
use Rattle.xa_server.specs.Replies.{response_of}
use Rattle.xa_server.specs.Standing.{LacksMemory, OnlyTells, StandsFor}
use Rattle.xa_server.specs.declared.server.Server.{Server}
use Rattle.xa_server.proofs.FaultLemmas.{fault_is_told, decided_is_no_refusal, noted_is_no_refusal}
use Rattle.xa_line.specs.Grid.{grid_has_line, line_at}
use Rattle.xa_line.specs.Histories.{known}
use Rattle.xa_log.specs.Contract.{Moment}
use Rattle.xa_model.specs.Facts.{record_of}
use Rattle.xa_model.specs.Replies.History.{name_of}
use Rattle.xa_model.specs.Trace.{Branch, Call, Code, Fault, Fault.InDecide, Fault.InDone, Fault.InHear, Happening.Decided, Happening.Done, Happening.Failed, Origin, line}
use Rattle.xa_requests.specs.declared.request.CallName.{CallName}
use Rattle.xa_requests.specs.declared.request.Request.{Request}
use Rattle.xa_requests.specs.declared.request.Request.TheVariants as requests
use Rattle.xa_requests.specs.declared.response.RequestFault.TheVariants as faults
use Rattle.xa_requests.specs.declared.response.Response.{Response}
use Rattle.xa_requests.specs.declared.response.Response.TheVariants as responses
use Rattle.xa_session.proofs.Refusals.{no_fault_in_turn, if_there}
use Rattle.xa_session.proofs.Sessions.{never_the_log}
use Rattle.xa_session.specs.Answering.{FailsToHear, IsFirst}
use Rattle.xa_session.specs.Hearing.{can_hear}
use Rattle.xa_session.specs.Session.{IsExplainable, decide_all_refusal, done_all_refusal, has_room_for, known_waiting, line_refusal, refusal_at, unfit, unfit_for}
use Rattle.xa_session.specs.Tracking.{FailedDecisionsAreFound, FailedDonesAreFound, FailedSettlementsAreFound, IsFailedStep, KeepsTrack}
use Rattle.xa_session.specs.declared.session.Session.{Session}
use Rattle.xa_session.specs.declared.session.answers.Unfit.{Unfit}
use Rattle.xa_session.specs.declared.session.answers.Unfit.TheVariants as Unfits
use Rattle.xa_monitor.specs.Seen.{Seen}
use Rattle.xa_tm.specs.Book.{Book, Doubt, Doubt.Drops, Doubt.Adds, book_after, doubt_of, rows_for}
use Rattle.xa_tm.specs.Calls.{FailsBy, book_in, written_by}
use Rattle.xa_tm.specs.InTurn as turns

-- the log failed in a request: in this step of the session, by which the book then is as it was, with this change in doubt
pub record IsFailed {L : Type 0} (o : Origin) (seen : Seen) (now left : Server L) : Type 0 where
  pub asked : Doubt
  pub fault : Fault
  pub step : IsFailedStep o seen now.session asked fault
  pub book : book_in left.session.manager ≡ book_after (book_in now.session.manager) asked (Failed fault)

-- ** no rule is that the log failed

-- a rule beside those of the book is that too much has happened
pub if_room : (t : Bool) (x : Option Refusal) → (x ≡ Some LogFault → ⊥) → (if t then x else Some Limit) ≡ Some LogFault → ⊥
if_room true x never e = never e
if_room false x never e = absurd (cc)

if_not_over : (t : Bool) (x : Option Refusal) → (if t then Some Limit else x) ≡ None → x ≡ None
if_not_over true x e = absurd (cc)
if_not_over false x e = e

module _ {L : Type 0} (o : Origin) (seen : Seen) (now left : Server L) (asked : Doubt) (fault : Fault) where
  abbrev k : Book
  k = book_in now.session.manager

  -- a request that stood for one call of the session was replied that the log failed
  by_one_call : (why : Option Refusal) (taken : Response) (mid : Session L) (r : Result (Unit {0}) Refusal) → (why ≡ Some LogFault → ⊥)
      → ((let told : Response = responses.Refused LogFault in told) ≡ taken → ⊥)
      → (let told : Response = responses.Refused LogFault in told) ≡ response_of (λ _. taken) r
      → ((n : Refusal) → why ≡ Some n → (r ≡ Err n) × (mid ≡ now.session)) → (why ≡ None → IfErr r (FailsBy asked fault k (book_in mid.manager)))
      → left.session.manager ≡ mid.manager → (why ≡ None → r ≡ Err LogFault → IsFailedStep o seen now.session asked fault) → IsFailed o seen now left
  by_one_call why taken mid (Ok x) never other told refused fails same step = absurd (other told)
  by_one_call why taken mid (Err n) never other told refused fails same step = by why refl
    where
      is : n ≡ LogFault
      is = fault_is_told n told

      errs : (let x : Result (Unit {0}) Refusal = Err n in x) ≡ Err LogFault
      errs = ap (λ m. let x : Result (Unit {0}) Refusal = Err m in x) is

      failed : why ≡ None → FailsBy asked fault k (book_in mid.manager) n → IsFailed o seen now left
      failed none (inl memory) = absurd (let no : Memory ≡ LogFault = sym memory.0 ∙ is in cc)
      failed none (inr fell) = record { asked = asked; fault = fault; step = step none errs; book = ap (λ m. book_in m) same ∙ fell.1 }

      by : (w : Option Refusal) → why ≡ w → IsFailed o seen now left
      by None none = failed none (fails none)
      by (Some m) some = absurd (never (some ∙ ap (λ p. let x : Option Refusal = Some p in x) (told_first m (refused m some).0)))
        where
          told_first : (m : Refusal) → (let x : Result (Unit {0}) Refusal = Err n in x) ≡ Err m → m ≡ LogFault
          told_first m e = cc

module _ {L : Type 0} (moment : L → Moment) (decisions : FailedDecisionsAreFound L) (settlements : FailedSettlementsAreFound L) (dones : FailedDonesAreFound L)
    (o : Origin) (seen : Seen) (now left : Server L) (tracks : KeepsTrack o seen now.session) where
  abbrev s : Session L
  s = now.session

  pub failed_in_request : (request : Request) → MayChangeRows request → Performs moment request now (responses.Refused LogFault) left
      → IsFailed o seen now left
  failed_in_request (requests.Decide gs outcome) asks did =
      by_one_call o seen now left (turns.rows_added outcome (book_in s.manager) gs) (InDecide (written_by outcome (book_in s.manager) gs))
      (decide_all_refusal s outcome gs) responses.Decided did.mid.session did.does.result
      (if_room (has_room_for s (length gs)) _ (no_fault_in_turn (λ g. Steps.Decide g outcome) (λ g. Decided g outcome) gs (book_in s.manager)))
      decided_is_no_refusal did.does.told did.does.does.rules.refused did.does.does.asks.fails (ap (λ (c : Server L). c.session.manager) did.releases)
      (λ none fault. decisions o seen s outcome gs tracks (if_there (has_room_for s (length gs)) _ Limit none))
  failed_in_request (requests.Settle g) asks did =
      by_one_call o seen now left (Adds (rows_for (book_in s.manager) (g ∷ []))) (InDecide (g ∷ []))
      (refusal_at s (Steps.Settle g)) responses.Decided did.mid.session did.does.result
      (never_the_log s (Steps.Settle g))
      decided_is_no_refusal did.does.told did.does.does.rules.refused did.does.does.asks.fails (ap (λ (c : Server L). c.session.manager) did.releases)
      (λ none fault. settlements o seen s g tracks (if_not_over _ _ none) (did.does.does.asked none fault))
  failed_in_request (requests.Done gs) asks did =
      by_one_call o seen now left (Drops gs) (InDone gs) (done_all_refusal s gs) responses.Noted did.mid.session did.does.result
      (if_room (has_room_for s (length gs)) _ (no_fault_in_turn (λ g. Steps.Done g) (λ g. Done g) gs (book_in s.manager)))
      noted_is_no_refusal did.does.told did.does.does.rules.refused did.does.does.asks.fails (ap (λ (c : Server L). c.session.manager) did.releases)
      (λ none fault. dones o seen s gs tracks (if_there (has_room_for s (length gs)) _ Limit none))
  failed_in_request (requests.Begin t) asks did = absurd asks
  failed_in_request (requests.Issue t r call) asks did = absurd asks
  failed_in_request (requests.Answer t r name answer) asks did = absurd asks
  failed_in_request (requests.Claim g) asks did = absurd asks
  failed_in_request (requests.Abandon g) asks did = absurd asks
  failed_in_request (requests.Resolve r) asks did = absurd asks
  failed_in_request (requests.ResolveOpen r) asks did = absurd asks
  failed_in_request (requests.Waiting t r) asks did = absurd asks
  failed_in_request (requests.Owed r) asks did = absurd asks
  failed_in_request (requests.CrashLine t r) asks did = absurd asks
  failed_in_request (requests.CrashRm r) asks did = absurd asks
  failed_in_request requests.Status asks did = absurd asks
  failed_in_request requests.Quit asks did = absurd asks

-- ** an answer whose record couldn't be written

answer_is_no_refusal : (name : CallName) (n : ℤ) → (let r : Response = responses.Refused LogFault in r) ≡ responses.Heard name.kind n → ⊥
answer_is_no_refusal name n e = cc

no_line_fault : (why : Option Refusal) (o : Option Unfit) → (why ≡ Some LogFault → ⊥) → (o ≡ Some (Unfits.Refused LogFault) → ⊥)
    → option_or (option_map Unfits.Refused why) o ≡ Some (Unfits.Refused LogFault) → ⊥
no_line_fault None o not never e = never e
no_line_fault (Some n) o not never e = not cc

no_call_fault : (o : Option (Waiting Xid)) (answer : Answer Xid) → unfit_for o answer ≡ Some (Unfits.Refused LogFault) → ⊥
no_call_fault None answer e = absurd (cc)
no_call_fault (Some call) answer e = by (can_hear (map_call name_of call) (map_answer name_of answer)) e
  where
    by : (t : Bool) → (if t then None else Some Unfits.NoSuchAnswer) ≡ Some (Unfits.Refused LogFault) → ⊥
    by true e = absurd (cc)
    by false e = absurd (cc)

-- the call that waits first, as it waits
first_of : (t : Bool) (o : Option (Waiting Xid)) (c : Call) → option_and_then known (if t then o else None) ≡ Some c
    → (call : Waiting Xid) × (o ≡ Some call) × (known call ≡ Some c)
first_of true (Some call) c e = (call, refl, e)
first_of true None c e = absurd (cc)
first_of false o c e = absurd (cc)

-- a request that is refused ends no transaction
none_ended : {L : Type 0} (o : Option Gtrid) (mid left : Server L) → ReleasesAll (if_taken (responses.Refused LogFault) o) mid left → left ≡ mid
none_ended None mid left same = same
none_ended (Some g) mid left same = same

-- The log failed in an answer: the answer was fit, this call waits first, each branch has a state that explains it, and the book is as it was,
-- with the record of the answer in doubt.
pub record IsFailedToHear {L : Type 0} (t r : ℕ) (code : Code) (c : Call) (now left : Server L) : Type 0 where
  pub fit : unfit now.session t r (Ret code) ≡ None
  pub first : IsFirst now.session t r c
  pub explains : IsExplainable now.session t r (Ret code)
  pub book : book_in left.session.manager ≡ book_after (book_in now.session.manager) (doubt_of (record_of c (Ret code))) (Failed (InHear (line t r)))

module _ {L : Type 0} (moment : L → Moment) (now left : Server L) (t r : ℕ) (name : CallName) (code : Code) (c : Call)
    (waits : known_waiting now.session.lines t r ≡ Some c) where
  first_so : IsFirst now.session t r c
  first_so = first_of (grid_has_line now.session.lines t r) (slice_get (line_at now.session.lines t r).calls.waiting 0) c waits

  not_heard : (mid : Session L) (n : Refusal) (result : Result (Unit {0}) Unfit) → result ≡ Err (Unfits.Refused n) → n ≡ LogFault
      → Hears t r (Ret code) now.session mid result → left.session.manager ≡ mid.manager → IsFailedToHear t r code c now left
  not_heard mid n result is fault does same = record {
    fit = fit_so;
    first = first_so;
    explains = does.explained fit_so no_state;
    book = ap (λ m. book_in m) same ∙ by (does.fails n is fit_so c first_so);
  }
    where
      no_state : (b : Branch) → result ≡ Err (Unfits.NoSuchState b) → ⊥
      no_state b e = let both : (let x : Result (Unit {0}) Unfit = Err (Unfits.Refused n) in x) ≡ Err (Unfits.NoSuchState b) = sym is ∙ e in cc

      told : (u : Unfit) → result ≡ Err u → u ≡ Unfits.Refused LogFault
      told u e = let both : (let x : Result (Unit {0}) Unfit = Err u in x) ≡ Err (Unfits.Refused n) = sym e ∙ is in cc (both, fault)

      fit_by : (o : Option Unfit) → unfit now.session t r (Ret code) ≡ o → o ≡ None
      fit_by None e = refl
      fit_by (Some u) e = absurd (no_line_fault (line_refusal now.session t r) _ (never_the_log now.session (Steps.Crash (Parts.Line t r)))
          (no_call_fault (slice_get (line_at now.session.lines t r).calls.waiting 0) (Ret code))
          (e ∙ ap (λ x. let y : Option Unfit = Some x in y) (told u (does.refused u e).0)))

      fit_so : unfit now.session t r (Ret code) ≡ None
      fit_so = fit_by (unfit now.session t r (Ret code)) refl

      by : FailsToHear t r c (Ret code) now.session mid n
          → book_in mid.manager ≡ book_after (book_in now.session.manager) (doubt_of (record_of c (Ret code))) (Failed (InHear (line t r)))
      by (inl memory) = absurd (let no : Memory ≡ LogFault = sym memory.0 ∙ fault in cc)
      by (inr fell) = fell.1

  heard_or_not : (mid : Server L) (result : Result (Unit {0}) Unfit) → Hears t r (Ret code) now.session mid.session result
      → (let x : Response = responses.Refused LogFault in x)
      ≡ answer_reply (responses.Heard name.kind (answer_number (let a : Answer Xid = Ret code in a))) result
      → left.session.manager ≡ mid.session.manager → IsFailedToHear t r code c now left
  heard_or_not mid (Ok x) does told same = absurd (answer_is_no_refusal name _ told)
  heard_or_not mid (Err (Unfits.Refused n)) does told same = not_heard mid.session n (Err (Unfits.Refused n)) refl (fault_is_told n told) does same
  heard_or_not mid (Err Unfits.NothingWaits) does told same = absurd (cc)
  heard_or_not mid (Err Unfits.NoSuchAnswer) does told same = absurd (cc)
  heard_or_not mid (Err (Unfits.NoSuchState b)) does told same = absurd (cc)

  pub failed_in_answer : Performs moment (requests.Answer t r name (Ret code)) now (responses.Refused LogFault) left → IsFailedToHear t r code c now left
  failed_in_answer did = by (waits_for_other now.session.lines t r name) did.does
    where
      same : left.session.manager ≡ did.mid.session.manager
      same = ap (λ (c : Server L). c.session.manager) (none_ended (transaction_of name) did.mid left did.releases)

      by : (other : Bool) → MatchBool other (OnlyTells (responses.Fault faults.OtherCall) now (responses.Refused LogFault) did.mid)
          (StandsFor (Hears t r (Ret code)) (answer_reply (responses.Heard name.kind (answer_number (let a : Answer Xid = Ret code in a)))) now
          (responses.Refused LogFault) did.mid ⊎ LacksMemory now (responses.Refused LogFault) did.mid)
          → IsFailedToHear t r code c now left
      by true fault = absurd (let no = fault.0 in cc)
      by false (inl stands) = heard_or_not did.mid stands.result stands.does stands.told same
      by false (inr lacks) = absurd (let no = fault_is_told Memory lacks.0 in cc)
