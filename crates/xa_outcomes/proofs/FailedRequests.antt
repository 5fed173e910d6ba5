-- A session that is left in a request in which its log failed: in which step that was, and that it
-- commits no other transactions than were asked for.
use Rattle.std.proofs.Common.{◌≡◌, ◌∙◌, ◌⊎◌, inl, inr, Bool, true, false, ◌||◌, List, [], ◌∷◌, length, Option, Some, None, ap, refl, sym}
use Rattle.std.proofs.lemmas.Bool.{or_cases, or_left, or_right, true≢false}
use Rattle.std.specs.Prelude.{filter, if◌then◌else◌, IfErr, Result, Ok, Err}
use Rattle.xa_base.specs.Branch.{gtrid_eq}
use Rattle.xa_base.specs.declared.branch.Gtrid.{Gtrid}
use Rattle.xa_base.specs.declared.refusal.Refusal.{Refusal}
use Rattle.xa_base.specs.declared.refusal.Refusal.TheVariants.{Limit, LogFault, Memory}
use Rattle.xa_base.specs.declared.step.Outcome.{Outcome}
use Rattle.xa_base.specs.declared.step.Outcome.TheVariants as Outcomes
use Rattle.xa_base.specs.declared.step.Step.TheVariants as Steps
use Rattle.xa_log.specs.Contract.{Moment}
use Rattle.xa_model.specs.Facts.{has_gtrid}
use Rattle.xa_model.specs.Trace.{Fault, Fault.InDecide, Fault.InDone, Happening.Decided, Happening.Done, Happening.Failed, Origin}
use Rattle.xa_monitor.specs.Seen.{Seen}
use Rattle.xa_outcomes.specs.Outcomes.{IsLeftDeciding}
use Rattle.xa_outcomes.specs.Served.{AsksToCommit}
use Rattle.xa_requests.specs.declared.request.Request.{Request}
use Rattle.xa_requests.specs.declared.request.Request.TheVariants as requests
use Rattle.xa_requests.specs.declared.response.Response.{Response}
use Rattle.xa_requests.specs.declared.response.Response.TheVariants as responses
use Rattle.xa_server.proofs.Failures.{if_room}
use Rattle.xa_server.proofs.FaultLemmas.{decided_is_no_refusal, fault_is_told, noted_is_no_refusal}
use Rattle.xa_server.specs.Faults.{MayChangeRows}
use Rattle.xa_server.specs.Performing.{Performs}
use Rattle.xa_server.specs.Replies.{response_of}
use Rattle.xa_server.specs.declared.server.Server.{Server}
use Rattle.xa_session.proofs.Refusals.{if_there, no_fault_in_turn}
use Rattle.xa_session.proofs.Sessions.{never_the_log}
use Rattle.xa_session.specs.Session.{decide_all_refusal, done_all_refusal, has_room_for, refusal_at}
use Rattle.xa_session.specs.Tracking.{FailedDecisionsAreFound, FailedDonesAreFound, FailedSettlementsAreFound, IsFailedStep, KeepsTrack}
use Rattle.xa_session.specs.declared.session.Session.{Session}
use Rattle.xa_tm.specs.Book.{Book, Doubt, Doubt.Adds, Doubt.Drops, book_after, rows_for}
use Rattle.xa_tm.specs.Calls.{FailsBy, book_in, written_by}
use Rattle.xa_tm.specs.InTurn as turns

-- the log failed in a request: in this step of the session, by which the book then is as it was,
-- with this change in doubt
pub record FailsIn {L : Type 0} (o : Origin) (seen : Seen) (now left : Server L) (asked : Doubt) (fault : Fault) : Type 0 where
  pub step : IsFailedStep o seen now.session asked fault
  pub book : book_in left.session.manager ≡ book_after (book_in now.session.manager) asked (Failed fault)

-- and it commits this transaction only if that was asked for
pub record FailsAsAsked {L : Type 0} (o : Origin) (seen : Seen) (now left : Server L) (g : Gtrid) (request : Request) : Type 0 where
  pub asked : Doubt
  pub fault : Fault
  pub fails : FailsIn o seen now left asked fault
  pub as_asked : IsLeftDeciding g (Some fault) → AsksToCommit g request

if_not_over : (t : Bool) (x : Option Refusal) → (if t then Some Limit else x) ≡ None → x ≡ None
if_not_over true x e = absurd (cc)
if_not_over false x e = e

module _ {L : Type 0} (o : Origin) (seen : Seen) (now left : Server L) (asked : Doubt) (fault : Fault) where
  abbrev k : Book
  k = book_in now.session.manager

  -- a request that stood for one call of the session was replied that the log failed
  by_one_call : (why : Option Refusal) (taken : Response) (mid : Session L) (r : Result (Unit {0}) Refusal) → (why ≡ Some LogFault → ⊥)
      → ((let told : Response = responses.Refused LogFault in told) ≡ taken → ⊥)
      → (let told : Response = responses.Refused LogFault in told) ≡ response_of (λ _. taken) r
      → ((n : Refusal) → why ≡ Some n → (r ≡ Err n) × (mid ≡ now.session)) → (why ≡ None → IfErr r (FailsBy asked fault k (book_in mid.manager)))
      → left.session.manager ≡ mid.manager → (why ≡ None → r ≡ Err LogFault → IsFailedStep o seen now.session asked fault)
      → FailsIn o seen now left asked fault
  by_one_call why taken mid (Ok x) never other told refused fails same step = absurd (other told)
  by_one_call why taken mid (Err n) never other told refused fails same step = by why refl
    where
      is : n ≡ LogFault
      is = fault_is_told n told

      errs : (let x : Result (Unit {0}) Refusal = Err n in x) ≡ Err LogFault
      errs = ap (λ m. let x : Result (Unit {0}) Refusal = Err m in x) is

      failed : why ≡ None → FailsBy asked fault k (book_in mid.manager) n → FailsIn o seen now left asked fault
      failed none (inl memory) = absurd (let no : Memory ≡ LogFault = sym memory.0 ∙ is in cc)
      failed none (inr fell) = record { step = step none errs; book = ap (λ m. book_in m) same ∙ fell.1 }

      by : (w : Option Refusal) → why ≡ w → FailsIn o seen now left asked fault
      by None none = failed none (fails none)
      by (Some m) some = absurd (never (some ∙ ap (λ p. let x : Option Refusal = Some p in x) (told_first m (refused m some).0)))
        where
          told_first : (m : Refusal) → (let x : Result (Unit {0}) Refusal = Err n in x) ≡ Err m → m ≡ LogFault
          told_first m e = cc

-- ** which transactions

filtered_more : (h g : Gtrid) (t : Bool) (xs ys : List Gtrid) → (has_gtrid xs g ≡ true → has_gtrid ys g ≡ true)
    → has_gtrid (if t then h ∷ xs else xs) g ≡ true → has_gtrid (h ∷ ys) g ≡ true
filtered_more h g true xs ys on e = by (or_cases _ _ e)
  where
    by : (gtrid_eq h g ≡ true) ⊎ (has_gtrid xs g ≡ true) → has_gtrid (h ∷ ys) g ≡ true
    by (inl first) = or_left _ _ first
    by (inr rest) = or_right _ _ (on rest)
filtered_more h g false xs ys on e = or_right _ _ (on e)

filtered_some : (p : Gtrid → Bool) (gs : List Gtrid) (g : Gtrid) → has_gtrid (filter p gs) g ≡ true → has_gtrid gs g ≡ true
filtered_some p [] g e = e
filtered_some p (h ∷ gs) g e = filtered_more h g (p h) (filter p gs) gs (filtered_some p gs g) e

none_written : (k : Book) (gs : List Gtrid) → written_by Outcomes.Rollback k gs ≡ []
none_written k [] = refl
none_written k (g ∷ gs) = none_written k gs

decided_asked : (outcome : Outcome) (k : Book) (gs : List Gtrid) (g : Gtrid) → has_gtrid (written_by outcome k gs) g ≡ true
    → AsksToCommit g (requests.Decide gs outcome)
decided_asked Outcomes.Commit k gs g e = filtered_some (λ h. (k.transaction h).has_yes) gs g e
decided_asked Outcomes.Rollback k gs g e = absurd (true≢false (sym e ∙ ap (λ xs. has_gtrid xs g) (none_written k gs)))

only_one : (t : Bool) → (t || false) ≡ true → t ≡ true
only_one true e = refl
only_one false e = e

-- ** all requests

module _ {L : Type 0} (moment : L → Moment) (decisions : FailedDecisionsAreFound L) (settlements : FailedSettlementsAreFound L) (dones : FailedDonesAreFound L)
    (o : Origin) (seen : Seen) (now left : Server L) (tracks : KeepsTrack o seen now.session) (g : Gtrid) where
  abbrev s : Session L
  s = now.session

  pub fails_as_asked : (request : Request) → MayChangeRows request → Performs moment request now (responses.Refused LogFault) left
      → FailsAsAsked o seen now left g request
  fails_as_asked (requests.Decide gs outcome) asks did = record {
    asked = turns.rows_added outcome (book_in s.manager) gs;
    fault = InDecide (written_by outcome (book_in s.manager) gs);
    fails = by_one_call o seen now left (turns.rows_added outcome (book_in s.manager) gs) (InDecide (written_by outcome (book_in s.manager) gs))
        (decide_all_refusal s outcome gs) responses.Decided did.mid.session did.does.result
        (if_room (has_room_for s (length gs)) _ (no_fault_in_turn (λ g. Steps.Decide g outcome) (λ g. Decided g outcome) gs (book_in s.manager)))
        decided_is_no_refusal did.does.told did.does.does.rules.refused did.does.does.asks.fails (ap (λ (c : Server L). c.session.manager) did.releases)
        (λ none fault. decisions o seen s outcome gs tracks (if_there (has_room_for s (length gs)) _ Limit none));
    as_asked = decided_asked outcome (book_in s.manager) gs g;
  }
  fails_as_asked (requests.Settle h) asks did = record {
    asked = Adds (rows_for (book_in s.manager) (h ∷ []));
    fault = InDecide (h ∷ []);
    fails = by_one_call o seen now left (Adds (rows_for (book_in s.manager) (h ∷ []))) (InDecide (h ∷ []))
        (refusal_at s (Steps.Settle h)) responses.Decided did.mid.session did.does.result
        (never_the_log s (Steps.Settle h))
        decided_is_no_refusal did.does.told did.does.does.rules.refused did.does.does.asks.fails (ap (λ (c : Server L). c.session.manager) did.releases)
        (λ none fault. settlements o seen s h tracks (if_not_over _ _ none) (did.does.does.asked none fault));
    as_asked = only_one (gtrid_eq h g);
  }
  fails_as_asked (requests.Done gs) asks did = record {
    asked = Drops gs;
    fault = InDone gs;
    fails = by_one_call o seen now left (Drops gs) (InDone gs) (done_all_refusal s gs) responses.Noted did.mid.session did.does.result
        (if_room (has_room_for s (length gs)) _ (no_fault_in_turn (λ g. Steps.Done g) (λ g. Done g) gs (book_in s.manager)))
        noted_is_no_refusal did.does.told did.does.does.rules.refused did.does.does.asks.fails (ap (λ (c : Server L). c.session.manager) did.releases)
        (λ none fault. dones o seen s gs tracks (if_there (has_room_for s (length gs)) _ Limit none));
    as_asked = λ no. no;
  }
  fails_as_asked (requests.Begin t) asks did = absurd asks
  fails_as_asked (requests.Issue t r call) asks did = absurd asks
  fails_as_asked (requests.Answer t r name answer) asks did = absurd asks
  fails_as_asked (requests.Claim g) asks did = absurd asks
  fails_as_asked (requests.Abandon g) asks did = absurd asks
  fails_as_asked (requests.Resolve r) asks did = absurd asks
  fails_as_asked (requests.ResolveOpen r) asks did = absurd asks
  fails_as_asked (requests.Waiting t r) asks did = absurd asks
  fails_as_asked (requests.Owed r) asks did = absurd asks
  fails_as_asked (requests.CrashLine t r) asks did = absurd asks
  fails_as_asked (requests.CrashRm r) asks did = absurd asks
  fails_as_asked requests.Status asks did = absurd asks
  fails_as_asked requests.Quit asks did = absurd asks
