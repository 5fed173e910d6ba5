-- Sessions of drivers one after another agree.
use Rattle.std.proofs.Common.{◌≡◌, ◌⊎◌, inl, inr, ◌<◌, ℕ, true, List, Option, Some, None, refl, sym, ap, ◌∙◌, subst}
use Rattle.std.specs.FinMap.{get}
use Rattle.std.specs.Prelude.{is_some}
use Rattle.xa_base.specs.StateTable.{broken}
use Rattle.xa_base.specs.declared.answer.Answer.TheVariants.{Ret}
use Rattle.xa_base.specs.declared.state.Standing.{Standing}
use Rattle.xa_base.specs.declared.state.Standing.TheVariants.{Prepared}
use Rattle.xa_server.proofs.BranchLemmas.{calls_on_branches}
use Rattle.xa_server.proofs.Failures.{IsFailedToHear, failed_in_answer, failed_in_request}
use Rattle.xa_server.proofs.LogLemmas.{replies_keep, same_keeps}
use Rattle.xa_server.specs.LeftSessions.{IsBehind}
use Rattle.xa_server.specs.NamedLines.{lines_read}
use Rattle.xa_server.specs.Sessions.{AreServed, AreServed.Between, AreServed.NoneYet, AreServed.OneMore, HoldsLeft, IsSession, IsSessionLeft, IsSessionLeft.AfterLine, IsSessionLeft.InAnswer, IsSessionLeft.InRequest, WasFoundDecidedInLog, WasLeft}
use Rattle.xa_server.specs.Votes.{IsLogged}
use Rattle.xa_server.specs.declared.server.Server.{Server}
use Rattle.xa_line.specs.Grid.{HasLine}
use Rattle.xa_log.specs.Content.{Content}
use Rattle.xa_log.specs.Contract.{Moment}
use Rattle.xa_base.specs.declared.branch.Gtrid.{Gtrid}
use Rattle.xa_model.specs.Facts.{lists_row}
use Rattle.xa_model.specs.Trace.{Branch, Call, Code, Fault, Line, Origin, line}
use Rattle.xa_session.proofs.Logging.{both_keep}
use Rattle.xa_session.proofs.LogStarts.{left_tied}
use Rattle.xa_session.specs.Logging.{HoldsItsBook, KeepsLog}
use Rattle.xa_session.proofs.FailedAnswers.{fit_line}
use Rattle.xa_session.specs.Session.{known_at, known_waiting}
use Rattle.xa_session.specs.Tracking.{FailedAnswersAreFound, FailedDecisionsAreFound, FailedDonesAreFound, FailedSettlementsAreFound, IsFailedAnswer, IsRaisedFrom, SessionsAreExplained, StartsFindTheLog, WaitingCallsAreTracked}
use Rattle.xa_monitor.proofs.Agreeing.{history_begins}
use Rattle.xa_monitor.proofs.Chains.{IsUntold, KnowsCalls, one_untold}
use Rattle.xa_monitor.specs.Agreement.{IsLineOf, MayAllStand, WaitsAt}
use Rattle.xa_monitor.specs.Explained.{HasOnlyOlderRows}
use Rattle.xa_monitor.specs.Named.{AreOnBranches}
use Rattle.xa_monitor.specs.Seen.{Seen, Seen.Answered, Seen.Start}
use Rattle.xa_monitor.specs.Sessions.{AfterSessions, AfterSessions.Between as Ends_between, AfterSessions.NoneYet as No_session, AfterSessions.OneMore as One_session, Finds, IsSession as Is_session, Log, Log.Empty, Log.LeftBy, MayFail, WasFoundDecided as Was_found}
use Rattle.xa_monitor.specs.Standings.{Comes}
use Rattle.xa_tm.specs.BookAndLog.{IsTied}
use Rattle.xa_tm.specs.Calls.{book_in, log_in}
use Rattle.xa_tm.proofs.History.OneMore.{lists_is}
use Rattle.xa_server.proofs.LogStarts.{empty_found, raised_from}

-- what is proved of sessions
pub record Laws (L : Type 0) : Type 0 where
  pub left : StartsFindTheLog L
  pub decision : FailedDecisionsAreFound L
  pub settlement : FailedSettlementsAreFound L
  pub done : FailedDonesAreFound L
  pub answer : FailedAnswersAreFound L
  pub explained : SessionsAreExplained L
  pub waiting : WaitingCallsAreTracked L

-- each start over such a log goes on from sessions that left the branches so, and that found such branches decided
abbrev pub StartsGoOn : (f : Branch → Standing) (Decided : Branch → Type 0) → Content → Type 0
StartsGoOn f Decided c = (next : Origin) → IsRaisedFrom c next → IsBehind f Decided next

module _ {L : Type 0} (moment : L → Moment) where
  -- the log of a server has what its book says, if there was one
  abbrev pub Holds : Option (Server L) → Type 0
  Holds None = Unit
  Holds (Some last) = HoldsItsBook moment true last.session.manager

  -- they are sessions one after another, and each start over what was left goes on from such
  pub record AreSessions (last : Option (Server L)) (f : Branch → Standing) (Decided : Branch → Type 0) : Type 0 where
    pub log : Log
    pub after : AfterSessions log f
    pub next : (c : Content) → WasLeft moment last c → StartsGoOn f Decided c
    pub holds : Holds last

  module _ (laws : Laws L) (name : List ℕ) (handed : L) (o : Origin) (told : Seen) (now : Server L) (is : IsSession moment name handed o told now) where
    pub old : HasOnlyOlderRows o
    old = is.starts.old o is.begins

    pub on_branches : AreOnBranches told
    on_branches = calls_on_branches o.threads (lines_read name is.lines) is.replies Start told is.told tt

    -- ** the lines of the session

    pub line_is : (t r : ℕ) → HasLine now.session.lines t r → IsLineOf o (line t r)
    line_is t r has =
        let some = laws.explained o told now.session old is.tracks in
        let stands = is.tracks.1 some.history some.is_history some.runs in
        let begins = (history_begins o told some.history some.is_history).1 in (
          subst (λ n. t < n) (stands.threads ∙ ap (λ (p : Origin). p.threads) begins) has.0,
          subst (λ n. r < n) (stands.rms ∙ ap (λ (p : Origin). p.rms) begins) has.1,
        )

    pub knows : KnowsCalls o told
    knows l n of = (known_at now.session.lines l.thread l.rm n, laws.waiting o told now.session l.thread l.rm n is.tracks of.0 of.1)

    -- ** how it was left

    module _ (was_left : Content) (has_left : HoldsLeft moment was_left handed) (left : Server L)
        (keeps : KeepsLog moment now.session.manager left.session.manager) (honest : (moment (log_in left.session.manager)).is_honest) where
      since_start : KeepsLog moment is.first.session.manager left.session.manager
      since_start =
          both_keep moment is.first.session.manager now.session.manager left.session.manager
          (replies_keep moment (lines_read name is.lines) is.replies is.first now is.replied) keeps

      honest_first : (moment (log_in is.first.session.manager)).is_honest
      honest_first = since_start.honest honest

      pub holds : HoldsItsBook moment true left.session.manager
      holds = since_start.holds true (is.starts.over.order has_left.order) honest (is.starts.holds has_left.order honest_first)

      pub raised : IsRaisedFrom was_left o
      raised =
          raised_from moment is.threads is.rms handed is.first is.starts has_left.order honest_first has_left.content has_left.has o is.begins
          was_left has_left.same.decisions has_left.same.heuristics has_left.raised

      -- what is left is tied to the book
      pub tied : (c : Content) → WasLeft moment (Some left) c → IsTied true (book_in left.session.manager) (Some c)
      tied c was = left_tied moment true left.session.manager c holds was

    module _ (from to : Branch → Standing) (Decided : Branch → Type 0) (was_left : Content) (before : StartsGoOn from Decided was_left)
        (has_left : HoldsLeft moment was_left handed) (left : Server L) (keeps : KeepsLog moment now.session.manager left.session.manager)
        (honest : (moment (log_in left.session.manager)).is_honest) (done cut : List Line) where
      its_start : IsRaisedFrom was_left o
      its_start = raised was_left has_left left keeps honest

      was_tied : (c : Content) → WasLeft moment (Some left) c → IsTied true (book_in left.session.manager) (Some c)
      was_tied c was = tied was_left has_left left keeps honest c was

      -- its start goes on from the sessions before it
      prior : IsBehind from Decided o
      prior = before o its_start

      -- the start has the rows of its log
      logged_rows : (content : Option Content) (g : Gtrid) → content ≡ Some has_left.content → IsLogged content g
          → is_some (get has_left.content.decisions g) ≡ true
      logged_rows None g has row = absurd row
      logged_rows (Some c) g has row = subst (λ d. is_some (get d.decisions g) ≡ true) (let same : c ≡ has_left.content = cc in same) row

      listed_there : (b : Branch) → IsLogged (moment handed).content b.gtrid → lists_row o.rows b.gtrid ≡ true
      listed_there b row =
          lists_is o.rows b.gtrid ∙ ap is_some (its_start.has.rows b.gtrid)
          ∙ ap (λ m. is_some (get m b.gtrid)) (its_start.rows ∙ sym has_left.same.decisions)
          ∙ logged_rows (moment handed).content b.gtrid has_left.has row

      -- what was found decided
      abbrev Found : Branch → Type 0
      Found b = ((from b ≡ Prepared) × IsLogged (moment handed).content b.gtrid) ⊎ Decided b

      found_so : (b : Branch) → Found b → ((from b ≡ Prepared) × (lists_row o.rows b.gtrid ≡ true)) ⊎ Was_found b prior.log from prior.after
      found_so b (inl found) = inl (found.0, listed_there b found.1)
      found_so b (inr earlier) = inr (prior.decided b earlier)

      -- a start goes on from this session
      on_from : (seen : Seen) (fails : Option Fault) → Is_session o seen fails → MayAllStand o seen (λ b. Comes seen b (broken (from b))) done cut to
          → (next : Origin) → Finds (LeftBy o seen fails) next → IsBehind to Found next
      on_from seen fails session may next finds = record {
        log = LeftBy o seen fails;
        after = One_session prior.log from to o seen fails done cut prior.after prior.finds session may;
        finds = finds;
        decided = found_so;
      }

      -- after a line, or in a step in which its log failed
      left_in : (fails : Option Fault) → MayFail o told fails
          → ((c : Content) (next : Origin) → IsTied true (book_in left.session.manager) (Some c) → IsRaisedFrom c next → Finds (LeftBy o told fails) next)
          → MayAllStand o told (λ b. Comes told b (broken (from b))) done cut to → AreSessions (Some left) to Found
      left_in fails may_fail finds may = record {
        log = LeftBy o told fails;
        after = One_session prior.log from to o told fails done cut prior.after prior.finds session may;
        next = λ c was next raised. on_from told fails session may next (finds c next (was_tied c was) raised);
        holds = holds was_left has_left left keeps honest;
      }
        where
          session : Is_session o told fails
          session = record { old = old; keeps = is.tracks.0; on_branches = on_branches; may_fail = may_fail }

      -- in an answer: what the next start finds is what was left behind it, or before it, with the call under way
      left_in_answer : (t r : ℕ) (code : Code) (call : Call) → known_waiting now.session.lines t r ≡ Some call → IsFailedToHear t r code call now left
          → MayAllStand o (Answered told (line t r) call (Ret code)) (λ b. Comes (Answered told (line t r) call (Ret code)) b (broken (from b))) done cut to
          → AreSessions (Some left) to Found
      left_in_answer t r code call waits failed may = record {
        log = LeftBy o told None;
        after = before_it.after;
        next = λ c was next raised. either next (found.finds c next (subst (λ k. IsTied true k (Some c)) failed.book (was_tied c was)) raised);
        holds = holds was_left has_left left keeps honest;
      }
        where
          found : IsFailedAnswer o told now.session (line t r) call (Ret code)
          found = laws.answer o told now.session t r (Ret code) call is.tracks failed.fit failed.first

          session : Is_session o (Answered told (line t r) call (Ret code)) None
          session = record { old = old; keeps = found.keeps; on_branches = (on_branches, tt); may_fail = tt }

          here : IsLineOf o (line t r)
          here = line_is t r (fit_line now.session t r (Ret code) failed.fit)

          before_it : IsUntold prior.log from to o told prior.after
          before_it =
              one_untold prior.log from to o told (line t r) call (Ret code) done cut prior.after prior.finds session here
              (subst (WaitsAt o told (line t r) 0) waits (laws.waiting o told now.session t r 0 is.tracks here.0 here.1)) knows may

          either : (next : Origin) → Finds (LeftBy o (Answered told (line t r) call (Ret code)) None) next ⊎ Finds (LeftBy o told None) next
              → IsBehind to Found next
          either next (inl finds) = on_from (Answered told (line t r) call (Ret code)) None session may next finds
          either next (inr finds) =
              record { log = LeftBy o told None; after = before_it.after; finds = finds; decided = λ b was. before_it.decided b (found_so b was) }

    module _ (from to : Branch → Standing) (Decided : Branch → Type 0) (was_left : Content) (before : StartsGoOn from Decided was_left)
        (has_left : HoldsLeft moment was_left handed) where
      pub one_more : (seen : Seen) (left : Server L) → IsSessionLeft moment told now seen left → (moment (log_in left.session.manager)).is_honest
          → (done cut : List Line) → MayAllStand o seen (λ b. Comes seen b (broken (from b))) done cut to
          → AreSessions (Some left) to (λ b. ((from b ≡ Prepared) × IsLogged (moment handed).content b.gtrid) ⊎ Decided b)
      one_more _ _ AfterLine honest done cut may =
          left_in from to Decided was_left before has_left now (same_keeps moment now now refl) honest done cut None tt
          (λ c next tied raised. laws.left o told now.session c next is.tracks tied raised) may
      one_more _ _ (InRequest request left asks performs) honest done cut may =
          let failed = failed_in_request moment laws.decision laws.settlement laws.done o told now left is.tracks request asks performs in
          left_in from to Decided was_left before has_left left performs.keeps honest done cut (Some failed.fault) failed.step.may_fail
          (λ c next tied raised. failed.step.finds c next (subst (λ k. IsTied true k (Some c)) failed.book tied) raised) may
      one_more _ _ (InAnswer t r name code call left waits performs) honest done cut may =
          left_in_answer from to Decided was_left before has_left left performs.keeps honest done cut t r code call waits
          (failed_in_answer moment now left t r name code call waits performs) may

  -- ** all of them

  pub are_sessions : Laws L → (name : List ℕ) (last : Option (Server L)) (f : Branch → Standing) (served : AreServed moment name last f)
      → AreSessions last f (λ b. WasFoundDecidedInLog moment name b last f served)
  are_sessions laws name _ _ NoneYet = record {
    log = Empty 0;
    after = No_session 0;
    next = λ c left o raised.
        record { log = Empty 0; after = No_session 0; finds = empty_found c o left raised; decided = λ b found. absurd found };
    holds = tt;
  }
  are_sessions laws name _ _ (OneMore last from to handed o told seen now left done cut before handed_on is is_left honest may) =
      one_more laws name handed o told now is from to (λ b. WasFoundDecidedInLog moment name b last from before) handed_on.left
      ((are_sessions laws name last from before).next handed_on.left handed_on.was_left) handed_on.holds seen left is_left honest done cut may
  are_sessions laws name _ _ (Between last from to d how before was final) =
      let b = are_sessions laws name last from before in
      record {
        log = b.log;
        after = Ends_between b.log from to d how b.after was final;
        next = λ c left o raised.
            let on = b.next c left o raised in
            record { log = on.log; after = Ends_between on.log from to d how on.after was final; finds = on.finds; decided = on.decided };
        holds = b.holds;
      }
