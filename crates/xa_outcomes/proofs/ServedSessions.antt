-- Sessions that a server serves are sessions one after another, and what they tell is what is seen
-- in these.
use Rattle.std.proofs.Common.{◌≡◌, ◌∙◌, ◌⊎◌, inl, inr, ℕ, true, List, [], ◌∷◌, ◌++◌, Option, Some, None, refl, sym, ap, subst}
use Rattle.std.specs.FinMap.{get}
use Rattle.std.specs.Prelude.{is_some}
use Rattle.xa_base.specs.StateTable.{broken}
use Rattle.xa_base.specs.declared.answer.Answer.TheVariants.{Ret}
use Rattle.xa_base.specs.declared.branch.Gtrid.{Gtrid}
use Rattle.xa_base.specs.declared.state.Standing.{Standing}
use Rattle.xa_log.specs.Content.{Content}
use Rattle.xa_log.specs.Contract.{Moment}
use Rattle.xa_model.specs.Facts.{lists_row}
use Rattle.xa_model.specs.Trace.{Answer, Branch, Call, Fault, Line, Origin, Trace, line}
use Rattle.xa_monitor.proofs.Chains.{reached, untold}
use Rattle.xa_monitor.proofs.ReachedStandings.{explained}
use Rattle.xa_monitor.specs.Agreement.{IsLineOf, MayAllStand, WaitsAt}
use Rattle.xa_monitor.specs.Seen.{Seen, Seen.Answered}
use Rattle.xa_monitor.specs.Sessions.{AfterSessions, AfterSessions.Between as Ends_between, AfterSessions.NoneYet as No_session, AfterSessions.OneMore as One_session, Finds, IsSession as Is_session, Log, Log.Empty, Log.LeftBy, MayFail, WasFoundDecided}
use Rattle.xa_monitor.specs.Standings.{Comes}
use Rattle.xa_outcomes.proofs.FailedRequests.{fails_as_asked}
use Rattle.xa_outcomes.specs.Outcomes.{IsSeenDecided, IsHandedOver, IsLeftDeciding, IsUndecidedSoFar, WasNeverDecided}
use Rattle.xa_outcomes.specs.Parts.{IsOfSessions}
use Rattle.xa_outcomes.specs.Served.{IsLeftCommitting, IsOfServed, IsUntoldSoFar, WasNeverToldDecided}
use Rattle.xa_server.proofs.Failures.{IsFailedToHear, failed_in_answer}
use Rattle.xa_server.proofs.LogLemmas.{same_keeps}
use Rattle.xa_server.proofs.LogStarts.{empty_found}
use Rattle.xa_server.proofs.SessionChains.{Laws, knows, line_is, old, on_branches, raised, tied}
use Rattle.xa_server.specs.Sessions.{AreServed, AreServed.Between, AreServed.NoneYet, AreServed.OneMore, HoldsLeft, IsHandedOn, IsSession, IsSessionLeft, IsSessionLeft.AfterLine, IsSessionLeft.InAnswer, IsSessionLeft.InRequest, WasLeft}
use Rattle.xa_server.specs.Votes.{IsLogged}
use Rattle.xa_server.specs.declared.server.Server.{Server}
use Rattle.xa_session.proofs.FailedAnswers.{fit_line}
use Rattle.xa_session.specs.Logging.{KeepsLog}
use Rattle.xa_session.specs.Tracking.{IsFailedAnswer, IsRaisedFrom}
use Rattle.xa_tm.proofs.History.OneMore.{lists_is}
use Rattle.xa_tm.specs.BookAndLog.{IsTied}
use Rattle.xa_tm.specs.Calls.{book_in, log_in}

-- one of these sessions saw it
abbrev pub SawIn : (Seen → Type 0) → (log : Log) (f : Branch → Standing) → AfterSessions log f → Type 0
SawIn Saw _ _ (No_session i) = ⊥
SawIn Saw _ _ (One_session log from to o seen fails done cut before found session may) = Saw seen ⊎ SawIn Saw log from before
SawIn Saw _ _ (Ends_between log from to d how before was final) = SawIn Saw log from before

-- one of them found a row of the transaction, and one before it saw it
abbrev pub FoundIn : (Seen → Type 0) → Gtrid → (log : Log) (f : Branch → Standing) → AfterSessions log f → Type 0
FoundIn Saw g _ _ (No_session i) = ⊥
FoundIn Saw g _ _ (One_session log from to o seen fails done cut before found session may) =
    ((lists_row o.rows g ≡ true) × SawIn Saw log from before) ⊎ FoundIn Saw g log from before
FoundIn Saw g _ _ (Ends_between log from to d how before was final) = FoundIn Saw g log from before

-- the row of a log that was handed on is one of the start
logged_row : (content : Option Content) (d : Content) (g : Gtrid) → content ≡ Some d → IsLogged content g → is_some (get d.decisions g) ≡ true
logged_row None d g has row = absurd row
logged_row (Some c) d g has row = subst (λ e. is_some (get e.decisions g) ≡ true) (let same : c ≡ d = cc in same) row

module _ {L : Type 0} (moment : L → Moment) (name : List ℕ) where
  listed_row : (was_left : Content) (handed : L) (o : Origin) (g : Gtrid) → HoldsLeft moment was_left handed → IsRaisedFrom was_left o
      → IsLogged (moment handed).content g → lists_row o.rows g ≡ true
  listed_row was_left handed o g has_left start row =
      lists_is o.rows g ∙ ap is_some (start.has.rows g)
      ∙ ap (λ m. is_some (get m g)) (start.rows ∙ sym has_left.same.decisions)
      ∙ logged_row (moment handed).content has_left.content g has_left.has row

  -- the same of sessions that a server serves
  abbrev pub ToldIn : (Seen → Type 0) → (last : Option (Server L)) (f : Branch → Standing) → AreServed moment name last f → Type 0
  ToldIn Saw _ _ NoneYet = ⊥
  ToldIn Saw _ _ (OneMore last from to handed o told seen now left done cut before handed_on is is_left honest may) =
      Saw told ⊎ ToldIn Saw last from before
  ToldIn Saw _ _ (Between last from to d how before was final) = ToldIn Saw last from before

  abbrev pub FoundToldIn : (Seen → Type 0) → Gtrid → (last : Option (Server L)) (f : Branch → Standing) → AreServed moment name last f → Type 0
  FoundToldIn Saw g _ _ NoneYet = ⊥
  FoundToldIn Saw g _ _ (OneMore last from to handed o told seen now left done cut before handed_on is is_left honest may) =
      (IsLogged (moment handed).content g × ToldIn Saw last from before) ⊎ FoundToldIn Saw g last from before
  FoundToldIn Saw g _ _ (Between last from to d how before was final) = FoundToldIn Saw g last from before

  module _ (laws : Laws L) (Saw : Seen → Type 0) (still : (seen : Seen) (l : Line) (c : Call) (a : Answer) → Saw seen → Saw (Answered seen l c a))
      (g : Gtrid) where
    -- a start goes on from sessions that saw what these told
    pub record GoesOnFrom (last : Option (Server L)) (f : Branch → Standing) (served : AreServed moment name last f) (next : Origin) : Type 0 where
      pub log : Log
      pub after : AfterSessions log f
      pub finds : Finds log next
      pub some : ToldIn Saw last f served → SawIn Saw log f after
      pub found : FoundToldIn Saw g last f served → FoundIn Saw g log f after
      pub never : WasNeverToldDecided moment name g last f served → WasNeverDecided g log f after
      pub so_far : IsUntoldSoFar moment name g last f served → IsUndecidedSoFar g log f after
      pub parts : (whole : Trace) → IsOfSessions log f after whole → IsOfServed moment name last f served whole

    -- they are sessions that saw what these told
    pub record SawTold (last : Option (Server L)) (f : Branch → Standing) (served : AreServed moment name last f) : Type 0 where
      pub log : Log
      pub after : AfterSessions log f
      pub some : ToldIn Saw last f served → SawIn Saw log f after

    module _ (last : Option (Server L)) (from to : Branch → Standing) (handed : L) (o : Origin) (told : Seen) (now : Server L)
        (before : AreServed moment name last from) (handed_on : IsHandedOn moment last handed) (is : IsSession moment name handed o told now) (seen : Seen) (left : Server L)
        (is_left : IsSessionLeft moment told now seen left) (honest : (moment (log_in left.session.manager)).is_honest) (done cut : List Line)
        (may : MayAllStand o seen (λ b. Comes seen b (broken (from b))) done cut to) (prior : GoesOnFrom last from before o)
        (lists : IsLogged (moment handed).content g → lists_row o.rows g ≡ true) where
      abbrev all : AreServed moment name (Some left) to
      all = OneMore last from to handed o told seen now left done cut before handed_on is is_left honest may

      on : (kept : Seen) → (kept ≡ told) ⊎ (kept ≡ seen) → (Saw told → Saw kept) → (IsSeenDecided g kept → IsSeenDecided g told)
          → (IsHandedOver g kept → IsHandedOver g told) → (fails : Option Fault)
          → (IsLeftDeciding g fails → IsLeftCommitting moment g told now seen left is_left) → Is_session o kept fails → (done cut : List Line)
          → MayAllStand o kept (λ b. Comes kept b (broken (from b))) done cut to → (next : Origin) → Finds (LeftBy o kept fails) next
          → GoesOnFrom (Some left) to all next
      on kept is_kept saw decided handed_over fails asked session done cut may next finds = record {
        log = LeftBy o kept fails;
        after = One_session prior.log from to o kept fails done cut prior.after prior.finds session may;
        finds = finds;
        some = some_so;
        found = found_so;
        never = λ n. (λ d. n.0 (decided d), λ h. n.1 (handed_over h), λ x. n.2 (asked x), prior.never n.3);
        so_far = λ n. (λ d. n.0 (decided d), λ h. n.1 (handed_over h), prior.never n.2);
        parts = λ whole of. (of.0, prior.parts of.0 of.1, record { kept = kept; is_kept = is_kept; fails = fails; part = of.2 });
      }
        where
          some_so : Saw told ⊎ ToldIn Saw last from before → Saw kept ⊎ SawIn Saw prior.log from prior.after
          some_so (inl s) = inl (saw s)
          some_so (inr e) = inr (prior.some e)

          found_so : (IsLogged (moment handed).content g × ToldIn Saw last from before) ⊎ FoundToldIn Saw g last from before
              → ((lists_row o.rows g ≡ true) × SawIn Saw prior.log from prior.after) ⊎ FoundIn Saw g prior.log from prior.after
          found_so (inl x) = inl (lists x.0, prior.some x.1)
          found_so (inr e) = inr (prior.found e)

    module _ (last : Option (Server L)) (from to : Branch → Standing) (handed : L) (o : Origin) (told : Seen) (now : Server L)
        (before : AreServed moment name last from) (handed_on : IsHandedOn moment last handed) (is : IsSession moment name handed o told now)
        (prior : (c : Content) → WasLeft moment last c → (next : Origin) → IsRaisedFrom c next → GoesOnFrom last from before next) where
      abbrev has_left : HoldsLeft moment handed_on.left handed
      has_left = handed_on.holds

      -- its start goes on from the sessions before it
      before_it : (left : Server L) → KeepsLog moment now.session.manager left.session.manager → (moment (log_in left.session.manager)).is_honest
          → GoesOnFrom last from before o
      before_it left keeps honest =
          prior handed_on.left handed_on.was_left o (raised moment laws name handed o told now is handed_on.left has_left left keeps honest)

      lists_so : (left : Server L) → KeepsLog moment now.session.manager left.session.manager → (moment (log_in left.session.manager)).is_honest
          → IsLogged (moment handed).content g → lists_row o.rows g ≡ true
      lists_so left keeps honest row =
          listed_row handed_on.left handed o g has_left (raised moment laws name handed o told now is handed_on.left has_left left keeps honest) row

      tied_so : (left : Server L) → KeepsLog moment now.session.manager left.session.manager → (moment (log_in left.session.manager)).is_honest
          → (c : Content) → WasLeft moment (Some left) c → IsTied true (book_in left.session.manager) (Some c)
      tied_so left keeps honest c was = tied moment laws name handed o told now is handed_on.left has_left left keeps honest c was

      session_so : (fails : Option Fault) → MayFail o told fails → Is_session o told fails
      session_so fails may_fail = record {
        old = old moment laws name handed o told now is;
        keeps = is.tracks.0;
        on_branches = on_branches moment laws name handed o told now is;
        may_fail = may_fail;
      }

      one_on : (seen : Seen) (left : Server L) (is_left : IsSessionLeft moment told now seen left) (honest : (moment (log_in left.session.manager)).is_honest)
          (done cut : List Line) (may : MayAllStand o seen (λ b. Comes seen b (broken (from b))) done cut to) (c : Content) → WasLeft moment (Some left) c
          → (next : Origin) → IsRaisedFrom c next
          → GoesOnFrom (Some left) to (OneMore last from to handed o told seen now left done cut before handed_on is is_left honest may) next
      one_on _ _ AfterLine honest done cut may c was next from_c =
          let keeps = same_keeps moment now now refl in
          on last from to handed o told now before handed_on is told now AfterLine honest done cut may (before_it now keeps honest) (lists_so now keeps honest)
          told (inl refl) (λ s. s) (λ d. d) (λ h. h) None (λ x. x) (session_so None tt) done cut may next
          (laws.left o told now.session c next is.tracks (tied_so now keeps honest c was) from_c)
      one_on _ _ (InRequest request left asks performs) honest done cut may c was next from_c =
          let failed = fails_as_asked moment laws.decision laws.settlement laws.done o told now left is.tracks g request asks performs in
          on last from to handed o told now before handed_on is told left (InRequest request left asks performs) honest done cut may
          (before_it left performs.keeps honest) (lists_so left performs.keeps honest)
          told (inl refl) (λ s. s) (λ d. d) (λ h. h) (Some failed.fault) failed.as_asked (session_so (Some failed.fault) failed.fails.step.may_fail) done cut may
          next
          (failed.fails.step.finds c next (subst (λ k. IsTied true k (Some c)) failed.fails.book (tied_so left performs.keeps honest c was)) from_c)
      one_on _ _ (InAnswer t r named code call left waits performs) honest done cut may c was next from_c =
          either (found.finds c next (subst (λ k. IsTied true k (Some c)) failed.book (tied_so left performs.keeps honest c was)) from_c)
        where
          failed : IsFailedToHear t r code call now left
          failed = failed_in_answer moment now left t r named code call waits performs

          found : IsFailedAnswer o told now.session (line t r) call (Ret code)
          found = laws.answer o told now.session t r (Ret code) call is.tracks failed.fit failed.first

          session : Is_session o (Answered told (line t r) call (Ret code)) None
          session = record {
            old = old moment laws name handed o told now is;
            keeps = found.keeps;
            on_branches = (on_branches moment laws name handed o told now is, tt);
            may_fail = tt;
          }

          here : IsLineOf o (line t r)
          here = line_is moment laws name handed o told now is t r (fit_line now.session t r (Ret code) failed.fit)

          prior_so : GoesOnFrom last from before o
          prior_so = before_it left performs.keeps honest

          may_before : MayAllStand o told (λ b. Comes told b (broken (from b))) (done ++ line t r ∷ []) cut to
          may_before =
              untold o told (line t r) call (Ret code) here found.keeps.1
              (subst (WaitsAt o told (line t r) 0) waits (laws.waiting o told now.session t r 0 is.tracks here.0 here.1))
              (knows moment laws name handed o told now is)
              (explained prior_so.log from to (λ b. WasFoundDecided b prior_so.log from prior_so.after) (reached prior_so.log from prior_so.after) o prior_so.finds
              (Answered told (line t r) call (Ret code)) None session done cut may)
              (λ b. broken (from b)) done cut to may

          either : Finds (LeftBy o (Answered told (line t r) call (Ret code)) None) next ⊎ Finds (LeftBy o told None) next
              → GoesOnFrom (Some left) to
              (OneMore last from to handed o told (Answered told (line t r) call (Ret code)) now left done cut before handed_on is
              (InAnswer t r named code call left waits performs) honest may) next
          either (inl finds) =
              on last from to handed o told now before handed_on is (Answered told (line t r) call (Ret code)) left
              (InAnswer t r named code call left waits performs) honest done cut may prior_so (lists_so left performs.keeps honest)
              (Answered told (line t r) call (Ret code)) (inr refl) (still told (line t r) call (Ret code)) (λ d. d) (λ h. h) None (λ x. x) session done cut may
              next finds
          either (inr finds) =
              on last from to handed o told now before handed_on is (Answered told (line t r) call (Ret code)) left
              (InAnswer t r named code call left waits performs) honest done cut may prior_so (lists_so left performs.keeps honest)
              told (inl refl) (λ s. s) (λ d. d) (λ h. h) None (λ x. x) (session_so None tt) (done ++ line t r ∷ []) cut may_before next finds

      -- one more of them, whatever log it leaves
      saw_by : (seen : Seen) (left : Server L) (is_left : IsSessionLeft moment told now seen left) (honest : (moment (log_in left.session.manager)).is_honest)
          (done cut : List Line) (may : MayAllStand o seen (λ b. Comes seen b (broken (from b))) done cut to) (fails : Option Fault)
          → (Saw told → Saw seen) → GoesOnFrom last from before o → Is_session o seen fails
          → SawTold (Some left) to (OneMore last from to handed o told seen now left done cut before handed_on is is_left honest may)
      saw_by seen left is_left honest done cut may fails saw goes session = record {
        log = LeftBy o seen fails;
        after = One_session goes.log from to o seen fails done cut goes.after goes.finds session may;
        some = some_so;
      }
        where
          some_so : Saw told ⊎ ToldIn Saw last from before → Saw seen ⊎ SawIn Saw goes.log from goes.after
          some_so (inl s) = inl (saw s)
          some_so (inr e) = inr (goes.some e)

      one_saw : (seen : Seen) (left : Server L) (is_left : IsSessionLeft moment told now seen left) (honest : (moment (log_in left.session.manager)).is_honest)
          (done cut : List Line) (may : MayAllStand o seen (λ b. Comes seen b (broken (from b))) done cut to)
          → SawTold (Some left) to (OneMore last from to handed o told seen now left done cut before handed_on is is_left honest may)
      one_saw _ _ AfterLine honest done cut may =
          saw_by told now AfterLine honest done cut may None (λ s. s) (before_it now (same_keeps moment now now refl) honest) (session_so None tt)
      one_saw _ _ (InRequest request left asks performs) honest done cut may =
          let failed = fails_as_asked moment laws.decision laws.settlement laws.done o told now left is.tracks g request asks performs in
          saw_by told left (InRequest request left asks performs) honest done cut may (Some failed.fault) (λ s. s) (before_it left performs.keeps honest)
          (session_so (Some failed.fault) failed.fails.step.may_fail)
      one_saw _ _ (InAnswer t r named code call left waits performs) honest done cut may =
          saw_by (Answered told (line t r) call (Ret code)) left (InAnswer t r named code call left waits performs) honest done cut may None
          (still told (line t r) call (Ret code)) (before_it left performs.keeps honest) session
        where
          failed : IsFailedToHear t r code call now left
          failed = failed_in_answer moment now left t r named code call waits performs

          found : IsFailedAnswer o told now.session (line t r) call (Ret code)
          found = laws.answer o told now.session t r (Ret code) call is.tracks failed.fit failed.first

          session : Is_session o (Answered told (line t r) call (Ret code)) None
          session = record {
            old = old moment laws name handed o told now is;
            keeps = found.keeps;
            on_branches = (on_branches moment laws name handed o told now is, tt);
            may_fail = tt;
          }

    -- ** all of them

    pub all_on : (last : Option (Server L)) (f : Branch → Standing) (served : AreServed moment name last f) (c : Content) → WasLeft moment last c
        → (next : Origin) → IsRaisedFrom c next → GoesOnFrom last f served next
    all_on _ _ NoneYet c was next from_c = record {
      log = Empty 0;
      after = No_session 0;
      finds = empty_found c next was from_c;
      some = λ told. told;
      found = λ told. told;
      never = λ n. n;
      so_far = λ n. n;
      parts = λ whole of. of;
    }
    all_on _ _ (OneMore last from to handed o told seen now left done cut before handed_on is is_left honest may) c was next from_c =
        one_on last from to handed o told now before handed_on is (all_on last from before) seen left is_left honest done cut may c was next from_c
    all_on _ _ (Between last from to d how before was_prepared final) c was next from_c =
        let b = all_on last from before c was next from_c in
        record {
          log = b.log;
          after = Ends_between b.log from to d how b.after was_prepared final;
          finds = b.finds;
          some = b.some;
          found = b.found;
          never = b.never;
          so_far = b.so_far;
          parts = λ whole of. (of.0, b.parts of.0 of.1, of.2);
        }

    pub all_saw : (last : Option (Server L)) (f : Branch → Standing) (served : AreServed moment name last f) → SawTold last f served
    all_saw _ _ NoneYet = record { log = Empty 0; after = No_session 0; some = λ told. told }
    all_saw _ _ (OneMore last from to handed o told seen now left done cut before handed_on is is_left honest may) =
        one_saw last from to handed o told now before handed_on is (all_on last from before) seen left is_left honest done cut may
    all_saw _ _ (Between last from to d how before was_prepared final) =
        let b = all_saw last from before in
        record { log = b.log; after = Ends_between b.log from to d how b.after was_prepared final; some = b.some }
