-- A session passes on what is known of one transaction, as it does in `OwnSessions` of
-- `xa_server`, whose lemma is that crate's own.
use Rattle.std.proofs.Common.{◌≡◌, ◌⊎◌, inl, inr, ℕ, List, [], ◌∷◌, ◌++◌, Bool, true, false, Option, Some, None, refl, sym, ap, ◌∙◌, subst}
use Rattle.xa_base.specs.Branch.{branch_eq}
use Rattle.xa_base.specs.StateTable.{Kind, State.S3, answer, asks_of, broken, moved, state_of}
use Rattle.xa_base.specs.declared.answer.Answer.TheVariants.{Ret}
use Rattle.xa_base.specs.declared.state.Standing.{Standing}
use Rattle.xa_base.specs.declared.state.Standing.TheVariants.{Completed, Prepared}
use Rattle.xa_log.specs.Content.{Content}
use Rattle.xa_log.specs.Contract.{Moment}
use Rattle.xa_model.specs.Trace.{Branch, Call, Code, Fault, Gtrid, How, Line, Origin, line}
use Rattle.xa_monitor.proofs.Chains.{untold}
use Rattle.xa_monitor.specs.Agreement.{IsLineOf, WaitsAt}
use Rattle.xa_monitor.specs.Explained.{HasOnlyOlderRows}
use Rattle.xa_monitor.specs.Monitor.{CanExplain, states_of}
use Rattle.xa_monitor.specs.Seen.{Seen, Seen.Answered}
use Rattle.xa_monitor.specs.Sessions.{Finds, IsSession as Is_session, Log.LeftBy, MayFail}
use Rattle.xa_monitor.specs.Standings.{Comes, Explains, ExplainsAsked, ExplainsIf, MayStand}
use Rattle.xa_server.proofs.Failures.{IsFailedToHear, failed_in_answer, failed_in_request}
use Rattle.xa_server.proofs.LogLemmas.{same_keeps}
use Rattle.xa_server.proofs.OwnBranches.{AllMay, PassesOn, Stands, all_may, is_explained, same_passed, session_passes, stood, stood_found, stood_own}
use Rattle.xa_server.proofs.OwnSessions.{SessionPasses, StartsStand}
use Rattle.xa_server.proofs.SessionChains.{Laws, knows, line_is, old, on_branches, raised, tied}
use Rattle.xa_server.specs.Sessions.{HoldsLeft, IsSession, IsSessionLeft, IsSessionLeft.AfterLine, IsSessionLeft.InAnswer, IsSessionLeft.InRequest}
use Rattle.xa_server.specs.Transactions.{MayStandFor}
use Rattle.xa_server.specs.declared.server.Server.{Server}
use Rattle.xa_session.proofs.FailedAnswers.{fit_line}
use Rattle.xa_session.specs.Logging.{KeepsLog, LeavesContent}
use Rattle.xa_session.specs.Session.{known_waiting}
use Rattle.xa_session.specs.Tracking.{IsFailedAnswer, IsRaisedFrom}
use Rattle.xa_tm.specs.BookAndLog.{IsTied}
use Rattle.xa_tm.specs.Calls.{book_in, log_in}

-- ** an answer that some state explains

-- what explains an answer from one standing does so from each in the same state
again : (f from : Standing) (k : Kind) (a : Code) (to : Standing) → state_of f ≡ state_of from → Explains from k a to → (t : Standing) × Explains f k a t
again f from k a to same x = by x.as_called x.alone x.answers
  where
    prepared : (f : Standing) → state_of f ≡ S3 → f ≡ Prepared
    prepared Prepared e = refl
    prepared _ e = cc

    by : (as_called : Standing) → (as_called ≡ from) ⊎ ((from ≡ Prepared) × ((how : How) × (as_called ≡ Completed how)))
        → answer k (state_of as_called) x.vote x.retries ≡ a → (t : Standing) × Explains f k a t
    by c (inl e) answers = (
      moved f k a,
      record {
        as_called = f;
        alone = inl refl;
        vote = x.vote;
        retries = x.retries;
        answers = ap (λ s. answer k s x.vote x.retries) (same ∙ sym (ap state_of e)) ∙ answers;
        moves = refl;
      },
    )
    by c (inr (p, ended)) answers = (
      moved c k a,
      record {
        as_called = c;
        alone = inr (prepared f (same ∙ ap state_of p), ended);
        vote = x.vote;
        retries = x.retries;
        answers = answers;
        moves = refl;
      },
    )

asked_again : (z : Option (Kind × Branch)) (a : Code) (b : Branch) (f from to : Standing) → state_of f ≡ state_of from → ExplainsAsked z a b from to
    → (t : Standing) × ExplainsAsked z a b f t
asked_again None a b f from to same x = (f, refl)
asked_again (Some (k, c)) a b f from to same x = by (branch_eq c b) x
  where
    by : (t : Bool) → ExplainsIf t from k a to → (s : Standing) × ExplainsIf t f k a s
    by true x = again f from k a to same x
    by false x = (f, refl)

-- ** one session more

module _ {L : Type 0} (moment : L → Moment) (laws : Laws L) (name : List ℕ) (handed : L) (o : Origin) (told : Seen) (now : Server L)
    (is : IsSession moment name handed o told now) (g : Gtrid) (c : Content) (from to : Branch → Standing) (before : StartsStand g c from)
    (has_left : HoldsLeft moment c handed) (left : Server L) (keeps : KeepsLog moment now.session.manager left.session.manager)
    (honest : (moment (log_in left.session.manager)).is_honest) (done cut : List Line) (d : Content)
    (leaves : LeavesContent moment left.session.manager d) where
  at_start : Stands g o (λ b. broken (from b))
  at_start = before o (raised moment laws name handed o told now is c has_left left keeps honest)

  is_tied : IsTied true (book_in left.session.manager) (Some d)
  is_tied = tied moment laws name handed o told now is c has_left left keeps honest d leaves

  is_old : HasOnlyOlderRows o
  is_old = old moment laws name handed o told now is

  explained : (b : Branch) → (f : Standing) × MayStand o told b f
  explained b = let s = is.tracks.2.some b in let x = is.tracks.2.onto b s.0 s.1 in (x.0, x.1)

  -- after a line, or in a step in which its log failed
  left_in : (fails : Option Fault) → MayFail o told fails
      → ((next : Origin) → IsTied true (book_in left.session.manager) (Some d) → IsRaisedFrom d next → Finds (LeftBy o told fails) next)
      → MayStandFor g o told (λ b. Comes told b (broken (from b))) done cut to → SessionPasses g o from d to
  left_in fails may_fail finds may next from_d =
      same_passed g o next (λ b. broken (from b)) (λ b. broken (x.all b)) (λ b. broken (to b)) (λ b q. ap broken (x.agrees b q))
      (session_passes g o from at_start told fails session (stood g o told from at_start explained) (stood_own g o told from at_start explained)
      (stood_found g o told from at_start explained) done cut x.all x.may next (finds next is_tied from_d))
    where
      session : Is_session o told fails
      session = record {
        old = is_old;
        keeps = is.tracks.0;
        on_branches = on_branches moment laws name handed o told now is;
        may_fail = may_fail;
      }

      x : AllMay g o told from at_start explained done cut to
      x = all_may g o told from at_start explained done cut to may

  -- in an answer: what the next start finds is what was left after it, or before it, with the call
  -- under way
  module _ (t r : ℕ) (code : Code) (call : Call) (waits : known_waiting now.session.lines t r ≡ Some call) (failed : IsFailedToHear t r code call now left) where
    abbrev seen : Seen
    seen = Answered told (line t r) call (Ret code)

    answer_explained : (b : Branch) → (f : Standing) × MayStand o seen b f
    answer_explained b =
        let can : CanExplain (states_of now.session.monitor) (line t r) call (Ret code) b = failed.explains b (is.tracks.2.some b) call waits in
        let x = is.tracks.2.onto b (state_of can.from) can.among in
        let y = asked_again (asks_of call) code b x.0 can.from can.to x.2 can.leads in (y.0, (x.0, x.1, y.1))

    found : IsFailedAnswer o told now.session (line t r) call (Ret code)
    found = laws.answer o told now.session t r (Ret code) call is.tracks failed.fit failed.first

    session : Is_session o seen None
    session = record {
      old = is_old;
      keeps = found.keeps;
      on_branches = (on_branches moment laws name handed o told now is, tt);
      may_fail = tt;
    }

    session_before : Is_session o told None
    session_before = record { old = is_old; keeps = session.keeps.0; on_branches = session.on_branches.0; may_fail = tt }

    here : IsLineOf o (line t r)
    here = line_is moment laws name handed o told now is t r (fit_line now.session t r (Ret code) failed.fit)

    abbrev stand : Branch → Standing
    stand = stood g o seen from at_start answer_explained

    left_in_answer : MayStandFor g o seen (λ b. Comes seen b (broken (from b))) done cut to → SessionPasses g o from d to
    left_in_answer may next from_d = either (found.finds d next (subst (λ k. IsTied true k (Some d)) failed.book is_tied) from_d)
      where
        x : AllMay g o seen from at_start answer_explained done cut to
        x = all_may g o seen from at_start answer_explained done cut to may

        agree : PassesOn g o next (λ b. broken (from b)) (λ b. broken (x.all b)) → PassesOn g o next (λ b. broken (from b)) (λ b. broken (to b))
        agree = same_passed g o next (λ b. broken (from b)) (λ b. broken (x.all b)) (λ b. broken (to b)) (λ b q. ap broken (x.agrees b q))

        either : Finds (LeftBy o seen None) next ⊎ Finds (LeftBy o told None) next → PassesOn g o next (λ b. broken (from b)) (λ b. broken (to b))
        either (inl finds) =
            agree (session_passes g o from at_start seen None session stand (stood_own g o seen from at_start answer_explained)
            (stood_found g o seen from at_start answer_explained) done cut x.all x.may next finds)
        either (inr finds) =
            agree (session_passes g o from at_start told None session_before stand (stood_own g o seen from at_start answer_explained)
            (stood_found g o seen from at_start answer_explained) (done ++ line t r ∷ []) cut x.all
            (untold o told (line t r) call (Ret code) here session.keeps.1
            (subst (WaitsAt o told (line t r) 0) waits (laws.waiting o told now.session t r 0 is.tracks here.0 here.1))
            (knows moment laws name handed o told now is)
            (is_explained g o from at_start seen None session stand (stood_own g o seen from at_start answer_explained)
            (stood_found g o seen from at_start answer_explained) done cut x.all x.may)
            stand done cut x.all x.may) next finds)

-- ** however it was left

module _ {L : Type 0} (moment : L → Moment) (laws : Laws L) (name : List ℕ) (g : Gtrid) where
  pub one_more : (c d : Content) (from to : Branch → Standing) (handed : L) (o : Origin) (told seen : Seen) (now left : Server L) (done cut : List Line)
      → StartsStand g c from → HoldsLeft moment c handed → IsSession moment name handed o told now → IsSessionLeft moment told now seen left
      → (moment (log_in left.session.manager)).is_honest → MayStandFor g o seen (λ b. Comes seen b (broken (from b))) done cut to
      → LeavesContent moment left.session.manager d → SessionPasses g o from d to
  one_more c d from to handed o told _ now _ done cut before has is AfterLine honest may leaves =
      left_in moment laws name handed o told now is g c from to before has now (same_keeps moment now now refl) honest done cut d leaves None tt
      (λ next tied from_d. laws.left o told now.session d next is.tracks tied from_d) may
  one_more c d from to handed o told _ now _ done cut before has is (InRequest request left asks performs) honest may leaves =
      let failed = failed_in_request moment laws.decision laws.settlement laws.done o told now left is.tracks request asks performs in
      left_in moment laws name handed o told now is g c from to before has left performs.keeps honest done cut d leaves (Some failed.fault)
      failed.step.may_fail (λ next tied from_d. failed.step.finds d next (subst (λ k. IsTied true k (Some d)) failed.book tied) from_d) may
  one_more c d from to handed o told _ now _ done cut before has is (InAnswer t r n code call left waits performs) honest may leaves =
      left_in_answer moment laws name handed o told now is g c from to before has left performs.keeps honest done cut d leaves t r code call waits
      (failed_in_answer moment now left t r n code call waits performs) may

  -- the start of a session was raised from what was left before it
  pub start_raised : (c : Content) (handed : L) (o : Origin) (told seen : Seen) (now left : Server L) → HoldsLeft moment c handed
      → IsSession moment name handed o told now → IsSessionLeft moment told now seen left → (moment (log_in left.session.manager)).is_honest
      → IsRaisedFrom c o
  start_raised c handed o told _ now _ has is AfterLine honest =
      raised moment laws name handed o told now is c has now (same_keeps moment now now refl) honest
  start_raised c handed o told _ now _ has is (InRequest request left asks performs) honest =
      raised moment laws name handed o told now is c has left performs.keeps honest
  start_raised c handed o told _ now _ has is (InAnswer t r n code call left waits performs) honest =
      raised moment laws name handed o told now is c has left performs.keeps honest
