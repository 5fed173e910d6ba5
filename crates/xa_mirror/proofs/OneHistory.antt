-- A start over a log that was made anew goes on from one right history of the sessions before it.
use Rattle.std.proofs.Common.{◌≡◌, ◌∙◌, ◌<◌, ◌≤◌, ◌⊎◌, inl, inr, ℕ, List, [], ◌∷◌, ◌++◌, true, false, Option, Some, None, refl, sym, ap, subst, arith}
use Rattle.std.proofs.lemmas.Bool.{false_from_ne_true, or_right}
use Rattle.std.proofs.lemmas.List.Elements.{All-weaker}
use Rattle.std.specs.Prelude.{All}
use Rattle.xa_base.specs.StateTable.{broken}
use Rattle.xa_base.specs.declared.answer.Answer.TheVariants.{Ret}
use Rattle.xa_base.specs.declared.state.Standing.{Standing}
use Rattle.xa_base.specs.declared.state.Standing.TheVariants.{Committed}
use Rattle.xa_log.specs.Content.{Content, without_decision, without_decisions}
use Rattle.xa_log.specs.Contract.{Moment}
use Rattle.xa_mirror.proofs.DecisionsLeftOut.{IsLeftOut, found_again, left_out}
use Rattle.xa_mirror.proofs.IssuedCommits.{were_issued}
use Rattle.xa_mirror.proofs.ToldMirrors.{never_issued}
use Rattle.xa_mirror.specs.OneHistory.{FailoversHaveOneHistory, HaveHistoryAnew, LacksOnly, MadeLogsHaveOneHistory}
use Rattle.xa_mirror.specs.ToldMirrors.{NoCommitIssued}
use Rattle.xa_model.proofs.AgreementLemmas.Alike.{undone_no_row}
use Rattle.xa_model.proofs.ProcessLemmas.Joining.{gone_right}
use Rattle.xa_model.specs.Facts.{adds_row, doubt, ever, had_row, handed_over, standing}
use Rattle.xa_model.specs.Promises.Agreement.{IsUndone}
use Rattle.xa_model.specs.Promises.Processes.{gone}
use Rattle.xa_model.specs.Protocol.{AllRight}
use Rattle.xa_model.specs.Trace.{Branch, Call, Code, Fault, Gtrid, Line, Origin, Trace, line}
use Rattle.xa_monitor.proofs.Chains.{untold}
use Rattle.xa_monitor.specs.Agreement.{IsLineOf, MayAllStand, WaitsAt}
use Rattle.xa_monitor.specs.Seen.{Seen, Seen.Answered}
use Rattle.xa_monitor.specs.Sessions.{Finds, FindsLog, IsSession as Is_session, Log.LeftBy, MayFail}
use Rattle.xa_monitor.specs.Standings.{Comes}
use Rattle.xa_outcomes.proofs.OneHistory.{committed_by}
use Rattle.xa_outcomes.proofs.Reached.{IsOneHistory, goes_on, reached}
use Rattle.xa_outcomes.proofs.ServedSessions.{GoesOnFrom, all_on}
use Rattle.xa_outcomes.specs.Parts.{IsPart}
use Rattle.xa_server.proofs.Failures.{IsFailedToHear, failed_in_answer, failed_in_request}
use Rattle.xa_server.proofs.LeftLogs.{raised_once, start_of}
use Rattle.xa_server.proofs.LogLemmas.{same_keeps}
use Rattle.xa_server.proofs.SessionChains.{Laws, knows, line_is, old, on_branches, raised, tied}
use Rattle.xa_server.specs.Sessions.{AreServed, HasOneHistory, HoldsLeft, IsSession, IsSessionLeft, IsSessionLeft.AfterLine, IsSessionLeft.InAnswer, IsSessionLeft.InRequest, WasLeft}
use Rattle.xa_server.specs.declared.server.Server.{Server}
use Rattle.xa_session.proofs.FailedAnswers.{fit_line}
use Rattle.xa_session.specs.Logging.{KeepsLog, LeavesContent}
use Rattle.xa_session.specs.Session.{known_waiting}
use Rattle.xa_session.specs.Tracking.{IsFailedAnswer, IsRaisedFrom}
use Rattle.xa_tm.specs.BookAndLog.{IsTied}
use Rattle.xa_tm.specs.Calls.{book_in, log_in}
use Rattle.xa_tm.specs.Laws.{StartRowsAreApart}
use Rattle.xa_tm.specs.Starting.{StartsHaveContent}

-- ** what is said of a history by where it leaves the branches

module _ (whole : Trace) (right : AllRight whole) (f : Branch → Standing) (there : (b : Branch) → standing (gone whole) b ≡ broken (f b)) where
  gone_so : AllRight (gone whole)
  gone_so = gone_right whole right

  pub committed_so : (b : Branch) → f b ≡ Committed → (ever whole b.gtrid ≡ true) ⊎ (handed_over whole b.gtrid ≡ true)
  committed_so b e = by (committed_by (gone whole) gone_so b (there b ∙ ap broken e))
    where
      by : (had_row whole b.gtrid ≡ true) ⊎ (handed_over whole b.gtrid ≡ true) → (ever whole b.gtrid ≡ true) ⊎ (handed_over whole b.gtrid ≡ true)
      by (inl had) = inl (or_right (adds_row (doubt whole) b.gtrid) (had_row whole b.gtrid) had)
      by (inr handed) = inr handed

  pub undone_so : (b : Branch) → IsUndone (f b) → ever whole b.gtrid ≡ false
  undone_so b u = undone_no_row (gone whole) b gone_so (subst IsUndone (sym (there b)) (still (f b) u))
    where
      still : (s : Standing) → IsUndone s → IsUndone (broken s)
      still s (inl e) = inl (ap broken e)
      still s (inr e) = inr (ap broken e)

  abbrev pub one_history : (next : Origin) → FindsLog whole next → HasOneHistory f next
  one_history next found = record {
    whole = whole;
    right = right;
    there = there;
    finds = found;
    committed = committed_so;
    undone = undone_so;
  }

-- ** the mirror

records_stay : (gs : List Gtrid) (c : Content) → (without_decisions gs c).heuristics ≡ c.heuristics
records_stay [] c = refl
records_stay (g ∷ gs) c = records_stay gs (without_decision g c)

incarnation_stays : (gs : List Gtrid) (c : Content) → (without_decisions gs c).incarnation ≡ c.incarnation
incarnation_stays [] c = refl
incarnation_stays (g ∷ gs) c = incarnation_stays gs (without_decision g c)

-- a start over the mirror is one over the log without those rows
pub raised_without : (gs : List Gtrid) (c d : Content) (next : Origin) → LacksOnly gs c d → IsRaisedFrom d next → IsRaisedFrom (without_decisions gs c) next
raised_without gs c d next lacks from_d = record {
  found = from_d.found;
  has = from_d.has;
  rows = from_d.rows ∙ lacks.rows;
  records = from_d.records ∙ (lacks.records ∙ sym (records_stay gs c));
  raised = raised;
  apart = from_d.apart;
}
  where
    raised : (without_decisions gs c).incarnation < from_d.found.incarnation
    raised = let s = incarnation_stays gs c in let l = lacks.later in let r = from_d.raised in omega (arith, s, l, r)

-- ** the sessions before

none_asked : Gtrid
none_asked = record { incarnation = 0; sequence = 0 }

module _ {L : Type 0} (moment : L → Moment) (laws : Laws L) (content : StartsHaveContent) (apart : StartRowsAreApart) (name : List ℕ)
    (last : Option (Server L)) (f : Branch → Standing) (served : AreServed moment name last f) (c : Content) (was : WasLeft moment last c)
    (gs : List Gtrid) (none : All (λ g. NoCommitIssued moment name g last f served) gs) where
  on : GoesOnFrom moment name laws (λ s. ⊥) (λ s l c a t. t) none_asked last f served (start_of c)
  on = all_on moment name laws (λ s. ⊥) (λ s l c a t. t) none_asked last f served c was (start_of c) (raised_once content apart c)

  m : IsOneHistory on.log f on.after
  m = reached on.log f on.after

  -- their history without those decisions
  l : IsLeftOut content apart gs c m.whole
  l = left_out content apart gs c m.whole m.right (m.finds (start_of c) on.finds)
      (All-weaker (λ g. NoCommitIssued moment name g last f served) (λ g. were_issued m.whole g ≡ false)
      (λ g n. false_from_ne_true _ (never_issued moment name g last f served m.whole (on.parts m.whole m.parts) n)) gs none)

  there : (b : Branch) → broken (standing l.left b) ≡ broken (f b)
  there b = ap broken (l.there b) ∙ m.there b

  module _ (d : Content) (lacks : LacksOnly gs c d) where
    goes_on_from : (next : Origin) → IsRaisedFrom d next → FindsLog l.left next
    goes_on_from next from_d =
        found_again content apart (without_decisions gs c) l.left l.found next (raised_without gs c d next lacks from_d)

    start_goes_on : (next : Origin) → IsRaisedFrom d next → HasOneHistory f next
    start_goes_on next from_d = one_history l.left l.right f there next (goes_on_from next from_d)

    -- ** one session more

    module _ (to : Branch → Standing) (handed : L) (o : Origin) (told : Seen) (now : Server L) (has_left : HoldsLeft moment d handed)
        (is : IsSession moment name handed o told now) (left : Server L) (keeps : KeepsLog moment now.session.manager left.session.manager)
        (honest : (moment (log_in left.session.manager)).is_honest) (e : Content) (leaves : LeavesContent moment left.session.manager e)
        (next : Origin) (from_e : IsRaisedFrom e next) where
      finds_left : FindsLog l.left o
      finds_left = goes_on_from o (raised moment laws name handed o told now is d has_left left keeps honest)

      is_tied : IsTied true (book_in left.session.manager) (Some e)
      is_tied = tied moment laws name handed o told now is d has_left left keeps honest e leaves

      session : (fails : Option Fault) → MayFail o told fails → Is_session o told fails
      session fails may_fail = record {
        old = old moment laws name handed o told now is;
        keeps = is.tracks.0;
        on_branches = on_branches moment laws name handed o told now is;
        may_fail = may_fail;
      }

      abbrev All_of : Seen → Type 0
      All_of seen = HaveHistoryAnew moment name last f served gs o told seen to next

      all_of : (seen kept : Seen) → (kept ≡ told) ⊎ (kept ≡ seen) → (fails : Option Fault) → Is_session o kept fails → (done cut : List Line)
          → MayAllStand o kept (λ b. Comes kept b (broken (f b))) done cut to → Finds (LeftBy o kept fails) next → All_of seen
      all_of seen kept is_kept fails session done cut may finds =
          let all = goes_on l.left l.right (l.named m.named) f to there o finds_left kept fails session done cut may in
          record {
            history = one_history all.whole all.right to all.there next (all.finds next finds);
            before = m.whole;
            parts = on.parts m.whole m.parts;
            session = record {
              kept = kept;
              is_kept = is_kept;
              fails = fails;
              part = subst (λ past. IsPart o kept fails past all.whole) l.is all.part;
            };
          }

      -- in an answer: what the next start finds is what was left after it, or before it, with the
      -- call under way
      in_answer : (t r : ℕ) (code : Code) (call : Call) → known_waiting now.session.lines t r ≡ Some call → IsFailedToHear t r code call now left
          → (done cut : List Line)
          → MayAllStand o (Answered told (line t r) call (Ret code)) (λ b. Comes (Answered told (line t r) call (Ret code)) b (broken (f b))) done cut to
          → All_of (Answered told (line t r) call (Ret code))
      in_answer t r code call waits failed done cut may = either (found.finds e next (subst (λ k. IsTied true k (Some e)) failed.book is_tied) from_e)
        where
          found : IsFailedAnswer o told now.session (line t r) call (Ret code)
          found = laws.answer o told now.session t r (Ret code) call is.tracks failed.fit failed.first

          answered : Is_session o (Answered told (line t r) call (Ret code)) None
          answered = record {
            old = old moment laws name handed o told now is;
            keeps = found.keeps;
            on_branches = (on_branches moment laws name handed o told now is, tt);
            may_fail = tt;
          }

          here : IsLineOf o (line t r)
          here = line_is moment laws name handed o told now is t r (fit_line now.session t r (Ret code) failed.fit)

          before : MayAllStand o told (λ b. Comes told b (broken (f b))) (done ++ line t r ∷ []) cut to
          before =
              untold o told (line t r) call (Ret code) here found.keeps.1
              (subst (WaitsAt o told (line t r) 0) waits (laws.waiting o told now.session t r 0 is.tracks here.0 here.1))
              (knows moment laws name handed o told now is)
              (goes_on l.left l.right (l.named m.named) f to there o finds_left (Answered told (line t r) call (Ret code)) None answered done cut may).explained
              (λ b. broken (f b)) done cut to may

          either : Finds (LeftBy o (Answered told (line t r) call (Ret code)) None) next ⊎ Finds (LeftBy o told None) next
              → All_of (Answered told (line t r) call (Ret code))
          either (inl finds) =
              all_of (Answered told (line t r) call (Ret code)) (Answered told (line t r) call (Ret code)) (inr refl) None answered done cut may finds
          either (inr finds) =
              all_of (Answered told (line t r) call (Ret code)) told (inl refl) None (session None tt) (done ++ line t r ∷ []) cut before finds

    one_more : (to : Branch → Standing) (handed : L) (o : Origin) (told seen : Seen) (now left : Server L) (done cut : List Line) → HoldsLeft moment d handed
        → IsSession moment name handed o told now → IsSessionLeft moment told now seen left → (moment (log_in left.session.manager)).is_honest
        → MayAllStand o seen (λ b. Comes seen b (broken (f b))) done cut to → (e : Content) → LeavesContent moment left.session.manager e
        → (next : Origin) → IsRaisedFrom e next → HaveHistoryAnew moment name last f served gs o told seen to next
    one_more to handed o told _ now _ done cut has is AfterLine honest may e leaves next from_e =
        let keeps = same_keeps moment now now refl in
        all_of to handed o told now has is now keeps honest e leaves next from_e told told (inl refl) None
        (session to handed o told now has is now keeps honest e leaves next from_e None tt) done cut may
        (laws.left o told now.session e next is.tracks (is_tied to handed o told now has is now keeps honest e leaves next from_e) from_e)
    one_more to handed o told _ now _ done cut has is (InRequest request left asks performs) honest may e leaves next from_e =
        let failed = failed_in_request moment laws.decision laws.settlement laws.done o told now left is.tracks request asks performs in
        all_of to handed o told now has is left performs.keeps honest e leaves next from_e told told (inl refl) (Some failed.fault)
        (session to handed o told now has is left performs.keeps honest e leaves next from_e (Some failed.fault) failed.step.may_fail) done cut may
        (failed.step.finds e next
        (subst (λ k. IsTied true k (Some e)) failed.book (is_tied to handed o told now has is left performs.keeps honest e leaves next from_e)) from_e)
    one_more to handed o told _ now _ done cut has is (InAnswer t r n code call left waits performs) honest may e leaves next from_e =
        in_answer to handed o told now has is left performs.keeps honest e leaves next from_e t r code call waits
        (failed_in_answer moment now left t r n code call waits performs) done cut may

module _ {L : Type 0} (moment : L → Moment) (laws : Laws L) (content : StartsHaveContent) (apart : StartRowsAreApart) where
  pub logs_go_on : MadeLogsHaveOneHistory moment
  logs_go_on name last f c d gs next served was lacks none from_d =
      start_goes_on moment laws content apart name last f served c was gs none d lacks next from_d

  pub failovers_go_on : FailoversHaveOneHistory moment
  failovers_go_on name last from to c d e gs handed o next told seen now left done cut served was lacks none has is is_left honest may leaves from_e =
      one_more moment laws content apart name last from served c was gs none d lacks to handed o told seen now left done cut has is is_left honest may e leaves
      next from_e
