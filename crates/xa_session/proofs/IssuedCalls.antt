-- A call that is issued, in histories.
use Rattle.std.proofs.Common.{◌≡◌, ℕ, Bool, true, false, [], ◌∷◌, Some, None, refl, sym, ap, ◌∙◌, subst, append_assoc}
use Rattle.std.specs.Prelude.{if◌then◌else◌, nat_le}
use Rattle.std.proofs.lemmas.List.{append-nil}
use Rattle.xa_base.specs.Call.{map_call}
use Rattle.xa_base.specs.Opening.{comes_unopened, has_closed}
use Rattle.xa_base.specs.Xid.{Xid}
use Rattle.xa_base.specs.declared.call.Call as Asking
use Rattle.xa_base.specs.declared.refusal.Refusal.TheVariants as Refusals
use Rattle.xa_base.specs.declared.reply.Reply.TheVariants as Replies
use Rattle.xa_base.specs.declared.step.Step.TheVariants as Steps
use Rattle.xa_line.specs.Grid.{HasLine, IsWhole, line_at, with_line}
use Rattle.xa_line.specs.Histories.{LineStands, known as known_call}
use Rattle.xa_line.specs.Traffic.{Traffic, answered, answers_heard, calls_issued, calls_taken, with_one_more}
use Rattle.xa_line.proofs.GridLaws.{whole-with_line}
use Rattle.xa_line.proofs.TrafficLaws.{as_many_calls, line_goes_on}
use Rattle.xa_line.proofs.HistoryLaws.{closed_known, unopened_known}
use Rattle.xa_line.proofs.ChangedLines.{line_stays, lines_with}
use Rattle.xa_model.specs.Facts as facts
use Rattle.xa_model.specs.Protocol.{Right}
use Rattle.xa_model.specs.Replies.Allowed.{Allowed.As_value}
use Rattle.xa_model.specs.Replies.History.{name_of}
use Rattle.xa_model.specs.Replies.Rules.{must_refuse}
use Rattle.xa_model.specs.Replies.View.{lines_of, view_of}
use Rattle.xa_model.specs.Replies.Steps.{accepted, happened, if_ours}
use Rattle.xa_model.specs.Trace.{Call, Happening.Issued, Trace, Trace.Then, line}
use Rattle.xa_model.proofs.Keys.{line_eq-refl}
use Rattle.xa_model.proofs.Replies.Guards.{bar_of, issue_rule, issue_why}
use Rattle.xa_model.proofs.Replies.Replies.{allowed_right}
use Rattle.xa_tm.specs.Book.{after}
use Rattle.xa_tm.specs.Calls.{book_in}
use Rattle.xa_session.specs.Following.{LeadsTo, StandsIn}
use Rattle.xa_session.specs.declared.session.Session.{Session}
use Rattle.xa_session.proofs.Books.{book_goes, call_allowed}
use Rattle.xa_session.proofs.Refusals.{issued_begun}
use Rattle.xa_session.proofs.Lines.{MayIssue}
use Rattle.xa_session.proofs.LostLines.{there_in, up_in}

issued_line : (tr : Trace) (t r : ℕ) (c : Call) (call : Asking.Call Xid) (old : Traffic) → known_call call ≡ Some c
    → LineStands tr (line t r) old → LineStands (Then tr (Issued (line t r) c)) (line t r) (record old { calls = with_one_more old.calls call })
issued_line tr t r c call old is stands =
    line_goes_on tr (Issued (line t r) c) (line t r) old (record old { calls = with_one_more old.calls call }) (call ∷ []) [] [] stands refl
    (sym (append_assoc (calls_taken old) old.calls.waiting (call ∷ []))) (rw (is, line_eq-refl (line t r)) refl)
    (sym (append-nil (answered old))) refl (sym (append-nil (answers_heard old))) refl stands.each_answered

unbarred : (shut closed : Bool) → (if shut then Some Refusals.NotOpen else (if closed then Some Refusals.Closed else None)) ≡ None
    → (shut ≡ false) × (closed ≡ false)
unbarred false false e = (refl, refl)
unbarred false true e = absurd (cc)
unbarred true closed e = absurd (cc)

module _ {L : Type 0} (old new : Session L) (t r : ℕ) (call : Asking.Call Xid) where
  -- the history refuses it no more than the session does
  issue_forced : (tr : Trace) → StandsIn tr old → MayIssue old t r call → must_refuse tr (Steps.Issue t r (map_call name_of call)) ≡ None
  issue_forced tr stands may =
      let a = map_call name_of call in
      let at = line_at old.lines t r in
      let here = stands.lines t r may.tell.has in
      let there = there_in old new t r tr stands may.tell.there in
      let up = up_in old new t r tr stands may.tell.up in
      let bar = unbarred (comes_unopened (calls_issued at) call) (has_closed (calls_issued at)) may.bar in
      let open_so = sym (unopened_known (calls_issued at) (facts.issued tr (line t r)) call here.all_issued) ∙ bar.0 in
      let unclosed = sym (closed_known (calls_issued at) (facts.issued tr (line t r)) here.all_issued) ∙ bar.1 in
      let none = call_allowed tr (book_in old.manager) stands.book stands.run t r a may.book in
      let room = ap (nat_le 64) (sym (as_many_calls tr (line t r) at here)) ∙ may.room in
      issue_rule (view_of tr) (lines_of tr) t r a
      ∙ λ i. issue_why (there i) (up i) (stands.rms_up r i) (bar_of (open_so i) (unclosed i)) (none i) (room i)

  pub issued_follows : (c : Call) → accepted (map_call name_of call) ≡ Some c → MayIssue old t r call
      → book_in new.manager ≡ after (book_in old.manager) (Issued (line t r) c)
      → new.lines ≡ with_line old.lines t r (record (line_at old.lines t r) { calls = with_one_more (line_at old.lines t r).calls call })
      → LeadsTo (Issued (line t r) c ∷ []) old new
  issued_follows c is may book lines tr stands =
      let e = Issued (line t r) c in
      let a = map_call name_of call in
      let at = line_at old.lines t r in
      let happens : happened (Steps.Issue t r a) Replies.Issued ≡ e = ap (if_ours (λ k. Issued (line t r) k)) is in
      let right : Right tr e =
      subst (Right tr) happens (allowed_right tr (Steps.Issue t r a) Replies.Issued (As_value (issue_forced tr stands may) refl)) in
      let stand = lines_with (Then tr e) old.lines t r (record at { calls = with_one_more at.calls call }) stands.whole may.tell.has
      (issued_line tr t r c call at is (stands.lines t r may.tell.has))
      (λ u q has_u apart. line_stays tr e (line u q) (line_at old.lines u q) refl (rw apart refl) refl refl (stands.lines u q has_u)) in (
        (right, tt),
        record {
          run = (stands.run, right);
          apart = stands.apart;
          threads = ap (λ g. g.threads) lines ∙ stands.threads;
          rms = ap (λ g. g.rms) lines ∙ stands.rms;
          whole = subst IsWhole (sym lines) (whole-with_line old.lines t r (record at { calls = with_one_more at.calls call }) stands.whole);
          rms_up = λ q. stands.rms_up q;
          book =
              book_goes tr (book_in old.manager) stands.book e _ stands.run right stands.apart
              (issued_begun (book_in old.manager) t r a c is may.book) book;
          lines =
              λ u q has. subst (λ g. LineStands (Then tr e) (line u q) (line_at g u q)) (sym lines) (stand u q (subst (λ g. HasLine g u q) lines has));
        },
      )
