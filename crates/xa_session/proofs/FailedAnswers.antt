-- A start over the log of a session whose log failed as a heuristic end was to be recorded finds
-- what the session left after the answer, or before it.
use Rattle.std.proofs.Common.{◌≡◌, ◌⊎◌, inl, inr, ℕ, Bool, true, false, Option, Some, None, refl, sym, ap, ◌∙◌, subst, length}
use Rattle.std.specs.Prelude.{if◌then◌else◌, slice_get}
use Rattle.std.specs.Option.{option_map}
use Rattle.xa_base.specs.Answer.{map_answer}
use Rattle.xa_base.specs.Call.{map_call}
use Rattle.xa_base.specs.Xid.{Xid}
use Rattle.xa_base.specs.declared.answer.Answer.{Answer as Given}
use Rattle.xa_base.specs.declared.answer.Answer.TheVariants.{Ret}
use Rattle.xa_base.specs.declared.call.Call.TheVariants as Calls
use Rattle.xa_base.specs.declared.code.Code.TheVariants as Codes
use Rattle.xa_base.specs.declared.refusal.Refusal.{Refusal}
use Rattle.xa_line.specs.Grid.{HasLine, line_at}
use Rattle.xa_log.specs.Content.{Content}
use Rattle.xa_model.specs.Facts.{Change.AddRecord, Change.NoChange, record_of}
use Rattle.xa_model.specs.Protocol.{IsRun}
use Rattle.xa_model.specs.Replies.History.{name_of}
use Rattle.xa_model.specs.Trace.{Answer, Call, Recorded, Fault.InHear, Happening.Failed, Happening.Heard, Happening.Took, Line, Origin, Trace, Trace.Then, line}
use Rattle.xa_monitor.proofs.Agreeing.{history_heard, history_up}
use Rattle.xa_monitor.proofs.Names.{alone_ran}
use Rattle.xa_monitor.specs.Seen.{HasAnswer, IsHistory, IsHistory.Hears, KeepsRules, Seen, Seen.Answered, Waits}
use Rattle.xa_monitor.specs.Sessions.{Finds, Log.LeftBy}
use Rattle.xa_tm.proofs.Log.Ties.{holds_record}
use Rattle.xa_tm.specs.Book.{Book, after, book_after, doubt_of, recorded_with, records_with}
use Rattle.xa_tm.specs.BookAndLog.{HoldsBook, MayHold, SameRowsAndRecords, changed_by}
use Rattle.xa_tm.specs.Calls.{book_in}
use Rattle.xa_session.specs.Answering.{IsFirst}
use Rattle.xa_session.specs.Following.{BookStands}
use Rattle.xa_session.specs.Hearing.{can_hear}
use Rattle.xa_session.specs.Session.{line_refusal, unfit, unfit_for}
use Rattle.xa_session.specs.Tracking.{IsFailedAnswer, IsRaisedFrom, KeepsTrack}
use Rattle.xa_session.specs.declared.session.Session.{Session}
use Rattle.xa_session.specs.declared.session.answers.Unfit.{Unfit}
use Rattle.xa_session.specs.declared.session.answers.Unfit.TheVariants as Unfits
use Rattle.xa_session.proofs.Alone.{alone_stands}
use Rattle.xa_session.proofs.Books.{book_goes}
use Rattle.xa_session.proofs.Hearings.{has_answer}
use Rattle.xa_session.proofs.Lines.{MayTell, may_tell, none_first, none_second, waiting_known}
use Rattle.xa_session.proofs.NextStarts.{Has, found, tied_has}
use Rattle.xa_session.proofs.WaitingCalls.{first_waits}

-- ** an answer that is fit

none_told : (o : Option Refusal) → option_map Unfits.Refused o ≡ None → o ≡ None
none_told None e = refl
none_told (Some n) e = absurd (cc)

heard_if : (t : Bool) → (if t then None else Some Unfits.NoSuchAnswer) ≡ None → t ≡ true
heard_if true e = refl
heard_if false e = absurd (cc)

module _ {L : Type 0} (s : Session L) (t r : ℕ) (answer : Given Xid) (fit : unfit s t r answer ≡ None) where
  abbrev unfit_so : Option Unfit
  unfit_so = unfit_for (slice_get (line_at s.lines t r).calls.waiting 0) answer

  may_be_told : MayTell s t r
  may_be_told = may_tell s t r (none_told (line_refusal s t r) (none_first (option_map Unfits.Refused (line_refusal s t r)) unfit_so fit))

  -- the session has the line
  pub fit_line : HasLine s.lines t r
  fit_line = may_be_told.has

module _ {L : Type 0} (s : Session L) (t r : ℕ) (answer : Given Xid) (c : Call) (fit : unfit s t r answer ≡ None) (first : IsFirst s t r c) where
  heard_so : can_hear (map_call name_of first.0) (map_answer name_of answer) ≡ true
  heard_so =
      heard_if (can_hear (map_call name_of first.0) (map_answer name_of answer))
      (subst (λ o. unfit_for o answer ≡ None) first.1
      (none_second (option_map Unfits.Refused (line_refusal s t r)) (unfit_so s t r answer fit) fit))

  has_so : HasAnswer c (map_answer name_of answer)
  has_so = has_answer (map_call name_of first.0) (map_answer name_of answer) c heard_so first.2

  module _ (o : Origin) (seen : Seen) (keeps : KeepsTrack o seen s) where
    waits_so : (tr : Trace) → IsHistory o seen tr → IsRun tr → Waits tr (line t r) c
    waits_so tr history run = record {
      is_up = history_up o seen tr keeps.0 history;
      first = first_waits s tr t r (keeps.1 tr history run) (fit_line s t r answer fit) (may_be_told s t r answer fit).there
          ∙ (waiting_known s.lines t r first.0 (may_be_told s t r answer fit).there first.1 ∙ first.2);
      none_unheard = ap length (history_heard o seen tr (line t r) keeps.0 history);
    }

    pub rules_so : KeepsRules o (Answered seen (line t r) c (map_answer name_of answer))
    rules_so = (keeps.0, has_so, waits_so)

-- ** its record

-- it is one, or there is none
record_is : (c : Call) (a : Answer) → (record_of c a ≡ NoChange) ⊎ ((x : Recorded) × (record_of c a ≡ AddRecord x))
record_is (Calls.Commit b one_phase) (Ret (Codes.Heuristic how)) = inr (record { branch = b; how = how }, refl)
record_is (Calls.Rollback b) (Ret (Codes.Heuristic how)) = inr (record { branch = b; how = how }, refl)
record_is _ _ = inl refl

-- what the book says after the answer, a content with its record has
heard_holds : (k : Book) (l : Line) (c : Call) (a : Answer) (d : Content) → HoldsBook k d
    → HoldsBook (after k (Heard l c a)) (changed_by (doubt_of (record_of c a)) d)
heard_holds k l c a d holds = by (record_is c a)
  where
    by : (record_of c a ≡ NoChange) ⊎ ((x : Recorded) × (record_of c a ≡ AddRecord x))
        → HoldsBook (after k (Heard l c a)) (changed_by (doubt_of (record_of c a)) d)
    by (inl none) =
        subst (λ y. HoldsBook (after k (Heard l c a)) (changed_by (doubt_of y) d)) (sym none) (record {
          rows = holds.rows;
          row_number = holds.row_number;
          records = λ q. holds.records q ∙ sym (ap (λ y. recorded_with (doubt_of y) q (k.recorded q)) none);
          record_number = holds.record_number ∙ sym (ap (λ y. records_with k (doubt_of y) k.records) none);
        })
    by (inr (x, is)) =
        subst (λ y. HoldsBook (after k (Heard l c a)) (changed_by (doubt_of y) d)) (sym is)
        (holds_record k (after k (Heard l c a)) x.branch x.how (λ g. refl) refl (λ q. ap (λ y. recorded_with (doubt_of y) q (k.recorded q)) is)
        (ap (λ y. records_with k (doubt_of y) k.records) is) d holds)

module _ (k : Book) (l : Line) (c : Call) (a : Answer) (up : k.up ≡ true) (content : Content) where
  abbrev failed : Book
  failed = book_after k (doubt_of (record_of c a)) (Failed (InHear l))

  -- so a log has what the book says after the answer, or what it said before it
  pub either_has : Has failed content → Has (after k (Heard l c a)) content ⊎ Has k content
  either_has has = by has.holds
    where
      doubt_is : failed.doubt ≡ doubt_of (record_of c a)
      doubt_is = ap (λ (t : Bool). if t then doubt_of (record_of c a) else k.doubt) up

      before : (d : Content) → HoldsBook failed d → HoldsBook k d
      before d h = record { rows = h.rows; row_number = h.row_number; records = h.records; record_number = h.record_number }

      by : MayHold failed content → Has (after k (Heard l c a)) content ⊎ Has k content
      by (d, holds, inl same) = inr (record { holds = (d, before d holds, inl same); least = has.least })
      by (d, holds, inr made) = inl (record {
        holds = (
          changed_by (doubt_of (record_of c a)) d,
          heard_holds k l c a d (before d holds),
          inl (subst (λ x. SameRowsAndRecords content (changed_by x d)) doubt_is made.1),
        );
        least = has.least;
      })

-- ** what a start finds

module _ {L : Type 0} (o : Origin) (seen : Seen) (s : Session L) (l : Line) (c : Call) (a : Answer) (keeps : KeepsTrack o seen s) where
  -- the book after the answer is that of each right history of it
  heard_book : (tr : Trace) → IsHistory o (Answered seen l c a) tr → IsRun tr → BookStands tr (after (book_in s.manager) (Heard l c a))
  heard_book _ (Hears _ tr now _ _ _ history alone) run =
      let stands = alone_stands s tr now alone (keeps.1 tr history (alone_ran tr now alone run.0.0)) in
      book_goes (Then now (Took l c a)) (book_in s.manager) stands.book (Heard l c a) (after (book_in s.manager) (Heard l c a)) run.0 run.1 stands.apart
      tt refl

  pub finds_either : (content : Content) (next : Origin) → Has (after (book_in s.manager) (Heard l c a)) content ⊎ Has (book_in s.manager) content
      → IsRaisedFrom content next → Finds (LeftBy o (Answered seen l c a) None) next ⊎ Finds (LeftBy o seen None) next
  finds_either content next (inl has) raised =
      inl (λ tr history run. found tr (after (book_in s.manager) (Heard l c a)) (heard_book tr history run) run content next has raised)
  finds_either content next (inr has) raised =
      inr (λ tr history run. found tr (book_in s.manager) (keeps.1 tr history run).book run content next has raised)

pub answer_found : {L : Type 0} (o : Origin) (seen : Seen) (s : Session L) (t r : ℕ) (answer : Given Xid) (c : Call) → KeepsTrack o seen s
    → unfit s t r answer ≡ None → IsFirst s t r c → IsFailedAnswer o seen s (line t r) c (map_answer name_of answer)
answer_found o seen s t r answer c keeps fit first =
    let l = line t r in
    let a = map_answer name_of answer in
    let k = book_in s.manager in
    record {
      keeps = rules_so s t r answer c fit first o seen keeps;
      finds = λ content next tied raised.
          finds_either o seen s l c a keeps content next
          (either_has k l c a (may_be_told s t r answer fit).up content
          (tied_has (book_after k (doubt_of (record_of c a)) (Failed (InHear l))) content tied)) raised;
    }
