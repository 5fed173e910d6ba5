-- A start over the log of a session finds what the session left in it.
use Rattle.std.proofs.Common.{◌≡◌, ◌≤◌, ◌-◌, ◌⊎◌, inl, inr, Bool, true, false, refl, sym, ap, ◌∙◌, subst, arith}
use Rattle.std.specs.Prelude.{Some, None}
use Rattle.xa_base.specs.declared.branch.Gtrid.{Gtrid}
use Rattle.std.specs.FinMap.{get, len}
use Rattle.xa_log.specs.Content.{Content}
use Rattle.xa_model.proofs.AgreementLemmas.Distinct.{doubt_is_new_to}
use Rattle.xa_model.specs.Facts.{doubt, incarnation}
use Rattle.xa_model.specs.Protocol.{IsRun, RightFault}
use Rattle.xa_model.specs.Trace.{Fault, Happening.Failed, Origin, Trace, Trace.Then}
use Rattle.xa_monitor.specs.Seen.{Seen}
use Rattle.xa_monitor.specs.Sessions.{Finds, FindsLog, Log.LeftBy, MayFail}
use Rattle.xa_tm.specs.Book.{Book, Doubt, book_after, book_of, doubt_of_happening}
use Rattle.xa_tm.specs.BookAndLog.{IsTied, MayHold, SameRowsAndRecords, TiedBy}
use Rattle.xa_tm.specs.Calls.{book_in}
use Rattle.xa_tm.specs.Release.{HasReleased}
use Rattle.xa_session.specs.Following.{BookStands, StandsIn}
use Rattle.xa_session.specs.Tracking.{IsRaisedFrom, KeepsTrack}
use Rattle.xa_session.specs.declared.session.Session.{Session}
use Rattle.xa_session.proofs.Books.{book_goes}
use Rattle.xa_tm.specs.LogRows.{MayHoldRows, StartsOver, after_change}
use Rattle.xa_tm.proofs.Log.NextRows.{next_records, next_rows}
use Rattle.xa_tm.proofs.Log.TellsRows.{may_hold_rows, row_in_is}

-- ** what a log that is tied to a book has

pub record Has (k : Book) (c : Content) : Type 0 where
  pub holds : MayHold k c
  pub least : k.incarnation ≤ c.incarnation

pub tied_has : (k : Book) (c : Content) → IsTied true k (Some c) → Has k c
tied_has k c tied = by k.up tied
  where
    by : (u : Bool) → TiedBy u true k (Some c) → Has k c
    by true tied = record {
      holds = (c, tied.holds, inl (record { decisions = refl; heuristics = refl }));
      least = let i = tied.incarnation in omega (arith, i);
    }
    by false tied = let at = tied c refl in record { holds = at.holds; least = (at.incarnation refl).least }

-- what was released is nothing to the log
whole_holds : (gone : Gtrid → Bool) (whole k : Book) (c : Content) → HasReleased gone whole k → MayHold k c → MayHold whole c
whole_holds gone whole k c released may =
    subst (λ b. MayHold b c) (sym released.same) (
      may.0,
      record {
        rows = may.1.rows;
        row_number = may.1.row_number;
        records = may.1.records;
        record_number = may.1.record_number;
      },
      may.2,
    )

-- ** what a start finds

module _ (past : Trace) (k : Book) (stands : BookStands past k) (run : IsRun past) (c : Content) (next : Origin) (has : Has k c)
    (raised : IsRaisedFrom c next) where
  -- the log, as it was before it was raised last
  abbrev before : Content
  before = record c { incarnation = next.incarnation - 1 }

  over : StartsOver next before
  over = record {
    rows = record {
      rows = λ g. sym (raised.has.rows g ∙ ap (λ m. get m g) raised.rows) ∙ row_in_is next.rows g;
      row_number = sym (raised.has.row_number ∙ ap len raised.rows);
      records = λ b. sym (raised.has.records b ∙ ap (λ m. get m b) raised.records);
      record_number = sym (raised.has.record_number ∙ ap len raised.records);
    };
    incarnation = let i = raised.has.incarnation in let r = raised.raised in omega (arith, i, r);
  }

  left : MayHoldRows past before
  left = (at.0, at.1, by at.2)
    where
      at : MayHoldRows past c
      at = may_hold_rows past c (whole_holds stands.0 (book_of past) k c stands.1 has.holds)

      by : SameRowsAndRecords c at.0 ⊎ SameRowsAndRecords c (after_change (doubt past) at.0)
          → SameRowsAndRecords before at.0 ⊎ SameRowsAndRecords before (after_change (doubt past) at.0)
      by (inl same) = inl (record { decisions = same.decisions; heuristics = same.heuristics })
      by (inr same) = inr (record { decisions = same.decisions; heuristics = same.heuristics })

  pub found : FindsLog past next
  found = record {
    later =
        let i : incarnation past ≡ k.incarnation = ap (λ (b : Book). b.incarnation) stands.1.same in
        let least = has.least in
        let is = raised.has.incarnation in
        let more = raised.raised in
        omega (arith, i, least, is, more);
    rows = next_rows past next before (doubt_is_new_to past run) left over raised.apart;
    records = next_records past next before (doubt_is_new_to past run) left over;
  }

pub finds_the_log : {L : Type 0} (o : Origin) (seen : Seen) (s : Session L) (c : Content) (next : Origin) → KeepsTrack o seen s
    → IsTied true (book_in s.manager) (Some c) → IsRaisedFrom c next → Finds (LeftBy o seen None) next
finds_the_log o seen s c next keeps tied raised tr history run =
    found tr (book_in s.manager) (keeps.1 tr history run).book run c next (tied_has (book_in s.manager) c tied) raised

-- ** where the log failed

module _ {L : Type 0} (o : Origin) (seen : Seen) (s : Session L) (f : Fault) (asked : Doubt) (keeps : KeepsTrack o seen s)
    (may : MayFail o seen (Some f)) (asks : (tr : Trace) → StandsIn tr s → asked ≡ doubt_of_happening tr (Failed f)) where
  pub finds_failed : (c : Content) (next : Origin) → IsTied true (book_after (book_in s.manager) asked (Failed f)) (Some c)
      → IsRaisedFrom c next → Finds (LeftBy o seen (Some f)) next
  finds_failed c next tied raised tr history run =
      let stands = keeps.1 tr history run in
      let right : RightFault tr f = may.1 tr history run in
      let behind = book_goes tr (book_in s.manager) stands.book (Failed f) (book_after (book_in s.manager) asked (Failed f)) run right stands.apart tt
      (ap (λ d. book_after (book_in s.manager) d (Failed f)) (asks tr stands)) in
      let has = tied_has (book_after (book_in s.manager) asked (Failed f)) c tied in
      found (Then tr (Failed f)) (book_after (book_in s.manager) asked (Failed f)) behind (run, right) c next has raised
