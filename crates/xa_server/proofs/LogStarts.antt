-- A start over a log that was handed on, and the first.
use Rattle.std.proofs.Common.{◌≡◌, ◌<◌, ◌≤◌, ◌+◌, ℕ, [], length, Some, IsSomeAnd, refl, sym, ap, ◌∙◌, subst, arith}
use Rattle.std.proofs.lemmas.List.{nil_from_length}
use Rattle.std.specs.FinMap.{len}
use Rattle.std.specs.Prelude.{◌==◌, if◌then◌else◌}
use Rattle.xa_server.specs.Sessions.{IsEmptyLog, StartsOver}
use Rattle.xa_server.specs.declared.server.Server.{Server}
use Rattle.xa_log.specs.Content.{Content, with_bump}
use Rattle.xa_log.specs.Contract.{Moment}
use Rattle.xa_model.specs.Facts.Distinct.{ApartRows}
use Rattle.xa_model.specs.Promises.Processes.{SameRecords, SameRows as SameRowLists}
use Rattle.xa_model.specs.Trace.{Origin, Trace.From}
use Rattle.xa_session.specs.Tracking.{IsRaisedFrom}
use Rattle.xa_monitor.specs.Sessions.{FindsLog, nothing_yet}
use Rattle.xa_tm.specs.Begins.{BeginsWith}
use Rattle.xa_tm.specs.Book.{Book, book_of}
use Rattle.xa_tm.specs.Calls.{book_in, log_in}
use Rattle.xa_tm.specs.Starting.{HasContent, book_at_start}

-- ** a start over a log that was handed on

module _ {L : Type 0} (moment : L → Moment) (threads rms : ℕ) (handed : L) (first : Server L) (starts : StartsOver moment threads rms handed first)
    (order : (moment handed).is_in_order) (honest : (moment (log_in first.session.manager)).is_honest) where
  abbrev k : Book
  k = book_in first.session.manager

  -- it raised the incarnation of what it found, and its book is what it found
  book_is : (d : Content) → (moment handed).content ≡ Some d → k ≡ book_at_start threads rms (with_bump d)
  book_is d has =
      let made : (moment (log_in first.session.manager)).content ≡ Some (with_bump d) =
      subst (λ x. IsSomeAnd x (λ b. (moment (log_in first.session.manager)).content ≡ Some (with_bump b))) has (starts.over.raised order honest) in
      subst (λ x. IsSomeAnd x (λ b. k ≡ book_at_start threads rms b)) made (starts.over.book order honest)

  module _ (d : Content) (has : (moment handed).content ≡ Some d) (o : Origin) (begins : BeginsWith threads rms first.session.manager o) where
    same : book_of (From o) ≡ book_at_start threads rms (with_bump d)
    same = sym (starts.started.book o begins) ∙ book_is d has

    has_content : HasContent o (with_bump d)
    has_content = record {
      incarnation = ap (λ (b : Book). b.incarnation) same;
      rows = λ g. ap (λ (b : Book). b.row g) same;
      row_number = ap (λ (b : Book). b.rows) same;
      records = λ b. ap (λ (b' : Book). b'.recorded b) same;
      record_number = ap (λ (b : Book). b.records) same;
    }

    pub raised_from : (c : Content) → d.decisions ≡ c.decisions → d.heuristics ≡ c.heuristics → c.incarnation ≤ d.incarnation → IsRaisedFrom c o
    raised_from c rows records least = record {
      found = with_bump d;
      has = has_content;
      rows = rows;
      records = records;
      raised = let more : c.incarnation < d.incarnation + 1 = omega (arith, least) in more;
      apart = subst ApartRows (sym begins.rows) starts.started.apart;
    }

-- ** the first start

-- it has no rows and no records
pub record HasNone (o : Origin) : Type 0 where
  pub rows : o.rows ≡ []
  pub records : o.heuristic_rows ≡ []

pub none_there : (c : Content) (o : Origin) → IsEmptyLog c → IsRaisedFrom c o → HasNone o
none_there c o none raised = record {
  rows = nil_from_length o.rows (raised.has.row_number ∙ (ap len raised.rows ∙ none.no_rows));
  records = nil_from_length o.heuristic_rows (raised.has.record_number ∙ (ap len raised.records ∙ none.no_records));
}

-- so it finds an empty log
pub empty_found : (c : Content) (o : Origin) → IsEmptyLog c → IsRaisedFrom c o → FindsLog (nothing_yet 0) o
empty_found c o none raised = record {
  later =
      let has = raised.has.incarnation in
      let more = raised.raised in
      omega (arith, has, more);
  rows = subst (λ xs. SameRowLists xs (if length xs == 0 then [] else [])) (sym has.rows) no_rows;
  records = subst (λ xs. SameRecords xs (if length xs == 0 then [] else [])) (sym has.records) no_records;
}
  where
    has : HasNone o
    has = none_there c o none raised

    no_rows : SameRowLists [] []
    no_rows = record { number = refl; count = λ g. refl; participants = λ g b. refl }

    no_records : SameRecords [] []
    no_records = record { number = refl; branches = λ b. refl }
