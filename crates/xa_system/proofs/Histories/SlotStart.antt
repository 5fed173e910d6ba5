-- A start of a manager whose log may be taken out.
use Rattle.std.proofs.Common.{◌≡◌, ℕ, sym, ap, subst, ◌∙◌}
use Rattle.std.specs.Prelude.{Some, IsSomeAnd}
use Rattle.xa_tm.specs.Starting.{IsOld, book_at_start}
use Rattle.xa_tm.specs.Limits.{HasRoomForRun}
use Rattle.xa_tm.specs.Release.{RowsAreOwn}
use Rattle.xa_log.specs.Content.{with_bump}
use Rattle.xa_log.specs.Contract.{Makes, Moment}
use Rattle.xa_model.specs.Facts.Distinct.{ApartRows}
use Rattle.xa_tm.specs.Begins.{records_begun, rows_begun}
use Rattle.xa_tm.specs.Book.{Book}
use Rattle.xa_tm.specs.Slots.{content_in, honest_in, last_out, log_held, moment_in, order_in, slot_moment}
use Rattle.xa_tm.specs.declared.slot.Slot.{Slot}
use Rattle.xa_tm.specs.LedgerBook as books
use Rattle.xa_tm.specs.declared.manager.Manager.{Manager}
use Rattle.xa_tm.specs.Calls.{book_in, log_in}
use Rattle.xa_tm.specs.BookAndLog.{IsTied}
use Rattle.xa_tm.specs.Started.{IsStarted, IsStartedOver}

-- two moments tell the same
pub record IsLike (a b : Moment) : Type 0 where
  pub content : a.content ≡ b.content
  pub order : b.is_in_order → a.is_in_order
  pub honest : a.is_honest → b.is_honest
  pub faults : a.fault_count ≡ b.fault_count

-- the manager and its log tell what they told before
pub record IsInSlot {L : Type 0} (place : Slot L → Moment) (moment : L → Moment) (started : Manager L) (manager : Manager (Slot L)) : Type 0 where
  pub book : book_in manager ≡ book_in started
  pub rows : rows_begun manager ≡ rows_begun started
  pub records : records_begun manager ≡ records_begun started
  pub log : IsLike (place (log_in manager)) (moment (log_in started))

pub started_in_slot : {L : Type 0} (place : Slot L → Moment) (moment : L → Moment) (threads rms : ℕ) (started : Manager L) (manager : Manager (Slot L))
    → IsInSlot place moment started manager → IsStarted threads rms started → IsStarted threads rms manager
started_in_slot place moment threads rms started manager at new = record {
  book = λ o begins. at.book ∙ new.book o (record {
    threads_are = begins.threads_are;
    rms_are = begins.rms_are;
    incarnation = begins.incarnation ∙ ap (λ (k : Book). k.incarnation) at.book;
    rows = begins.rows ∙ at.rows;
    records = begins.records ∙ at.records;
  });
  old = subst IsOld (sym at.book) new.old;
  own = subst RowsAreOwn (sym at.book) new.own;
  apart = subst ApartRows (sym at.rows) new.apart;
  sound = subst books.IsSound (sym at.book) new.sound;
  room = subst HasRoomForRun (sym at.book) new.room;
}

pub in_slot : {L : Type 0} (moment : L → Moment) (started : Manager L) (manager : Manager (Slot L)) → log_held (log_in manager) ≡ Some (log_in started)
    → book_in manager ≡ book_in started → rows_begun manager ≡ rows_begun started → records_begun manager ≡ records_begun started
    → IsInSlot (slot_moment moment) moment started manager
in_slot moment started manager held book rows records = record {
  book = book;
  rows = rows;
  records = records;
  log = record {
    content = ap (content_in (λ l. (moment l).content)) held;
    order = λ h. subst (order_in (λ l. (moment l).is_in_order)) (sym held) h;
    honest = λ h. subst (honest_in (λ l. (moment l).is_honest) (last_out (log_in manager))) held h;
    faults = ap (λ o. (moment_in moment (last_out (log_in manager)) o (log_in manager).faults).fault_count) held;
  };
}

-- so it was started over the log that was handed in
pub over_in_slot : {L : Type 0} (place : Slot L → Moment) (moment : L → Moment) (threads rms : ℕ) (started : Manager L)
    (manager : Manager (Slot L)) (handed : Moment)
    → IsInSlot place moment started manager → IsStartedOver moment threads rms handed started → IsStartedOver place threads rms handed manager
over_in_slot place moment threads rms started manager handed at over = record {
  order = λ h. at.log.order (over.order h);
  honest = λ h. over.honest (at.log.honest h);
  tied = λ near order honest. subst (IsTied near (book_in manager)) (sym at.log.content)
      (subst (λ k. IsTied near k (moment (log_in started)).content) (sym at.book) (over.tied near order (at.log.honest honest)));
  book = λ order honest. subst (λ o. IsSomeAnd o (λ c. book_in manager ≡ book_at_start threads rms c)) (sym at.log.content)
      (subst (λ k. IsSomeAnd (moment (log_in started)).content (λ c. k ≡ book_at_start threads rms c)) (sym at.book)
      (over.book order (at.log.honest honest)));
  raised = λ order honest. subst (Makes with_bump handed.content) (sym at.log.content) (over.raised order (at.log.honest honest));
  past = λ order honest. over.past order (at.log.honest honest);
  faults = at.log.faults ∙ over.faults;
}
