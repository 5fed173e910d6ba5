-- Decisions, settlements and answers that change the log.
use Rattle.std.proofs.Common.{◌≡◌, ◌≢◌, ◌∙◌, inl, inr, true, ◌||◌, List, [], ◌∷◌, map, Option, None, refl, ap}
use Rattle.std.specs.Prelude.{Result, Ok, Err, OnOk}
use Rattle.std.proofs.lemmas.Bool.{or_parts, not-false}
use Rattle.xa_base.specs.declared.branch.Gtrid.{Gtrid}
use Rattle.xa_base.specs.declared.answer.Answer.TheVariants.{Ret}
use Rattle.xa_base.specs.declared.call.Call.TheVariants as Calls
use Rattle.xa_base.specs.declared.code.Code.TheVariants as Codes
use Rattle.xa_base.specs.declared.refusal.Refusal.{Refusal}
use Rattle.xa_base.specs.declared.refusal.Refusal.TheVariants.{LogFault}
use Rattle.xa_base.specs.declared.step.Outcome.{Outcome}
use Rattle.xa_base.specs.declared.step.Outcome.TheVariants as Outcomes
use Rattle.xa_base.specs.declared.step.Step.TheVariants as Steps
use Rattle.xa_log.specs.Contract.{Moment}
use Rattle.xa_model.specs.Facts.{record_of}
use Rattle.xa_model.specs.Trace.{Answer, Call, Fault.InHear, Happening.Decided, Happening.Done, Happening.Heard, Line}
use Rattle.xa_model.proofs.Replies.Guards.{peel}
use Rattle.xa_tm.proofs.Several.Decisions.{all_kept, all_open, kept_up, written_new, written_up}
use Rattle.xa_tm.specs.Book.{Book, Doubt.Adds, Doubt.Drops, Waiting, after, after_all, doubt_of, rows_for}
use Rattle.xa_tm.specs.BookAndLog.{IsChangeOf, changed_by}
use Rattle.xa_tm.specs.Calls.{AsksFor, FailsBy, IsOpenIn, book_in, log_in, written_by}
use Rattle.xa_tm.specs.InTurn.{decide_refusal, done_refusal, rows_added}
use Rattle.xa_tm.specs.LedgerBook.{IsSound}
use Rattle.xa_tm.specs.Refusing.{outlived_in, refusal_in}
use Rattle.xa_tm.specs.declared.manager.Manager.{Manager}
use Rattle.xa_session.specs.Logging.{KeepsLog}
use Rattle.xa_session.proofs.Logging.{IsDone, IsDurable, KeepsTie, asked_keeps}

-- ** decisions

decided_up : (o : Outcome) (gs : List Gtrid) (k : Book) → ((after_all k (map (λ g. Decided g o) gs)).up ≡ k.up)
    × ((after_all k (map (λ g. Decided g o) gs)).incarnation ≡ k.incarnation)
decided_up o [] k = (refl, refl)
decided_up o (g ∷ gs) k = decided_up o gs (after k (Decided g o))

done_up : (gs : List Gtrid) (k : Book) → ((after_all k (map (λ g. Done g) gs)).up ≡ k.up) × ((after_all k (map (λ g. Done g) gs)).incarnation ≡ k.incarnation)
done_up [] k = (refl, refl)
done_up (g ∷ gs) k = done_up gs (after k (Done g))

module _ {L : Type 0} (moment : L → Moment) where
  pub all_decided : (o : Outcome) (gs : List Gtrid) (old new : Manager L) (reply : Result (Unit {0}) Refusal)
      → OnOk reply (decide_refusal o (book_in old) gs ≡ None) → OnOk reply (book_in new ≡ after_all (book_in old) (map (λ g. Decided g o) gs))
      → (written_by o (book_in old) gs ≡ [] → log_in new ≡ log_in old) → OnOk reply (IsDone moment old new)
  all_decided o gs old new (Err n) none book log = tt
  all_decided o [] old new (Ok x) none book log = record { incarnation = ap (λ (k : Book). k.incarnation) book; does = inr (log refl, book) }
  all_decided o (g ∷ gs) old new (Ok x) none book log =
      let k = book_in old in
      let leads = decided_up o (g ∷ gs) k in
      record {
        incarnation = ap (λ (k : Book). k.incarnation) book ∙ leads.1;
        does = inl (ap (λ (k : Book). k.up) book ∙ leads.0 ∙ (all_open o k (g ∷ gs) none).0.up);
      }

  pub all_done : (gs : List Gtrid) (old new : Manager L) (reply : Result (Unit {0}) Refusal)
      → OnOk reply (done_refusal (book_in old) gs ≡ None) → OnOk reply (book_in new ≡ after_all (book_in old) (map (λ g. Done g) gs))
      → (gs ≡ [] → log_in new ≡ log_in old) → OnOk reply (IsDone moment old new)
  all_done gs old new (Err n) none book log = tt
  all_done [] old new (Ok x) none book log = record { incarnation = ap (λ (k : Book). k.incarnation) book; does = inr (log refl, book) }
  all_done (g ∷ gs) old new (Ok x) none book log =
      let k = book_in old in
      let leads = done_up (g ∷ gs) k in
      record {
        incarnation = ap (λ (k : Book). k.incarnation) book ∙ leads.1;
        does = inl (ap (λ (k : Book). k.up) book ∙ leads.0 ∙ kept_up k g gs none);
      }

-- rows that are to be written are of transactions without one
pub decisions_change : (o : Outcome) (k : Book) (gs : List Gtrid) → IsSound k → decide_refusal o k gs ≡ None → written_by o k gs ≢ []
    → (k.up ≡ true) × IsChangeOf k.row (rows_added o k gs)
decisions_change o k gs sound none some =
    let open_all = all_open o k gs none in
    (written_up k o gs open_all some, written_new k o gs sound.no_row open_all)

-- rows that are to leave are there
pub removals_change : (k : Book) (gs : List Gtrid) → done_refusal k gs ≡ None → gs ≢ [] → (k.up ≡ true) × IsChangeOf k.row (Drops gs)
removals_change k [] none some = absurd (some refl)
removals_change k (g ∷ gs) none some = (kept_up k g gs none, all_kept k (g ∷ gs) none)

-- what may be settled is open
settle_open : (k : Book) (g : Gtrid) → refusal_in k (Steps.Settle g) ≡ None → IsOpenIn k g
settle_open k g none =
    let up = peel _ _ _ none in
    let begun = peel _ _ _ up.1 in
    let free = peel _ _ _ begun.1 in
    let taken = or_parts ((k.transaction g).committed || outlived_in k g) ((k.transaction g).rolled_back || (k.transaction g).handed_over) free.0 in
    record {
      up = not-false _ up.0;
      begun = not-false _ begun.0;
      uncommitted = (or_parts (k.transaction g).committed (outlived_in k g) taken.0).0;
      not_rolled_back = (or_parts (k.transaction g).rolled_back (k.transaction g).handed_over taken.1).0;
    }

pub settlement_changes : (k : Book) (g : Gtrid) → IsSound k → refusal_in k (Steps.Settle g) ≡ None
    → (k.up ≡ true) × IsChangeOf k.row (Adds (rows_for k (g ∷ [])))
settlement_changes k g sound none =
    let is = settle_open k g none in
    (is.up, (sound.no_row g is.begun is.uncommitted, refl, tt))

module _ {L : Type 0} (moment : L → Moment) where
  pub one_settled : (g : Gtrid) (old new : Manager L) (reply : Result (Unit {0}) Refusal) → OnOk reply (refusal_in (book_in old) (Steps.Settle g) ≡ None)
      → OnOk reply (book_in new ≡ after (book_in old) (Decided g Outcomes.Commit)) → OnOk reply (IsDone moment old new)
  one_settled g old new (Err n) none book = tt
  one_settled g old new (Ok x) none book = record {
    incarnation = ap (λ (k : Book). k.incarnation) book;
    does = inl (ap (λ (k : Book). k.up) book ∙ (settle_open (book_in old) g none).up);
  }

-- ** answers

-- a record is no change of rows
pub answers_change : (row : Gtrid → Option Waiting) (c : Call) (a : Answer) → IsChangeOf row (doubt_of (record_of c a))
answers_change row (Calls.Commit b one_phase) (Ret (Codes.Heuristic how)) = tt
answers_change row (Calls.Rollback b) (Ret (Codes.Heuristic how)) = tt
answers_change row _ _ = tt

module _ {L : Type 0} (moment : L → Moment) (l : Line) (c : Call) (a : Answer) (old new : Manager L) where
  pub heard_keeps : IsDurable moment → (book_in old).up ≡ true
      → AsksFor (changed_by (doubt_of (record_of c a))) (moment (log_in old)) (moment (log_in new)) (let r : Result (Unit {0}) Refusal = Ok tt in r)
      → KeepsTie moment old new → book_in new ≡ after (book_in old) (Heard l c a) → KeepsLog moment old new
  heard_keeps durable up asks tied book =
      asked_keeps moment None (doubt_of (record_of c a)) (InHear l) old new (Ok tt) durable (record {
        asks = asks;
        tied = tied;
        unasked = tt;
        never = λ e. absurd (cc);
        refused = λ n e. absurd (cc);
        err = λ none. tt;
        ok = record { incarnation = ap (λ (k : Book). k.incarnation) book; does = inl (ap (λ (k : Book). k.up) book ∙ up) };
        change = λ none fault. (up, answers_change (book_in old).row c a);
        still = λ n. refl;
      })

  pub unheard_keeps : (n : Refusal) → IsDurable moment → (book_in old).up ≡ true
      → AsksFor (changed_by (doubt_of (record_of c a))) (moment (log_in old)) (moment (log_in new)) (let r : Result (Unit {0}) Refusal = Err n in r)
      → KeepsTie moment old new → (n ≢ LogFault → log_in new ≡ log_in old)
      → FailsBy (doubt_of (record_of c a)) (InHear l) (book_in old) (book_in new) n → KeepsLog moment old new
  unheard_keeps n durable up asks tied unasked err =
      asked_keeps moment None (doubt_of (record_of c a)) (InHear l) old new (Err n) durable (record {
        asks = asks;
        tied = tied;
        unasked = unasked;
        never = λ e. absurd (cc);
        refused = λ n e. absurd (cc);
        err = λ none. err;
        ok = tt;
        change = λ none fault. (up, answers_change (book_in old).row c a);
        still = λ n. refl;
      })
