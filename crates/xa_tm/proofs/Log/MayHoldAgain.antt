-- A log whose rows agree with those of the book may be held by it.
use Rattle.std.proofs.Common.{◌≡◌, Bool, true, false, not, ◌&&◌, ◌||◌, Option, Some, None, is_some, refl, sym, ap, ◌∙◌, subst, IsSomeAnd}
use Rattle.std.specs.Prelude.{if◌then◌else◌}
use Rattle.std.specs.FinMap.{keys, entries}
use Rattle.std.proofs.lemmas.Bool.{and_parts, true≢false}
use Rattle.xa_base.specs.Branch.{branch_eq}
use Rattle.xa_base.proofs.BranchKeys.{branch_eq-refl}
use Rattle.xa_log.specs.Content.{AreOwn, Content, all_listed, unchanged}
use Rattle.xa_log.specs.Contract.{Makes}
use Rattle.xa_log.specs.declared.log_rows.LogRows.{LogRows}
use Rattle.xa_tm.specs.LedgerBook.{notes_at, as_book}
use Rattle.xa_tm.specs.Swaps.{ReadsOf, rows_agree_with, records_agree_with, agrees, change_agrees, counts_agree, end_agrees_with, ends_agree, is_how, rows_agree, same_how}
use Rattle.xa_tm.specs.BookAndLog.{MayHold}
use Rattle.xa_tm.specs.declared.change.Change.{Change}
use Rattle.xa_tm.specs.declared.change.Change.TheVariants.{AddRows, DropRows, AddRecord, Nothing}
use Rattle.xa_tm.specs.declared.ledger.Ledger.{Ledger}
use Rattle.xa_tm.proofs.Log.ReadRows.{Reads, row_at_all, end_at_all, unmade, as_read}
use Rattle.xa_tm.proofs.Log.AgreeingChanges.{Agrees, added, dropped, noted}

module _ (k n : Ledger) (c : Content) (reads : Reads n c) where
  -- with the change in doubt
  changed : (d : Change) → k.doubt ≡ d → Agrees k n c reads d → MayHold (as_book k) c
  changed (AddRows v) is a = added k n c reads v is a.change a
  changed (DropRows g v) is a = dropped k n c reads g v is a.change a
  changed (AddRecord b how) is a =
      noted k n c reads b how is (at (branch_eq-refl b)
      (subst (λ d. end_agrees_with d (notes_at k.branches b).recorded (notes_at n.branches b).recorded b ≡ true) is a.change)) a
    where
      at : branch_eq b b ≡ true → end_agrees_with (AddRecord b how) (notes_at k.branches b).recorded (notes_at n.branches b).recorded b ≡ true
          → (is_how (notes_at n.branches b).recorded how && not (is_some (notes_at k.branches b).recorded)) ≡ true
      at same e =
          sym (ap (λ t. if t then (is_how (notes_at n.branches b).recorded how && not (is_some (notes_at k.branches b).recorded))
          else same_how (notes_at k.branches b).recorded (notes_at n.branches b).recorded) same) ∙ e
  changed Nothing is a = absurd (true≢false (sym a.change))

  made_too : agrees true k n ≡ true → MayHold (as_book k) c
  made_too e =
      let counts = and_parts (counts_agree true k n) (change_agrees true k n && (rows_agree true k n && ends_agree true k n)) e in
      let numbers = and_parts (rows_agree_with k.doubt k.row_count n.row_count) (records_agree_with k.doubt k.records n.records) counts.0 in
      let change = and_parts (change_agrees true k n) (rows_agree true k n && ends_agree true k n) counts.1 in
      let all = and_parts (rows_agree true k n) (ends_agree true k n) change.1 in
      changed k.doubt refl (record {
        change = change.0;
        row = numbers.0;
        record_ = numbers.1;
        rows = row_at_all k n true all.0;
        ends = end_at_all k n true all.1;
      })

  may_hold : (agrees false k n || agrees true k n) ≡ true → MayHold (as_book k) c
  may_hold e = by (agrees false k n) refl e
    where
      by : (t : Bool) → agrees false k n ≡ t → (t || agrees true k n) ≡ true → MayHold (as_book k) c
      by true is e = unmade k n c reads is
      by false is e = made_too e

module _ (k : Ledger) (rows : LogRows) (may : Bool) (read : ReadsOf k rows may) where
  held_again : may ≡ true → (c : Content) → rows.decisions.items ≡ keys c.decisions
      → rows.participants.items ≡ all_listed (entries c.decisions) → rows.heuristics.items ≡ entries c.heuristics → AreOwn c → MayHold (as_book k) c
  held_again told c ds ps hs own = may_hold k read.read c (as_read k rows may read c ds ps hs own) (sym read.agree ∙ told)

-- what a look at the rows left of a log
pub held_by : (k : Ledger) (rows : LogRows) (may : Bool) → may ≡ true → ReadsOf k rows may → (old new : Option Content)
    → IsSomeAnd old (λ c. rows.decisions.items ≡ keys c.decisions) → IsSomeAnd old (λ c. rows.participants.items ≡ all_listed (entries c.decisions))
    → IsSomeAnd old (λ c. rows.heuristics.items ≡ entries c.heuristics) → Makes unchanged old new → ((c : Content) → old ≡ Some c → AreOwn c)
    → IsSomeAnd new (MayHold (as_book k))
held_by k rows may told read None new ds ps hs same own = absurd ds
held_by k rows may told read (Some c) new ds ps hs same own =
    subst (λ o. IsSomeAnd o (MayHold (as_book k))) (sym same) (held_again k rows may read told c ds ps hs (own c refl))
