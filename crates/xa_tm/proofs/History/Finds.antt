-- What a restart finds is what the history says.
use Rattle.std.proofs.Common.{◌≡◌, ◌≢◌, ◌⊎◌, inl, inr, ◌+◌, ℕ, Bool, true, false, ◌∷◌, length, refl, sym, ◌∙◌, length-append, arith}
use Rattle.std.proofs.lemmas.List.{length-map}
use Rattle.std.specs.Prelude.{if◌then◌else◌, is_some, nat_eq}
use Rattle.std.proofs.lemmas.Bool.Decides.{eqb_tells}
use Rattle.xa_base.specs.declared.reply.Reply.TheVariants as Replies
use Rattle.xa_model.specs.Replies.Allowed.{Restarts, Restarts.Restarts_as}
use Rattle.xa_model.specs.Facts.Distinct.{ApartRows}
use Rattle.xa_model.specs.Facts.{Change, Change.AddRecord, Change.AddRows, Change.DropRows, Change.NoChange, doubt, has_record, heuristic_rows, heuristics_changed, how_in, log, origin, rows_changed}
use Rattle.xa_model.specs.Protocol.{IsRun}
use Rattle.xa_model.specs.Trace.{Happening.Restarted, Recorded, Trace, Trace.Then}
use Rattle.xa_tm.specs.Book.{book_of, doubt_of, records_with, waiting_row}
use Rattle.xa_tm.specs.BookAndLog.{IsFound, rows_of}
use Rattle.xa_tm.proofs.History.RecordsAfter.{has_record_is}
use Rattle.xa_tm.proofs.History.RowCounts.{drops_counted}

module _ (tr : Trace) (right : IsRun tr) (apart : ApartRows (origin tr).rows) where
  rows_len : (c : Change) → doubt tr ≡ c → rows_of (doubt_of c) (length (log tr)) ≡ length (rows_changed c (log tr))
  rows_len (AddRows xs) e =
      let long = length-map xs waiting_row in
      let both = length-append xs (log tr) in
      omega (arith, long, both)
  rows_len (DropRows gs) e = sym (drops_counted tr gs right apart e)
  rows_len (AddRecord x) e = refl
  rows_len NoChange e = refl

  one_record : (x : Recorded) (s t : Bool) → t ≡ s
      → (if s then length (heuristic_rows tr) else length (heuristic_rows tr) + 1) ≡ length (if t then heuristic_rows tr else x ∷ heuristic_rows tr)
  one_record x true true e = refl
  one_record x false false e = omega arith
  one_record x true false e = absurd (cc)
  one_record x false true e = absurd (cc)

  records_len : (c : Change) → records_with (book_of tr) (doubt_of c) (length (heuristic_rows tr)) ≡ length (heuristics_changed c (heuristic_rows tr))
  records_len (AddRows xs) = refl
  records_len (DropRows gs) = refl
  records_len (AddRecord x) =
      one_record x (is_some (how_in (heuristic_rows tr) x.branch)) (has_record (heuristic_rows tr) x.branch) (has_record_is (heuristic_rows tr) x.branch)
  records_len NoChange = refl

  rows_found : (i d h : ℕ) → IsFound (book_of tr) i d h
      → ((nat_eq d (length (log tr)) ≡ true) × (d ≡ length (log tr))) ⊎ ((nat_eq d (length (log tr)) ≡ false) × (d ≢ length (log tr)))
      → d ≡ length (log (Then tr (Restarted i d h)))
  rows_found i d h found (inl w) = rw w.0 w.1
  rows_found i d h found (inr w) = rw w.0 (elim (found.rows) [ inl same ↦ absurd (w.1 same) | inr is ↦ is ∙ rows_len (doubt tr) refl ])

  records_found : (i d h : ℕ) → IsFound (book_of tr) i d h
      → ((nat_eq h (length (heuristic_rows tr)) ≡ true) × (h ≡ length (heuristic_rows tr)))
      ⊎ ((nat_eq h (length (heuristic_rows tr)) ≡ false) × (h ≢ length (heuristic_rows tr)))
      → h ≡ length (heuristic_rows (Then tr (Restarted i d h)))
  records_found i d h found (inl w) = rw w.0 w.1
  records_found i d h found (inr w) = rw w.0 (elim (found.records) [ inl same ↦ absurd (w.1 same) | inr is ↦ is ∙ records_len (doubt tr) ])

  found_so : (i d h : ℕ) → IsFound (book_of tr) i d h
      → (d ≡ length (log (Then tr (Restarted i d h)))) × (h ≡ length (heuristic_rows (Then tr (Restarted i d h))))
  found_so i d h found = (rows_found i d h found (eqb_tells d (length (log tr))), records_found i d h found (eqb_tells h (length (heuristic_rows tr))))

pub found_is_there : (tr : Trace) (i d h : ℕ) → IsRun tr → ApartRows (origin tr).rows → IsFound (book_of tr) i d h
    → (d ≡ length (log (Then tr (Restarted i d h)))) × (h ≡ length (heuristic_rows (Then tr (Restarted i d h))))
found_is_there tr i d h right apart found = found_so tr right apart i d h found

pub found_is_allowed : (tr : Trace) (i d h : ℕ) → IsRun tr → ApartRows (origin tr).rows → IsFound (book_of tr) i d h → Restarts tr (Replies.Restarted i d h)
found_is_allowed tr i d h right apart found = let there = found_so tr right apart i d h found in Restarts_as i d h found.greater found.most there.0 there.1
