-- What was read of a log, as a book.
use Rattle.std.proofs.Common.{◌≡◌, ◌⊎◌, inl, inr, ◌+◌, Bool, true, false, ◌&&◌, Option, None, refl, sym, ap, ◌∙◌}
use Rattle.std.specs.Prelude.{nat_eq}
use Rattle.std.specs.Global.{Vec}
use Rattle.std.specs.BTreeMap.{get as tree_get}
use Rattle.std.specs.Option.{option_map}
use Rattle.std.specs.FinMap.{get, len, keys, entries}
use Rattle.std.proofs.lemmas.Bool.{and_parts}
use Rattle.xa_base.specs.Branch.{gtrid_cmp, branch_cmp}
use Rattle.xa_base.specs.declared.branch.Branch.{Branch}
use Rattle.xa_base.specs.declared.branch.Gtrid.{Gtrid}
use Rattle.xa_base.proofs.BranchOrder.{exact_branches, exact_gtrids}
use Rattle.xa_log.specs.Content.{AreOwn, Content, all_listed}
use Rattle.xa_log.specs.declared.log_rows.LogRows.{LogRows}
use Rattle.xa_tm.specs.Book.{Book}
use Rattle.xa_tm.specs.LedgerBook.{notes_at, as_book, row_at, waiting_of}
use Rattle.xa_tm.specs.Swaps.{ReadsOf, agrees, change_agrees, counts_agree, end_agrees, ends_agree, kept_row, row_agrees, rows_agree, same_how, same_row}
use Rattle.xa_tm.specs.BookAndLog.{MayHold}
use Rattle.xa_tm.specs.declared.ledger.Ledger.{Ledger}
use Rattle.xa_tm.proofs.History.Starts.{started_as}
use Rattle.xa_tm.proofs.Log.AgreeingRows.{rows_same, ends_same, nat_is, all_at, unkept, unnoted}

-- ** of the whole

-- what was read, as a book
pub record Reads (n : Ledger) (c : Content) : Type 0 where
  pub row : (g : Gtrid) → get c.decisions g ≡ row_at n.rows g
  pub rows : len c.decisions ≡ n.row_count
  pub end : (b : Branch) → get c.heuristics b ≡ (notes_at n.branches b).recorded
  pub ends : len c.heuristics ≡ n.records

module _ (k n : Ledger) (is_made : Bool) where
  -- a row agrees, or there is none on either side
  pub row_at_all : rows_agree is_made k n ≡ true → (q : Gtrid) → ((kept_row k.rows q ≡ None) × (kept_row n.rows q ≡ None)) ⊎ (row_agrees is_made k n q ≡ true)
  row_at_all e q =
      let parts = and_parts _ _ e in
      by (all_at gtrid_cmp exact_gtrids (row_agrees is_made k n) q k.rows.entries parts.0)
      (all_at gtrid_cmp exact_gtrids (row_agrees is_made k n) q n.rows.entries parts.1)
    where
      by : (tree_get gtrid_cmp k.rows q ≡ None) ⊎ (row_agrees is_made k n q ≡ true) → (tree_get gtrid_cmp n.rows q ≡ None) ⊎ (row_agrees is_made k n q ≡ true)
          → ((kept_row k.rows q ≡ None) × (kept_row n.rows q ≡ None)) ⊎ (row_agrees is_made k n q ≡ true)
      by (inr is) _ = inr is
      by (inl none) (inr is) = inr is
      by (inl none) (inl nothing) = inl (unkept k.rows q none, unkept n.rows q nothing)

  pub end_at_all : ends_agree is_made k n ≡ true → (q : Branch)
      → (((notes_at k.branches q).recorded ≡ None) × ((notes_at n.branches q).recorded ≡ None)) ⊎ (end_agrees is_made k n q ≡ true)
  end_at_all e q =
      let parts = and_parts _ _ e in
      by (all_at branch_cmp exact_branches (end_agrees is_made k n) q k.branches.entries parts.0)
      (all_at branch_cmp exact_branches (end_agrees is_made k n) q n.branches.entries parts.1)
    where
      by : (tree_get branch_cmp k.branches q ≡ None) ⊎ (end_agrees is_made k n q ≡ true)
          → (tree_get branch_cmp n.branches q ≡ None) ⊎ (end_agrees is_made k n q ≡ true)
          → (((notes_at k.branches q).recorded ≡ None) × ((notes_at n.branches q).recorded ≡ None)) ⊎ (end_agrees is_made k n q ≡ true)
      by (inr is) _ = inr is
      by (inl none) (inr is) = inr is
      by (inl none) (inl nothing) = inl (unnoted k.branches q none, unnoted n.branches q nothing)

pub both_none : (own read : Option (Vec Branch)) → own ≡ None → read ≡ None → option_map waiting_of read ≡ option_map waiting_of own
both_none own read a b = ap (option_map waiting_of) (b ∙ sym a)

module _ (k n : Ledger) (c : Content) (reads : Reads n c) where
  pub same_rows : ((q : Gtrid) → ((kept_row k.rows q ≡ None) × (kept_row n.rows q ≡ None)) ⊎ (same_row (kept_row k.rows q) (kept_row n.rows q) ≡ true))
      → (q : Gtrid) → get c.decisions q ≡ row_at k.rows q
  same_rows at q = reads.row q ∙ by (at q)
    where
      by : ((kept_row k.rows q ≡ None) × (kept_row n.rows q ≡ None)) ⊎ (same_row (kept_row k.rows q) (kept_row n.rows q) ≡ true)
          → row_at n.rows q ≡ row_at k.rows q
      by (inl none) = both_none (kept_row k.rows q) (kept_row n.rows q) none.0 none.1
      by (inr is) = rows_same (kept_row k.rows q) (kept_row n.rows q) is

  pub same_ends : ((q : Branch)
      → (((notes_at k.branches q).recorded ≡ None) × ((notes_at n.branches q).recorded ≡ None))
      ⊎ (same_how (notes_at k.branches q).recorded (notes_at n.branches q).recorded ≡ true))
      → (q : Branch) → get c.heuristics q ≡ (notes_at k.branches q).recorded
  same_ends at q = reads.end q ∙ by (at q)
    where
      by : (((notes_at k.branches q).recorded ≡ None) × ((notes_at n.branches q).recorded ≡ None))
          ⊎ (same_how (notes_at k.branches q).recorded (notes_at n.branches q).recorded ≡ true)
          → (notes_at n.branches q).recorded ≡ (notes_at k.branches q).recorded
      by (inl none) = none.1 ∙ sym none.0
      by (inr is) = ends_same _ _ is

  -- without the change in doubt
  pub unmade : agrees false k n ≡ true → MayHold (as_book k) c
  unmade e =
      let counts = and_parts (counts_agree false k n) (change_agrees false k n && (rows_agree false k n && ends_agree false k n)) e in
      let numbers = and_parts (nat_eq n.row_count k.row_count) (nat_eq n.records k.records) counts.0 in
      let change = and_parts (change_agrees false k n) (rows_agree false k n && ends_agree false k n) counts.1 in
      let all = and_parts (rows_agree false k n) (ends_agree false k n) change.1 in (
        c,
        record {
          rows = same_rows (row_at_all k n false all.0);
          row_number = reads.rows ∙ nat_is n.row_count k.row_count numbers.0;
          records = same_ends (end_at_all k n false all.1);
          record_number = reads.ends ∙ nat_is n.records k.records numbers.1;
        },
        inl (record { decisions = refl; heuristics = refl }),
      )

-- ** what was read of a log

module _ (k : Ledger) (rows : LogRows) (may : Bool) (read : ReadsOf k rows may) where
  pub as_read : (c : Content) → rows.decisions.items ≡ keys c.decisions → rows.participants.items ≡ all_listed (entries c.decisions)
      → rows.heuristics.items ≡ entries c.heuristics → AreOwn c → Reads read.read c
  as_read c ds ps hs own =
      let same = read.book in
      let is = started_as k.threads k.rms (c.incarnation + 1) rows.decisions.items rows.participants.items rows.heuristics.items c refl ds ps hs own in
      record {
        row = λ g. sym (ap (λ (b : Book). b.row g) same ∙ ap (λ (b : Book). b.row g) is);
        rows = sym (ap (λ (b : Book). b.rows) same ∙ ap (λ (b : Book). b.rows) is);
        end = λ b. sym (ap (λ (x : Book). x.recorded b) same ∙ ap (λ (x : Book). x.recorded b) is);
        ends = sym (ap (λ (b : Book). b.records) same ∙ ap (λ (b : Book). b.records) is);
      }
