-- A log that agrees with the book, except for the change in doubt, may be held by it after that
-- change.
use Rattle.std.proofs.Common.{◌≡◌, length, map, ◌⊎◌, inl, inr, ◌+◌, ◌-◌, List, [], ◌∷◌, Bool, true, false, not, ◌&&◌, ◌||◌, cond, Option, Some, None, is_some, refl, sym, ap, ◌∙◌, subst, arith, Ordering, Equal}
use Rattle.std.specs.Prelude.{if◌then◌else◌, unwrap_or}
use Rattle.std.specs.Global.{Vec}
use Rattle.std.specs.List.{list_all}
use Rattle.std.specs.Ordering.{eq_by_cmp}
use Rattle.std.specs.Cmp.{IsTotalOrder}
use Rattle.std.specs.FinMap.{FinMap, get, len, insert, remove, get-insert, get-remove, len-remove, same_map}
use Rattle.std.proofs.lemmas.Bool.{and_parts}
use Rattle.std.proofs.lemmas.List.{length-map}
use Rattle.std.proofs.lemmas.Cmp.{eq_by_cmp_equiv}
use Rattle.xa_base.specs.Branch.{branch_cmp, gtrid_eq, branch_eq}
use Rattle.xa_base.specs.declared.branch.Branch.{Branch}
use Rattle.xa_base.specs.declared.branch.Gtrid.{Gtrid}
use Rattle.xa_base.specs.declared.code.How.{How}
use Rattle.xa_base.proofs.BranchOrder.{branches_total, exact_branches, gtrids_total, exact_gtrids}
use Rattle.xa_base.proofs.BranchKeys.{gtrid_eq-true}
use Rattle.xa_base.proofs.Orders.{branch_swap, equal_is}
use Rattle.xa_log.specs.Content.{Content, with_heuristic, without_decisions}
use Rattle.xa_log.specs.KeySet.{from_list}
use Rattle.xa_log.specs.declared.decision.Decision.{Decision}
use Rattle.xa_log.proofs.TakenTogether.{same_heuristics}
use Rattle.xa_model.proofs.Invariant.RowLists.{each_is}
use Rattle.xa_model.specs.Facts.{has_gtrid}
use Rattle.xa_model.specs.Facts.Distinct.{EachOnce}
use Rattle.xa_tm.specs.Book.{Waiting, Doubt, Doubt.Adds, Doubt.Drops, row_among, row_with, row_without}
use Rattle.xa_tm.specs.LedgerBook.{notes_at, decided_row, doubt_of_change, as_book, gtrids_of, row_at}
use Rattle.xa_tm.specs.Swaps.{each_once, keeps_row, lacks_row, rows_agree_with, records_agree_with, change_agrees_with, end_agrees_with, is_how, kept_row, row_agrees, row_agrees_with, same_how}
use Rattle.xa_tm.specs.BookAndLog.{IsChangeOf, MayHold, SameRowsAndRecords, changed_by, rows_of, with_rows}
use Rattle.xa_tm.specs.declared.change.Change.{Change}
use Rattle.xa_tm.specs.declared.change.Change.TheVariants.{AddRows, DropRows, AddRecord}
use Rattle.xa_tm.specs.declared.ledger.Ledger.{Ledger}
use Rattle.xa_tm.proofs.Several.Contents.{added_heuristics, among_none, changed_at, changed_len, decided_names, dropped_at, names_of, of_same, without_none, without_some}
use Rattle.xa_tm.proofs.Several.Lists.{once_among, once_is, once_so}
use Rattle.xa_tm.proofs.Log.AgreeingRows.{no_row, end_is, no_end, ends_same, nat_is, decided_is, dropped_is, some_kept, named_all, decided_all}
use Rattle.xa_tm.proofs.Log.ReadRows.{Reads, both_none, same_rows, same_ends}

module _ {K X : Type 0} {R : K → K → Ordering} (o : IsTotalOrder R) (exact : (a b : K) → R a b ≡ Equal → a ≡ b) (m : FinMap R X) (k : K) (v : X) where
  put_back : get m k ≡ Some v → insert (remove m k) k v ≡ m
  put_back has = same_map o exact _ _ (λ q. get-insert o (remove m k) k v q ∙ by q (eq_by_cmp R q k) refl)
    where
      by : (q : K) (t : Bool) → eq_by_cmp R q k ≡ t → cond (eq_by_cmp R q k) (Some v) (get (remove m k) q) ≡ get m q
      by q true h = ap (λ t. cond t (Some v) (get (remove m k) q)) h ∙ sym has ∙ ap (get m) (sym (exact q k (equal_is _ h)))
      by q false h = ap (λ t. cond t (Some v) (get (remove m k) q)) h ∙ get-remove o m k q ∙ ap (λ t. cond t None (get m q)) h

  is_gone : get (remove m k) k ≡ None
  is_gone = get-remove o m k k ∙ ap (λ t. cond t None (get m k)) ((eq_by_cmp_equiv o).refl k)

  gone : (q : K) → get (remove m k) q ≡ cond (eq_by_cmp R q k) None (get m q)
  gone q = get-remove o m k q

  one_less : get m k ≡ Some v → len (remove m k) ≡ len m - 1
  one_less has = len-remove o m k ∙ ap (λ w. cond (is_some w) (len m - 1) (len m)) has

module _ (k n : Ledger) (c : Content) (reads : Reads n c) where
  abbrev AgreeRows : Change → Type 0
  AgreeRows d = (q : Gtrid) → ((kept_row k.rows q ≡ None) × (kept_row n.rows q ≡ None)) ⊎ (row_agrees_with d k.rows n.rows q ≡ true)

  abbrev AgreeEnds : Change → Type 0
  AgreeEnds d = (q : Branch) → (((notes_at k.branches q).recorded ≡ None) × ((notes_at n.branches q).recorded ≡ None))
      ⊎ (end_agrees_with d (notes_at k.branches q).recorded (notes_at n.branches q).recorded q ≡ true)

  pub record Agrees (d : Change) : Type 0 where
    pub change : change_agrees_with d k n ≡ true
    pub row : rows_agree_with d k.row_count n.row_count ≡ true
    pub record_ : records_agree_with d k.records n.records ≡ true
    pub rows : AgreeRows d
    pub ends : AgreeEnds d

  other_end : (b q : Branch) (t : Bool) → branch_eq b q ≡ false
      → (((notes_at k.branches q).recorded ≡ None) × ((notes_at n.branches q).recorded ≡ None))
      ⊎ ((if branch_eq b q then t else same_how (notes_at k.branches q).recorded (notes_at n.branches q).recorded) ≡ true)
      → get c.heuristics q ≡ (notes_at k.branches q).recorded
  other_end b q t other (inl none) = reads.end q ∙ none.1 ∙ sym none.0
  other_end b q t other (inr is) = reads.end q
      ∙ ends_same _ _ (ap (λ s. if s then t else same_how (notes_at k.branches q).recorded (notes_at n.branches q).recorded) (sym other) ∙ is)

  -- what is read has these rows, each with the change
  module _ (d : Doubt) (is : doubt_of_change k.doubt ≡ d) (of : IsChangeOf (row_at k.rows) d) (before : Content)
      (ends : before.heuristics ≡ c.heuristics) (same_end : (changed_by d before).heuristics ≡ before.heuristics)
      (was : (q : Gtrid) → get before.decisions q ≡ row_at k.rows q)
      (at : (q : Gtrid) → get c.decisions q ≡ row_with d q (row_at k.rows q)) where
    made_so : SameRowsAndRecords c (changed_by d before)
    made_so = record {
      decisions = same_map gtrids_total exact_gtrids _ _ (λ q.
          at q ∙ ap (row_with d q) (sym (was q)) ∙ sym (changed_at d before (of_same (row_at k.rows) (λ g. get before.decisions g) d was of) q));
      heuristics = sym ends ∙ sym same_end;
    }

    before_len : rows_of d (len before.decisions) ≡ n.row_count
    before_len = sym (changed_len d before (of_same (row_at k.rows) (λ g. get before.decisions g) d was of)) ∙ ap len (sym made_so.decisions) ∙ reads.rows

    with_rows_changed : len before.decisions ≡ k.row_count
        → ((q : Branch) → get c.heuristics q ≡ (notes_at k.branches q).recorded) → n.records ≡ k.records → MayHold (as_book k) c
    with_rows_changed number recs records = (
      before,
      record {
        rows = was;
        row_number = number;
        records = λ q. ap (λ m. get m q) ends ∙ recs q;
        record_number = ap len ends ∙ reads.ends ∙ records;
      },
      inr (subst (λ x. IsChangeOf (row_at k.rows) x × SameRowsAndRecords c (changed_by x before)) (sym is) (of, made_so)),
    )

  -- rows are there that the change adds
  pub added : (v : Vec Decision) → k.doubt ≡ AddRows v → change_agrees_with (AddRows v) k n ≡ true → Agrees (AddRows v) → MayHold (as_book k) c
  added v is change a =
      with_rows_changed (Adds xs) (ap doubt_of_change is) of (without_decisions gs c) (same_heuristics gs c)
      (added_heuristics xs (without_decisions gs c)) was at
      (number (before_len (Adds xs) (ap doubt_of_change is) of (without_decisions gs c) (same_heuristics gs c)
      (added_heuristics xs (without_decisions gs c)) was at) (nat_is n.row_count (k.row_count + length v.items) a.row))
      (same_ends k n c reads a.ends) (nat_is n.records k.records a.record_)
    where
      xs : List (Gtrid × Waiting)
      xs = map decided_row v.items

      gs : List Gtrid
      gs = gtrids_of v.items

      parts : (each_once (lacks_row k) gs ≡ true) × (list_all (λ (d : Decision). row_agrees true k n d.gtrid) v.items ≡ true)
      parts = and_parts _ _ change

      none : EachOnce (λ g. row_at k.rows g ≡ None) gs
      none = once_so (λ g. lacks_row k g ≡ true) (λ g. row_at k.rows g ≡ None) gs (λ g e. no_row (kept_row k.rows g) e) (once_is (lacks_row k) gs parts.0)

      of : IsChangeOf (row_at k.rows) (Adds xs)
      of = subst (EachOnce (λ g. row_at k.rows g ≡ None)) (sym (decided_names v.items)) none

      agreed : (q : Gtrid) → row_agrees_with (AddRows v) k.rows n.rows q ≡ true → get c.decisions q ≡ row_among xs q (row_at k.rows q)
      agreed q e = reads.row q ∙ decided_is v.items (kept_row k.rows q) (kept_row n.rows q) q e

      at : (q : Gtrid) → get c.decisions q ≡ row_among xs q (row_at k.rows q)
      at q = by (has_gtrid gs q) refl (a.rows q)
        where
          by : (t : Bool) → has_gtrid gs q ≡ t
              → ((kept_row k.rows q ≡ None) × (kept_row n.rows q ≡ None)) ⊎ (row_agrees_with (AddRows v) k.rows n.rows q ≡ true)
              → get c.decisions q ≡ row_among xs q (row_at k.rows q)
          by t e (inr is_so) = agreed q is_so
          by true e (inl nothing) =
              agreed q (subst (λ d. row_agrees_with d k.rows n.rows q ≡ true) is (decided_all (row_agrees true k n) v.items q e parts.1))
          by false e (inl nothing) =
              reads.row q ∙ both_none (kept_row k.rows q) (kept_row n.rows q) nothing.0 nothing.1
              ∙ sym (among_none xs q (row_at k.rows q) (ap (λ l. has_gtrid l q) (decided_names v.items) ∙ e))

      was : (q : Gtrid) → get (without_decisions gs c).decisions q ≡ row_at k.rows q
      was q = dropped_at gs c q ∙ ap (row_without gs q) (at q) ∙ by (has_gtrid gs q) refl
        where
          by : (t : Bool) → has_gtrid gs q ≡ t → row_without gs q (row_among xs q (row_at k.rows q)) ≡ row_at k.rows q
          by true e = without_some gs q _ e ∙ sym (each_is (λ g. row_at k.rows g ≡ None) gs none q e)
          by false e = without_none gs q _ e ∙ among_none xs q (row_at k.rows q) (ap (λ l. has_gtrid l q) (decided_names v.items) ∙ e)

      number : len (without_decisions gs c).decisions + length xs ≡ n.row_count → n.row_count ≡ k.row_count + length v.items
          → len (without_decisions gs c).decisions ≡ k.row_count
      number before now = let long : length xs ≡ length v.items = length-map v.items decided_row in omega (arith, before, now, long)

  -- rows are gone that the change takes away
  pub dropped : (g : Gtrid) (v : Vec Gtrid) → k.doubt ≡ DropRows g v → change_agrees_with (DropRows g v) k n ≡ true
      → Agrees (DropRows g v) → MayHold (as_book k) c
  dropped g v is change a =
      with_rows_changed (Drops gs) (ap doubt_of_change is) there (with_rows xs c) (added_heuristics xs c)
      (same_heuristics gs (with_rows xs c)) was at number
      (same_ends k n c reads a.ends) (nat_is n.records k.records a.record_)
    where
      gs : List Gtrid
      gs = g ∷ v.items

      -- the rows that are gone
      own : Gtrid → Gtrid × Waiting
      own h = (h, unwrap_or (row_at k.rows h) (from_list []))

      xs : List (Gtrid × Waiting)
      xs = map own gs

      names : (hs : List Gtrid) → names_of (map own hs) ≡ hs
      names [] = refl
      names (h ∷ hs) = ap (λ l. h ∷ l) (names hs)

      parts : (each_once (keeps_row k) gs ≡ true) × (list_all (row_agrees true k n) gs ≡ true)
      parts = and_parts _ _ change

      there : EachOnce (λ h. is_some (row_at k.rows h) ≡ true) gs
      there = once_so (λ h. keeps_row k h ≡ true) (λ h. is_some (row_at k.rows h) ≡ true) gs (λ h e. some_kept (kept_row k.rows h) e)
          (once_is (keeps_row k) gs parts.0)

      agreed : (q : Gtrid) → row_agrees_with (DropRows g v) k.rows n.rows q ≡ true → get c.decisions q ≡ row_without gs q (row_at k.rows q)
      agreed q e = reads.row q ∙ dropped_is gs (kept_row k.rows q) (kept_row n.rows q) q e

      at : (q : Gtrid) → get c.decisions q ≡ row_without gs q (row_at k.rows q)
      at q = by (has_gtrid gs q) refl (a.rows q)
        where
          by : (t : Bool) → has_gtrid gs q ≡ t
              → ((kept_row k.rows q ≡ None) × (kept_row n.rows q ≡ None)) ⊎ (row_agrees_with (DropRows g v) k.rows n.rows q ≡ true)
              → get c.decisions q ≡ row_without gs q (row_at k.rows q)
          by t e (inr is_so) = agreed q is_so
          by true e (inl nothing) =
              agreed q (subst (λ d. row_agrees_with d k.rows n.rows q ≡ true) is (named_all (row_agrees true k n) gs q e parts.1))
          by false e (inl nothing) =
              reads.row q ∙ both_none (kept_row k.rows q) (kept_row n.rows q) nothing.0 nothing.1 ∙ sym (without_none gs q (row_at k.rows q) e)

      gone : EachOnce (λ h. get c.decisions h ≡ None) gs
      gone = once_among (λ h. is_some (row_at k.rows h) ≡ true) (λ h. get c.decisions h ≡ None) gs
          (λ h is_one some. at h ∙ without_some gs h (row_at k.rows h) is_one) there

      new : IsChangeOf (λ h. get c.decisions h) (Adds xs)
      new = subst (EachOnce (λ h. get c.decisions h ≡ None)) (sym (names gs)) gone

      was : (q : Gtrid) → get (with_rows xs c).decisions q ≡ row_at k.rows q
      was q = changed_at (Adds xs) c new q ∙ by (has_gtrid gs q) refl
        where
          by : (t : Bool) → has_gtrid gs q ≡ t → row_among xs q (get c.decisions q) ≡ row_at k.rows q
          by true e = own_among gs e ∙ kept (row_at k.rows q) (each_is (λ p. is_some (row_at k.rows p) ≡ true) gs there q e)
            where
              kept : (o : Option Waiting) → is_some o ≡ true → Some (unwrap_or o (from_list [])) ≡ o
              kept None some = absurd (cc)
              kept (Some w) some = refl

              own_among : (hs : List Gtrid) → has_gtrid hs q ≡ true
                  → row_among (map own hs) q (get c.decisions q) ≡ Some (unwrap_or (row_at k.rows q) (from_list []))
              own_among [] e = absurd (cc)
              own_among (h ∷ hs) e = here (gtrid_eq h q) refl e (own_among hs)
                where
                  here : (t : Bool) → gtrid_eq h q ≡ t → (t || has_gtrid hs q) ≡ true
                      → (has_gtrid hs q ≡ true → row_among (map own hs) q (get c.decisions q) ≡ Some (unwrap_or (row_at k.rows q) (from_list [])))
                      → (if t then Some (unwrap_or (row_at k.rows h) (from_list [])) else row_among (map own hs) q (get c.decisions q))
                      ≡ Some (unwrap_or (row_at k.rows q) (from_list []))
                  here true same e rest = ap (λ p. Some (unwrap_or (row_at k.rows p) (from_list []))) (gtrid_eq-true h q same)
                  here false other e rest = rest e
          by false e =
              among_none xs q (get c.decisions q) (ap (λ l. has_gtrid l q) (names gs) ∙ e) ∙ at q ∙ without_none gs q (row_at k.rows q) e

      number : len (with_rows xs c).decisions ≡ k.row_count
      number =
          let more = changed_len (Adds xs) c new in
          let long : length xs ≡ length gs = length-map gs own in
          let read = reads.rows in
          let less = nat_is (n.row_count + (length v.items + 1)) k.row_count a.row in
          omega (arith, more, long, read, less)

  -- a record is there that the change makes
  pub noted : (b : Branch) (how : How) → k.doubt ≡ AddRecord b how
      → (is_how (notes_at n.branches b).recorded how && not (is_some (notes_at k.branches b).recorded)) ≡ true
      → Agrees (AddRecord b how) → MayHold (as_book k) c
  noted b how is change a =
      let parts = and_parts (is_how (notes_at n.branches b).recorded how) (not (is_some (notes_at k.branches b).recorded)) change in
      let has : get c.heuristics b ≡ Some how = reads.end b ∙ end_is _ how parts.0 in
      let none : (notes_at k.branches b).recorded ≡ None = no_end _ parts.1 in
      let before : Content = record c { heuristics = remove c.heuristics b } in (
        before,
        record {
          rows = same_rows k n c reads a.rows;
          row_number = reads.rows ∙ nat_is n.row_count k.row_count a.row;
          records = λ q. gone branches_total exact_branches c.heuristics b how q ∙ by q (eq_by_cmp branch_cmp q b) refl none;
          record_number = one_less branches_total exact_branches c.heuristics b how has ∙ fewer (reads.ends ∙ nat_is n.records (k.records + 1) a.record_);
        },
        inr (subst (λ d. IsChangeOf (row_at k.rows) d × SameRowsAndRecords c (changed_by d before)) (sym (ap doubt_of_change is)) (
          tt,
          record {
            decisions =
                sym (ap (λ t. (if t then before else with_heuristic b how before).decisions)
                (ap is_some (is_gone branches_total exact_branches c.heuristics b how)));
            heuristics = sym (put_back branches_total exact_branches c.heuristics b how has)
                ∙ sym (ap (λ t. (if t then before else with_heuristic b how before).heuristics)
                (ap is_some (is_gone branches_total exact_branches c.heuristics b how)));
          },
        )),
      )
    where
      fewer : len c.heuristics ≡ k.records + 1 → len c.heuristics - 1 ≡ k.records
      fewer e = omega arith

      by : (q : Branch) (t : Bool) → eq_by_cmp branch_cmp q b ≡ t → (notes_at k.branches b).recorded ≡ None
          → cond (eq_by_cmp branch_cmp q b) None (get c.heuristics q) ≡ (notes_at k.branches q).recorded
      by q true h none =
          ap (λ t. cond t None (get c.heuristics q)) h ∙ sym none ∙ ap (λ p. (notes_at k.branches p).recorded) (sym (exact_branches q b (equal_is _ h)))
      by q false h none = ap (λ t. cond t None (get c.heuristics q)) h
          ∙ other_end b q (is_how (notes_at n.branches q).recorded how && not (is_some (notes_at k.branches q).recorded)) (sym (branch_swap b q) ∙ h) (a.ends q)
