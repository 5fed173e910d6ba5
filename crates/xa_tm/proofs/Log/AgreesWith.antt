-- A log that the book may hold agrees with it, so that none is refused for its rows.
use Rattle.std.proofs.Common.{◌≡◌, ℕ, length, map, arith, ◌⊎◌, inl, inr, ◌+◌, List, [], ◌∷◌, Bool, true, false, not, ◌&&◌, ◌||◌, cond, Option, Some, None, IsSomeAnd, is_some, refl, sym, ap, ◌∙◌, subst}
use Rattle.std.specs.Prelude.{if◌then◌else◌, nat_eq}
use Rattle.std.specs.Global.{Vec}
use Rattle.std.specs.List.{list_all}
use Rattle.std.specs.Option.{option_map}
use Rattle.std.specs.FinMap.{contains_key, entries, get, insert, keys, len, get-insert, len-insert}
use Rattle.std.proofs.lemmas.Bool.{and_from, eq-eqb, or_left, or_right, true≢false}
use Rattle.std.proofs.lemmas.List.{length-map}
use Rattle.xa_base.specs.Branch.{branch_eq, gtrid_eq}
use Rattle.xa_base.specs.declared.branch.Branch.{Branch}
use Rattle.xa_base.specs.declared.branch.Gtrid.{Gtrid}
use Rattle.xa_base.specs.declared.code.How.{How}
use Rattle.xa_base.specs.declared.code.How.TheVariants.{Haz, Com, Rb, Mix}
use Rattle.xa_base.proofs.BranchOrder.{branches_total}
use Rattle.xa_base.proofs.BranchKeys.{branch_eq-true}
use Rattle.xa_base.proofs.Orders.{branch_swap}
use Rattle.xa_log.specs.Content.{AreOwn, Content, all_listed, with_heuristic, without_decisions}
use Rattle.xa_log.specs.declared.decision.Decision.{Decision}
use Rattle.xa_log.specs.declared.log_rows.LogRows.{LogRows}
use Rattle.xa_model.specs.Facts.{has_gtrid}
use Rattle.xa_model.specs.Facts.Distinct.{EachOnce}
use Rattle.xa_log.specs.KeySet.{from_list}
use Rattle.xa_log.proofs.TakenTogether.{same_heuristics}
use Rattle.xa_tm.specs.Book.{Waiting, Doubt.Adds, Doubt.Drops, row_among, row_without}
use Rattle.xa_tm.specs.LedgerBook.{decided_row, doubt_of_change, as_book, gtrids_of, notes_at, row_at, waiting_of}
use Rattle.xa_tm.specs.Swaps.{ReadsOf, decided_agrees, dropped_agrees, keeps_row, lacks_row, agrees, change_agrees_with, end_agrees, end_agrees_with, ends_agree, how_eq, is_how, kept_row, names_just, records_agree_with, row_agrees, row_agrees_with, rows_agree, rows_agree_with, same_how, same_row}
use Rattle.xa_tm.specs.BookAndLog.{HoldsBook, IsChangeOf, MayHold, SameRowsAndRecords, changed_by, with_rows}
use Rattle.xa_tm.specs.declared.change.Change.{Change}
use Rattle.xa_tm.specs.declared.change.Change.TheVariants.{AddRecord, AddRows, DropRows, Nothing}
use Rattle.xa_tm.specs.declared.ledger.Ledger.{Ledger}
use Rattle.xa_tm.proofs.Maps.BranchSets.{sets_back}
use Rattle.xa_tm.proofs.Log.ReadRows.{Reads, as_read}
use Rattle.xa_tm.proofs.Several.Contents.{added_heuristics, changed_at, changed_len, decided_names, dropped_at, dropped_len, of_same, without_none, without_some}
use Rattle.xa_tm.proofs.Several.Lists.{once_back, once_so}

-- ** of one transaction, and of one branch

names_back : (row : Option (Vec Branch)) (bs : List Branch) → option_map waiting_of row ≡ Some (from_list bs) → names_just row bs ≡ true
names_back (Some v) bs e = sets_back v.items bs (let same : waiting_of v ≡ from_list bs = cc in same)
names_back None bs e = absurd (cc)

none_back : (row : Option (Vec Branch)) → option_map waiting_of row ≡ None → not (is_some row) ≡ true
none_back (Some v) e = absurd (cc)
none_back None e = refl

some_back : (row : Option (Vec Branch)) (w : Waiting) → option_map waiting_of row ≡ Some w → is_some row ≡ true
some_back (Some v) w e = refl
some_back None w e = absurd (cc)

row_back : (own read : Option (Vec Branch)) → option_map waiting_of read ≡ option_map waiting_of own → same_row own read ≡ true
row_back own (Some v) e = names_back own v.items (sym e)
row_back own None e = none_back own (sym e)

how_back : (h : How) → how_eq h h ≡ true
how_back Haz = refl
how_back Com = refl
how_back Rb = refl
how_back Mix = refl

is_back : (read : Option How) (how : How) → read ≡ Some how → is_how read how ≡ true
is_back (Some h) how e = ap (λ x. how_eq x how) (let same : h ≡ how = cc in same) ∙ how_back how
is_back None how e = absurd (cc)

unrecorded : (own : Option How) → own ≡ None → not (is_some own) ≡ true
unrecorded (Some h) e = absurd (cc)
unrecorded None e = refl

end_back : (own read : Option How) → read ≡ own → same_how own read ≡ true
end_back own (Some h) e = is_back own h (sym e)
end_back own None e = unrecorded own (sym e)

all_of : {E : Type 0} (p : E → Bool) (es : List E) → ((e : E) → p e ≡ true) → list_all p es ≡ true
all_of p [] each = refl
all_of p (e ∷ es) each = and_from (p e) (list_all p es) (each e) (all_of p es each)

counted : (a b : ℕ) → a ≡ b → nat_eq a b ≡ true
counted a b e = eq-eqb a b e

-- ** of several rows

decided_back : (ds : List Decision) (own read : Option (Vec Branch)) (q : Gtrid)
    → option_map waiting_of read ≡ row_among (map decided_row ds) q (option_map waiting_of own) → decided_agrees ds read q (same_row own read) ≡ true
decided_back [] own read q e = row_back own read e
decided_back (d ∷ ds) own read q e = by (gtrid_eq d.gtrid q) e (decided_back ds own read q)
  where
    by : (t : Bool) → option_map waiting_of read
        ≡ (if t then Some (waiting_of d.participants) else row_among (map decided_row ds) q (option_map waiting_of own))
        → (option_map waiting_of read ≡ row_among (map decided_row ds) q (option_map waiting_of own) → decided_agrees ds read q (same_row own read) ≡ true)
        → (if t then names_just read d.participants.items else decided_agrees ds read q (same_row own read)) ≡ true
    by true e rest = names_back read d.participants.items e
    by false e rest = rest e

dropped_back : (gs : List Gtrid) (own read : Option (Vec Branch)) (q : Gtrid)
    → option_map waiting_of read ≡ row_without gs q (option_map waiting_of own) → dropped_agrees gs read q (same_row own read) ≡ true
dropped_back gs own read q e = by (has_gtrid gs q) refl
  where
    by : (t : Bool) → has_gtrid gs q ≡ t → (if t then not (is_some read) else same_row own read) ≡ true
    by true is = none_back read (e ∙ without_some gs q (option_map waiting_of own) is)
    by false is = row_back own read (e ∙ without_none gs q (option_map waiting_of own) is)

keeps_back : (row : Option (Vec Branch)) → is_some (option_map waiting_of row) ≡ true → is_some row ≡ true
keeps_back (Some v) e = refl
keeps_back None e = absurd (cc)

-- ** of the whole

module _ (k n : Ledger) where
  whole : (is_made : Bool) → ((q : Gtrid) → row_agrees is_made k n q ≡ true) → ((q : Branch) → end_agrees is_made k n q ≡ true)
      → (counts change : Bool) → counts ≡ true → change ≡ true
      → (counts && (change && (rows_agree is_made k n && ends_agree is_made k n))) ≡ true
  whole is_made rows ends counts change c d =
      and_from counts _ c (and_from change _ d (and_from _ _ (and_from _ _ (all_of _ k.rows.entries (λ e. rows e.0)) (all_of _ n.rows.entries (λ e. rows e.0)))
      (and_from _ _ (all_of _ k.branches.entries (λ e. ends e.0)) (all_of _ n.branches.entries (λ e. ends e.0)))))

module _ (k n : Ledger) (c : Content) (reads : Reads n c) where
  row_same : (q : Gtrid) → get c.decisions q ≡ row_at k.rows q → same_row (kept_row k.rows q) (kept_row n.rows q) ≡ true
  row_same q e = row_back (kept_row k.rows q) (kept_row n.rows q) (sym (reads.row q) ∙ e)

  end_same : (q : Branch) → get c.heuristics q ≡ (notes_at k.branches q).recorded
      → same_how (notes_at k.branches q).recorded (notes_at n.branches q).recorded ≡ true
  end_same q e = end_back _ _ (sym (reads.end q) ∙ e)

  -- the rows and the record are the book's own
  as_before : HoldsBook (as_book k) c → agrees false k n ≡ true
  as_before h = whole k n false (λ q. row_same q (h.rows q)) (λ q. end_same q (h.records q)) _ _
      (and_from _ _ (counted n.row_count k.row_count (sym reads.rows ∙ h.row_number)) (counted n.records k.records (sym reads.ends ∙ h.record_number))) refl

  held_as : (d : Content) → SameRowsAndRecords c d → HoldsBook (as_book k) d → HoldsBook (as_book k) c
  held_as d s h = record {
    rows = λ g. ap (λ m. get m g) s.decisions ∙ h.rows g;
    row_number = ap len s.decisions ∙ h.row_number;
    records = λ b. ap (λ m. get m b) s.heuristics ∙ h.records b;
    record_number = ap len s.heuristics ∙ h.record_number;
  }

  record Changed (d : Change) : Type 0 where
    row : (q : Gtrid) → row_agrees_with d k.rows n.rows q ≡ true
    end : (q : Branch) → end_agrees_with d (notes_at k.branches q).recorded (notes_at n.branches q).recorded q ≡ true
    rows : rows_agree_with d k.row_count n.row_count ≡ true
    records : records_agree_with d k.records n.records ≡ true
    change : change_agrees_with d k n ≡ true

  with_change : (d : Change) → k.doubt ≡ d → Changed d → agrees true k n ≡ true
  with_change d is a =
      let same = sym is in
      whole k n true (λ q. subst (λ x. row_agrees_with x k.rows n.rows q ≡ true) same (a.row q))
      (λ q. subst (λ x. end_agrees_with x (notes_at k.branches q).recorded (notes_at n.branches q).recorded q ≡ true) same (a.end q)) _ _
      (and_from _ _ (subst (λ x. rows_agree_with x k.row_count n.row_count ≡ true) same a.rows)
      (subst (λ x. records_agree_with x k.records n.records ≡ true) same a.records)) (subst (λ x. change_agrees_with x k n ≡ true) same a.change)

  -- rows were added, if there were none
  added : (v : Vec Decision) (b : Content) → k.doubt ≡ AddRows v → HoldsBook (as_book k) b → IsChangeOf (row_at k.rows) (Adds (map decided_row v.items))
      → SameRowsAndRecords c (with_rows (map decided_row v.items) b) → Changed (AddRows v)
  added v b doubt h of s = record {
    row = row;
    end = λ q. end_same q (ap (λ m. get m q) (s.heuristics ∙ added_heuristics xs b) ∙ h.records q);
    rows = counted n.row_count (k.row_count + length v.items)
        (sym reads.rows ∙ ap len s.decisions ∙ changed_len (Adds xs) b here ∙ ap (λ m. len b.decisions + m) (length-map v.items decided_row)
        ∙ ap (λ m. m + length v.items) h.row_number);
    records = counted n.records k.records (sym reads.ends ∙ ap len (s.heuristics ∙ added_heuristics xs b) ∙ h.record_number);
    change = and_from _ _
        (once_back (lacks_row k) (gtrids_of v.items)
        (once_so (λ g. row_at k.rows g ≡ None) (λ g. lacks_row k g ≡ true) (gtrids_of v.items) (λ g none. none_back (kept_row k.rows g) none)
        (subst (EachOnce (λ g. row_at k.rows g ≡ None)) (decided_names v.items) of)))
        (all_of _ v.items (λ d. subst (λ x. row_agrees_with x k.rows n.rows d.gtrid ≡ true) (sym doubt) (row d.gtrid)));
  }
    where
      xs : List (Gtrid × Waiting)
      xs = map decided_row v.items

      here : IsChangeOf (λ g. get b.decisions g) (Adds xs)
      here = of_same (row_at k.rows) (λ g. get b.decisions g) (Adds xs) h.rows of

      row : (q : Gtrid) → row_agrees_with (AddRows v) k.rows n.rows q ≡ true
      row q = decided_back v.items (kept_row k.rows q) (kept_row n.rows q) q
          (sym (reads.row q) ∙ ap (λ m. get m q) s.decisions ∙ changed_at (Adds xs) b here q ∙ ap (row_among xs q) (h.rows q))

  -- rows were taken away, which were there
  dropped : (g : Gtrid) (v : Vec Gtrid) (b : Content) → k.doubt ≡ DropRows g v → HoldsBook (as_book k) b → IsChangeOf (row_at k.rows) (Drops (g ∷ v.items))
      → SameRowsAndRecords c (without_decisions (g ∷ v.items) b) → Changed (DropRows g v)
  dropped g v b doubt h of s = record {
    row = row;
    end = λ q. end_same q (ap (λ m. get m q) (s.heuristics ∙ same_heuristics gs b) ∙ h.records q);
    rows = counted (n.row_count + (length v.items + 1)) k.row_count
        (let fewer = dropped_len gs b here in
        let read : len (without_decisions gs b).decisions ≡ n.row_count = ap len (sym s.decisions) ∙ reads.rows in
        let own = h.row_number in
        omega (arith, fewer, read, own));
    records = counted n.records k.records (sym reads.ends ∙ ap len (s.heuristics ∙ same_heuristics gs b) ∙ h.record_number);
    change = and_from _ _
        (once_back (keeps_row k) gs
        (once_so (λ h. is_some (row_at k.rows h) ≡ true) (λ h. keeps_row k h ≡ true) gs (λ h some. keeps_back (kept_row k.rows h) some) of))
        (all_of _ gs (λ q. subst (λ x. row_agrees_with x k.rows n.rows q ≡ true) (sym doubt) (row q)));
  }
    where
      gs : List Gtrid
      gs = g ∷ v.items

      here : IsChangeOf (λ q. get b.decisions q) (Drops gs)
      here = of_same (row_at k.rows) (λ q. get b.decisions q) (Drops gs) h.rows of

      row : (q : Gtrid) → row_agrees_with (DropRows g v) k.rows n.rows q ≡ true
      row q = dropped_back gs (kept_row k.rows q) (kept_row n.rows q) q
          (sym (reads.row q) ∙ ap (λ m. get m q) s.decisions ∙ dropped_at gs b q ∙ ap (row_without gs q) (h.rows q))

  -- a record was made, if there was none
  noted : (b : Branch) (how : How) (d : Content) → k.doubt ≡ AddRecord b how → HoldsBook (as_book k) d → contains_key d.heuristics b ≡ false
      → c.decisions ≡ d.decisions → c.heuristics ≡ insert d.heuristics b how → Changed (AddRecord b how)
  noted b how d doubt h lacks ds hs = record {
    row = λ q. row_same q (ap (λ m. get m q) ds ∙ h.rows q);
    end = end;
    rows = counted n.row_count k.row_count (sym reads.rows ∙ ap len ds ∙ h.row_number);
    records = counted n.records (k.records + 1) (sym reads.ends ∙ ap len hs ∙ len-insert branches_total d.heuristics b how
        ∙ ap (λ t. cond t (len d.heuristics) (len d.heuristics + 1)) lacks ∙ ap (λ m. m + 1) h.record_number);
    change = subst (λ x. end_agrees_with x (notes_at k.branches b).recorded (notes_at n.branches b).recorded b ≡ true) (sym doubt) (end b);
  }
    where
      at : (q : Branch) → get c.heuristics q ≡ cond (branch_eq b q) (Some how) (get d.heuristics q)
      at q = ap (λ m. get m q) hs ∙ get-insert branches_total d.heuristics b how q ∙ ap (λ t. cond t (Some how) (get d.heuristics q)) (branch_swap b q)

      no_end : (o : Option How) → is_some o ≡ false → o ≡ None
      no_end None e = refl
      no_end (Some w) e = absurd (cc)

      end : (q : Branch) → end_agrees_with (AddRecord b how) (notes_at k.branches q).recorded (notes_at n.branches q).recorded q ≡ true
      end q = by (branch_eq b q) refl
        where
          by : (t : Bool) → branch_eq b q ≡ t
              → (if branch_eq b q then is_how (notes_at n.branches q).recorded how && not (is_some (notes_at k.branches q).recorded)
              else same_how (notes_at k.branches q).recorded (notes_at n.branches q).recorded) ≡ true
          by true e =
              let here : b ≡ q = branch_eq-true b q e in
              ap (λ (t : Bool). if t then is_how (notes_at n.branches q).recorded how && not (is_some (notes_at k.branches q).recorded)
              else same_how (notes_at k.branches q).recorded (notes_at n.branches q).recorded) e
              ∙ and_from _ _ (is_back _ how (sym (reads.end q) ∙ at q ∙ ap (λ t. cond t (Some how) (get d.heuristics q)) e))
              (unrecorded _ (sym (h.records q) ∙ no_end _ (ap (contains_key d.heuristics) (sym here) ∙ lacks)))
          by false e =
              ap (λ (t : Bool). if t then is_how (notes_at n.branches q).recorded how && not (is_some (notes_at k.branches q).recorded)
              else same_how (notes_at k.branches q).recorded (notes_at n.branches q).recorded) e
              ∙ end_same q (at q ∙ ap (λ t. cond t (Some how) (get d.heuristics q)) e ∙ h.records q)

  -- each change
  made_agrees : (d : Change) → k.doubt ≡ d → (b : Content) → HoldsBook (as_book k) b → IsChangeOf (row_at k.rows) (doubt_of_change d)
      → SameRowsAndRecords c (changed_by (doubt_of_change d) b) → (agrees false k n || agrees true k n) ≡ true
  made_agrees Nothing is b h of s = or_left _ _ (as_before (held_as b s h))
  made_agrees (AddRows v) is b h of s = or_right _ _ (with_change (AddRows v) is (added v b is h of s))
  made_agrees (DropRows g v) is b h of s = or_right _ _ (with_change (DropRows g v) is (dropped g v b is h of s))
  made_agrees (AddRecord b how) is d h of s = by (contains_key d.heuristics b) refl s
    where
      by : (t : Bool) → contains_key d.heuristics b ≡ t → SameRowsAndRecords c (if t then d else with_heuristic b how d)
          → (agrees false k n || agrees true k n) ≡ true
      by true has s = or_left _ _ (as_before (held_as d s h))
      by false lacks s = or_right _ _ (with_change (AddRecord b how) is (noted b how d is h lacks s.decisions s.heuristics))

  pub may_agree : MayHold (as_book k) c → (agrees false k n || agrees true k n) ≡ true
  may_agree may = by may.2
    where
      by : SameRowsAndRecords c may.0 ⊎ (IsChangeOf (row_at k.rows) (doubt_of_change k.doubt)
          × SameRowsAndRecords c (changed_by (doubt_of_change k.doubt) may.0)) → (agrees false k n || agrees true k n) ≡ true
      by (inl s) = or_left _ _ (as_before (held_as may.0 s may.1))
      by (inr s) = made_agrees k.doubt refl may.0 may.1 s.0 s.1

-- so that none is held whose rows were found to be others
pub not_held : (k : Ledger) (rows : LogRows) (may : Bool) → may ≡ false → ReadsOf k rows may → (old : Option Content)
    → IsSomeAnd old (λ c. rows.decisions.items ≡ keys c.decisions) → IsSomeAnd old (λ c. rows.participants.items ≡ all_listed (entries c.decisions))
    → IsSomeAnd old (λ c. rows.heuristics.items ≡ entries c.heuristics) → ((c : Content) → old ≡ Some c → AreOwn c)
    → (c : Content) → old ≡ Some c → MayHold (as_book k) c → ⊥
not_held k rows may told read None ds ps hs own c is holds = absurd ds
not_held k rows may told read (Some d) ds ps hs own c is holds =
    let reads = as_read k rows may read d ds ps hs (own d refl) in
    let same : c ≡ d = cc in
    true≢false (sym (may_agree k read.read d reads (subst (MayHold (as_book k)) same holds)) ∙ sym read.agree ∙ told)
