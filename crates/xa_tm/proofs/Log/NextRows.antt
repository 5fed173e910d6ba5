-- A start over a log that a history leaves has the rows and the records of the history.
use Rattle.std.proofs.Common.{◌≡◌, ◌≤◌, ◌+◌, ◌⊎◌, inl, inr, suc, List, [], ◌∷◌, length, map, Bool, true, false, refl, sym, ap, subst, ◌∙◌, arith, length-append}
use Rattle.std.specs.Prelude.{◌==◌, ◌||◌, cond, filter, if◌then◌else◌, is_some, Option, Some, None}
use Rattle.std.specs.FinMap.{FinMap, contains_key, empty, get, get-empty, get-insert, insert, len, len-empty, len-insert, same_map}
use Rattle.std.specs.List.{list_any}
use Rattle.std.specs.Ordering.{eq_by_cmp}
use Rattle.std.proofs.lemmas.List.{length-map}
use Rattle.std.proofs.lemmas.Bool.{eq-eqb, eqb-true, true≢false}
use Rattle.xa_base.specs.Branch.{branch_cmp, gtrid_cmp, gtrid_eq}
use Rattle.xa_base.specs.declared.branch.Branch.{Branch}
use Rattle.xa_base.specs.declared.branch.Gtrid.{Gtrid}
use Rattle.xa_base.proofs.BranchKeys.{gtrid_eq-true}
use Rattle.xa_base.proofs.BranchOrder.{branches_total, exact_gtrids, gtrids_total}
use Rattle.xa_base.proofs.Orders.{branch_swap, gtrid_swap}
use Rattle.xa_log.specs.Content.{Content, with_bump}
use Rattle.xa_log.specs.KeySet.{contains, contains-from_list, from_list}
use Rattle.xa_log.proofs.TakenTogether.{same_heuristics}
use Rattle.xa_model.specs.Facts.{Change, Change.AddRecord, Change.AddRows, Change.DropRows, Change.NoChange, doubt, has_branch, has_record, heuristic_rows, heuristics_changed, how_in, lists_row, log, participants_in, rows_changed}
use Rattle.xa_model.specs.Facts.Distinct.{ApartRows, IsNewTo}
use Rattle.xa_model.specs.Promises.Processes.{SameRecords, gone, resumed, row_count}
use Rattle.xa_model.specs.Promises.Processes as processes
use Rattle.xa_model.specs.Trace.{Happening.Restarted, Origin, Recorded, Row, Trace}
use Rattle.xa_tm.specs.Book.{Book, Waiting, after, book_of, doubt_of, recorded_with, row_in, row_with, waiting_row}
use Rattle.xa_tm.specs.BookAndLog.{FoundIn, IsTied, IsTiedDown, IsTiedUp, SameRowsAndRecords, rows_of}
use Rattle.xa_tm.proofs.History.RecordsAfter.{has_record_is, how_changed}
use Rattle.xa_tm.proofs.History.OneMore.{lists_is, row_changed}
use Rattle.xa_tm.proofs.Log.Restart.{tied_restart}
use Rattle.xa_tm.proofs.Several.Contents.{added_heuristics, changed_len, of_same}
use Rattle.xa_tm.specs.LogRows.{MayHoldRows, StartsOver, after_change}
use Rattle.xa_tm.proofs.Log.TellsRows.{change_of, made_is, row_in_is, rows_may_hold}
use Rattle.xa_tm.proofs.History.RowCounts.{each_row_less}

-- ** rows as a map

abbrev row_map : List Row → FinMap gtrid_cmp Waiting
row_map [] = empty
row_map (x ∷ xs) = insert (row_map xs) x.gtrid (from_list x.participants)

row_map_is : (xs : List Row) (g : Gtrid) → get (row_map xs) g ≡ row_in xs g
row_map_is [] g = get-empty gtrid_cmp g
row_map_is (x ∷ xs) g =
    get-insert gtrids_total (row_map xs) x.gtrid (from_list x.participants) g
    ∙ ap (λ t. cond t (Some (from_list {R = branch_cmp} x.participants)) (get (row_map xs) g)) (gtrid_swap x.gtrid g)
    ∙ ap (cond (gtrid_eq x.gtrid g) (Some (from_list x.participants))) (row_map_is xs g)

row_map_most : (xs : List Row) → len (row_map xs) ≤ length xs
row_map_most [] = let none = len-empty gtrid_cmp Waiting in omega (arith, none)
row_map_most (x ∷ xs) =
    by (contains_key (row_map xs) x.gtrid) (len-insert gtrids_total (row_map xs) x.gtrid (from_list x.participants)) (row_map_most xs)
  where
    by : (t : Bool) → len (insert (row_map xs) x.gtrid (from_list x.participants)) ≡ cond t (len (row_map xs)) (len (row_map xs) + 1)
        → len (row_map xs) ≤ length xs → len (insert (row_map xs) x.gtrid (from_list x.participants)) ≤ length (x ∷ xs)
    by true e most = omega (arith, e, most)
    by false e most = omega (arith, e, most)

-- rows are of different transactions if a map of as many has them
map_apart : (xs : List Row) → len (row_map xs) ≡ length xs → ApartRows xs
map_apart [] e = tt
map_apart (x ∷ xs) e =
    by (contains_key (row_map xs) x.gtrid) refl (len-insert gtrids_total (row_map xs) x.gtrid (from_list x.participants)) (row_map_most xs) (map_apart xs)
  where
    by : (t : Bool) → contains_key (row_map xs) x.gtrid ≡ t
        → len (insert (row_map xs) x.gtrid (from_list x.participants)) ≡ cond t (len (row_map xs)) (len (row_map xs) + 1)
        → len (row_map xs) ≤ length xs → (len (row_map xs) ≡ length xs → ApartRows xs) → ApartRows (x ∷ xs)
    by true has n most rest = absurd (omega (arith, e, n, most))
    by false has n most rest = (lists_is xs x.gtrid ∙ ap is_some (sym (row_map_is xs x.gtrid)) ∙ has, rest (omega (arith, e, n)))

held_apart : (c : Content) (xs : List Row) → ((g : Gtrid) → get c.decisions g ≡ row_in xs g) → len c.decisions ≡ length xs → ApartRows xs
held_apart c xs rows number =
    map_apart xs (ap len (same_map gtrids_total exact_gtrids (row_map xs) c.decisions (λ g. row_map_is xs g ∙ sym (rows g))) ∙ number)

-- ** the same rows

one_counted : (xs : List Row) → ApartRows xs → (g : Gtrid) → row_count xs g ≡ (if lists_row xs g then 1 else 0)
one_counted [] apart g = refl
one_counted (x ∷ xs) apart g = by (gtrid_eq x.gtrid g) refl (one_counted xs apart.1 g)
  where
    by : (t : Bool) → gtrid_eq x.gtrid g ≡ t → row_count xs g ≡ (if lists_row xs g then 1 else 0)
        → length (cond t (x ∷ filter (λ y. gtrid_eq y.gtrid g) xs) (filter (λ y. gtrid_eq y.gtrid g) xs)) ≡ (if t || lists_row xs g then 1 else 0)
    by true is rest =
        ap (λ n. suc n) (rest ∙ ap (λ (t : Bool). if t then 1 else 0) (subst (λ h. lists_row xs h ≡ false) (gtrid_eq-true x.gtrid g is) apart.0))
    by false is rest = rest

any_is : (ps : List Branch) (b : Branch) → list_any (eq_by_cmp branch_cmp b) ps ≡ has_branch ps b
any_is [] b = refl
any_is (p ∷ ps) b = (λ i. branch_swap p b i || any_is ps b i)

abbrev waits_in : Option Waiting → Branch → Bool
waits_in None b = false
waits_in (Some set) b = contains set b

waits_is : (xs : List Row) (g : Gtrid) (b : Branch) → has_branch (participants_in xs g) b ≡ waits_in (row_in xs g) b
waits_is [] g b = refl
waits_is (x ∷ xs) g b = by (gtrid_eq x.gtrid g) (waits_is xs g b)
  where
    by : (t : Bool) → has_branch (participants_in xs g) b ≡ waits_in (row_in xs g) b
        → has_branch (if t then x.participants else participants_in xs g) b
        ≡ waits_in (if t then Some (from_list x.participants) else row_in xs g) b
    by true rest = sym (contains-from_list branches_total x.participants b ∙ any_is x.participants b)
    by false rest = rest

same_rows : (xs ys : List Row) → ApartRows xs → ApartRows ys → length xs ≡ length ys → ((g : Gtrid) → row_in xs g ≡ row_in ys g)
    → processes.SameRows xs ys
same_rows xs ys apart apart_too number rows = record {
  number = number;
  count = λ g. one_counted xs apart g
      ∙ ap (λ (t : Bool). if t then 1 else 0) (lists_is xs g ∙ ap is_some (rows g) ∙ sym (lists_is ys g)) ∙ sym (one_counted ys apart_too g);
  participants = λ g b. waits_is xs g b ∙ ap (λ o. waits_in o b) (rows g) ∙ sym (waits_is ys g b);
}

-- ** how many there are with the change in doubt

rows_numbered : (x : Change) (rows : List Row) → ApartRows rows → IsNewTo rows x → rows_of (doubt_of x) (length rows) ≡ length (rows_changed x rows)
rows_numbered (AddRows xs) rows apart new = let both = length-append xs rows in let same = length-map xs waiting_row in omega (arith, both, same)
rows_numbered (DropRows gs) rows apart new = sym (each_row_less gs rows apart new)
rows_numbered (AddRecord r) rows apart new = refl
rows_numbered NoChange rows apart new = refl

rows_then : (x : Change) (b : Content) (rows : List Row) → ApartRows rows → IsNewTo rows x → ((g : Gtrid) → get b.decisions g ≡ row_in rows g)
    → len b.decisions ≡ length rows → len (after_change x b).decisions ≡ length (rows_changed x rows)
rows_then x b rows apart new at number =
    ap (λ (c : Content). len c.decisions) (sym (made_is x b))
    ∙ changed_len (doubt_of x) b (of_same (row_in rows) (λ g. get b.decisions g) (doubt_of x) at (change_of rows x new))
    ∙ ap (rows_of (doubt_of x)) number ∙ rows_numbered x rows apart new

records_then : (x : Change) (b : Content) (records : List Recorded) → ((q : Branch) → get b.heuristics q ≡ how_in records q)
    → len b.heuristics ≡ length records
    → (len (after_change x b).heuristics ≡ length records) ⊎ (len (after_change x b).heuristics ≡ length (heuristics_changed x records))
records_then (AddRows xs) b records at number = inl (ap len (added_heuristics (map waiting_row xs) b) ∙ number)
records_then (DropRows gs) b records at number = inl (ap len (same_heuristics gs b) ∙ number)
records_then (AddRecord r) b records at number =
    by (contains_key b.heuristics r.branch) refl (has_record_is records r.branch ∙ ap is_some (sym (at r.branch)))
  where
    by : (t : Bool) → contains_key b.heuristics r.branch ≡ t → has_record records r.branch ≡ contains_key b.heuristics r.branch
        → (len (if t then b else record b { heuristics = insert b.heuristics r.branch r.how }).heuristics ≡ length records)
        ⊎ (len (if t then b else record b { heuristics = insert b.heuristics r.branch r.how }).heuristics
        ≡ length (if has_record records r.branch then records else r ∷ records))
    by true has same = inl number
    by false has same = inr (one_more (len-insert branches_total b.heuristics r.branch r.how
        ∙ ap (λ t. cond t (len b.heuristics) (len b.heuristics + 1)) has)
        ∙ sym (ap (λ (t : Bool). length (if t then records else r ∷ records)) (same ∙ has)))
      where
        one_more : len (insert b.heuristics r.branch r.how) ≡ len b.heuristics + 1 → len (insert b.heuristics r.branch r.how) ≡ length (r ∷ records)
        one_more grown = omega (arith, grown, number)
records_then NoChange b records at number = inl number

-- ** the log of the next start

module _ (past : Trace) (o : Origin) (c : Content) (new : IsNewTo (log past) (doubt past)) (left : MayHoldRows past c) (over : StartsOver o c) where
  abbrev n : Book
  n = after (book_of (gone past)) (Restarted o.incarnation (length o.rows) (length o.heuristic_rows))

  tied : IsTied false (book_of (gone past)) (Some c)
  tied = λ d is. subst (IsTiedDown false (book_of (gone past))) (let same : c ≡ d = cc in same) (record {
    holds = rows_may_hold (gone past) c new (
      left.0,
      record { rows = left.1.rows; row_number = left.1.row_number; records = left.1.records; record_number = left.1.record_number },
      left.2,
    );
    incarnation = λ near. absurd (true≢false (sym near));
  })

  found : FoundIn o.incarnation (length o.rows) (length o.heuristic_rows) c
  found = record { incarnation = over.incarnation; rows = sym over.rows.row_number; records = sym over.rows.record_number }

  restart : IsTiedUp n (with_bump c)
  restart = tied_restart false (book_of (gone past)) o.incarnation (length o.rows) (length o.heuristic_rows) (Some c) (Some (with_bump c)) refl found refl tied

  row_there : (g : Gtrid) → row_in o.rows g ≡ row_in (log (resumed past o)) g
  row_there g = row_in_is o.rows g ∙ sym (over.rows.rows g) ∙ restart.holds.rows g ∙ by (length o.rows == length (log past))
    where
      by : (t : Bool) → (if t then row_in (log past) g else row_with (doubt_of (doubt past)) g (row_in (log past) g))
          ≡ row_in (if t then log past else rows_changed (doubt past) (log past)) g
      by true = refl
      by false = sym (row_changed (doubt past) (log past) g)

  record_there : (b : Branch) → how_in o.heuristic_rows b ≡ how_in (heuristic_rows (resumed past o)) b
  record_there b = sym (over.rows.records b) ∙ restart.holds.records b ∙ by (length o.heuristic_rows == length (heuristic_rows past))
    where
      by : (t : Bool) → (if t then how_in (heuristic_rows past) b else recorded_with (doubt_of (doubt past)) b (how_in (heuristic_rows past) b))
          ≡ how_in (if t then heuristic_rows past else heuristics_changed (doubt past) (heuristic_rows past)) b
      by true = refl
      by false = sym (how_changed (doubt past) (heuristic_rows past) b)

  row_at : (g : Gtrid) → get left.0.decisions g ≡ row_in (log past) g
  row_at g = left.1.rows g ∙ sym (row_in_is (log past) g)

  row_number : length o.rows ≡ length (log (resumed past o))
  row_number = by (length o.rows == length (log past)) refl left.2
    where
      by : (t : Bool) → (length o.rows == length (log past)) ≡ t → SameRowsAndRecords c left.0 ⊎ SameRowsAndRecords c (after_change (doubt past) left.0)
          → length o.rows ≡ length (if t then log past else rows_changed (doubt past) (log past))
      by true e s = eqb-true _ _ e
      by false e (inl s) = absurd (true≢false (sym (eq-eqb _ _ (sym over.rows.row_number ∙ ap len s.decisions ∙ left.1.row_number)) ∙ e))
      by false e (inr s) = sym over.rows.row_number ∙ ap len s.decisions
          ∙ rows_then (doubt past) left.0 (log past) (held_apart left.0 (log past) row_at left.1.row_number) new row_at left.1.row_number

  record_number : length o.heuristic_rows ≡ length (heuristic_rows (resumed past o))
  record_number = by (length o.heuristic_rows == length (heuristic_rows past)) refl left.2
    where
      by : (t : Bool) → (length o.heuristic_rows == length (heuristic_rows past)) ≡ t
          → SameRowsAndRecords c left.0 ⊎ SameRowsAndRecords c (after_change (doubt past) left.0)
          → length o.heuristic_rows ≡ length (if t then heuristic_rows past else heuristics_changed (doubt past) (heuristic_rows past))
      by true e s = eqb-true _ _ e
      by false e (inl s) = absurd (true≢false (sym (eq-eqb _ _ (sym over.rows.record_number ∙ ap len s.heuristics ∙ left.1.record_number)) ∙ e))
      by false e (inr s) =
          elim (records_then (doubt past) left.0 (heuristic_rows past) left.1.records left.1.record_number) [
            | inl same ↦ absurd (true≢false (sym (eq-eqb _ _ (sym over.rows.record_number ∙ ap len s.heuristics ∙ same)) ∙ e))
            | inr same ↦ sym over.rows.record_number ∙ ap len s.heuristics ∙ same
          ]

  -- the rows of the start are those of the history
  pub next_rows : ApartRows o.rows → processes.SameRows o.rows (log (resumed past o))
  next_rows apart = same_rows o.rows (log (resumed past o)) apart
      (held_apart c (log (resumed past o)) (λ g. over.rows.rows g ∙ sym (row_in_is o.rows g) ∙ row_there g) (over.rows.row_number ∙ row_number))
      row_number row_there

  -- and so are its records
  pub next_records : SameRecords o.heuristic_rows (heuristic_rows (resumed past o))
  next_records = record {
    number = record_number;
    branches = λ b. has_record_is o.heuristic_rows b ∙ ap is_some (record_there b) ∙ sym (has_record_is (heuristic_rows (resumed past o)) b);
  }
