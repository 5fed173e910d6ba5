-- What a restart finds in the log.
use Rattle.std.proofs.Common.{◌≡◌, ◌≤◌, ◌⊎◌, inl, inr, ℕ, ◌<◌, List, length, ◌+◌, ◌-◌, Bool, true, false, cond, Option, Some, None, IsSomeAnd, is_some, refl, sym, ap, ◌∙◌, subst, arith}
use Rattle.std.proofs.lemmas.List.{length-map}
use Rattle.std.specs.Prelude.{if◌then◌else◌, nat_eq, nat_le, nat_lt, ◌&&◌, ◌||◌}
use Rattle.std.specs.FinMap.{entries, keys, get, len, len-entries, insert, contains_key, len-insert}
use Rattle.std.proofs.lemmas.Bool.{true≢false, and_parts, eqb-true, eq-eqb, leb-true, ltb-true, or_cases}
use Rattle.xa_base.specs.declared.branch.Branch.{Branch}
use Rattle.xa_base.specs.declared.branch.Gtrid.{Gtrid}
use Rattle.xa_base.specs.declared.code.How.{How}
use Rattle.xa_base.proofs.BranchOrder.{branches_total}
use Rattle.xa_log.specs.Content.{Content, unchanged}
use Rattle.xa_log.specs.Contract.{Makes}
use Rattle.xa_log.proofs.TakenTogether.{same_heuristics}
use Rattle.xa_tm.specs.Book.{Book, Waiting, Doubt, Doubt.Adds, Doubt.Drops, Doubt.Records, Doubt.NoDoubt, records_with}
use Rattle.xa_tm.specs.BookAndLog.{FoundIn, IsChangeOf, IsFound, may_find, rows_of, changed_by, SameRowsAndRecords, IsTiedDown, TiedBy, IsTied}
use Rattle.xa_tm.proofs.Several.Contents.{added_heuristics, changed_len, of_same}

-- ** what is found

pub found : (old mid : Option Content) (ds : List Gtrid) (hs : List (Branch × How)) (n dl hl : ℕ)
    → IsSomeAnd old (λ c. ds ≡ keys c.decisions) → IsSomeAnd old (λ c. hs ≡ entries c.heuristics)
    → Makes unchanged old mid → IsSomeAnd mid (λ c. n ≡ c.incarnation + 1) → dl ≡ length ds → hl ≡ length hs → IsSomeAnd old (FoundIn n dl hl)
found None mid ds hs n dl hl rows recs same up d h = absurd rows
found (Some c) mid ds hs n dl hl rows recs same up d h = record {
  incarnation = subst (λ x. IsSomeAnd x (λ c. n ≡ c.incarnation + 1)) same up;
  rows = d ∙ ap length rows ∙ length-map (entries c.decisions) (λ (e : Gtrid × Waiting). e.0) ∙ sym (len-entries c.decisions);
  records = h ∙ ap length recs ∙ sym (len-entries c.heuristics);
}

numbers_records : (k : Book) (b : Content) (asked : Doubt) (d : ℕ) → ((q : Branch) → get b.heuristics q ≡ k.recorded q) → len b.heuristics ≡ k.records
    → d ≡ len (changed_by asked b).heuristics → (d ≡ k.records) ⊎ (d ≡ records_with k asked k.records)
numbers_records k b NoDoubt d at number is = inl (is ∙ number)
numbers_records k b (Drops gs) d at number is = inl (is ∙ ap len (same_heuristics gs b) ∙ number)
numbers_records k b (Adds xs) d at number is = inl (is ∙ ap len (added_heuristics xs b) ∙ number)
numbers_records k b (Records c how) d at number is = by (contains_key b.heuristics c) refl is
  where
    by : (t : Bool) → contains_key b.heuristics c ≡ t → d ≡ len (if t then b else record b { heuristics = insert b.heuristics c how }).heuristics
        → (d ≡ k.records) ⊎ (d ≡ (if is_some (k.recorded c) then k.records else k.records + 1))
    by true has e = inl (e ∙ number)
    by false has e =
        inr (e ∙ len-insert branches_total b.heuristics c how ∙ ap (λ t. cond t (len b.heuristics) (len b.heuristics + 1)) has ∙ ap (λ n. n + 1) number
        ∙ sym (ap (λ (t : Bool). if t then k.records else k.records + 1) (ap is_some (sym (at c)) ∙ has)))

pub is_found : (k : Book) (i d h : ℕ) (old : Option Content) → k.up ≡ false → IsSomeAnd old (FoundIn i d h) → IsTied true k old → IsFound k i d h
is_found k i d h old down f tied = go old f (subst (λ u. TiedBy u true k old) down tied)
  where
    by : (c : Content) → FoundIn i d h c → IsTiedDown true k c → IsFound k i d h
    by c f t = record {
      greater = let a : k.incarnation < i = omega (arith, f.incarnation, (t.incarnation refl).least) in a;
      most = let a : i ≤ k.incarnation + 1 + k.failed_restarts = omega (arith, f.incarnation, (t.incarnation refl).most) in a;
      rows = rows_by t.holds.2;
      records = records_by t.holds.2;
    }
      where
        b : Content
        b = t.holds.0

        rows_by : SameRowsAndRecords c b ⊎ (IsChangeOf k.row k.doubt × SameRowsAndRecords c (changed_by k.doubt b))
            → (d ≡ k.rows) ⊎ (d ≡ rows_of k.doubt k.rows)
        rows_by (inl s) = inl (f.rows ∙ ap len s.decisions ∙ t.holds.1.row_number)
        rows_by (inr s) =
            inr (f.rows ∙ ap len s.1.decisions ∙ changed_len k.doubt b (of_same k.row (λ g. get b.decisions g) k.doubt t.holds.1.rows s.0)
            ∙ ap (rows_of k.doubt) t.holds.1.row_number)

        records_by : SameRowsAndRecords c b ⊎ (IsChangeOf k.row k.doubt × SameRowsAndRecords c (changed_by k.doubt b))
            → (h ≡ k.records) ⊎ (h ≡ records_with k k.doubt k.records)
        records_by (inl s) = inl (f.records ∙ ap len s.heuristics ∙ t.holds.1.record_number)
        records_by (inr s) = numbers_records k b k.doubt h t.holds.1.records t.holds.1.record_number (f.records ∙ ap len s.1.heuristics)

    go : (old : Option Content) → IsSomeAnd old (FoundIn i d h) → ((c : Content) → old ≡ Some c → IsTiedDown true k c) → IsFound k i d h
    go None f t = absurd f
    go (Some c) f t = by c f (t c refl)

-- ** the test of what is found

one_of_two : (n a b : ℕ) → (nat_eq n a || nat_eq n b) ≡ true → (n ≡ a) ⊎ (n ≡ b)
one_of_two n a b e = by (or_cases (nat_eq n a) (nat_eq n b) e)
  where
    by : (nat_eq n a ≡ true) ⊎ (nat_eq n b ≡ true) → (n ≡ a) ⊎ (n ≡ b)
    by (inl x) = inl (eqb-true n a x)
    by (inr x) = inr (eqb-true n b x)

pub finds_so : (k : Book) (i d h : ℕ) → may_find k i d h ≡ true → IsFound k i d h
finds_so k i d h e = record {
  greater = greater;
  most = let a : i ≤ k.incarnation + 1 + k.failed_restarts = omega (arith, greater, reach) in a;
  rows = one_of_two d k.rows (rows_of k.doubt k.rows) numbers.0;
  records = one_of_two h k.records (records_with k k.doubt k.records) numbers.1;
}
  where
    parts : ((nat_lt k.incarnation i && nat_le (i - k.incarnation - 1) k.failed_restarts) ≡ true)
        × (((nat_eq d k.rows || nat_eq d (rows_of k.doubt k.rows)) && (nat_eq h k.records || nat_eq h (records_with k k.doubt k.records))) ≡ true)
    parts = and_parts _ _ e

    numbers : ((nat_eq d k.rows || nat_eq d (rows_of k.doubt k.rows)) ≡ true) × ((nat_eq h k.records || nat_eq h (records_with k k.doubt k.records)) ≡ true)
    numbers = and_parts _ _ parts.1

    reached : (nat_lt k.incarnation i ≡ true) × (nat_le (i - k.incarnation - 1) k.failed_restarts ≡ true)
    reached = and_parts _ _ parts.0

    greater : k.incarnation < i
    greater = ltb-true k.incarnation i reached.0

    reach : i - k.incarnation - 1 ≤ k.failed_restarts
    reach = leb-true (i - k.incarnation - 1) k.failed_restarts reached.1

both_true : (s t : Bool) → s ≡ true → t ≡ true → (s && t) ≡ true
both_true true t e f = f
both_true false t e f = e

two_of_one : (n a b : ℕ) → (n ≡ a) ⊎ (n ≡ b) → (nat_eq n a || nat_eq n b) ≡ true
two_of_one n a b (inl e) = ap (λ t. t || nat_eq n b) (eq-eqb n a e)
two_of_one n a b (inr e) = by (nat_eq n a)
  where
    by : (t : Bool) → (t || nat_eq n b) ≡ true
    by true = refl
    by false = eq-eqb n b e

pub so_it_finds : (k : Book) (i d h : ℕ) → IsFound k i d h → may_find k i d h ≡ true
so_it_finds k i d h f = both_true (nat_lt k.incarnation i && nat_le (i - k.incarnation - 1) k.failed_restarts)
    ((nat_eq d k.rows || nat_eq d (rows_of k.doubt k.rows)) && (nat_eq h k.records || nat_eq h (records_with k k.doubt k.records)))
    (both_true (nat_lt k.incarnation i) (nat_le (i - k.incarnation - 1) k.failed_restarts) (less k.incarnation i f.greater)
    (near i k.incarnation k.failed_restarts f.most))
    (both_true (nat_eq d k.rows || nat_eq d (rows_of k.doubt k.rows)) (nat_eq h k.records || nat_eq h (records_with k k.doubt k.records))
    (two_of_one d k.rows (rows_of k.doubt k.rows) f.rows) (two_of_one h k.records (records_with k k.doubt k.records) f.records))
  where
    less : (a b : ℕ) → a < b → nat_lt a b ≡ true
    less a b e = grind arith

    near : (i a n : ℕ) → i ≤ a + 1 + n → nat_le (i - a - 1) n ≡ true
    near i a n e = grind arith

pub never_found : (k : Book) (i d h : ℕ) → may_find k i d h ≡ false → IsFound k i d h → ⊥
never_found k i d h e f = true≢false (sym (so_it_finds k i d h f) ∙ e)
