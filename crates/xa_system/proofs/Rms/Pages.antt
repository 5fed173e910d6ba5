-- A page of identifiers is the history's page of names.
use Rattle.std.proofs.Common.{◌≡◌, ℕ, zero, suc, List, [], ◌∷◌, map, Bool, true, false, refl, sym, ap, ◌∙◌, subst, ℤ, pos, negsuc, inl, inr}
use Rattle.std.specs.Prelude.{cond, filter, take, Option, Some, None}
use Rattle.std.specs.Option.{option_map}
use Rattle.std.specs.Ordering.{is_lt, on}
use Rattle.std.specs.declared.cmp.Ordering.{Ordering}
use Rattle.xa_base.specs.declared.answer.Answer.TheVariants.{Page}
use Rattle.xa_base.specs.Branch.{IsBranch}
use Rattle.xa_model.specs.Facts as facts
use Rattle.xa_base.specs.Answer.{map_answer}
use Rattle.xa_model.specs.Replies.History.{name_of}
use Rattle.xa_model.specs.Facts.InDoubt.{in_doubt, name_cmp, scan, scan_answer, xid_of_name}
use Rattle.xa_base.specs.Recover as xids
use Rattle.xa_base.specs.Scan.{Scan, Scan.NotOpen, Scan.Behind, behind, last_of, left_at, page_of, reads_from, scan_after}
use Rattle.xa_model.specs.Trace.{Name, Name.Foreign, Name.Ours, Trace}
use Rattle.xa_base.specs.Xid.{Xid, xid_cmp}
use Rattle.xa_base.specs.declared.branch.Branch.{Branch}
use Rattle.xa_model.proofs.NameLemmas.OwnNames.{foreign_name, own_name}
use Rattle.xa_model.proofs.RecoveryLemmas.Pages as pages
use Rattle.xa_model.proofs.Invariant.PreservedRows.{started_listed}
use Rattle.xa_model.proofs.RecoveryLemmas.WholeRecovery.{In}
use Rattle.xa_model.proofs.RecoveryLemmas.RecoveredNext.{IsNamed, all_named}
use Rattle.xa_model.proofs.RecoveryLemmas.RecoveredStart.{has_in}
use Rattle.xa_system.specs.RmInHistory.{scan_by}
use Rattle.xa_system.specs.Trace.{Each, IsKept}

-- ** through a function

module _ {X Y : Type 0} (f : X → Y) (cmp : Y → Y → Ordering) where
  take_mapped : (n : ℕ) (xs : List X) → take n (map f xs) ≡ map f (take n xs)
  take_mapped zero xs = refl
  take_mapped (suc n) [] = refl
  take_mapped (suc n) (x ∷ xs) = ap (λ ys. f x ∷ ys) (take_mapped n xs)

  filter_mapped : (p : Y → Bool) (xs : List X) → filter p (map f xs) ≡ map f (filter (λ x. p (f x)) xs)
  filter_mapped p [] = refl
  filter_mapped p (x ∷ xs) = by_test (p (f x)) (filter_mapped p xs)
    where
      by_test : (t : Bool) → filter p (map f xs) ≡ map f (filter (λ x. p (f x)) xs)
          → cond t (f x ∷ filter p (map f xs)) (filter p (map f xs)) ≡ map f (cond t (x ∷ filter (λ x. p (f x)) xs) (filter (λ x. p (f x)) xs))
      by_test true e = ap (λ ys. f x ∷ ys) e
      by_test false e = e

  behind_mapped : (last : Option X) (xs : List X) → behind cmp (option_map f last) (map f xs) ≡ map f (behind (on f cmp) last xs)
  behind_mapped None xs = refl
  behind_mapped (Some last) xs = filter_mapped (λ y. is_lt (cmp (f last) y)) xs

  pub page_mapped : (count : ℤ) (from : Option (Option X)) (xs : List X)
      → page_of cmp count (option_map (option_map f) from) (map f xs) ≡ option_map (map f) (page_of (on f cmp) count from xs)
  page_mapped (pos n) (Some last) xs = ap Some (ap (take n) (behind_mapped last xs) ∙ take_mapped n (behind (on f cmp) last xs))
  page_mapped (pos n) None xs = refl
  page_mapped (negsuc n) from xs = refl

module _ {X Y : Type 0} (f : X → Y) where
  pub reads_mapped : (s : Scan X) (start : Bool) → reads_from (scan_by f s) start ≡ option_map (option_map f) (reads_from s start)
  reads_mapped s true = refl
  reads_mapped NotOpen false = refl
  reads_mapped (Behind last) false = refl

  last_mapped : (last : Option X) (xs : List X) → last_of (option_map f last) (map f xs) ≡ option_map f (last_of last xs)
  last_mapped last [] = refl
  last_mapped last (x ∷ xs) = last_mapped (Some x) xs

  left_mapped : (from : Option (Option X)) (end : Bool) (page : List X)
      → left_at (option_map (option_map f) from) end (map f page) ≡ scan_by f (left_at from end page)
  left_mapped (Some last) false page = ap Behind (last_mapped last page)
  left_mapped (Some last) true page = refl
  left_mapped None end page = refl

  pub after_mapped : (s : Scan X) (start end : Bool) (page : Option (List X))
      → scan_after (scan_by f s) start end (option_map (map f) page) ≡ scan_by f (scan_after s start end page)
  after_mapped s start end (Some page) = ap (λ from. left_at from end (map f page)) (reads_mapped s start) ∙ left_mapped (reads_from s start) end page
  after_mapped s start end None = refl

-- ** names

abbrev IsItself : Name → Type 0
IsItself n = name_of (xid_of_name n) ≡ n

branch_fits : (bs : List Branch) (b : Branch) → Each IsBranch bs → In bs b → IsBranch b
branch_fits [] b h i = absurd i
branch_fits (c ∷ bs) b h (inl e) = subst IsBranch e h.0
branch_fits (c ∷ bs) b h (inr i) = branch_fits bs b h.1 i

-- a branch that was started has numbers that fit
pub started_fits : (tr : Trace) (b : Branch) → IsKept tr → facts.started tr b ≡ true → IsBranch b
started_fits tr b kept e = branch_fits (facts.branches tr) b kept.numbers (has_in (facts.branches tr) b (started_listed tr b e))

itself : (n : Name) → IsNamed n → IsItself n
itself (Ours b) k = own_name b k
itself (Foreign x) k = foreign_name x k

each_itself : (ns : List Name) → pages.Each IsNamed ns → pages.Each IsItself ns
each_itself [] h = tt
each_itself (n ∷ ns) h = (itself n h.0, each_itself ns h.1)

read_again : (ns : List Name) → pages.Each IsItself ns → map name_of (map xid_of_name ns) ≡ ns
read_again [] h = refl
read_again (n ∷ ns) h = λ i. h.0 i ∷ read_again ns h.1 i

answer_read : (tr : Trace) → IsKept tr → (r : ℕ) (count : ℤ) (from : Option (Option Name)) (page : Option (List Name))
    → page_of name_cmp count from (in_doubt tr r) ≡ page
    → map_answer name_of (xids.page_answer (option_map (map xid_of_name) page)) ≡ xids.page_answer page
answer_read tr kept r count from None e = refl
answer_read tr kept r count from (Some ns) e =
    let listed =
    pages.page_each IsItself count from (in_doubt tr r) ns (sym (ap xids.page_answer e))
    (each_itself (in_doubt tr r) (all_named tr kept.run (λ b. started_fits tr b kept) r)) in
    ap Page (read_again ns listed)

-- ** the answer to xa_recover

-- if the scan and what is in doubt are the history's, so is the answer, and where the scan then
-- stands
pub same_page : (tr : Trace) (r : ℕ) (count : ℤ) (start : Bool) (s : Scan Xid) (listed : List Xid)
    → s ≡ scan_by xid_of_name (scan tr r) → listed ≡ map xid_of_name (in_doubt tr r)
    → xids.xid_page s count start listed ≡ option_map (map xid_of_name) (page_of name_cmp count (reads_from (scan tr r) start) (in_doubt tr r))
same_page tr r count start s listed e d =
    ap (λ t. page_of xid_cmp count (reads_from t start) listed) e
    ∙ ap (page_of xid_cmp count (reads_from (scan_by xid_of_name (scan tr r)) start)) d
    ∙ ap (λ from. page_of xid_cmp count from (map xid_of_name (in_doubt tr r))) (reads_mapped xid_of_name (scan tr r) start)
    ∙ page_mapped xid_of_name xid_cmp count (reads_from (scan tr r) start) (in_doubt tr r)

pub same_answer : (tr : Trace) → IsKept tr → (r : ℕ) (count : ℤ) (start : Bool) (s : Scan Xid) (listed : List Xid)
    → s ≡ scan_by xid_of_name (scan tr r) → listed ≡ map xid_of_name (in_doubt tr r)
    → map_answer name_of (xids.page_answer (xids.xid_page s count start listed)) ≡ scan_answer tr r count start
same_answer tr kept r count start s listed e d =
    ap (λ p. map_answer name_of (xids.page_answer p)) (same_page tr r count start s listed e d)
    ∙ answer_read tr kept r count (reads_from (scan tr r) start) (page_of name_cmp count (reads_from (scan tr r) start) (in_doubt tr r)) refl
