-- What a change of several rows makes of a content.
use Rattle.std.proofs.Common.{ℕ, ◌≡◌, ◌+◌, ◌-◌, List, [], ◌∷◌, length, map, Bool, true, zero, suc, ◌≤◌, false, ◌||◌, cond, Option, Some, None, is_some, refl, sym, ap, ◌∙◌, subst, arith}
use Rattle.std.specs.Prelude.{if◌then◌else◌}
use Rattle.std.specs.FinMap.{contains_key, empty_of_len, get, get-empty, insert, len, get-insert, get-remove, len-insert, len-remove}
use Rattle.std.proofs.lemmas.Bool.{or_parts, true≢false}
use Rattle.xa_base.specs.Branch.{gtrid_cmp, gtrid_eq}
use Rattle.xa_base.specs.declared.branch.Branch.{Branch}
use Rattle.xa_base.specs.declared.branch.Gtrid.{Gtrid}
use Rattle.xa_base.specs.declared.code.How.{How}
use Rattle.xa_base.proofs.BranchOrder.{gtrids_total}
use Rattle.xa_base.proofs.BranchKeys.{gtrid_eq-true}
use Rattle.xa_base.proofs.Orders.{gtrid_swap}
use Rattle.xa_log.specs.Content.{Content, with_commit, with_commits, with_heuristic_record, without_decision, without_decisions}
use Rattle.xa_log.specs.declared.decision.Decision.{Decision}
use Rattle.xa_model.specs.Facts.{has_gtrid}
use Rattle.xa_model.specs.Facts.Distinct.{EachOnce}
use Rattle.xa_tm.specs.Book.{Waiting, Doubt, Doubt.Adds, Doubt.Drops, Doubt.Records, Doubt.NoDoubt, row_among, row_with, row_without}
use Rattle.xa_tm.specs.BookAndLog.{IsChangeOf, changed_by, rows_of, with_rows}
use Rattle.xa_tm.specs.LedgerBook.{decided_row, gtrids_of}
use Rattle.xa_tm.proofs.Several.Lists.{once_among, once_so, other_of}

-- the transactions of rows
abbrev pub names_of : List (Gtrid × Waiting) → List Gtrid
names_of xs = map (λ (x : Gtrid × Waiting). x.0) xs

-- ** a row among others

pub among_none : (xs : List (Gtrid × Waiting)) (q : Gtrid) (r : Option Waiting) → has_gtrid (names_of xs) q ≡ false → row_among xs q r ≡ r
among_none [] q r e = refl
among_none (x ∷ xs) q r e =
    let parts = or_parts (gtrid_eq x.0 q) (has_gtrid (names_of xs) q) e in
    ap (λ (t : Bool). if t then Some x.1 else row_among xs q r) parts.0 ∙ among_none xs q r parts.1

-- what stood there doesn't matter
pub among_some : (xs : List (Gtrid × Waiting)) (q : Gtrid) (r s : Option Waiting) → has_gtrid (names_of xs) q ≡ true → row_among xs q r ≡ row_among xs q s
among_some [] q r s e = absurd (cc)
among_some (x ∷ xs) q r s e = by (gtrid_eq x.0 q) e (among_some xs q r s)
  where
    by : (t : Bool) → (t || has_gtrid (names_of xs) q) ≡ true → (has_gtrid (names_of xs) q ≡ true → row_among xs q r ≡ row_among xs q s)
        → (if t then Some x.1 else row_among xs q r) ≡ (if t then Some x.1 else row_among xs q s)
    by true e rest = refl
    by false e rest = rest e

pub without_none : (gs : List Gtrid) (q : Gtrid) (r : Option Waiting) → has_gtrid gs q ≡ false → row_without gs q r ≡ r
without_none [] q r e = refl
without_none (g ∷ gs) q r e =
    let parts = or_parts (gtrid_eq g q) (has_gtrid gs q) e in
    ap (λ (t : Bool). if t then None else row_without gs q r) parts.0 ∙ without_none gs q r parts.1

pub without_some : (gs : List Gtrid) (q : Gtrid) (r : Option Waiting) → has_gtrid gs q ≡ true → row_without gs q r ≡ None
without_some [] q r e = absurd (cc)
without_some (g ∷ gs) q r e = by (gtrid_eq g q) e (without_some gs q r)
  where
    by : (t : Bool) → (t || has_gtrid gs q) ≡ true → (has_gtrid gs q ≡ true → row_without gs q r ≡ None) → (if t then None else row_without gs q r) ≡ None
    by true e rest = refl
    by false e rest = rest e

pub nothing_stays : (gs : List Gtrid) (q : Gtrid) → row_without gs q None ≡ None
nothing_stays [] q = refl
nothing_stays (g ∷ gs) q = by (gtrid_eq g q) (nothing_stays gs q)
  where
    by : (t : Bool) → row_without gs q None ≡ None → (if t then None else row_without gs q None) ≡ None
    by true rest = refl
    by false rest = rest

-- the first row of a transaction stays, if it has no other
pub among_first : (x : Gtrid × Waiting) (xs : List (Gtrid × Waiting)) (q : Gtrid) (r : Option Waiting) → has_gtrid (names_of xs) x.0 ≡ false
    → row_among xs q (if gtrid_eq x.0 q then Some x.1 else r) ≡ row_among (x ∷ xs) q r
among_first x xs q r apart = by (gtrid_eq x.0 q) refl
  where
    by : (t : Bool) → gtrid_eq x.0 q ≡ t → row_among xs q (if t then Some x.1 else r) ≡ (if t then Some x.1 else row_among xs q r)
    by true e = among_none xs q (Some x.1) (subst (λ g. has_gtrid (names_of xs) g ≡ false) (gtrid_eq-true x.0 q e) apart)
    by false e = refl

pub without_first : (g : Gtrid) (gs : List Gtrid) (q : Gtrid) (r : Option Waiting)
    → row_without gs q (if gtrid_eq g q then None else r) ≡ row_without (g ∷ gs) q r
without_first g gs q r = by (gtrid_eq g q)
  where
    by : (t : Bool) → row_without gs q (if t then None else r) ≡ (if t then None else row_without gs q r)
    by true = nothing_stays gs q
    by false = refl

-- ** one row more

committed_at : (g : Gtrid) (set : Waiting) (c : Content) → get c.decisions g ≡ None → (q : Gtrid)
    → get (with_commit g set c).decisions q ≡ (if gtrid_eq g q then Some set else get c.decisions q)
committed_at g set c none q =
    ap (λ (t : Bool). get (if t then c else record c { decisions = insert c.decisions g set }).decisions q) (ap is_some none)
    ∙ get-insert gtrids_total c.decisions g set q ∙ ap (λ t. cond t (Some set) (get c.decisions q)) (gtrid_swap g q) ∙ by (gtrid_eq g q)
  where
    by : (t : Bool) → cond t (Some set) (get c.decisions q) ≡ (if t then Some set else get c.decisions q)
    by true = refl
    by false = refl

committed_len : (g : Gtrid) (set : Waiting) (c : Content) → get c.decisions g ≡ None → len (with_commit g set c).decisions ≡ len c.decisions + 1
committed_len g set c none =
    ap (λ (t : Bool). len (if t then c else record c { decisions = insert c.decisions g set }).decisions) (ap is_some none)
    ∙ len-insert gtrids_total c.decisions g set ∙ ap (λ t. cond t (len c.decisions) (len c.decisions + 1)) (ap is_some none)

removed_at : (g : Gtrid) (c : Content) (q : Gtrid) → get (without_decision g c).decisions q ≡ (if gtrid_eq g q then None else get c.decisions q)
removed_at g c q = get-remove gtrids_total c.decisions g q ∙ ap (λ t. cond t None (get c.decisions q)) (gtrid_swap g q) ∙ by (gtrid_eq g q)
  where
    by : (t : Bool) → cond t None (get c.decisions q) ≡ (if t then None else get c.decisions q)
    by true = refl
    by false = refl

-- ** several rows

abbrev pub Lacks : Content → Gtrid → Type 0
Lacks c g = get c.decisions g ≡ None

abbrev pub Has : Content → Gtrid → Type 0
Has c g = is_some (get c.decisions g) ≡ true

still_new : (x : Gtrid × Waiting) (xs : List (Gtrid × Waiting)) (c : Content) → EachOnce (Lacks c) (names_of (x ∷ xs))
    → EachOnce (Lacks (with_commit x.0 x.1 c)) (names_of xs)
still_new x xs c new = once_among (Lacks c) (Lacks (with_commit x.0 x.1 c)) (names_of xs)
    (λ g is none. committed_at x.0 x.1 c new.0 g
    ∙ ap (λ (t : Bool). if t then Some x.1 else get c.decisions g) (other_of (names_of xs) x.0 g new.1 is) ∙ none) new.2

still_there : (g : Gtrid) (gs : List Gtrid) (c : Content) → EachOnce (Has c) (g ∷ gs) → EachOnce (Has (without_decision g c)) gs
still_there g gs c there = once_among (Has c) (Has (without_decision g c)) gs
    (λ q is has. ap is_some (removed_at g c q ∙ ap (λ (t : Bool). if t then None else get c.decisions q) (other_of gs g q there.1 is)) ∙ has) there.2

added_at : (xs : List (Gtrid × Waiting)) (c : Content) → EachOnce (Lacks c) (names_of xs) → (q : Gtrid)
    → get (with_rows xs c).decisions q ≡ row_among xs q (get c.decisions q)
added_at [] c new q = refl
added_at (x ∷ xs) c new q =
    added_at xs (with_commit x.0 x.1 c) (still_new x xs c new) q ∙ ap (row_among xs q) (committed_at x.0 x.1 c new.0 q)
    ∙ among_first x xs q (get c.decisions q) new.1

added_len : (xs : List (Gtrid × Waiting)) (c : Content) → EachOnce (Lacks c) (names_of xs) → len (with_rows xs c).decisions ≡ len c.decisions + length xs
added_len [] c new = omega arith
added_len (x ∷ xs) c new =
    let rest = added_len xs (with_commit x.0 x.1 c) (still_new x xs c new) in
    let one = committed_len x.0 x.1 c new.0 in
    omega (arith, rest, one)

pub dropped_at : (gs : List Gtrid) (c : Content) (q : Gtrid) → get (without_decisions gs c).decisions q ≡ row_without gs q (get c.decisions q)
dropped_at [] c q = refl
dropped_at (g ∷ gs) c q =
    dropped_at gs (without_decision g c) q ∙ ap (row_without gs q) (removed_at g c q) ∙ without_first g gs q (get c.decisions q)

pub dropped_len : (gs : List Gtrid) (c : Content) → EachOnce (Has c) gs → len (without_decisions gs c).decisions + length gs ≡ len c.decisions
dropped_len [] c there = omega arith
dropped_len (g ∷ gs) c there =
    let rest = dropped_len gs (without_decision g c) (still_there g gs c there) in
    let one : len (without_decision g c).decisions ≡ len c.decisions - 1 =
    len-remove gtrids_total c.decisions g ∙ ap (λ t. cond t (len c.decisions - 1) (len c.decisions)) there.0 in
    let some = at_least c g there.0 in
    omega (arith, rest, one, some)
  where
    at_least : (c : Content) (g : Gtrid) → Has c g → 1 ≤ len c.decisions
    at_least c g has = by (len c.decisions) refl
      where
        by : (n : ℕ) → len c.decisions ≡ n → 1 ≤ n
        by zero none = absurd (true≢false (sym has ∙ ap (λ m. is_some (get m g)) (empty_of_len c.decisions none) ∙ ap is_some (get-empty gtrid_cmp g)))
        by (suc n) some = omega arith

-- ** what stays

pub added_heuristics : (xs : List (Gtrid × Waiting)) (c : Content) → (with_rows xs c).heuristics ≡ c.heuristics
added_heuristics [] c = refl
added_heuristics (x ∷ xs) c = added_heuristics xs (with_commit x.0 x.1 c) ∙ by (contains_key c.decisions x.0)
  where
    by : (t : Bool) → (if t then c else record c { decisions = insert c.decisions x.0 x.1 }).heuristics ≡ c.heuristics
    by true = refl
    by false = refl

pub added_incarnation : (xs : List (Gtrid × Waiting)) (c : Content) → (with_rows xs c).incarnation ≡ c.incarnation
added_incarnation [] c = refl
added_incarnation (x ∷ xs) c = added_incarnation xs (with_commit x.0 x.1 c) ∙ by (contains_key c.decisions x.0)
  where
    by : (t : Bool) → (if t then c else record c { decisions = insert c.decisions x.0 x.1 }).incarnation ≡ c.incarnation
    by true = refl
    by false = refl

-- ** any change

pub of_same : (r s : Gtrid → Option Waiting) (d : Doubt) → ((g : Gtrid) → s g ≡ r g) → IsChangeOf r d → IsChangeOf s d
of_same r s (Adds xs) same is = once_so (λ g. r g ≡ None) (λ g. s g ≡ None) (names_of xs) (λ g none. same g ∙ none) is
of_same r s (Drops gs) same is = once_so (λ g. is_some (r g) ≡ true) (λ g. is_some (s g) ≡ true) gs (λ g some. ap is_some (same g) ∙ some) is
of_same r s (Records b how) same is = tt
of_same r s NoDoubt same is = tt

recorded_rows : (b : Branch) (how : How) (c : Content) → (with_heuristic_record b how c).decisions ≡ c.decisions
recorded_rows b how c = by (contains_key c.heuristics b)
  where
    by : (t : Bool) → (if t then c else record c { heuristics = insert c.heuristics b how }).decisions ≡ c.decisions
    by true = refl
    by false = refl

pub changed_at : (d : Doubt) (c : Content) → IsChangeOf (λ g. get c.decisions g) d → (q : Gtrid)
    → get (changed_by d c).decisions q ≡ row_with d q (get c.decisions q)
changed_at (Adds xs) c is q = added_at xs c is q
changed_at (Drops gs) c is q = dropped_at gs c q
changed_at (Records b how) c is q = ap (λ m. get m q) (recorded_rows b how c)
changed_at NoDoubt c is q = refl

pub changed_len : (d : Doubt) (c : Content) → IsChangeOf (λ g. get c.decisions g) d → len (changed_by d c).decisions ≡ rows_of d (len c.decisions)
changed_len (Adds xs) c is = added_len xs c is
changed_len (Drops gs) c is = let fewer = dropped_len gs c is in omega (arith, fewer)
changed_len (Records b how) c is = ap len (recorded_rows b how c)
changed_len NoDoubt c is = refl

-- a change that leaves the number of rows leaves the rows
pub still_at : (d : Doubt) (c : Content) → IsChangeOf (λ g. get c.decisions g) d → len (changed_by d c).decisions ≡ len c.decisions
    → (q : Gtrid) (r : Option Waiting) → row_with d q r ≡ r
still_at (Adds []) c is same q r = refl
still_at (Adds (x ∷ xs)) c is same q r = let more = added_len (x ∷ xs) c is in absurd (omega (arith, more, same))
still_at (Drops []) c is same q r = refl
still_at (Drops (g ∷ gs)) c is same q r = let fewer = dropped_len (g ∷ gs) c is in absurd (omega (arith, fewer, same))
still_at (Records b how) c is same q r = refl
still_at NoDoubt c is same q r = refl

-- ** decisions

-- what the log writes for decisions are their rows
pub commits_are : (ds : List Decision) (c : Content) → with_commits ds c ≡ with_rows (map decided_row ds) c
commits_are [] c = refl
commits_are (d ∷ ds) c = commits_are ds (with_commit d.gtrid (decided_row d).1 c)

pub decided_names : (ds : List Decision) → names_of (map decided_row ds) ≡ gtrids_of ds
decided_names [] = refl
decided_names (d ∷ ds) = ap (λ gs. d.gtrid ∷ gs) (decided_names ds)
