-- Requests that are plain.
use Rattle.std.proofs.Common.{◌≡◌, ◌∙◌, ℕ, zero, suc, ◌<◌, ◌^◌, ◌&&◌, Bool, true, List, [], ◌∷◌, ◌++◌, length, get_or, Some, refl, ap, arith}
use Rattle.std.specs.List.{list_all}
use Rattle.std.specs.Prelude.{nat_lt}
use Rattle.std.proofs.lemmas.Bool.{and_from, and_parts, lt-ltb}
use Rattle.xa_base.proofs.BranchLemmas.{u32_pair-bytes, u64_pair-bytes}
use Rattle.xa_base.proofs.XidOrder.{xid_eq-refl}
use Rattle.xa_base.specs.Branch.{branch_of_pairs, branch_of_xid, xid_of_branch}
use Rattle.xa_base.specs.Bytes.{u32_pair}
use Rattle.xa_base.specs.Xid.{xid_eq}
use Rattle.xa_base.specs.declared.branch.Branch.{Branch}
use Rattle.xa_base.specs.declared.branch.Gtrid.{Gtrid}
use Rattle.xa_conduct.specs.Plain.{is_branch, is_gtrid, is_number, is_own, is_that_of}

-- a branch with an item more at its end
pub all_more : {X : Type 0} (p : X → Bool) (xs : List X) (x : X) → list_all p xs ≡ true → p x ≡ true → list_all p (xs ++ x ∷ []) ≡ true
all_more p [] x before last = and_from (p x) true last refl
all_more p (y ∷ ys) x before last =
    let both = and_parts (p y) (list_all p ys) before in and_from (p y) (list_all p (ys ++ x ∷ [])) both.0 (all_more p ys x both.1 last)

pub number_fits : (n : ℕ) → n < 2 ^ 32 → is_number n ≡ true
number_fits n fits = lt-ltb n (2 ^ 32) fits

pub gtrid_fits : (g : Gtrid) → g.incarnation < 2 ^ 64 → g.sequence < 2 ^ 64 → is_gtrid g ≡ true
gtrid_fits g i s = and_from (nat_lt g.incarnation (2 ^ 64)) (nat_lt g.sequence (2 ^ 64)) (lt-ltb g.incarnation (2 ^ 64) i) (lt-ltb g.sequence (2 ^ 64) s)

pub branch_fits : (b : Branch) → b.gtrid.incarnation < 2 ^ 64 → b.gtrid.sequence < 2 ^ 64 → b.thread < 2 ^ 32 → b.rm < 2 ^ 32 → is_branch b ≡ true
branch_fits b i s t r =
    and_from (is_gtrid b.gtrid) (is_number b.thread && is_number b.rm) (gtrid_fits b.gtrid i s)
    (and_from (is_number b.thread) (is_number b.rm) (number_fits b.thread t) (number_fits b.rm r))

-- it names the branch
pub found_back : (b : Branch) → b.gtrid.incarnation < 2 ^ 64 → b.gtrid.sequence < 2 ^ 64 → b.thread < 2 ^ 32 → b.rm < 2 ^ 32
    → branch_of_xid (xid_of_branch b) ≡ Some b
found_back b i s t r =
    ap (λ p. branch_of_pairs p (u32_pair (xid_of_branch b).bqual)) (u64_pair-bytes b.gtrid.incarnation b.gtrid.sequence i s)
    ∙ ap (branch_of_pairs (Some (b.gtrid.incarnation, b.gtrid.sequence))) (u32_pair-bytes b.thread b.rm t r)

-- the identifier of a branch is one of this manager's
pub own_branch : (b : Branch) → b.gtrid.incarnation < 2 ^ 64 → b.gtrid.sequence < 2 ^ 64 → b.thread < 2 ^ 32 → b.rm < 2 ^ 32
    → is_own (xid_of_branch b) ≡ true
own_branch b i s t r =
    ap (is_that_of (xid_of_branch b)) (found_back b i s t r)
    ∙ and_from (xid_eq (xid_of_branch b) (xid_of_branch b)) (is_branch b) (xid_eq-refl (xid_of_branch b)) (branch_fits b i s t r)

-- each item of a list of which all pass does
pub each_passes : {X : Type 0} (p : X → Bool) (xs : List X) (i : ℕ) (d : X) → list_all p xs ≡ true → i < length xs → p (get_or xs i d) ≡ true
each_passes p [] i d all within = absurd (omega arith)
each_passes p (x ∷ xs) zero d all within = (and_parts (p x) (list_all p xs) all).0
each_passes p (x ∷ xs) (suc i) d all within = each_passes p xs i d (and_parts (p x) (list_all p xs) all).1 (omega arith)
