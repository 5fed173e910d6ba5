-- Cursors and pages.
use Rattle.std.proofs.Common.{◌≡◌, ℕ, suc, ◌-◌, ◌&&◌, Bool, true, false, List, [], ◌∷◌, filter, length, Option, Some, slice_get, refl, ap, subst, arith}
use Rattle.std.specs.BTreeSet.{BTreeSet, keys_between}
use Rattle.std.specs.Ordering.{is_lt}
use Rattle.std.specs.declared.ops.Bound.TheVariants.{Unbounded}
use Rattle.std.proofs.lemmas.List.Elements.{filter_agree}
use Rattle.xa_base.specs.Scan.{behind, last_of}
use Rattle.xa_base.specs.Xid.{Xid, xid_cmp}
use Rattle.xa_rm.specs.Scans.{place_of, bound_of}
use Rattle.xa_rm.specs.declared.scans.Cursor.{Cursor}
use Rattle.xa_rm.specs.declared.scans.Cursor.TheVariants as Cursors

kept_whole : {X : Type 0} (xs : List X) → filter (λ x. true) xs ≡ xs
kept_whole [] = refl
kept_whole (x ∷ xs) = ap (λ ys. x ∷ ys) (kept_whole xs)

and-true : (b : Bool) → (b && true) ≡ b
and-true true = refl
and-true false = refl

-- the range from a cursor on is what stands after it
pub keys_behind : (cursor : Cursor) (index : BTreeSet Xid)
    → keys_between xid_cmp (bound_of cursor) Unbounded index ≡ behind xid_cmp (place_of cursor) index.keys
keys_behind Cursors.Start index = kept_whole index.keys
keys_behind (Cursors.Behind last) index =
    filter_agree (λ (x : Xid). is_lt (xid_cmp last x) && true) (λ (x : Xid). is_lt (xid_cmp last x)) (λ x. and-true (is_lt (xid_cmp last x))) index.keys

-- the last of a page that lists some: its place is one before the length
pub last_of_last : {X : Type 0} (before : Option X) (xs : List X) (x : X) → slice_get xs (length xs - 1) ≡ Some x → last_of before xs ≡ Some x
last_of_last before [] x h = let no : ⊥ = cc in absurd no
last_of_last before (y ∷ []) x h = h
last_of_last before (y ∷ z ∷ zs) x h =
    let one : length (y ∷ z ∷ zs) - 1 ≡ suc (length (z ∷ zs) - 1) = omega arith in
    last_of_last (Some y) (z ∷ zs) x (subst (λ (n : ℕ). slice_get (y ∷ z ∷ zs) n ≡ Some x) one h)
