-- Names are identifiers, seen otherwise: none is lost, and each branch has its own.
use Rattle.std.proofs.Common.{◌≡◌, ℕ, suc, Bool, true, false, refl, sym, ap, ◌∙◌, arith}
use Rattle.std.specs.Prelude.{if◌then◌else◌, All, List, [], ◌∷◌, map, Option, Some, None}
use Rattle.std.specs.Ordering.{int_eq}
use Rattle.xa_base.specs.Xid.{Xid, IsXid, xid_cmp}
use Rattle.xa_base.specs.Bytes.{u64_pair, u32_pair}
use Rattle.xa_base.specs.Branch.{xid_of_branch, branch_of_xid, branch_of_pairs, own_format, IsBranch}
use Rattle.xa_base.proofs.BranchLemmas.{u64_pair-bytes, u32_pair-bytes, own-found, own_format_of}
use Rattle.xa_model.specs.Trace.{Branch, Name.Ours, Name.Foreign}
use Rattle.xa_model.specs.Facts.InDoubt.{xid_of_name, name_cmp}
use Rattle.xa_model.specs.Replies.History.{name_by, name_of}

pub own_name : (b : Branch) → IsBranch b → name_of (xid_of_branch b) ≡ Ours b
own_name b h =
    ap (λ (p : Option (ℕ × ℕ)). name_by (xid_of_branch b) (branch_of_pairs p (u32_pair (xid_of_branch b).bqual)))
    (u64_pair-bytes b.gtrid.incarnation b.gtrid.sequence h.incarnation h.sequence)
    ∙ ap (λ (p : Option (ℕ × ℕ)). name_by (xid_of_branch b) (branch_of_pairs (Some (b.gtrid.incarnation, b.gtrid.sequence)) p))
    (u32_pair-bytes b.thread b.rm h.thread h.rm)

back_by : (x : Xid) → IsXid x → (p q : Option (ℕ × ℕ)) → p ≡ u64_pair x.gtrid → q ≡ u32_pair x.bqual → (t : Bool)
    → int_eq x.format own_format ≡ t → xid_of_name (name_by x (if t then branch_of_pairs p q else None)) ≡ x
back_by x h (Some (incarnation, sequence)) (Some (thread, rm)) g q true f =
    sym (own-found x incarnation sequence thread rm h.in_range.gtrid h.in_range.bqual (own_format_of x f) g q)
back_by x h (Some g) None p q true f = refl
back_by x h None q p r true f = refl
back_by x h p q g r false f = refl

pub name_back : (x : Xid) → IsXid x → xid_of_name (name_of x) ≡ x
name_back x h = back_by x h _ _ refl refl _ refl

pub foreign_name : (x : Xid) → branch_of_xid x ≡ None → name_of x ≡ Foreign x
foreign_name x n = ap (name_by x) n

pub pages_back : (xs : List Xid) → All IsXid xs → map xid_of_name (map name_of xs) ≡ xs
pages_back [] h = refl
pages_back (x ∷ xs) h = λ i. name_back x (h 0 x (omega arith)) i ∷ pages_back xs (λ k d l. h (suc k) d (omega arith)) i

pub names_order : (x y : Xid) → IsXid x → IsXid y → name_cmp (name_of x) (name_of y) ≡ xid_cmp x y
names_order x y h k = λ i. xid_cmp (name_back x h i) (name_back y k i)
