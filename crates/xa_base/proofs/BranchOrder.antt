-- The orders of transactions and of branches are total, only the same tie, and the tests say so.
use Rattle.std.proofs.Common.{◌≡◌, ℕ, ap, nat_cmp, Ordering, ◌&&◌, refl}
use Rattle.std.specs.Prelude.{nat_eq}
use Rattle.std.specs.Ordering.{ordering_then}
use Rattle.std.specs.Cmp.{IsTotalOrder, nat_cmp_total, both_tied, unsigned_ties}
use Rattle.std.proofs.lemmas.Cmp.{on_total, then_total}
use Rattle.std.proofs.lemmas.Map.Lookups.{CmpEqualImpliesEq, exact_pairs, exact_unsigned}
use Rattle.xa_base.specs.declared.branch.Gtrid.{Gtrid}
use Rattle.xa_base.specs.declared.branch.Branch.{Branch}
use Rattle.xa_base.specs.Branch.{gtrid_eq, branch_eq, gtrid_cmp, branch_cmp}

pub gtrids_total : IsTotalOrder gtrid_cmp
gtrids_total = then_total (on_total (λ g. g.incarnation) nat_cmp_total) (on_total (λ g. g.sequence) nat_cmp_total)

pub exact_gtrids : CmpEqualImpliesEq gtrid_cmp
exact_gtrids a b h =
    ap (λ (p : ℕ × ℕ). record { incarnation = p.0; sequence = p.1 })
    (exact_pairs nat_cmp nat_cmp exact_unsigned exact_unsigned (a.incarnation, a.sequence) (b.incarnation, b.sequence) h)

pub branches_total : IsTotalOrder branch_cmp
branches_total = then_total (on_total (λ b. b.gtrid) gtrids_total) (then_total (on_total (λ b. b.thread) nat_cmp_total) (on_total (λ b. b.rm) nat_cmp_total))

abbrev pair_cmp : (ℕ × ℕ) → (ℕ × ℕ) → Ordering
pair_cmp a b = ordering_then (nat_cmp a.0 b.0) (nat_cmp a.1 b.1)

pub exact_branches : CmpEqualImpliesEq branch_cmp
exact_branches a b h = ap (λ (p : Gtrid × (ℕ × ℕ)). record { gtrid = p.0; thread = p.1.0; rm = p.1.1 })
    (exact_pairs gtrid_cmp pair_cmp exact_gtrids (exact_pairs nat_cmp nat_cmp exact_unsigned exact_unsigned) (a.gtrid, (a.thread, a.rm))
    (b.gtrid, (b.thread, b.rm)) h)

-- ** the numbers of what is the same

pub gtrid_numbers : (g h : Gtrid) → (nat_eq g.incarnation h.incarnation && nat_eq g.sequence h.sequence) ≡ gtrid_eq g h
gtrid_numbers g h =
    both_tied _ _ (nat_cmp g.incarnation h.incarnation) (nat_cmp g.sequence h.sequence)
    (unsigned_ties g.incarnation h.incarnation) (unsigned_ties g.sequence h.sequence)

pub branch_numbers :
    (b c : Branch)
    → (gtrid_eq b.gtrid c.gtrid && (nat_eq b.thread c.thread && nat_eq b.rm c.rm)) ≡ branch_eq b c
branch_numbers b c =
    both_tied _ _ (gtrid_cmp b.gtrid c.gtrid) (ordering_then (nat_cmp b.thread c.thread) (nat_cmp b.rm c.rm)) refl
    (both_tied _ _ (nat_cmp b.thread c.thread) (nat_cmp b.rm c.rm) (unsigned_ties b.thread c.thread) (unsigned_ties b.rm c.rm))
