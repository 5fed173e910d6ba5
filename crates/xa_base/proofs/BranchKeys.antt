-- Equality of transactions and of branches.
use Rattle.std.proofs.Common.{◌≡◌, true, sym, ◌∙◌, arith}
use Rattle.std.proofs.lemmas.Bool.{eqb-true, eq-eqb, and_parts}
use Rattle.xa_base.specs.Branch.{gtrid_eq, branch_eq}
use Rattle.xa_base.specs.declared.branch.Branch.{Branch}
use Rattle.xa_base.specs.declared.branch.Gtrid.{Gtrid}
use Rattle.xa_base.proofs.BranchOrder.{gtrid_numbers, branch_numbers}

pub gtrid_eq-true : (g h : Gtrid) → gtrid_eq g h ≡ true → g ≡ h
gtrid_eq-true g h e =
    let p = and_parts _ _ (gtrid_numbers g h ∙ e) in
    let x = eqb-true _ _ p.0 in let y = eqb-true _ _ p.1 in
    λ i. record { incarnation = x i; sequence = y i }

pub branch_eq-true : (b c : Branch) → branch_eq b c ≡ true → b ≡ c
branch_eq-true b c e =
    let p = and_parts _ _ (branch_numbers b c ∙ e) in
    let q = and_parts _ _ p.1 in
    let g = gtrid_eq-true _ _ p.0 in
    let x = eqb-true _ _ q.0 in let y = eqb-true _ _ q.1 in
    λ i. record { gtrid = g i; thread = x i; rm = y i }

pub gtrid_eq-refl : (g : Gtrid) → gtrid_eq g g ≡ true
gtrid_eq-refl g = sym (gtrid_numbers g g) ∙ grind (arith, eq-eqb)

pub branch_eq-refl : (b : Branch) → branch_eq b b ≡ true
branch_eq-refl b = sym (branch_numbers b b) ∙ grind (arith, eq-eqb, gtrid_eq-refl b.gtrid)
