-- Branches are compared number by number.
use Rattle.std.proofs.Common.{◌≡◌, List, Bool, ◌&&◌, ap, ◌∙◌}
use Rattle.std.specs.Prelude.{nat_eq}
use Rattle.std.specs.List.{list_any}
use Rattle.xa_base.specs.Branch.{branch_eq}
use Rattle.xa_base.specs.declared.branch.Branch.{Branch}
use Rattle.xa_base.proofs.BranchOrder.{gtrid_numbers, branch_numbers}
use Rattle.xa_tm.specs.Swaps.{is_branch_among}

-- the numbers of two branches, as a derived test compares them
abbrev by_numbers : Branch → Branch → Bool
by_numbers b c =
    (nat_eq b.gtrid.incarnation c.gtrid.incarnation && nat_eq b.gtrid.sequence c.gtrid.sequence)
    && (nat_eq b.thread c.thread && nat_eq b.rm c.rm)

same_one : (b c : Branch) → by_numbers b c ≡ branch_eq b c
same_one b c =
    ap (λ t. t && (nat_eq b.thread c.thread && nat_eq b.rm c.rm)) (gtrid_numbers b.gtrid c.gtrid)
    ∙ branch_numbers b c

pub among : (b : Branch) (bs : List Branch) → list_any (λ c. by_numbers c b) bs ≡ is_branch_among b bs
among b bs = ap (λ (same : Branch → Bool). list_any same bs) (λ i. λ c. same_one c b i)
