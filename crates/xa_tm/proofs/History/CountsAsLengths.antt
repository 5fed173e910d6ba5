-- The numbers that are counted as a history goes on are lengths of choices from its branches.
use Rattle.std.proofs.Common.{◌≡◌, ◌+◌, List, [], ◌∷◌, filter, length, Bool, true, false, not, ◌&&◌, cond, refl, sym, ap, ◌∙◌, arith}
use Rattle.std.specs.Prelude.{if◌then◌else◌}
use Rattle.xa_base.specs.declared.branch.Branch.{Branch}
use Rattle.xa_base.specs.declared.branch.Gtrid.{Gtrid}
use Rattle.xa_base.specs.Branch.{gtrid_eq}
use Rattle.xa_model.specs.Facts.{begun, branches, is_settled, has_voted}
use Rattle.xa_model.specs.Protocol.{IsRun}
use Rattle.xa_model.specs.Trace.{Trace}
use Rattle.xa_tm.specs.Counts.{branch_count, unsettled, unvoted}
use Rattle.xa_tm.proofs.History.Counting.{count, counted_branches, counted_votes, same_count}
use Rattle.xa_tm.proofs.History.Settling.{counted_settled, settled_is}

count_is : (p : Branch → Bool) (xs : List Branch) → count p xs ≡ length (filter p xs)
count_is p [] = refl
count_is p (x ∷ xs) = by (p x) (count_is p xs)
  where
    by : (t : Bool) → count p xs ≡ length (filter p xs) → (if t then count p xs + 1 else count p xs) ≡ length (cond t (x ∷ filter p xs) (filter p xs))
    by true rest = omega (arith, rest)
    by false rest = rest

pub branches_counted : (tr : Trace) (g : Gtrid) → branch_count tr g ≡ length (filter (λ b. gtrid_eq b.gtrid g) (branches tr))
branches_counted tr g = counted_branches tr g ∙ count_is (λ b. gtrid_eq b.gtrid g) (branches tr)

pub votes_counted : (tr : Trace) (g : Gtrid) → IsRun tr → unvoted tr g ≡ length (filter (λ b. gtrid_eq b.gtrid g && not (has_voted tr b)) (branches tr))
votes_counted tr g r = counted_votes tr g r ∙ count_is (λ b. gtrid_eq b.gtrid g && not (has_voted tr b)) (branches tr)

pub settlements_counted : (tr : Trace) (g : Gtrid) → IsRun tr → begun tr g ≡ true
    → unsettled tr g ≡ length (filter (λ b. gtrid_eq b.gtrid g && not (is_settled tr b)) (branches tr))
settlements_counted tr g r e = counted_settled tr g r e
    ∙ same_count _ (λ b. gtrid_eq b.gtrid g && not (is_settled tr b)) (branches tr) (λ b. ap (λ t. gtrid_eq b.gtrid g && not t) (sym (settled_is tr b)))
    ∙ count_is (λ b. gtrid_eq b.gtrid g && not (is_settled tr b)) (branches tr)
