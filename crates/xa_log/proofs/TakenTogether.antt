-- Rows that are taken away together: what the first ones of a list take, whose rows are left, and that what is in order stays so.
use Rattle.std.proofs.Common.{◌≡◌, ℕ, ◌+◌, ◌<◌, List, [], ◌∷◌, ◌++◌, length, take, get_or, Bool, true, false, ◌||◌, cond, None, refl, sym, ap, ◌∙◌}
use Rattle.std.proofs.lemmas.List.{take_more}
use Rattle.std.specs.FinMap.{get, get-remove}
use Rattle.std.specs.List.{list_any}
use Rattle.xa_base.specs.declared.branch.Gtrid.{Gtrid}
use Rattle.xa_base.specs.Branch.{gtrid_eq}
use Rattle.xa_base.proofs.BranchOrder.{gtrids_total}
use Rattle.xa_log.specs.Content.{Content, without_decision, without_decisions}
use Rattle.xa_log.specs.Memory.{IsInOrder}
use Rattle.xa_log.proofs.OwnBranches.{order_without}

without_push : (gs : List Gtrid) (g : Gtrid) (c : Content) → without_decisions (gs ++ g ∷ []) c ≡ without_decision g (without_decisions gs c)
without_push [] g c = refl
without_push (x ∷ gs) g c = without_push gs g (without_decision x c)

pub one_more_taken : (gs : List Gtrid) (i : ℕ) (d : Gtrid) (before was now : Content) → i < length gs
    → was ≡ without_decisions (take i gs) before → now ≡ without_decision (get_or gs i d) was → now ≡ without_decisions (take (i + 1) gs) before
one_more_taken gs i d before was now low earlier step =
    step ∙ ap (without_decision (get_or gs i d)) earlier ∙ sym (without_push (take i gs) (get_or gs i d) before)
    ∙ sym (ap (λ l. without_decisions l before) (take_more gs i d low))

pub order_without_all : (gs : List Gtrid) (c : Content) → IsInOrder c → IsInOrder (without_decisions gs c)
order_without_all [] c order = order
order_without_all (g ∷ gs) c order = order_without_all gs (without_decision g c) (order_without c g order)

-- ** whose rows are left

pub rows_left : (gs : List Gtrid) (c : Content) (q : Gtrid)
    → get (without_decisions gs c).decisions q ≡ cond (list_any (gtrid_eq q) gs) None (get c.decisions q)
rows_left [] c q = refl
rows_left (g ∷ gs) c q =
    rows_left gs (without_decision g c) q ∙ ap (cond (list_any (gtrid_eq q) gs) None) (get-remove gtrids_total c.decisions g q)
    ∙ in_either (gtrid_eq q g) (list_any (gtrid_eq q) gs)
  where
    in_either : (a b : Bool) → cond b None (cond a None (get c.decisions q)) ≡ cond (a || b) None (get c.decisions q)
    in_either true true = refl
    in_either true false = refl
    in_either false b = refl

pub same_heuristics : (gs : List Gtrid) (c : Content) → (without_decisions gs c).heuristics ≡ c.heuristics
same_heuristics [] c = refl
same_heuristics (g ∷ gs) c = same_heuristics gs (without_decision g c)

pub same_incarnation : (gs : List Gtrid) (c : Content) → (without_decisions gs c).incarnation ≡ c.incarnation
same_incarnation [] c = refl
same_incarnation (g ∷ gs) c = same_incarnation gs (without_decision g c)
