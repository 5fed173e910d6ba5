-- A run over a log that holds one row starts with that row.
use Rattle.std.proofs.Common.{◌≡◌, ℕ, true, List, [], Option, Some, IsSomeAnd, IfOk, Result, Ok, Err, ap, subst, sym, ◌∙◌, cond, is_eq, is_some}
use Rattle.std.specs.Prelude.{if◌then◌else◌}
use Rattle.std.specs.Cmp.{tied_itself}
use Rattle.std.specs.FinMap.{get, get-empty, get-insert}
use Rattle.xa_base.proofs.BranchOrder.{gtrids_total}
use Rattle.xa_base.specs.Branch.{gtrid_cmp}
use Rattle.xa_base.specs.declared.branch.Branch.{Branch}
use Rattle.xa_base.specs.declared.branch.Gtrid.{Gtrid}
use Rattle.xa_log.specs.Content.{Content, nothing, with_bump, with_commit, with_decision}
use Rattle.xa_log.specs.Contract.{Moment}
use Rattle.xa_log.specs.KeySet.{from_list}
use Rattle.xa_scenario.specs.Runs.{IsTextOf, Prints}
use Rattle.xa_system.specs.LogInHistory.{StartsOver}
use Rattle.uses.specs.Starts.{PrintsAfter}

-- a log with one row
abbrev one_row : Gtrid → List Branch → Content
one_row g participants = with_commit g (from_list participants) (with_bump nothing)

is_written : (g : Gtrid) (participants : List Branch) → one_row g participants ≡ with_decision g (from_list participants) (with_bump nothing)
is_written g participants =
    ap (λ t. if t then with_bump nothing else with_decision g (from_list participants) (with_bump nothing)) (ap is_some (get-empty gtrid_cmp g))

row_there : (g : Gtrid) (participants : List Branch)
    → get (with_decision g (from_list participants) (with_bump nothing)).decisions g ≡ Some (from_list participants)
row_there g participants =
    get-insert gtrids_total (with_bump nothing).decisions g (from_list participants) g
    ∙ ap (λ t. cond t (Some (from_list participants)) (get (with_bump nothing).decisions g)) (ap is_eq (tied_itself gtrids_total g))

pub prints_after : {L : Type 0} (moment : L → Moment) (log : L) (g : Gtrid) (participants : List Branch) (text out : List ℕ)
    → ((l : L) → (moment l).is_honest) → (moment log).is_in_order → (moment log).content ≡ Some (one_row g participants)
    → Prints moment log text true (Some []) (Some out) → PrintsAfter g participants text out
prints_after moment log g participants text out honest order holds prints =
    let it = prints.1 in
    let over : StartsOver it.origin (with_decision g (from_list participants) (with_bump nothing)) =
    subst (λ (c : Option Content). IsSomeAnd c (StartsOver it.origin)) (holds ∙ ap Some (is_written g participants))
    (it.over.held order (honest it.over.left)) in
    record {
      plan = it.plan;
      origin = it.origin;
      reads = it.reads;
      incarnation = over.incarnation;
      row = sym (over.rows.rows g) ∙ row_there g participants;
      run = subst (IsTextOf it.plan true it.origin) (sym prints.2) it.run;
    }

pub prints_if_ok : {L V E : Type 0} (moment : L → Moment) (log : L) (g : Gtrid) (participants : List Branch) (text : List ℕ) (bytes : V
    → List ℕ) (r : Result V E)
    → ((l : L) → (moment l).is_honest) → (moment log).is_in_order → (moment log).content ≡ Some (one_row g participants)
    → IfOk r (λ out. Prints moment log text true (Some []) (Some (bytes out))) → IfOk r (λ out. PrintsAfter g participants text (bytes out))
prints_if_ok moment log g participants text bytes (Ok out) honest order holds prints = prints_after moment log g participants text
    (bytes out) honest order holds prints
prints_if_ok moment log g participants text bytes (Err e) honest order holds prints = tt
