use Rattle.std.proofs.Common.{◌||◌, cond, refl, ap, ◌∙◌}
use Rattle.std.specs.List.{list_any}
use Rattle.xa_base.specs.Branch.{gtrid_eq}
use Rattle.xa_log.specs.declared.decision.Decision.{Decision}
use Rattle.xa_log.specs.declared.decision_log.Logged.TheVariants.{New, Already}
use Rattle.xa_sql_log.proofs.GroupedRows.{found_there}
use Rattle.xa_sql_log.proofs.groups.find_after.Goals as goal
use Rattle.xa_sql_log.proofs.groups.find_after.Goals.{then-found-via-then-found, then-found-via-else-found+then-is_among}

pub returns-then-found-clause-ok : goal.returns-then-found-clause-ok
returns-then-found-clause-ok g c order clean =
    let ds = c.args.earlier.now in
    let found = c.in_ok-found.found in
    elim c.then-found.branch [
      | then-found-via-then-found w ↦ (
          let among = list_any (λ (d : Decision). gtrid_eq c.args.g d.gtrid) ds in
          found_there ds c.args.g found among Already _ _ (ap (λ b. cond (b || among) Already New) w.if-found.true) refl
          (c.in_ok-found.ensures.ok order clean))
      | then-found-via-else-found+then-is_among w ↦ (
          let among = w.is_among.result in
          found_there ds c.args.g found among Already _ _
          (ap (λ b. cond (b || among) Already New) w.if-found.false ∙ ap (λ b. cond b Already New) w.if-is_among.true)
          w.is_among.ensures (c.in_ok-found.ensures.ok order clean))
    ]

pub returns-clause-ok : goal.returns-clause-ok
returns-clause-ok g c order clean =
    let among = c.is_among.result in
    found_there c.args.earlier.now c.args.g c.in_ok-found.found among New _ _
    (ap (λ b. cond (b || among) Already New) c.if-found.false ∙ ap (λ b. cond b Already New) c.if-is_among.false)
    c.is_among.ensures (c.in_ok-found.ensures.ok order clean)
