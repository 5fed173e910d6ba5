use Rattle.xa_base.specs.declared.step.Outcome.TheVariants as outcomes
use Rattle.xa_conduct.proofs.SaidLemmas.{said_lines}
use Rattle.xa_conduct.specs.Decided.{is_commit_of, is_rollback_of}
use Rattle.xa_conduct.proofs.laws.told_decisions_were_made.Goals as goal

pub returns : goal.returns
returns g c = λ done first now acts h.
    let said = said_lines g.L.DecisionLog.moment in (
      λ is. said outcomes.Commit h acts.lines acts.replies first now acts.replied (acts.asked (is_commit_of h) is),
      λ is. said outcomes.Rollback h acts.lines acts.replies first now acts.replied (acts.asked (is_rollback_of h) is),
    )
