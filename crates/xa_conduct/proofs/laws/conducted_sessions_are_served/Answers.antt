use Rattle.std.proofs.Common.{ℕ, List, [], subst, sym}
use Rattle.xa_server.proofs.WithoutName.{lines_as_are}
use Rattle.xa_server.specs.Serving.{HaveReplies}
use Rattle.xa_conduct.proofs.ActLemmas.{none_act}
use Rattle.xa_conduct.proofs.laws.conducted_sessions_are_served.Goals as goal

pub returns : goal.returns
returns g c = λ threads rms handed first now starts goes.
    let moment = g.L.DecisionLog.moment in
    let acts = goes [] first (none_act moment first) in (
      acts,
      lines_as_are c.without_a_name_nothing_changes.ensures.lines acts.lines,
      λ name lines are no_fault o begins.
          c.served_sessions_agree.ensures.seen name threads rms lines acts.replies handed first now starts
          (subst (λ (ls : List (List ℕ)). HaveReplies moment ls acts.replies first now) (sym are) acts.replied) no_fault o begins,
    )
