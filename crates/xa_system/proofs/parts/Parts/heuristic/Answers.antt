use Rattle.std.proofs.Common.{refl, sym, ap, ◌∙◌}
use Rattle.std.specs.Result.{result_err}
use Rattle.xa_model.specs.Replies.History.{name_of}
use Rattle.xa_base.specs.declared.reply.Reply.TheVariants as Replies
use Rattle.xa_model.specs.Replies.Steps as known
use Rattle.xa_model.specs.Trace.{Happening.CompletedAlone}
use Rattle.xa_base.specs.declared.step.Step.TheVariants as Steps
use Rattle.xa_base.specs.HeldBranch.{completed_by}
use Rattle.xa_system.specs.Parts.{sees}
use Rattle.xa_system.proofs.Steps.PresentRms.{rm_read}
use Rattle.xa_system.proofs.Steps.Script.{held_here, script_hinders, script_told}
use Rattle.xa_system.proofs.Steps.ScriptedBranches.{alone_script, ended_alone}
use Rattle.xa_system.proofs.Steps.ScriptRefusals.{heuristic_bad, heuristic_elsewhere, heuristic_fine}
use Rattle.xa_system.proofs.parts.Parts.heuristic.Goals as goal

pub returns-in-Err : goal.returns-in-Err
returns-in-Err g c =
    let see = sees g.R.ResourceManager.look g.L.DecisionLog.moment in
    let p = c.args.self.now in
    let r = c.args.rm in
    let x = c.args.xid.now in
    let v = c.args.how in
    script_hinders see (Steps.Heuristic r x v) p r x c.in-Err.refusal c.refused.result c.requires.has_xid c.refused.ensures
    (λ tr stands. sym (ap result_err c.in-Err.is) ∙ c.check_script.ensures.why tr stands) (λ tr. refl) (λ tr q. heuristic_elsewhere tr r (name_of x) v q)

pub returns : goal.returns
returns g c tr stands few =
    let see = sees g.R.ResourceManager.look g.L.DecisionLog.moment in
    let p = c.args.self.now in
    let r = c.args.rm in
    let x = c.args.xid.now in
    let v = c.args.how in
    let at = rm_read see tr p r c.index_mut.result.now stands c.in_default.ensures.there c.index_mut.ensures.value in
    script_told see tr (Steps.Heuristic r x v) (λ b. CompletedAlone b v) p r c.index_mut.result.now c.heuristic.new.self c.noted.result x
    (completed_by v) c.heuristic.result stands c.requires.has_xid at c.noted.ensures
    (λ tr stands. sym (ap result_err c.in_default.is) ∙ c.check_script.ensures.why tr stands) refl
    (λ b named here told. heuristic_bad tr r (name_of x) b v ((see.look c.index_mut.result.now.rm).held x).standing named here
    (held_here see tr p r c.index_mut.result.now x b at c.requires.has_xid named here stands) (c.heuristic.ensures.script.0 told))
    (λ b named here other. heuristic_fine tr r (name_of x) b v ((see.look c.index_mut.result.now.rm).held x).standing named here
    (held_here see tr p r c.index_mut.result.now x b at c.requires.has_xid named here stands) (λ e. other (c.heuristic.ensures.script.1 e)))
    refl tt (λ b named. ap (λ m. known.happened (Steps.Heuristic r m v) Replies.Noted) named) c.requires.has_xid (λ b. ended_alone tr b v)
    (λ b. alone_script tr b v) (λ b l. refl) (λ b l. refl) (λ b l. refl) (λ b l. refl) (λ b. stands.book)
    c.heuristic.ensures.ok c.heuristic.ensures.err
