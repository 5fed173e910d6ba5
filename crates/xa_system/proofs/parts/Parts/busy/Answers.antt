use Rattle.std.proofs.Common.{refl, sym, ap, ◌∙◌}
use Rattle.std.specs.Prelude.{not}
use Rattle.std.specs.Result.{result_err}
use Rattle.xa_model.specs.Replies.History.{name_of}
use Rattle.xa_base.specs.declared.reply.Reply.TheVariants as Replies
use Rattle.xa_model.specs.Replies.Steps as known
use Rattle.xa_model.specs.Trace.{Happening.PutOff}
use Rattle.xa_base.specs.declared.step.Step.TheVariants as Steps
use Rattle.xa_rm.specs.ResourceManager.{retrying}
use Rattle.xa_system.specs.Parts.{sees}
use Rattle.xa_system.proofs.Steps.PresentRms.{rm_read}
use Rattle.xa_system.proofs.Steps.Script.{script_hinders, script_told}
use Rattle.xa_system.proofs.Steps.ScriptedBranches.{put_off, put_off_script}
use Rattle.xa_system.proofs.Steps.ScriptRefusals.{is_there, never_scripts}
use Rattle.xa_system.proofs.parts.Parts.busy.Goals as goal

pub returns-in-Err : goal.returns-in-Err
returns-in-Err g c =
    let see = sees g.R.ResourceManager.look g.L.DecisionLog.moment in
    let p = c.args.self.now in
    let r = c.args.rm in
    let x = c.args.xid.now in
    let v = c.args.times in
    script_hinders see (Steps.Busy r x v) p r x c.in-Err.refusal c.refused.result c.requires.has_xid c.refused.ensures
    (λ tr stands. sym (ap result_err c.in-Err.is) ∙ c.check_script.ensures.why tr stands) (λ tr. refl) (λ tr q. ap not q)

pub returns : goal.returns
returns g c tr stands few =
    let see = sees g.R.ResourceManager.look g.L.DecisionLog.moment in
    let p = c.args.self.now in
    let r = c.args.rm in
    let x = c.args.xid.now in
    let v = c.args.times in
    let at = rm_read see tr p r c.index_mut.result.now stands c.in_default.ensures.there c.index_mut.ensures.value in
    script_told see tr (Steps.Busy r x v) (λ b. PutOff b v) p r c.index_mut.result.now c.retry.new.self c.noted.result x
    (retrying v) c.retry.result stands c.requires.has_xid at c.noted.ensures
    (λ tr stands. sym (ap result_err c.in_default.is) ∙ c.check_script.ensures.why tr stands) refl
    (λ b named here told. absurd (never_scripts c.retry.result told c.retry.ensures.never_script))
    (λ b named here other. ap not (is_there r (name_of x) b named here))
    refl tt (λ b named. ap (λ m. known.happened (Steps.Busy r m v) Replies.Noted) named) c.requires.has_xid (λ b. put_off tr b v)
    (λ b. put_off_script tr b v) (λ b l. refl) (λ b l. refl) (λ b l. refl) (λ b l. refl) (λ b. stands.book)
    c.retry.ensures.ok c.retry.ensures.err
