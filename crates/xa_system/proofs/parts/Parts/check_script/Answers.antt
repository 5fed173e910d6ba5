use Rattle.std.proofs.Common.{true, false, arith, sym, ap, ◌∙◌}
use Rattle.std.specs.Prelude.{not}
use Rattle.xa_model.specs.Replies.History.{name_of}
use Rattle.xa_model.specs.Replies.Guards.{is_at}
use Rattle.xa_system.specs.Parts.{sees}
use Rattle.xa_system.proofs.Steps.PresentRms.{rm_read}
use Rattle.xa_system.proofs.Steps.Script.{script_found, script_limit}
use Rattle.xa_system.proofs.Steps.ScriptRefusals.{script_why}
use Rattle.xa_system.proofs.parts.Parts.check_script.Goals as goal

pub returns-then-rm-rms-clause-why : goal.returns-then-rm-rms-clause-why
returns-then-rm-rms-clause-why g c tr stands =
    let see = sees g.R.ResourceManager.look g.L.DecisionLog.moment in
    let p = c.args.self.now in
    let r = c.args.rm in
    let x = c.args.xid.now in
    sym (script_limit see tr p r (not (is_at r (name_of x))) (omega (arith, c.if-rm-rms.true, c.rms.ensures.value)) stands)

pub returns-then-not-index-clause-why : goal.returns-then-not-index-clause-why
returns-then-not-index-clause-why g c tr stands =
    let see = sees g.R.ResourceManager.look g.L.DecisionLog.moment in
    let p = c.args.self.now in
    let r = c.args.rm in
    let x = c.args.xid.now in
    sym (script_found see tr p r c.index.result.now false (not (is_at r (name_of x))) (omega (arith, c.if-rm-rms.false, c.rms.ensures.value))
    (rm_read see tr p r c.index.result.now stands (omega (arith, c.if-rm-rms.false, c.rms.ensures.value)) c.index.ensures) c.if-not-index.true stands)

pub returns-then-not-is_at-clause-why : goal.returns-then-not-is_at-clause-why
returns-then-not-is_at-clause-why g c tr stands =
    let see = sees g.R.ResourceManager.look g.L.DecisionLog.moment in
    let p = c.args.self.now in
    let r = c.args.rm in
    let x = c.args.xid.now in
    sym (script_found see tr p r c.index.result.now true (not (is_at r (name_of x))) (omega (arith, c.if-rm-rms.false, c.rms.ensures.value))
    (rm_read see tr p r c.index.result.now stands (omega (arith, c.if-rm-rms.false, c.rms.ensures.value)) c.index.ensures) c.if-not-index.false stands ∙ ap
    (λ t. script_why true true (not t)) (sym c.is_at.ensures ∙ c.if-not-is_at.true))

pub returns-clause-why : goal.returns-clause-why
returns-clause-why g c tr stands =
    let see = sees g.R.ResourceManager.look g.L.DecisionLog.moment in
    let p = c.args.self.now in
    let r = c.args.rm in
    let x = c.args.xid.now in
    sym (script_found see tr p r c.index.result.now true (not (is_at r (name_of x))) (omega (arith, c.if-rm-rms.false, c.rms.ensures.value))
    (rm_read see tr p r c.index.result.now stands (omega (arith, c.if-rm-rms.false, c.rms.ensures.value)) c.index.ensures) c.if-not-index.false stands ∙ ap
    (λ t. script_why true true (not t)) (sym c.is_at.ensures ∙ c.if-not-is_at.false))
