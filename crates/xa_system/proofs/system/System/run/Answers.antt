use Rattle.std.proofs.Common.{◌<◌, ◌∙◌, ap, arith, length, sym}
use Rattle.std.specs.Prelude.{slice_index_or}
use Rattle.xa_system.specs.declared.system.TheConstants.{EVENT_LIMIT}
use Rattle.xa_system.specs.SystemView.{observes}
use Rattle.xa_system.proofs.Log.KeptLog.{kept_on}
use Rattle.xa_system.proofs.Steps.InTurn.{adds_more, room_more}
use Rattle.xa_system.proofs.system.System.run.Goals as goal

pub loop-step-preserved : goal.loop-step-preserved
loop-step-preserved g c =
    let see = observes g.R.ResourceManager.look g.L.DecisionLog.moment in
    let so_far = c.loop-step.invariant in
    let step = c.step-reply.ensures in
    let low : c.loop-step.step-index < length c.args.steps.now = omega (arith, c.loop-step-test.true) in
    let few : length c.loop-step.self.events < EVENT_LIMIT = omega (arith, so_far.room, low) in
    let one = step.adds few in
    let is = c.copy.ensures ∙ c.step-item.is ∙ ap (λ s. slice_index_or c.args.steps.now c.loop-step.step-index s) (sym c.copy.ensures) in
    record {
      adds = adds_more c.args.steps.now c.loop-step.step-index c.args.self.now.events c.loop-step.self.events c.step-reply.new.self.events
          c.copy.result c.step-reply.result low so_far.adds is one;
      room = room_more c.loop-step.self.events c.step-reply.new.self.events _ (length c.args.steps.now) EVENT_LIMIT c.loop-step.step-index one so_far.room;
      start = step.start ∙ so_far.start;
      log = kept_on see c.args.self.now c.loop-step.self c.step-reply.new.self _ one so_far.log step.log;
    }
