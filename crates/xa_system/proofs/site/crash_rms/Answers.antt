use Rattle.std.proofs.Common.{arith}
use Rattle.xa_system.specs.Steps.{Crashes}
use Rattle.xa_system.proofs.Steps.CrashAll.{are_crashed, done_more, none_done}
use Rattle.xa_system.proofs.site.crash_rms.Goals as goal

pub loop-rm-init : goal.loop-rm-init
loop-rm-init g c =
    let look = g.R.ResourceManager.look in
    none_done (Crashes look) c.args.rms.now.items

pub loop-rm-preserved : goal.loop-rm-preserved
loop-rm-preserved g c =
    let look = g.R.ResourceManager.look in
    done_more (Crashes look) c.args.rms.now.items c.loop-rm.rms.items c.loop-rm.rm c.index_mut.result.now _ c.loop-rm.invariant
    (omega (arith, c.loop-rm-test.true, c.len-rm-end.ensures, c.args.rms.now.ok.0, c.loop-rm.invariant.count)) c.index_mut.ensures.value
    c.crash.ensures

pub returns : goal.returns
returns g c =
    are_crashed g.R.ResourceManager.look c.args.rms.now.items c.loop-rm.rms.items
    c.loop-rm.rm (omega (arith, c.loop-rm-test.false, c.len-rm-end.ensures, c.args.rms.now.ok.0, c.loop-rm.invariant.count)) c.loop-rm.invariant
