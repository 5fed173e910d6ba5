use Rattle.std.proofs.Common.{length, refl}
use Rattle.std.proofs.lemmas.Option.{slice_get_read}
use Rattle.xa_system.specs.SystemView.{IsClear}
use Rattle.xa_system.proofs.Histories.HoldsBelow.{below_all, below_more}
use Rattle.xa_system.proofs.system.are_clear.Goals as goal

pub loop-rm-preserved : goal.loop-rm-preserved
loop-rm-preserved g c =
    let look = g.R.ResourceManager.look in
    below_more (λ r. IsClear look) c.args.rms.now c.loop-rm.rm-index c.rm-item.result c.loop-rm.invariant
    (slice_get_read c.args.rms.now (length c.args.rms.now) c.loop-rm.rm-index c.rm-item.result refl c.loop-rm-test.true c.rm-item.is)
    (record { no_branch = c.if-holds_format.ensures.clear refl; listed = c.in_doubt_len.ensures.in_doubt })

pub returns-clause-clear : goal.returns-clause-clear
returns-clause-clear g c _ =
    let look = g.R.ResourceManager.look in
    below_all (λ r. IsClear look) c.args.rms.now c.loop-rm.rm-index c.loop-rm-test.false c.loop-rm.invariant
