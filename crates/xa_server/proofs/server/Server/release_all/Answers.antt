use Rattle.std.proofs.Common.{drop, add-one, subst}
use Rattle.xa_base.specs.declared.branch.Gtrid.{Gtrid}
use Rattle.xa_server.proofs.ReleaseLemmas.{next_is_released}
use Rattle.xa_server.specs.Releasing.{ReleasesAll}
use Rattle.xa_server.proofs.server.Server.release_all.Goals as goal

abbrev none : Gtrid
none = record { incarnation = 0; sequence = 0 }

pub loop-gtrid-preserved : goal.loop-gtrid-preserved
loop-gtrid-preserved g c = record {
  ready = c.release.ensures.ready;
  rest = λ new more. c.loop-gtrid.invariant.rest new
      (next_is_released c.args.gtrids.now c.loop-gtrid.gtrid-index none c.loop-gtrid.self c.release.new.self new c.loop-gtrid-test.true
      c.release.ensures.releases
      (subst (λ i. ReleasesAll (drop i c.args.gtrids.now) c.release.new.self new) (add-one c.loop-gtrid.gtrid-index) more));
}
