-- What holds of a system after each call, whatever that does.
use Rattle.xa_model.specs.Promises.Headline.{Headline, HeadlineSince}
use Rattle.xa_model.specs.Promises.Processes.{Resumes, resumed}
use Rattle.xa_model.specs.Protocol.{AllRight, RightOrigin}
use Rattle.xa_model.specs.Trace.{Trace}
use Rattle.xa_system.specs.SystemView.{HoldsItsTrace, Observes, SystemView, origin_in}

-- its parts are where its events leave them, and the headline holds of those, also after the
-- history of earlier processes
pub record KeepsItsPromises {R L : Type 0} (see : Observes R L) (s : SystemView R L) : Type 0 where
  pub parts : HoldsItsTrace see s
  pub headline : RightOrigin (origin_in see.look s) → Headline (origin_in see.look s) s.events
  pub resumed : (past : Trace) → AllRight past → Resumes past (origin_in see.look s) → HeadlineSince (resumed past (origin_in see.look s)) s.events
