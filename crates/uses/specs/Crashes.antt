-- What a crash left of a system's log.
use Rattle.std.specs.Prelude.{◌≡◌, false, Some, None}
use Rattle.xa_log.specs.Content.{Content}
use Rattle.xa_model.specs.Facts.{up}
use Rattle.xa_system.specs.SystemView.{MayRestartAfterCrash, Observes, SystemView, trace_in}
use Rattle.xa_tm.specs.Slots.{log_held}

-- The manager is down, and its log is out: it was in order as it was handed in, and honest as it
-- came out, and a restart may follow over each content that a crash may leave of it. This log is in
-- order, and has such a content.
pub record IsLeftByCrash {R L : Type 0} (see : Observes R L) (s : SystemView R L) (left : L) (c : Content) : Type 0 where
  pub down : up (trace_in see.look s) ≡ false
  pub out : log_held s.log ≡ None
  pub was_in_order : (see.moment s.handed).is_in_order
  pub was_honest : (see.place s.log).is_honest
  pub near : MayRestartAfterCrash see s
  pub leaves : (see.place s.log).may_leave c
  pub order : (see.moment left).is_in_order
  pub content : (see.moment left).content ≡ Some c
