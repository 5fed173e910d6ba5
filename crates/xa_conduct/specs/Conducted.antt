-- A conducted session is one of those of which the theorems over sessions of drivers speak (`AreServed`).
use Rattle.std.specs.Prelude.{◌≡◌, ℕ, false, List, []}
use Rattle.std.specs.List.{list_any}
use Rattle.xa_log.specs.Contract.{Moment}
use Rattle.xa_model.specs.Trace.{Origin}
use Rattle.xa_monitor.specs.Seen.{Seen, Seen.Start}
use Rattle.xa_server.specs.NamedLines.{lines_read}
use Rattle.xa_server.specs.Sessions.{IsSession, StartsOver}
use Rattle.xa_server.specs.Telling.{HaveTold, is_log_fault}
use Rattle.xa_server.specs.declared.server.Server.{Server}
use Rattle.xa_tm.specs.Begins.{BeginsWith}
use Rattle.xa_conduct.specs.Acting.{Acts, GoesOn}

-- What a conductor did with a server that started over a log is a session of a driver: the lines that ask for its requests, and their
-- replies, as long as the log didn't fail. Of a manager of a name it is one of whatever lines this manager means so; without a name those
-- are the lines themselves.
abbrev pub ConductedSessionsAreServed : {L : Type 0} → (L → Moment) → Type 0
ConductedSessionsAreServed {L} moment =
    (threads rms : ℕ) (handed : L) (first now : Server L) → StartsOver moment threads rms handed first → GoesOn moment first now
    → (acts : Acts moment [] first now) × (lines_read [] acts.lines ≡ acts.lines)
    × ((name : List ℕ) (lines : List (List ℕ)) → lines_read name lines ≡ acts.lines → list_any is_log_fault acts.replies ≡ false
    → (o : Origin) → BeginsWith threads rms first.session.manager o
    → (seen : Seen) × HaveTold o.threads (lines_read name lines) acts.replies Start seen × IsSession moment name handed o seen now)
