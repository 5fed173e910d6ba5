use Rattle.std.proofs.Common.{◌∙◌, ap}
use Rattle.xa_server.specs.declared.server.Server.{Server}
use Rattle.xa_tm.specs.Calls.{log_in}
use Rattle.xa_commands.proofs.conduct.conduct_over.Goals as goal

pub returns-then-is_strange : goal.returns-then-is_strange
returns-then-is_strange g c =
    let made = c.in_ok-server.ensures in (
      c.in_ok-server.server,
      c.in_ok-conductor.conductor.server,
      c.into_log.ensures ∙ ap (λ (s : Server g.row.L.Denot). log_in s.session.manager) c.into_server.ensures,
      record { stands = made.stands; old = made.old; started = made.started; over = made.over; holds = made.holds },
      c.in_ok-conductor.ensures.acts,
    )

pub returns : goal.returns
returns g c =
    let made = c.in_ok-server.ensures in (
      c.in_ok-server.server,
      c.in_ok-conductor.conductor.server,
      c.into_log-2.ensures ∙ ap (λ (s : Server g.row.L.Denot). log_in s.session.manager) c.into_server-2.ensures,
      record { stands = made.stands; old = made.old; started = made.started; over = made.over; holds = made.holds },
      c.in_ok-conductor.ensures.acts,
    )
