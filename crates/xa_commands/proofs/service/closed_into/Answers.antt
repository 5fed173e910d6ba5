use Rattle.xa_commands.proofs.service.closed_into.Goals as goal

pub returns-in-Ok : goal.returns-in-Ok
returns-in-Ok g c = (c.in-Ok._files, c.in-Ok.ensures.held)
