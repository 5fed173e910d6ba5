use Rattle.xa_commands.proofs.service.serve_in_files.Goals as goal

pub returns-in-Ok-clause-ended : goal.returns-in-Ok-clause-ended
returns-in-Ok-clause-ended g c = (c.in-Ok.left, c.in-Ok.ensures.ended, c.end_in_files.ensures)
