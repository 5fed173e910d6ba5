use Rattle.xa_commands.proofs.stores.shut_in_files.Goals as goal

pub returns-in-Ok : goal.returns-in-Ok
returns-in-Ok g c = (c.in-Ok._files, c.in-Ok.ensures.shut)
