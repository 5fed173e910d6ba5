use Rattle.xa_commands.proofs.stores.restore_in_files.Goals as goal

pub returns-in-Ok-clause-made : goal.returns-in-Ok-clause-made
returns-in-Ok-clause-made g c = λ order clean content is.
    let done = c.in_ok-restore_over.ensures in
    let closed = c.in-Ok.ensures in
    closed.held (done.order order) clean _ (done.made content is order (closed.honest clean))
