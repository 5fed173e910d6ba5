use Rattle.uses.proofs.Decisions.{found_again}
use Rattle.uses.proofs.log.found_again.Goals as goal

-- src/log.rt:11:1
pub returns : goal.returns
returns g c order honest =
    let was_honest = c.contains.ensures.reads.honest honest in
    let in_order = c.commit.ensures.changes.order order in
    found_again _ _ _ _ _ _
    (c.in_ok-_logged.ensures.changes.ok order (c.bump.ensures.changes.honest was_honest))
    (c.in_ok-_incarnation.ensures.changes.ok in_order was_honest)
    (c.contains.ensures.answer (c.bump.ensures.changes.order in_order) honest)
