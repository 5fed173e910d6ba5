use Rattle.xa_tm.specs.LedgerBook.{as_book}
use Rattle.xa_tm.proofs.Several.Decisions.{all_kept}
use Rattle.xa_tm.proofs.manager.Manager.conclude_done.Goals as goal

pub take_rows-requires-clause-rows : goal.take_rows-requires-clause-rows
take_rows-requires-clause-rows g c = all_kept (as_book c.args.self.now.ledger) c.args.gtrids.now c.requires.may
