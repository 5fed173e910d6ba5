use Rattle.std.proofs.Common.{◌≡◌, map, take}
use Rattle.std.specs.List.{AllByRecursion}
use Rattle.xa_tm.specs.Book.{rows_for}
use Rattle.xa_tm.specs.Calls.{written_by}
use Rattle.xa_tm.specs.LedgerBook.{HasRoomForDecisions, NamesOwn, as_book, decided_row}
use Rattle.xa_tm.proofs.ledger.Ledger.prepare_decisions.Given as goal

abbrev pub invariant-loop-g : goal.invariant-loop-g
invariant-loop-g l = record {
  book : as_book l.self ≡ as_book l.fn.self;
  room : HasRoomForDecisions (take l.g-index l.gtrids) (written_by l.outcome (as_book l.fn.self) (take l.g-index l.gtrids)) l.self;
  all : map decided_row l.decisions.items ≡ rows_for (as_book l.fn.self) (written_by l.outcome (as_book l.fn.self) (take l.g-index l.gtrids));
  own : AllByRecursion NamesOwn l.decisions.items;
}
