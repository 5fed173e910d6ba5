use Rattle.std.proofs.Common.{◌≡◌, true, false, ◌&&◌, Some, sym, ap, ◌∙◌}
use Rattle.xa_tm.specs.LedgerBook.{transaction_at}
use Rattle.xa_tm.specs.Outcomes.{is_commit}
use Rattle.xa_tm.specs.declared.notes.Transaction.{Transaction}
use Rattle.xa_tm.proofs.Several.InTurn.{room_of_one, rooms_of_one}
use Rattle.xa_tm.proofs.ledger.Ledger.prepare_decision.Goals as goal

pub returns-then-adds_row-clause-room : goal.returns-then-adds_row-clause-room
returns-then-adds_row-clause-room c =
    let was = c.args.self.now in
    let mid = c.reserve_transaction.new.self in
    let is : (is_commit (Some c.args.outcome) && (transaction_at was.transactions c.args.g).has_yes) ≡ true =
    ap (λ (x : Transaction). is_commit (Some c.args.outcome) && x.has_yes) (sym (c.transaction.ensures ∙ c.reserve_transaction.ensures.same c.args.g))
    ∙ sym c.if-adds_row.ensures in
    room_of_one c.args.g c.prepare_row.result _ was mid c.prepare_row.new.self is c.in_ok-reserve_transaction.ensures.room
    c.reserve_transaction.ensures.kept c.reserve_transaction.ensures.others c.prepare_row.ensures.others c.prepare_row.ensures.room c.prepare_row.ensures.kept

pub returns-else-adds_row-clause-room : goal.returns-else-adds_row-clause-room
returns-else-adds_row-clause-room c =
    let was = c.args.self.now in
    let mid = c.reserve_transaction.new.self in
    let is : (is_commit (Some c.args.outcome) && (transaction_at was.transactions c.args.g).has_yes) ≡ false =
    ap (λ (x : Transaction). is_commit (Some c.args.outcome) && x.has_yes) (sym (c.transaction.ensures ∙ c.reserve_transaction.ensures.same c.args.g))
    ∙ sym c.if-adds_row.ensures in
    rooms_of_one c.args.g _ was mid is c.in_ok-reserve_transaction.ensures.room c.reserve_transaction.ensures.kept c.reserve_transaction.ensures.others
