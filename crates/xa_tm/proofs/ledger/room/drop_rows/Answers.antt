use Rattle.std.proofs.Common.{◌∙◌, ap}
use Rattle.xa_tm.specs.Book.{row_without}
use Rattle.xa_tm.specs.LedgerBook.{row_at}
use Rattle.xa_tm.proofs.Maps.ResolveOpen.{room_kept}
use Rattle.xa_tm.proofs.Several.Contents.{without_first}
use Rattle.xa_tm.proofs.ledger.room.drop_rows.Goals as goal

pub drop_each-requires : goal.drop_each-requires
drop_each-requires c = room_kept c.args.map.now c.set_row.new.map c.args.others.now c.set_row.ensures.kept c.requires.1

pub returns : goal.returns
returns c = λ q.
    let gs = c.args.others.now in
    c.drop_each.ensures q ∙ ap (row_without gs q) (c.set_row.ensures.at q) ∙ without_first c.args.first gs q (row_at c.args.map.now q)
