use Rattle.std.proofs.Common.{◌≡◌, ◌+◌, ◌∙◌, ap, arith, length, subst, sym}
use Rattle.xa_tm.specs.LedgerBook.{HaveRoom, as_book, gtrids_of}
use Rattle.xa_tm.specs.declared.ledger.Ledger.{Ledger}
use Rattle.xa_tm.proofs.Several.Decisions.{decisions_few, decisions_name, note_steps}
use Rattle.xa_tm.proofs.ledger.Ledger.note_decisions.Goals as goal

pub overflow_add-self : goal.overflow_add-self
overflow_add-self c =
    let few = decisions_few (as_book c.args.self.now) c.args.outcome c.args.gtrids.now c.args.decisions.items c.requires.all in
    let same : c.decided_all.new.self.row_count ≡ c.args.self.now.row_count = ap (λ (k : Ledger). k.row_count) c.decided_all.ensures.others in
    let long : c.len.result ≡ length c.args.decisions.items = c.len.ensures ∙ c.args.decisions.ok.0 in
    omega (arith, few, same, long, c.requires.number)

pub put_rows-requires : goal.put_rows-requires
put_rows-requires c =
    subst (λ (k : Ledger). HaveRoom k.rows (gtrids_of c.args.decisions.items)) (sym c.decided_all.ensures.others)
    (subst (HaveRoom c.args.self.now.rows)
    (sym (decisions_name (as_book c.args.self.now) c.args.outcome c.args.gtrids.now c.args.decisions.items c.requires.all)) c.requires.room.rows)

pub returns : goal.returns
returns c =
    let b = c.decided_all.new.self in
    let long : c.len.result ≡ length c.args.decisions.items = c.len.ensures ∙ c.args.decisions.ok.0 in
    note_steps c.args.self.now b (record b { rows = c.put_rows.new.map; row_count = b.row_count + c.len.result }) c.args.outcome c.args.gtrids.now
    c.args.decisions.items c.decided_all.ensures.others c.decided_all.ensures.transactions
    (λ i. record b { rows = c.put_rows.new.map; row_count = b.row_count + long i }) c.put_rows.ensures c.requires.all
