use Rattle.std.proofs.Common.{List, ◌∙◌, ap, sym}
use Rattle.std.proofs.lemmas.List.{nil_from_length}
use Rattle.xa_log.specs.declared.decision.Decision.{Decision}
use Rattle.xa_tm.specs.Book.{row_among}
use Rattle.xa_tm.specs.LedgerBook.{decided_rows, row_at}
use Rattle.xa_tm.proofs.Several.Room.{front_room, last_room, put_last}
use Rattle.xa_tm.proofs.ledger.room.put_rows.Goals as goal

pub put_decision-requires : goal.put_decision-requires
put_decision-requires c =
    last_room c.pop.new.self.items c.in-Some.decision c.loop-decision.decisions.items c.in-Some.ensures.items c.loop-decision.map c.loop-decision.invariant.room

pub loop-decision-preserved : goal.loop-decision-preserved
loop-decision-preserved c =
    let front = c.pop.new.self.items in
    let d = c.in-Some.decision in
    let all = c.loop-decision.decisions.items in
    record {
      room = front_room front d all c.in-Some.ensures.items c.loop-decision.map c.put_decision.new.map c.put_decision.ensures.kept
          c.loop-decision.invariant.room;
      rows = λ q. put_last front d all c.in-Some.ensures.items q _ _ (c.put_decision.ensures.at q) ∙ c.loop-decision.invariant.rows q;
    }

pub returns : goal.returns
returns c = λ q.
    let rest = c.loop-decision.decisions in
    let none = nil_from_length rest.items (sym rest.ok.0 ∙ c.in_default.ensures.cases.0) in
    sym (ap (λ (l : List Decision). row_among (decided_rows l) q (row_at c.loop-decision.map q)) none) ∙ c.loop-decision.invariant.rows q
