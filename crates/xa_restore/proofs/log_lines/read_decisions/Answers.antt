use Rattle.std.proofs.Common.{◌≡◌, ◌∙◌, ℕ, List, ap, arith, get_or, subst, sym}
use Rattle.std.proofs.lemmas.Grind.{common_steps}
use Rattle.std.specs.Prelude.{IfNone, None}
use Rattle.std.specs.Borrow.{Bor}
use Rattle.xa_names.specs.Lines.{line_renamed}
use Rattle.xa_restore.proofs.DecisionLemmas.{same_gtrid}
use Rattle.xa_restore.proofs.LineLemmas.{first_wrong, next_row, no_fault, rise_more, rows_more, wrong_row}
use Rattle.xa_restore.specs.LogLines.{StandsBehind, decision_row_line, last_behind}
use Rattle.xa_restore.specs.declared.faults.LineFault.TheVariants as Faults
use Rattle.xa_restore.proofs.log_lines.read_decisions.Goals as goal

pub loop-at-preserved : goal.loop-at-preserved
loop-at-preserved c = record {
  lines = grind (arith, common_steps);
  own = grind (arith, common_steps);
  once = grind (arith, common_steps);
  fits = grind (arith, common_steps);
  started = grind (arith, common_steps);
  rise = rise_more c.loop-at.decisions.items c.push.new.self.items c.in-Some.decision c.last_gtrid-last.result c.loop-at.invariant.rise
      (c.last_gtrid-last.ensures ∙ ap (last_behind None) c.deref.ensures.value)
      (subst (λ r. IfNone r (StandsBehind c.last_gtrid-last.result c.in-Some.decision.gtrid)) c.in_default-fault_of.is c.fault_of.ensures.behind)
      c.in_ok-push.ensures.items;
  found = λ ds rows same.
      let got = c.loop-at.invariant.found ds rows same in
      let next = next_row (λ (line : Bor (List ℕ)). line_renamed c.args.name.now line.now) c.args.incarnation c.args.lines.now ds
      c.loop-at.decisions.items c.loop-at.at _ rows same got (omega arith) in
      let read = rw c.in-Some.is at (c.in_ok-decision.ensures.found next.row next.is (c.as_str.ensures.value ∙ c.in_ok-meant.ensures ∙ next.line_is)) in
      rows_more ds c.loop-at.decisions.items c.push.new.self.items c.loop-at.at _ c.args.incarnation c.in-Some.decision next got read
      c.in_ok-push.ensures.items;
}

pub returns-in_default-clause-taken : goal.returns-in_default-clause-taken
returns-in_default-clause-taken c = λ ds rows same.
    let next = next_row (λ (line : Bor (List ℕ)). line_renamed c.args.name.now line.now) c.args.incarnation c.args.lines.now ds c.loop-at.decisions.items
    c.loop-at.at _ rows same (c.loop-at.invariant.found ds rows same) (omega arith) in
    let read = rw c.in_default.is at (c.in_ok-decision.ensures.found next.row next.is (c.as_str.ensures.value ∙ c.in_ok-meant.ensures ∙ next.line_is)) in
    absurd read

pub returns-in-Some-fault_of-clause-taken : goal.returns-in-Some-fault_of-clause-taken
returns-in-Some-fault_of-clause-taken c = λ ds rows same.
    let next = next_row (λ (line : Bor (List ℕ)). line_renamed c.args.name.now line.now) c.args.incarnation c.args.lines.now ds c.loop-at.decisions.items
    c.loop-at.at _ rows same (c.loop-at.invariant.found ds rows same) (omega arith) in
    let read = rw c.in-Some.is at (c.in_ok-decision.ensures.found next.row next.is (c.as_str.ensures.value ∙ c.in_ok-meant.ensures ∙ next.line_is)) in
    let last = c.last_gtrid-last.ensures ∙ ap (last_behind None) c.deref.ensures.value in
    absurd (no_fault c.fault_of.result c.in-Some-fault_of.fault next.row c.in-Some.decision.gtrid c.last_gtrid-last.result c.args.incarnation
    c.in-Some-fault_of.is (same_gtrid next.row c.in-Some.decision read) c.fault_of.ensures.kind c.fault_of.ensures.later c.fault_of.ensures.order
    next.started (subst (λ l. StandsBehind l next.row.gtrid) (sym last) next.behind))

pub returns-in_default-clause-fault : goal.returns-in_default-clause-fault
returns-in_default-clause-fault c =
    first_wrong c.args.name.now c.args.incarnation c.args.lines.now c.loop-at.decisions.items c.loop-at.at _ Faults.Decision c.loop-at.invariant.lines
    c.loop-at.invariant.started c.loop-at.invariant.rise (omega arith) (λ d row same.
    absurd (rw c.in_default.is at (c.in_ok-decision.ensures.found d row (c.as_str.ensures.value ∙ c.in_ok-meant.ensures ∙ same))))

pub returns-in-Some-fault_of-clause-fault : goal.returns-in-Some-fault_of-clause-fault
returns-in-Some-fault_of-clause-fault c =
    let is : line_renamed c.args.name.now (get_or c.args.lines.now c.loop-at.at _).now ≡ decision_row_line c.in-Some.decision =
    sym c.in_ok-meant.ensures ∙ sym c.as_str.ensures.value ∙ rw c.in-Some.is at c.in_ok-decision.ensures.line in
    let last = c.last_gtrid-last.ensures ∙ ap (last_behind None) c.deref.ensures.value in
    first_wrong c.args.name.now c.args.incarnation c.args.lines.now c.loop-at.decisions.items c.loop-at.at _ c.in-Some-fault_of.fault
    c.loop-at.invariant.lines c.loop-at.invariant.started c.loop-at.invariant.rise (omega arith)
    (wrong_row c.args.name.now c.args.incarnation c.loop-at.decisions.items _ c.in-Some.decision c.fault_of.result c.in-Some-fault_of.fault
    c.last_gtrid-last.result is c.in-Some-fault_of.is c.fault_of.ensures.kind c.fault_of.ensures.later c.fault_of.ensures.order last)
