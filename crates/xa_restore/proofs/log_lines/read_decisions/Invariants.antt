use Rattle.std.proofs.Common.{◌≡◌, ◌≤◌, List, map, take}
use Rattle.std.specs.List.{AllByRecursion}
use Rattle.xa_log.specs.Contract.{FitsRow}
use Rattle.xa_log.specs.declared.decision.Decision.{Decision}
use Rattle.xa_names.specs.Lines.{line_renamed}
use Rattle.xa_restore.specs.LogLines.{AreOnce, AreRowsOf, OwnsBranches, Rise, decision_row_line, stated}
use Rattle.xa_restore.proofs.log_lines.read_decisions.Given as goal

abbrev pub invariant-loop-at : goal.invariant-loop-at
invariant-loop-at l = record {
  lines : map (λ line. line_renamed l.name line.now) (take l.at l.lines) ≡ map decision_row_line l.decisions.items;
  own : AllByRecursion OwnsBranches l.decisions.items;
  once : AllByRecursion (λ d. AreOnce d.participants.items) l.decisions.items;
  fits : AllByRecursion (λ d. FitsRow d.gtrid) l.decisions.items;
  started : AllByRecursion (λ d. d.gtrid.incarnation ≤ l.incarnation) l.decisions.items;
  rise : Rise l.decisions.items;
  found : (ds : List Decision) → AreRowsOf l.incarnation ds → map (λ line. line_renamed l.name line.now) l.lines ≡ map decision_row_line ds
      → map stated l.decisions.items ≡ take l.at (map stated ds);
}
