use Rattle.std.proofs.Common.{◌≡◌, map, ap, sym, subst, ◌∙◌}
use Rattle.std.specs.FinMap.{from_entries}
use Rattle.xa_log.specs.Content.{nothing}
use Rattle.xa_log.specs.Memory.{IsInOrder, decisions_in, heuristics_in, row_held}
use Rattle.xa_log.proofs.OwnBranches.{order_nothing}
use Rattle.xa_log.proofs.mem_log.MemLog.new.Goals as goal

pub returns-clause-order : goal.returns-clause-order
returns-clause-order c =
    let rows : nothing ≡ record { decisions = decisions_in c.new.result; heuristics = nothing.heuristics; incarnation = 0 } =
    ap (λ es. record { decisions = from_entries (map row_held es); heuristics = nothing.heuristics; incarnation = 0 }) (sym c.new.ensures.empty) in
    let records : record { decisions = decisions_in c.new.result; heuristics = nothing.heuristics; incarnation = 0 }
    ≡ record { decisions = decisions_in c.new.result; heuristics = heuristics_in c.new-2.result; incarnation = 0 } =
    ap (λ es. record { decisions = decisions_in c.new.result; heuristics = from_entries es; incarnation = 0 }) (sym c.new-2.ensures.empty) in
    subst IsInOrder (rows ∙ records) order_nothing
