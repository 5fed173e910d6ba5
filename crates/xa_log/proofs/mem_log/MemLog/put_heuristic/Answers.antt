use Rattle.std.proofs.Common.{◌≡◌, true, false, cond, sym, ap, ◌∙◌}
use Rattle.std.specs.FinMap.{contains_key}
use Rattle.xa_log.specs.Content.{with_heuristic}
use Rattle.xa_log.specs.Memory.{content_held, heuristics_in}
use Rattle.xa_log.proofs.HeldRows.{has_record, put_record}
use Rattle.xa_log.proofs.mem_log.MemLog.put_heuristic.Goals as goal

pub returns-in_ok-insert-clause-ok : goal.returns-in_ok-insert-clause-ok
returns-in_ok-insert-clause-ok c =
    let absent : contains_key (heuristics_in c.args.self.now.heuristics) c.args.b ≡ false =
    has_record c.args.self.now.heuristics c.args.b ∙ sym c.contains_key.ensures ∙ c.if-not-contains_key.true in
    let held = content_held c.args.self.now in
    ap (λ rows. record held { heuristics = rows })
    (put_record c.args.self.now.heuristics c.insert.new.self c.args.b c.args.how c.in_ok-insert.ensures.updates.0)
    ∙ sym (ap (λ t. cond t held (with_heuristic c.args.b c.args.how held)) absent)

pub returns-else-not-contains_key-clause-ok : goal.returns-else-not-contains_key-clause-ok
returns-else-not-contains_key-clause-ok c =
    let there : contains_key (heuristics_in c.args.self.now.heuristics) c.args.b ≡ true =
    has_record c.args.self.now.heuristics c.args.b ∙ sym c.contains_key.ensures ∙ c.if-not-contains_key.false in
    let held = content_held c.args.self.now in
    sym (ap (λ t. cond t held (with_heuristic c.args.b c.args.how held)) there)
