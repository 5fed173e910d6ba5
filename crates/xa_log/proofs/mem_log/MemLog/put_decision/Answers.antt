use Rattle.std.proofs.Common.{◌≡◌, true, false, cond, sym, ap, ◌∙◌}
use Rattle.std.specs.FinMap.{contains_key, insert}
use Rattle.xa_log.specs.KeySet.{from_list}
use Rattle.xa_log.specs.Content.{with_decision}
use Rattle.xa_log.specs.Memory.{content_held, decisions_in}
use Rattle.xa_log.specs.declared.decision_log.Logged.TheVariants.{New, Already}
use Rattle.xa_log.proofs.HeldRows.{has_row, put_row}
use Rattle.xa_log.proofs.mem_log.MemLog.put_decision.Goals as goal

pub returns-then-contains_key-clause-answer : goal.returns-then-contains_key-clause-answer
returns-then-contains_key-clause-answer c =
    let there : contains_key (decisions_in c.args.self.now.decisions) c.args.g ≡ true =
    has_row c.args.self.now.decisions c.args.g ∙ sym c.contains_key.ensures ∙ c.if-contains_key.true in
    sym (ap (λ b. cond b Already New) there)

pub returns-then-contains_key-clause-ok : goal.returns-then-contains_key-clause-ok
returns-then-contains_key-clause-ok c =
    let there : contains_key (decisions_in c.args.self.now.decisions) c.args.g ≡ true =
    has_row c.args.self.now.decisions c.args.g ∙ sym c.contains_key.ensures ∙ c.if-contains_key.true in
    let held = content_held c.args.self.now in
    sym (ap (λ b. cond b held (with_decision c.args.g (from_list c.args.participants.now) held)) there)

pub returns-clause-answer : goal.returns-clause-answer
returns-clause-answer c =
    let absent : contains_key (decisions_in c.args.self.now.decisions) c.args.g ≡ false =
    has_row c.args.self.now.decisions c.args.g ∙ sym c.contains_key.ensures ∙ c.if-contains_key.false in
    sym (ap (λ b. cond b Already New) absent)

pub returns-clause-ok : goal.returns-clause-ok
returns-clause-ok c =
    let absent : contains_key (decisions_in c.args.self.now.decisions) c.args.g ≡ false =
    has_row c.args.self.now.decisions c.args.g ∙ sym c.contains_key.ensures ∙ c.if-contains_key.false in
    let held = content_held c.args.self.now in
    ap (λ rows. record held { decisions = rows })
    (put_row c.args.self.now.decisions c.insert.new.self c.args.g c.in_ok-waited_for.waited_for c.in_ok-insert.ensures.updates.0
    ∙ ap (insert (decisions_in c.args.self.now.decisions) c.args.g) c.in_ok-waited_for.ensures)
    ∙ sym (ap (λ b. cond b held (with_decision c.args.g (from_list c.args.participants.now) held)) absent)
