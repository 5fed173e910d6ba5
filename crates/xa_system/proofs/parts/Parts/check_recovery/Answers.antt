use Rattle.std.proofs.Common.{◌<◌, length, not, Some, true, sym, ap, ◌∙◌, arith}
use Rattle.std.specs.Prelude.{◌+◌, nat_lt}
use Rattle.std.specs.Option.{option_or}
use Rattle.std.specs.Result.{result_err}
use Rattle.std.proofs.lemmas.Result.{err_from_is_err_and}
use Rattle.xa_line.specs.Grid.{line_at}
use Rattle.xa_base.specs.Opening.{has_closed, has_opened}
use Rattle.xa_line.specs.Traffic.{calls_issued, opening_refusal, room_refusal}
use Rattle.xa_system.specs.Parts.{sees}
use Rattle.xa_system.proofs.Steps.PresentRms.{rm_read}
use Rattle.xa_system.proofs.Steps.RecoveryGoes.{recovery_by_line, recovery_found}
use Rattle.xa_system.proofs.Steps.RecoveryRules.{recovery_why}
use Rattle.xa_system.proofs.parts.Parts.check_recovery.Goals as goal

pub returns-then-not-index : goal.returns-then-not-index
returns-then-not-index g c tr stands =
    let see = sees g.R.ResourceManager.look g.L.DecisionLog.moment in
    let p = c.args.self.now in
    let r = c.args.rm in
    let within : c.args.rm < p.lines.rms = omega (arith, c.if-rm-rms.false, c.rms.ensures.value) in
    let up = sym c.is_up.ensures ∙ c.if-not-is_up.false in
    let found = recovery_found see tr p r c.args.count c.index.result.now stands within (rm_read see tr p r c.index.result.now stands within c.index.ensures) in
    sym (found ∙ λ i. recovery_why true (up i) (c.if-not-index.true i) (not (has_opened (calls_issued (line_at p.lines 0 r))))
    (has_closed (calls_issued (line_at p.lines 0 r))) (nat_lt 64 (length (line_at p.lines 0 r).calls.waiting + c.args.count)))

pub returns-in_err-check_open : goal.returns-in_err-check_open
returns-in_err-check_open g c tr stands =
    let see = sees g.R.ResourceManager.look g.L.DecisionLog.moment in
    let p = c.args.self.now in
    let r = c.args.rm in
    let within : c.args.rm < p.lines.rms = omega (arith, c.if-rm-rms.false, c.rms.ensures.value) in
    let up = sym c.is_up.ensures ∙ c.if-not-is_up.false in
    let by = recovery_by_line see tr p r c.args.count c.index.result.now stands within (rm_read see tr p r c.index.result.now stands within c.index.ensures)
    up c.if-not-index.false in
    let opening = ap (λ l. opening_refusal (calls_issued l)) (sym c.line-line.ensures.value) ∙ sym c.in_err-check_open.ensures in
    let err = err_from_is_err_and c.from_residual.result c.from_residual.ensures.1 in
    ap result_err err.1 ∙ ap (λ n. Some n) err.2 ∙ sym (by ∙ λ i. option_or (opening i) (room_refusal (line_at p.lines 0 r) c.args.count))

pub returns : goal.returns
returns g c tr stands =
    let see = sees g.R.ResourceManager.look g.L.DecisionLog.moment in
    let p = c.args.self.now in
    let r = c.args.rm in
    let within : c.args.rm < p.lines.rms = omega (arith, c.if-rm-rms.false, c.rms.ensures.value) in
    let up = sym c.is_up.ensures ∙ c.if-not-is_up.false in
    let by = recovery_by_line see tr p r c.args.count c.index.result.now stands within (rm_read see tr p r c.index.result.now stands within c.index.ensures)
    up c.if-not-index.false in
    let opening = ap (λ l. opening_refusal (calls_issued l)) (sym c.line-line.ensures.value) ∙ sym c.in_ok-check_open.ensures in
    c.check_room.ensures ∙ ap (λ l. room_refusal l c.args.count) c.line-line.ensures.value
    ∙ sym (by ∙ λ i. option_or (opening i) (room_refusal (line_at p.lines 0 r) c.args.count))
