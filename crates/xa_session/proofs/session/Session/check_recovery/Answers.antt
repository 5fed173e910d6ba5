use Rattle.std.proofs.Common.{◌∙◌, Some, None, ap, sym}
use Rattle.std.specs.Prelude.{if◌then◌else◌}
use Rattle.std.specs.Option.{option_or}
use Rattle.std.specs.Result.{result_err}
use Rattle.std.proofs.lemmas.Result.{err_from_is_err_and}
use Rattle.xa_base.specs.declared.refusal.Refusal.TheVariants.{Busy}
use Rattle.xa_line.specs.Grid.{line_at}
use Rattle.xa_line.specs.Traffic.{calls_issued, opening_refusal, room_refusal}
use Rattle.xa_session.specs.Session.{awaits_page}
use Rattle.xa_session.proofs.Lines.{recovery_rule}
use Rattle.xa_session.proofs.session.Session.check_recovery.Goals as goal

pub returns-in_err-check_open : goal.returns-in_err-check_open
returns-in_err-check_open g c =
    let s = c.args.self.now in
    let r = c.args.rm in
    let n = c.args.count in
    let at = line_at s.lines 0 r in
    let line = sym c.in_ok-check_line.ensures in
    let opening = ap (λ l. opening_refusal (calls_issued l)) (sym c.line-line.ensures.value) ∙ sym c.in_err-check_open.ensures in
    let err = err_from_is_err_and c.from_residual-in_err-check_open.result c.from_residual-in_err-check_open.ensures.1 in
    ap result_err err.1 ∙ ap (λ n. Some n) err.2
    ∙ sym (recovery_rule s r n
    ∙ λ i. option_or (line i) (option_or (opening i) (option_or (if awaits_page at then Some Busy else None) (room_refusal at n))))

pub returns-then-awaits_page : goal.returns-then-awaits_page
returns-then-awaits_page g c =
    let s = c.args.self.now in
    let r = c.args.rm in
    let n = c.args.count in
    let at = line_at s.lines 0 r in
    let line = sym c.in_ok-check_line.ensures in
    let opening = ap (λ l. opening_refusal (calls_issued l)) (sym c.line-line.ensures.value) ∙ sym c.in_ok-check_open.ensures in
    let awaits = ap awaits_page (sym c.line-line.ensures.value) ∙ sym c.awaits_page.ensures ∙ c.if-awaits_page.true in
    sym (recovery_rule s r n
    ∙ λ i. option_or (line i) (option_or (opening i) (option_or (if awaits i then Some Busy else None) (room_refusal at n))))

pub returns : goal.returns
returns g c =
    let s = c.args.self.now in
    let r = c.args.rm in
    let n = c.args.count in
    let at = line_at s.lines 0 r in
    let line = sym c.in_ok-check_line.ensures in
    let opening = ap (λ l. opening_refusal (calls_issued l)) (sym c.line-line.ensures.value) ∙ sym c.in_ok-check_open.ensures in
    let awaits = ap awaits_page (sym c.line-line.ensures.value) ∙ sym c.awaits_page.ensures ∙ c.if-awaits_page.false in
    c.check_room.ensures ∙ ap (λ l. room_refusal l n) c.line-line.ensures.value
    ∙ sym (recovery_rule s r n
    ∙ λ i. option_or (line i) (option_or (opening i) (option_or (if awaits i then Some Busy else None) (room_refusal at n))))
