use Rattle.std.proofs.Common.{◌<◌, ◌≤◌, ◌∙◌, Some, None, ap, arith, length, refl, sym, take}
use Rattle.std.proofs.lemmas.Result.{err_from_is_err_and}
use Rattle.std.specs.Result.{result_err}
use Rattle.xa_base.specs.declared.step.Step.TheVariants as Steps
use Rattle.xa_model.specs.Trace.{Happening.Done}
use Rattle.xa_tm.specs.LedgerBook.{as_book}
use Rattle.xa_tm.proofs.Several.Refusals.{done_again, done_once, in_turn, turn_end, turn_named, turn_refused}
use Rattle.xa_tm.proofs.ledger.Ledger.check_done_all.Goals as goal

pub returns-then-is_named : goal.returns-then-is_named
returns-then-is_named c =
    let k = as_book c.args.self.now in
    let gs = c.args.gtrids.now in
    let low : c.loop-i.i < length gs = omega arith in
    ap (λ n. Some n) c.refusal_without_row.ensures ∙ sym (turn_named (λ g. Steps.Done g) done_again k gs c.loop-i.i _ low (sym c.if-is_named.ensures))
    ∙ c.loop-i.invariant
    ∙ sym (in_turn (λ g. Steps.Done g) (λ g. Done g) done_again k (done_once) (λ l g h. refl) gs)

pub returns-in_err-check_done : goal.returns-in_err-check_done
returns-in_err-check_done c =
    let k = as_book c.args.self.now in
    let gs = c.args.gtrids.now in
    let low : c.loop-i.i < length gs = omega arith in
    let p = err_from_is_err_and c.from_residual.result c.from_residual.ensures.1 in
    ap result_err p.1 ∙ ap (λ n. Some n) p.2
    ∙ sym (turn_refused (λ g. Steps.Done g) done_again k gs c.loop-i.i _ low _ (sym c.if-is_named.ensures) (sym c.in_err-check_done.ensures))
    ∙ c.loop-i.invariant
    ∙ sym (in_turn (λ g. Steps.Done g) (λ g. Done g) done_again k (done_once) (λ l g h. refl) gs)

pub loop-i-preserved : goal.loop-i-preserved
loop-i-preserved c =
    let k = as_book c.args.self.now in
    let gs = c.args.gtrids.now in
    let low : c.loop-i.i < length gs = omega arith in
    sym (turn_refused (λ g. Steps.Done g) done_again k gs c.loop-i.i _ low None (sym c.if-is_named.ensures) (sym c.in_ok-check_done.ensures))
    ∙ c.loop-i.invariant

pub returns : goal.returns
returns c =
    let k = as_book c.args.self.now in
    let gs = c.args.gtrids.now in
    let past : length gs ≤ c.loop-i.i = omega arith in
    sym (turn_end (λ g. Steps.Done g) done_again k gs (take c.loop-i.i gs) c.loop-i.i past) ∙ c.loop-i.invariant
    ∙ sym (in_turn (λ g. Steps.Done g) (λ g. Done g) done_again k (done_once) (λ l g h. refl) gs)
