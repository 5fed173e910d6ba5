use Rattle.std.proofs.Common.{◌≡◌, ℕ, ◌+◌, ◌-◌, List, length, ap, arith, subst, sym}
use Rattle.std.proofs.lemmas.List.{length-map}
use Rattle.std.specs.Borrow.{Bor}
use Rattle.std.proofs.lemmas.Grind.{common_steps}
use Rattle.xa_names.proofs.KeptNamesLemmas.{apart, same as same_text}
use Rattle.xa_restore.specs.LogLines.{AreRowsOf}
use Rattle.xa_restore.proofs.LineLemmas.{end_is, lines_are, log_fault, no_incarnation, stand}
use Rattle.xa_restore.proofs.log_lines.read_log.Goals as goal

pub returns-clause-lines : goal.returns-clause-lines
returns-clause-lines c =
    lines_are c.args.lines.now _ _ c.args.name.now c.in-Some.incarnation c.in_ok-decisions.decisions.items (omega arith)
    (rw c.in-Some.is at c.in_ok-incarnation.ensures.line) (same_text _ _ c.if-ne.ensures) c.in_ok-decisions.ensures.lines

pub returns-in_default-2-clause-taken : goal.returns-in_default-2-clause-taken
returns-in_default-2-clause-taken c = λ n ds most rows are.
    let lines = stand c.args.lines.now c.args.name.now n ds are in
    absurd (c.in_default-2.not-Some n (c.in_ok-incarnation.ensures.found n most (lines.first _)))

pub returns-in_err-decisions-clause-taken : goal.returns-in_err-decisions-clause-taken
returns-in_err-decisions-clause-taken c = λ n ds most rows are.
    let lines = stand c.args.lines.now c.args.name.now n ds are in
    let read = c.in_ok-incarnation.ensures.found n most (lines.first _) in
    let same : c.in-Some.incarnation ≡ n = cc in
    let taken = c.in_err-decisions.ensures.taken ds (subst (λ k. AreRowsOf k ds) (sym same) rows) lines.rows in
    grind (arith, common_steps, taken)

pub returns-then-ne-clause-taken : goal.returns-then-ne-clause-taken
returns-then-ne-clause-taken c = λ n ds most rows are.
    let lines = stand c.args.lines.now c.args.name.now n ds are in
    absurd (apart _ _ c.if-ne.ensures (lines.last _))

pub returns-clause-found : goal.returns-clause-found
returns-clause-found c = λ n ds most rows are.
    let lines = stand c.args.lines.now c.args.name.now n ds are in
    let read = c.in_ok-incarnation.ensures.found n most (lines.first _) in
    let same : c.in-Some.incarnation ≡ n = cc in
    (same, c.in_ok-decisions.ensures.found ds (subst (λ k. AreRowsOf k ds) (sym same) rows) lines.rows)

pub returns-in_default-clause-fault : goal.returns-in_default-clause-fault
returns-in_default-clause-fault c = (
  ap (λ n. n + 1) (sym (length-map c.args.lines.now (λ (line : Bor (List ℕ)). line.now))),
  (λ first rows is. let there = end_is c.args.lines.now first rows is in absurd (omega arith)),
)

pub returns-in_default-2-clause-fault : goal.returns-in_default-2-clause-fault
returns-in_default-2-clause-fault c =
    no_incarnation c.args.name.now c.args.lines.now _ (omega arith) (λ n most is. absurd (c.in_default-2.not-Some n (c.in_ok-incarnation.ensures.found n most is)))

pub returns-in_err-decisions-clause-fault : goal.returns-in_err-decisions-clause-fault
returns-in_err-decisions-clause-fault c =
    let wrong = log_fault c.args.name.now c.in-Some.incarnation ((length c.args.lines.now - 1) - 1) c.args.lines.now _ c.in_err-decisions.field-0.0
    (omega arith) (rw c.in-Some.is at c.in_ok-incarnation.ensures.line) c.in_err-decisions.ensures.fault in
    grind (arith, common_steps, wrong)

pub returns-then-ne-clause-fault : goal.returns-then-ne-clause-fault
returns-then-ne-clause-fault c = (
  ap (λ n. n + 1) (sym (length-map c.args.lines.now (λ (line : Bor (List ℕ)). line.now))),
  (λ first rows is. let there = end_is c.args.lines.now first rows is in absurd (apart _ _ c.if-ne.ensures (there.1 _))),
)
