use Rattle.std.proofs.Common.{◌∙◌, subst, sym}
use Rattle.std.proofs.lemmas.Bool.{true≢false}
use Rattle.xa_log.specs.Contract.{FitsRow}
use Rattle.xa_restore.proofs.DecisionLemmas.{same_gtrid}
use Rattle.xa_restore.proofs.decision_line.read_decision.Goals as goal

pub returns-in_default-clause-found : goal.returns-in_default-clause-found
returns-in_default-clause-found c = λ d row is.
    let none = rw c.in_default.is at (c.in_ok-decision.ensures.found d row is) in
    absurd none

pub returns-then-not-fits_row-clause-found : goal.returns-then-not-fits_row-clause-found
returns-then-not-fits_row-clause-found c = λ d row is.
    let same = rw c.in-Some.is at (c.in_ok-decision.ensures.found d row is) in
    let yes = c.fits_row.ensures.1 (subst FitsRow (same_gtrid d c.in-Some.decision same) row.fits) in
    absurd (true≢false (sym yes ∙ c.if-not-fits_row.true))

pub returns-then-is_written-clause-found : goal.returns-then-is_written-clause-found
returns-then-is_written-clause-found c = λ d row is. rw c.in-Some.is at (c.in_ok-decision.ensures.found d row is)
