use Rattle.xa_model.proofs.Invariant.AtEachMoment.{commit_has_row, rollback_has_no_row, no_start_after_commit, rows_were_prepared, settled_is_over, fresh_gtrids, handed_over_alone, claimed_is_prepared}
use Rattle.xa_model.proofs.Invariant.Preservation.{always, run_of}
use Rattle.xa_model.proofs.headline.agreement_invariant.Goals as goal

pub returns-clause-commit_has_row : goal.returns-clause-commit_has_row
returns-clause-commit_has_row c tr r = commit_has_row tr (always tr r)

pub returns-clause-rollback_has_no_row : goal.returns-clause-rollback_has_no_row
returns-clause-rollback_has_no_row c tr r = rollback_has_no_row tr (always tr r)

pub returns-clause-no_start_after_commit : goal.returns-clause-no_start_after_commit
returns-clause-no_start_after_commit c tr r = no_start_after_commit tr (always tr r)

pub returns-clause-rows_were_prepared : goal.returns-clause-rows_were_prepared
returns-clause-rows_were_prepared c tr r = rows_were_prepared tr (always tr r)

pub returns-clause-settled_is_over : goal.returns-clause-settled_is_over
returns-clause-settled_is_over c tr r = settled_is_over tr (always tr r)

pub returns-clause-fresh_gtrids : goal.returns-clause-fresh_gtrids
returns-clause-fresh_gtrids c tr r = fresh_gtrids tr (always tr r)

pub returns-clause-handed_over_alone : goal.returns-clause-handed_over_alone
returns-clause-handed_over_alone c tr r = handed_over_alone tr (run_of tr r) (always tr r)

pub returns-clause-claimed_is_prepared : goal.returns-clause-claimed_is_prepared
returns-clause-claimed_is_prepared c tr r = claimed_is_prepared tr (always tr r)
