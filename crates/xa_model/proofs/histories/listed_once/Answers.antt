use Rattle.xa_model.proofs.AgreementLemmas.Distinct.{rows_apart, records_apart, branches_apart, doubt_is_new_to}
use Rattle.xa_model.proofs.Invariant.Preservation.{run_of}
use Rattle.xa_model.proofs.histories.listed_once.Goals as goal

pub returns-clause-rows : goal.returns-clause-rows
returns-clause-rows c tr r h = rows_apart tr (run_of tr r) h

pub returns-clause-records : goal.returns-clause-records
returns-clause-records c tr h = records_apart tr h

pub returns-clause-branches : goal.returns-clause-branches
returns-clause-branches c tr r = branches_apart tr (run_of tr r)

pub returns-clause-doubt : goal.returns-clause-doubt
returns-clause-doubt c tr r = doubt_is_new_to tr (run_of tr r)
