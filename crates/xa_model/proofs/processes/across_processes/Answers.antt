use Rattle.xa_model.proofs.AgreementLemmas.Alike.{own_alike}
use Rattle.xa_model.proofs.AgreementLemmas.Since.{headline_since}
use Rattle.xa_model.proofs.ProcessLemmas.Joining.{gone_right, joined_faces, of_processes_right, resumes_both}
use Rattle.xa_model.proofs.ProcessLemmas.Leaving.{next_resumes}
use Rattle.xa_model.proofs.RecoveryLemmas.RecoveredNext.{next_recovers}
use Rattle.xa_model.proofs.processes.across_processes.Goals as goal

pub returns-clause-right : goal.returns-clause-right
returns-clause-right c past o events p = (joined_faces past o events p.right p.resumes p.allowed).0

pub returns-clause-headline : goal.returns-clause-headline
returns-clause-headline c past o events p = headline_since _ events (joined_faces past o events p.right p.resumes p.allowed).0

pub returns-clause-passes_on : goal.returns-clause-passes_on
returns-clause-passes_on c past o events next p n =
    resumes_both _ _ _ next (gone_right past p.right) (joined_faces past o events p.right p.resumes p.allowed).1 n

pub returns-clause-all : goal.returns-clause-all
returns-clause-all c whole p = of_processes_right whole p

pub returns-clause-left : goal.returns-clause-left
returns-clause-left c past i rows records n l k = next_resumes past i rows records n l k

pub returns-clause-own : goal.returns-clause-own
returns-clause-own c tr r = own_alike tr r

pub returns-clause-recovers : goal.returns-clause-recovers
returns-clause-recovers c past o events r count names answers p l f m e =
    next_recovers past o events r count names answers p.right p.resumes l f p.allowed m e
