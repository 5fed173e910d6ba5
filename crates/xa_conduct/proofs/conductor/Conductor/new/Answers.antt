use Rattle.std.proofs.Common.{List, ap, subst, sym}
use Rattle.std.specs.Prelude.{All}
use Rattle.xa_conduct.proofs.ConductLemmas.{begins_conducting}
use Rattle.xa_conduct.specs.AtRest.{IsAtRest}
use Rattle.xa_conduct.specs.Backing.{TransactionRests}
use Rattle.xa_conduct.specs.declared.transaction.Transaction.{Transaction}
use Rattle.xa_conduct.proofs.conductor.Conductor.new.Goals as goal

pub returns-clause-rests : goal.returns-clause-rests
returns-clause-rests g c = λ done first acts.
    begins_conducting g.L.DecisionLog.moment first c.args.server done _ c.find_rows.ensures.acts
    (λ asked. subst (All (TransactionRests asked)) (sym (ap (λ v. v.items) c.find_rows.ensures.kept)) (c.in_ok-notes.ensures.rests asked)) acts

pub returns-clause-at_rest : goal.returns-clause-at_rest
returns-clause-at_rest g c =
    subst (λ (ts : List Transaction). All IsAtRest ts) (sym (ap (λ v. v.items) c.find_rows.ensures.kept)) c.in_ok-notes.ensures.at_rest
