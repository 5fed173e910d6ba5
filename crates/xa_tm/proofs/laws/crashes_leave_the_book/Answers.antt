use Rattle.xa_tm.proofs.Log.Leaves.{left_by_a_crash, left_by_a_fault, left_by_a_restart, left_while_up}
use Rattle.xa_tm.proofs.laws.crashes_leave_the_book.Goals as goal

pub returns-clause-up : goal.returns-clause-up
returns-clause-up g c =
    λ near k log up order tied. left_while_up near k (g.L.DecisionLog.moment log).content (g.L.DecisionLog.moment log).may_leave up tied
    (λ b d is left. g.met.L.DecisionLog.durable log b d order is left)

pub returns-clause-fault : goal.returns-clause-fault
returns-clause-fault g c = λ near k asked f old new up of same order tied leaves.
    left_by_a_fault near k asked f (g.L.DecisionLog.moment old).content (g.L.DecisionLog.moment old).may_leave
    (g.L.DecisionLog.moment new).may_leave up of same tied (λ b d is left. g.met.L.DecisionLog.durable old b d order is left) leaves

pub returns-clause-restart : goal.returns-clause-restart
returns-clause-restart g c = λ near k old new down tied was leaves.
    left_by_a_restart near k (g.L.DecisionLog.moment old).content (g.L.DecisionLog.moment old).may_leave
    (g.L.DecisionLog.moment new).may_leave down tied was leaves

pub returns-clause-crash : goal.returns-clause-crash
returns-clause-crash g c = λ near k part log was. left_by_a_crash near k part (g.L.DecisionLog.moment log).may_leave was
