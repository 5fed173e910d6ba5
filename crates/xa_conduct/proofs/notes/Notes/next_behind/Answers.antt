use Rattle.std.proofs.Common.{subst, sym}
use Rattle.std.specs.Prelude.{IfOk}
use Rattle.xa_conduct.specs.Told.{HasNext}
use Rattle.xa_conduct.specs.declared.notes.Reply.{Reply}
use Rattle.xa_conduct.proofs.notes.Notes.next_behind.Goals as goal

pub returns-in-Thread-clause-name : goal.returns-in-Thread-clause-name
returns-in-Thread-clause-name c =
    subst (λ (reply : Reply). IfOk c.next_of.result (HasNext c.args.self.now.transactions.items reply)) (sym c.in-Thread.is) c.next_of.ensures.name
