use Rattle.std.proofs.Common.{Bool, subst, sym}
use Rattle.std.specs.Prelude.{All, IfOk, string_bytes}
use Rattle.xa_requests.specs.declared.request.Request.{Request}
use Rattle.xa_conduct.specs.Backing.{TransactionRests}
use Rattle.xa_conduct.specs.Told.{AddsText, HasNext, IsToldBy}
use Rattle.xa_conduct.specs.declared.notes.Reply.{Reply}
use Rattle.xa_conduct.proofs.notes.Notes.add_reply.Goals as goal

pub returns-in-Thread-clause-tells : goal.returns-in-Thread-clause-tells
returns-in-Thread-clause-tells c =
    let ts = c.args.self.now.transactions.items in
    subst
    (λ (reply : Reply).
    IfOk c.add_thread.result
    (λ x.
    (asked : (Request → Bool) → Bool) → All (TransactionRests asked) ts
    → AddsText (IsToldBy asked ts c.add_thread.new.self.transactions.items reply) (string_bytes c.args.text.now) (string_bytes c.add_thread.new.text)))
    (sym c.in-Thread.is) c.add_thread.ensures.tells

pub add_thread-requires : goal.add_thread-requires
add_thread-requires c = subst (λ (reply : Reply). HasNext c.args.self.now.transactions.items reply c.args.next) c.in-Thread.is c.requires
