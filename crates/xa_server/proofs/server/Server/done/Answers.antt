use Rattle.std.proofs.Common.{refl}
use Rattle.xa_server.proofs.server.Server.done.Goals as goal

pub returns-clause-performs : goal.returns-clause-performs
returns-clause-performs g c =
    record { result = c.done_all-done.result; does = c.done_all-done.ensures.finishes; told = c.reply_of.ensures; rest = refl }
