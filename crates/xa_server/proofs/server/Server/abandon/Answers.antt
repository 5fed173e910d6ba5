use Rattle.std.proofs.Common.{refl}
use Rattle.xa_server.proofs.server.Server.abandon.Goals as goal

pub returns-clause-performs : goal.returns-clause-performs
returns-clause-performs g c =
    record { result = c.abandon-taken.result; does = c.abandon-taken.ensures.abandons; told = c.reply_of.ensures; rest = refl }
