use Rattle.std.proofs.Common.{refl}
use Rattle.xa_server.proofs.server.Server.resolve.Goals as goal

pub returns-clause-performs : goal.returns-clause-performs
returns-clause-performs g c =
    record { result = c.resolve-resolved.result; does = c.resolve-resolved.ensures.resolves; told = c.resolved_reply.ensures; rest = refl }
