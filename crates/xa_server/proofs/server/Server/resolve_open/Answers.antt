use Rattle.std.proofs.Common.{refl}
use Rattle.xa_server.proofs.server.Server.resolve_open.Goals as goal

pub returns-clause-performs : goal.returns-clause-performs
returns-clause-performs g c =
    record { result = c.resolve_open-resolved.result; does = c.resolve_open-resolved.ensures.resolves; told = c.resolved_reply.ensures; rest = refl }
