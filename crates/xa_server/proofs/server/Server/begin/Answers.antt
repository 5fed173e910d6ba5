use Rattle.std.proofs.Common.{refl}
use Rattle.xa_server.proofs.server.Server.begin.Goals as goal

pub returns-clause-performs : goal.returns-clause-performs
returns-clause-performs g c =
    record { result = c.begin-begun.result; does = c.begin-begun.ensures.begins; told = c.begun_reply.ensures; rest = refl }
