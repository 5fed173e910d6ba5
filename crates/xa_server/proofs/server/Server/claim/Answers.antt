use Rattle.std.proofs.Common.{refl}
use Rattle.xa_server.proofs.server.Server.claim.Goals as goal

pub returns-clause-performs : goal.returns-clause-performs
returns-clause-performs g c =
    record { result = c.claim-taken.result; does = c.claim-taken.ensures.claims; told = c.reply_of.ensures; rest = refl }
