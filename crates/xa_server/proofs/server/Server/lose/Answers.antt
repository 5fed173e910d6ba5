use Rattle.std.proofs.Common.{refl}
use Rattle.xa_server.proofs.server.Server.lose.Goals as goal

pub returns-clause-loses : goal.returns-clause-loses
returns-clause-loses g c = record { does = c.lose_line.ensures.loses; rest = refl }
