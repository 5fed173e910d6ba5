use Rattle.xa_server.proofs.ReleaseLemmas.{releases_by}
use Rattle.xa_server.proofs.server.Server.release.Goals as goal

pub returns-clause-releases : goal.returns-clause-releases
returns-clause-releases g c =
    let call = c.release in
    releases_by c.args.gtrid c.args.self.now call.new.self call.result call.ensures.forgets call.ensures.owed call.ensures.same
