use Rattle.std.proofs.Common.{◌∙◌, subst, sym}
use Rattle.xa_server.proofs.ReleaseLemmas.{one_is_released}
use Rattle.xa_server.specs.Releasing.{ReleasesAll, if_taken}
use Rattle.xa_server.proofs.server.Server.release_taken.Goals as goal

pub returns-then-says_taken-clause-releases : goal.returns-then-says_taken-clause-releases
returns-then-says_taken-clause-releases g c =
    let reply = c.args.reply.now in
    let s = c.args.self.now in
    subst (λ h. ReleasesAll (if_taken reply h) s c.release.new.self) (sym c.in-Some.is)
    (one_is_released c.in-Some.gtrid s c.release.new.self reply (sym c.says_taken.ensures ∙ c.if-says_taken.true) c.release.ensures.releases)
