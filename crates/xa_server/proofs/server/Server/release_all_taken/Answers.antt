use Rattle.std.proofs.Common.{◌∙◌, sym}
use Rattle.xa_server.proofs.ReleaseLemmas.{all_are_released}
use Rattle.xa_server.proofs.server.Server.release_all_taken.Goals as goal

pub returns-then-says_taken-clause-releases : goal.returns-then-says_taken-clause-releases
returns-then-says_taken-clause-releases g c =
    all_are_released c.args.gtrids.now c.args.self.now c.release_all.new.self c.args.reply.now (sym c.says_taken.ensures ∙ c.if-says_taken.true)
    c.release_all.ensures.releases
