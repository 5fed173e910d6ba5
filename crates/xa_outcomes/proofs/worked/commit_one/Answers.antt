use Rattle.std.proofs.Common.{refl}
use Rattle.std.proofs.lemmas.Result.{on_ok_weaker}
use Rattle.xa_outcomes.proofs.worked.commit_one.Goals as goal

pub returns-clause-made : goal.returns-clause-made
returns-clause-made g c =
    on_ok_weaker c.make-2.result (λ last. (c.make.new.server, c.in_ok-make.ensures.made, (c.make-2.new.server, last, refl))) c.make-2.ensures.made
