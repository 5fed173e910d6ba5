use Rattle.std.proofs.Common.{refl}
use Rattle.std.proofs.lemmas.Result.{on_ok_weaker}
use Rattle.xa_outcomes.proofs.worked.prepare_one.Goals as goal

pub returns-clause-made : goal.returns-clause-made
returns-clause-made g c =
    on_ok_weaker c.make-4.result
    (λ last. (
      c.make.new.server,
      c.in_ok-make.ensures.made,
      (
        c.make-2.new.server,
        c.in_ok-make-2.ensures.made,
        (c.make-3.new.server, c.in_ok-make-3.ensures.made, (c.make-4.new.server, last, refl)),
      ),
    )) c.make-4.ensures.made
