use Rattle.std.specs.Prelude.{[], ◌∷◌}
use Rattle.std.proofs.lemmas.Result.{IfOk-weaker}
use Rattle.uses.proofs.OwnLogs.{always_honest}
use Rattle.uses.proofs.processes.two_processes.Goals as goal

pub returns-clause-headline : goal.returns-clause-headline
returns-clause-headline c =
    let first = c.in_ok-first.ensures in
    IfOk-weaker c.next_process.result _ _
    (λ s headline. (first.whole, first.ran, headline (always_honest (λ l. Unit {0}) s.log.was.value s.log.log (λ l. tt))))
    (c.next_process.ensures.headline first.whole first.last)

pub returns-clause-together : goal.returns-clause-together
returns-clause-together c =
    IfOk-weaker c.next_process.result _ _ (λ s all. all (always_honest (λ l. Unit {0}) s.log.was.value s.log.log (λ l. tt)))
    (c.next_process.ensures.chain (c.args.first_steps.now ∷ []) c.in_ok-first.ensures)
