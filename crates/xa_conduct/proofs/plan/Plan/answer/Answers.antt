use Rattle.std.proofs.lemmas.Bool.{and_from}
use Rattle.xa_conduct.proofs.BackingLemmas.{on_named}
use Rattle.xa_conduct.proofs.DecidedLemmas.{asked_last}
use Rattle.xa_conduct.specs.Backing.{is_on, tells_code}
use Rattle.xa_conduct.proofs.plan.Plan.answer.Goals as goal

pub returns-clause-told : goal.returns-clause-told
returns-clause-told c = λ are_so so.
    let b = c.args.branch in
    asked_last (tells_code are_so b) _ _ _ c.in_ok-add.ensures.added
    (and_from (are_so c.args.kind c.args.code) (is_on b b.thread b.rm c.name_of.result) so (on_named b c.name_of.result c.name_of.ensures.branch))
