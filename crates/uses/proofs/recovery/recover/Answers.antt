use Rattle.std.proofs.Common.{inl, inr}
use Rattle.xa_system.proofs.Rms.InDoubt.{lists_found}
use Rattle.xa_system.specs.SystemView.{origin_in}
use Rattle.uses.proofs.Recoveries.{recovered}
use Rattle.uses.proofs.recovery.recover.Goals as goal

pub returns : goal.returns
returns g c r count names answers (inl right) is none enough put_off =
    let old = c.agree.ensures.parts in
    recovered _ _ _ _ r count names answers
    (c.recovery_completes.ensures _ r count names answers (c.replies_are_allowed.ensures.events _ _ right old.allowed))
    old.numbers c.run-ran.ensures.start c.run-ran.ensures.parts.allowed is none enough put_off
returns g c r count names answers (inr resumed) is none enough put_off =
    let old = c.agree.ensures.parts in
    let start = origin_in g.R.ResourceManager.look c.args.system.now in
    recovered _ _ _ _ r count names answers
    (c.across_processes.ensures.recovers resumed.0 start _ r count names answers
    (record { right = resumed.1; resumes = resumed.2; allowed = old.allowed }) old.old (lists_found start old.listed))
    old.numbers c.run-ran.ensures.start c.run-ran.ensures.parts.allowed is none enough put_off
