use Rattle.std.proofs.Common.{rules}
use Rattle.xa_workers.proofs.Verification.{have_fates}
use Rattle.xa_workers.proofs.verify.verified_outcomes.Goals as goal

pub returns-then-rms_agree-clause-rms : goal.returns-then-rms_agree-clause-rms
returns-then-rms_agree-clause-rms g c =
    have_fates c.args.jobs.now c.args.incarnation g.J.Run.is_own c.in_ok-left.left.rms.items c.deref-then-have_rows.result.now c.in_ok-fates.fates.items
    c.deref-then-have_rows-2.result.now c.requires.own c.in_ok-left.ensures.rms c.deref-then-have_rows.ensures.value c.deref-then-have_rows-2.ensures.value
    (c.rms_agree.ensures.number (search rules)) (c.rms_agree.ensures.listed (search rules))
