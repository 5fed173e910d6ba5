use Rattle.std.proofs.Common.{refl}
use Rattle.xa_base.specs.declared.step.Step.TheVariants as steps
use Rattle.xa_scenario.proofs.PlayLemmas.{three, performs_also, drain_names_none}
use Rattle.xa_scenario.proofs.KeepingLemmas.{twice}
use Rattle.xa_scenario.proofs.play.play_entry.Goals as goal

pub returns-in-Call-clause-performs : goal.returns-in-Call-clause-performs
returns-in-Call-clause-performs g c =
    let thread = c.in-Call.thread in
    let rm = c.in-Call.rm in
    three _ (record { step = c.issue_of.result; reply = c.act-issued.result }) (record { step = steps.Take thread rm; reply = c.act-took.result })
    (record { step = steps.Hear thread rm; reply = c.act-heard.result })
    c.args.system.now.events c.act-issued.new.system.events c.act-took.new.system.events c.act-heard.new.system.events
    c.act-issued.ensures.answered c.act-issued.ensures.added c.act-took.ensures.answered c.act-took.ensures.added c.act-heard.ensures.answered
    c.act-heard.ensures.added
    (rw (c.in-Call.is, c.issue_of.ensures) refl, rw c.issue_of.ensures refl)

pub returns-in-Drain-clause-performs : goal.returns-in-Drain-clause-performs
returns-in-Drain-clause-performs g c =
    performs_also (λ here h. (rw c.in-Drain.is h, drain_names_none c.in-Drain.thread c.in-Drain.rm here h)) c.drain.ensures.performs

pub returns-in-Call-clause-log : goal.returns-in-Call-clause-log
returns-in-Call-clause-log g c =
    twice c.args.system.now c.act-issued.new.system c.act-took.new.system c.act-heard.new.system c.act-issued.ensures.log c.act-took.ensures.log
    c.act-heard.ensures.log
