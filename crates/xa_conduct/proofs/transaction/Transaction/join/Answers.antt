use Rattle.std.proofs.Common.{◌∙◌, arith, sym}
use Rattle.xa_conduct.proofs.ProgressLemmas.{joined_more, joined_same}
use Rattle.xa_conduct.proofs.transaction.Transaction.join.Goals as goal
use Rattle.xa_conduct.proofs.transaction.Transaction.join.Goals.{else-not-has, then-not-has+in_ok-add}

pub loop-rm-preserved : goal.loop-rm-preserved
loop-rm-preserved c =
    let before = c.loop-rm.invariant in
    elim c.if-not-has.branch [
      | then-not-has+in_ok-add w ↦ rw (w.plan-is, w.self-is) (record {
        moved = w.in_ok-add.ensures.moved ∙ before.moved;
        steps =
            λ new.
            joined_more c.loop-rm.rm-index _ c.args.self.now c.loop-rm.self w.add.new.self (before.steps new) w.in_ok-add.ensures.steps;
        more = λ p among. w.in_ok-add.ensures.more p (before.more p among);
        rests = λ past rests. w.in_ok-add.ensures.rests past (before.rests past rests);
      })
      | else-not-has w ↦ rw (w.plan-is, w.self-is) (record {
        moved = before.moved;
        steps = λ new. joined_same c.loop-rm.rm-index _ 0 c.args.rms.now c.args.self.now c.loop-rm.self (omega (arith, c.loop-rm-test.true)) new
            (sym c.has.ensures ∙ w.if-not-has.false) (before.steps new);
        more = before.more;
        rests = before.rests;
      })
    ]

pub returns-in_ok-prepare-clause-rests : goal.returns-in_ok-prepare-clause-rests
returns-in_ok-prepare-clause-rests c = λ past rests. c.in_ok-prepare.ensures.rests past (c.loop-rm.invariant.rests past rests)
