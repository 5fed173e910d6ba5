use Rattle.std.proofs.Common.{◌≡◌, ◌∙◌, ◌+◌, ◌<◌, ◌≤◌, arith, length, rules, sym}
use Rattle.xa_conduct.proofs.RestLemmas.{all_due_added, all_due_idle, due_not, due_past}
use Rattle.xa_conduct.proofs.notes.outcomes.ready_of.Goals as goal
use Rattle.xa_conduct.proofs.notes.outcomes.ready_of.Goals.{else-is_ready, then-is_ready+in_ok-push}

pub loop-reply-preserved : goal.loop-reply-preserved
loop-reply-preserved c =
    let told = c.args.replies.now in
    let k = c.loop-reply.reply-index in
    let i = c.in-Thread.thread in
    let ts = c.args.transactions.now in
    let from = c.in-Some.transaction.now in
    let before = c.loop-reply.invariant in
    let inside : k < length told = omega arith in
    let within : i < length ts = c.in-Some.ensures.lookup.3.0 in
    elim c.if-is_ready.branch [
      | then-is_ready+in_ok-push w ↦ rw (w.ready-is) (record {
        few = search rules;
        all =
            all_due_added c.loop-reply.ready.items w.push.new.self.items ts told k _ i from inside c.in-Thread.is w.in_ok-push.ensures.items within
            c.in-Some.ensures.lookup.1 before.all;
      })
      | else-is_ready w ↦ rw (w.ready-is) (record {
        few = omega (arith, before.few);
        all =
            all_due_idle c.loop-reply.ready.items ts told k _ i inside c.in-Thread.is
            (due_not ts i from within c.in-Some.ensures.lookup.1 (sym c.is_ready.ensures.exact ∙ w.if-is_ready.false)) before.all;
      })
    ]

pub loop-reply-preserved-in_default-get : goal.loop-reply-preserved-in_default-get
loop-reply-preserved-in_default-get c =
    let told = c.args.replies.now in
    let ts = c.args.transactions.now in
    let before = c.loop-reply.invariant in
    let inside : c.loop-reply.reply-index < length told = omega arith in
    record {
      few = omega (arith, before.few);
      all =
          all_due_idle c.loop-reply.ready.items ts told c.loop-reply.reply-index _ c.in-Thread.thread inside c.in-Thread.is
          (due_past ts c.in-Thread.thread c.in_default-get.ensures.lookup.3) before.all;
    }
