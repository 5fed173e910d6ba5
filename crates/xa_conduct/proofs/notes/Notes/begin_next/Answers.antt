use Rattle.std.proofs.Common.{◌∙◌, ap, arith}
use Rattle.xa_conduct.proofs.MoveLemmas.{names_more}
use Rattle.xa_conduct.proofs.notes.Notes.begin_next.Goals as goal

pub loop-reply-preserved : goal.loop-reply-preserved
loop-reply-preserved c = record {
  more = λ p is. c.in_ok-next.ensures.more p (c.loop-reply.invariant.more p is);
  names =
      names_more c.args.replies.now c.loop-reply.reply-index _ c.loop-reply.nexts.items c.push.new.self.items c.in_ok-next.next
      c.args.self.now.transactions.items c.loop-reply.self.transactions.items (omega arith) (ap (λ v. v.items) c.loop-reply.invariant.same)
      c.in_ok-push.ensures.items c.loop-reply.invariant.names c.in_ok-next.ensures.name;
  same = c.next_behind.ensures.same ∙ c.loop-reply.invariant.same;
}
