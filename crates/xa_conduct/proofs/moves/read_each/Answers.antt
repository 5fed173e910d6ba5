use Rattle.std.proofs.Common.{◌∙◌, ◌+◌, ℕ, ap, arith, length}
use Rattle.std.proofs.lemmas.List.{length_push}
use Rattle.xa_conduct.proofs.MoveLemmas.{read_more}
use Rattle.xa_conduct.proofs.moves.read_each.Goals as goal

pub loop-part-preserved : goal.loop-part-preserved
loop-part-preserved c = record {
  count =
      ap length c.in_ok-push.ensures.items ∙ length_push c.loop-part.moves.items c.in_ok-asked.asked
      ∙ ap (λ (n : ℕ). n + 1) c.loop-part.invariant.count;
  read =
      read_more (λ part. part.now) c.args.parts.now c.loop-part.moves.items c.push.new.self.items c.loop-part.part-index _ c.in_ok-asked.asked
      (omega arith) c.in_ok-push.ensures.items c.loop-part.invariant.read c.in_ok-asked.ensures;
}
