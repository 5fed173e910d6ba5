use Rattle.std.proofs.Common.{rules}
use Rattle.std.proofs.lemmas.Map.Made.{map_same_pairs}
use Rattle.xa_base.specs.HeldBranch.{broken_by}
use Rattle.xa_rm.proofs.TableLemmas.{held_after_map, index_after_map, broken_by_in_doubt, broken_held, broken_held-branch, broken_new}
use Rattle.xa_rm.proofs.branches.Branches.break_line.Goals as goal

pub returns : goal.returns
returns c =
    let same = map_same_pairs _ (broken_held c.args.thread) _ (λ k v b w f' t. search rules) _ _ c.retain.ensures.filtered in
    held_after_map (broken_held c.args.thread) (broken_by c.args.thread) (broken_held-branch c.args.thread) (broken_new c.args.thread)
    c.args.self.now.table c.retain.new.self same

pub invariant_of-self : goal.invariant_of-self
invariant_of-self c = record {
  indexed =
      let same = map_same_pairs _ (broken_held c.args.thread) _ (λ k v b w f' t. search rules) _ _ c.retain.ensures.filtered in
      index_after_map (broken_by c.args.thread) (broken_by_in_doubt c.args.thread) c.args.self.now.table c.retain.new.self c.args.self.now.index
      (held_after_map (broken_held c.args.thread) (broken_by c.args.thread) (broken_held-branch c.args.thread) (broken_new c.args.thread)
      c.args.self.now.table c.retain.new.self same)
      c.args.self.now.indexed;
}
