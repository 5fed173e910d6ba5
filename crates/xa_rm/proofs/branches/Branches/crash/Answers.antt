use Rattle.std.proofs.Common.{refl, rules}
use Rattle.std.proofs.lemmas.Map.Made.{map_same_pairs}
use Rattle.xa_base.specs.HeldBranch.{crashed}
use Rattle.xa_rm.proofs.TableLemmas.{held_after_map, index_after_map, crashed_in_doubt, crashed_held}
use Rattle.xa_rm.proofs.branches.Branches.crash.Goals as goal

pub returns : goal.returns
returns c =
    let same = map_same_pairs _ crashed_held _ (λ k v b w f' t. search rules) _ _ c.retain.ensures.filtered in
    held_after_map crashed_held crashed (λ h. refl) refl c.args.self.now.table c.retain.new.self same

pub invariant_of-self : goal.invariant_of-self
invariant_of-self c = record {
  indexed =
      let same = map_same_pairs _ crashed_held _ (λ k v b w f' t. search rules) _ _ c.retain.ensures.filtered in
      index_after_map crashed crashed_in_doubt c.args.self.now.table c.retain.new.self c.args.self.now.index
      (held_after_map crashed_held crashed (λ h. refl) refl c.args.self.now.table c.retain.new.self same)
      c.args.self.now.indexed;
}
