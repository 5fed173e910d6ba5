use Rattle.std.proofs.Common.{true, false, Some, IsSome, sym, ◌∙◌, subst}
use Rattle.std.specs.HashMap as hashed
use Rattle.std.specs.BTreeSet as sorted
use Rattle.xa_base.specs.Xid.{Xid, xid_cmp, xid_eq}
use Rattle.xa_rm.proofs.TableLemmas.{index_after_put, sure, found}
use Rattle.xa_rm.proofs.branches.Branches.set.Goals as goal

pub invariant_of-self-then-is_in_doubt : goal.invariant_of-self-then-is_in_doubt
invariant_of-self-then-is_in_doubt c = record {
  indexed =
      let in_doubt = sym c.is_in_doubt.ensures ∙ c.if-is_in_doubt.true in
      let known = subst (λ (k : Xid). IsSome (hashed.get xid_eq c.args.self.now.table k)) (sym c.of.ensures) (c.requires in_doubt) in
      let put = sure c.insert-then-is_in_doubt.result c.insert-then-is_in_doubt.ensures.updates c.insert-then-is_in_doubt.ensures.absent (found _ known) in
      index_after_put c.args.self.now.table c.insert-then-is_in_doubt.new.self c.args.self.now.index c.insert.new.self c.args.xid.now c.args.held true
      c.args.self.now.indexed
      (subst (λ (k : Xid). hashed.Updates xid_eq c.args.self.now.table c.insert-then-is_in_doubt.new.self k (Some c.args.held))
      c.of.ensures put)
      (subst (λ (k : Xid). sorted.Updates xid_cmp c.args.self.now.index c.insert.new.self k true) c.copy.ensures c.in_ok-insert.ensures.updates).0
      (sym in_doubt);
}

pub invariant_of-self-else-is_in_doubt : goal.invariant_of-self-else-is_in_doubt
invariant_of-self-else-is_in_doubt c = record {
  indexed =
      index_after_put c.args.self.now.table c.insert-else-is_in_doubt.new.self c.args.self.now.index c.remove.new.self c.args.xid.now c.args.held false
      c.args.self.now.indexed
      (subst (λ (k : Xid). hashed.Updates xid_eq c.args.self.now.table c.insert-else-is_in_doubt.new.self k (Some c.args.held))
      c.of-else-is_in_doubt.ensures c.in_ok-insert-3.ensures.updates)
      c.remove.ensures.updates.0 (sym c.if-is_in_doubt.false ∙ c.is_in_doubt.ensures);
}
