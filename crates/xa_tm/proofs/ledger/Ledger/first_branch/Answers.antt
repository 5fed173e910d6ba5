use Rattle.std.proofs.Common.{◌≡◌, Option, Some, None, sym, ◌∙◌}
use Rattle.std.specs.Option.{MatchOption}
use Rattle.xa_base.proofs.BranchOrder.{gtrid_numbers}
use Rattle.xa_tm.proofs.Maps.FirstBranches.{none_behind, none_from}
use Rattle.xa_tm.proofs.ledger.Ledger.first_branch.Goals as goal

pub returns-in_default-clause-none : goal.returns-in_default-clause-none
returns-in_default-clause-none c = λ none q own.
    none_behind c.args.g c.args.self.now.branches c.range.result (c.range.ensures.in_range tt) _ _ c.in-Some.ensures.steps
    (sym (gtrid_numbers c.in-Some.b.now.gtrid c.args.g) ∙ sym c.eq.ensures ∙ c.if-eq.false) q own

pub returns-in_default-2-clause-none : goal.returns-in_default-2-clause-none
returns-in_default-2-clause-none c = λ none q own.
    none_from c.args.g c.args.self.now.branches c.range.result (c.range.ensures.in_range tt)
    (at_end c.next.result _ c.next.ensures.steps c.in_default.is).0 q own
  where
    at_end : {A : Type 0} {P : Type 0} (o : Option A) (Q : A → Type 0) → MatchOption o P Q → o ≡ None → P
    at_end None Q p is = p
    at_end (Some x) Q p is = absurd (cc)
