use Rattle.std.proofs.Common.{◌≡◌, ℕ, List, get_or, arith}
use Rattle.std.proofs.lemmas.Grind.{common_steps}
use Rattle.std.specs.Borrow.{Bor}
use Rattle.xa_base.specs.declared.branch.Branch.{Branch}
use Rattle.xa_restore.proofs.DecisionLemmas.{as_many, next_branch, once_more, taken_more}
use Rattle.xa_restore.specs.LogLines.{branch_xid_text}
use Rattle.xa_restore.proofs.decision_line.own_branches.Goals as goal

pub returns-in_default-clause-found : goal.returns-in_default-clause-found
returns-in_default-clause-found c = λ bs are same.
    let first : Branch = record { gtrid = c.args.gtrid; thread = 0; rm = 0 } in
    let next = next_branch c.args.gtrid c.args.words.now bs c.loop-word.branches.items c.deref.result.now c.loop-word.word-index _ first are same
    (c.loop-word.invariant.found bs are same) c.deref.ensures.value (omega arith) in
    let named = c.own_branch.ensures.found _ next.is next.own next.once next.text_is in
    absurd (c.in_default.not-Some _ named)

pub loop-word-preserved : goal.loop-word-preserved
loop-word-preserved c = record {
  own = grind (arith, common_steps);
  once = once_more c.loop-word.branches.items c.deref.result.now c.push.new.self.items c.in-Some.branch c.loop-word.invariant.once c.deref.ensures.value
      c.in-Some.ensures.once c.in_ok-push.ensures.items;
  found = λ bs are same.
      let first : Branch = record { gtrid = c.args.gtrid; thread = 0; rm = 0 } in
      let next = next_branch c.args.gtrid c.args.words.now bs c.loop-word.branches.items c.deref.result.now c.loop-word.word-index _ first are same
      (c.loop-word.invariant.found bs are same) c.deref.ensures.value (omega arith) in
      let named = c.own_branch.ensures.found _ next.is next.own next.once next.text_is in
      let same_branch : c.in-Some.branch ≡ get_or bs c.loop-word.word-index first = cc in
      let many = as_many (λ (word : Bor (List ℕ)). word.now) branch_xid_text c.args.words.now bs same in
      taken_more bs c.loop-word.branches.items c.push.new.self.items c.loop-word.word-index first c.in-Some.branch (omega arith)
      (c.loop-word.invariant.found bs are same) same_branch c.in_ok-push.ensures.items;
}
