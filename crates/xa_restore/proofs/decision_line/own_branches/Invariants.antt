use Rattle.std.proofs.Common.{◌≡◌, List, map, take}
use Rattle.std.specs.List.{AllByRecursion}
use Rattle.xa_base.specs.declared.branch.Branch.{Branch}
use Rattle.xa_restore.specs.LogLines.{AreBranchesOf, AreOnce, branch_xid_text}
use Rattle.xa_restore.proofs.decision_line.own_branches.Given as goal

abbrev pub invariant-loop-word : goal.invariant-loop-word
invariant-loop-word l = record {
  own : AllByRecursion (λ b. b.gtrid ≡ l.gtrid) l.branches.items;
  once : AreOnce l.branches.items;
  found : (bs : List Branch) → AreBranchesOf l.gtrid bs → map (λ word. word.now) l.words ≡ map branch_xid_text bs → l.branches.items ≡ take l.word-index bs;
}
