use Rattle.std.proofs.Common.{◌≡◌, ◌∙◌, ap}
use Rattle.std.specs.Prelude.{Some}
use Rattle.xa_base.specs.declared.branch.Branch.{Branch}
use Rattle.xa_restore.proofs.DecisionLemmas.{first_fits, probe}
use Rattle.xa_restore.proofs.decision_line.gtrid_named.Goals as goal

pub returns-in-Some : goal.returns-in-Some
returns-in-Some c = record {
  found = λ g fits is.
      let first : Branch = record { gtrid = g; thread = 0; rm = 0 } in
      let named = c.branch_named.ensures.found first (first_fits g fits)
      (c.as_str.ensures.value ∙ c.in_ok-text.ensures.ok ∙ probe c.args.word.now g is) in
      let same : c.in-Some.branch ≡ first = cc in
      ap (λ (b : Branch). Some b.gtrid) same;
}

pub returns : goal.returns
returns c = record {
  found = λ g fits is.
      let first : Branch = record { gtrid = g; thread = 0; rm = 0 } in
      let named = c.branch_named.ensures.found first (first_fits g fits)
      (c.as_str.ensures.value ∙ c.in_ok-text.ensures.ok ∙ probe c.args.word.now g is) in
      cc;
}
