use Rattle.std.proofs.Common.{◌∙◌, sym, rules, tests}
use Rattle.std.specs.Str.{bytes_eq}
use Rattle.std.proofs.lemmas.Iterator.{YieldsList-from_slice}
use Rattle.std.proofs.lemmas.Iterator.Search.{position_from_yields_List}
use Rattle.xa_scenario_file.proofs.BranchLemmas.{position-map}
use Rattle.xa_scenario_file.proofs.branches.place_of.Goals as goal

pub returns : goal.returns
returns c =
    position_from_yields_List (λ x. bytes_eq c.args.name.now x.now) _ _ _ c.position.ensures.ran
    (YieldsList-from_slice c.args.names.now c.iter.ensures.rest) (λ x b q k. search (rules, tests))
    ∙ sym (position-map (bytes_eq c.args.name.now) (λ x. x.now) c.args.names.now)
