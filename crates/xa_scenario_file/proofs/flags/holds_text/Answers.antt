use Rattle.std.proofs.Common.{◌∙◌, rules, tests}
use Rattle.std.proofs.lemmas.Iterator.{YieldsList-from_slice}
use Rattle.std.proofs.lemmas.Iterator.Search.{any_from_yields_List}
use Rattle.toml.specs.View.{view}
use Rattle.xa_scenario_file.specs.Flags.{is_text}
use Rattle.xa_scenario_file.proofs.FlagLemmas.{holds_text-view}
use Rattle.xa_scenario_file.proofs.flags.holds_text.Goals as goal

pub returns : goal.returns
returns c =
    any_from_yields_List (λ v. is_text c.args.text.now (view v)) _ _ _ c.any.ensures.ran
    (YieldsList-from_slice c.args.items.now c.iter.ensures.rest) (λ x b q k. search (rules, tests))
    ∙ holds_text-view c.args.text.now c.args.items.now
