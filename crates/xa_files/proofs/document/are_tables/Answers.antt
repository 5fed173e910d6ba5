use Rattle.std.proofs.Common.{◌∙◌, is_some, rules, tests}
use Rattle.std.proofs.lemmas.Iterator.{YieldsList-from_slice}
use Rattle.std.proofs.lemmas.Iterator.Search.{all_from_yields_List}
use Rattle.toml.specs.Data.{as_table}
use Rattle.toml.specs.View.{view}
use Rattle.xa_files.proofs.DocumentLemmas.{are_tables-view}
use Rattle.xa_files.proofs.document.are_tables.Goals as goal

pub returns : goal.returns
returns c =
    all_from_yields_List (λ v. is_some (as_table (view v))) _ _ _ c.all.ensures.ran
    (YieldsList-from_slice c.args.items.now c.iter.ensures.rest) (λ x b q k. search (rules, tests))
    ∙ are_tables-view c.args.items.now
