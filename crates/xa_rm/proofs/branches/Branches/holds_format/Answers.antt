use Rattle.std.proofs.Common.{rules, tests, sym, ◌∙◌}
use Rattle.std.proofs.lemmas.Iterator.Consumers.{YieldsList-from_rest}
use Rattle.std.proofs.lemmas.Iterator.Search.{any_from_yields_List}
use Rattle.xa_rm.proofs.TableLemmas.{is_of_format, format_held, format_not_held}
use Rattle.xa_rm.proofs.branches.Branches.holds_format.Goals as goal

pub returns-clause-held : goal.returns-clause-held
returns-clause-held c = λ e.
    let any =
    any_from_yields_List (is_of_format c.args.format) _ _ c.any.result c.any.ensures.ran
    (YieldsList-from_rest c.args.self.now.table.entries c.iter.ensures.rest) (λ x b q k. search (rules, tests)) in
    format_held c.args.self.now.table c.iter.ensures.found c.args.format (sym any ∙ e)

pub returns-clause-clear : goal.returns-clause-clear
returns-clause-clear c = λ e.
    let any =
    any_from_yields_List (is_of_format c.args.format) _ _ c.any.result c.any.ensures.ran
    (YieldsList-from_rest c.args.self.now.table.entries c.iter.ensures.rest) (λ x b q k. search (rules, tests)) in
    format_not_held c.args.self.now.table c.args.format (sym any ∙ e)
