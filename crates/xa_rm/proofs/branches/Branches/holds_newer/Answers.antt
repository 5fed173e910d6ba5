use Rattle.std.proofs.Common.{rules, tests, sym, ◌∙◌}
use Rattle.std.proofs.lemmas.Iterator.Consumers.{YieldsList-from_rest}
use Rattle.std.proofs.lemmas.Iterator.Search.{any_from_yields_List}
use Rattle.xa_rm.proofs.TableLemmas.{is_newer_entry, newer_held, newer_not_held}
use Rattle.xa_rm.proofs.branches.Branches.holds_newer.Goals as goal

pub returns-clause-newer : goal.returns-clause-newer
returns-clause-newer c = λ e.
    let any =
    any_from_yields_List (is_newer_entry c.args.rm c.args.incarnation) _ _ c.any.result c.any.ensures.ran
    (YieldsList-from_rest c.args.self.now.table.entries c.iter.ensures.rest) (λ x b q k. search (rules, tests)) in
    newer_held c.args.self.now.table c.iter.ensures.found c.args.rm c.args.incarnation (sym any ∙ e)

pub returns-clause-past : goal.returns-clause-past
returns-clause-past c = λ e.
    let any =
    any_from_yields_List (is_newer_entry c.args.rm c.args.incarnation) _ _ c.any.result c.any.ensures.ran
    (YieldsList-from_rest c.args.self.now.table.entries c.iter.ensures.rest) (λ x b q k. search (rules, tests)) in
    newer_not_held c.args.self.now.table c.args.rm c.args.incarnation (sym any ∙ e)
