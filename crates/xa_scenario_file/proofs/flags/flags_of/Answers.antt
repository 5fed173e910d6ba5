use Rattle.std.proofs.Common.{◌∙◌, sym, ap}
use Rattle.std.proofs.lemmas.List.{nil_from_length}
use Rattle.toml.specs.View.{view, items_view}
use Rattle.xa_scenario_file.specs.Flags.{flags_of}
use Rattle.xa_scenario_file.proofs.FlagLemmas.{with_flags, flag_goes_on, ends}
use Rattle.xa_scenario_file.proofs.flags.flags_of.Goals as goal

pub items-preserved : goal.items-preserved
items-preserved c =
    flag_goes_on c.items.flags c.in_ok-flags.field-0 c.in_ok-word.word.now (view c.in-Some.item.now) (items_view c.in-Some.later.now)
    (flags_of (items_view c.args.items.now))
    (sym c.in_ok-word.ensures) (sym c.in_ok-flags.ensures) (sym c.if-holds_text.ensures)
    (ap (λ vs. with_flags c.items.flags (flags_of (items_view vs))) (sym c.in-Some.ensures.cases.0) ∙ c.items.invariant)

pub returns : goal.returns
returns c = ends c.items.flags (flags_of (items_view c.args.items.now))
    (ap (λ vs. with_flags c.items.flags (flags_of (items_view vs))) (sym (nil_from_length c.items.rest.now c.in_default.ensures.cases)) ∙ c.items.invariant)
