use Rattle.std.proofs.Common.{◌≡◌, ◌∙◌, [], ◌∷◌, ◌++◌, map, string_bytes, ap, sym}
use Rattle.std.proofs.lemmas.List.{map_push}
use Rattle.toml.specs.View.{view}
use Rattle.xa_scenario_file.specs.Scenarios.{names_after}
use Rattle.xa_scenario_file.proofs.EntryLemmas.{names_after-some, names_after-none}
use Rattle.xa_scenario_file.proofs.FileLemmas.{names_end, names_more}
use Rattle.xa_scenario_file.proofs.document.add_names.Goals as goal
use Rattle.xa_scenario_file.proofs.document.add_names.Goals.{in-Some+in_ok-from_str+in_ok-push, in_default}

pub loop-value-preserved : goal.loop-value-preserved
loop-value-preserved c =
    let names = map string_bytes c.loop-value.names.items in
    let value = view c.value-item.result in
    let begun : names_after names value ≡ map string_bytes c.match-name_in.names.items = elim c.match-name_in.branch [
      | in-Some+in_ok-from_str+in_ok-push w ↦ names_after-some names value w.in-Some.name.now (sym w.in-Some.ensures)
          ∙ ap (λ name. names ++ name ∷ []) (sym w.in_ok-from_str.ensures.ok)
          ∙ sym (map_push string_bytes c.loop-value.names.items w.in_ok-from_str.field-0)
          ∙ ap (map string_bytes) (sym w.in_ok-push.ensures.items) ∙ ap (λ names. map string_bytes names.items) (sym w.names-is)
      | in_default w ↦ names_after-none names value (sym w.in_default.ensures) ∙ ap (λ names. map string_bytes names.items) (sym w.names-is)
    ] in
    rw (← begun)
    (names_more names c.args.items.now c.loop-value.value-index c.value-item.result c.loop-value-test.true c.value-item.is
    ∙ c.loop-value.invariant)

pub returns : goal.returns
returns c =
    sym (names_end (map string_bytes c.loop-value.names.items) c.args.items.now c.loop-value.value-index c.loop-value-test.false) ∙ c.loop-value.invariant
