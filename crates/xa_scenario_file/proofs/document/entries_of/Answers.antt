use Rattle.std.proofs.Common.{◌≡◌, ◌+◌, ◌++◌, ◌∷◌, [], map, ap, string_bytes, sym, ◌∙◌}
use Rattle.std.proofs.lemmas.Result.{err_from_is_err_and}
use Rattle.std.proofs.lemmas.List.{map_push}
use Rattle.toml.specs.View.{view, items_view}
use Rattle.xa_scenario_file.specs.Scenarios.{entries_from, entry_at, names_after}
use Rattle.xa_scenario_file.proofs.EntryLemmas.{goes_on, stops, ends, names_after-some, names_after-none}
use Rattle.xa_files.specs.Misfits.{document_fault_of}
use Rattle.xa_files.proofs.DocumentLemmas.{fails_on}
use Rattle.xa_scenario_file.proofs.document.entries_of.Goals as goal
use Rattle.xa_scenario_file.proofs.document.entries_of.Goals.{in-Some+in_ok-push-2, in_default}

pub returns-in_err-entry_at : goal.returns-in_err-entry_at
returns-in_err-entry_at c =
    let p = err_from_is_err_and c.from_residual-in_err-entry_at.result c.from_residual-in_err-entry_at.ensures.1 in
    let all = entries_from 1 (map string_bytes c.args.names.now) (items_view c.args.items.now) in
    let names = map (λ name. name.now) c.loop-i.begun.items in
    let fault = document_fault_of c.in_err-entry_at.field-0.0 in
    rw (p.1, p.2) (fails_on fault (entry_at (c.loop-i.i + 1) names (view c.index-items-i.result)) all
    (λ is. stops c.loop-i.entries.items fault (c.loop-i.i + 1) names c.args.items.now c.loop-i.i c.index-items-i.result all
    c.loop-i-test.true c.index-items-i.is is c.loop-i.invariant)
    (rw (← c.deref.ensures.value) c.in_err-entry_at.ensures.entry))

pub loop-i-preserved : goal.loop-i-preserved
loop-i-preserved c =
    let names = map (λ name. name.now) c.loop-i.begun.items in
    let value = view c.index-items-i.result in
    let grown : c.push.new.self.items ≡ c.loop-i.entries.items ++ c.in_ok-entry_at.field-0 ∷ [] = c.in_ok-push.ensures.items in
    let begun : names_after names value ≡ map (λ name. name.now) c.match-name_in.begun.items = elim c.match-name_in.branch [
      | in-Some+in_ok-push-2 w ↦ names_after-some names value w.in-Some.name.now (sym w.in-Some.ensures)
          ∙ rw (w.begun-is, w.in_ok-push-2.ensures.items) (sym (map_push _ c.loop-i.begun.items w.in-Some.name))
      | in_default w ↦ names_after-none names value (sym w.in_default.ensures) ∙ ap (λ names. map (λ name. name.now) names.items) (sym w.begun-is)
    ] in
    rw (grown, ← begun) (goes_on c.loop-i.entries.items c.in_ok-entry_at.field-0 (c.loop-i.i + 1) names c.args.items.now c.loop-i.i c.index-items-i.result
    (entries_from 1 (map string_bytes c.args.names.now) (items_view c.args.items.now))
    c.loop-i-test.true c.index-items-i.is (rw (← c.deref.ensures.value) c.in_ok-entry_at.ensures.entry) c.loop-i.invariant)

pub returns : goal.returns
returns c =
    ends c.loop-i.entries.items (c.loop-i.i + 1) (map (λ name. name.now) c.loop-i.begun.items) c.args.items.now c.loop-i.i
    (entries_from 1 (map string_bytes c.args.names.now) (items_view c.args.items.now)) c.loop-i-test.false c.loop-i.invariant
