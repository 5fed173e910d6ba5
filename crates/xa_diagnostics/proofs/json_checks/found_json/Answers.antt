use Rattle.std.proofs.Common.{◌≡◌, ◌∙◌, codes, List, ℕ, ap, map, string_bytes}
use Rattle.std.specs.Str.Lines.{lines}
use Rattle.xa_diagnostics.specs.Json.{array, items_in}
use Rattle.xa_diagnostics.specs.declared.json.Item.TheVariants.{Line}
use Rattle.xa_diagnostics.proofs.JsonLemmas.{shown, text_5}
use Rattle.xa_diagnostics.proofs.json_checks.found_json.Goals as goal

pub returns : goal.returns
returns c =
    let all = lines c.args.warnings.now in
    text_5 (codes "{\"file\":") (codes ",\"ok\":") (codes ",\"kind\":\"") (codes "\",\"faults\":") (codes ",\"warnings\":") (codes "}\n")
    c.in_ok-path.ensures
    c.well-is_well.ensures
    c.name-kind.ensures
    (c.in_ok-faults-2.ensures ∙ ap array (ap (map string_bytes) c.as_slice.ensures.value ∙ c.in_ok-faults.ensures))
    (c.in_ok-warned.ensures
    ∙ ap (λ (ls : List (List ℕ)). array (items_in Line ls))
    (shown (λ line. line.now) c.as_slice-2.result.now c.in_ok-lines.lines.items all c.as_slice-2.ensures.value c.in_ok-lines.ensures))
    c.in_ok-format.ensures.ok
