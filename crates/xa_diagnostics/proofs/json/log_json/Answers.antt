use Rattle.std.proofs.Common.{◌≡◌, ◌∙◌, codes, List, ℕ, ap}
use Rattle.std.specs.Str.Lines.{lines}
use Rattle.xa_diagnostics.specs.Json.{array, first_or_null, items_in}
use Rattle.xa_diagnostics.specs.declared.json.Item.TheVariants.{Branch, Decision, Incarnation, Name, Rm}
use Rattle.xa_diagnostics.proofs.JsonLemmas.{shown, text_5}
use Rattle.xa_diagnostics.proofs.json.log_json.Goals as goal

pub returns : goal.returns
returns c =
    let all = lines c.args.printed.now in
    let are = c.in_ok-lines.lines.items in
    text_5 (codes "{\"name\":") (codes ",\"rms\":") (codes ",\"incarnation\":") (codes ",\"decisions\":") (codes ",\"heuristics\":") (codes "}\n")
    (c.in_ok-name.ensures ∙ ap (λ (ls : List (List ℕ)). first_or_null (items_in Name ls))
    (shown (λ line. line.now) c.as_slice.result.now are all c.as_slice.ensures.value c.in_ok-lines.ensures))
    (c.in_ok-rms.ensures ∙ ap (λ (ls : List (List ℕ)). array (items_in Rm ls))
    (shown (λ line. line.now) c.as_slice-2.result.now are all c.as_slice-2.ensures.value c.in_ok-lines.ensures))
    (c.in_ok-incarnation.ensures ∙ ap (λ (ls : List (List ℕ)). first_or_null (items_in Incarnation ls))
    (shown (λ line. line.now) c.as_slice-3.result.now are all c.as_slice-3.ensures.value c.in_ok-lines.ensures))
    (c.in_ok-decisions.ensures ∙ ap (λ (ls : List (List ℕ)). array (items_in Decision ls))
    (shown (λ line. line.now) c.as_slice-4.result.now are all c.as_slice-4.ensures.value c.in_ok-lines.ensures))
    (c.in_ok-ends.ensures ∙ ap (λ (ls : List (List ℕ)). array (items_in Branch ls))
    (shown (λ line. line.now) c.as_slice-5.result.now are all c.as_slice-5.ensures.value c.in_ok-lines.ensures))
    c.in_ok-format.ensures.ok
