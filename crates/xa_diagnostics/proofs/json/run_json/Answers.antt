use Rattle.std.proofs.Common.{codes}
use Rattle.std.specs.Str.Lines.{lines}
use Rattle.xa_diagnostics.specs.Json.{array, items_in}
use Rattle.xa_diagnostics.specs.declared.json.Item.TheVariants.{Branch, Event}
use Rattle.xa_diagnostics.proofs.JsonLemmas.{pieces_2}
use Rattle.xa_diagnostics.proofs.json.run_json.Goals as goal

pub returns-then-with_trace : goal.returns-then-with_trace
returns-then-with_trace c =
    let all = lines c.args.printed.now in
    let p = pieces_2 (codes "{\"events\":") (array (items_in Event all)) (codes ",\"branches\":") (array (items_in Branch all)) (codes "}\n") in
    rw c.if-with_trace.true
    (cc (
      c.in_ok-format.ensures.ok,
      c.in_ok-events.ensures,
      c.in_ok-branches.ensures,
      c.as_slice.ensures.value,
      c.as_slice-then-with_trace.ensures.value,
      c.in_ok-lines.ensures,
    ))
