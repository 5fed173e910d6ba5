-- Lines, one after the other.
use Rattle.std.proofs.Common.{◌≡◌, ◌∙◌, ℕ, ◌+◌, ◌<◌, List, [], ◌∷◌, ◌++◌, length, get_or, take, sym, ap, append_assoc, append-nil, arith, add-zero}
use Rattle.std.proofs.lemmas.List.{take_more, length-take-le}
use Rattle.xa_base.specs.declared.reply.Event.{Event}
use Rattle.xa_scenario.specs.Replies.{trace_line, trace_lines}

lines_push : (number : ℕ) (events : List Event) (event : Event)
    → trace_lines number (events ++ event ∷ []) ≡ trace_lines number events ++ trace_line (number + length events) event
lines_push number [] event = append-nil (trace_line number event) ∙ ap (λ n. trace_line n event) (sym (add-zero number))
lines_push number (e ∷ events) event =
    ap (λ text. trace_line number e ++ text) (lines_push (number + 1) events event)
    ∙ sym (append_assoc (trace_line number e) (trace_lines (number + 1) events) (trace_line (number + 1 + length events) event))
    ∙ ap (λ n. trace_line number e ++ trace_lines (number + 1) events ++ trace_line n event) (omega arith)

-- one line more of a trace
pub line_more : (text more : List ℕ) (events : List Event) (i : ℕ) (event : Event) → i < length events → event ≡ get_or events i event
    → text ≡ trace_lines 1 (take i events) → more ≡ trace_line (i + 1) event → text ++ more ≡ trace_lines 1 (take (i + 1) events)
line_more text more events i event within is so_far same =
    let before = trace_lines 1 (take i events) in
    let number : i + 1 ≡ 1 + length (take i events) = omega (arith, length-take-le i events (omega arith)) in
    ap (λ t. t ++ more) so_far ∙ ap (λ m. before ++ m) (same ∙ ap (λ n. trace_line n event) number)
    ∙ sym (lines_push 1 (take i events) event) ∙ ap (λ y. trace_lines 1 (take i events ++ y ∷ [])) is
    ∙ ap (trace_lines 1) (sym (take_more events i event within))
