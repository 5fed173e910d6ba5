use Rattle.std.proofs.Common.{string_bytes}
use Rattle.xa_names.proofs.LineLemmas.{all_joined}
use Rattle.xa_names.proofs.lines.line_renamed.Goals as goal

pub returns : goal.returns
returns c =
    all_joined string_bytes (λ word. word.now) c.args.name.now c.args.line.now (string_bytes c.in_ok-join.field-0) c.as_slice-2.result.now
    c.in_ok-texts.texts.items c.as_slice.result.now c.in_ok-words.words.items c.in_ok-join.ensures.ok c.as_slice-2.ensures.value
    c.in_ok-texts.ensures c.as_slice.ensures.value c.in_ok-words.ensures
