use Rattle.std.proofs.Common.{codes}
use Rattle.xa_diagnostics.specs.Json.{json_word_of, quoted, rest_of}
use Rattle.xa_diagnostics.proofs.JsonLemmas.{pieces_2}
use Rattle.xa_diagnostics.proofs.json.decision.Goals as goal

pub returns : goal.returns
returns c =
    let line = c.args.line.now in
    let p = pieces_2 (codes "{\"transaction\":") (quoted (json_word_of line)) (codes ",\"branches\":") (rest_of line) (codes "}") in
    cc (c.in_ok-format.ensures.ok, c.in_ok-name.ensures, c.cut.ensures.word, c.cut.ensures.rest)
