use Rattle.std.proofs.Common.{arith, string_bytes}
use Rattle.std.proofs.lemmas.Grind.{common_steps}
use Rattle.std.proofs.lemmas.Iterator.{YieldsList-from_chars}
use Rattle.std.proofs.lemmas.Iterator.Consumers.{YieldsList-end}
use Rattle.xa_diagnostics.proofs.JsonLemmas.{all_escaped}
use Rattle.xa_diagnostics.proofs.json.quoted.Goals as goal

pub returns : goal.returns
returns c =
    let t = YieldsList-end (YieldsList-from_chars c.args.text.now c.utf8.text cc) c.loop-letter.yielded _ c.loop-letter.yielded_by _ _ c.in-None.is
    c.next.ensures.steps in
    let e = all_escaped c.args.text.now (string_bytes c.loop-letter.told) c.loop-letter.yielded t.0 c.loop-letter.invariant in
    grind (arith, common_steps)
