use Rattle.std.proofs.Common.{◌≡◌, ◌∙◌, ap, lit<, map, Ok}
use Rattle.std.proofs.lemmas.Iterator.Consumers.{map_from_collect}
use Rattle.std.proofs.lemmas.Iterator.Splits.{YieldsList-from_str_split}
use Rattle.xa_requests.specs.Words.{words_of}
use Rattle.xa_restore.proofs.DecisionLemmas.{cut_line}
use Rattle.xa_restore.proofs.decision_line.decision_in_line.Goals as goal

pub returns-clause-found : goal.returns-clause-found
unfolding words_of
returns-clause-found c = λ d row is.
    let cut = map_from_collect _ c.collect.ensures.ran
    (YieldsList-from_str_split 32 c.args.line.now (lit< tt) c.split.ensures.text c.split.ensures.has_more c.split.ensures.pattern) in
    let was : c.collect.result ≡ Ok c.in_ok-words.words = c.in_ok-words.was in
    let here = rw was at cut in
    c.decision_in.ensures.found d row (ap (map (λ word. word.now)) c.deref.ensures.value ∙ cut_line c.args.line.now c.in_ok-words.words.items d here is)
