use Rattle.std.proofs.Common.{◌∙◌, ℕ, List, [], ◌∷◌, ◌++◌, ap, string_bytes}
use Rattle.xa_diagnostics.proofs.JsonLemmas.{joined}
use Rattle.xa_diagnostics.proofs.json.array.Goals as goal

pub returns : goal.returns
returns c =
    c.in_ok-format.ensures.ok
    ∙ ap (λ (t : List ℕ). 91 ∷ (t ++ (93 ∷ []))) (c.in_ok-told.ensures.ok ∙ joined string_bytes c.args.items.now)
