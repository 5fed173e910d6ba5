use Rattle.std.proofs.Common.{◌≡◌, ◌∙◌, List, ℕ, ◌++◌, codes, ap, sym, append_assoc}
use Rattle.xa_base.specs.Branch.{gtrid_text}
use Rattle.xa_listing.specs.Asks.{waits_text}
use Rattle.xa_listing.proofs.asks.waits_line.Goals as goal

four_pieces : {t n w : List ℕ} (a b d e : List ℕ) → n ≡ a → w ≡ d → t ≡ n ++ (b ++ (w ++ e)) → t ≡ a ++ b ++ d ++ e
four_pieces {w = w} a b d e name waits is =
    is ∙ ap (λ x. x ++ (b ++ (w ++ e))) name ∙ ap (λ x. a ++ (b ++ (x ++ e))) waits ∙ sym (append_assoc a b (d ++ e)) ∙ sym (append_assoc (a ++ b) d e)

pub returns-clause-text : goal.returns-clause-text
returns-clause-text c =
    four_pieces (gtrid_text c.args.g) (codes " is decided to commit, and its row ") (waits_text c.args.count) (codes "\n") c.in_ok-name.ensures
    c.in_ok-waits.ensures.text c.in_ok-format.ensures.ok
