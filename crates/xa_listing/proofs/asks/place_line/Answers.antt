use Rattle.std.proofs.Common.{◌≡◌, ◌∙◌, List, ℕ, ◌++◌, codes, ap, sym, append_assoc}
use Rattle.std.specs.Fmt.{decimal}
use Rattle.xa_base.specs.Branch.{xid_of_branch}
use Rattle.xa_base.specs.Xid.{text_of}
use Rattle.xa_listing.proofs.asks.place_line.Goals as goal

five_pieces : {t f n : List ℕ} (a b d e g : List ℕ) → n ≡ b → f ≡ a ++ (n ++ d) → t ≡ f ++ (e ++ g) → t ≡ a ++ b ++ d ++ e ++ g
five_pieces a b d e g name front is =
    is ∙ ap (λ x. x ++ (e ++ g)) (front ∙ ap (λ x. a ++ (x ++ d)) name ∙ sym (append_assoc a b d)) ∙ sym (append_assoc (a ++ b ++ d) e g)

pub returns-clause-text : goal.returns-clause-text
returns-clause-text c =
    let branch = c.args.branch.now in
    five_pieces (codes "    ") (text_of (xid_of_branch branch)) (codes " at resource manager ") (decimal branch.rm) (codes "\n")
    (c.in_ok-name.ensures ∙ ap text_of c.xid.ensures) c.in_ok-front.ensures.ok c.in_ok-format.ensures.ok
