use Rattle.std.proofs.Common.{◌≡◌, ◌∙◌, ℕ, List, ◌++◌, codes, ap, sym, append_assoc}
use Rattle.std.specs.Fmt.{decimal}
use Rattle.xa_base.specs.Branch.{xid_of_branch}
use Rattle.xa_base.specs.Xid.{text_of}
use Rattle.xa_listing.specs.Ends.{own_end_text, lists_decision}
use Rattle.xa_listing.proofs.asks.heuristic_text.Goals as goal

six_pieces : {t n w : List ℕ} (a b d e f g : List ℕ) → n ≡ a → w ≡ f → t ≡ n ++ (b ++ (d ++ (e ++ (w ++ g)))) → t ≡ a ++ b ++ d ++ e ++ f ++ g
six_pieces {w = w} a b d e f g name what is =
    is ∙ ap (λ x. x ++ (b ++ (d ++ (e ++ (w ++ g))))) name ∙ ap (λ x. a ++ (b ++ (d ++ (e ++ (x ++ g))))) what
    ∙ sym (append_assoc a b (d ++ (e ++ (f ++ g)))) ∙ sym (append_assoc (a ++ b) d (e ++ (f ++ g)))
    ∙ sym (append_assoc (a ++ b ++ d) e (f ++ g)) ∙ sym (append_assoc (a ++ b ++ d ++ e) f g)

pub returns-clause-text : goal.returns-clause-text
returns-clause-text c =
    let row = c.args.row.now in
    let has = lists_decision c.args.decisions.now row.0.gtrid in
    six_pieces (text_of (xid_of_branch row.0)) (codes " was ended by resource manager ") (decimal row.0.rm) (codes " itself: ") (own_end_text row.1 has)
    (codes "\n") (c.in_ok-name.ensures ∙ ap text_of c.xid.ensures) (c.own_end_text-what.ensures ∙ ap (own_end_text row.1) c.lists_decision.ensures)
    c.in_ok-format.ensures.ok
