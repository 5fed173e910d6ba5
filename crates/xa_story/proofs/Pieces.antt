-- The pieces of a text, as a write of it gives them.
use Rattle.std.proofs.Common.{◌≡◌, ◌∙◌, ℕ, List, ◌++◌, ap, sym, append_assoc}

pub four_pieces : {t : List ℕ} (a b d e : List ℕ) → t ≡ a ++ (b ++ (d ++ e)) → t ≡ a ++ b ++ d ++ e
four_pieces a b d e is = is ∙ sym (append_assoc a b (d ++ e)) ∙ sym (append_assoc (a ++ b) d e)

pub five_pieces : {t b c : List ℕ} (a d e f : List ℕ) → b ≡ c → t ≡ a ++ (b ++ (d ++ (e ++ f))) → t ≡ a ++ c ++ d ++ e ++ f
five_pieces {b = b} {c = c} a d e f same is =
    is ∙ ap (λ x. a ++ (x ++ (d ++ (e ++ f)))) same
    ∙ sym (append_assoc a c (d ++ (e ++ f))) ∙ sym (append_assoc (a ++ c) d (e ++ f)) ∙ sym (append_assoc (a ++ c ++ d) e f)

pub story_pieces : {t a b l e : List ℕ} (n r : List ℕ) → a ≡ l → b ≡ e → t ≡ a ++ (n ++ (b ++ r)) → t ≡ l ++ n ++ e ++ r
story_pieces {a = a} {b = b} {l = l} {e = e} n r same ends is =
    four_pieces l n e r (is ∙ ap (λ x. x ++ (n ++ (b ++ r))) same ∙ ap (λ x. l ++ (n ++ (x ++ r))) ends)
