-- The pieces of a text, as a write of it gives them.
use Rattle.std.proofs.Common.{◌≡◌, ◌∙◌, ℕ, List, ◌++◌, sym, append_assoc}

pub six_pieces : {t : List ℕ} (a b d e f h : List ℕ) → t ≡ a ++ (b ++ (d ++ (e ++ (f ++ h)))) → t ≡ a ++ b ++ d ++ e ++ f ++ h
six_pieces a b d e f h is =
    is ∙ sym (append_assoc a b (d ++ (e ++ (f ++ h)))) ∙ sym (append_assoc (a ++ b) d (e ++ (f ++ h)))
    ∙ sym (append_assoc (a ++ b ++ d) e (f ++ h)) ∙ sym (append_assoc (a ++ b ++ d ++ e) f h)
