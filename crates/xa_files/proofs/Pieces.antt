-- The pieces of a line, as a write of it gives them.
use Rattle.std.proofs.Common.{◌≡◌, ◌∙◌, ℕ, List, ◌++◌, sym, append_assoc}

pub four_pieces : (a b d e : List ℕ) → a ++ (b ++ (d ++ e)) ≡ a ++ b ++ d ++ e
four_pieces a b d e = sym (append_assoc a b (d ++ e)) ∙ sym (append_assoc (a ++ b) d e)

pub six_pieces : (a b d e f h : List ℕ) → a ++ (b ++ (d ++ (e ++ (f ++ h)))) ≡ a ++ b ++ d ++ e ++ f ++ h
six_pieces a b d e f h =
    sym (append_assoc a b (d ++ (e ++ (f ++ h)))) ∙ sym (append_assoc (a ++ b) d (e ++ (f ++ h)))
    ∙ sym (append_assoc (a ++ b ++ d) e (f ++ h)) ∙ sym (append_assoc (a ++ b ++ d ++ e) f h)
