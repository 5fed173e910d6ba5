-- Names that are compared.
use Rattle.std.proofs.Common.{◌≡◌, ◌≢◌, ℕ, List, true, false, not, sym, ap, ◌∙◌}
use Rattle.std.proofs.lemmas.Bool.{not-false, true≢false}
use Rattle.std.proofs.lemmas.Slice.Eq.{bytes_eq-Decides}
use Rattle.std.specs.Str.{bytes_eq}

-- texts of which `!=` is false are the same
pub same : (xs ys : List ℕ) → false ≡ not (bytes_eq xs ys) → xs ≡ ys
same xs ys e = (bytes_eq-Decides xs ys).0 (not-false (bytes_eq xs ys) (sym e))

-- and of which it is true are not
pub apart : (xs ys : List ℕ) → true ≡ not (bytes_eq xs ys) → xs ≢ ys
apart xs ys e is = true≢false (e ∙ ap not ((bytes_eq-Decides xs ys).1 is))
