-- Texts that are cut at both ends.
use Rattle.std.proofs.Common.{◌≡◌, ◌≢◌, ◌∙◌, ◌++◌, ℕ, List, Option, None, Some, IfNone, IfSome, ap, sym}
use Rattle.std.proofs.lemmas.List.{append_cancel_left}
use Rattle.std.specs.Option.{MatchOption}
use denote.Ref.{Bor}

module _ (text first rest last : List ℕ) (begins : text ≡ first ++ rest) where
  -- what is left is what stands between the two
  pub between : (cut : Option (Bor (List ℕ))) → MatchOption cut ((front : List ℕ) → rest ≢ front ++ last) (λ x. rest ≡ x.now ++ last)
      → IfSome cut (λ x. text ≡ first ++ (x.now ++ last))
  between None ends = tt
  between (Some x) ends = begins ∙ ap (λ t. first ++ t) ends

  -- where nothing is left, no text stands between them
  pub none_between : (cut : Option (Bor (List ℕ))) → MatchOption cut ((front : List ℕ) → rest ≢ front ++ last) (λ x. rest ≡ x.now ++ last)
      → IfNone cut ((label : List ℕ) → text ≢ first ++ (label ++ last))
  none_between None ends = λ label is. ends label (append_cancel_left first rest (label ++ last) (sym begins ∙ is))
  none_between (Some x) ends = tt
