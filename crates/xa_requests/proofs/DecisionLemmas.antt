-- What several words name, of which the last is of another kind.
use Rattle.std.proofs.Common.{◌≡◌, ◌∙◌, ℕ, ◌-◌, ◌<◌, List, length, get_or, take, map, Some, refl, sym, ap, arith}
use Rattle.std.specs.Borrow.{Bor}
use Rattle.std.specs.Prelude.{slice_get, option_and_then, option_map}
use Rattle.std.proofs.lemmas.List.{length-map, take-map}
use Rattle.std.proofs.lemmas.Option.{slice_get-map, slice_get-get_or}
use Rattle.xa_base.specs.declared.branch.Gtrid.{Gtrid}
use Rattle.xa_base.specs.declared.step.Outcome.{Outcome}
use Rattle.xa_requests.specs.Decisions.{decide_request, some_gtrids}
use Rattle.xa_files.specs.Words.{outcome_named}
use Rattle.xa_requests.specs.declared.request.Request.TheVariants as requests
use Rattle.xa_requests.proofs.EachLemmas.{texts}

module _ (words : List (Bor (List ℕ))) (d : Bor (List ℕ)) where
  named_before : (gtrids : List Gtrid) → Some gtrids ≡ some_gtrids (texts (take (length words - 1) words))
      → some_gtrids (take (length (texts words) - 1) (texts words)) ≡ Some gtrids
  named_before gtrids named =
      ap (λ n. some_gtrids (take (n - 1) (texts words))) (length-map words (λ word. word.now))
      ∙ ap some_gtrids (take-map (λ word. word.now) (length words - 1) words) ∙ sym named

  named_last : (outcome : Outcome) → 0 < length words → Some outcome ≡ outcome_named (get_or words (length words - 1) d).now
      → option_and_then outcome_named (slice_get (texts words) (length (texts words) - 1)) ≡ Some outcome
  named_last outcome some named =
      ap (λ n. option_and_then outcome_named (slice_get (texts words) (n - 1))) (length-map words (λ word. word.now))
      ∙ ap (option_and_then outcome_named) (slice_get-map (λ word. word.now) words (length words - 1)
      ∙ ap (option_map (λ word. word.now)) (slice_get-get_or words (length words - 1) d (omega arith)))
      ∙ sym named

  -- the last word names the outcome, and the others the transactions
  pub decided : (gtrids : List Gtrid) (outcome : Outcome) → 0 < length words
      → Some gtrids ≡ some_gtrids (texts (take (length words - 1) words)) → Some outcome ≡ outcome_named (get_or words (length words - 1) d).now
      → Some (requests.Decide gtrids outcome) ≡ decide_request (texts words)
  unfolding decide_request
  decided gtrids outcome some before last = rw (named_before gtrids before, named_last outcome some last) refl
