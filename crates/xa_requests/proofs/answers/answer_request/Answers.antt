use Rattle.std.proofs.Common.{◌≡◌, ℕ, ◌<◌, List, [], ◌∷◌, length, map, None, refl, arith, Bor}
use Rattle.xa_requests.specs.Answers.{answer_request}
use Rattle.xa_requests.proofs.answers.answer_request.Goals as goal

-- fewer than three words ask for nothing
too_few : (words : List (Bor (List ℕ))) → length words < 3 → None ≡ answer_request (map (λ word. word.now) words)
unfolding answer_request
too_few [] h = refl
too_few (a ∷ []) h = refl
too_few (a ∷ b ∷ []) h = refl
too_few (a ∷ b ∷ d ∷ words) h = absurd (omega (arith, h))

pub returns-in_default : goal.returns-in_default
returns-in_default c = too_few c.args.words.now (omega (arith, c.in_default.len_below))
