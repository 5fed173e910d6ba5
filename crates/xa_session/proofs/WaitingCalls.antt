-- The calls that wait on a line of a session, in histories.
use Rattle.std.proofs.Common.{◌≡◌, ◌+◌, arith, ℕ, suc, true, List, [], ◌∷◌, ◌++◌, map, Option, Some, None, refl, sym, ap, ◌∙◌, length}
use Rattle.std.specs.Prelude.{if◌then◌else◌, slice_get}
use Rattle.std.specs.Option.{option_and_then, option_map}
use Rattle.std.proofs.lemmas.List.{length-map}
use Rattle.std.proofs.lemmas.Option.{slice_get-map}
use Rattle.xa_base.proofs.Options.{some_is}
use Rattle.xa_line.specs.Grid.{HasLine, grid_has_line, line_at}
use Rattle.xa_line.specs.Histories.{known as known_call, known_answered}
use Rattle.xa_line.specs.Traffic.{answered, calls_issued, calls_taken}
use Rattle.xa_line.proofs.TrafficLaws.{next_call_waits, same_length}
use Rattle.xa_model.specs.Facts as facts
use Rattle.xa_model.specs.Trace.{Trace, line}
use Rattle.xa_monitor.specs.Agreement.{waiting_call_at}
use Rattle.xa_session.specs.Following.{StandsIn}
use Rattle.xa_session.specs.Session.{known_at, known_waiting}
use Rattle.xa_session.specs.declared.session.Session.{Session}

-- what waits first, as a history knows it
known_first : {A B : Type 0} (f : A → Option B) (o : Option A) (x : Option B) → option_map f o ≡ option_map Some x → x ≡ option_and_then f o
known_first f None None e = refl
known_first f None (Some b) e = absurd (cc)
known_first f (Some a) None e = absurd (cc)
known_first f (Some a) (Some b) e = sym (some_is (f a) (Some b) e)

-- the call that waits first on a line of a session does by each history in which the session stands
pub first_waits : {L : Type 0} (s : Session L) (tr : Trace) (t r : ℕ) → StandsIn tr s → HasLine s.lines t r → grid_has_line s.lines t r ≡ true
    → facts.next_call tr (line t r) ≡ known_waiting s.lines t r
first_waits s tr t r stands has there =
    let at = line_at s.lines t r in
    known_first known_call (slice_get at.calls.waiting 0) _ (next_call_waits tr (line t r) at (stands.lines t r has))
    ∙ ap (λ b. option_and_then known_call (if b then slice_get at.calls.waiting 0 else None)) (sym there)

-- so many items further on, after those that are gone
get_behind : {A : Type 0} (xs ys : List A) (n : ℕ) → slice_get (xs ++ ys) (length xs + n) ≡ slice_get ys n
get_behind [] ys n = ap (slice_get ys) (let same : 0 + n ≡ n = omega arith in same)
get_behind (x ∷ xs) ys n =
    ap (slice_get (x ∷ (xs ++ ys))) (let same : suc (length xs) + n ≡ suc (length xs + n) = omega arith in same) ∙ get_behind xs ys n

-- and so does each call after it
pub call_waits : {L : Type 0} (s : Session L) (tr : Trace) (t r n : ℕ) → StandsIn tr s → HasLine s.lines t r → grid_has_line s.lines t r ≡ true
    → waiting_call_at tr (line t r) n ≡ known_at s.lines t r n
call_waits s tr t r n stands has there =
    let l = line t r in
    let at = line_at s.lines t r in
    let here = stands.lines t r has in
    let gone : length (facts.taken tr l) ≡ length (calls_taken at) =
    sym (same_length known_answered (answered at) (facts.taken tr l) here.all_answered)
    ∙ sym (ap length here.each_answered ∙ length-map (answered at) (λ p. p.0)) in
    let same : option_map known_call (slice_get at.calls.waiting n) ≡ option_map Some (waiting_call_at tr l n) =
    ap (option_map known_call) (sym (get_behind (calls_taken at) at.calls.waiting n))
    ∙ sym (slice_get-map known_call (calls_issued at) (length (calls_taken at) + n))
    ∙ ap (λ m. slice_get (map known_call (calls_issued at)) (m + n)) (sym gone) ∙ ap (λ zs. slice_get zs (length (facts.taken tr l) + n)) here.all_issued
    ∙ slice_get-map Some (facts.issued tr l) (length (facts.taken tr l) + n) in
    known_first known_call (slice_get at.calls.waiting n) (waiting_call_at tr l n) same
    ∙ ap (λ b. option_and_then known_call (if b then slice_get at.calls.waiting n else None)) (sym there)
