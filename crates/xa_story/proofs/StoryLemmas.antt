-- Lines of a story, one after the other.
use Rattle.std.proofs.Common.{◌≡◌, ◌∙◌, ℕ, ◌+◌, ◌<◌, List, [], ◌∷◌, ◌++◌, length, get_or, take, sym, ap, arith, refl, subst, add-zero, append_assoc, append-nil}
use Rattle.std.specs.List.{flat_map}
use Rattle.std.proofs.lemmas.List.{take_more, length-take-le}
use Rattle.xa_base.specs.declared.reply.Event.{Event}
use Rattle.xa_story.specs.Naming.{Naming, with_step, with_events}
use Rattle.xa_story.specs.Stories.{IsToldOf, TellEvents}
use Rattle.xa_story.specs.declared.line.StoryLine.{StoryLine}

with_push : (n : Naming) (events : List Event) (e : Event)
    → with_events n (events ++ e ∷ []) ≡ with_step (with_events n events) e.step e.reply
with_push n [] e = refl
with_push n (f ∷ events) e = with_push (with_step n f.step f.reply) events e

tell_push : (n : Naming) (number : ℕ) (events : List Event) (lines : List StoryLine) (e : Event) (line : StoryLine) → TellEvents n number events lines
    → IsToldOf (with_events n events) (number + length events) e line → TellEvents n number (events ++ e ∷ []) (lines ++ line ∷ [])
tell_push n number [] [] e line told one = (subst (λ m. IsToldOf n m e line) (add-zero number) one, tt)
tell_push n number [] (l ∷ lines) e line told one = absurd told
tell_push n number (f ∷ events) [] e line told one = absurd told
tell_push n number (f ∷ events) (l ∷ lines) e line told one = (
  told.0,
  tell_push (with_step n f.step f.reply) (number + 1) events lines e line told.1
      (subst (λ m. IsToldOf (with_events (with_step n f.step f.reply) events) m e line) (omega arith) one),
)

-- one line more of a story
pub line_more : (n m : Naming) (lines : List StoryLine) (line : StoryLine) (events : List Event) (i : ℕ) (event : Event)
    → i < length events → event ≡ get_or events i event → TellEvents n 1 (take i events) lines → m ≡ with_events n (take i events)
    → IsToldOf m (i + 1) event line → TellEvents n 1 (take (i + 1) events) (lines ++ line ∷ [])
line_more n m lines line events i event within is so_far names one =
    let number : i + 1 ≡ 1 + length (take i events) = omega (arith, length-take-le i events (omega arith)) in
    let here : take (i + 1) events ≡ take i events ++ event ∷ [] =
    take_more events i event within ∙ ap (λ y. take i events ++ y ∷ []) (sym is) in
    subst (λ all. TellEvents n 1 all (lines ++ line ∷ [])) (sym here)
    (tell_push n 1 (take i events) lines event line so_far
    (subst (λ k. IsToldOf (with_events n (take i events)) k event line) number (subst (λ k. IsToldOf k (i + 1) event line) names one)))

-- the names after one event more
pub names_more : (n m : Naming) (events : List Event) (i : ℕ) (event : Event) → i < length events → event ≡ get_or events i event
    → m ≡ with_events n (take i events) → with_step m event.step event.reply ≡ with_events n (take (i + 1) events)
names_more n m events i event within is names =
    ap (λ k. with_step k event.step event.reply) names ∙ sym (with_push n (take i events) event)
    ∙ ap (λ y. with_events n (take i events ++ y ∷ [])) is ∙ ap (with_events n) (sym (take_more events i event within))

flat_push : {A : Type 0} (f : A → List ℕ) (xs : List A) (x : A) → flat_map f (xs ++ x ∷ []) ≡ flat_map f xs ++ f x
flat_push f [] x = append-nil (f x)
flat_push f (y ∷ xs) x = ap (λ t. f y ++ t) (flat_push f xs x) ∙ sym (append_assoc (f y) (flat_map f xs) (f x))

-- the text of one item more of a list
pub text_more : {A : Type 0} (f : A → List ℕ) (xs : List A) (i : ℕ) (x : A) (text more : List ℕ) → i < length xs → x ≡ get_or xs i x
    → text ≡ flat_map f (take i xs) → more ≡ f x → text ++ more ≡ flat_map f (take (i + 1) xs)
text_more f xs i x text more within is so_far same =
    ap (λ t. t ++ more) so_far ∙ ap (λ m. flat_map f (take i xs) ++ m) same ∙ sym (flat_push f (take i xs) x)
    ∙ ap (λ y. flat_map f (take i xs ++ y ∷ [])) is ∙ ap (flat_map f) (sym (take_more xs i x within))
