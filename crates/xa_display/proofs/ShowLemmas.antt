-- What is shown, by other names of the same.
use Rattle.std.proofs.Common.{◌≡◌, ◌∙◌, ℕ, List, length, Option, Result, Ok, Err, OnOk, ap, subst}
use Rattle.std.specs.Io.KnownBytes.{Appends}
use Rattle.xa_base.specs.Xid.{Xid}
use Rattle.xa_base.specs.declared.reply.Event.{Event}
use Rattle.xa_base.specs.declared.state.Fate.{Fate}
use Rattle.xa_chart.specs.Pictures.{IsPicture}
use Rattle.xa_story.specs.Naming.{Naming, with_events}
use Rattle.xa_story.specs.Stories.{IsSpelled, IsStory, TellEvents}
use Rattle.xa_story.specs.declared.line.StoryLine.{StoryLine}

-- what follows, if a function succeeded
pub on_ok : {A E P Q : Type 0} (r : Result A E) → OnOk r P → (P → Q) → OnOk r Q
on_ok (Ok x) p f = f p
on_ok (Err e) p f = p

pub names_as : {k n m : Naming} {es fs : List Event} → k ≡ with_events n es → n ≡ m → es ≡ fs → k ≡ with_events m fs
names_as {m = m} {es = es} is names events = is ∙ ap (λ x. with_events x es) names ∙ ap (with_events m) events

pub told_as : {n m : Naming} {es fs : List Event} (ls : List StoryLine) → n ≡ m → es ≡ fs → TellEvents n 1 es ls → TellEvents m 1 fs ls
told_as {m = m} {es = es} ls names events told =
    subst (λ x. TellEvents m 1 x ls) events (subst (λ x. TellEvents x 1 es ls) names told)

pub spelled_as : {n m : Naming} {ls ks : List StoryLine} {fs gs : List (Xid × Fate)} (text : List ℕ) → n ≡ m → ls ≡ ks → fs ≡ gs
    → IsSpelled n ls fs text → IsSpelled m ks gs text
spelled_as {m = m} {ls = ls} {ks = ks} {fs = fs} text names lines fates is =
    subst (λ x. IsSpelled m ks x text) fates (subst (λ x. IsSpelled m x fs text) lines (subst (λ x. IsSpelled x ls fs text) names is))

pub story_as : {ns ms : List (List ℕ)} {es fs : List Event} {gs hs : List (Xid × Fate)} (text : List ℕ) → ns ≡ ms → es ≡ fs → gs ≡ hs
    → IsStory ns es gs text → IsStory ms fs hs text
story_as {ms = ms} {es = es} {fs = fs} {gs = gs} text names events fates is =
    subst (λ x. IsStory ms fs x text) fates (subst (λ x. IsStory ms x gs text) events (subst (λ x. IsStory x es gs text) names is))

pub writes_as : (old new : Option (List ℕ)) {a b : List ℕ} → a ≡ b → Appends old new a → Appends old new b
writes_as old new same writes = subst (λ x. Appends old new x) same writes

pub picture_as : (t r : ℕ) (p : List ℕ) {es fs : List Event} → es ≡ fs → IsPicture t r (length es) p → IsPicture t r (length fs) p
picture_as t r p same is = subst (λ x. IsPicture t r (length x) p) same is
