-- Texts that go on, and what they tell.
use Rattle.std.proofs.Common.{◌≡◌, ◌∙◌, ℕ, ◌<◌, zero, suc, Bool, true, false, List, [], ◌∷◌, ◌++◌, Option, Some, None, ap, ap₂, append_assoc, arith, get_or, inl, length, refl, sym, take}
use Rattle.std.proofs.lemmas.Bool.{or_parts}
use Rattle.std.specs.List.{find, list_any}
use Rattle.std.specs.Prelude.{if◌then◌else◌}
use Rattle.xa_base.specs.declared.branch.Gtrid.{Gtrid}
use Rattle.xa_requests.specs.declared.request.Request.{Request}
use Rattle.xa_conduct.specs.Backing.{TransactionRests}
use Rattle.xa_conduct.specs.Over.{has_calls, is_decided}
use Rattle.xa_conduct.specs.Texts.{next_name_text, calls_text, outcome_text, standing_with_reason, told_text}
use Rattle.xa_conduct.specs.Told.{AddsText, GivesWay, IsToldBy, joined_replies}
use Rattle.xa_conduct.specs.declared.notes.Reply.TheVariants as replies
use Rattle.xa_conduct.specs.declared.part.Part.{Part}
use Rattle.xa_conduct.specs.declared.transaction.Transaction.{Transaction}

-- the first that passes
pub find_here : (p : Part → Bool) (parts : List Part) (k : ℕ) (d : Part) → k < length parts → list_any p (take k parts) ≡ false
    → p (get_or parts k d) ≡ true → find p parts ≡ Some (get_or parts k d)
find_here p [] k d within none is = absurd (omega (arith, within))
find_here p (part ∷ parts) zero d within none is = rw is refl
find_here p (part ∷ parts) (suc k) d within none is =
    let before = or_parts (p part) (list_any p (take k parts)) none in
    let inside : k < length parts = omega (arith, within) in
    rw before.0 (find_here p parts k d inside before.1 is)

pub find_none : (p : Part → Bool) (parts : List Part) → list_any p parts ≡ false → find p parts ≡ None
find_none p [] none = refl
find_none p (part ∷ parts) none =
    let all = or_parts (p part) (list_any p parts) none in
    rw all.0 (find_none p parts all.1)

-- one addition behind the other
pub adds_both : (a b c xs ys : List ℕ) → b ≡ a ++ xs → c ≡ b ++ ys → c ≡ a ++ (xs ++ ys)
adds_both a b c xs ys one other = other ∙ ap (λ z. z ++ ys) one ∙ append_assoc a xs ys

-- what is told: calls; or if there are none, the outcome; or if there is none, that branches began
abbrev chosen : Transaction → (has_calls is_decided : Bool) → List ℕ
chosen t has_calls is_decided = if has_calls then calls_text t.parts.items else if is_decided then outcome_text t else standing_with_reason t.standing

told_chosen : (t : Transaction) → told_text t ≡ chosen t (has_calls t) (is_decided t.standing)
unfolding told_text
told_chosen t = refl

pub told_calls : (t : Transaction) → has_calls t ≡ true → told_text t ≡ calls_text t.parts.items
told_calls t calls = told_chosen t ∙ ap (λ (b : Bool). chosen t b (is_decided t.standing)) calls

pub told_outcome : (t : Transaction) → has_calls t ≡ false → is_decided t.standing ≡ true → told_text t ≡ outcome_text t
told_outcome t none decided = told_chosen t ∙ ap₂ (chosen t) none decided

pub told_standing : (t : Transaction) → has_calls t ≡ false → is_decided t.standing ≡ false → told_text t ≡ standing_with_reason t.standing
told_standing t none undecided = told_chosen t ∙ ap₂ (chosen t) none undecided

-- what is told of the transaction that is noted of a thread, and the name of the next one behind it
pub told_thread : (asked : (Request → Bool) → Bool) (noted now : List Transaction) (thread : ℕ) (t : Transaction) (next : Option Gtrid) (a b c : List ℕ)
    → thread < length noted → t.gtrid ≡ (get_or noted thread t).gtrid → TransactionRests asked t → b ≡ a ++ told_text t → c ≡ b ++ next_name_text next → GivesWay t next (get_or now thread t)
    → AddsText (IsToldBy asked noted now (replies.Thread thread)) a c
told_thread asked noted now thread t next a b c among name rests told begun gives = (
  told_text t ++ next_name_text next,
  adds_both a b c (told_text t) (next_name_text next) told begun,
  inl (record { transaction = t; next = next; among = among; name = name; rests = rests; is = refl; gives = gives }),
)

-- ** one reply behind the other

pub joined_more : (r : List ℕ) (rs : List (List ℕ)) (x : List ℕ) → joined_replies (r ∷ (rs ++ x ∷ [])) ≡ joined_replies (r ∷ rs) ++ (59 ∷ x)
joined_more r [] x = refl
joined_more r (s ∷ rs) x = ap (λ z. r ++ (59 ∷ z)) (joined_more s rs x) ∙ sym (append_assoc r (59 ∷ joined_replies (s ∷ rs)) (59 ∷ x))
