-- What replies to moves say, how transactions give way to the next, and that each comes to an end.
use Rattle.std.proofs.Common.{◌≡◌, ◌∙◌, ◌+◌, ◌*◌, ◌&&◌, ℕ, ◌<◌, ◌≤◌, Bool, true, false, not, List, [], ◌∷◌, ◌++◌, ap, ap₂, append-nil, append_assoc, arith, get_or, inl, inr, length, lit≤, refl, subst, subst₂, sym}
use Rattle.std.proofs.Math.ListN.{set}
use Rattle.std.proofs.lemmas.Bool.{cases_eq}
use Rattle.std.proofs.lemmas.List.{get_or-set_other, get_or-set_same, get_or_default, length-set}
use Rattle.std.proofs.lemmas.List.Sums.{sum_by-le}
use Rattle.std.specs.List.{list_any, sum_by}
use Rattle.std.specs.Prelude.{MatchBool}
use Rattle.xa_conduct.proofs.ProgressLemmas.{all_step_both, one_at_most, steps_both, steps_none}
use Rattle.xa_conduct.proofs.ToldLemmas.{adds_both, joined_more}
use Rattle.xa_conduct.specs.Over.{is_decided, is_all_answered}
use Rattle.xa_conduct.specs.Places.{is_asked, steps_at}
use Rattle.xa_conduct.specs.Progress.{AllStep, Steps, branch_steps, moves_taken, steps_made, steps_of, steps_to}
use Rattle.xa_conduct.specs.Told.{IsSame, AddsText, joined_replies}
use Rattle.xa_conduct.specs.Turns.{AllPass, AreSaid, IsNew, IsSaid, Passes, SaysAll, TransactionsEnd, TurnsOn, Turns, Turns.NoLine, Turns.OneMore}
use Rattle.xa_conduct.specs.declared.notes.Reply.{Reply}
use Rattle.xa_conduct.specs.declared.notes.Reply.TheVariants as replies
use Rattle.xa_conduct.specs.declared.part.Part.{Part}
use Rattle.xa_conduct.specs.declared.place.Place.{Place}
use Rattle.xa_conduct.specs.declared.place.Place.TheVariants.{Working, Preparing, AtOnce, Prepared, Committing, RollingBack, Undoing, Refusing, Forgetting, Over, Owed}
use Rattle.xa_conduct.specs.declared.transaction.Standing.{Standing}
use Rattle.xa_conduct.specs.declared.transaction.Transaction.{Transaction}

-- ** texts

said_push : (told : List Reply) (texts : List (List ℕ)) (reply : Reply) (text : List ℕ) → AreSaid told texts → IsSaid reply text
    → AreSaid (told ++ reply ∷ []) (texts ++ text ∷ [])
said_push [] [] reply text all one = (one, tt)
said_push [] (y ∷ ys) reply text all one = absurd all
said_push (r ∷ rs) [] reply text all one = absurd all
said_push (r ∷ rs) (y ∷ ys) reply text all one = (all.0, said_push rs ys reply text all.1 one)

-- what is told of a transaction, and behind it
pub said_thread : (thread : ℕ) (reply : Reply) (a b c xs ys : List ℕ) → reply ≡ replies.Thread thread → b ≡ a ++ xs → c ≡ b ++ ys
    → AddsText (IsSaid reply) a c
said_thread thread reply a b c xs ys is told behind =
    subst (λ (r : Reply). AddsText (IsSaid r) a c) (sym is) (xs ++ ys, adds_both a b c xs ys told behind, tt)

-- a part and others, of so many replies
pub record SaysSome (told : List Reply) (text : List ℕ) : Type 0 where
  pub first : List ℕ
  pub others : List (List ℕ)
  pub are : text ≡ joined_replies (first ∷ others)
  pub said : AreSaid told (first ∷ others)

-- none was added yet, or some were
abbrev pub SaidSoFar : List Reply → (is_first : Bool) → List ℕ → Type 0
SaidSoFar told is_first text = MatchBool is_first ((told ≡ []) × (text ≡ [])) (SaysSome told text)

pub said_more : (told now : List Reply) (reply : Reply) (is_first : Bool) (a b c : List ℕ) → now ≡ told ++ reply ∷ [] → (is_first ≡ true → b ≡ a)
    → (is_first ≡ false → b ≡ a ++ 59 ∷ []) → SaidSoFar told is_first a → AddsText (IsSaid reply) b c → SaysSome now c
said_more told now reply true a b c is first other none more = record {
  first = more.0;
  others = [];
  are = more.1 ∙ ap (λ z. z ++ more.0) (first refl ∙ none.1);
  said = subst (λ (rs : List Reply). AreSaid rs (more.0 ∷ [])) (sym (is ∙ ap (λ (rs : List Reply). rs ++ reply ∷ []) none.0)) (more.2, tt);
}
said_more told now reply false a b c is first other some more = record {
  first = some.first;
  others = some.others ++ more.0 ∷ [];
  are =
      more.1 ∙ ap (λ z. z ++ more.0) (other refl) ∙ append_assoc a (59 ∷ []) more.0 ∙ ap (λ z. z ++ (59 ∷ more.0)) some.are
      ∙ sym (joined_more some.first some.others more.0);
  said =
      subst (λ (rs : List Reply). AreSaid rs (some.first ∷ (some.others ++ more.0 ∷ []))) (sym is)
      (said_push told (some.first ∷ some.others) reply more.0 some.said more.2);
}

pub said_all : (told now : List Reply) (is_first : Bool) (text : List ℕ) → now ≡ told → SaidSoFar now is_first text → SaysAll told text
said_all told now true text is none = record { texts = []; are = none.1; said = subst (λ (rs : List Reply). AreSaid rs []) (sym none.0 ∙ is) tt }
said_all told now false text is some = record {
  texts = some.first ∷ some.others;
  are = some.are;
  said = subst (λ (rs : List Reply). AreSaid rs (some.first ∷ some.others)) is some.said;
}

-- ** one transaction gives way to the next

over_same : (t u : Transaction) → IsSame t u → is_all_answered u ≡ true → is_all_answered t ≡ true
over_same t u same over =
    ap₂ (λ (s : Standing) (ps : List Part). is_decided s && not (list_any (λ (part : Part). is_asked part.place) ps)) (sym same.standing)
    (sym same.parts)
    ∙ over

pub same_itself : (t : Transaction) → IsSame t t
same_itself t = record { gtrid = refl; standing = refl; parts = refl }

-- whether a line moved it is no matter
pub passes_moved : (t u : Transaction) (moved : Bool) → Passes (record t { has_moved = moved }) u → Passes t u
passes_moved t u moved passes =
    elim passes [
      | inl same ↦ inl (record { gtrid = same.gtrid; standing = same.standing; parts = same.parts })
      | inr ends ↦ inr ends
    ]

pub passes_both : (t u v : Transaction) → Passes t u → Passes u v → Passes t v
passes_both t u v one other =
    elim one [
      | inl same ↦
          elim other [
            | inl also ↦
                inl (record {
                  gtrid = also.gtrid ∙ same.gtrid;
                  standing = also.standing ∙ same.standing;
                  parts = also.parts ∙ same.parts;
                })
            | inr ends ↦ inr (over_same t u same ends.0, ends.1)
          ]
      | inr ends ↦
          elim other [
            | inl also ↦ inr (ends.0, (also.standing ∙ ends.1.0, also.parts ∙ ends.1.1))
            | inr again ↦ inr (ends.0, again.1)
          ]
    ]

pub all_pass_none : (ts : List Transaction) → AllPass ts ts
all_pass_none ts = record { count = refl; each = λ j d inside. inl (same_itself (get_or ts j d)) }

pub all_pass_both : (ts us vs : List Transaction) → AllPass ts us → AllPass us vs → AllPass ts vs
all_pass_both ts us vs one other = record {
  count = other.count ∙ one.count;
  each =
      λ j d inside.
      passes_both (get_or ts j d) (get_or us j d) (get_or vs j d) (one.each j d inside)
      (other.each j d (subst (λ (n : ℕ). j < n) (sym one.count) inside));
}

-- that of one thread does
pub all_pass_set : (ts : List Transaction) (i : ℕ) (from to : Transaction) → i < length ts → from ≡ get_or ts i from → Passes from to
    → AllPass ts (set ts i to)
all_pass_set ts i from to within at passes = record {
  count = length-set ts i to;
  each =
      λ j d inside.
      elim (cases_eq j i) [
        | inl same ↦
            let was : get_or ts j d ≡ from = ap (λ (k : ℕ). get_or ts k d) same ∙ get_or_default ts i d from within ∙ sym at in
            let is : get_or (set ts i to) j d ≡ to = ap (λ (k : ℕ). get_or (set ts i to) k d) same ∙ get_or-set_same ts i to d within in
            subst₂ Passes (sym was) (sym is) passes
        | inr apart ↦
            subst (Passes (get_or ts j d)) (sym (get_or-set_other ts i j to d apart)) (inl (same_itself (get_or ts j d)))
      ];
}

-- ** lines in turn

-- steps are made by moves alone, and what follows from them takes none back
pub line_steps : (told : List Reply) (ts us vs ws zs : List Transaction) → AllStep told ts us → AllStep [] us vs → ws ≡ vs → zs ≡ ws
    → AllStep told ts zs
line_steps told ts us vs ws zs moves follows same also =
    subst (AllStep told ts) (sym (also ∙ same))
    (subst (λ (rs : List Reply). AllStep rs ts vs) (append-nil told) (all_step_both told [] ts us vs moves follows))

steps_same : (n : ℕ) (t u v : Transaction) → Steps n t u → IsSame u v → Steps n t v
steps_same n t u v made same = record {
  same = same.gtrid ∙ made.same;
  made =
      subst (λ (m : ℕ). n + steps_made t ≤ m)
      (sym (ap₂ (λ (s : Standing) (ps : List Part). steps_to s + branch_steps ps) same.standing same.parts)) made.made;
}

pub turns_step : (i : ℕ) (d : Transaction) (n : ℕ) (first last : List Transaction) → i < length first → Turns i d n first last
    → (i < length last) × Steps n (get_or first i d) (get_or last i d)
turns_step i d _ _ _ within (NoLine ts) = (within, steps_none (get_or ts i d))
turns_step i d _ _ _ within (OneMore n first old new text before on start same) =
    let was = turns_step i d n first old within before in
    let goes = on.steps.each i d was.0 start in (
      subst (λ (m : ℕ). i < m) (sym (on.passes.count ∙ on.steps.count)) was.0,
      steps_both n (moves_taken i on.told) (get_or first i d) (get_or old i d) (get_or new i d) was.1
          (steps_same (moves_taken i on.told) (get_or old i d) (get_or on.between i d) (get_or new i d) goes same),
    )

pub four_at_most : (place : Place) → steps_at place ≤ 4
four_at_most Working = lit≤ tt
four_at_most Preparing = lit≤ tt
four_at_most AtOnce = lit≤ tt
four_at_most Prepared = lit≤ tt
four_at_most Committing = lit≤ tt
four_at_most RollingBack = lit≤ tt
four_at_most Undoing = lit≤ tt
four_at_most Refusing = lit≤ tt
four_at_most Forgetting = lit≤ tt
four_at_most Over = lit≤ tt
four_at_most Owed = lit≤ tt

pub ends : TransactionsEnd
ends i d n first last within new turns =
    let goes = (turns_step i d n first last within turns).1 in
    let was = get_or first i d in
    let now = get_or last i d in
    let stood : steps_to was.standing ≡ 0 = ap steps_to new.0 in
    let most : branch_steps now.parts.items ≤ length now.parts.items * 4 =
    sum_by-le steps_of 4 now.parts.items (λ k e inside. four_at_most (get_or now.parts.items k e).place) in
    (goes.same, omega (arith, goes.made, one_at_most now.standing, most))
