-- Files that are read in turn.
use Rattle.std.proofs.Common.{◌≡◌, ◌∙◌, ℕ, ◌+◌, ◌<◌, ◌≤◌, true, List, [], ◌∷◌, ◌++◌, length, get_or, drop, Option, Some, None, Result, Ok, Err, All, arith, map, inl, inr, ◌⊎◌, refl, sym, ap, subst, append_assoc, append-nil, drop_of_length-le}
use Rattle.std.proofs.lemmas.Bool.{and_parts, eqb-true}
use Rattle.std.proofs.lemmas.List.{drop_more, get_or-map, length-map}
use Rattle.std.proofs.lemmas.List.Elements.{All-cons, All-get_or, All-head, All-nil, All-push, All-tail}
use Rattle.toml.specs.Data.{item}
use Rattle.toml.specs.View.{view, items_view}
use Rattle.toml.specs.declared.value.Value.{Value}
use Rattle.toml.proofs.Views.{items_view-drop}
use Rattle.xa_base.specs.declared.limits.TheConstants.{MAX_RMS, MAX_THREADS}
use Rattle.xa_scenario_file.specs.Branches.{BegunNames}
use Rattle.xa_scenario_file.specs.Files.{AreOfOneSize, Earlier, file_after, file_then, files_from, is_alike, names_with, with_plan}
use Rattle.xa_scenario_file.specs.Scenarios.{IsSize, IsSized, Plan, names_after}
use Rattle.xa_files.specs.Reading.{Fails}
use Rattle.xa_files.specs.declared.fault.RunFault.{RunFault}
use Rattle.xa_files.specs.declared.fault.RunFault.TheVariants.{Memory}
use Rattle.xa_scenario_file.specs.declared.files.FileFault.{FileFault}

-- ** the names of one file

-- those of an item in the list, and those after it
pub names_more : (begun : BegunNames) (vs : List Value) (i : ℕ) (v : Value) → i < length vs → v ≡ get_or vs i v
    → names_with (names_after begun (view v)) (items_view (drop (i + 1) vs)) ≡ names_with begun (items_view (drop i vs))
unfolding names_with
names_more begun vs i v within is =
    sym (ap (names_with begun) (items_view-drop vs i v within ∙ ap (λ w. item (view w) (items_view (drop (i + 1) vs))) (sym is)))

pub names_end : (begun : BegunNames) (vs : List Value) (i : ℕ) → length vs ≤ i → names_with begun (items_view (drop i vs)) ≡ begun
unfolding names_with
names_end begun vs i past = ap (λ ds. names_with begun (items_view ds)) (drop_of_length-le vs past)

-- ** files in turn

-- a text in the list, and those after it
pub at_file : {X : Type 0} (f : X → List ℕ) (xs : List X) (i : ℕ) (x : X) → i < length xs → x ≡ get_or xs i x
    → map f (drop i xs) ≡ f x ∷ map f (drop (i + 1) xs)
at_file f xs i x within is = ap (map f) (drop_more xs i x within) ∙ ap (λ y. f y ∷ map f (drop (i + 1) xs)) (sym is)

-- what a fault tells of a text
pub by_fault : (fault : RunFault) (read : Result (Plan × Earlier) RunFault) → Fails fault read → (fault ≡ Memory) ⊎ (read ≡ Err fault)
by_fault Memory read h = inl refl
by_fault fault read h = inr h

abbrev pub with_plans : List Plan → Result (List Plan) FileFault → Result (List Plan) FileFault
with_plans front (Ok plans) = Ok (front ++ plans)
with_plans front (Err fault) = Err fault

joined : (front : List Plan) (plan : Plan) (read : Result (List Plan) FileFault)
    → with_plans front (with_plan plan read) ≡ with_plans (front ++ plan ∷ []) read
joined front plan (Ok plans) = ap Ok (sym (append_assoc front (plan ∷ []) plans))
joined front plan (Err e) = refl

pub file_read : (front : List Plan) (plan : Plan) (place : ℕ) (earlier next : Earlier) (text : List ℕ) (texts : List (List ℕ))
    (all : Result (List Plan) FileFault)
    → file_after earlier text ≡ Ok (plan, next) → with_plans front (files_from place earlier (text ∷ texts)) ≡ all
    → with_plans (front ++ plan ∷ []) (files_from (place + 1) next texts) ≡ all
unfolding files_from
file_read front plan place earlier next text texts all is so_far =
    let others = files_from (place + 1) next texts in
    let step : files_from place earlier (text ∷ texts) ≡ with_plan plan others =
    ap (λ r. file_then place r (λ after. files_from (place + 1) after texts)) is in
    sym (joined front plan others) ∙ ap (with_plans front) (sym step) ∙ so_far

pub file_refused : (front : List Plan) (fault : RunFault) (place : ℕ) (earlier : Earlier) (text : List ℕ) (texts : List (List ℕ))
    (all : Result (List Plan) FileFault)
    → file_after earlier text ≡ Err fault → with_plans front (files_from place earlier (text ∷ texts)) ≡ all
    → all ≡ Err (let e : FileFault = record { file = place; fault = fault } in e)
unfolding files_from
file_refused front fault place earlier text texts all is so_far =
    let step : files_from place earlier (text ∷ texts) ≡ Err (let e : FileFault = record { file = place; fault = fault } in e) =
    ap (λ r. file_then place r (λ after. files_from (place + 1) after texts)) is in
    sym so_far ∙ ap (with_plans front) step

pub files_end : (front : List Plan) (place : ℕ) (earlier : Earlier) (all : Result (List Plan) FileFault)
    → with_plans front (files_from place earlier []) ≡ all → all ≡ Ok front
unfolding files_from
files_end front place earlier all so_far = sym so_far ∙ ap Ok (append-nil front)

-- ** their sizes

-- they are of this size, if one was read
abbrev pub AreOfSize : Option (ℕ × ℕ) → List Plan → Type 0
AreOfSize None plans = plans ≡ []
AreOfSize (Some size) plans =
    IsSize MAX_THREADS size.0 × IsSize MAX_RMS size.1 × All (λ (plan : Plan). (plan.threads ≡ size.0) × (plan.rms ≡ size.1)) plans

pub of_size_more : (size : Option (ℕ × ℕ)) (plans : List Plan) (plan : Plan) → AreOfSize size plans → is_alike size plan.threads plan.rms ≡ true → IsSized plan
    → AreOfSize (Some (plan.threads, plan.rms)) (plans ++ plan ∷ [])
of_size_more None plans plan none same sized =
    let Q : Plan → Type 0 = λ p. (p.threads ≡ plan.threads) × (p.rms ≡ plan.rms) in
    (sized.threads, sized.rms, subst (λ ps. All Q (ps ++ plan ∷ [])) (sym none) (All-cons Q plan [] (refl, refl) (All-nil Q)))
of_size_more (Some size) plans plan each same sized =
    let Q : ℕ × ℕ → Plan → Type 0 = λ n p. (p.threads ≡ n.0) × (p.rms ≡ n.1) in
    let parts = and_parts _ _ same in
    let threads = eqb-true plan.threads size.0 parts.0 in
    let rms = eqb-true plan.rms size.1 parts.1 in
    let all = subst (λ r. All (Q (plan.threads, r)) plans) (sym rms) (subst (λ t. All (Q (t, size.1)) plans) (sym threads) each.2) in
    (sized.threads, sized.rms, All-push (Q (plan.threads, plan.rms)) plans plan all (refl, refl))

-- so they are for one system; no plan at all is for any
pub are_alike : (size : Option (ℕ × ℕ)) (plans : List Plan) → AreOfSize size plans → AreOfOneSize plans
are_alike None plans none = record {
  threads = 1;
  rms = 1;
  some_threads = (omega arith, omega arith);
  some_rms = (omega arith, omega arith);
  each = subst (λ ps. All (λ (plan : Plan). (plan.threads ≡ 1) × (plan.rms ≡ 1)) ps) (sym none) (All-nil _);
}
are_alike (Some size) plans each = record { threads = size.0; rms = size.1; some_threads = each.0; some_rms = each.1; each = each.2 }

-- each of them is sized, and as large as the first
sized_by : (threads rms : ℕ) → IsSize MAX_THREADS threads → IsSize MAX_RMS rms → (plan : Plan) → (plan.threads ≡ threads) × (plan.rms ≡ rms) → IsSized plan
sized_by threads rms some_threads some_rms plan is =
    record { threads = subst (IsSize MAX_THREADS) (sym is.0) some_threads; rms = subst (IsSize MAX_RMS) (sym is.1) some_rms }

pub sized_first : (plan : Plan) (plans : List Plan) → AreOfOneSize (plan ∷ plans) → IsSized plan
sized_first plan plans alike =
    sized_by alike.threads alike.rms alike.some_threads alike.some_rms plan
    (All-head (λ (p : Plan). (p.threads ≡ alike.threads) × (p.rms ≡ alike.rms)) plan plans alike.each)

module _ {X : Type 0} (f : X → Plan) (plan : Plan) (later : List X) (i : ℕ) (x : X) (alike : AreOfOneSize (plan ∷ map f later)) (within : i < length later)
    (is : x ≡ get_or later i x) where
  abbrev Q : Plan → Type 0
  Q p = (p.threads ≡ alike.threads) × (p.rms ≡ alike.rms)

  at_later : ((f x).threads ≡ alike.threads) × ((f x).rms ≡ alike.rms)
  at_later =
      let there = All-get_or Q (map f later) i (f x) (omega (arith, within, length-map later f)) (All-tail Q plan (map f later) alike.each) in
      subst Q (get_or-map f later i x (f x) within ∙ ap f (sym is)) there

  pub sized_later : IsSized (f x)
  sized_later = sized_by alike.threads alike.rms alike.some_threads alike.some_rms (f x) at_later

  pub as_large : (f x).rms ≡ plan.rms
  as_large = at_later.1 ∙ sym (All-head Q plan (map f later) alike.each).1
