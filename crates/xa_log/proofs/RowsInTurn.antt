-- Decisions that are written together: whose row each transaction then has, and what each is answered.
use Rattle.std.proofs.Common.{◌≡◌, inl, inr, ℕ, zero, suc, ◌<◌, List, [], ◌∷◌, length, take, get_or, Bool, true, false, ◌||◌, cond, Some, None, Option, is_some, refl, sym, ap, ◌∙◌, arith}
use Rattle.std.proofs.lemmas.Bool.{cases_Bool}
use Rattle.std.specs.FinMap.{get, contains_key, get-insert}
use Rattle.std.specs.List.{find, list_any}
use Rattle.std.specs.Option.{option_map}
use Rattle.xa_base.specs.declared.branch.Gtrid.{Gtrid}
use Rattle.xa_base.specs.Branch.{branch_cmp, gtrid_eq}
use Rattle.xa_base.proofs.BranchOrder.{gtrids_total, exact_gtrids}
use Rattle.xa_log.specs.Content.{Content, logged_as, logged_each, with_commits, with_decision}
use Rattle.xa_log.specs.KeySet.{KeySet}
use Rattle.xa_log.specs.declared.decision.Decision.{Decision}
use Rattle.xa_log.specs.declared.decision_log.Logged.{Logged}
use Rattle.xa_base.proofs.Orders.{equal_is}
use Rattle.xa_log.proofs.Together.{waiting, with_one}

-- ** the row of a transaction

-- a decision leaves the rows of other transactions, and a row that is there
row_beside : (d : Decision) (c : Content) (g : Gtrid) → gtrid_eq g d.gtrid ≡ false → get (with_one d c).decisions g ≡ get c.decisions g
row_beside d c g apart = elim (contains_key c.decisions d.gtrid) as (λ t. get (cond t c (with_decision d.gtrid (waiting d) c)).decisions g
    ≡ get c.decisions g) [
      | true ↦ refl
      | false ↦ get-insert gtrids_total c.decisions d.gtrid (waiting d) g ∙ ap (λ t. cond t (Some (waiting d)) (get c.decisions g)) apart
    ]

own_row : (d : Decision) (c : Content) (g : Gtrid) → gtrid_eq g d.gtrid ≡ true → contains_key c.decisions d.gtrid ≡ contains_key c.decisions g
own_row d c g same = ap (λ q. contains_key c.decisions q) (sym (exact_gtrids g d.gtrid (equal_is _ same)))

row_made : (d : Decision) (c : Content) (g : Gtrid) → gtrid_eq g d.gtrid ≡ true → get c.decisions g ≡ None
    → get (with_one d c).decisions g ≡ Some (waiting d)
row_made d c g same none =
    let absent : contains_key c.decisions d.gtrid ≡ false = own_row d c g same ∙ ap is_some none in
    ap (λ t. get (cond t c (with_decision d.gtrid (waiting d) c)).decisions g) absent
    ∙ get-insert gtrids_total c.decisions d.gtrid (waiting d) g ∙ ap (λ t. cond t (Some (waiting d)) (get c.decisions g)) same

row_kept : (d : Decision) (c : Content) (g : Gtrid) (set : KeySet branch_cmp) → get c.decisions g ≡ Some set
    → get (with_one d c).decisions g ≡ Some set
row_kept d c g set has = elim (cases_Bool (gtrid_eq g d.gtrid)) [
  | inl same ↦ (
      let there : contains_key c.decisions d.gtrid ≡ true = own_row d c g same ∙ ap is_some has in
      ap (λ t. get (cond t c (with_decision d.gtrid (waiting d) c)).decisions g) there ∙ has)
  | inr apart ↦ row_beside d c g apart ∙ has
]

pub row_there : (ds : List Decision) (c : Content) (g : Gtrid) (set : KeySet branch_cmp) → get c.decisions g ≡ Some set
    → get (with_commits ds c).decisions g ≡ Some set
row_there [] c g set has = has
row_there (d ∷ ds) c g set has = row_there ds (with_one d c) g set (row_kept d c g set has)

pub first_row : (ds : List Decision) (c : Content) (g : Gtrid) → get c.decisions g ≡ None
    → get (with_commits ds c).decisions g ≡ option_map waiting (find (λ (d : Decision). gtrid_eq g d.gtrid) ds)
first_row [] c g none = none
first_row (d ∷ ds) c g none = elim (cases_Bool (gtrid_eq g d.gtrid)) [
  | inl same ↦ row_there ds (with_one d c) g (waiting d) (row_made d c g same none) ∙ sym (ap (λ t. option_map waiting (cond t (Some d) later)) same)
  | inr apart ↦ first_row ds (with_one d c) g (row_beside d c g apart ∙ none) ∙ sym (ap (λ t. option_map waiting (cond t (Some d) later)) apart)
]
  where
    later : Option Decision
    later = find (λ (e : Decision). gtrid_eq g e.gtrid) ds

is_found : (p : Decision → Bool) (ds : List Decision) → is_some (option_map waiting (find p ds)) ≡ list_any p ds
is_found p [] = refl
is_found p (d ∷ ds) = elim (p d) as (λ t. is_some (option_map waiting (cond t (Some d) (find p ds))) ≡ (t || list_any p ds)) [
  | true ↦ refl
  | false ↦ is_found p ds
]

-- whose rows are there
pub has_after : (ds : List Decision) (c : Content) (g : Gtrid)
    → contains_key (with_commits ds c).decisions g ≡ (contains_key c.decisions g || list_any (λ (d : Decision). gtrid_eq g d.gtrid) ds)
has_after ds c g = by (get c.decisions g) refl
  where
    named : Bool
    named = list_any (λ (d : Decision). gtrid_eq g d.gtrid) ds

    by : (row : Option (KeySet branch_cmp)) → get c.decisions g ≡ row
        → contains_key (with_commits ds c).decisions g ≡ (contains_key c.decisions g || named)
    by (Some set) has = ap is_some (row_there ds c g set has) ∙ sym (ap (λ o. is_some o || named) has)
    by None none = ap is_some (first_row ds c g none) ∙ is_found _ ds ∙ sym (ap (λ o. is_some o || named) none)

-- ** what no decision changes

stays : {A : Type 0} (part : Content → A)
    → ((g : Gtrid) (set : KeySet branch_cmp) (c : Content) → part (with_decision g set c) ≡ part c)
    → (ds : List Decision) (c : Content) → part (with_commits ds c) ≡ part c
stays part same [] c = refl
stays part same (d ∷ ds) c = stays part same ds (with_one d c) ∙ one
  where
    one : part (with_one d c) ≡ part c
    one = elim (contains_key c.decisions d.gtrid) as (λ t. part (cond t c (with_decision d.gtrid (waiting d) c)) ≡ part c) [
      | true ↦ refl
      | false ↦ same d.gtrid (waiting d) c
    ]

pub same_heuristics : (ds : List Decision) (c : Content) → (with_commits ds c).heuristics ≡ c.heuristics
same_heuristics ds c = stays (λ k. k.heuristics) (λ g set k. refl) ds c

pub same_incarnation : (ds : List Decision) (c : Content) → (with_commits ds c).incarnation ≡ c.incarnation
same_incarnation ds c = stays (λ k. k.incarnation) (λ g set k. refl) ds c

-- ** the answers

pub answer_each : (ds : List Decision) (c : Content) → length (logged_each ds c) ≡ length ds
answer_each [] c = refl
answer_each (d ∷ ds) c = ap suc (answer_each ds (with_one d c))

pub answer_at : (ds : List Decision) (c : Content) (i : ℕ) (d : Decision) (l : Logged) → i < length ds
    → get_or (logged_each ds c) i l ≡ logged_as (with_commits (take i ds) c) (get_or ds i d).gtrid
answer_at [] c i d l low = absurd (omega (arith, low))
answer_at (x ∷ ds) c zero d l low = refl
answer_at (x ∷ ds) c (suc i) d l low = answer_at ds (with_one x c) i d l (omega (arith, low))
