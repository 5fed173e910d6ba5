-- Decisions that are written together: what a list of them makes, by its first ones, and how it is taken back.
use Rattle.std.proofs.Common.{◌≡◌, inl, inr, ℕ, ◌+◌, ◌<◌, List, [], ◌∷◌, ◌++◌, length, take, get_or, Bool, true, false, cond, Some, None, Result, Ok, Err, OnOk, OnErr, refl, sym, ap, subst, ◌∙◌}
use Rattle.std.proofs.lemmas.Bool.{cases_Bool}
use Rattle.std.proofs.lemmas.List.{take_more}
use Rattle.std.specs.List.{AllByRecursion}
use Rattle.std.specs.FinMap.{get, contains_key, get-insert, get-remove, insert, same_map}
use Rattle.std.specs.Ordering.{eq_by_cmp}
use Rattle.xa_log.specs.KeySet.{KeySet, from_list}
use Rattle.xa_base.specs.declared.branch.Branch.{Branch}
use Rattle.xa_base.specs.declared.branch.Gtrid.{Gtrid}
use Rattle.xa_base.specs.Branch.{gtrid_cmp, branch_cmp}
use Rattle.xa_base.proofs.BranchOrder.{gtrids_total, exact_gtrids}
use Rattle.xa_log.specs.Content.{Content, logged_as, logged_each, with_commit, with_commits, with_decision, without_decision}
use Rattle.xa_log.specs.Contract.{FitsRow}
use Rattle.xa_log.specs.Memory.{IsInOrder, MadeUpTo}
use Rattle.xa_log.specs.declared.decision.Decision.{Decision}
use Rattle.xa_log.specs.declared.decision_log.Logged.{Logged}
use Rattle.xa_log.specs.declared.decision_log.Logged.TheVariants.{New, Already}
use Rattle.xa_log.proofs.OwnBranches.{order_after_commit}
use Rattle.xa_base.proofs.Orders.{equal_is}
use Rattle.xa_log.proofs.Alike.{same_content}
use Rattle.xa_log.proofs.Parts.{no_some}

abbrev pub waiting : Decision → KeySet branch_cmp
waiting d = from_list d.participants.items

abbrev pub with_one : Decision → Content → Content
with_one d c = with_commit d.gtrid (waiting d) c

-- ** one more of the list

commits_push : (ds : List Decision) (d : Decision) (c : Content) → with_commits (ds ++ d ∷ []) c ≡ with_one d (with_commits ds c)
commits_push [] d c = refl
commits_push (x ∷ ds) d c = commits_push ds d (with_one x c)

logged_push : (ds : List Decision) (d : Decision) (c : Content) → logged_each (ds ++ d ∷ []) c ≡ logged_each ds c ++ logged_as (with_commits ds c) d.gtrid ∷ []
logged_push [] d c = refl
logged_push (x ∷ ds) d c = ap (λ l. logged_as c x.gtrid ∷ l) (logged_push ds d (with_one x c))

pub commits_more : (ds : List Decision) (i : ℕ) (d : Decision) (c : Content) → i < length ds
    → with_commits (take (i + 1) ds) c ≡ with_one (get_or ds i d) (with_commits (take i ds) c)
commits_more ds i d c low = ap (λ l. with_commits l c) (take_more ds i d low) ∙ commits_push (take i ds) (get_or ds i d) c

pub logged_more : (ds : List Decision) (i : ℕ) (d : Decision) (c : Content) → i < length ds
    → logged_each (take (i + 1) ds) c ≡ logged_each (take i ds) c ++ logged_as (with_commits (take i ds) c) (get_or ds i d).gtrid ∷ []
logged_more ds i d c low = ap (λ l. logged_each l c) (take_more ds i d low) ∙ logged_push (take i ds) (get_or ds i d) c

-- ** one is taken back

without_put : (g : Gtrid) (set : KeySet branch_cmp) (before : Content) → contains_key before.decisions g ≡ false
    → without_decision g (with_decision g set before) ≡ before
without_put g set before none =
    same_content _ _ (same_map gtrids_total exact_gtrids _ _ (λ q. get-remove gtrids_total (insert before.decisions g set) g q
    ∙ at q (eq_by_cmp gtrid_cmp q g) refl)) refl refl
  where
    at : (q : Gtrid) (b : Bool) → eq_by_cmp gtrid_cmp q g ≡ b → cond b None (get (insert before.decisions g set) q) ≡ get before.decisions q
    at q true same = sym (subst (λ x. get before.decisions x ≡ None) (sym (exact_gtrids q g (equal_is _ same))) (no_some _ (sym none)))
    at q false apart = get-insert gtrids_total before.decisions g set q ∙ ap (λ t. cond t (Some set) (get before.decisions q)) apart

pub new_taken_back : (g : Gtrid) (set : KeySet branch_cmp) (now before : Content) → now ≡ with_commit g set before → New ≡ logged_as before g
    → without_decision g now ≡ before
new_taken_back g set now before made new = elim (cases_Bool (contains_key before.decisions g)) [
  | inl there ↦ absurd (let e : New ≡ Already = new ∙ ap (λ b. cond b Already New) there in cc)
  | inr none ↦ ap (without_decision g) (made ∙ ap (λ t. cond t before (with_decision g set before)) none) ∙ without_put g set before none
]

pub already_stays : (g : Gtrid) (set : KeySet branch_cmp) (c : Content) → Already ≡ logged_as c g → with_commit g set c ≡ c
already_stays g set c there = elim (cases_Bool (contains_key c.decisions g)) [
  | inl is ↦ ap (λ t. cond t c (with_decision g set c)) is
  | inr none ↦ absurd (let e : Already ≡ New = there ∙ ap (λ b. cond b Already New) none in cc)
]

-- the last of some answers
last_two : (xs ys : List Logged) (x y : Logged) → xs ++ x ∷ [] ≡ ys ++ y ∷ [] → (xs ≡ ys) × (x ≡ y)
last_two [] [] x y e = (refl, cc)
last_two [] (b ∷ []) x y e = absurd (cc)
last_two [] (b ∷ c ∷ ys) x y e = absurd (cc)
last_two (a ∷ []) [] x y e = absurd (cc)
last_two (a ∷ c ∷ xs) [] x y e = absurd (cc)
last_two (a ∷ xs) (b ∷ ys) x y e =
    let rest : xs ++ x ∷ [] ≡ ys ++ y ∷ [] = cc in
    let head : a ≡ b = cc in
    let both = last_two xs ys x y rest in (ap (λ h. h ∷ xs) head ∙ ap (λ t. b ∷ t) both.0, both.1)

-- the last of the first m, as a row that can be taken back, and those before it
pub record TakesBack (ds : List Decision) (n : ℕ) (d : Decision) (rest : List Logged) (logged : Logged) (before now : Content) : Type 0 where
  pub made : now ≡ with_one d (with_commits (take n ds) before)
  pub told : logged ≡ logged_as (with_commits (take n ds) before) d.gtrid
  pub earlier : rest ≡ logged_each (take n ds) before

pub one_back : (ds : List Decision) (n m : ℕ) (d : Decision) (was rest : List Logged) (logged : Logged) (before now : Content)
    → n < length ds → m ≡ n + 1 → d ≡ get_or ds n d → was ≡ rest ++ logged ∷ [] → MadeUpTo ds m was before now
    → TakesBack ds n d rest logged before now
one_back ds n m d was rest logged before now low next is popped made =
    let c = with_commits (take n ds) before in
    let both =
    last_two rest (logged_each (take n ds) before) logged (logged_as c (get_or ds n d).gtrid)
    (sym popped ∙ made.told ∙ ap (λ k. logged_each (take k ds) before) next ∙ logged_more ds n d before low) in
    record {
      made =
          made.made ∙ ap (λ k. with_commits (take k ds) before) next ∙ commits_more ds n d before low ∙ ap (λ (x : Decision). with_one x c) (sym is);
      told = both.1 ∙ ap (λ (x : Decision). logged_as c x.gtrid) (sym is);
      earlier = both.0;
    }

pub one_more_made : (ds : List Decision) (n : ℕ) (d : Decision) (answers more : List Logged) (logged : Logged) (before was now : Content)
    → n < length ds → d ≡ get_or ds n d → more ≡ answers ++ logged ∷ [] → MadeUpTo ds n answers before was
    → logged ≡ logged_as was d.gtrid → now ≡ with_one d was → MadeUpTo ds (n + 1) more before now
one_more_made ds n d answers more logged before was now low is pushed made told step = record {
  made =
      step ∙ ap (with_one d) made.made ∙ ap (λ (x : Decision). with_one x (with_commits (take n ds) before)) is ∙ sym (commits_more ds n d before low);
  told =
      pushed ∙ ap (λ l. l ++ logged ∷ []) made.told
      ∙ ap (λ x. logged_each (take n ds) before ++ x ∷ [])
      (told ∙ ap (λ c. logged_as c d.gtrid) made.made ∙ ap (λ (x : Decision). logged_as (with_commits (take n ds) before) x.gtrid) is)
      ∙ sym (logged_more ds n d before low);
}

-- ** what is in order stays so

commits_order : (ds : List Decision) (c : Content) → AllByRecursion (λ (d : Decision). FitsRow d.gtrid) ds
    → AllByRecursion (λ (d : Decision). AllByRecursion (λ (b : Branch). b.gtrid ≡ d.gtrid) d.participants.items) ds
    → IsInOrder c → IsInOrder (with_commits ds c)
commits_order [] c fits own order = order
commits_order (d ∷ ds) c fits own order =
    commits_order ds (with_one d c) fits.1 own.1
    (order_after_commit {A = Unit {0}} {E = Unit {0}} (Ok tt) c (with_one d c) d.gtrid d.participants.items fits.0 own.0 refl tt order)

pub order_after_commits : {A E : Type 0} (result : Result A E) (old new : Content) (ds : List Decision) → AllByRecursion (λ (d : Decision). FitsRow d.gtrid) ds
    → AllByRecursion (λ (d : Decision). AllByRecursion (λ (b : Branch). b.gtrid ≡ d.gtrid) d.participants.items) ds
    → OnOk result (new ≡ with_commits ds old) → OnErr result (new ≡ old) → IsInOrder old → IsInOrder new
order_after_commits (Ok x) old new ds fits own ok err order = subst IsInOrder (sym ok) (commits_order ds old fits own order)
order_after_commits (Err e) old new ds fits own ok err order = subst IsInOrder (sym err) order
