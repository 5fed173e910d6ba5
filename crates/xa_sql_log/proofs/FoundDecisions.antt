-- What has been found of the first decisions.
use Rattle.std.proofs.Common.{◌≡◌, ℕ, zero, suc, ◌+◌, ◌<◌, ◌≤◌, ◌==◌, List, [], ◌∷◌, ◌++◌, length, take, get_or, false, Option, Some, None, IsSomeAnd, refl, sym, ap, subst, ◌∙◌, arith}
use Rattle.std.proofs.lemmas.Bool.{true≢false}
use Rattle.std.proofs.lemmas.List.{take_all}
use Rattle.sqlite.specs.State.{State, HasCleanDisk}
use Rattle.xa_log.specs.Content.{Content, logged_as, logged_each, with_commits}
use Rattle.xa_sql_log.specs.Sql.{IsOrderly, OnlyReads, content_in}
use Rattle.xa_log.specs.declared.decision.Decision.{Decision}
use Rattle.xa_log.specs.declared.decision_log.Logged.{Logged}
use Rattle.xa_log.proofs.Together.{logged_more}
use Rattle.xa_sql_log.proofs.States.{reads_then}

pub some_is : {A : Type 0} (o : Option A) (P : A → Type 0) → IsSomeAnd o P → (x : A) × (o ≡ Some x) × P x
some_is None P h = absurd h
some_is (Some x) P h = (x, refl, h)

one_content : (a b : Content) (o : Option Content) → o ≡ Some a → o ≡ Some b → a ≡ b
one_content a b o p q = cc

pub record HasFound (ds : List Decision) (n : ℕ) (answers : List Logged) (old now : State) : Type 0 where
  pub reads : OnlyReads old now
  pub told : IsOrderly old → HasCleanDisk now → (x : Content) → content_in now ≡ Some x
      → (content_in old ≡ Some x) × (answers ≡ logged_each (take n ds) x)
  pub there : IsOrderly old → HasCleanDisk now → 0 < n → (x : Content) × (content_in now ≡ Some x)

pub found_more : (ds : List Decision) (n : ℕ) (d : Decision) (answers more : List Logged) (logged : Logged) (old mid new : State)
    → n < length ds → d ≡ get_or ds n d → more ≡ answers ++ logged ∷ [] → HasFound ds n answers old mid → OnlyReads mid new
    → (IsOrderly mid → HasCleanDisk new → IsSomeAnd (content_in mid) (λ x. (content_in new ≡ Some x)
    × (logged ≡ logged_as (with_commits (take n ds) x) d.gtrid)))
    → HasFound ds (n + 1) more old new
found_more ds n d answers more logged old mid new low at pushed found reads next = record {
  reads = reads_then old mid new found.reads reads;
  told = λ order clean x is.
      let one = some_is (content_in mid) _ (next (found.reads.order order) clean) in
      let same : one.0 ≡ x = one_content one.0 x (content_in new) one.2.0 is in
      let was = found.told order (reads.honest clean) x (one.1 ∙ ap Some same) in (
        was.0,
        pushed ∙ ap (λ l. l ++ logged ∷ []) was.1
            ∙ ap (λ t. logged_each (take n ds) x ++ t ∷ [])
            (one.2.1 ∙ ap (λ y. logged_as (with_commits (take n ds) y) d.gtrid) same
            ∙ ap (λ (e : Decision). logged_as (with_commits (take n ds) x) e.gtrid) at)
            ∙ sym (logged_more ds n d x low),
      );
  there = λ order clean some. let one = some_is (content_in mid) _ (next (found.reads.order order) clean) in (one.0, one.2.0);
}

pub found_all : (ds : List Decision) (n : ℕ) (answers : List Logged) (old now : State) → length ds ≤ n → 0 < n → HasFound ds n answers old now
    → IsOrderly old → HasCleanDisk now
    → IsSomeAnd (content_in old) (λ c. (content_in now ≡ Some c) × (answers ≡ logged_each ds c))
found_all ds n answers old now high some found order clean =
    let here = found.there order clean some in
    let told = found.told order clean here.0 here.1 in
    subst (λ o. IsSomeAnd o (λ c. (content_in now ≡ Some c) × (answers ≡ logged_each ds c))) (sym told.0)
    (here.1, told.1 ∙ ap (λ l. logged_each l here.0) (take_all n ds high))

pub none_asked : (ds : List Decision) (c : Content) → length ds ≡ 0 → [] ≡ logged_each ds c
none_asked [] c none = refl
none_asked (d ∷ ds) c none = absurd (omega (arith, none))

pub some_asked : (n : ℕ) → false ≡ (n == 0) → 0 < n
some_asked zero h = absurd (true≢false (sym h))
some_asked (suc n) h = omega arith
