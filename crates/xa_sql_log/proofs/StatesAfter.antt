-- What a statement that changes the log leaves.
use Rattle.std.proofs.Common.{◌≡◌, ◌⊎◌, inl, inr, ℕ, List, true, Option, Some, None, Result, Ok, Err, IsTrue, IsSomeAnd, IfOk, OnOk, OnErr, refl, sym, ap, subst, ◌∙◌}
use Rattle.std.proofs.lemmas.Bool.{cases_Bool}
use Rattle.sqlite.specs.Store.{Ghosts}
use Rattle.sqlite.specs.Held.{Held, state}
use Rattle.sqlite.specs.Order.{Row}
use Rattle.sqlite.specs.Tree.{Trees}
use Rattle.sqlite.specs.Effect.{Database}
use Rattle.sqlite.specs.State.{State, HasCleanDisk, IsUnchanged, Executes, CommitsBy}
use Rattle.sqlite.proofs.Callers.{unchanged_then}
use Rattle.xa_log.specs.Content.{Content}
use Rattle.xa_log.specs.Contract.{Makes}
use Rattle.xa_sql_log.specs.Rows.{IsLog, content_of}
use Rattle.xa_sql_log.specs.Sql.{AreLogTrees, HasLogTables, IsOrderly, content_in, MayChange, Rests, RunsChanging, RunsFrom, LeavesBy}
use Rattle.xa_sql_log.proofs.States.{rests_order, rests_content, Did, did_makes}

pub rests_after : (a b c : State) → IsUnchanged a b → Rests b c → Rests a c
rests_after a b c same (inl then) = inl (unchanged_then a b c same then)
rests_after a b c same (inr undone) = inr (record {
  was_open = λ h. same.0.was_open;
  undone = λ h. let now = undone.undone h in (now.0 ∙ same.0.committed_is, now.1 ∙ same.0.committed_is);
  autocommit = undone.autocommit;
  unmarked = undone.unmarked;
  counts = record { changes = undone.counts.changes ∙ same.1.changes; last_rowid = undone.counts.last_rowid ∙ same.1.last_rowid };
})

ran_or_rests : {A E : Type 0} (r : Result A E) (P Q : Type 0) → OnOk r P → OnErr r Q → Q ⊎ P
ran_or_rests (Ok x) P Q p q = inr p
ran_or_rests (Err e) P Q p q = inl q

did_after : (change : Content → Content) (a b c : State) → IsUnchanged a b → Did change b c → Did change a c
did_after change a b c same made = record {
  was_open = same.0.was_open;
  is_open = made.is_open;
  ready = made.ready;
  content = made.content ∙ ap (λ (d : Database). change (content_of d.trees)) same.0.now_is;
}

pub ready_after : (a b : State) → IsUnchanged a b → IsOrderly a → HasLogTables b
ready_after a b same order = rests_order a b (λ _. inl same) order same.0.is_open

-- a statement that ran, by what it makes of the log's tables
module _ {S : Type 0} (g : Ghosts S) (sql : List ℕ) (params : Row) (change : Content
    → Content) (old new : Held S) (opened : IsTrue (state g new).is_open → HasCleanDisk (state g new))
    (makes : (mid : State) → IsUnchanged (state g old) mid → HasLogTables mid → (count : ℕ)
    → Executes sql params mid (state g new) (Ok count) → Did change mid (state g new))
    (commits : (mid : State) → IsUnchanged (state g old) mid → HasLogTables mid → IsTrue mid.is_open → (db : Trees)
    → CommitsBy sql params mid db → (content_of db ≡ change (content_of mid.now.trees)) × AreLogTrees db) where
  pub run_makes : IsOrderly (state g old) → RunsFrom g sql params old new → Did change (state g old) (state g new)
  run_makes order (rows, ran) = did_after change _ (state g ran.0) _ ran.1 (makes (state g ran.0) ran.1 (ready_after _ (state g ran.0) ran.1 order) rows ran.2)

  pub run_ok : {A E : Type 0} (r : Result A E) → IsOrderly (state g old) → OnOk r (RunsFrom g sql params old new)
      → OnOk r (Makes change (content_in (state g old)) (content_in (state g new)))
  run_ok (Err e) order ran = tt
  run_ok (Ok x) order ran = did_makes change _ _ (run_makes order ran)

  did_or_rests : {A E : Type 0} (r : Result A E) → IsOrderly (state g old) → OnOk r (RunsFrom g sql params old new)
      → OnErr r (Rests (state g old) (state g new))
      → Rests (state g old) (state g new) ⊎ Did change (state g old) (state g new)
  did_or_rests (Ok x) order ran rests = inr (run_makes order ran)
  did_or_rests (Err e) order ran rests = inl rests

  pub run_changes : {A E : Type 0} (r : Result A E) → (HasCleanDisk (state g new) → HasCleanDisk (state g old))
      → (IsOrderly (state g old) → HasCleanDisk (state g new) → OnOk r (RunsFrom g sql params old new))
      → (IsOrderly (state g old) → HasCleanDisk (state g new) → OnErr r (Rests (state g old) (state g new)))
      → (IsOrderly (state g old) → HasCleanDisk (state g new) → LeavesBy g sql params old new)
      → MayChange change (state g old) (state g new)
  run_changes r honest ran rests crash = record {
    honest = honest;
    order = λ order h. elim (did_or_rests r order (ran order (opened h)) (rests order (opened h))) [
      | inl rest ↦ rests_order (state g old) (state g new) (λ _. rest) order h
      | inr made ↦ made.ready
    ];
    kept = λ order. elim (cases_Bool (state g new).is_open) [
      | inl is_open ↦ elim (did_or_rests r order (ran order (opened is_open)) (rests order (opened is_open))) [
        | inl rest ↦ elim (rests_content (state g old) (state g new) (λ _. rest) order) [ inl shut ↦ inl shut | inr same ↦ inr (inl same) ]
        | inr made ↦ inr (inr (did_makes change (state g old) (state g new) made))
      ]
      | inr shut ↦ inl (rw shut refl)
    ];
    crash = λ order clean x h. elim (crash order clean h.0 h.1) [
      | inl was ↦ inl (h.0, was, h.2)
      | inr by ↦ (
          let was : (state g old).is_open ≡ true = by.1.0.was_open in
          let content = (commits (state g by.0) by.1 (ready_after _ (state g by.0) by.1 order) by.1.0.is_open h.0 by.2).0 in
          inr (rw was (h.2 ∙ content ∙ ap (λ (d : Database). change (content_of d.trees)) by.1.0.now_is)))
    ];
    logs = λ order clean db h. elim (crash order clean db h) [
      | inl was ↦ inl was
      | inr by ↦ inr (commits (state g by.0) by.1 (ready_after _ (state g by.0) by.1 order) by.1.0.is_open db by.2).1
    ];
  }

-- a statement that ran changed some number of rows
pub ran_however_many : {S E : Type 0} (g : Ghosts S) (sql : List ℕ) (params : Row) (old new : Held S) (r : Result ℕ E)
    → IfOk r (RunsChanging g sql params old new) → OnOk r (RunsFrom g sql params old new)
ran_however_many g sql params old new (Ok rows) ran = (rows, ran)
ran_however_many g sql params old new (Err e) ran = tt

-- ---- what a query told of the log

-- what is so of the content that a statement ran on was so before it
pub held_before : (old mid : State) → IsOrderly old → IsUnchanged old mid → (Q : Content → Type 0) → (HasLogTables mid → Q (content_of mid.now.trees))
    → IsSomeAnd (content_in old) Q
held_before old mid order same Q says =
    let was : old.is_open ≡ true = same.0.was_open in
    rw was (subst (λ (d : Database). Q (content_of d.trees)) same.0.now_is (says (ready_after old mid same order)))

pub answered : (old mid new : State) → IsOrderly old → IsUnchanged old mid → IsUnchanged mid new → (Q : Content → Type 0)
    → (IsLog mid.now → Q (content_of mid.now.trees))
    → IsSomeAnd (content_in old) (λ c. (content_in new ≡ Some c) × Q c)
answered old mid new order first second Q says =
    let was : old.is_open ≡ true = first.0.was_open in
    let now : new.is_open ≡ true = second.0.is_open in
    let log : IsLog mid.now = subst IsLog (sym first.0.now_is) (order was).now in
    rw (was, now) (
      ap (λ (d : Database). Some (content_of d.trees)) (second.0.now_is ∙ first.0.now_is),
      subst (λ (d : Database). Q (content_of d.trees)) first.0.now_is (says log),
    )

-- an open log holds what its rows say
pub held_there : (a b : State) → IsUnchanged a b → content_in a ≡ Some (content_of b.now.trees)
held_there a b same = let was : a.is_open ≡ true = same.0.was_open in rw was (ap (λ (d : Database). Some (content_of d.trees)) (sym same.0.now_is))

-- ---- two changes that are one at the log's content

pub some_as : (o : Option Content) (P Q : Content → Type 0) → ((x : Content) → o ≡ Some x → P x → Q x) → IsSomeAnd o P → IsSomeAnd o Q
some_as None P Q gives h = h
some_as (Some x) P Q gives h = gives x refl h

module _ (change other : Content → Content) where
  pub makes_as : (o n : Option Content) → ((x : Content) → o ≡ Some x → change x ≡ other x) → Makes change o n → Makes other o n
  makes_as o n same made = some_as o (λ x. n ≡ Some (change x)) (λ x. n ≡ Some (other x)) (λ x is e. e ∙ ap Some (same x is)) made

  pub changes_as : (a b : State) → ((x : Content) → content_in a ≡ Some x → change x ≡ other x) → MayChange change a b → MayChange other a b
  changes_as a b same may = record {
    honest = may.honest;
    order = may.order;
    kept = λ order. elim (may.kept order) [
      | inl shut ↦ inl shut
      | inr (inl stays) ↦ inr (inl stays)
      | inr (inr made) ↦ inr (inr (makes_as (content_in a) (content_in b) same made))
    ];
    crash = λ order clean c h. elim (may.crash order clean c h) [
      | inl was ↦ inl was
      | inr made ↦ inr (some_as (content_in a) (λ x. c ≡ change x) (λ x. c ≡ other x) (λ x is e. e ∙ same x is) made)
    ];
    logs = may.logs;
  }
