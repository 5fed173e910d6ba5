-- What a transaction leaves of a log: all that was written in it, or nothing.
use Rattle.std.proofs.Common.{◌≡◌, ◌⊎◌, inl, inr, ℕ, ◌<◌, ◌≤◌, ◌+◌, List, [], ◌∷◌, length, take, get_or, true, false, Option, Some, None, Result, OnOk, IsTrue, IsSomeAnd, cond, is_some, refl, sym, ap, subst, ◌∙◌, arith}
use Rattle.std.proofs.lemmas.Bool.{cases_Bool, true≢false}
use Rattle.std.proofs.lemmas.List.{take_more}
use Rattle.std.specs.List.{AllByRecursion}
use Rattle.std.specs.FinMap.{get, contains_key}
use Rattle.xa_log.specs.KeySet.{KeySet, insert, from_list, from_list_push, empty}
use Rattle.sqlite_trees.proofs.ListLemmas.{all-get_or}
use Rattle.sqlite.specs.Tree.{Trees}
use Rattle.sqlite.specs.Effect.{Database}
use Rattle.sqlite.specs.declared.error.Error.{Error}
use Rattle.sqlite.specs.State.{State, HasCleanDisk, Survives, Shows, KeepsCommit, IsRolledBack}
use Rattle.sqlite.specs.Steps.{FailsToCommit}
use Rattle.sqlite.proofs.StateLemmas.{survives_then}
use Rattle.xa_base.specs.declared.branch.Gtrid.{Gtrid}
use Rattle.xa_base.specs.declared.branch.Branch.{Branch}
use Rattle.xa_base.specs.Branch.{branch_cmp}
use Rattle.xa_base.proofs.BranchOrder.{branches_total, exact_branches}
use Rattle.xa_log.specs.Content.{Content, with_decision, with_commit}
use Rattle.xa_log.specs.Contract.{IsShutOrSame, Makes, MayMake}
use Rattle.xa_sql_log.specs.Rows.{IsLog, content_of}
use Rattle.xa_sql_log.specs.Sql.{AreLogTrees, HasLogTables, IsOrderly, content_in, OnlyReads, MayChange, HasMade, HasWritten, MayInsert, IsShutOrAsBefore}
use Rattle.xa_sql_log.proofs.States.{Did, did_makes, changes_then}
use Rattle.xa_sql_log.proofs.Lasting.{as_log}

-- ---- the loop

pub survives_none : (a b c : State) → Survives a b (λ _. ⊥) → Survives b c (λ _. ⊥) → Survives a c (λ _. ⊥)
survives_none a b c p q = survives_then a b c _ _ (λ _. ⊥) (λ _ db none. none) (λ _ db none. none) p q

pub written_more : (g : Gtrid) (xs : List Branch) (i : ℕ) (d : Branch) → i < length xs
    → AllByRecursion (λ (b : Branch). b.gtrid ≡ g) xs → (before : Content) (old new : State) → HasWritten g (from_list (take i xs)) before old
    → ((set : KeySet branch_cmp) (before : Content) → HasWritten (get_or xs i d).gtrid set before old
    → HasWritten (get_or xs i d).gtrid (insert set (get_or xs i d)) before new)
    → HasWritten g (from_list (take (i + 1) xs)) before new
written_more g xs i d low own before old new has step =
    let mine : (get_or xs i d).gtrid ≡ g = all-get_or (λ (b : Branch). b.gtrid ≡ g) xs i d own low in
    let set : insert (from_list (take i xs)) (get_or xs i d) ≡ from_list (take (i + 1) xs) =
    sym (ap from_list (take_more xs i d low) ∙ from_list_push branches_total exact_branches (take i xs) (get_or xs i d)) in
    subst (λ s. HasWritten g s before new) set (subst (λ q. HasWritten q (insert (from_list (take i xs)) (get_or xs i d)) before new) mine
    (step (from_list (take i xs)) before (subst (λ q. HasWritten q (from_list (take i xs)) before old) (sym mine) has)))

-- all participants, where they are two and were written by one statement
pub written_both : {A E : Type 0} (g : Gtrid) (xs : List Branch) (d e : Branch) (r : Result A E) → 2 ≤ length xs → length xs < 3
    → AllByRecursion (λ (b : Branch). b.gtrid ≡ g) xs → (before : Content) (old new : State) → HasWritten g empty before old
    → (HasWritten (get_or xs 0 d).gtrid empty before old
    → OnOk r (HasWritten (get_or xs 0 d).gtrid (from_list (get_or xs 0 d ∷ get_or xs 1 e ∷ [])) before new))
    → OnOk r (HasWritten g (from_list xs) before new)
written_both g [] d e r low high own before old new has step = absurd (omega (arith, low))
written_both g (one ∷ []) d e r low high own before old new has step = absurd (omega (arith, low))
written_both g (one ∷ other ∷ []) d e r low high own before old new has step =
    subst (λ q. OnOk r (HasWritten q (from_list (one ∷ other ∷ [])) before new)) own.0
    (step (subst (λ q. HasWritten q empty before old) (sym own.0) has))
written_both g (one ∷ other ∷ more ∷ rest) d e r low high own before old new has step = absurd (omega (arith, high))

-- ---- a transaction that is undone, whatever it counted

abbrev pub begun : State → State
begun s = record s { in_transaction = true }

pub undone_after : (a m e : State) → KeepsCommit (begun a) m → IsRolledBack m e → IsShutOrAsBefore a e
undone_after a m e keeps back = record {
  was_open = λ h. keeps.was_open (back.was_open h);
  undone = λ h. let kept = keeps.committed (back.was_open h) in ((back.undone h).0 ∙ kept, (back.undone h).1 ∙ kept);
  autocommit = back.autocommit;
}

module _ (a e : State) (opened : IsTrue e.is_open → HasCleanDisk e) where
  undone_ready : IsShutOrAsBefore a e → IsOrderly a → IsTrue e.is_open → HasLogTables e
  undone_ready u order h =
      let ready = order (u.was_open h) in
      record {
        autocommit = u.autocommit;
        now = subst IsLog (sym ((u.undone h).0 ∙ ready.committed)) ready.now;
        committed = (u.undone h).1 ∙ sym (u.undone h).0;
      }

  undone_same : IsShutOrAsBefore a e → IsOrderly a → IsTrue e.is_open → content_in e ≡ content_in a
  undone_same u order h =
      let is : e.is_open ≡ true = h in
      let was : a.is_open ≡ true = u.was_open h in
      let now = (u.undone h).0 ∙ (order (u.was_open h)).committed in
      rw (is, was) (ap (λ (d : Database). Some (content_of d.trees)) now)

  pub undone_content : IsShutOrAsBefore a e → IsOrderly a → (content_in e ≡ None) ⊎ (content_in e ≡ content_in a)
  undone_content u order = elim (cases_Bool e.is_open) [ inl is_open ↦ inr (undone_same u order is_open) | inr shut ↦ inl (rw shut refl) ]

  pub tried : (P : Trees → Type 0) → Survives a e P → (change : Content → Content) → (IsOrderly a → HasCleanDisk e → IsShutOrAsBefore a e ⊎ Did change a e)
      → (IsOrderly a → HasCleanDisk e → (db : Trees) → P db → IsTrue a.is_open × (content_of db ≡ change (content_of a.now.trees)) × AreLogTrees db)
      → MayChange change a e
  tried P survives change did commits = record {
    honest = λ clean. omega (arith, survives.clean);
    order = λ order h. elim (did order (opened h)) [ inl undone ↦ undone_ready undone order h | inr made ↦ made.ready ];
    kept = λ order. elim (cases_Bool e.is_open) [
      | inl is_open ↦ elim (did order (opened is_open)) [
        | inl undone ↦ inr (inl (undone_same undone order is_open))
        | inr made ↦
            inr (inr (did_makes change a e made))
      ]
      | inr shut ↦ inl (rw shut refl)
    ];
    crash = λ order clean c h. elim (survives.crash clean h.0 h.1) [
      | inl was ↦ inl (h.0, was, h.2)
      | inr by ↦ (
          let made = commits order clean h.0 by in
          let was : a.is_open ≡ true = made.0 in
          inr (rw was (h.2 ∙ made.1)))
    ];
    logs = λ order clean db h. elim (survives.crash clean db h) [ inl was ↦ inl was | inr by ↦ inr (commits order clean db by).2 ];
  }

-- ---- a change that was made in the transaction, and its commit

module _ (change : Content → Content) (a m e : State) where
  pub made_committed : HasMade change (begun a) m → Shows m e m.now m.now false → Did change a e
  made_committed has shown = record {
    was_open = has.was_open;
    is_open = shown.is_open;
    ready = record { autocommit = shown.mode; now = subst IsLog (sym shown.now_is) has.now; committed = shown.committed_is ∙ sym shown.now_is };
    content = ap (λ (d : Database). content_of d.trees) shown.now_is ∙ has.content;
  }

  pub made_failed : (error : Error) → KeepsCommit (begun a) m → HasMade change (begun a) m → FailsToCommit m e error → IsShutOrAsBefore a e
  made_failed error keeps has (inl fails) = undone_after a m e keeps fails.3
  made_failed error keeps has (inr ended) = absurd (true≢false (sym has.inside ∙ ended.1))

  pub made_commits : HasMade change (begun a) m → (db : Trees) → db ≡ m.now.trees
      → IsTrue a.is_open × (content_of db ≡ change (content_of a.now.trees)) × AreLogTrees db
  made_commits has db same = (has.was_open, ap content_of same ∙ has.content, subst AreLogTrees (sym same) (as_log m.now has.now has.sound))

-- ---- all that was written, and its commit

pub fresh : (x : Gtrid) (set : KeySet branch_cmp) (c : Content) → get c.decisions x ≡ None → with_decision x set c ≡ with_commit x set c
fresh x set c none = sym (ap (λ o. cond (is_some o) c (with_decision x set c)) none)

-- in the transaction all is written, and there was none of it before
pub record IsWritten (x : Gtrid) (set : KeySet branch_cmp) (a m : State) : Type 0 where
  pub was_open : IsTrue a.is_open
  pub none : get (content_of a.now.trees).decisions x ≡ None
  pub has : HasWritten x set (content_of a.now.trees) m

module _ (x : Gtrid) (set : KeySet branch_cmp) (a m e : State) where
  pub written_all : (first : State) → (HasCleanDisk m → HasCleanDisk first) → (HasCleanDisk first → IsTrue a.is_open)
      → (IsLog a.now → HasCleanDisk first → get (content_of a.now.trees).decisions x ≡ None)
      → (MayInsert x (begun a) → HasCleanDisk first → HasWritten x empty (content_of a.now.trees) first)
      → (HasCleanDisk m → (before : Content) → HasWritten x empty before first → HasWritten x set before m)
      → IsOrderly a → HasCleanDisk m → IsWritten x set a m
  written_all first early live absent one rest order clean =
      let is_open = live (early clean) in
      let none = absent (order is_open).now (early clean) in
      let begins : MayInsert x (begun a) = record { inside = refl; now = (order is_open).now; none = none } in
      record { was_open = is_open; none = none; has = rest clean (content_of a.now.trees) (one begins (early clean)) }

  pub none_before : IsWritten x set a m → IsSomeAnd (content_in a) (λ c. false ≡ contains_key c.decisions x)
  none_before it = let was : a.is_open ≡ true = it.was_open in rw was (sym (ap is_some it.none))

  as_made : IsWritten x set a m → HasMade (with_commit x set) (begun a) m
  as_made it = record {
    was_open = it.was_open;
    is_open = it.has.is_open;
    inside = it.has.inside;
    now = it.has.now;
    sound = it.has.sound;
    content = it.has.content ∙ fresh x set (content_of a.now.trees) it.none;
  }

  pub committed_all : IsWritten x set a m → Shows m e m.now m.now false → Did (with_commit x set) a e
  committed_all it shown = made_committed (with_commit x set) a m e (as_made it) shown

  pub failed_all : (error : Error) → KeepsCommit (begun a) m → IsWritten x set a m → FailsToCommit m e error → IsShutOrAsBefore a e
  failed_all error keeps it fails = made_failed (with_commit x set) a m e error keeps (as_made it) fails

  pub commits_all : IsWritten x set a m → (db : Trees) → db ≡ m.now.trees
      → IsTrue a.is_open × (content_of db ≡ with_commit x set (content_of a.now.trees)) × AreLogTrees db
  commits_all it db same = made_commits (with_commit x set) a m e (as_made it) db same

-- ---- a look, and then the change

pub once : (P : Type 0) (change : Content → Content) (a b c : State) → OnlyReads a b → (HasCleanDisk c → HasCleanDisk b)
    → (IsOrderly a → P) → (P → MayChange change b c) → MayChange change a c
once P change a b c reads honest holds changes = record {
  honest = λ clean. reads.honest (honest clean);
  order = λ order. (changes_then a b c change reads (changes (holds order))).order order;
  kept = λ order. (changes_then a b c change reads (changes (holds order))).kept order;
  crash = λ order. (changes_then a b c change reads (changes (holds order))).crash order;
  logs = λ order. (changes_then a b c change reads (changes (holds order))).logs order;
}

-- what a look told of the log before it, of the log after it
pub told : (Q : Content → Type 0) (a b : State) → (IsTrue b.is_open → HasCleanDisk b)
    → (IsOrderly a → HasCleanDisk b → IsSomeAnd (content_in a) (λ c. (content_in b ≡ Some c) × Q c)) → IsOrderly a
    → (c : Content) → content_in b ≡ Some c → Q c
told Q a b opened found order c is = go (content_in a) (found order (opened (is_there (cases_Bool b.is_open))))
  where
    is_there : (b.is_open ≡ true) ⊎ (b.is_open ≡ false) → IsTrue b.is_open
    is_there (inl up) = up
    is_there (inr shut) = absurd (let none : None ≡ Some c = sym (rw shut refl) ∙ is in cc)

    go : (o : Option Content) → IsSomeAnd o (λ c. (content_in b ≡ Some c) × Q c) → Q c
    go None h = absurd h
    go (Some d) h = let same : Some d ≡ Some c = sym h.0 ∙ is in let one : d ≡ c = cc in subst Q one h.1

-- a change that was not made, and then a look
pub then_looked : (change : Content → Content) (a b c : State) → MayChange change a b → OnlyReads b c → MayChange change a c
then_looked change a b c p q = record {
  honest = λ clean. p.honest (q.honest clean);
  order = λ order. q.order (p.order order);
  kept = λ order. elim (q.kept (p.order order)) [
    | inl shut ↦ inl shut
    | inr same ↦ subst (λ o. MayMake change (content_in a) o) (sym same) (p.kept order)
  ];
  crash = λ order clean x h. p.crash order (q.honest clean) x (q.crash (p.order order) clean x h);
  logs = λ order clean db h. elim (q.logs (p.order order) clean db h) [ inl was ↦ p.logs order (q.honest clean) db was | inr is ↦ inr is ];
}

-- the look found that it was there before
pub there_before : (P : Content → Type 0) (a b c : Option Content) → (b ≡ None) ⊎ (b ≡ a)
    → IsSomeAnd b (λ y. (c ≡ Some y) × P y) → IsSomeAnd a (λ y. (c ≡ Some y) × P y)
there_before P a b c (inl none) h = absurd (subst (λ o. IsSomeAnd o (λ y. (c ≡ Some y) × P y)) none h)
there_before P a b c (inr same) h = subst (λ o. IsSomeAnd o (λ y. (c ≡ Some y) × P y)) same h

-- and what follows from it
pub found_none : (x : Gtrid) (set : KeySet branch_cmp) (a b c : Option Content)
    → IsSomeAnd a (λ y. (b ≡ Some y) × (false ≡ contains_key y.decisions x)) → Makes (with_commit x set) b c → Makes (with_commit x set) a c
found_none x set None b c h made = h
found_none x set (Some y) b c h made = subst (λ o. Makes (with_commit x set) o c) h.0 made

pub found_one : (x : Gtrid) (set : KeySet branch_cmp) (a b : Option Content)
    → IsSomeAnd a (λ y. (b ≡ Some y) × (true ≡ contains_key y.decisions x)) → Makes (with_commit x set) a b
found_one x set None b h = h
found_one x set (Some y) b h = h.0 ∙ ap Some (ap (λ t. cond t y (with_decision x set y)) h.1)

-- ---- a change that was not made, and then one more attempt

-- the content is kept, also where the log is shut
pub kept_anyway : (a b : State) → (IsTrue b.is_open → HasCleanDisk b) → (HasCleanDisk b → IsShutOrSame (content_in a) (content_in b))
    → IsShutOrSame (content_in a) (content_in b)
kept_anyway a b opened kept = elim (cases_Bool b.is_open) [ inl is_open ↦ kept (opened is_open) | inr shut ↦ inl (rw shut refl) ]

pub from_kept : (P : Content → Type 0) (a b : Option Content) → IsShutOrSame a b → IsSomeAnd b P → IsSomeAnd a P
from_kept P a b (inl none) h = absurd (subst (λ o. IsSomeAnd o P) none h)
from_kept P a b (inr same) h = subst (λ o. IsSomeAnd o P) same h

pub again : (change : Content → Content) (a b c : State) → MayChange change a b → (IsOrderly a → IsShutOrSame (content_in a) (content_in b))
    → MayChange change b c → MayChange change a c
again change a b c p kept q = record {
  honest = λ clean. p.honest (q.honest clean);
  order = λ order. q.order (p.order order);
  kept = λ order. elim (kept order) [
    | inl shut ↦ elim (q.kept (p.order order)) [
      | inl none ↦ inl none
      | inr (inl same) ↦ inl (same ∙ shut)
      | inr (inr made) ↦ absurd (subst (λ o. IsSomeAnd o (λ x. content_in c ≡ Some (change x))) shut made)
    ]
    | inr same ↦ subst (λ o. MayMake change o (content_in c)) same (q.kept (p.order order))
  ];
  crash = λ order clean x h. elim (q.crash (p.order order) clean x h) [
    | inl was ↦ p.crash order (q.honest clean) x was
    | inr made ↦ inr (from_kept (λ y. x ≡ change y) (content_in a) (content_in b) (kept order) made)
  ];
  logs = λ order clean db h. elim (q.logs (p.order order) clean db h) [ inl was ↦ p.logs order (q.honest clean) db was | inr is ↦ inr is ];
}
