-- What is found of several decisions, and what a transaction leaves that writes them: all of them, or nothing.
use Rattle.std.proofs.Common.{◌≡◌, ◌⊎◌, inl, inr, ℕ, zero, suc, ◌+◌, ◌<◌, ◌≤◌, List, [], ◌∷◌, ◌++◌, length, take, get_or, replicate, Bool, true, false, ◌||◌, cond, Option, Some, None, is_some, IsTrue, IsSomeAnd, refl, sym, ap, subst, ◌∙◌, arith}
use Rattle.std.proofs.lemmas.Bool.{cases_Bool, true≢false}
use Rattle.std.proofs.lemmas.List.{take_all, take_more}
use Rattle.std.specs.List.{list_any}
use Rattle.std.specs.FinMap.{get, contains_key}
use Rattle.sqlite.specs.Effect.{Database}
use Rattle.sqlite.specs.State.{State}
use Rattle.xa_base.specs.declared.branch.Gtrid.{Gtrid}
use Rattle.xa_base.specs.Branch.{gtrid_eq}
use Rattle.xa_log.specs.Content.{Content, is_new, logged_as, logged_each, with_commits}
use Rattle.xa_log.specs.Contract.{Makes}
use Rattle.xa_sql_log.specs.Rows.{IsLog, content_of}
use Rattle.xa_sql_log.specs.Sql.{AreThere, AreThereIn, HasMade, HasWritten, HasWrittenAll, IsOrderly, MayInsert, MayInsertAll, content_in}
use Rattle.xa_log.specs.declared.decision.Decision.{Decision}
use Rattle.xa_log.specs.declared.decision_log.Logged.{Logged}
use Rattle.xa_log.specs.declared.decision_log.Logged.TheVariants.{New, Already}
use Rattle.xa_log.proofs.RowsInTurn.{answer_at, has_after}
use Rattle.xa_log.proofs.Together.{already_stays, commits_more, logged_more, waiting, with_one}
use Rattle.xa_sql_log.proofs.Inside.{begun, fresh}

-- ** whose rows are there, where some have been written

or_false : (b : Bool) → (b || false) ≡ b
or_false true = refl
or_false false = refl

or_three : (a b c : Bool) → ((a || b) || c) ≡ (a || (b || c))
or_three true b c = refl
or_three false b c = refl

logged_after : (ds : List Decision) (c : Content) (g : Gtrid) (found among : Bool) → found ≡ contains_key c.decisions g
    → among ≡ list_any (λ (d : Decision). gtrid_eq g d.gtrid) ds → cond (found || among) Already New ≡ logged_as (with_commits ds c) g
logged_after ds c g found among is named =
    ap (λ b. cond (b || among) Already New) is ∙ ap (λ b. cond (contains_key c.decisions g || b) Already New) named
    ∙ ap (λ b. cond b Already New) (sym (has_after ds c g))

pub found_there : (ds : List Decision) (g : Gtrid) (found among : Bool) (logged : Logged) (old new : Option Content)
    → cond (found || among) Already New ≡ logged → among ≡ list_any (λ (d : Decision). gtrid_eq g d.gtrid) ds
    → IsSomeAnd old (λ c. (new ≡ Some c) × (found ≡ contains_key c.decisions g))
    → IsSomeAnd old (λ c. (new ≡ Some c) × (logged ≡ logged_as (with_commits ds c) g))
found_there ds g found among logged None new is named h = h
found_there ds g found among logged (Some c) new is named h = (h.0, sym is ∙ logged_after ds c g found among h.1 named)

-- ** nothing is written where no row is new

not_new : (l : Logged) → is_new l ≡ false → Already ≡ l
not_new New h = absurd (cc)
not_new Already h = refl

pub none_new : (ds : List Decision) (c : Content) → list_any is_new (logged_each ds c) ≡ false → with_commits ds c ≡ c
none_new [] c none = refl
none_new (d ∷ ds) c none =
    let later = list_any is_new (logged_each ds (with_one d c)) in
    elim (cases_Bool (is_new (logged_as c d.gtrid))) [
      | inl new ↦ absurd (true≢false (sym (ap (λ b. b || later) new) ∙ none))
      | inr old ↦ none_new ds (with_one d c) (sym (ap (λ b. b || later) old) ∙ none) ∙ already_stays d.gtrid (waiting d) c (not_new _ old)
    ]

pub nothing_made : (ds : List Decision) (answers : List Logged) (old new : Option Content) → false ≡ list_any is_new answers
    → IsSomeAnd old (λ c. (new ≡ Some c) × (answers ≡ logged_each ds c)) → Makes (with_commits ds) old new
nothing_made ds answers None new none h = h
nothing_made ds answers (Some c) new none h = h.0 ∙ ap Some (sym (none_new ds c (ap (list_any is_new) (sym h.1) ∙ sym none)))

pub made_after : (change : Content → Content) (Q : Content → Type 0) (a b e : Option Content) → IsSomeAnd a (λ c. (b ≡ Some c) × Q c)
    → Makes change b e → Makes change a e
made_after change Q None b e h made = h
made_after change Q (Some c) b e h made = subst (λ o. Makes change o e) h.0 made

-- ** what has been written of the first ones

any_push : (xs : List Logged) (x : Logged) → list_any is_new (xs ++ x ∷ []) ≡ (list_any is_new xs || is_new x)
any_push [] x = or_false (is_new x)
any_push (y ∷ xs) x = ap (λ b. is_new y || b) (any_push xs x) ∙ sym (or_three (is_new y) (list_any is_new xs) (is_new x))

none_is_new : (g : Gtrid) (c : Content) → get c.decisions g ≡ None → logged_as c g ≡ New
none_is_new g c none = ap (λ o. cond (is_some o) Already New) none

-- the transaction has begun, and nothing is written
pub record IsAsBegun (a m : State) : Type 0 where
  pub was_open : IsTrue m.is_open → IsTrue a.is_open
  pub inside : IsTrue m.in_transaction
  pub now : m.now ≡ a.now

abbrev pub HasBegunOrMade : List Decision → List Logged → ℕ → State → State → Type 0
HasBegunOrMade ds answers n a m = ((list_any is_new (take n answers) ≡ false) × IsAsBegun a m) ⊎ HasMade (with_commits (take n ds)) a m

-- the first answers are right, and the rows of those that are new are written
pub record WritesFirst (ds : List Decision) (answers : List Logged) (n : ℕ) (a m : State) : Type 0 where
  pub told : IsTrue a.is_open → take n answers ≡ logged_each (take n ds) (content_of a.now.trees)
  pub made : HasBegunOrMade ds answers n a m

pub at_begin : (ds : List Decision) (answers : List Logged) (a : State) → MayInsertAll ds answers a → WritesFirst ds answers 0 a a
at_begin ds answers a may = record { told = λ _. refl; made = inl (refl, record { was_open = λ h. h; inside = may.inside; now = refl }) }

record IsAt (ds : List Decision) (n : ℕ) (a m : State) : Type 0 where
  was_open : IsTrue a.is_open
  inside : IsTrue m.in_transaction
  now : IsLog m.now
  content : content_of m.now.trees ≡ with_commits (take n ds) (content_of a.now.trees)

module _ (ds : List Decision) (answers : List Logged) (n : ℕ) (a m : State) (may : MayInsertAll ds answers a) where
  at_made : (IsTrue a.is_open → take n answers ≡ logged_each (take n ds) (content_of a.now.trees)) → HasBegunOrMade ds answers n a m → IsTrue m.is_open
      → IsAt ds n a m
  at_made told (inl (none, same)) h =
      let c = content_of a.now.trees in
      let is_open = same.was_open h in
      let first : list_any is_new (logged_each (take n ds) c) ≡ false = ap (list_any is_new) (sym (told is_open)) ∙ none in
      record {
        was_open = is_open;
        inside = same.inside;
        now = subst IsLog (sym same.now) (may.now is_open);
        content = ap (λ (d : Database). content_of d.trees) same.now ∙ sym (none_new (take n ds) c first);
      }
  at_made told (inr has) h = record { was_open = has.was_open; inside = has.inside; now = has.now; content = has.content }

  is_at : WritesFirst ds answers n a m → IsTrue m.is_open → IsAt ds n a m
  is_at first h = at_made first.told first.made h

  -- the next row is written inside a log
  pub inside_log : WritesFirst ds answers n a m → IsTrue m.is_open → IsLog m.now × IsTrue m.in_transaction
  inside_log first h = let here = is_at first h in (here.now, here.inside)

-- an answer within the list, whatever stands behind its end
at_any : (xs : List Logged) (n : ℕ) (x y : Logged) → n < length xs → get_or xs n x ≡ get_or xs n y
at_any [] n x y low = absurd (omega (arith, low))
at_any (z ∷ xs) zero x y low = refl
at_any (z ∷ xs) (suc n) x y low = at_any xs n x y (omega (arith, low))

module _ (ds : List Decision) (answers : List Logged) (n : ℕ) (d : Decision) (x logged : Logged) (low : n < length ds) (within : n < length answers)
    (at : d ≡ get_or ds n d) (is : logged ≡ get_or answers n x) (a : State) (may : MayInsertAll ds answers a) where
  abbrev before : Content
  before = with_commits (take n ds) (content_of a.now.trees)

  told_more : logged ≡ logged_as before d.gtrid → take n answers ≡ logged_each (take n ds) (content_of a.now.trees)
      → take (n + 1) answers ≡ logged_each (take (n + 1) ds) (content_of a.now.trees)
  told_more right told =
      take_more answers n x within ∙ ap (λ l. l ++ get_or answers n x ∷ []) told
      ∙ ap (λ t. logged_each (take n ds) (content_of a.now.trees) ++ t ∷ [])
      (sym is ∙ right ∙ ap (λ (e : Decision). logged_as before e.gtrid) at)
      ∙ sym (logged_more ds n d (content_of a.now.trees) low)

  there_here : IsTrue a.is_open → Already ≡ logged → Already ≡ logged_as before d.gtrid
  there_here is_open there =
      let named : get_or answers n New ≡ Already = at_any answers n New x within ∙ sym is ∙ sym there in
      sym (may.there is_open n named) ∙ answer_at ds (content_of a.now.trees) n d Already low
      ∙ ap (λ (e : Decision). logged_as before e.gtrid) (sym at)

  pub may_insert : (m : State) → WritesFirst ds answers n a m → IsTrue m.is_open → get (content_of m.now.trees).decisions d.gtrid ≡ None
      → MayInsert d.gtrid m
  may_insert m first h none = let here = is_at ds answers n a m may first h in record { inside = here.inside; now = here.now; none = none }

  pub inserts_one : (m m′ : State) → New ≡ logged → WritesFirst ds answers n a m → IsTrue m.is_open
      → get (content_of m.now.trees).decisions d.gtrid ≡ None
      → HasWritten d.gtrid (waiting d) (content_of m.now.trees) m′
      → WritesFirst ds answers (n + 1) a m′
  inserts_one m m′ new first h none has =
      let here = is_at ds answers n a m may first h in
      let absent : get before.decisions d.gtrid ≡ None = ap (λ (c : Content). get c.decisions d.gtrid) (sym here.content) ∙ none in
      record {
        told = λ is_open. told_more (sym new ∙ sym (none_is_new d.gtrid before absent)) (first.told is_open);
        made = inr (record {
          was_open = here.was_open;
          is_open = has.is_open;
          inside = has.inside;
          now = has.now;
          sound = has.sound;
          content =
              has.content ∙ fresh d.gtrid (waiting d) (content_of m.now.trees) none ∙ ap (with_one d) here.content
              ∙ ap (λ (e : Decision). with_one e before) at
              ∙ sym (commits_more ds n d (content_of a.now.trees) low);
        });
      }

  passes : (m : State) → Already ≡ logged → HasBegunOrMade ds answers n a m → HasBegunOrMade ds answers (n + 1) a m
  passes m there (inl (none, same)) = inl (
    ap (list_any is_new) (take_more answers n x within) ∙ any_push (take n answers) (get_or answers n x)
        ∙ ap (λ b. b || is_new (get_or answers n x)) none
        ∙ ap is_new (sym is ∙ sym there),
    same,
  )
  passes m there (inr has) = inr (record {
    was_open = has.was_open;
    is_open = has.is_open;
    inside = has.inside;
    now = has.now;
    sound = has.sound;
    content =
        has.content ∙ sym (already_stays d.gtrid (waiting d) before (there_here has.was_open there))
        ∙ ap (λ (e : Decision). with_one e before) at
        ∙ sym (commits_more ds n d (content_of a.now.trees) low);
  })

  pub passes_one : (m : State) → Already ≡ logged → WritesFirst ds answers n a m → WritesFirst ds answers (n + 1) a m
  passes_one m there first = record {
    told = λ is_open. told_more (sym there ∙ there_here is_open there) (first.told is_open);
    made = passes m there first.made;
  }

module _ (ds : List Decision) (answers : List Logged) (n : ℕ) (a m : State) (high : length ds ≤ n) (all : length answers ≤ n)
    (some : list_any is_new answers ≡ true) where
  made_to_end : HasBegunOrMade ds answers n a m → HasMade (with_commits ds) a m
  made_to_end (inl (none, same)) = absurd (true≢false (sym some ∙ ap (list_any is_new) (sym (take_all n answers all)) ∙ none))
  made_to_end (inr has) = subst (λ l. HasMade (with_commits l) a m) (take_all n ds high) has

  pub written_to_end : WritesFirst ds answers n a m → HasWrittenAll ds answers a m
  written_to_end first =
      let made = made_to_end first.made in
      record {
        made = made;
        told = sym (take_all n answers all) ∙ first.told made.was_open ∙ ap (λ l. logged_each l (content_of a.now.trees)) (take_all n ds high);
      }

-- ** which rows are there before any is written

there_twice : (xs : List Logged) (n : ℕ) → get_or xs n New ≡ Already → get_or xs n Already ≡ Already
there_twice [] n h = refl
there_twice (x ∷ xs) zero h = h
there_twice (x ∷ xs) (suc n) h = there_twice xs n h

pub right_are_there : (ds : List Decision) (answers : List Logged) (c : Content) → answers ≡ logged_each ds c → AreThere ds answers c
right_are_there ds answers c is n h = there_twice (logged_each ds c) n (ap (λ l. get_or l n New) (sym is) ∙ h)

new_at : (k n : ℕ) → get_or (replicate k New) n New ≡ New
new_at zero n = refl
new_at (suc k) zero = refl
new_at (suc k) (suc n) = new_at k n

-- where all are answered as new, none has to be there
pub new_are_there : (ds : List Decision) (k : ℕ) (c : Content) → AreThere ds (replicate k New) c
new_are_there ds k c n h = absurd (let e : New ≡ Already = sym (new_at k n) ∙ h in cc)

pub some_new : (k : ℕ) → 0 < k → list_any is_new (replicate k New) ≡ true
some_new zero some = absurd (omega (arith, some))
some_new (suc k) some = refl

-- ** the transaction ends

module _ (ds : List Decision) (a m e : State) where
  pub may_begin : (answers : List Logged) → AreThereIn ds answers a → IsOrderly a → MayInsertAll ds answers (begun a)
  may_begin answers there order = record {
    inside = refl;
    now = λ h. (order h).now;
    there = λ h. let was : a.is_open ≡ true = h in there (content_of a.now.trees) (rw was refl);
  }

-- the answers are right of the log as it was
pub told_before : (ds : List Decision) (answers : List Logged) (a m : State) → HasWrittenAll ds answers (begun a) m
    → IsSomeAnd (content_in a) (λ c. answers ≡ logged_each ds c)
told_before ds answers a m has = let was : a.is_open ≡ true = has.made.was_open in rw was has.told
