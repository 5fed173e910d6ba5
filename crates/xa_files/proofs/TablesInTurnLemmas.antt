-- Reading in turn, seen table by table.
use Rattle.std.proofs.Common.{◌≡◌, ◌∙◌, ℕ, zero, suc, ◌+◌, ◌<◌, List, [], ◌∷◌, Some, Result, Ok, Err, refl, ap, subst, sym, arith, add-zero}
use Rattle.std.specs.Prelude.{slice_get}
use Rattle.std.proofs.lemmas.Option.{same_Some, none-some}
use Rattle.toml.specs.Data.{Data, Items, no_items, item, get_item}
use Rattle.xa_files.specs.TablesInTurn.{Asks, EachIsRead, FirstIsFaulty}
use Rattle.xa_files.specs.Reading.{◌>>=◌}
use Rattle.xa_files.specs.declared.fault.RunFault.{RunFault}

-- a success is no fault
pub ok_not_err : {A : Type 0} (x : A) (f : RunFault) → ◌≡◌ {A = Result A RunFault} (Ok x) (Err f) → ⊥
ok_not_err x f h = cc

err_not_ok : {A : Type 0} (x : A) (f : RunFault) → ◌≡◌ {A = Result A RunFault} (Err f) (Ok x) → ⊥
err_not_ok x f h = cc

-- one fault is one fault, and one success one
pub same_err : {A : Type 0} (e f : RunFault) → ◌≡◌ {A = Result A RunFault} (Err e) (Err f) → e ≡ f
same_err e f h = cc

same_ok : {A : Type 0} (x y : A) → ◌≡◌ {A = Result A RunFault} (Ok x) (Ok y) → x ≡ y
same_ok x y h = cc

-- what the first k tables make of a state
abbrev pub state_before : {S : Type 0} → (S → Data → S) → ℕ → S → Items → S
state_before next zero s items = s
state_before next (suc k) s no_items = s
state_before next (suc k) s (item value items) = state_before next k (next s value) items

-- Each table is read with its number and with a state, which it changes for those after it.
module _ {A S : Type 0} (read_at : ℕ → S → Data → Result A RunFault) (next : S → Data → S) (read_from : ℕ → S → Items → Result (List A) RunFault)
    (none : (n : ℕ) (s : S) → read_from n s no_items ≡ Ok [])
    (more : (n : ℕ) (s : S) (value : Data) (items : Items) → read_from n s (item value items)
    ≡ (read_at n s value >>= λ x. read_from (n + 1) (next s value) items >>= λ xs. Ok (x ∷ xs)))
  where
    record AsksFrom (n : ℕ) (s : S) (items : Items) (k : ℕ) (answer : Result A RunFault) : Type 0 where
      value : Data
      there : get_item k items ≡ Some value
      asks : read_at (n + k) (state_before next k s items) value ≡ answer

    here : (n : ℕ) (s : S) (value : Data) (items : Items) (answer : Result A RunFault)
        → read_at n s value ≡ answer → AsksFrom n s (item value items) 0 answer
    here n s value items answer is = record { value = value; there = refl; asks = ap (λ m. read_at m s value) (add-zero n) ∙ is }

    later : (n : ℕ) (s : S) (value : Data) (items : Items) (k : ℕ) (answer : Result A RunFault)
        → AsksFrom (n + 1) (next s value) items k answer → AsksFrom n s (item value items) (suc k) answer
    later n s value items k answer h = record {
      value = h.value;
      there = h.there;
      asks =
          let place : n + suc k ≡ n + 1 + k = omega arith in
          ap (λ m. read_at m (state_before next k (next s value) items) h.value) place ∙ h.asks;
    }

    abbrev Faulty : ℕ → S → Items → RunFault → Type 0
    Faulty n s items fault =
        (k : ℕ) × AsksFrom n s items k (Err fault) × ((j : ℕ) → j < k → (one : A) × AsksFrom n s items j (Ok one))

    before_later : (n : ℕ) (s : S) (value : Data) (items : Items) (one : A) (k : ℕ) → read_at n s value ≡ Ok one
        → ((j : ℕ) → j < k → (x : A) × AsksFrom (n + 1) (next s value) items j (Ok x))
        → (j : ℕ) → j < suc k → (x : A) × AsksFrom n s (item value items) j (Ok x)
    before_later n s value items one k is before zero within = (one, here n s value items (Ok one) is)
    before_later n s value items one k is before (suc j) within =
        let b = before j (omega arith) in (b.0, later n s value items j (Ok b.0) b.1)

    faulty_item : (n : ℕ) (s : S) (value : Data) (items : Items) (fault : RunFault) (first : Result A RunFault) (others : Result (List A) RunFault)
        → read_at n s value ≡ first → (others ≡ Err fault → Faulty (n + 1) (next s value) items fault)
        → (first >>= λ x. others >>= λ xs. Ok (x ∷ xs)) ≡ Err fault → Faulty n s (item value items) fault
    faulty_item n s value items fault (Err e) others is more h =
        (0, here n s value items (Err fault) (is ∙ ap Err (same_err e fault h)), λ j within. absurd (omega arith))
    faulty_item n s value items fault (Ok one) (Err e) is more h =
        let f = more (ap Err (same_err e fault h)) in
        (suc f.0, later n s value items f.0 (Err fault) f.1, before_later n s value items one f.0 is f.2)
    faulty_item n s value items fault (Ok one) (Ok xs) is more h = absurd (ok_not_err (one ∷ xs) fault h)

    faulty : (n : ℕ) (s : S) (items : Items) (fault : RunFault) → read_from n s items ≡ Err fault → Faulty n s items fault
    faulty n s no_items fault h = absurd (ok_not_err [] fault (sym (none n s) ∙ h))
    faulty n s (item value items) fault h =
        faulty_item n s value items fault (read_at n s value) (read_from (n + 1) (next s value) items) refl
        (faulty (n + 1) (next s value) items fault) (sym (more n s value items) ∙ h)

    abbrev Read : ℕ → S → Items → List A → Type 0
    Read n s items list = (k : ℕ) (one : A) → slice_get list k ≡ Some one → AsksFrom n s items k (Ok one)

    read_pair : (n : ℕ) (s : S) (value : Data) (items : Items) (first : A) (others : List A) → read_at n s value ≡ Ok first
        → Read (n + 1) (next s value) items others → Read n s (item value items) (first ∷ others)
    read_pair n s value items first others is more zero one at = here n s value items (Ok one) (is ∙ ap Ok (same_Some first one at))
    read_pair n s value items first others is more (suc k) one at = later n s value items k (Ok one) (more k one at)

    read_item : (n : ℕ) (s : S) (value : Data) (items : Items) (list : List A) (first : Result A RunFault) (others : Result (List A) RunFault)
        → read_at n s value ≡ first → ((xs : List A) → others ≡ Ok xs → Read (n + 1) (next s value) items xs)
        → (first >>= λ x. others >>= λ xs. Ok (x ∷ xs)) ≡ Ok list → Read n s (item value items) list
    read_item n s value items list (Err e) others is more h = absurd (err_not_ok list e h)
    read_item n s value items list (Ok one) (Err e) is more h = absurd (err_not_ok list e h)
    read_item n s value items list (Ok one) (Ok xs) is more h =
        subst (Read n s (item value items)) (same_ok (one ∷ xs) list h) (read_pair n s value items one xs is (more xs refl))

    read : (n : ℕ) (s : S) (items : Items) (list : List A) → read_from n s items ≡ Ok list → Read n s items list
    read n s no_items list h = λ k one at. absurd (none-some one (rw (← same_ok [] list (sym (none n s) ∙ h)) at at))
    read n s (item value items) list h =
        read_item n s value items list (read_at n s value) (read_from (n + 1) (next s value) items) refl
        (λ xs. read (n + 1) (next s value) items xs) (sym (more n s value items) ∙ h)

    -- what a table asks for by its place, if the first is read with a state
    module _ (asked_at : Items → ℕ → Data → Result A RunFault) (start : S)
        (same : (items : Items) (k : ℕ) (value : Data) → asked_at items k value ≡ read_at (1 + k) (state_before next k start items) value)
      where
        from_start : (items : Items) (k : ℕ) (answer : Result A RunFault) → AsksFrom 1 start items k answer → Asks asked_at items k answer
        from_start items k answer h = record { value = h.value; there = h.there; asks = same items k h.value ∙ h.asks }

        pub each_is_read : EachIsRead asked_at (read_from 1 start)
        each_is_read items list h k one at = from_start items k (Ok one) (read 1 start items list h k one at)

        pub first_is_faulty : FirstIsFaulty asked_at (read_from 1 start)
        first_is_faulty items fault h =
            let f = faulty 1 start items fault h in
            (f.0, from_start items f.0 (Err fault) f.1, λ j within. let b = f.2 j within in (b.0, from_start items j (Ok b.0) b.1))
