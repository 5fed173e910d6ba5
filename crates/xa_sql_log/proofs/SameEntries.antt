-- Maps and sets of lists that have the same entries, and the lists that maps and sets give.
use Rattle.std.proofs.Common.{◌≡◌, ◌⊎◌, inl, inr, ℕ, ◌+◌, ◌<◌, List, [], ◌∷◌, ◌++◌, map, reverse, length, take, get_or, ◌||◌, Bool, true, false, cond, Some, None, is_eq, refl, sym, ap, subst, ◌∙◌, Ordering, Less}
use Rattle.std.specs.Ordering.{eq_by_cmp}
use Rattle.std.specs.Cmp.{IsTotalOrder, both_ways, tied_itself}
use Rattle.std.specs.List.{AllByRecursion, list_any}
use Rattle.std.specs.List.Sorted.{IsStrictlySortedBy}
use Rattle.std.specs.FinMap.{insert as put_in, IsAntisymmetric, entries, entries_sorted, find, from_entries, get-from_entries, get-insert, same_map}
use Rattle.xa_log.specs.KeySet.{KeySet, insert, from_list, from_list_push, items, same_set, contains-from_list, contains-insert}
use Rattle.std.specs.BTreeSet.{BTreeSet, Updates}
use Rattle.std.specs.BTreeMap.{BTreeMap, get as get_tree, is_at}
use Rattle.std.specs.Map.{lookup}
use Rattle.sqlite.specs.Tree.{IsAscending}
use Rattle.sqlite_trees.proofs.ListLemmas.{ascending-append}
use Rattle.sqlite_rules.proofs.ProbeLemmas.{mapped_has}
use Rattle.std.proofs.lemmas.Bool.{cases_Bool, true≢false}
use Rattle.std.proofs.lemmas.Cmp.{eq_by_cmp_equiv}
use Rattle.std.proofs.lemmas.List.{map-append, reverse-append, take_more}
use Rattle.sqlite_rules.specs.Lists.{Has}
use Rattle.sqlite_rules.proofs.ListLemmas.{all_from, all_has, some_has, some_from}
use Rattle.xa_log.proofs.Rising.{risen}
use Rattle.xa_base.proofs.Orders.{equal_is}
use Rattle.xa_log.proofs.KeySets.{entries-from_entries, items-from_list}

-- no key comes twice
abbrev pub IsOnce : {K X : Type 0} → List (K × X) → Type 0
IsOnce {K} {X} es = (a b : K × X) → Has es a → Has es b → a.0 ≡ b.0 → a ≡ b

module _ {K X : Type 0} {R : K → K → Ordering} (o : IsTotalOrder R) (exact : IsAntisymmetric R) where
  pub find_has : (q : K) (v : X) (es : List (K × X)) → find R q es ≡ Some v → Has es (q, v)
  find_has q v [] is = absurd (cc)
  find_has q v (e ∷ es) is = elim (cases_Bool (eq_by_cmp R q e.0)) [
    | inl same ↦ (
        let value : Some e.1 ≡ Some v = sym (ap (λ b. cond b (Some e.1) (find R q es)) same) ∙ is in
        let last : e.1 ≡ v = cc in
        let key : q ≡ e.0 = exact q e.0 (equal_is _ same) in
        inl (λ i. (key i, sym last i)))
    | inr apart ↦ inr (find_has q v es (sym (ap (λ b. cond b (Some e.1) (find R q es)) apart) ∙ is))
  ]

  pub has_find : (q : K) (v : X) (es : List (K × X)) → IsOnce es → Has es (q, v) → find R q es ≡ Some v
  has_find q v [] once h = absurd h
  has_find q v (e ∷ es) once h = elim (cases_Bool (eq_by_cmp R q e.0)) [
    | inl same ↦ ap (λ b. cond b (Some e.1) (find R q es)) same
        ∙ ap (λ (x : K × X). Some x.1) (once e (q, v) (inl refl) h (sym (exact q e.0 (equal_is _ same))))
    | inr apart ↦ ap (λ b. cond b (Some e.1) (find R q es)) apart ∙ elim h [
      | inl one ↦ absurd (true≢false (sym (ap is_eq (tied_itself o q)) ∙ subst (λ k. eq_by_cmp R q k ≡ false) (sym (ap (λ (x : K × X). x.0) one)) apart))
      | inr later ↦ has_find q v es (λ a b p s. once a b (inr p) (inr s)) later
    ]
  ]

  -- two lists with the same entries are one map
  pub same_entries_in : (es fs : List (K × X)) → ((e : K × X) → Has es e → Has fs e) → ((e : K × X) → Has fs e → Has es e)
      → IsOnce fs → from_entries {R = R} es ≡ from_entries fs
  same_entries_in es fs into back once = same_map o exact _ _ (λ q. get-from_entries o es q ∙ both q ∙ sym (get-from_entries o fs q))
    where
      both : (q : K) → find R q es ≡ find R q fs
      both q = elim (find R q es) as (λ found. find R q es ≡ found → found ≡ find R q fs) [
        | Some v ↦ λ is. sym (has_find q v fs once (into (q, v) (find_has q v es is)))
        | None ↦ λ is. elim (find R q fs) as (λ found. find R q fs ≡ found → None ≡ found) [
          | Some v ↦ λ there. sym is ∙ has_find q v es (λ a b p s. once a b (into a p) (into b s)) (back (q, v) (find_has q v fs there))
          | None ↦ λ _. refl
        ] refl
      ] refl

-- ---- sets

module _ {K : Type 0} {R : K → K → Ordering} (o : IsTotalOrder R) (exact : IsAntisymmetric R) where
  -- two lists with the same items are one set
  pub same_items_in : (xs ys : List K) → ((x : K) → Has xs x → Has ys x) → ((x : K) → Has ys x → Has xs x) → from_list {R = R} xs ≡ from_list ys
  same_items_in xs ys into back = same_set o exact _ _ (λ q. contains-from_list o xs q ∙ both_ways _ _
      (λ h. let one = some_has (eq_by_cmp R q) xs h in some_from (eq_by_cmp R q) ys one.0 (into one.0 one.1) one.2)
      (λ h. let one = some_has (eq_by_cmp R q) ys h in some_from (eq_by_cmp R q) xs one.0 (back one.0 one.1) one.2)
      ∙ sym (contains-from_list o ys q))

  pub items_rise : (s : KeySet R) → IsStrictlySortedBy R (items s)
  unfolding items
  items_rise s = risen R (entries s) (entries_sorted s)

-- ---- a loop that puts what each item says into a set

swapped_tie : {K : Type 0} {R : K → K → Ordering} → IsTotalOrder R → (k q : K) (b : Bool) → cond (eq_by_cmp R k q) true b ≡ (eq_by_cmp R q k || b)
swapped_tie {R = R} o k q b = ap (λ t. cond t true b) ((eq_by_cmp_equiv o).symm k q) ∙ either (eq_by_cmp R q k) b
  where
    either : (a b : Bool) → cond a true b ≡ (a || b)
    either true b = refl
    either false b = refl

module _ {K X : Type 0} {R : K → K → Ordering} (o : IsTotalOrder R) (exact : IsAntisymmetric R) (f : X
    → K) (xs ys : List X) (i : ℕ) (x : X) (seen : ys ≡ xs) (here : x ≡ get_or ys i x) (low : i < length xs) where
  more : map f (take (i + 1) xs) ≡ map f (take i xs) ++ f x ∷ []
  more = ap (map f) (take_more xs i x low) ∙ map-append f (take i xs) (get_or xs i x ∷ [])
      ∙ ap (λ y. map f (take i xs) ++ f y ∷ []) (sym (here ∙ ap (λ all. get_or all i x) seen))

  pub set_more : (old new : BTreeSet K) (k : K) → k ≡ f x → from_list {R = R} old.keys ≡ from_list (map f (take i xs))
      → Updates R old new k true → from_list {R = R} new.keys ≡ from_list (map f (take (i + 1) xs))
  set_more old new k is was put =
      let one : from_list {R = R} new.keys ≡ insert (from_list old.keys) k =
      same_set o exact _ _ (λ q. contains-from_list o new.keys q ∙ put.0 q ∙ swapped_tie o k q (list_any (eq_by_cmp R q) old.keys)
      ∙ sym (contains-insert o (from_list old.keys) k q ∙ ap (λ b. eq_by_cmp R q k || b) (contains-from_list o old.keys q))) in
      one ∙ ap (λ y. insert (from_list {R = R} old.keys) y) is ∙ ap (λ s. insert s (f x)) was
      ∙ sym (ap from_list more ∙ from_list_push o exact (map f (take i xs)) (f x))

-- the keys in order of a set that was made so
pub set_listed : {K : Type 0} {R : K → K → Ordering} → IsTotalOrder R → IsAntisymmetric R → (set : BTreeSet K) (ks : List K)
    → IsStrictlySortedBy R set.keys → from_list {R = R} set.keys ≡ from_list ks → set.keys ≡ items (from_list {R = R} ks)
set_listed o exact set ks up same = sym (items-from_list o set.keys up) ∙ ap items same

-- ---- the same of a map, where the last entry of a key counts

looked_up : {K X : Type 0} (R : K → K → Ordering) (q : K) (es : List (K × X)) → find R q es ≡ lookup (is_at (R q)) es
looked_up R q [] = refl
looked_up R q (e ∷ es) = ap (cond (eq_by_cmp R q e.0) (Some e.1)) (looked_up R q es)

module _ {K X A : Type 0} {R : K → K → Ordering} (o : IsTotalOrder R) (exact : IsAntisymmetric R) (f : A
    → K × X) (xs ys : List A) (i : ℕ) (x : A) (seen : ys ≡ xs) (here : x ≡ get_or ys i x) (low : i < length xs) where
  turned : reverse (map f (take (i + 1) xs)) ≡ f x ∷ reverse (map f (take i xs))
  turned =
      ap reverse (ap (map f) (take_more xs i x low) ∙ map-append f (take i xs) (get_or xs i x ∷ [])
      ∙ ap (λ y. map f (take i xs) ++ f y ∷ []) (sym (here ∙ ap (λ all. get_or all i x) seen)))
      ∙ reverse-append (map f (take i xs)) (f x ∷ [])

  pub map_more : (old new : BTreeMap K X) (k : K) (v : X) → (k, v) ≡ f x
      → from_entries {R = R} old.entries ≡ from_entries (reverse (map f (take i xs)))
      → ((q : K) → get_tree R new q ≡ cond (eq_by_cmp R k q) (Some v) (get_tree R old q))
      → from_entries {R = R} new.entries ≡ from_entries (reverse (map f (take (i + 1) xs)))
  map_more old new k v is was put =
      let one : from_entries {R = R} new.entries ≡ put_in (from_entries old.entries) k v =
      same_map o exact _ _ (λ q. get-from_entries o new.entries q ∙ looked_up R q new.entries ∙ put q
      ∙ ap (λ t. cond t (Some v) (get_tree R old q)) ((eq_by_cmp_equiv o).symm k q)
      ∙ ap (λ g. cond (eq_by_cmp R q k) (Some v) g) (sym (get-from_entries o old.entries q ∙ looked_up R q old.entries))
      ∙ sym (get-insert o (from_entries old.entries) k v q)) in
      one ∙ ap (λ m. put_in m k v) was
      ∙ ap (λ (e : K × X). put_in (from_entries {R = R} (reverse (map f (take i xs)))) e.0 e.1) is ∙ sym (ap from_entries turned)

pub map_listed : {K X : Type 0} {R : K → K → Ordering} → IsTotalOrder R → IsAntisymmetric R
    → (m : BTreeMap K X) (es : List (K × X)) → IsStrictlySortedBy R (map (λ (e : K × X). e.0) m.entries) → from_entries {R = R} m.entries ≡ from_entries es
    → m.entries ≡ entries (from_entries {R = R} es)
map_listed o exact m es up same = sym (entries-from_entries o m.entries up) ∙ ap entries same

-- ---- a list that rises has no key twice

pub rising_once : {K X : Type 0} {R : K → K → Ordering} → IsTotalOrder R → (es : List (K × X)) → IsStrictlySortedBy R (map (λ (e : K × X). e.0) es) → IsOnce es
unfolding IsStrictlySortedBy
rising_once o [] up a b h k same = absurd h
rising_once {K} {X} {R} o (e ∷ es) up a b h k same = go h k (λ p q. rising_once o es up.1 a b p q same)
  where
    clash : (x : K × X) → Has es x → e.0 ≡ x.0 → ⊥
    clash x h is =
        let low : R e.0 x.0 ≡ Less = all_has (λ y. R e.0 y ≡ Less) (map (λ (e : K × X). e.0) es) x.0 up.0 (mapped_has (λ (e : K × X). e.0) es x h) in
        let own : R e.0 e.0 ≡ Less = subst (λ y. R e.0 y ≡ Less) (sym is) low in
        let tie = sym (tied_itself o e.0) ∙ own in
        cc

    go : (a ≡ e) ⊎ Has es a → (b ≡ e) ⊎ Has es b → (Has es a → Has es b → a ≡ b) → a ≡ b
    go (inl p) (inl q) later = p ∙ sym q
    go (inl p) (inr q) later = absurd (clash b q (sym (ap (λ (x : K × X). x.0) p) ∙ same))
    go (inr p) (inl q) later = absurd (clash a p (sym (ap (λ (x : K × X). x.0) q) ∙ sym same))
    go (inr p) (inr q) later = later p q

-- ---- one list after another

module _ {K : Type 0} (R : K → K → Ordering) where
  as_ascending : (ks : List K) → IsStrictlySortedBy R ks → IsAscending (λ a b. R a b ≡ Less) ks
  unfolding IsStrictlySortedBy
  as_ascending [] up = tt
  as_ascending (k ∷ ks) up = (up.0, as_ascending ks up.1)

  from_ascending : (ks : List K) → IsAscending (λ a b. R a b ≡ Less) ks → IsStrictlySortedBy R ks
  unfolding IsStrictlySortedBy
  from_ascending [] up = tt
  from_ascending (k ∷ ks) up = (up.0, from_ascending ks up.1)

  pub append_rises : (xs ys : List K) → IsStrictlySortedBy R xs → IsStrictlySortedBy R ys
      → ((x y : K) → Has xs x → Has ys y → R x y ≡ Less) → IsStrictlySortedBy R (xs ++ ys)
  append_rises xs ys p q below =
      let first : IsAscending (λ a b. R a b ≡ Less) xs = as_ascending xs p in
      let second : IsAscending (λ a b. R a b ≡ Less) ys = as_ascending ys q in
      from_ascending (xs ++ ys) (ascending-append (λ a b. R a b ≡ Less) xs ys first second
      (all_from (λ x. AllByRecursion (λ y. R x y ≡ Less) ys) xs (λ x h. all_from (λ y. R x y ≡ Less) ys (λ y k. below x y h k))))
