-- The table of branches and its index.
use Rattle.std.proofs.Common.{◌≡◌, ◌==◌, ℕ, ℤ, ◌&&◌, Bool, true, false, if◌then◌else◌, cond, List, [], ◌∷◌, map, Option, Some, None, IsSome, Result, Ok, Err, IsOk, OnOk, OnErr, refl, sym, ◌∙◌, ap, subst}
use Rattle.std.specs.Prelude.{Contains, ◌↔◌, ◌≢◌, ◌^◌, nat_lt, not}
use Rattle.std.specs.List.{All, list_any}
use Rattle.std.specs.BTreeSet as sorted
use Rattle.std.specs.BTreeSet.{BTreeSet, contains}
use Rattle.std.specs.HashMap as hashed
use Rattle.std.specs.HashMap.{HashMap}
use Rattle.std.specs.Map.{lookup}
use Rattle.std.specs.Option.{option_map, option_map_or}
use Rattle.std.specs.Ordering.{int_eq}
use Rattle.std.proofs.lemmas.Map.Made.{lookup-map_values}
use Rattle.std.proofs.lemmas.Map.Views.{btree_set_contains_iff}
use Rattle.std.proofs.lemmas.Bool.Decides.{Decides-int_eq}
use Rattle.std.proofs.lemmas.List.Elements.{All-contains}
use Rattle.std.proofs.lemmas.List.Folds.{Any-from_list_any}
use Rattle.std.proofs.lemmas.Bool.{and_parts, lt-ltb, or_parts}
use Rattle.xa_base.proofs.XidOrder.{xid_cmp_exact, xid_eq-refl, xid_eq-same}
use Rattle.xa_base.proofs.BranchLemmas.{numbers_fit}
use Rattle.xa_base.specs.Branch.{branch_of_xid, xid_of_branch}
use Rattle.xa_base.specs.Xid.{IsXid, xid_cmp_total, Xid, xid_cmp, xid_eq}
use Rattle.xa_base.specs.declared.branch.Branch.{Branch}
use Rattle.xa_base.specs.HeldBranch.{HeldBranch, new_branch, broken_by, crashed}
use Rattle.xa_base.specs.Recover.{IsInDoubtList}
use Rattle.xa_base.specs.Standing.{is_in_doubt, fate_of}
use Rattle.xa_base.specs.StateTable.{broken}
use Rattle.xa_base.specs.declared.state.Fate.TheVariants as Fates
use Rattle.xa_base.specs.declared.state.Standing.{Standing}
use Rattle.xa_base.specs.declared.state.Standing.TheVariants.{Unstarted, Active, Idle, Prepared, RollbackOnly, Completed, Committed, RolledBack, Lost, ReadOnly, Forgotten}
use Rattle.xa_base.proofs.StateLemmas.{broken_in_doubt}
use Rattle.xa_rm.specs.Branches.{IsIndex, ListsIf, held_at, branch_or_new}
use Rattle.xa_rm.specs.TableEntries.{held_branch, was_started}
use Rattle.xa_rm.specs.ResourceManager.{HoldsFormat, HoldsNewer, HoldsNoFormat, HoldsPast, is_past, is_past_as, names_newer}
use Rattle.xa_rm.specs.declared.table_entry.TableEntry.{TableEntry}

-- ** the list of the index

flipped : {A B : Type 0} → A ↔ B → B ↔ A
flipped e = (e.1, e.0)

-- an index in order lists what is in doubt
pub index_list : {S : Type 0} (table : HashMap Xid TableEntry S) (index : BTreeSet Xid) → IsIndex table index → sorted.IsOrdered xid_cmp index
    → IsInDoubtList (held_at table) index.keys
index_list table index is_index ordered = record {
  in_order = ordered;
  listed = λ x.
      subst (λ (b : Bool). Contains index.keys x ↔ (b ≡ true)) (is_index.indexed x)
      (flipped (btree_set_contains_iff xid_cmp_total xid_cmp_exact index x));
}

-- ** one branch is put in the table

put_at : (t b : Bool) (had : Bool) (h : TableEntry) (o : Option TableEntry) → b ≡ is_in_doubt h.standing → had ≡ is_in_doubt (branch_or_new o).standing
    → cond t b had ≡ is_in_doubt (branch_or_new (cond t (Some h) o)).standing
put_at true b had h o e f = e
put_at false b had h o e f = f

-- the index goes along
pub index_after_put : {S : Type 0} (table new_table : HashMap Xid TableEntry S) (index new_index : BTreeSet Xid) (x : Xid) (h : TableEntry) (b : Bool)
    → IsIndex table index
    → hashed.Updates xid_eq table new_table x (Some h) → ListsIf index new_index x b → b ≡ is_in_doubt h.standing
    → IsIndex new_table new_index
index_after_put table new_table index new_index x h b is_index put listed e = record {
  indexed = λ q.
      listed q
      ∙ put_at (xid_eq x q) b (contains xid_cmp index q) h (hashed.get xid_eq table q) e (is_index.indexed q)
      ∙ ap (λ (o : Option TableEntry). is_in_doubt (branch_or_new o).standing) (sym (put.0 q));
}

-- an index lists what it lists
pub lists_same : (index : BTreeSet Xid) (x : Xid) (b : Bool) → contains xid_cmp index x ≡ b → ListsIf index index x b
lists_same index x b e y =
    elim (xid_eq x y) as (λ t. xid_eq x y ≡ t → contains xid_cmp index y ≡ (if t then b else contains xid_cmp index y)) [
      | true ↦ λ same. ap (contains xid_cmp index) (sym (xid_eq-same x y same)) ∙ e
      | false ↦ λ same. refl
    ] refl

-- the branches after an entry was put
pub held_after_put :
    {S : Type 0} (table new_table : HashMap Xid TableEntry S) (x : Xid) (h : TableEntry) → hashed.Updates xid_eq table new_table x (Some h)
    → (y : Xid) → held_at new_table y ≡ (if xid_eq x y then held_branch h else held_at table y)
held_after_put table new_table x h put y =
    ap branch_or_new (put.0 y)
    ∙ (elim (xid_eq x y) as (λ t. branch_or_new (cond t (Some h) (hashed.get xid_eq table y)) ≡ (if t then held_branch h else held_at table y))
    [ true ↦ refl | false ↦ refl ])

-- the index stays if a new branch is put, or none was, that isn't in doubt
pub index_after_new :
    {S T E : Type 0} (table new_table : HashMap Xid TableEntry S) (index : BTreeSet Xid) (x : Xid) (h : TableEntry) (r : Result T E) → IsIndex table index
    → hashed.get xid_eq table x ≡ None → is_in_doubt h.standing ≡ false → OnOk r (hashed.Updates xid_eq table new_table x (Some h))
    → OnErr r (hashed.IsUnchanged table new_table) → IsIndex new_table index
index_after_new table new_table index x h (Ok v) is_index none e put same =
    let unlisted = is_index.indexed x ∙ ap (λ (o : Option TableEntry). is_in_doubt (branch_or_new o).standing) none in
    index_after_put table new_table index index x h false is_index put (lists_same index x false unlisted) (sym e)
index_after_new table new_table index x h (Err y) is_index none e put same = record {
  indexed = λ q.
      is_index.indexed q
      ∙ ap (λ (es : List (Xid × TableEntry)). is_in_doubt (branch_or_new (lookup (xid_eq q) es)).standing) (sym same);
}

-- what holds anyway holds at an error
pub on_err : {T E P : Type 0} (r : Result T E) → P → OnErr r P
on_err (Ok v) p = tt
on_err (Err e) p = p

-- what never fails goes well
pub never_err : {T E : Type 0} (r : Result T E) → OnErr r ⊥ → IsOk r
never_err (Ok v) never = refl
never_err (Err e) never = absurd never

-- what can't fail was done
pub sure : {T E : Type 0} {P Q : Type 0} (r : Result T E) → OnOk r P → OnErr r Q → (Q → ⊥) → P
sure (Ok v) done failed never = done
sure (Err e) done failed never = absurd (never failed)

pub found : {X : Type 0} (o : Option X) → IsSome o → o ≡ None → ⊥
found None some none = let no : ⊥ = cc in no
found (Some x) some none = let no : ⊥ = cc in no

-- ** every branch is changed

at_entry : (g : TableEntry → TableEntry) (f : HeldBranch → HeldBranch) → ((h : TableEntry) → held_branch (g h) ≡ f (held_branch h)) → new_branch ≡ f new_branch
    → (o : Option TableEntry) → branch_or_new (option_map g o) ≡ f (branch_or_new o)
at_entry g f same none None = none
at_entry g f same none (Some h) = same h

-- a change of all entries is a change of all branches
pub held_after_map : (g : TableEntry → TableEntry) (f : HeldBranch → HeldBranch) → ((h : TableEntry) → held_branch (g h) ≡ f (held_branch h))
    → new_branch ≡ f new_branch
    → {S : Type 0} (table new_table : HashMap Xid TableEntry S) → new_table.entries ≡ map (λ (e : Xid × TableEntry). (e.0, g e.1)) table.entries
    → (x : Xid) → held_at new_table x ≡ f (held_at table x)
held_after_map g f same none table new_table e x =
    ap (λ (es : List (Xid × TableEntry)). branch_or_new (lookup (xid_eq x) es)) e
    ∙ ap branch_or_new (lookup-map_values g (xid_eq x) table.entries)
    ∙ at_entry g f same none (lookup (xid_eq x) table.entries)

-- a change that moves no branch in or out of doubt leaves the index
pub index_after_map : (f : HeldBranch → HeldBranch) → ((b : HeldBranch) → is_in_doubt (f b).standing ≡ is_in_doubt b.standing)
    → {S : Type 0} (table new_table : HashMap Xid TableEntry S) (index : BTreeSet Xid) → ((x : Xid) → held_at new_table x ≡ f (held_at table x))
    → IsIndex table index → IsIndex new_table index
index_after_map f keeps table new_table index changed is_index = record {
  indexed = λ x.
      is_index.indexed x ∙ sym (keeps (held_at table x)) ∙ ap (λ (b : HeldBranch). is_in_doubt b.standing) (sym (changed x));
}

-- ** breaks

pub crashed_in_doubt : (b : HeldBranch) → is_in_doubt (crashed b).standing ≡ is_in_doubt b.standing
crashed_in_doubt b = broken_in_doubt b.standing

pub broken_by_in_doubt : (thread : ℕ) (b : HeldBranch) → is_in_doubt (broken_by thread b).standing ≡ is_in_doubt b.standing
broken_by_in_doubt thread b =
    elim (b.starter == thread) as
    (λ t. is_in_doubt (if t then record b { standing = broken b.standing } else b).standing ≡ is_in_doubt b.standing) [
      | true ↦ broken_in_doubt b.standing
      | false ↦ refl
    ]

-- an entry after all lines broke
abbrev pub crashed_held : TableEntry → TableEntry
crashed_held h = record h { standing = broken h.standing }

-- an entry after a line of this thread broke
abbrev pub broken_held : ℕ → TableEntry → TableEntry
broken_held thread h = if h.starter == thread then crashed_held h else h

pub broken_held-branch : (thread : ℕ) (h : TableEntry) → held_branch (broken_held thread h) ≡ broken_by thread (held_branch h)
broken_held-branch thread h =
    elim (h.starter == thread) as
    (λ t. held_branch (if t then crashed_held h else h) ≡ (if t then crashed (held_branch h) else held_branch h)) [ true ↦ refl | false ↦ refl ]

pub broken_new : (thread : ℕ) → new_branch ≡ broken_by thread new_branch
broken_new thread =
    elim (0 == thread) as (λ t. new_branch ≡ (if t then crashed new_branch else new_branch)) [ true ↦ refl | false ↦ refl ]

-- ** formats

-- whether an entry is of this format, and its branch ever was
abbrev pub is_of_format : ℤ → Xid × TableEntry → Bool
is_of_format z e = int_eq e.0.format z && was_started e.1.standing

started_fate : (s : Standing) → was_started s ≡ true → fate_of s ≢ Fates.Unstarted
started_fate Unstarted e = let no : ⊥ = cc in absurd no
started_fate Active e = λ f. let no : ⊥ = cc in no
started_fate Idle e = λ f. let no : ⊥ = cc in no
started_fate Prepared e = λ f. let no : ⊥ = cc in no
started_fate RollbackOnly e = λ f. let no : ⊥ = cc in no
started_fate (Completed how) e = λ f. let no : ⊥ = cc in no
started_fate Committed e = λ f. let no : ⊥ = cc in no
started_fate RolledBack e = λ f. let no : ⊥ = cc in no
started_fate Lost e = λ f. let no : ⊥ = cc in no
started_fate ReadOnly e = λ f. let no : ⊥ = cc in no
started_fate (Forgotten how) e = λ f. let no : ⊥ = cc in no

unstarted_fate : (s : Standing) → was_started s ≡ false → fate_of s ≡ Fates.Unstarted
unstarted_fate Unstarted e = refl
unstarted_fate _ e = let no : ⊥ = cc in absurd no

and-second : (a b : Bool) → a ≡ true → (a && b) ≡ false → b ≡ false
and-second true b h e = e
and-second false b h e = let no : ⊥ = cc in absurd no

-- an entry of the format that was started is of a branch that was
pub format_held : {S : Type 0} (table : HashMap Xid TableEntry S) → All (λ (p : Xid × TableEntry). hashed.get xid_eq table p.0 ≡ Some p.1) table.entries
    → (z : ℤ)
    → list_any (is_of_format z) table.entries ≡ true → HoldsFormat (held_at table) z
format_held table found_each z e =
    let some = Any-from_list_any (is_of_format z) table.entries e in
    let entry = some.1 in
    let found_there =
    All-contains (λ (p : Xid × TableEntry). hashed.get xid_eq table p.0 ≡ Some p.1) table.entries entry found_each
    (some.0, some.2, some.3) in
    let both = and_parts (int_eq entry.0.format z) (was_started entry.1.standing) some.4 in
    record {
      xid = entry.0;
      format = (Decides-int_eq entry.0.format z).0 both.0;
      started = subst (λ (o : Option TableEntry). fate_of (branch_or_new o).standing ≢ Fates.Unstarted) (sym found_there)
          (started_fate entry.1.standing both.1);
    }

unstarted_at : (x : Xid) (z : ℤ) → x.format ≡ z → (es : List (Xid × TableEntry)) → list_any (is_of_format z) es ≡ false
    → fate_of (branch_or_new (lookup (xid_eq x) es)).standing ≡ Fates.Unstarted
unstarted_at x z of [] none = refl
unstarted_at x z of (e ∷ es) none =
    let neither = or_parts (is_of_format z e) (list_any (is_of_format z) es) none in
    elim (xid_eq x e.0) as
    (λ t. xid_eq x e.0 ≡ t → fate_of (branch_or_new (cond t (Some e.1) (lookup (xid_eq x) es))).standing ≡ Fates.Unstarted) [
      | true ↦ λ at. unstarted_fate e.1.standing
          (and-second (int_eq e.0.format z) (was_started e.1.standing)
          ((Decides-int_eq e.0.format z).1 (ap (λ (y : Xid). y.format) (sym (xid_eq-same x e.0 at)) ∙ of)) neither.0)
      | false ↦ λ at. unstarted_at x z of es neither.1
    ] refl

-- if there is no such entry, no branch of the format ever was
pub format_not_held : {S : Type 0} (table : HashMap Xid TableEntry S) (z : ℤ) → list_any (is_of_format z) table.entries ≡ false
    → HoldsNoFormat (held_at table) z
format_not_held table z none = record { unstarted = λ x of. unstarted_at x z of table.entries none }

-- ** what earlier processes left

-- an identifier that names a branch is that branch's
pub newer_by_branch : (r i : ℕ) (x : Xid) (b : Branch) → IsXid x → Some b ≡ branch_of_xid x → x ≡ xid_of_branch b
    → not (is_past r i b) ≡ names_newer r i x
newer_by_branch r i x b valid read is = sym (λ j. not (own j && is_past r i b)) ∙ ap (λ o. option_map_or (λ c. not (is_past_as r i x c)) o false) read
  where
    own : (nat_lt b.thread (2 ^ 32) && xid_eq x (xid_of_branch b)) ≡ true
    own = let fits = numbers_fit x b valid (sym read) in
        let same : xid_eq x (xid_of_branch b) ≡ true = ap (xid_eq x) (sym is) ∙ xid_eq-refl x in
        (λ j. lt-ltb _ _ fits.thread j && same j)

-- whether an entry is of a branch of this manager that isn't past, and that ever was
abbrev pub is_newer_entry : (rm incarnation : ℕ) → Xid × TableEntry → Bool
is_newer_entry r i e = names_newer r i e.0 && was_started e.1.standing

pub newer_held : {S : Type 0} (table : HashMap Xid TableEntry S) → All (λ (p : Xid × TableEntry). hashed.get xid_eq table p.0 ≡ Some p.1) table.entries
    → (r i : ℕ)
    → list_any (is_newer_entry r i) table.entries ≡ true → HoldsNewer (held_at table) r i
newer_held table found_each r i e =
    let some = Any-from_list_any (is_newer_entry r i) table.entries e in
    let entry = some.1 in
    let found_there =
    All-contains (λ (p : Xid × TableEntry). hashed.get xid_eq table p.0 ≡ Some p.1) table.entries entry found_each
    (some.0, some.2, some.3) in
    let both = and_parts (names_newer r i entry.0) (was_started entry.1.standing) some.4 in
    record {
      xid = entry.0;
      newer = both.0;
      started = subst (λ (o : Option TableEntry). fate_of (branch_or_new o).standing ≢ Fates.Unstarted) (sym found_there)
          (started_fate entry.1.standing both.1);
    }

past_at : (x : Xid) (r i : ℕ) → names_newer r i x ≡ true → (es : List (Xid × TableEntry)) → list_any (is_newer_entry r i) es ≡ false
    → fate_of (branch_or_new (lookup (xid_eq x) es)).standing ≡ Fates.Unstarted
past_at x r i of [] none = refl
past_at x r i of (e ∷ es) none =
    let neither = or_parts (is_newer_entry r i e) (list_any (is_newer_entry r i) es) none in
    elim (xid_eq x e.0) as
    (λ t. xid_eq x e.0 ≡ t → fate_of (branch_or_new (cond t (Some e.1) (lookup (xid_eq x) es))).standing ≡ Fates.Unstarted) [
      | true ↦ λ at. unstarted_fate e.1.standing
          (and-second (names_newer r i e.0) (was_started e.1.standing)
          (ap (names_newer r i) (sym (xid_eq-same x e.0 at)) ∙ of) neither.0)
      | false ↦ λ at. past_at x r i of es neither.1
    ] refl

pub newer_not_held : {S : Type 0} (table : HashMap Xid TableEntry S) (r i : ℕ) → list_any (is_newer_entry r i) table.entries ≡ false
    → HoldsPast (held_at table) r i
newer_not_held table r i none = record { unstarted = λ x of. past_at x r i of table.entries none }
