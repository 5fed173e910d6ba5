-- The map of the branches of which something was heard, entry by entry.
use Rattle.std.proofs.Common.{◌≡◌, ◌≢◌, ℕ, Bool, true, false, ◌&&◌, cond, List, [], ◌∷◌, Option, Some, None, IsSome, Result, Ok, Err, OnOk, OnErr, is_some, is_eq, refl, sym, ap, ◌∙◌, subst, Less}
use Rattle.std.specs.Prelude.{if◌then◌else◌, nat_lt, unwrap_or}
use Rattle.std.specs.BTreeMap.{BTreeMap, IsOrdered, get, is_at}
use Rattle.std.specs.List.{AllByRecursion}
use Rattle.std.specs.List.Sorted.{IsStrictlySortedBy}
use Rattle.std.specs.Map.{keys_of, lookup}
use Rattle.std.specs.Map.Calls.{RetainsPairs}
use Rattle.xa_base.proofs.BranchKeys.{branch_eq-true}
use Rattle.xa_base.proofs.BranchOrder.{exact_branches}
use Rattle.xa_base.proofs.Orders.{equal_is, branch_tie}
use Rattle.xa_base.specs.Branch.{branch_cmp, branch_eq, branch_of_xid}
use Rattle.xa_base.specs.Xid.{Xid}
use Rattle.xa_model.specs.Facts.{fits}
use Rattle.xa_model.specs.Replies.History.{name_by, name_of}
use Rattle.xa_model.specs.Trace.{Branch, Line, line_eq, line_of}
use Rattle.xa_monitor.specs.Entries.{HasNoRoom, HasRoom, HasRoomIf, listed, off_line_at, states_at, states_before}
use Rattle.xa_monitor.specs.Rows.{break_row, found_states, page_row, unstarted_states}
use Rattle.xa_monitor.specs.declared.states.States.{States}

-- ** names

-- a branch ties with itself alone
pub tied_branch : (b q : Branch) → is_at (branch_cmp b) q ≡ true → b ≡ q
tied_branch b q e = exact_branches b q (equal_is _ e)

-- ** one branch

-- it is put
pub put_at : (i : ℕ) (m n : BTreeMap Branch States) (b : Branch) (s : States)
    → ((q : Branch) → get branch_cmp n q ≡ cond (is_at (branch_cmp b) q) (Some s) (get branch_cmp m q))
    → (q : Branch) → states_at i n q ≡ (if branch_eq b q then s else states_at i m q)
put_at i m n b s h q =
    ap (λ o. unwrap_or o (states_before i q)) (h q) ∙ by (is_at (branch_cmp b) q) ∙ ap (λ (t : Bool). if t then s else states_at i m q) (branch_tie b q)
  where
    by : (t : Bool) → unwrap_or (cond t (Some s) (get branch_cmp m q)) (states_before i q) ≡ (if t then s else states_at i m q)
    by true = refl
    by false = refl

-- it is taken out, and is as before
pub taken_out : (i : ℕ) (m n : BTreeMap Branch States) (b : Branch) (s : States) → s ≡ states_before i b
    → ((q : Branch) → get branch_cmp n q ≡ cond (is_at (branch_cmp b) q) None (get branch_cmp m q))
    → (q : Branch) → states_at i n q ≡ (if branch_eq b q then s else states_at i m q)
taken_out i m n b s before h q =
    ap (λ o. unwrap_or o (states_before i q)) (h q) ∙ by (is_at (branch_cmp b) q) refl ∙ ap (λ (t : Bool). if t then s else states_at i m q) (branch_tie b q)
  where
    by : (t : Bool) → is_at (branch_cmp b) q ≡ t → unwrap_or (cond t None (get branch_cmp m q)) (states_before i q) ≡ (if t then s else states_at i m q)
    by true e = ap (states_before i) (sym (tied_branch b q e)) ∙ sym before
    by false e = refl

-- room for it says nothing of it
pub reserved_at : (i : ℕ) (m n : BTreeMap Branch States) (b : Branch) (s : States) → s ≡ states_before i b → false ≡ is_some (get branch_cmp m b)
    → ((q : Branch) → get branch_cmp n q ≡ cond (is_at (branch_cmp b) q) (Some s) (get branch_cmp m q)) → (q : Branch)
    → states_at i n q ≡ states_at i m q
reserved_at i m n b s before none h q = ap (λ o. unwrap_or o (states_before i q)) (h q) ∙ by (is_at (branch_cmp b) q) refl
  where
    empty : (o : Option States) → false ≡ is_some o → s ≡ unwrap_or o (states_before i b)
    empty None e = before
    empty (Some t) e = absurd (cc)

    by : (t : Bool) → is_at (branch_cmp b) q ≡ t
        → unwrap_or (cond t (Some s) (get branch_cmp m q)) (states_before i q) ≡ unwrap_or (get branch_cmp m q) (states_before i q)
    by true e = subst (λ p. s ≡ unwrap_or (get branch_cmp m p) (states_before i p)) (tied_branch b q e) (empty (get branch_cmp m b) none)
    by false e = refl

-- an entry that is there stays
pub kept_at : (m n : BTreeMap Branch States) (b : Branch) (s : States)
    → ((q : Branch) → get branch_cmp n q ≡ cond (is_at (branch_cmp b) q) (Some s) (get branch_cmp m q))
    → (q : Branch) → IsSome (get branch_cmp m q) → IsSome (get branch_cmp n q)
kept_at m n b s h q has = subst IsSome (sym (h q)) (by (is_at (branch_cmp b) q))
  where
    by : (t : Bool) → IsSome (cond t (Some s) (get branch_cmp m q))
    by true = refl
    by false = has

-- what can't fail was done
pub sure : {T E : Type 0} {P : Type 0} (o : Option States) (r : Result T E) → OnOk r P → OnErr r (o ≡ None) → IsSome o → P
sure o (Ok v) done failed some = done
sure (Some s) (Err e) done failed some = absurd (cc)
sure None (Err e) done failed some = let no : ⊥ = cc in absurd no

-- a page lists it
pub list_at : (i : ℕ) (m n : BTreeMap Branch States) (x : Xid) (b : Branch) (s : States) → Some b ≡ branch_of_xid x → s ≡ page_row (states_at i m b)
    → ((q : Branch) → get branch_cmp n q ≡ cond (is_at (branch_cmp b) q) (Some s) (get branch_cmp m q))
    → (q : Branch) → states_at i n q ≡ listed (name_of x) q (states_at i m q)
list_at i m n x b s names page h q =
    put_at i m n b s h q ∙ by (branch_eq b q) refl ∙ ap (λ o. listed (name_by x o) q (states_at i m q)) names
  where
    by : (t : Bool) → branch_eq b q ≡ t
        → (if branch_eq b q then s else states_at i m q) ≡ (if branch_eq b q then page_row (states_at i m q) else states_at i m q)
    by true e =
        ap (λ (t : Bool). if t then s else states_at i m q) e ∙ page ∙ ap (λ z. page_row (states_at i m z)) (branch_eq-true b q e)
        ∙ sym (ap (λ (t : Bool). if t then page_row (states_at i m q) else states_at i m q) e)
    by false e =
        ap (λ (t : Bool). if t then s else states_at i m q) e
        ∙ sym (ap (λ (t : Bool). if t then page_row (states_at i m q) else states_at i m q) e)

pub room_at : (m : BTreeMap Branch States) (x : Xid) (b : Branch) → Some b ≡ branch_of_xid x → HasRoom m (name_of x) → IsSome (get branch_cmp m b)
room_at m x b names room = subst (λ o. HasRoom m (name_by x o)) (sym names) room

pub named_room : (m : BTreeMap Branch States) (x : Xid) (o : Option Branch) → o ≡ branch_of_xid x → HasRoomIf m o → HasRoom m (name_of x)
named_room m x o names room = subst (λ p. HasRoom m (name_by x p)) names (by o room)
  where
    by : (o : Option Branch) → HasRoomIf m o → HasRoom m (name_by x o)
    by (Some b) has = has
    by None has = tt

-- ** all of them

-- a name below all of a list isn't among them
not_among : (x q : Branch) (es : List (Branch × States)) → q ≡ x → AllByRecursion (λ y. branch_cmp x y ≡ Less) (keys_of es)
    → lookup (is_at (branch_cmp q)) es ≡ None
not_among x q [] same below = refl
not_among x q (e ∷ es) same below =
    ap (λ b. cond b (Some e.1) (lookup (is_at (branch_cmp q)) es)) (ap (λ p. is_eq (branch_cmp p e.0)) same ∙ ap is_eq below.0)
    ∙ not_among x q es same below.1

-- each entry is changed by its key, and what is as before may be left out
pub retained : {F : Type 0} (T : F → Branch → States → Bool → States → F → Type 0) (g : Branch → States → States) (before : Branch → States) (f : F)
    → ((k : Branch) (v : States) (b : Bool) (w : States) (f' : F) → T f k v b w f' → (w ≡ g k v) × (b ≡ false → w ≡ before k) × (f' ≡ f))
    → ((k : Branch) → g k (before k) ≡ before k)
    → (es kept : List (Branch × States)) → IsStrictlySortedBy branch_cmp (keys_of es) → RetainsPairs T f es kept → (q : Branch)
    → unwrap_or (lookup (is_at (branch_cmp q)) kept) (before q) ≡ g q (unwrap_or (lookup (is_at (branch_cmp q)) es) (before q))
unfolding IsStrictlySortedBy
retained T g before f law stays [] kept up r q = ap (λ es. unwrap_or (lookup (is_at (branch_cmp q)) es) (before q)) r ∙ sym (stays q)
retained T g before f law stays (e ∷ es) kept up r q =
    let call = law e.0 e.1 r.0 r.1 r.2 r.4 in
    ap (λ xs. unwrap_or (lookup (is_at (branch_cmp q)) xs) (before q)) r.6
    ∙ by call r.0 (is_at (branch_cmp q) e.0) refl refl (retained T g before f law stays es r.3 up.1 (subst (λ h. RetainsPairs T h es r.3) call.2 r.5) q)
  where
    Rest : Type 0
    Rest = unwrap_or (lookup (is_at (branch_cmp q)) r.3) (before q) ≡ g q (unwrap_or (lookup (is_at (branch_cmp q)) es) (before q))

    Call : Type 0
    Call = (r.1 ≡ g e.0 e.1) × (r.0 ≡ false → r.1 ≡ before e.0) × (r.2 ≡ f)

    gone : is_at (branch_cmp q) e.0 ≡ true → lookup (is_at (branch_cmp q)) es ≡ None
    gone e' = not_among e.0 q es (tied_branch q e.0 e') up.0

    here : Call → is_at (branch_cmp q) e.0 ≡ true → r.1 ≡ g q e.1
    here call e' = call.0 ∙ ap (λ k. g k e.1) (sym (tied_branch q e.0 e'))

    by : Call → (b t : Bool) → r.0 ≡ b → is_at (branch_cmp q) e.0 ≡ t → Rest
        → unwrap_or (lookup (is_at (branch_cmp q)) (cond b ((e.0, r.1) ∷ r.3) r.3)) (before q)
        ≡ g q (unwrap_or (cond (is_at (branch_cmp q) e.0) (Some e.1) (lookup (is_at (branch_cmp q)) es)) (before q))
    by call true true eb et rest =
        ap (λ t. unwrap_or (cond t (Some r.1) (lookup (is_at (branch_cmp q)) r.3)) (before q)) et ∙ here call et
        ∙ sym (ap (λ t. g q (unwrap_or (cond t (Some e.1) (lookup (is_at (branch_cmp q)) es)) (before q))) et)
    by call true false eb et rest =
        ap (λ t. unwrap_or (cond t (Some r.1) (lookup (is_at (branch_cmp q)) r.3)) (before q)) et ∙ rest
        ∙ sym (ap (λ t. g q (unwrap_or (cond t (Some e.1) (lookup (is_at (branch_cmp q)) es)) (before q))) et)
    by call false true eb et rest =
        rest ∙ ap (λ o. g q (unwrap_or o (before q))) (gone et) ∙ stays q ∙ ap before (tied_branch q e.0 et) ∙ sym (call.1 eb) ∙ here call et
        ∙ sym (ap (λ t. g q (unwrap_or (cond t (Some e.1) (lookup (is_at (branch_cmp q)) es)) (before q))) et)
    by call false false eb et rest =
        rest ∙ sym (ap (λ t. g q (unwrap_or (cond t (Some e.1) (lookup (is_at (branch_cmp q)) es)) (before q))) et)

-- what says no more than before is taken out
pub dropped_at : {F : Type 0} (T : F → Branch → States → Bool → States → F → Type 0) (i : ℕ) (f : F)
    → ((k : Branch) (v : States) (b : Bool) (w : States) (f' : F) → T f k v b w f' → (w ≡ v) × (b ≡ false → w ≡ states_before i k) × (f' ≡ f))
    → (m n : BTreeMap Branch States) → IsOrdered branch_cmp m → RetainsPairs T f m.entries n.entries
    → (q : Branch) → states_at i n q ≡ states_at i m q
dropped_at T i f law m n up r q = retained T (λ k v. v) (states_before i) f law (λ k. refl) m.entries n.entries up r q

-- and nothing that does is left
pub none_as_before : {F : Type 0} (T : F → Branch → States → Bool → States → F → Type 0) (before : Branch → States) (f : F)
    → ((k : Branch) (v : States) (b : Bool) (w : States) (f' : F) → T f k v b w f' → (b ≡ true → w ≢ before k) × (f' ≡ f))
    → (es kept : List (Branch × States)) → RetainsPairs T f es kept → (q : Branch) → IsSome (lookup (is_at (branch_cmp q)) kept)
    → unwrap_or (lookup (is_at (branch_cmp q)) kept) (before q) ≢ before q
none_as_before T before f law [] kept r q has = let no : ⊥ = none (subst (λ es. IsSome (lookup (is_at (branch_cmp q)) es)) r has) in absurd no
  where
    none : (let x : Option States = None in IsSome x) → ⊥
    none e = cc
none_as_before T before f law (e ∷ es) kept r q has =
    let call = law e.0 e.1 r.0 r.1 r.2 r.4 in
    subst Apart (sym r.6)
    (by r.0 (is_at (branch_cmp q) e.0) refl refl call.0 (none_as_before T before f law es r.3 (subst (λ h. RetainsPairs T h es r.3) call.1 r.5) q))
    has
  where
    Apart : List (Branch × States) → Type 0
    Apart xs = IsSome (lookup (is_at (branch_cmp q)) xs) → unwrap_or (lookup (is_at (branch_cmp q)) xs) (before q) ≢ before q

    by : (b t : Bool) → r.0 ≡ b → is_at (branch_cmp q) e.0 ≡ t → (r.0 ≡ true → r.1 ≢ before e.0) → Apart r.3 → Apart (cond b ((e.0, r.1) ∷ r.3) r.3)
    by false t eb et apart rest = rest
    by true true eb et apart rest =
        subst (λ u. IsSome (cond u (Some r.1) (lookup (is_at (branch_cmp q)) r.3))
        → unwrap_or (cond u (Some r.1) (lookup (is_at (branch_cmp q)) r.3)) (before q)
        ≢ before q) (sym et) (λ some same. apart eb (same ∙ ap before (tied_branch q e.0 et)))
    by true false eb et apart rest =
        subst (λ u. IsSome (cond u (Some r.1) (lookup (is_at (branch_cmp q)) r.3))
        → unwrap_or (cond u (Some r.1) (lookup (is_at (branch_cmp q)) r.3)) (before q)
        ≢ before q) (sym et) rest

pub nothing_left : {F : Type 0} (T : F → Branch → States → Bool → States → F → Type 0) (i : ℕ) (f : F)
    → ((k : Branch) (v : States) (b : Bool) (w : States) (f' : F) → T f k v b w f' → (b ≡ true → w ≢ states_before i k) × (f' ≡ f))
    → (m n : BTreeMap Branch States) → RetainsPairs T f m.entries n.entries → HasNoRoom i n
nothing_left T i f law m n r q has = none_as_before T (states_before i) f law m.entries n.entries r q has

-- ** a line that breaks

-- it leaves a branch of which nothing was heard
pub off_line_before : (i : ℕ) (l : Line) (b : Branch) → off_line_at l b (states_before i b) ≡ states_before i b
off_line_before i l b = by (line_eq l (line_of b)) (fits b && nat_lt b.gtrid.incarnation i)
  where
    by : (t u : Bool) → (if t then break_row (if u then found_states else unstarted_states) else (if u then found_states else unstarted_states))
        ≡ (if u then found_states else unstarted_states)
    by true true = refl
    by true false = refl
    by false u = refl

pub broken_at : {F : Type 0} (T : F → Branch → States → Bool → States → F → Type 0) (i : ℕ) (l : Line) (f : F)
    → ((k : Branch) (v : States) (b : Bool) (w : States) (f' : F) → T f k v b w f'
    → (w ≡ off_line_at l k v) × (b ≡ false → w ≡ states_before i k) × (f' ≡ f))
    → (m n : BTreeMap Branch States) → IsOrdered branch_cmp m → RetainsPairs T f m.entries n.entries
    → (q : Branch) → states_at i n q ≡ off_line_at l q (states_at i m q)
broken_at T i l f law m n up r q = retained T (off_line_at l) (states_before i) f law (off_line_before i l) m.entries n.entries up r q
