-- What a report lists.
use Rattle.std.proofs.Common.{◌≡◌, ◌<◌, ◌≤◌, ◌+◌, ◌++◌, ◌∙◌, ℕ, zero, suc, arith, List, [], ◌∷◌, map, take, length, Bool, true, false, ◌||◌, refl, sym, ap, subst, Less}
use Rattle.std.specs.Prelude.{◌↔◌, Contains, slice_index_or}
use Rattle.std.specs.List.{AllByRecursion, list_any}
use Rattle.std.specs.List.Sorted.{IsStrictlySortedBy}
use Rattle.std.specs.Map.{keys_of}
use Rattle.std.specs.Ordering.{eq_by_cmp}
use Rattle.std.proofs.lemmas.Cmp.{eq_by_cmp_equiv}
use Rattle.std.proofs.lemmas.Bool.{or_right}
use Rattle.std.proofs.lemmas.List.{map_more, take_all}
use Rattle.xa_base.specs.Branch.{IsBranch, branch_cmp, branch_eq, xid_of_branch}
use Rattle.xa_model.specs.Facts.{branches, fate, started}
use Rattle.xa_model.specs.Replies.History.{history, read}
use Rattle.xa_model.specs.Trace.{Happening.Issued, Trace, Trace.From, Trace.Then}
use Rattle.xa_base.specs.Xid.{Xid, xid_cmp}
use Rattle.xa_base.specs.declared.branch.Branch.{Branch}
use Rattle.xa_base.specs.declared.call.Call.TheVariants as Calls
use Rattle.xa_base.specs.declared.state.Fate.{Fate}
use Rattle.xa_base.proofs.BranchOrder.{branches_total}
use Rattle.xa_base.proofs.BytesOrder.{branch_order}
use Rattle.xa_base.proofs.Orders.{same_branch, branch_tie}
use Rattle.xa_log.specs.KeySet.{contains-from_list, contains-items, from_list, items}
use Rattle.xa_system.specs.Parts.{Sees}
use Rattle.xa_system.specs.Report.{IsReported}
use Rattle.xa_log.specs.Contract.{Moment}
use Rattle.xa_tm.specs.declared.slot.Slot.{Slot}
use Rattle.xa_system.specs.SystemView.{IsOwnIn, IsSound, SystemView, system_view_of, start_of, trace_in}
use Rattle.xa_system.specs.Trace.{Each}
use Rattle.xa_system.specs.declared.system.System.TheInside.{Inside}
use Rattle.xa_system.proofs.Histories.SystemView.{origin_is}
use Rattle.xa_system.proofs.Histories.StartedBranches.{all_within, none_started}
use Rattle.xa_tm.specs.Book.{Book}
use Rattle.xa_tm.specs.Calls.{book_in}

-- a branch with what became of it
abbrev pub reported : Trace → Branch → Xid × Fate
reported tr b = (xid_of_branch b, fate tr b)

abbrev is_among : Branch → List Branch → Bool
is_among q bs = list_any (eq_by_cmp branch_cmp q) bs

-- ** the members of a list

here : (b : Branch) (bs : List Branch) → is_among b (b ∷ bs) ≡ true
here b bs = ap (λ t. t || is_among b bs) ((eq_by_cmp_equiv branches_total).refl b)

each_from : (P : Branch → Type 0) (bs : List Branch) → ((b : Branch) → is_among b bs ≡ true → P b) → AllByRecursion P bs
each_from P [] h = tt
each_from P (b ∷ bs) h = (h b (here b bs), each_from P bs (λ q is. h q (or_right (eq_by_cmp branch_cmp q b) _ is)))

record Comes (g : Branch → Xid × Fate) (bs : List Branch) (p : Xid × Fate) : Type 0 where
  one : Branch
  among : is_among one bs ≡ true
  is : p ≡ g one

comes : (g : Branch → Xid × Fate) (bs : List Branch) (p : Xid × Fate) (k : ℕ) → k < length (map g bs) → slice_index_or (map g bs) k p ≡ p → Comes g bs p
comes g [] p k few e = absurd (omega (arith, few))
comes g (b ∷ bs) p zero few e = record { one = b; among = here b bs; is = sym e }
comes g (b ∷ bs) p (suc k) few e =
    let c = comes g bs p k (omega (arith, few)) e in
    record { one = c.one; among = or_right (eq_by_cmp branch_cmp c.one b) _ c.among; is = c.is }

goes : (g : Branch → Xid × Fate) (bs : List Branch) (b : Branch) → is_among b bs ≡ true → Contains (map g bs) (g b)
goes g [] b is = absurd (cc)
goes g (c ∷ cs) b is = by (eq_by_cmp branch_cmp b c) refl is (goes g cs b)
  where
    by : (t : Bool) → eq_by_cmp branch_cmp b c ≡ t → (t || is_among b cs) ≡ true
        → (is_among b cs ≡ true → Contains (map g cs) (g b)) → Contains (map g (c ∷ cs)) (g b)
    by true same s rest = (0, omega arith, ap g (sym (same_branch b c same)))
    by false apart s rest = let at = rest s in (suc at.0, omega (arith, at.1), at.2)

-- ** a loop over a list

at_place : (P : Branch → Type 0) (xs : List Branch) (i : ℕ) (d : Branch) → AllByRecursion P xs → i < length xs → P (slice_index_or xs i d)
at_place P [] i d all low = absurd (omega (arith, low))
at_place P (x ∷ xs) zero d all low = all.0
at_place P (x ∷ xs) (suc i) d all low = at_place P xs i d all.1 (omega (arith, low))

-- one branch more is listed
pub one_more : (tr : Trace) (xs : List Branch) (i : ℕ) (d : Branch) (old new : List (Xid × Fate)) (x : Xid) (f : Fate) → i < length xs
    → old ≡ map (reported tr) (take i xs) → new ≡ old ++ (x, f) ∷ [] → x ≡ xid_of_branch (slice_index_or xs i d) → f ≡ fate tr (slice_index_or xs i d)
    → new ≡ map (reported tr) (take (i + 1) xs)
one_more tr xs i d old new x f low so is names ends =
    is ∙ ap (λ l. l ++ (x, f) ∷ []) so ∙ ap (λ (p : Xid × Fate). map (reported tr) (take i xs) ++ p ∷ []) (λ k. (names k, ends k))
    ∙ sym (map_more (reported tr) xs i d low)

-- ** the order of identifiers is that of branches

still_below : (tr : Trace) (b : Branch) (bs : List Branch) → IsBranch b → AllByRecursion IsBranch bs → AllByRecursion (λ c. branch_cmp b c ≡ Less) bs
    → AllByRecursion (λ x. xid_cmp (xid_of_branch b) x ≡ Less) (keys_of (map (reported tr) bs))
still_below tr b [] fits all below = tt
still_below tr b (c ∷ cs) fits all below = (branch_order b c fits all.0 ∙ below.0, still_below tr b cs fits all.1 below.1)

pub in_order : (tr : Trace) (bs : List Branch) → AllByRecursion IsBranch bs → IsStrictlySortedBy branch_cmp bs
    → IsStrictlySortedBy xid_cmp (keys_of (map (reported tr) bs))
unfolding IsStrictlySortedBy
in_order tr [] all up = tt
in_order tr (b ∷ bs) all up = (still_below tr b bs all.0 all.1 up.0, in_order tr bs all.1 up.1)

-- ** the branches of a history

tie : (q b : Branch) → eq_by_cmp branch_cmp q b ≡ branch_eq b q
tie q b = (eq_by_cmp_equiv branches_total).symm q b ∙ branch_tie b q

among_branches : (tr : Trace) (q : Branch) → is_among q (branches tr) ≡ started tr q
among_branches (From o) q = refl
among_branches (Then tr (Issued l (Calls.Start b join))) q =
    ap (λ s. eq_by_cmp branch_cmp q b || s) (among_branches tr q) ∙ ap (λ t. t || started tr q) (tie q b)
among_branches (Then tr _) q = among_branches tr q

fits_at : (tr : Trace) (bs : List Branch) → Each IsBranch bs → (q : Branch) → is_among q bs ≡ true → IsBranch q
fits_at tr [] all q is = absurd (cc)
fits_at tr (b ∷ bs) all q is = by (eq_by_cmp branch_cmp q b) refl is (fits_at tr bs all.1 q)
  where
    by : (t : Bool) → eq_by_cmp branch_cmp q b ≡ t → (t || is_among q bs) ≡ true → (is_among q bs ≡ true → IsBranch q) → IsBranch q
    by true same s rest = subst IsBranch (sym (same_branch q b same)) all.0
    by false apart s rest = rest s

module _ {R L : Type 0} (see : Sees R (Slot L)) (moment : L → Moment) where
  abbrev trace_of : Inside R L → Trace
  trace_of a = history (start_of see moment a.parts) a.events.items

  -- the branches that the manager lists are those that were started
  pub is_listed : (a : Inside R L) → IsSound see moment a → (bs : List Branch) → bs ≡ items (book_in a.parts.manager).known
      → (q : Branch) → is_among q bs ≡ started (trace_of a) q
  is_listed a sound bs is q =
      ap (is_among q) (is ∙ ap (λ (k : Book). items k.known) sound.stands.book)
      ∙ sym (contains-items (from_list (branches (trace_of a))) q) ∙ contains-from_list branches_total (branches (trace_of a)) q ∙ among_branches (trace_of a) q

  pub own : (a : Inside R L) → IsSound see moment a → (q : Branch) → started (trace_of a) q ≡ true → IsOwnIn (system_view_of a) q
  own a sound q is =
      let o = start_of see moment a.parts in
      let within = all_within (From o) (map read a.events.items) sound.allowed (none_started o) q is in
      let at = origin_is o a.events.items in
      record {
        fits = fits_at (trace_of a) (branches (trace_of a)) sound.stands.kept.numbers q (among_branches (trace_of a) q ∙ is);
        thread = subst (λ p. q.thread < p.threads) at within.0;
        rm = subst (λ p. q.rm < p.rms) at within.1;
      }

  pub all_own : (a : Inside R L) → IsSound see moment a → (bs : List Branch) → bs ≡ items (book_in a.parts.manager).known
      → AllByRecursion (IsOwnIn (system_view_of a)) bs
  all_own a sound bs is = each_from (IsOwnIn (system_view_of a)) bs (λ q among. own a sound q (sym (is_listed a sound bs is q) ∙ among))

  pub all_fit : (a : Inside R L) → IsSound see moment a → (bs : List Branch) → bs ≡ items (book_in a.parts.manager).known → AllByRecursion IsBranch bs
  all_fit a sound bs is = each_from IsBranch bs (λ q among. (own a sound q (sym (is_listed a sound bs is q) ∙ among)).fits)

  pub reports : (a : Inside R L) → IsSound see moment a → (bs : List Branch) → bs ≡ items (book_in a.parts.manager).known → (x : Xid) (f : Fate)
      → Contains (map (reported (trace_of a)) bs) (x, f) → IsReported (trace_of a) x f
  reports a sound bs is x f at =
      let c = comes (reported (trace_of a)) bs (x, f) at.0 at.1 at.2 in
      record {
        branch = c.one;
        is_started = sym (is_listed a sound bs is c.one) ∙ c.among;
        names = ap (λ (p : Xid × Fate). p.0) c.is;
        ends = ap (λ (p : Xid × Fate). p.1) c.is;
      }

  pub is_reported : (a : Inside R L) → IsSound see moment a → (bs : List Branch) → bs ≡ items (book_in a.parts.manager).known → (x : Xid) (f : Fate)
      → IsReported (trace_of a) x f → Contains (map (reported (trace_of a)) bs) (x, f)
  is_reported a sound bs is x f told =
      subst (Contains (map (reported (trace_of a)) bs)) (λ i. (sym told.names i, sym told.ends i))
      (goes (reported (trace_of a)) bs told.branch (is_listed a sound bs is told.branch ∙ told.is_started))

  -- at the end of the loop all are listed
  abbrev IsWhole : SystemView R L → List Branch → ℕ → List (Xid × Fate) → Type 0
  IsWhole s xs i list = (length xs ≤ i) × (list ≡ map (reported (trace_in see.look s)) (take i xs))

  whole : (a : Inside R L) (s : SystemView R L) → system_view_of a ≡ s → (xs bs : List Branch) (i : ℕ) (list : List (Xid × Fate)) → xs ≡ bs
      → IsWhole s xs i list
      → list ≡ map (reported (trace_of a)) bs
  whole a s view xs bs i list same all =
      all.1 ∙ ap (map (reported (trace_in see.look s))) (take_all i xs all.0 ∙ same) ∙ ap (λ v. map (reported (trace_in see.look v)) bs) (sym view)

  pub own_at : (a : Inside R L) → IsSound see moment a → (s : SystemView R L) → system_view_of a ≡ s → (xs bs : List Branch) (i : ℕ) (d : Branch) → xs ≡ bs
      → bs ≡ items (book_in a.parts.manager).known → i < length xs → IsOwnIn s (slice_index_or xs i d)
  own_at a sound s view xs bs i d same is low =
      subst (λ v. IsOwnIn v (slice_index_or xs i d)) view (at_place (IsOwnIn (system_view_of a)) xs i d (all_own a sound xs (same ∙ is)) low)

  pub told_in_order : (a : Inside R L) → IsSound see moment a → (s : SystemView R L) → system_view_of a ≡ s
      → (xs bs : List Branch) (i : ℕ) (list : List (Xid × Fate)) → xs ≡ bs
      → bs ≡ items (book_in a.parts.manager).known → IsStrictlySortedBy branch_cmp bs → IsWhole s xs i list → IsStrictlySortedBy xid_cmp (keys_of list)
  told_in_order a sound s view xs bs i list same is up all =
      subst (λ l. IsStrictlySortedBy xid_cmp (keys_of l)) (sym (whole a s view xs bs i list same all)) (in_order (trace_of a) bs (all_fit a sound bs is) up)

  pub told : (a : Inside R L) → IsSound see moment a → (s : SystemView R L) → system_view_of a ≡ s → (xs bs : List Branch) (i : ℕ) (list : List (Xid × Fate))
      → xs ≡ bs
      → bs ≡ items (book_in a.parts.manager).known → IsWhole s xs i list → (x : Xid) (f : Fate) → Contains list (x, f) ↔ IsReported (trace_in see.look s) x f
  told a sound s view xs bs i list same is all x f =
      let are = whole a s view xs bs i list same all in (
        λ at. subst (λ v. IsReported (trace_in see.look v) x f) view (reports a sound bs is x f (subst (λ l. Contains l (x, f)) are at)),
        λ so. subst (λ l. Contains l (x, f)) (sym are) (is_reported a sound bs is x f (subst (λ v. IsReported (trace_in see.look v) x f) (sym view) so)),
      )
