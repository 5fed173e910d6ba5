-- Waiting calls, after one right happening more.
use Rattle.std.proofs.Common.{◌≡◌, ℕ, zero, suc, ◌+◌, List, [], ◌∷◌, ◌++◌, length, Bool, true, false, refl, sym, ap, ◌∙◌, subst, arith, ◌⊎◌}
use Rattle.std.specs.Prelude.{if◌then◌else◌, Option, Some, None, slice_get}
use Rattle.std.proofs.lemmas.Bool.{false_from_ne_true, or_left}
use mathlib.Core.Logic.{◌⊎◌.inl, ◌⊎◌.inr}
use Rattle.xa_base.specs.declared.call.Call.TheVariants as Calls
use Rattle.xa_model.specs.Trace.{Gtrid, Branch, Line, Name, Name.Ours, Name.Foreign, Kind, Kind.Start, Kind.Join, Kind.End, Kind.Prepare, Kind.Commit, Kind.OnePhase, Kind.Rollback, Kind.Forget, Call, Happening, Happening.Issued, Happening.Resolved, Happening.ResolvedOpen, Happening.Crashed, Happening.Failed, Happening.Restarted, Trace, Trace.Then, line_eq, line, line_of}
use Rattle.xa_base.specs.declared.step.Outcome.TheVariants as Outcome
use Rattle.xa_base.specs.declared.step.Part.TheVariants as Part
use Rattle.xa_base.specs.StateTable.{asks_of, on}
use Rattle.xa_model.specs.Facts.{standing, up, decided_so, handed_over, live, started, has_row, recorded, had_row, breaks, new_calls, issued, page, resolving_kind, resolving_calls}
use Rattle.xa_model.specs.Promises.AgreementInvariant.{Starts}
use Rattle.xa_model.specs.Protocol.{Lists, Right}
use Rattle.xa_base.specs.declared.state.Standing.TheVariants.{Unstarted}
use Rattle.xa_model.proofs.Invariant.{Old, Closed, IsOlder, IsStarted, Waits, CallFact, Inv}
use Rattle.xa_base.proofs.BranchKeys.{gtrid_eq-refl, branch_eq-refl}
use Rattle.xa_model.proofs.Keys.{line_eq-true}
use Rattle.xa_model.proofs.Invariant.Grows.{closed_kept, started_kept}
use Rattle.xa_base.proofs.Lists.{get_append, get_if, get_none}
use Rattle.xa_base.proofs.StateLemmas.{asks_on}
use Rattle.xa_model.proofs.Invariant.Lines.{NewWait, NewWait.Waited, NewWait.IsNew, waits_back}
use Rattle.xa_model.proofs.Invariant.Now.{closed_handed, closed_decided, older_closed, older_not_live}
use Rattle.xa_model.proofs.Invariant.WaitedCalls.{waited_kept}

-- ** calls that are new

no_row_of : (tr : Trace) (g : Gtrid) → Inv tr → (had_row tr g ≡ true → ⊥) → has_row tr g ≡ false
no_row_of tr g inv n = false_from_ne_true _ (λ k. n (inv.row_rowed g k))

decided_no_row : (tr : Trace) (g : Gtrid) → Inv tr → decided_so Outcome.Rollback tr g ≡ true → has_row tr g ≡ false
decided_no_row tr g inv d = no_row_of tr g inv (λ k. let f = (inv.rows g k).not_rolled_back in cc)

handed_no_row : (tr : Trace) (g : Gtrid) → Inv tr → handed_over tr g ≡ true → has_row tr g ≡ false
handed_no_row tr g inv d = no_row_of tr g inv (λ k. let f = (inv.rows g k).not_handed in cc)

may_roll_back : (tr : Trace) (g : Gtrid) → Inv tr → (decided_so Outcome.Rollback tr g ≡ true) ⊎ (handed_over tr g ≡ true) → Closed tr g × (has_row tr g ≡ false)
may_roll_back tr g inv (inl d) = (closed_decided tr Outcome.Rollback g inv d, decided_no_row tr g inv d)
may_roll_back tr g inv (inr d) = (closed_handed tr g inv d, handed_no_row tr g inv d)

same_lines : (l m : Line) → l.thread ≡ m.thread → l.rm ≡ m.rm → l ≡ m
same_lines l m p q = λ i. record { thread = p i; rm = q i }

-- a branch of a live transaction is none that the start found
unstarted_live : (tr : Trace) (b : Branch) → Inv tr → started tr b ≡ false → live tr b.gtrid ≡ true → standing tr b ≡ Unstarted
unstarted_live tr b inv s l = by_case (inv.unstarted b s)
  where
    by_case : (standing tr b ≡ Unstarted) ⊎ IsOlder tr b → standing tr b ≡ Unstarted
    by_case (inl u) = u
    by_case (inr o) = absurd (older_not_live tr b inv o l)

old_name : (tr : Trace) (b : Branch) → Inv tr → IsStarted tr (Ours b) → Old tr b.gtrid
old_name tr b inv (inl s) = inv.started_old b s
old_name tr b inv (inr o) = (older_closed tr b inv o).old

issued_fact : (tr : Trace) (l : Line) (k : Kind) (b : Branch) → Inv tr → Right tr (Issued l (on k b)) → CallFact (Then tr (Issued l (on k b))) l k b
issued_fact tr l Start b inv r =
    let c = r.1 in let m = c.may_be in
    record {
      own_line = same_lines l (line_of b) c.own_thread c.own_rm;
      is_started = or_left _ _ (branch_eq-refl b);
      unstarted = unstarted_live tr b inv m.0 m.1.is_live;
    }
issued_fact tr l Join b inv r =
    let c = r.1 in let m = c.may_be in
    record {
      own_line = same_lines l (line_of b) c.own_thread c.own_rm;
      is_started = or_left _ _ (branch_eq-refl b);
      unstarted = unstarted_live tr b inv m.0 m.1.is_live;
    }
issued_fact tr l (End t) b inv r = tt
issued_fact tr l Prepare b inv r = tt
issued_fact tr l OnePhase b inv r = or_left _ _ (gtrid_eq-refl b.gtrid)
issued_fact tr l Commit b inv r = let c = r.1 in inv.row_rowed b.gtrid c.may_be
issued_fact tr l Rollback b inv r =
    let c = r.1 in let x = may_roll_back tr b.gtrid inv c.may_be in
    record { closed = closed_kept tr (Issued l (Calls.Rollback b)) b.gtrid r x.0; no_row = x.1 }
issued_fact tr l Forget b inv r = let c = r.1 in c.may_be

-- a call that recovery makes
pub record Resolving (tr : Trace) (names : List Name) (k : Kind) (b : Branch) : Type 0 where
  pub listed : Lists names (Ours b)
  pub not_live : live tr b.gtrid ≡ false
  pub kind : k ≡ resolving_kind tr b

later : (tr : Trace) (x : Name) (names : List Name) (k : Kind) (b : Branch) → Resolving tr names k b → Resolving tr (x ∷ names) k b
later tr x names k b h = record { listed = (suc h.listed.0, h.listed.1); not_live = h.not_live; kind = h.kind }

call_parts : (j k : Kind) (b c : Branch) → Some (on j b) ≡ Some (on k c) → (k ≡ j) × (b ≡ c)
call_parts j k b c e = some_parts (sym (asks_on j b) ∙ ap asked e ∙ asks_on k c)
  where
    asked : Option Call → Option (Kind × Branch)
    asked None = None
    asked (Some d) = asks_of d

    kind_in : Option (Kind × Branch) → Kind
    kind_in None = j
    kind_in (Some p) = p.0

    branch_in : Option (Kind × Branch) → Branch
    branch_in None = b
    branch_in (Some p) = p.1

    some_parts : ◌≡◌ {A = Option (Kind × Branch)} (Some (j, b)) (Some (k, c)) → (k ≡ j) × (b ≡ c)
    some_parts e = (sym (ap kind_in e), ap branch_in e)

resolving_step : (tr : Trace) (c : Branch) (names : List Name) (t : Bool) → live tr c.gtrid ≡ t → (i : ℕ) (k : Kind) (b : Branch)
    → ((j : ℕ) → slice_get (resolving_calls tr names) j ≡ Some (on k b) → Resolving tr names k b)
    → slice_get (if t then resolving_calls tr names else on (resolving_kind tr c) c ∷ resolving_calls tr names) i ≡ Some (on k b)
    → Resolving tr (Ours c ∷ names) k b
resolving_step tr c names true n i k b f e = later tr (Ours c) names k b (f i e)
resolving_step tr c names false n zero k b f e =
    let p = call_parts (resolving_kind tr c) k c b e in
    record { listed = (0, ap (λ x. Some (Ours x)) p.1); not_live = sym (ap (λ x. live tr x.gtrid) p.1) ∙ n; kind = p.0 ∙ ap (resolving_kind tr) p.1 }
resolving_step tr c names false n (suc i) k b f e = later tr (Ours c) names k b (f i e)

pub resolving_item : (tr : Trace) (names : List Name) (i : ℕ) (k : Kind) (b : Branch)
    → slice_get (resolving_calls tr names) i ≡ Some (on k b) → Resolving tr names k b
resolving_item tr [] i k b e = cc
resolving_item tr (Ours c ∷ names) i k b e = resolving_step tr c names (live tr c.gtrid) refl i k b (λ j h. resolving_item tr names j k b h) e
resolving_item tr (Foreign n ∷ names) i k b e = later tr (Foreign n) names k b (resolving_item tr names i k b e)

resolved_fact : (tr : Trace) (r : ℕ) (l : Line) (k : Kind) (b : Branch) → Inv tr → Right tr (Resolved r)
    → Resolving tr (page tr r) k b → CallFact (Then tr (Resolved r)) l k b
resolved_fact tr r l k b inv rt h = subst (λ x. CallFact (Then tr (Resolved r)) l x b) (sym h.kind) (by_record (recorded tr b) refl)
  where
    old : Old tr b.gtrid
    old = old_name tr b inv (inv.paged r (Ours b) h.listed)

    by_row : (t : Bool) → has_row tr b.gtrid ≡ t → CallFact (Then tr (Resolved r)) l (if t then Commit else Rollback) b
    by_row true e = inv.row_rowed b.gtrid e
    by_row false e = record { closed = closed_kept tr (Resolved r) b.gtrid rt (record { old = old; not_live = h.not_live }); no_row = e }

    by_record : (t : Bool) → recorded tr b ≡ t → CallFact (Then tr (Resolved r)) l (if t then Forget else if has_row tr b.gtrid then Commit else Rollback) b
    by_record true e = e
    by_record false e = by_row (has_row tr b.gtrid) refl

-- after its decisions a recovery that may decide makes the same calls
opened_fact : (tr : Trace) (r : ℕ) (l : Line) (k : Kind) (b : Branch) → Inv tr → Right tr (ResolvedOpen r)
    → Resolving (Then tr (ResolvedOpen r)) (page tr r) k b → CallFact (Then tr (ResolvedOpen r)) l k b
opened_fact tr r l k b inv rt h = subst (λ x. CallFact (Then tr (ResolvedOpen r)) l x b) (sym h.kind) (by_record (recorded tr b) refl)
  where
    old : Old (Then tr (ResolvedOpen r)) b.gtrid
    old = old_name tr b inv (inv.paged r (Ours b) h.listed)

    by_row : (t : Bool) → has_row tr b.gtrid ≡ t → CallFact (Then tr (ResolvedOpen r)) l (if t then Commit else Rollback) b
    by_row true e = inv.row_rowed b.gtrid e
    by_row false e = record { closed = record { old = old; not_live = h.not_live }; no_row = e }

    by_record : (t : Bool) → recorded tr b ≡ t → CallFact (Then tr (ResolvedOpen r)) l (if t then Forget else if has_row tr b.gtrid then Commit else Rollback) b
    by_record true e = e
    by_record false e = by_row (has_row tr b.gtrid) refl

page_if : (t : Bool) (calls : List Call) (i : ℕ) (c : Call) → slice_get (if t then calls else []) i ≡ Some c → slice_get calls i ≡ Some c
page_if true calls i c e = e
page_if false calls i c e = cc

on_same : (m l : Line) (d : Call) (k : Kind) (b : Branch) → m ≡ l → d ≡ on k b → Issued m d ≡ Issued l (on k b)
on_same m l d k b p q = λ i. Issued (p i) (q i)

pub new_call_fact : (tr : Trace) (e : Happening) (l : Line) (i : ℕ) (k : Kind) (b : Branch) → Inv tr → Right tr e
    → slice_get (new_calls tr e l) i ≡ Some (on k b) → CallFact (Then tr e) l k b
new_call_fact tr (Issued m d) l i k b inv r h =
    let g = get_if (line_eq m l) d i (on k b) h in
    let q = on_same m l d k b (line_eq-true m l g.0) g.2 in
    subst (λ x. CallFact (Then tr x) l k b) (sym q) (issued_fact tr l k b inv (subst (Right tr) q r))
new_call_fact tr (Resolved n) l i k b inv r h =
    resolved_fact tr n l k b inv r (resolving_item tr (page tr n) i k b (page_if (line_eq (line 0 n) l) _ i (on k b) h))
new_call_fact tr (ResolvedOpen n) l i k b inv r h =
    opened_fact tr n l k b inv r (resolving_item (Then tr (ResolvedOpen n)) (page tr n) i k b (page_if (line_eq (line 0 n) l) _ i (on k b) h))
new_call_fact tr _ l i k b inv r h = cc

pub waiting_after : (tr : Trace) (e : Happening) (l : Line) (k : Kind) (b : Branch) → Inv tr → Right tr e
    → Waits (Then tr e) l (on k b) → CallFact (Then tr e) l k b
waiting_after tr e l k b inv r w = by_case (waits_back tr e l (on k b) w)
  where
    by_case : NewWait tr e l (on k b) → CallFact (Then tr e) l k b
    by_case (Waited q v n) = waited_kept tr e l k b inv r v n
    by_case (IsNew i q h) = new_call_fact tr e l i k b inv r h

-- ** a call waits only while the manager is up

new_call_up : (tr : Trace) (e : Happening) (l : Line) (i : ℕ) (c : Call) → Right tr e → slice_get (new_calls tr e l) i ≡ Some c → up (Then tr e) ≡ true
new_call_up tr (Issued m d) l i c r h = r.0
new_call_up tr (Resolved n) l i c r h = r.0
new_call_up tr (ResolvedOpen n) l i c r h = r.0
new_call_up tr _ l i c r h = cc

unbroken_up : (tr : Trace) (e : Happening) (l : Line) → breaks tr e l ≡ false → up tr ≡ true → up (Then tr e) ≡ true
unbroken_up tr (Crashed Part.Manager) l q u = cc
unbroken_up tr (Failed f) l q u = cc
unbroken_up tr (Restarted i d n) l q u = refl
unbroken_up tr _ l q u = u

pub waiting_up_after : (tr : Trace) (e : Happening) (l : Line) (c : Call) → Inv tr → Right tr e → Waits (Then tr e) l c → up (Then tr e) ≡ true
waiting_up_after tr e l c inv r w = by_case (waits_back tr e l c w)
  where
    by_case : NewWait tr e l c → up (Then tr e) ≡ true
    by_case (Waited q v n) = unbroken_up tr e l q (inv.waiting_up l c v)
    by_case (IsNew i q h) = new_call_up tr e l i c r h

-- ** an xa_start stands once on its line

resolving_no_start : (tr : Trace) (b : Branch) (x : Kind) → Starts x → x ≡ resolving_kind tr b → ⊥
resolving_no_start tr b x s e = by_record (recorded tr b) (has_row tr b.gtrid) e
  where
    by_record : (u t : Bool) → x ≡ (if u then Forget else if t then Commit else Rollback) → ⊥
    by_record true t e = subst Starts e s
    by_record false true e = subst Starts e s
    by_record false false e = subst Starts e s

-- a new xa_start is the first one, and the only new call
pub record NewStart (tr : Trace) (e : Happening) (b : Branch) (i : ℕ) : Type 0 where
  pub first : started tr b ≡ false
  pub only : i ≡ 0
  pub now : started (Then tr e) b ≡ true

issued_start : (tr : Trace) (l : Line) (x : Kind) (b : Branch) → Starts x → Right tr (Issued l (on x b))
    → (started tr b ≡ false) × (started (Then tr (Issued l (on x b))) b ≡ true)
issued_start tr l Start b s r = let c = r.1 in let p = c.may_be in (p.0, or_left _ _ (branch_eq-refl b))
issued_start tr l Join b s r = let c = r.1 in let p = c.may_be in (p.0, or_left _ _ (branch_eq-refl b))
issued_start tr l _ b s r = absurd s

pub new_start : (tr : Trace) (e : Happening) (l : Line) (i : ℕ) (x : Kind) (b : Branch) → Starts x → Right tr e
    → slice_get (new_calls tr e l) i ≡ Some (on x b) → NewStart tr e b i
new_start tr (Issued m d) l i x b s r h =
    let g = get_if (line_eq m l) d i (on x b) h in
    let q = on_same m l d x b (line_eq-true m l g.0) g.2 in
    let p = issued_start tr l x b s (subst (Right tr) q r) in
    record { first = p.0; only = g.1; now = subst (λ y. started (Then tr y) b ≡ true) (sym q) p.1 }
new_start tr (Resolved n) l i x b s r h =
    absurd (resolving_no_start tr b x s (resolving_item tr (page tr n) i x b (page_if (line_eq (line 0 n) l) _ i (on x b) h)).kind)
new_start tr (ResolvedOpen n) l i x b s r h =
    absurd (resolving_no_start (Then tr (ResolvedOpen n)) b x s
    (resolving_item (Then tr (ResolvedOpen n)) (page tr n) i x b (page_if (line_eq (line 0 n) l) _ i (on x b) h)).kind)
new_start tr _ l i x b s r h = cc

-- where an xa_start on the line came from
data StartPlace (tr : Trace) (e : Happening) (l : Line) (x : Kind) (b : Branch) (j : ℕ) : Type 0 where
  Earlier : slice_get (issued tr l) j ≡ Some (on x b) → StartPlace tr e l x b j
  Newer : (i : ℕ) → j ≡ length (issued tr l) + i → NewStart tr e b i → StartPlace tr e l x b j

start_place : (tr : Trace) (e : Happening) (l : Line) (x : Kind) (b : Branch) (j : ℕ) → Starts x → Right tr e
    → slice_get (issued (Then tr e) l) j ≡ Some (on x b) → StartPlace tr e l x b j
start_place tr e l x b j s r h = by_break (breaks tr e l) h
  where
    by_place : (slice_get (issued tr l) j ≡ Some (on x b))
        ⊎ ((i : ℕ) × (j ≡ length (issued tr l) + i) × (slice_get (new_calls tr e l) i ≡ Some (on x b))) → StartPlace tr e l x b j
    by_place (inl p) = Earlier p
    by_place (inr p) = Newer p.0 p.1 (new_start tr e l p.0 x b s r p.2)

    by_break : (t : Bool) → slice_get (if t then [] else issued tr l ++ new_calls tr e l) j ≡ Some (on x b) → StartPlace tr e l x b j
    by_break true p = absurd (get_none j (on x b) p)
    by_break false p = by_place (get_append (issued tr l) (new_calls tr e l) j (on x b) p)

pub start_issued_after : (tr : Trace) (e : Happening) (l : Line) (b : Branch) (x : Kind) (j : ℕ) → Inv tr → Right tr e → Starts x
    → slice_get (issued (Then tr e) l) j ≡ Some (on x b) → started (Then tr e) b ≡ true
start_issued_after tr e l b x j inv r s h = by_case (start_place tr e l x b j s r h)
  where
    by_case : StartPlace tr e l x b j → started (Then tr e) b ≡ true
    by_case (Earlier p) = started_kept tr e b (inv.start_issued l b x j s p)
    by_case (Newer i q n) = n.now

pub start_once_after : (tr : Trace) (e : Happening) (l : Line) (b : Branch) (x y : Kind) (j k : ℕ) → Inv tr → Right tr e
    → Starts x → Starts y → slice_get (issued (Then tr e) l) j ≡ Some (on x b) → slice_get (issued (Then tr e) l) k ≡ Some (on y b) → j ≡ k
start_once_after tr e l b x y j k inv r s t h g = by_case (start_place tr e l x b j s r h) (start_place tr e l y b k t r g)
  where
    clash : (z : Kind) (m i : ℕ) → Starts z → slice_get (issued tr l) m ≡ Some (on z b) → NewStart tr e b i → ⊥
    clash z m i u p n = let v = inv.start_issued l b z m u p in let f = n.first in cc

    by_case : StartPlace tr e l x b j → StartPlace tr e l y b k → j ≡ k
    by_case (Earlier p) (Earlier q) = inv.start_once l b x y j k s t p q
    by_case (Earlier p) (Newer i q n) = absurd (clash x j i s p n)
    by_case (Newer i q n) (Earlier p) = absurd (clash y k i t p n)
    by_case (Newer i q n) (Newer i' q' n') = let u = n.only in let v = n'.only in omega arith
