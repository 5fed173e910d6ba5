-- The calls that end the branches of a page, as calls and as they wait.
use Rattle.std.proofs.Common.{◌≡◌, ℕ, suc, sym, ◌∙◌, not, ◌&&◌, ◌||◌, List, [], ◌∷◌, map, length, filter, Bool, true, false, cond, Option, Some, None, is_some, refl, ap}
use Rattle.std.specs.Prelude.{if◌then◌else◌}
use Rattle.std.specs.List.{cons_option, filter_map}
use Rattle.xa_base.specs.StateTable.{on}
use Rattle.xa_base.specs.Branch.{branch_of_xid, gtrid_eq}
use Rattle.xa_model.specs.Replies.Steps.{accepted}
use Rattle.xa_model.specs.Replies.History.{name_by, name_of}
use Rattle.xa_model.specs.Trace.{Kind.Commit, Kind.Rollback, Kind.Forget, Call, Happening.ResolvedOpen}
use Rattle.xa_base.specs.Xid.{Xid}
use Rattle.xa_base.specs.declared.branch.Branch.{Branch}
use Rattle.xa_base.specs.declared.call.Call as RustCall
use Rattle.xa_base.specs.declared.call.Call.TheVariants as Calls
use Rattle.xa_model.specs.Facts.{lists_one_of}
use Rattle.xa_base.specs.declared.branch.Gtrid.{Gtrid}
use Rattle.xa_base.proofs.BranchKeys.{gtrid_eq-refl}
use Rattle.std.proofs.lemmas.List.{length-map}
use Rattle.std.proofs.lemmas.Bool.{or_right}
use Rattle.xa_tm.specs.Book.{Book, after}
use Rattle.xa_tm.specs.Refusing.{has_row_in, live_in, resolving_calls_in, resolving_kind_in}
use Rattle.xa_tm.specs.Resolving.{call_by, call_for, ending_call, open_call_by, open_call_for, waiting_call}

ending : (k : Book) (x : Xid) (b : Branch) → branch_of_xid x ≡ Some b → waiting_call (ending_call k x b) ≡ Some (on (resolving_kind_in k b) b)
ending k x b own = by (is_some (k.recorded b)) (has_row_in k b.gtrid)
  where
    by : (r w : Bool) → waiting_call (if r then Calls.Forget x else (if w then Calls.Commit x false else Calls.Rollback x))
        ≡ Some (on (if r then Forget else (if w then Commit else Rollback)) b)
    by true w = ap (λ o. accepted (Calls.Forget (name_by x o))) own
    by false true = ap (λ o. accepted (Calls.Commit (name_by x o) false)) own
    by false false = ap (λ o. accepted (Calls.Rollback (name_by x o))) own

pub calls_are : (k : Book) (xs : List Xid) → map waiting_call (filter_map (call_for k) xs) ≡ map Some (resolving_calls_in k (map name_of xs))
calls_are k [] = refl
calls_are k (x ∷ xs) = by (branch_of_xid x) refl (calls_are k xs)
  where
    live : (b : Branch) (t : Bool) → branch_of_xid x ≡ Some b → map waiting_call (filter_map (call_for k) xs) ≡ map Some (resolving_calls_in k (map name_of xs))
        → map waiting_call (cons_option (if t then None else Some (ending_call k x b)) (filter_map (call_for k) xs))
        ≡ map Some (if t then resolving_calls_in k (map name_of xs) else on (resolving_kind_in k b) b ∷ resolving_calls_in k (map name_of xs))
    live b true own tail = tail
    live b false own tail = λ i. ending k x b own i ∷ tail i

    by : (o : Option Branch) → branch_of_xid x ≡ o → map waiting_call (filter_map (call_for k) xs) ≡ map Some (resolving_calls_in k (map name_of xs))
        → map waiting_call (cons_option (call_by k x o) (filter_map (call_for k) xs)) ≡ map Some (resolving_calls_in k (name_by x o ∷ map name_of xs))
    by None own tail = tail
    by (Some b) own tail = live b (live_in k b.gtrid) own tail

pub calls_number : (k : Book) (xs : List Xid) → length (filter (λ x. is_some (call_for k x)) xs) ≡ length (resolving_calls_in k (map name_of xs))
calls_number k [] = refl
calls_number k (x ∷ xs) = by (branch_of_xid x) (calls_number k xs)
  where
    live : (b : Branch) (t : Bool) → length (filter (λ x. is_some (call_for k x)) xs) ≡ length (resolving_calls_in k (map name_of xs))
        → length (cond (is_some (if t then None else Some (ending_call k x b))) (x ∷ filter (λ x. is_some (call_for k x)) xs)
        (filter (λ x. is_some (call_for k x)) xs))
        ≡ length (if t then resolving_calls_in k (map name_of xs) else on (resolving_kind_in k b) b ∷ resolving_calls_in k (map name_of xs))
    live b true tail = tail
    live b false tail = ap suc tail

    by : (o : Option Branch) → length (filter (λ x. is_some (call_for k x)) xs) ≡ length (resolving_calls_in k (map name_of xs))
        → length (cond (is_some (call_by k x o)) (x ∷ filter (λ x. is_some (call_for k x)) xs) (filter (λ x. is_some (call_for k x)) xs))
        ≡ length (resolving_calls_in k (name_by x o ∷ map name_of xs))
    by None tail = tail
    by (Some b) tail = live b (live_in k b.gtrid) tail

-- ** with what is open decided before

count_kept : (f : Xid → Option (RustCall.Call Xid)) (xs : List Xid) → length (filter (λ x. is_some (f x)) xs) ≡ length (filter_map f xs)
count_kept f [] = refl
count_kept f (x ∷ xs) = by (f x) (count_kept f xs)
  where
    by : (o : Option (RustCall.Call Xid)) → length (filter (λ x. is_some (f x)) xs) ≡ length (filter_map f xs)
        → length (cond (is_some o) (x ∷ filter (λ x. is_some (f x)) xs) (filter (λ x. is_some (f x)) xs)) ≡ length (cons_option o (filter_map f xs))
    by None tail = tail
    by (Some c) tail = ap suc tail

-- a listed transaction stays live exactly if it is claimed
stays_live : (l b m r h c : Bool) → l ≡ true → (b && not (m || (((l && (b && not (c || (m || h)))) || r) || h))) ≡ ((b && not (m || (r || h))) && c)
stays_live false b m r h c e = absurd (cc)
stays_live true false m r h c e = refl
stays_live true true true r h c e = refl
stays_live true true false true h true e = refl
stays_live true true false true h false e = open_or h
  where
    open_or : (x : Bool) → not ((not x || true) || x) ≡ false
    open_or true = refl
    open_or false = refl
stays_live true true false false true true e = refl
stays_live true true false false true false e = refl
stays_live true true false false false true e = refl
stays_live true true false false false false e = refl

pub open_calls_are : (k : Book) (r : ℕ) (xs : List Xid) → ((g : Gtrid) → lists_one_of g (map name_of xs) ≡ true → lists_one_of g (k.page r) ≡ true)
    → map waiting_call (filter_map (open_call_for k) xs) ≡ map Some (resolving_calls_in (after k (ResolvedOpen r)) (map name_of xs))
open_calls_are k r [] sub = refl
open_calls_are k r (x ∷ xs) sub = by (branch_of_xid x) refl sub (λ s. open_calls_are k r xs s)
  where
    Tail : Type 0
    Tail = map waiting_call (filter_map (open_call_for k) xs) ≡ map Some (resolving_calls_in (after k (ResolvedOpen r)) (map name_of xs))

    live : (b : Branch) (t u : Bool) → u ≡ t → branch_of_xid x ≡ Some b → Tail
        → map waiting_call (cons_option (if t then None else Some (ending_call k x b)) (filter_map (open_call_for k) xs))
        ≡ map Some (if u then resolving_calls_in (after k (ResolvedOpen r)) (map name_of xs) else on (resolving_kind_in k b) b
        ∷ resolving_calls_in (after k (ResolvedOpen r)) (map name_of xs))
    live b true true e own tail = tail
    live b false false e own tail = λ i. ending k x b own i ∷ tail i
    live b true false e own tail = absurd (cc)
    live b false true e own tail = absurd (cc)

    by : (o : Option Branch) → branch_of_xid x ≡ o → ((g : Gtrid) → lists_one_of g (name_by x o ∷ map name_of xs) ≡ true → lists_one_of g (k.page r) ≡ true)
        → (((g : Gtrid) → lists_one_of g (map name_of xs) ≡ true → lists_one_of g (k.page r) ≡ true) → Tail)
        → map waiting_call (cons_option (open_call_by k x o) (filter_map (open_call_for k) xs))
        ≡ map Some (resolving_calls_in (after k (ResolvedOpen r)) (name_by x o ∷ map name_of xs))
    by None own sub tail = tail (λ g h. sub g h)
    by (Some b) own sub tail =
        let listed = sub b.gtrid (ap (λ t. t || lists_one_of b.gtrid (map name_of xs)) (gtrid_eq-refl b.gtrid)) in
        let d = k.transaction b.gtrid in
        live b (live_in k b.gtrid && d.claimed) (live_in (after k (ResolvedOpen r)) b.gtrid)
        (stays_live (lists_one_of b.gtrid (k.page r)) d.begun d.committed d.rolled_back d.handed_over d.claimed listed)
        own (tail (λ g h. sub g (or_right (gtrid_eq b.gtrid g) (lists_one_of g (map name_of xs)) h)))

pub open_calls_number : (k : Book) (r : ℕ) (xs : List Xid) → ((g : Gtrid) → lists_one_of g (map name_of xs) ≡ true → lists_one_of g (k.page r) ≡ true)
    → length (filter (λ x. is_some (open_call_for k x)) xs) ≡ length (resolving_calls_in (after k (ResolvedOpen r)) (map name_of xs))
open_calls_number k r xs sub = count_kept (open_call_for k) xs
    ∙ sym (length-map (filter_map (open_call_for k) xs) waiting_call) ∙ ap length (open_calls_are k r xs sub)
    ∙ length-map (resolving_calls_in (after k (ResolvedOpen r)) (map name_of xs)) (λ (c : Call). Some c)
