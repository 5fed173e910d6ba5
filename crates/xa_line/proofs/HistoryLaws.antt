-- The calls of a line say what they say in a history.
use Rattle.std.proofs.Common.{◌≡◌, refl, sym, ap, ◌∙◌, List, [], ◌∷◌, Bool, false, not, ◌&&◌, ◌||◌, Option, Some, None}
use Rattle.std.proofs.lemmas.Option.{none-some, same_Some}
use Rattle.std.specs.List.{cons_option, filter_map, list_any}
use Rattle.std.specs.Option.{option_map}
use Rattle.xa_base.specs.Call.{map_call}
use Rattle.xa_model.specs.Replies.History.{name_of}
use Rattle.xa_base.specs.Opening.{opens, closes, comes_unopened, has_opened, has_closed}
use Rattle.xa_model.specs.Replies.Steps.{ours_of}
use Rattle.xa_model.specs.Trace.{Call as KnownCall}
use Rattle.xa_base.specs.Xid.{Xid}
use Rattle.xa_base.specs.declared.branch.Branch.{Branch}
use Rattle.xa_base.specs.declared.call.Call.{Call}
use Rattle.xa_base.specs.declared.call.Call.TheVariants as Calls
use Rattle.xa_line.specs.Histories.{AreKnownAs, known}

-- ** one call

-- names don't matter
pub opens_mapped : {X Y : Type 0} (f : X → Y) (c : Call X) → opens (map_call f c) ≡ opens c
opens_mapped f Calls.OpenRm = refl
opens_mapped f _ = refl

-- a call on a branch neither opens nor closes
on_a_branch : (test : KnownCall → Bool) (make : Branch → KnownCall) → ((b : Branch) → test (make b) ≡ false)
    → (o : Option Branch) (k : KnownCall) → option_map make o ≡ Some k → false ≡ test k
on_a_branch test make fails (Some b) k e = rw (← same_Some _ _ e) (sym (fails b))
on_a_branch test make fails None k e = absurd (none-some _ e)

opens_known : (c : Call Xid) (k : KnownCall) → known c ≡ Some k → opens c ≡ opens k
opens_known Calls.OpenRm k e = ap opens (same_Some _ _ e)
opens_known Calls.CloseRm k e = ap opens (same_Some _ _ e)
opens_known (Calls.Recover count start end) k e = ap opens (same_Some _ _ e)
opens_known (Calls.Start x join) k e = on_a_branch opens (λ b. Calls.Start b join) (λ b. refl) (ours_of (name_of x)) k e
opens_known (Calls.End x fail) k e = on_a_branch opens (λ b. Calls.End b fail) (λ b. refl) (ours_of (name_of x)) k e
opens_known (Calls.Prepare x) k e = on_a_branch opens Calls.Prepare (λ b. refl) (ours_of (name_of x)) k e
opens_known (Calls.Commit x one) k e = on_a_branch opens (λ b. Calls.Commit b one) (λ b. refl) (ours_of (name_of x)) k e
opens_known (Calls.Rollback x) k e = on_a_branch opens Calls.Rollback (λ b. refl) (ours_of (name_of x)) k e
opens_known (Calls.Forget x) k e = on_a_branch opens Calls.Forget (λ b. refl) (ours_of (name_of x)) k e

closes_known : (c : Call Xid) (k : KnownCall) → known c ≡ Some k → closes c ≡ closes k
closes_known Calls.OpenRm k e = ap closes (same_Some _ _ e)
closes_known Calls.CloseRm k e = ap closes (same_Some _ _ e)
closes_known (Calls.Recover count start end) k e = ap closes (same_Some _ _ e)
closes_known (Calls.Start x join) k e = on_a_branch closes (λ b. Calls.Start b join) (λ b. refl) (ours_of (name_of x)) k e
closes_known (Calls.End x fail) k e = on_a_branch closes (λ b. Calls.End b fail) (λ b. refl) (ours_of (name_of x)) k e
closes_known (Calls.Prepare x) k e = on_a_branch closes Calls.Prepare (λ b. refl) (ours_of (name_of x)) k e
closes_known (Calls.Commit x one) k e = on_a_branch closes (λ b. Calls.Commit b one) (λ b. refl) (ours_of (name_of x)) k e
closes_known (Calls.Rollback x) k e = on_a_branch closes Calls.Rollback (λ b. refl) (ours_of (name_of x)) k e
closes_known (Calls.Forget x) k e = on_a_branch closes Calls.Forget (λ b. refl) (ours_of (name_of x)) k e

-- ** all calls of a line

-- whether one of the calls passes a test
some_known : (test : Call Xid → Bool) (known_test : KnownCall → Bool)
    → ((c : Call Xid) (k : KnownCall) → known c ≡ Some k → test c ≡ known_test k)
    → (calls : List (Call Xid)) (ks : List KnownCall) → AreKnownAs calls ks → list_any test calls ≡ list_any known_test ks
some_known test known_test alike [] [] e = refl
some_known test known_test alike [] (k ∷ ks) e = absurd cc
some_known test known_test alike (c ∷ cs) [] e = absurd cc
some_known test known_test alike (c ∷ cs) (k ∷ ks) e =
    let h : known c ≡ Some k = cc in
    let t : AreKnownAs cs ks = cc in
    λ i. alike c k h i || some_known test known_test alike cs ks t i

pub opened_known : (calls : List (Call Xid)) (ks : List KnownCall) → AreKnownAs calls ks → has_opened calls ≡ has_opened ks
opened_known calls ks e = some_known opens opens opens_known calls ks e

pub closed_known : (calls : List (Call Xid)) (ks : List KnownCall) → AreKnownAs calls ks → has_closed calls ≡ has_closed ks
closed_known calls ks e = some_known closes closes closes_known calls ks e

pub unopened_known : (calls : List (Call Xid)) (ks : List KnownCall) (c : Call Xid) → AreKnownAs calls ks
    → comes_unopened calls c ≡ comes_unopened ks (map_call name_of c)
unopened_known calls ks c e = λ i. not (sym (opens_mapped name_of c) i) && not (opened_known calls ks e i)

-- ** those of the calls that a history knows

-- a call that no history knows is on another manager's branch, so it neither opens nor closes
opens_unknown : (c : Call Xid) → known c ≡ None → opens c ≡ false
opens_unknown Calls.OpenRm e = absurd (none-some _ (sym e))
opens_unknown _ e = refl

closes_unknown : (c : Call Xid) → known c ≡ None → closes c ≡ false
closes_unknown Calls.CloseRm e = absurd (none-some _ (sym e))
closes_unknown _ e = refl

-- whether one of them passes a test that no other passes
some_of_known : (test : Call Xid → Bool) (known_test : KnownCall → Bool)
    → ((c : Call Xid) (k : KnownCall) → known c ≡ Some k → test c ≡ known_test k) → ((c : Call Xid) → known c ≡ None → test c ≡ false)
    → (calls : List (Call Xid)) → list_any known_test (filter_map known calls) ≡ list_any test calls
some_of_known test known_test alike fails [] = refl
some_of_known test known_test alike fails (c ∷ cs) = by (known c) refl (some_of_known test known_test alike fails cs)
  where
    by : (o : Option KnownCall) → known c ≡ o → list_any known_test (filter_map known cs) ≡ list_any test cs
        → list_any known_test (cons_option o (filter_map known cs)) ≡ (test c || list_any test cs)
    by (Some k) e rest = λ i. sym (alike c k e) i || rest i
    by None e rest = rest ∙ ap (λ b. b || list_any test cs) (sym (fails c e))

pub opened_of_known : (calls : List (Call Xid)) → has_opened (filter_map known calls) ≡ has_opened calls
opened_of_known calls = some_of_known opens opens opens_known opens_unknown calls

pub closed_of_known : (calls : List (Call Xid)) → has_closed (filter_map known calls) ≡ has_closed calls
closed_of_known calls = some_of_known closes closes closes_known closes_unknown calls

-- an asked call that comes before any xa_open
pub unopened_of_known : (calls : List (Call Xid)) (c : Call Xid) → comes_unopened (filter_map known calls) (map_call name_of c) ≡ comes_unopened calls c
unopened_of_known calls c = λ i. not (opens_mapped name_of c i) && not (opened_of_known calls i)
