-- The one call of some parts.
use Rattle.std.proofs.Common.{◌≡◌, ℕ, ◌==◌, ℤ, Bool, true, false, List, [], ◌∷◌, Option, Some, None, cond, refl, arith}
use Rattle.std.proofs.lemmas.Bool.Decides.{nat_tests}
use Rattle.std.specs.List.{find}
use Rattle.xa_base.specs.Call.{IsCallOf, kind_of, xid_in, count_in, flags_of, calls_with, call_with}
use Rattle.xa_base.specs.Xid.{Xid}
use Rattle.xa_base.specs.declared.call.Call.{Call}
use Rattle.xa_base.specs.declared.call.Call.TheVariants.{OpenRm, CloseRm, Start, End, Prepare, Commit, Rollback, Forget, Recover}
use Rattle.xa_base.specs.declared.call.CallKind.{CallKind}
use Rattle.xa_base.specs.declared.call.CallKind.TheVariants as Kind

-- a call is the one of its own parts
own : (call : Call Xid) → call_with (kind_of call) (xid_in call) (flags_of call) (count_in call) ≡ Some call
own OpenRm = refl
own CloseRm = refl
own (Start xid true) = refl
own (Start xid false) = refl
own (End xid true) = refl
own (End xid false) = refl
own (Prepare xid) = refl
own (Commit xid true) = refl
own (Commit xid false) = refl
own (Rollback xid) = refl
own (Forget xid) = refl
own (Recover n true true) = refl
own (Recover n true false) = refl
own (Recover n false true) = refl
own (Recover n false false) = refl

-- a call of these parts is found by them
pub made_is_with : (k : CallKind) (x : Option Xid) (f : ℕ) (n : Option ℤ) (call : Call Xid) → IsCallOf k x f n call → call_with k x f n ≡ Some call
made_is_with k x f n call h = rw (← h.kind, ← h.xid, ← h.flags, ← h.count) (own call)

-- each of the calls in a list
abbrev Each : (Call Xid → Type 0) → List (Call Xid) → Type 0
Each Q [] = Unit {0}
Each Q (call ∷ calls) = Q call × Each Q calls

-- the call has these parts except for its flags
record HasParts (k : CallKind) (x : Option Xid) (n : Option ℤ) (call : Call Xid) : Type 0 where
  kind : kind_of call ≡ k
  xid : xid_in call ≡ x
  count : count_in call ≡ n

own_parts : (call : Call Xid) → HasParts (kind_of call) (xid_in call) (count_in call) call
own_parts call = record { kind = refl; xid = refl; count = refl }

-- the calls with these parts have them
have_parts : (k : CallKind) (x : Option Xid) (n : Option ℤ) → Each (HasParts k x n) (calls_with k x n)
have_parts Kind.OpenRm None None = (own_parts OpenRm, tt)
have_parts Kind.CloseRm None None = (own_parts CloseRm, tt)
have_parts Kind.Start (Some xid) None = (own_parts (Start xid false), (own_parts (Start xid true), tt))
have_parts Kind.End (Some xid) None = (own_parts (End xid false), (own_parts (End xid true), tt))
have_parts Kind.Prepare (Some xid) None = (own_parts (Prepare xid), tt)
have_parts Kind.Commit (Some xid) None = (own_parts (Commit xid false), (own_parts (Commit xid true), tt))
have_parts Kind.Rollback (Some xid) None = (own_parts (Rollback xid), tt)
have_parts Kind.Forget (Some xid) None = (own_parts (Forget xid), tt)
have_parts Kind.Recover None (Some n) =
    (own_parts (Recover n false false), (own_parts (Recover n false true), (own_parts (Recover n true false), (own_parts (Recover n true true), tt))))
have_parts _ _ _ = tt

-- what is found has what each has, and passes
found_here : (Q : Call Xid → Type 0) (p : Call Xid → Bool) (first : Call Xid) (calls : List (Call Xid)) (call : Call Xid) (passes : Bool) → p first ≡ passes
    → Q first → Each Q calls → (find p calls ≡ Some call → (p call ≡ true) × Q call)
    → cond passes (Some first) (find p calls) ≡ Some call → (p call ≡ true) × Q call
found_here Q p first calls call true is here others later h = let same : first ≡ call = cc in (rw (← same) is, rw (← same) here)
found_here Q p first calls call false is here others later h = later h

found : (Q : Call Xid → Type 0) (p : Call Xid → Bool) (calls : List (Call Xid)) (call : Call Xid) → Each Q calls
    → find p calls ≡ Some call → (p call ≡ true) × Q call
found Q p [] call each h = let no : ⊥ = cc in absurd no
found Q p (first ∷ calls) call each h = found_here Q p first calls call (p first) refl each.0 each.1 (found Q p calls call each.1) h

same_number : (a b : ℕ) → (a == b) ≡ true → a ≡ b
same_number a b h = grind (arith, nat_tests)

-- what is found by parts has them
pub with_is_made : (k : CallKind) (x : Option Xid) (f : ℕ) (n : Option ℤ) (call : Call Xid) → call_with k x f n ≡ Some call → IsCallOf k x f n call
with_is_made k x f n call h =
    let parts = found (HasParts k x n) (λ c. flags_of c == f) (calls_with k x n) call (have_parts k x n) h in
    record { kind = parts.1.kind; xid = parts.1.xid; flags = same_number (flags_of call) f parts.0; count = parts.1.count }
