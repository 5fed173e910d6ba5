-- What the refusals of a book say.
use Rattle.std.proofs.Common.{◌≡◌, ℕ, ◌<◌, Bool, true, false, List, [], ◌∷◌, Option, Some, None, refl, arith, subst}
use Rattle.std.specs.Prelude.{if◌then◌else◌, nat_le}
use Rattle.std.specs.Option.{option_or}
use Rattle.std.proofs.lemmas.Bool.Decides.{nat_tests}
use Rattle.std.proofs.lemmas.Bool.{not-false}
use Rattle.xa_base.proofs.Options.{some_is}
use Rattle.xa_base.specs.declared.branch.Gtrid.{Gtrid}
use Rattle.xa_base.specs.declared.call.Call.TheVariants as Calls
use Rattle.xa_base.specs.declared.refusal.Refusal.{Refusal}
use Rattle.xa_base.specs.declared.refusal.Refusal.TheVariants.{LogFault, ManagerDown, UnknownTransaction}
use Rattle.xa_base.specs.declared.step.Outcome.{Outcome}
use Rattle.xa_base.specs.declared.step.Step.TheVariants as Steps
use Rattle.xa_model.specs.Replies.Steps.{Step, accepted}
use Rattle.xa_model.specs.Trace.{Call, Happening, Name.Foreign, Name.Ours}
use Rattle.xa_tm.specs.Book.{Book, after}
use Rattle.xa_tm.specs.News.{Asked}
use Rattle.xa_tm.specs.Release.{StartsBegun}
use Rattle.xa_model.proofs.Replies.Guards.{forced_of, known_call, none_of, peel}
use Rattle.xa_tm.specs.Refusing.{at_rest, refusal_in, refusal_in_turn, service_refusal_in, view_in}
use Rattle.xa_tm.proofs.Maps.Issue.{none_of_call}

-- ** numbers

pub not_over : (m n : ℕ) → nat_le m n ≡ false → n < m
not_over m n e = grind (arith, nat_tests, e)

-- ** no rule is that the log failed

pub no_fault : (k : Book) (s : Step) → refusal_in k s ≡ Some LogFault → ⊥
no_fault k s e = forced_of (view_in k) at_rest s LogFault e

-- nor is it of several steps in turn
pub no_fault_in_turn : (step : Gtrid → Step) (does : Gtrid → Happening) (gs : List Gtrid) (k : Book)
    → refusal_in_turn step does k gs ≡ Some LogFault → ⊥
no_fault_in_turn step does [] k e = absurd (cc)
no_fault_in_turn step does (g ∷ gs) k e = by (refusal_in k (step g)) (no_fault k (step g)) (no_fault_in_turn step does gs (after k (does g))) e
  where
    by : (o : Option Refusal) → (o ≡ Some LogFault → ⊥) → (refusal_in_turn step does (after k (does g)) gs ≡ Some LogFault → ⊥)
        → option_or o (refusal_in_turn step does (after k (does g)) gs) ≡ Some LogFault → ⊥
    by None first others e = others e
    by (Some n) first others e = first e

-- ** what no rule refuses

pub if_there : (t : Bool) (x : Option Refusal) (r : Refusal) → (if t then x else Some r) ≡ None → x ≡ None
if_there true x r e = e
if_there false x r e = absurd (cc)

-- if a transaction may begin, the manager is up
pub up_if_begins : (k : Book) (t : ℕ) → service_refusal_in k t ≡ None → k.up ≡ true
up_if_begins k t none = if_up k.up (if_there _ _ _ none)
  where
    if_up : (up : Bool) → (if up then None else Some ManagerDown) ≡ None → up ≡ true
    if_up true e = refl
    if_up false e = absurd (cc)

-- what may be decided is begun
pub begun_if_decided : (k : Book) (g : Gtrid) (o : Outcome) → refusal_in k (Steps.Decide g o) ≡ None → (k.transaction g).begun ≡ true
begun_if_decided k g o none = not-false _ (peel _ _ _ (peel _ _ _ none).1).0

-- and what may be settled or abandoned
pub begun_if_settled : (k : Book) (g : Gtrid) → refusal_in k (Steps.Settle g) ≡ None → (k.transaction g).begun ≡ true
begun_if_settled k g none = not-false _ (peel _ _ _ (peel _ _ _ none).1).0

pub begun_if_abandoned : (k : Book) (g : Gtrid) → refusal_in k (Steps.Abandon g) ≡ None → (k.transaction g).begun ≡ true
begun_if_abandoned k g none = not-false _ (peel _ _ _ (peel _ _ _ none).1).0

-- a call that may be issued is one that a history knows
pub known_issue : (k : Book) (t r : ℕ) (a : Asked) → refusal_in k (Steps.Issue t r a) ≡ None → (c : Call) × (accepted a ≡ Some c)
known_issue k t r a none = known_call (view_in k) t r a (none_of_call k t r a none)

-- a call that starts a branch is issued of a transaction that is begun
pub issued_begun : (k : Book) (t r : ℕ) (a : Asked) (c : Call) → accepted a ≡ Some c → refusal_in k (Steps.Issue t r a) ≡ None → StartsBegun k c
issued_begun k t r (Calls.Start (Ours b) j) c is none =
    subst (StartsBegun k) (some_is _ _ is) (not-false _ (none_of (view_in k) at_rest (Steps.Issue t r (Calls.Start (Ours b) j)) UnknownTransaction none))
issued_begun k t r (Calls.Start (Foreign x) j) c is none = absurd (cc)
issued_begun k t r Calls.OpenRm c is none = subst (StartsBegun k) (some_is _ _ is) tt
issued_begun k t r Calls.CloseRm c is none = subst (StartsBegun k) (some_is _ _ is) tt
issued_begun k t r (Calls.End (Ours b) i) c is none = subst (StartsBegun k) (some_is _ _ is) tt
issued_begun k t r (Calls.End (Foreign x) i) c is none = absurd (cc)
issued_begun k t r (Calls.Prepare (Ours b)) c is none = subst (StartsBegun k) (some_is _ _ is) tt
issued_begun k t r (Calls.Prepare (Foreign x)) c is none = absurd (cc)
issued_begun k t r (Calls.Commit (Ours b) o) c is none = subst (StartsBegun k) (some_is _ _ is) tt
issued_begun k t r (Calls.Commit (Foreign x) o) c is none = absurd (cc)
issued_begun k t r (Calls.Rollback (Ours b)) c is none = subst (StartsBegun k) (some_is _ _ is) tt
issued_begun k t r (Calls.Rollback (Foreign x)) c is none = absurd (cc)
issued_begun k t r (Calls.Forget (Ours b)) c is none = subst (StartsBegun k) (some_is _ _ is) tt
issued_begun k t r (Calls.Forget (Foreign x)) c is none = absurd (cc)
issued_begun k t r (Calls.Recover n x y) c is none = subst (StartsBegun k) (some_is _ _ is) tt
