-- The branch that a call asks something of, and states that change for one branch alone.
use Rattle.std.proofs.Common.{◌≡◌, Bool, true, false, refl, sym, ap, ◌∙◌, subst}
use Rattle.std.specs.Prelude.{if◌then◌else◌, Option, Some, None}
use Rattle.std.specs.Option.{option_map}
use Rattle.xa_base.proofs.BranchKeys.{branch_eq-refl, branch_eq-true}
use Rattle.xa_base.specs.Branch.{branch_eq, branch_of_xid}
use Rattle.xa_base.specs.StateTable.{Kind, Kind.End, Kind.Forget, Kind.Prepare, Kind.Rollback, asks_of, commit_kind, start_kind, state_of}
use Rattle.xa_base.specs.Xid.{Xid}
use Rattle.xa_base.specs.declared.call.Call.{Call as Waiting}
use Rattle.xa_base.specs.declared.call.Call.TheVariants as Calls
use Rattle.xa_base.specs.declared.state.Standing.{Standing}
use Rattle.xa_model.specs.Replies.History.{name_by}
use Rattle.xa_model.specs.Replies.Steps.{ours_of}
use Rattle.xa_model.specs.Trace.{Branch, Call, Code}
use Rattle.xa_monitor.specs.Entries.{branch_in_call}
use Rattle.xa_monitor.specs.Monitor.{LeadsExactly, known}
use Rattle.xa_monitor.specs.Standings.{ExplainsAsked, ExplainsIf}
use Rattle.xa_monitor.specs.States.{LeadsInto, LeadsOnto, MovesAsAsked, has}
use Rattle.xa_monitor.specs.declared.states.States.{States}

-- ** the branch of a call

-- what a call asks, by the branch of this manager that it names
pub data Asks (call : Waiting Xid) : Option Branch → Type 0 where
  OnBranch : (b : Branch) (k : Kind) (x : Xid) (c : Call) → known call ≡ Some c → asks_of c ≡ Some (k, b) → asks_of call ≡ Some (k, x) → Asks call (Some b)
  OnNone : ((c : Call) → known call ≡ Some c → asks_of c ≡ None) → Asks call None

named : (call : Waiting Xid) (make : Branch → Call) (k : Kind) (x : Xid) (o : Option Branch) → known call ≡ option_map make (ours_of (name_by x o))
    → asks_of call ≡ Some (k, x) → ((b : Branch) → asks_of (make b) ≡ Some (k, b)) → Asks call o
named call make k x (Some b) e a m = OnBranch b k x (make b) e (m b) a
named call make k x None e a m = OnNone (λ c is. let no : None ≡ Some c = sym e ∙ is in absurd (let never : ⊥ = cc in never))

unnamed : (call : Waiting Xid) (d : Call) → known call ≡ Some d → asks_of d ≡ None → Asks call None
unnamed call d e a = OnNone (λ c is. let same : d ≡ c = let both : Some d ≡ Some c = sym e ∙ is in cc in ap asks_of (sym same) ∙ a)

pub asked : (call : Waiting Xid) → Asks call (branch_in_call call)
asked Calls.OpenRm = unnamed Calls.OpenRm Calls.OpenRm refl refl
asked Calls.CloseRm = unnamed Calls.CloseRm Calls.CloseRm refl refl
asked (Calls.Start x join) = named (Calls.Start x join) (λ b. Calls.Start b join) (start_kind join) x (branch_of_xid x) refl refl (λ b. refl)
asked (Calls.End x fail) = named (Calls.End x fail) (λ b. Calls.End b fail) (End fail) x (branch_of_xid x) refl refl (λ b. refl)
asked (Calls.Prepare x) = named (Calls.Prepare x) Calls.Prepare Prepare x (branch_of_xid x) refl refl (λ b. refl)
asked (Calls.Commit x one) = named (Calls.Commit x one) (λ b. Calls.Commit b one) (commit_kind one) x (branch_of_xid x) refl refl (λ b. refl)
asked (Calls.Rollback x) = named (Calls.Rollback x) Calls.Rollback Rollback x (branch_of_xid x) refl refl (λ b. refl)
asked (Calls.Forget x) = named (Calls.Forget x) Calls.Forget Forget x (branch_of_xid x) refl refl (λ b. refl)
asked (Calls.Recover n s e) = unnamed (Calls.Recover n s e) (Calls.Recover n s e) refl refl

-- ** one branch

pub one_leads : (before after : Branch → States) (Step : Branch → Standing → Standing → Type 0) (b : Branch) (states : States)
    → ((q : Branch) → after q ≡ (if branch_eq b q then states else before q)) → LeadsInto (before b) (Step b) states → LeadsOnto (before b) (Step b) states
    → ((q : Branch) → branch_eq b q ≡ false → (f g : Standing) → Step q f g → g ≡ f)
    → ((q : Branch) → branch_eq b q ≡ false → (f : Standing) → Step q f f) → LeadsExactly before Step after
one_leads before after Step b states e into onto only stays = record {
  into = λ q f g h step. ap (λ z. has z (state_of g)) (e q) ∙ into_by q (branch_eq b q) refl f g h step;
  onto = λ q t h. onto_by q (branch_eq b q) refl t (sym (ap (λ z. has z t) (e q)) ∙ h);
}
  where
    into_by : (q : Branch) (t : Bool) → branch_eq b q ≡ t → LeadsInto (before q) (Step q) (if t then states else before q)
    into_by q true p = subst (λ z. LeadsInto (before z) (Step z) states) (branch_eq-true b q p) into
    into_by q false p = λ f g h step. ap (λ z. has (before q) (state_of z)) (only q p f g step) ∙ h

    onto_by : (q : Branch) (t : Bool) → branch_eq b q ≡ t → LeadsOnto (before q) (Step q) (if t then states else before q)
    onto_by q true p = subst (λ z. LeadsOnto (before z) (Step z) states) (branch_eq-true b q p) onto
    onto_by q false p = λ t h. (t, h, λ f w. (f, stays q p f, w))

pub asked_here : {X : Type 0} (k : Kind) (b : Branch) (x : X) (a : Code) (f g : Standing) → ExplainsAsked (Some (k, b)) a b f g
    → MovesAsAsked (Some (k, x)) a f g
asked_here k b x a f g step = subst (λ t. ExplainsIf t f k a g) (branch_eq-refl b) step

pub takes_here : {X : Type 0} (k : Kind) (b : Branch) (x : X) (a : Code) (f g : Standing) → MovesAsAsked (Some (k, x)) a f g
    → ExplainsAsked (Some (k, b)) a b f g
takes_here k b x a f g step = subst (λ t. ExplainsIf t f k a g) (sym (branch_eq-refl b)) step

pub takes_away : (k : Kind) (b q : Branch) (a : Code) → branch_eq b q ≡ false → (f g : Standing) → ExplainsAsked (Some (k, b)) a q f g → g ≡ f
takes_away k b q a n f g step = subst (λ t. ExplainsIf t f k a g) n step

pub stays_away : (k : Kind) (b q : Branch) (a : Code) → branch_eq b q ≡ false → (f : Standing) → ExplainsAsked (Some (k, b)) a q f f
stays_away k b q a n f = subst (λ t. ExplainsIf t f k a f) (sym n) refl

-- the same states, where nothing is asked
pub same_lead : (before after : Branch → States) (Step : Branch → Standing → Standing → Type 0) → ((q : Branch) → after q ≡ before q)
    → ((q : Branch) (f g : Standing) → Step q f g → g ≡ f) → ((q : Branch) (f : Standing) → Step q f f) → LeadsExactly before Step after
same_lead before after Step e only stays = record {
  into = λ q f g h step. ap (λ z. has z (state_of g)) (e q) ∙ (ap (λ z. has (before q) (state_of z)) (only q f g step) ∙ h);
  onto = λ q t h. (t, sym (ap (λ z. has z t) (e q)) ∙ h, λ f p. (f, stays q f, p));
}
