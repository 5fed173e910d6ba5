-- How the states of branches follow a call that was done or wasn't.
use Rattle.std.proofs.Common.{◌≡◌, false, ◌⊎◌, refl, sym, subst}
use Rattle.std.specs.Prelude.{if◌then◌else◌, Option, Some, None}
use mathlib.Core.Logic.{◌⊎◌.inl, ◌⊎◌.inr}
use Rattle.xa_base.specs.Branch.{branch_eq}
use Rattle.xa_base.specs.StateTable.{Kind, asks_of}
use Rattle.xa_base.specs.Xid.{Xid}
use Rattle.xa_base.specs.declared.call.Call.{Call as Waiting}
use Rattle.xa_base.specs.declared.state.Standing.{Standing}
use Rattle.xa_model.specs.Trace.{Branch, Call, Code}
use Rattle.xa_monitor.specs.Entries.{branch_in_call}
use Rattle.xa_monitor.specs.Monitor.{LeadsExactly, known}
use Rattle.xa_monitor.specs.Standings.{ExplainsAsked, MayBeDone}
use Rattle.xa_monitor.specs.States.{AskedOrNot, LeadsInto, LeadsOnto}
use Rattle.xa_monitor.specs.declared.states.States.{States}
use Rattle.xa_monitor.proofs.CallBranches.{Asks, Asks.OnBranch, Asks.OnNone, asked, one_leads, asked_here, takes_here, takes_away, same_lead}

abbrev DoneOr : Option (Kind × Branch) → Branch → Standing → Standing → Type 0
DoneOr asks q f g = (g ≡ f) ⊎ ((a : Code) × ExplainsAsked asks a q f g)

done_leads : (k : Kind) (b : Branch) (x : Xid) (before after : Branch → States) (states : States)
    → LeadsInto (before b) (AskedOrNot (Some (k, x))) states → LeadsOnto (before b) (AskedOrNot (Some (k, x))) states
    → ((q : Branch) → after q ≡ (if branch_eq b q then states else before q)) → LeadsExactly before (DoneOr (Some (k, b))) after
done_leads k b x before after states into onto e =
    one_leads before after (DoneOr (Some (k, b))) b states e
    (λ f g h step. into f g h (here f g step))
    (λ t h. let s = onto t h in (s.0, s.1, λ f p. let g = s.2 f p in (g.0, back f g.0 g.1, g.2)))
    (λ q n f g step. away q n f g step) (λ q n f. inl refl)
  where
    here : (f g : Standing) → DoneOr (Some (k, b)) b f g → AskedOrNot (Some (k, x)) f g
    here f g (inl e) = inl e
    here f g (inr (a, step)) = inr (a, asked_here k b x a f g step)

    back : (f g : Standing) → AskedOrNot (Some (k, x)) f g → DoneOr (Some (k, b)) b f g
    back f g (inl e) = inl e
    back f g (inr (a, step)) = inr (a, takes_here k b x a f g step)

    away : (q : Branch) → branch_eq b q ≡ false → (f g : Standing) → DoneOr (Some (k, b)) q f g → g ≡ f
    away q n f g (inl e) = e
    away q n f g (inr (a, step)) = takes_away k b q a n f g step

pub doubt_leads : (call : Waiting Xid) (b : Branch) (before after : Branch → States) (states : States) → branch_in_call call ≡ Some b
    → LeadsInto (before b) (AskedOrNot (asks_of call)) states → LeadsOnto (before b) (AskedOrNot (asks_of call)) states
    → ((q : Branch) → after q ≡ (if branch_eq b q then states else before q)) → LeadsExactly before (MayBeDone (known call)) after
doubt_leads call b before after states names into onto e = by (subst (Asks call) names (asked call))
  where
    by : Asks call (Some b) → LeadsExactly before (MayBeDone (known call)) after
    by (OnBranch _ k x d ed ad ax) =
        subst (λ z. LeadsExactly before (MayBeDone z) after) (sym ed)
        (subst (λ z. LeadsExactly before (DoneOr z) after) (sym ad)
        (done_leads k b x before after states (subst (λ z. LeadsInto (before b) (AskedOrNot z) states) ax into)
        (subst (λ z. LeadsOnto (before b) (AskedOrNot z) states) ax onto) e))

pub no_doubt_leads : (call : Waiting Xid) (before after : Branch → States) → branch_in_call call ≡ None → ((q : Branch) → after q ≡ before q)
    → LeadsExactly before (MayBeDone (known call)) after
no_doubt_leads call before after names e = by (subst (Asks call) names (asked call)) (known call) refl
  where
    only : (q : Branch) (f g : Standing) → DoneOr None q f g → g ≡ f
    only q f g (inl e) = e
    only q f g (inr (a, step)) = step

    by : Asks call None → (o : Option Call) → known call ≡ o → LeadsExactly before (MayBeDone o) after
    by (OnNone none) None is = same_lead before after (MayBeDone None) e (λ q f g step. step) (λ q f. refl)
    by (OnNone none) (Some c) is =
        subst (λ z. LeadsExactly before (DoneOr z) after) (sym (none c is)) (same_lead before after (DoneOr None) e only (λ q f. inl refl))

pub none_done : (before : Branch → States) → LeadsExactly before (MayBeDone None) before
none_done before = same_lead before before (MayBeDone None) (λ q. refl) (λ q f g step. step) (λ q f. refl)
