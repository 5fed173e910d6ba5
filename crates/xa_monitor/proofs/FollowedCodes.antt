-- How the states of branches follow an answer that is a code.
use Rattle.std.proofs.Common.{◌≡◌, Bool, true, false, refl, sym, ap, ◌∙◌, subst}
use Rattle.std.specs.Prelude.{if◌then◌else◌, Some, None}
use Rattle.xa_base.proofs.BranchKeys.{branch_eq-true}
use Rattle.xa_base.specs.Branch.{branch_eq}
use Rattle.xa_base.specs.StateTable.{Kind, State, State.S0, State.S1, State.S2, State.S3, State.S4, State.S5, asks_of, state_of}
use Rattle.xa_base.specs.Xid.{Xid}
use Rattle.xa_base.specs.declared.answer.Answer.TheVariants.{Ret}
use Rattle.xa_base.specs.declared.call.Call.{Call as Waiting}
use Rattle.xa_base.specs.declared.state.Standing.{Standing}
use Rattle.xa_base.specs.declared.state.Standing.TheVariants.{Unstarted, Active, Idle, Prepared, RollbackOnly, Completed}
use Rattle.xa_model.specs.Trace.{Branch, Call, Code, Line}
use Rattle.xa_monitor.specs.Entries.{branch_in_call}
use Rattle.xa_monitor.specs.Monitor.{CanExplain, IsSomewhere, LeadsExactly, known}
use Rattle.xa_monitor.specs.Standings.{ExplainsAsked}
use Rattle.xa_monitor.specs.States.{LeadsInto, LeadsOnto, MovesAsAsked, has}
use Rattle.xa_monitor.specs.declared.states.States.{States}
use Rattle.xa_monitor.proofs.CallBranches.{Asks, Asks.OnBranch, Asks.OnNone, asked, one_leads, asked_here, takes_here, takes_away, stays_away, same_lead}

takes_lead : (k : Kind) (b : Branch) (x : Xid) (a : Code) (before after : Branch → States) (states : States)
    → LeadsInto (before b) (MovesAsAsked (Some (k, x)) a) states → LeadsOnto (before b) (MovesAsAsked (Some (k, x)) a) states
    → ((q : Branch) → after q ≡ (if branch_eq b q then states else before q)) → LeadsExactly before (ExplainsAsked (Some (k, b)) a) after
takes_lead k b x a before after states into onto e =
    one_leads before after (ExplainsAsked (Some (k, b)) a) b states e
    (λ f g h step. into f g h (asked_here k b x a f g step))
    (λ t h. let s = onto t h in (s.0, s.1, λ f p. let g = s.2 f p in (g.0, takes_here k b x a f g.0 g.1, g.2)))
    (λ q n f g step. takes_away k b q a n f g step) (λ q n f. stays_away k b q a n f)

known_same : (call : Waiting Xid) (c d : Call) → known call ≡ Some d → known call ≡ Some c → d ≡ c
known_same call c d e is = let both : Some d ≡ Some c = sym e ∙ is in cc

pub code_leads : (call : Waiting Xid) (b : Branch) (a : Code) (before after : Branch → States) (states : States) → branch_in_call call ≡ Some b
    → LeadsInto (before b) (MovesAsAsked (asks_of call) a) states → LeadsOnto (before b) (MovesAsAsked (asks_of call) a) states
    → ((q : Branch) → after q ≡ (if branch_eq b q then states else before q))
    → (c : Call) → known call ≡ Some c → LeadsExactly before (ExplainsAsked (asks_of c) a) after
code_leads call b a before after states names into onto e c is = by (subst (Asks call) names (asked call))
  where
    by : Asks call (Some b) → LeadsExactly before (ExplainsAsked (asks_of c) a) after
    by (OnBranch _ k x d ed ad ax) =
        subst (λ z. LeadsExactly before (ExplainsAsked z a) after) (sym (ap asks_of (sym (known_same call c d ed is)) ∙ ad))
        (takes_lead k b x a before after states (subst (λ z. LeadsInto (before b) (MovesAsAsked z a) states) ax into)
        (subst (λ z. LeadsOnto (before b) (MovesAsAsked z a) states) ax onto) e)

pub no_code_leads : (call : Waiting Xid) (a : Code) (before after : Branch → States) → branch_in_call call ≡ None → ((q : Branch) → after q ≡ before q)
    → (c : Call) → known call ≡ Some c → LeadsExactly before (ExplainsAsked (asks_of c) a) after
no_code_leads call a before after names e c is = by (subst (Asks call) names (asked call))
  where
    by : Asks call None → LeadsExactly before (ExplainsAsked (asks_of c) a) after
    by (OnNone none) =
        subst (λ z. LeadsExactly before (ExplainsAsked z a) after) (sym (none c is))
        (same_lead before after (ExplainsAsked None a) e (λ q f g step. step) (λ q f. refl))

-- whether some state explains it
pub code_stuck : (call : Waiting Xid) (b : Branch) (a : Code) (states : Branch → States) (after : States) → branch_in_call call ≡ Some b
    → LeadsInto (states b) (MovesAsAsked (asks_of call) a) after → ((s : State) → has after s ≡ false)
    → (l : Line) (c : Call) → known call ≡ Some c → CanExplain states l c (Ret a) b → ⊥
code_stuck call b a states after names into none l c is can = by (subst (Asks call) names (asked call))
  where
    by : Asks call (Some b) → ⊥
    by (OnBranch _ k x d ed ad ax) =
        let asks : asks_of c ≡ Some (k, b) = ap asks_of (sym (known_same call c d ed is)) ∙ ad in
        let step = asked_here k b x a can.from can.to (subst (λ z. ExplainsAsked z a b can.from can.to) asks can.leads) in
        let yes = into can.from can.to can.among (subst (λ z. MovesAsAsked z a can.from can.to) (sym ax) step) in
        let no = none (state_of can.to) in
        let never : ⊥ = cc in
        never

-- a standing in each state
pub in_state : (s : State) → (f : Standing) × (state_of f ≡ s)
in_state S0 = (Unstarted, refl)
in_state S1 = (Active, refl)
in_state S2 = (Idle, refl)
in_state S3 = (Prepared, refl)
in_state S4 = (RollbackOnly, refl)
in_state (S5 how) = (Completed how, refl)

-- some standing is in one of the states
pub there_in : (states : Branch → States) (b : Branch) → IsSomewhere states b → (f : Standing) × (has (states b) (state_of f) ≡ true)
there_in states b (s, h) = let f = in_state s in (f.0, ap (has (states b)) f.1 ∙ h)

pub code_can : (call : Waiting Xid) (b : Branch) (a : Code) (states : Branch → States) (after : States) → branch_in_call call ≡ Some b
    → LeadsOnto (states b) (MovesAsAsked (asks_of call) a) after → (t : State) → has after t ≡ true
    → (l : Line) (c : Call) → known call ≡ Some c → (q : Branch) → IsSomewhere states q → CanExplain states l c (Ret a) q
code_can call b a states after names onto t there l c is q some = by (subst (Asks call) names (asked call))
  where
    by : Asks call (Some b) → CanExplain states l c (Ret a) q
    by (OnBranch _ k x d ed ad ax) = by_test (branch_eq b q) refl
      where
        asks : asks_of c ≡ Some (k, b)
        asks = ap asks_of (sym (known_same call c d ed is)) ∙ ad

        by_test : (u : Bool) → branch_eq b q ≡ u → CanExplain states l c (Ret a) q
        by_test true e =
            let s = onto t there in
            let f = in_state s.0 in
            let g = s.2 f.0 f.1 in
            subst (CanExplain states l c (Ret a)) (branch_eq-true b q e) (record {
              from = f.0;
              to = g.0;
              among = ap (has (states b)) f.1 ∙ s.1;
              leads = subst (λ z. ExplainsAsked z a b f.0 g.0) (sym asks)
                  (takes_here k b x a f.0 g.0 (subst (λ z. MovesAsAsked z a f.0 g.0) ax g.1));
            })
        by_test false e =
            let f = there_in states q some in record {
              from = f.0;
              to = f.0;
              among = f.1;
              leads = subst (λ z. ExplainsAsked z a q f.0 f.0) (sym asks) (stays_away k b q a e f.0);
            }

pub no_code_can : (call : Waiting Xid) (a : Code) (states : Branch → States) → branch_in_call call ≡ None
    → (l : Line) (c : Call) → known call ≡ Some c → (q : Branch) → IsSomewhere states q → CanExplain states l c (Ret a) q
no_code_can call a states names l c is q some = by (subst (Asks call) names (asked call))
  where
    by : Asks call None → CanExplain states l c (Ret a) q
    by (OnNone none) =
        let f = there_in states q some in record {
          from = f.0;
          to = f.0;
          among = f.1;
          leads = subst (λ z. ExplainsAsked z a q f.0 f.0) (sym (none c is)) refl;
        }
