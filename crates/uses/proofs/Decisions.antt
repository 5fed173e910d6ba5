-- A decision that was logged is there after the next start.
use Rattle.std.proofs.Common.{◌≡◌, inl, inr, Bool, true, false, cond, Option, Some, None, IsSomeAnd, IfOk, Result, Ok, Err, ap, subst, ◌∙◌, is_eq, is_some}
use Rattle.std.proofs.lemmas.Bool.{cases_Bool}
use Rattle.std.specs.Cmp.{tied_itself}
use Rattle.std.specs.FinMap.{get, contains_key, get-insert, get-remove}
use Rattle.xa_base.proofs.BranchOrder.{gtrids_total}
use Rattle.xa_base.specs.Branch.{branch_cmp}
use Rattle.xa_base.specs.declared.branch.Gtrid.{Gtrid}
use Rattle.xa_log.specs.Content.{Content, unchanged, with_bump, with_commit, with_decision, without_decision}
use Rattle.xa_log.specs.Contract.{Makes}
use Rattle.xa_log.specs.KeySet.{KeySet}
use Rattle.xa_log.specs.declared.log_fault.LogFault.{LogFault}

there : (c : Content) (g : Gtrid) (p : KeySet branch_cmp) → contains_key (with_commit g p c).decisions g ≡ true
there c g p = elim (cases_Bool (contains_key c.decisions g)) [
  | inl taken ↦ ap (λ t. contains_key (cond t c (with_decision g p c)).decisions g) taken ∙ taken
  | inr free ↦
      ap (λ t. contains_key (cond t c (with_decision g p c)).decisions g) free
      ∙ ap is_some (get-insert gtrids_total c.decisions g p g ∙ ap (λ t. cond t (Some p) (get c.decisions g)) (ap is_eq (tied_itself gtrids_total g)))
]

pub found_again :
    (g : Gtrid) (p : KeySet branch_cmp) (first then now : Option Content) (result : Result Bool LogFault)
    → Makes (with_commit g p) first then → Makes with_bump then now
    → IfOk result (λ found. IsSomeAnd now (λ c. found ≡ contains_key c.decisions g)) → IfOk result (λ found. found ≡ true)
found_again g p first then now (Err e) commits bumps finds = tt
found_again g p None then now (Ok found) commits bumps finds = absurd commits
found_again g p (Some c) then now (Ok found) commits bumps finds =
    let now_is = subst (λ x. Makes with_bump x now) commits bumps in
    subst (λ x. IsSomeAnd x (λ d. found ≡ contains_key d.decisions g)) now_is finds ∙ there c g p

gone : (c : Content) (g : Gtrid) → contains_key (without_decision g c).decisions g ≡ false
gone c g = ap is_some (get-remove gtrids_total c.decisions g g ∙ ap (λ t. cond t None (get c.decisions g)) (ap is_eq (tied_itself gtrids_total g)))

-- a decision that is logged is found until it is done
pub found_until_done :
    (g : Gtrid) (p : KeySet branch_cmp) (first logged seen done : Option Content) (before after : Bool)
    → Makes (with_commit g p) first logged → IsSomeAnd logged (λ c. before ≡ contains_key c.decisions g) → Makes unchanged logged seen
    → Makes (without_decision g) seen done → IsSomeAnd done (λ c. after ≡ contains_key c.decisions g) → (before ≡ true) × (after ≡ false)
found_until_done g p None logged seen done before after commits finds sees takes misses = absurd commits
found_until_done g p (Some c) logged seen done before after commits finds sees takes misses =
    let then = with_commit g p c in
    let found = subst (λ x. IsSomeAnd x (λ d. before ≡ contains_key d.decisions g)) commits finds in
    let seen_is = subst (λ x. Makes unchanged x seen) commits sees in
    let done_is = subst (λ x. Makes (without_decision g) x done) seen_is takes in
    let missed = subst (λ x. IsSomeAnd x (λ d. after ≡ contains_key d.decisions g)) done_is misses in
    (found ∙ there c g p, missed ∙ gone then g)

-- a decision that is logged is found in what holds the same
pub found_in_same :
    (g : Gtrid) (p : KeySet branch_cmp) (first logged held : Option Content) (found : Bool) → Makes (with_commit g p) first logged
    → ((c : Content) → logged ≡ Some c → (held ≡ Some c) × IsSomeAnd held (λ d. found ≡ contains_key d.decisions g)) → found ≡ true
found_in_same g p None logged held found commits same = absurd commits
found_in_same g p (Some c) logged held found commits same =
    let then = with_commit g p c in
    let is = same then commits in
    subst (λ x. IsSomeAnd x (λ d. found ≡ contains_key d.decisions g)) is.0 is.1 ∙ there c g p
