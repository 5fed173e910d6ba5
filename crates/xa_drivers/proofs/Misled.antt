-- Drivers that break a rule mislead their coordinators.
use Rattle.std.proofs.Common.{◌≡◌, ◌∙◌, ◌⊎◌, inl, inr, Bool, true, false, ℕ, zero, suc, List, [], ◌∷◌, Some, None, refl, sym, ap, subst}
use Rattle.std.proofs.lemmas.Bool.{true≢false}
use Rattle.std.specs.Prelude.{if◌then◌else◌, slice_get}
use Rattle.xa_base.proofs.BranchKeys.{branch_eq-refl}
use Rattle.xa_base.specs.Branch.{branch_eq}
use Rattle.xa_base.specs.Standing.{is_in_doubt}
use Rattle.xa_base.specs.StateTable.{Kind, Kind.Commit as Commits, Kind.End as Ends, Kind.Prepare as Prepares, Kind.Rollback as RollsBack, after_end, answer, broken, commit_code, moved, state_of, vote_code}
use Rattle.xa_base.specs.declared.answer.Answer.TheVariants.{Ret}
use Rattle.xa_base.specs.declared.call.Call.TheVariants as Calls
use Rattle.xa_base.specs.declared.code.Code.{Code}
use Rattle.xa_base.specs.declared.code.Code.TheVariants.{Heuristic, NotAnXid, Protocol, RolledBack as VotedNo, Success}
use Rattle.xa_base.specs.declared.code.RbCode.TheVariants.{Rollback}
use Rattle.xa_base.specs.declared.state.Standing.{Standing}
use Rattle.xa_base.specs.declared.state.Standing.TheVariants.{Active, Completed, Idle, Lost, Prepared, RolledBack, Unstarted}
use Rattle.xa_base.specs.declared.vote.Vote.{Vote}
use Rattle.xa_base.specs.declared.vote.Vote.TheVariants.{No, ReadOnly, Yes}
use Rattle.xa_base.specs.HeldBranch.{new_branch}
use Rattle.xa_drivers.proofs.Refused.{start}
use Rattle.xa_drivers.specs.Deeds.{Deeds.Made, Deeds.Nothing, Deeds.Severed, Deeds.Told, Deeds.ToldLost}
use Rattle.xa_drivers.specs.Worked.{CoordinatorsAreMisled, IsMisled, asked, ending, first, listing, recover, prepare_call, commit_call}
use Rattle.xa_model.proofs.Keys.{line_eq-refl}
use Rattle.xa_model.specs.Trace.{Branch, How, Line, Name.Ours, Origin, line_eq, line_of}
use Rattle.xa_monitor.specs.Agreement.{MayAllStand, MayAllStand.AsTold, MayAllStand.CutOff, MayAllStand.EndedAlone, MayAllStand.UnderWay}
use Rattle.xa_monitor.specs.Explained.{HasOnlyOlderRows}
use Rattle.xa_monitor.specs.Seen.{IsHistory.Starts, Seen, Seen.Start, start_with}
use Rattle.xa_monitor.specs.Standings.{Explains, ExplainsIf}

-- by what was told each branch stands somewhere
somewhere : (o : Origin) (seen : Seen) (By : Branch → Standing → Type 0) (done cut : List Line) (f : Branch → Standing)
    → MayAllStand o seen By done cut f → (b : Branch) → (s : Standing) × By b s
somewhere o seen By _ _ _ (AsTold f may) b = (f b, may b)
somewhere o seen By _ _ _ (UnderWay done cut from to l c may has uncut waits was) b = somewhere o seen By done cut from may b
somewhere o seen By _ _ _ (CutOff done cut from to l may final) b = somewhere o seen By done cut from may b
somewhere o seen By _ _ _ (EndedAlone done cut from to d how may was final) b = somewhere o seen By done cut from may b

-- from a standing that isn't prepared only the table's answer is explained
by_table : (f g : Standing) (k : Kind) (a : Code) → Explains f k a g → (f ≡ Prepared → ⊥)
    → (v : Vote) × ((n : ℕ) × (answer k (state_of f) v n ≡ a) × (g ≡ moved f k a))
by_table f g k a x not = by x.alone
  where
    by : (x.as_called ≡ f) ⊎ ((f ≡ Prepared) × ((how : How) × (x.as_called ≡ Completed how)))
        → (v : Vote) × ((n : ℕ) × (answer k (state_of f) v n ≡ a) × (g ≡ moved f k a))
    by (inl same) =
        (x.vote, (x.retries, ap (λ s. answer k (state_of s) x.vote x.retries) (sym same) ∙ x.answers, x.moves ∙ ap (λ s. moved s k a) same))
    by (inr (is, rest)) = absurd (not is)

vote_not : (v : Vote) → vote_code v ≡ NotAnXid → ⊥
vote_not Yes e = cc
vote_not ReadOnly e = cc
vote_not (No c) e = cc

commit_not : (n : ℕ) → commit_code n ≡ NotAnXid → ⊥
commit_not zero e = cc
commit_not (suc n) e = cc

end_lost : (a : Code) → broken (after_end a) ≡ Lost
end_lost (VotedNo c) = refl
end_lost _ = refl

-- nothing waits yet, so no branch is begun
none_begun : (o : Origin) → HasOnlyOlderRows o → (done cut : List Line) (f : Branch → Standing)
    → MayAllStand o Start (λ b s. s ≡ Unstarted) done cut f → (b : Branch) → f b ≡ Unstarted
none_begun o old _ _ _ (AsTold f may) b = may b
none_begun o old _ _ _ (UnderWay done cut from to l c may has uncut waits was) b =
    let none : None ≡ Some c = waits (start_with o (λ r x. new_branch)) (Starts (λ r x. new_branch)) (start o from old) in absurd (cc)
none_begun o old _ _ _ (CutOff done cut from to l may final) b =
    final b ∙ by (line_eq l (line_of b)) (from b) (none_begun o old done cut from may b)
  where
    by : (t : Bool) (s : Standing) → s ≡ Unstarted → (if t then broken s else s) ≡ Unstarted
    by true s e = ap broken e
    by false s e = e
none_begun o old _ _ _ (EndedAlone done cut from to d how may was final) b =
    let never : Unstarted ≡ Prepared = sym (none_begun o old done cut from may d) ∙ was in absurd (cc)

module _ (b : Branch) where
  abbrev l : Line
  l = line_of b

  same : branch_eq b b ≡ true
  same = branch_eq-refl b

  explains : (f g s : Standing) (k : Kind) (a : Code) → f ≡ s → ExplainsIf (branch_eq b b) f k a g → Explains s k a g
  explains f g s k a is x = subst (λ z. Explains z k a g) is (subst (λ t. ExplainsIf t f k a g) same x)

  lost : (f g : Standing) → broken f ≡ Lost → g ≡ (if line_eq l l then broken f else f) → g ≡ Lost
  lost f g is e = e ∙ (ap (λ t. if t then broken f else f) (line_eq-refl l) ∙ is)

  -- a branch that is lost
  commits_not : (f g : Standing) → f ≡ Lost → ExplainsIf (branch_eq b b) f Commits Success g → ⊥
  commits_not f g is x =
      let t = by_table Lost g Commits Success (explains f g Lost Commits Success is x) (λ e. cc) in
      let never : NotAnXid ≡ Success = t.1.1 in cc

  rolls_not : (f g : Standing) → f ≡ Lost → ExplainsIf (branch_eq b b) f RollsBack Success g → ⊥
  rolls_not f g is x =
      let t = by_table Lost g RollsBack Success (explains f g Lost RollsBack Success is x) (λ e. cc) in
      let never : NotAnXid ≡ Success = t.1.1 in cc

  unissued : IsMisled (λ x. Unstarted) (Made Nothing l (Calls.Start b false) (Ret Success))
  unissued = record {
    obey = (tt, (λ i. refl), λ i. (Yes, (0, refl)));
    unexplained = λ o old s.
        let never : Active ≡ Unstarted =
        sym (ap (λ t. if t then Active else Unstarted) same) ∙ none_begun o old s.done s.cut _ s.may b in
        cc;
  }

  gone : IsMisled (λ x. Idle) (Told (Made (Severed (asked ((l, prepare_call b) ∷ [])) l) l (prepare_call b) (Ret NotAnXid)) l (prepare_call b) (Ret NotAnXid))
  gone = record {
    obey = (
      tt,
      (λ i. absurd (let never : ⊥ = cc in never)),
      λ i. (Yes, (0, ap (λ t. answer Prepares (state_of (if t then Lost else Idle)) Yes 0) (line_eq-refl l))),
    );
    unexplained = λ o old s.
        let at = somewhere o _ _ s.done s.cut _ s.may b in
        let t = by_table Idle at.0 Prepares NotAnXid (explains at.1.0 at.0 Idle Prepares NotAnXid at.1.1 at.1.2) (λ e. cc) in
        vote_not t.0 t.1.1;
  }

  elsewhere :
      IsMisled (λ x. Idle)
      (Told (ToldLost (Severed (Made (asked ((first b, Calls.Rollback b) ∷ [])) (first b) (Calls.Rollback b) (Ret Success)) l) l None) (first b) (Calls.Rollback b)
      (Ret Success))
  elsewhere = record {
    obey = (tt, (λ i. refl), λ i. (Yes, (0, refl)));
    unexplained = λ o old s.
        let at = somewhere o _ _ s.done s.cut _ s.may b in
        let was = at.1.1 in
        rolls_not at.1.0 at.0 (lost was.2.0 at.1.0 (ap broken (was.2.1 ∙ was.1)) was.2.2) at.1.2;
  }

  order :
      IsMisled (λ x. Active)
      (Told (Made (Made (asked ((l, prepare_call b) ∷ (l, ending b) ∷ [])) l (ending b) (Ret Success)) l (prepare_call b) (Ret Success)) l (prepare_call b) (Ret Success))
  order = record {
    obey = (
      (tt, (λ i. refl), λ i. (Yes, (0, refl))),
      (λ i. refl),
      λ i. (Yes, (0, ap (λ t. answer Prepares (state_of (if t then Idle else Active)) Yes 0) same)),
    );
    unexplained = λ o old s.
        let at = somewhere o _ _ s.done s.cut _ s.may b in
        let t = by_table Active at.0 Prepares Success (explains at.1.0 at.0 Active Prepares Success at.1.1 at.1.2) (λ e. cc) in
        let never : Protocol ≡ Success = t.1.1 in cc;
  }

  -- xa_end and xa_prepare
  abbrev both : Bool → Standing
  both t = if t then moved (if t then Idle else Active) Prepares Success else (if t then Idle else Active)

  ended : (f g : Standing) → f ≡ Active → (g ≡ f) ⊎ ((a : Code) × ExplainsIf (branch_eq b b) f (Ends false) a g) → broken g ≡ Lost
  ended f g is (inl e) = ap broken (e ∙ is)
  ended f g is (inr (a, x)) =
      let t = by_table Active g (Ends false) a (explains f g Active (Ends false) a is x) (λ e. cc) in
      ap broken t.1.2 ∙ end_lost a

  connected :
      IsMisled (λ x. Active)
      (Told (Made (Made (Made
      (ToldLost (asked ((first b, commit_call b) ∷ (l, prepare_call b) ∷ (l, ending b) ∷ [])) l (Some (ending b))) l (ending b) (Ret Success)) l
      (prepare_call b) (Ret Success)) (first b) (commit_call b) (Ret Success)) (first b) (commit_call b) (Ret Success))
  connected = record {
    obey = (
      (
        (tt, (λ i. refl), λ i. (Yes, (0, refl))),
        (λ i. refl),
        λ i. (Yes, (0, ap (λ t. answer Prepares (state_of (if t then Idle else Active)) Yes 0) same)),
      ),
      (λ i. refl),
      λ i. (Yes, (0, ap (λ t. answer Commits (state_of (both t)) Yes 0) same)),
    );
    unexplained = λ o old s.
        let at = somewhere o _ _ s.done s.cut _ s.may b in
        let was = at.1.1 in
        commits_not at.1.0 at.0 (lost was.2.0 at.1.0 (ended was.0 was.2.0 was.1 was.2.1) was.2.2) at.1.2;
  }

  two_made :
      IsMisled (λ x. Active)
      (Told (Made (ToldLost (Severed (Made (Made (asked ((first b, commit_call b) ∷ (l, prepare_call b) ∷ (l, ending b) ∷ [])) l (ending b)
      (Ret Success)) l (prepare_call b) (Ret Success)) l) l (Some (ending b))) (first b) (commit_call b) (Ret Success)) (first b) (commit_call b) (Ret Success))
  two_made = record {
    obey = (
      (
        (tt, (λ i. refl), λ i. (Yes, (0, refl))),
        (λ i. refl),
        λ i. (Yes, (0, ap (λ t. answer Prepares (state_of (if t then Idle else Active)) Yes 0) same)),
      ),
      (λ i. refl),
      λ i. (
        Yes,
        (
          0,
          ap (λ t. answer Commits (state_of (if t then broken (both (branch_eq b b)) else both (branch_eq b b))) Yes 0) (line_eq-refl l)
              ∙ ap (λ t. answer Commits (state_of (broken (both t))) Yes 0) same,
        ),
      ),
    );
    unexplained = λ o old s.
        let at = somewhere o _ _ s.done s.cut _ s.may b in
        let was = at.1.1 in
        commits_not at.1.0 at.0 (lost was.2.0 at.1.0 (ended was.0 was.2.0 was.1 was.2.1) was.2.2) at.1.2;
  }

  only : (x : Branch) (i : ℕ) → slice_get (Ours b ∷ []) i ≡ Some (Ours x) → b ≡ x
  only x zero e = cc
  only x (suc i) e = absurd (cc)

  page :
      IsMisled (λ x. Idle)
      (Told (Made (Made (asked ((first b, recover) ∷ (l, prepare_call b) ∷ [])) l (prepare_call b) (Ret Success)) (first b) recover (listing b)) (first b) recover (listing b))
  page = record {
    obey = (
      (tt, (λ i. refl), λ i. (Yes, (0, refl))),
      tt,
      λ x is lists.
          let e = only x lists.0 lists.1 in (
            ap (λ (z : Branch). z.rm) (sym e),
            subst (λ z. is_in_doubt (if branch_eq b z then Prepared else Idle) ≡ true) e
                (ap (λ t. is_in_doubt (if t then Prepared else Idle)) same),
          ),
    );
    unexplained = λ o old s.
        let at = somewhere o _ _ s.done s.cut _ s.may b in
        true≢false (sym (at.1.2.1 (0, refl)).1 ∙ ap is_in_doubt at.1.1);
  }

  answer_so :
      IsMisled (λ x. Idle)
      (Told (Made (Told (Made (asked ((first b, commit_call b) ∷ (l, prepare_call b) ∷ [])) l (prepare_call b) (Ret (VotedNo Rollback))) l (prepare_call b) (Ret Success)) (first b) (commit_call b) (Ret NotAnXid))
      (first b) (commit_call b) (Ret NotAnXid))
  answer_so = record {
    obey = (
      (tt, (λ i. absurd (let never : ⊥ = cc in never)), λ i. (No Rollback, (0, refl))),
      (λ i. absurd (let never : ⊥ = cc in never)),
      λ i. (Yes, (0, ap (λ t. answer Commits (state_of (if t then RolledBack else Idle)) Yes 0) same)),
    );
    unexplained = λ o old s.
        let at = somewhere o _ _ s.done s.cut _ s.may b in
        let was = at.1.1 in
        let t = by_table Idle at.1.0 Prepares Success (explains was.0 at.1.0 Idle Prepares Success was.1 was.2) (λ e. cc) in
        neither at.0 (explains at.1.0 at.0 Prepared Commits NotAnXid t.1.2 at.1.2);
  }
    where
      neither : (g : Standing) → Explains Prepared Commits NotAnXid g → ⊥
      neither g x = by x.alone
        where
          by : (x.as_called ≡ Prepared) ⊎ ((Prepared ≡ Prepared) × ((how : How) × (x.as_called ≡ Completed how))) → ⊥
          by (inl e) = commit_not x.retries (sym (ap (λ s. answer Commits (state_of s) x.vote x.retries) e) ∙ x.answers)
          by (inr (is, (how, e))) =
              let never : Heuristic how ≡ NotAnXid = sym (ap (λ s. answer Commits (state_of s) x.vote x.retries) e) ∙ x.answers in cc

pub misled : CoordinatorsAreMisled
misled b = record {
  unissued = unissued b;
  gone = gone b;
  elsewhere = elsewhere b;
  order = order b;
  connected = connected b;
  two_made = two_made b;
  page = page b;
  answer = answer_so b;
}
