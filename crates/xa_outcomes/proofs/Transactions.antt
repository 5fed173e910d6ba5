-- Where the branches of a transaction stand of which a session was told that it is committed, or
-- that it is rolled back.
use Rattle.std.proofs.Common.{◌≡◌, ◌∙◌, ◌⊎◌, inl, inr, ℕ, zero, suc, Bool, true, false, ◌&&◌, ◌||◌, [], ◌∷◌, length, refl, sym, ap, subst}
use Rattle.std.proofs.lemmas.Bool.{and_from, false_from_ne_true, or_left, or_right, true≢false}
use Rattle.std.specs.Prelude.{Option, Some, if◌then◌else◌}
use Rattle.xa_base.proofs.BranchKeys.{branch_eq-refl, branch_eq-true, gtrid_eq-refl, gtrid_eq-true}
use Rattle.xa_base.specs.Branch.{branch_eq, gtrid_eq}
use Rattle.xa_base.specs.StateTable.{answer, broken, commit_kind, moved, state_of}
use Rattle.xa_base.specs.declared.answer.Answer.TheVariants.{Ret}
use Rattle.xa_base.specs.declared.call.Call.TheVariants as Calls
use Rattle.xa_base.specs.declared.code.Code.TheVariants as Codes
use Rattle.xa_base.specs.declared.code.RbCode.{RbCode}
use Rattle.xa_base.specs.declared.state.Standing.{Standing}
use Rattle.xa_base.specs.declared.state.Standing.TheVariants.{Active, Committed, Completed, Forgotten, Idle, Prepared, ReadOnly, RollbackOnly, RolledBack, Unstarted}
use Rattle.xa_base.specs.declared.step.Outcome.{Outcome}
use Rattle.xa_base.specs.declared.step.Outcome.TheVariants as Outcomes
use Rattle.xa_base.specs.declared.step.Part.TheVariants as Part
use Rattle.xa_model.proofs.AgreementLemmas.Alike.{are_alike}
use Rattle.xa_model.proofs.AgreementLemmas.Ends.{final}
use Rattle.xa_model.proofs.Invariant.{HasBegun, IsGood}
use Rattle.xa_model.proofs.Invariant.Grows.{handed_kept, handed_new, told_kept}
use Rattle.xa_model.proofs.Invariant.Now.{closed_decided, closed_handed, started_back}
use Rattle.xa_model.proofs.Invariant.OneMore.{decided_voted}
use Rattle.xa_model.proofs.Invariant.Preservation.{always, begun_is_started, never_started}
use Rattle.xa_model.proofs.Invariant.Rows.{rowed_kept}
use Rattle.xa_model.proofs.ProcessLemmas.SameLogs.{same_listed}
use Rattle.xa_model.specs.Facts.{decided_so, had_row, handed_over, live, log as rows_of, retries, says_read_only, says_yes, says_yes_in, standing, started, vote, was_told}
use Rattle.xa_model.specs.Promises.Agreement.{IsFinal}
use Rattle.xa_model.specs.Promises.Processes.{gone, resumed}
use Rattle.xa_model.specs.Protocol.{AllRight, HasVoted, Right, RightCall, SoundAnswer}
use Rattle.xa_model.specs.Trace.{Answer, Branch, Call, Code, Gtrid, Happening, Happening.Crashed, Happening.Decided, Happening.Heard, Happening.Issued, Happening.ResolvedOpen, Happening.Restarted, Happening.Took, Kind.OnePhase, Line, Origin, Trace, Trace.From, Trace.Then, Vote}
use Rattle.xa_monitor.specs.Across.{continued_by}
use Rattle.xa_monitor.specs.Seen.{IsHistory, IsHistory.Does, IsHistory.Hears, IsHistory.Loses, IsHistory.LosesAnswer, IsHistory.Starts, Seen, Seen.Answered, Seen.Did, Seen.Lost, Seen.Start, break_of}
use Rattle.xa_monitor.specs.Sessions.{AfterSessions, Log}
use Rattle.xa_outcomes.proofs.Decided.{row_of_prepared}
use Rattle.xa_outcomes.proofs.Lasting.{on_alone, right_alone, some_lasts}
use Rattle.xa_outcomes.proofs.OneHistory.{committed_by, gone_so}
use Rattle.xa_outcomes.proofs.Reached.{IsOneHistory, reached}
use Rattle.xa_outcomes.specs.Outcomes.{IsSeenDecided, IsHandedOver}
use Rattle.xa_outcomes.specs.Transactions.{HandedOverIsAlone, IsCommitHeard, IsCommitRefused, IsRollbackDecided, MayStandCommitted, StandsCommitted, TellsCommit, TellsRollback, ToldCommitStands, ToldRollbackStands}

-- ** a standing that stays

stays : (tr : Trace) (e : Happening) (d : Branch) (s : Standing) → AllRight (Then tr e) → IsFinal s → standing tr d ≡ s → standing (Then tr e) d ≡ s
stays tr e d s right last is = final tr (e ∷ []) d right (subst IsFinal (sym is) last) ∙ is

-- a branch of the transaction stands so
record StandsSo (s : Standing) (g : Gtrid) (tr : Trace) : Type 0 where
  branch : Branch
  of : branch.gtrid ≡ g
  stands : standing tr branch ≡ s

stands_step : (s : Standing) → IsFinal s → (g : Gtrid) (tr : Trace) (e : Happening) → AllRight (Then tr e) → StandsSo s g tr → StandsSo s g (Then tr e)
stands_step s last g tr e right q = record { branch = q.branch; of = q.of; stands = stays tr e q.branch s right last q.stands }

-- ** what the answer to an xa_commit tells

-- what answers XA_OK to it is committed then
by_success : (s : Standing) (one_phase : Bool) (v : Vote) (n : ℕ) (code : Code) → code ≡ answer (commit_kind one_phase) (state_of s) v n
    → code ≡ Codes.Success → moved s (commit_kind one_phase) code ≡ Committed
by_success Prepared false v n code e is = ap (moved Prepared (commit_kind false)) is
by_success Idle true v n code e is = ap (moved Idle (commit_kind true)) is
by_success Idle false v n code e is = absurd (cc)
by_success Prepared true v n code e is = absurd (cc)
by_success _ true v n code e is = absurd (cc)
by_success _ false v n code e is = absurd (cc)

-- what answers an XA_RB code is rolled back then
by_refusal : (s : Standing) (one_phase : Bool) (v : Vote) (n : ℕ) (code : Code) (why : RbCode) → code ≡ answer (commit_kind one_phase) (state_of s) v n
    → code ≡ Codes.RolledBack why → moved s (commit_kind one_phase) code ≡ RolledBack
by_refusal Idle true v n code why e is = ap (moved Idle (commit_kind true)) is
by_refusal Prepared false v zero code why e is = absurd (cc)
by_refusal Prepared false v (suc n) code why e is = absurd (cc)
by_refusal Idle false v n code why e is = absurd (cc)
by_refusal Prepared true v n code why e is = absurd (cc)
by_refusal _ true v n code why e is = absurd (cc)
by_refusal _ false v n code why e is = absurd (cc)

-- the answer is so, to an xa_commit of a branch of the transaction
record IsEndAnswer (IsSo : Code → Type 0) (g : Gtrid) (c : Call) (a : Answer) : Type 0 where
  branch : Branch
  of : branch.gtrid ≡ g
  one_phase : Bool
  code : Code
  call : c ≡ Calls.Commit branch one_phase
  answer_is : a ≡ Ret code
  is_so : IsSo code

-- where such an answer leaves the branch that gave it
abbrev EndsSo : (Code → Type 0) → Standing → Type 0
EndsSo IsSo s =
    (from : Standing) (one_phase : Bool) (v : Vote) (n : ℕ) (code : Code) → code ≡ answer (commit_kind one_phase) (state_of from) v n → IsSo code
    → moved from (commit_kind one_phase) code ≡ s

took_commit : (IsSo : Code → Type 0) (s : Standing) → EndsSo IsSo s → (tr : Trace) (l : Line) (d : Branch) (one_phase : Bool) (code : Code) → IsSo code
    → SoundAnswer tr l (Calls.Commit d one_phase) (Ret code) → standing (Then tr (Took l (Calls.Commit d one_phase) (Ret code))) d ≡ s
took_commit IsSo s ends tr l d one_phase code so sound = by (branch_eq d d) (branch_eq-refl d)
  where
    code_is : code ≡ answer (commit_kind one_phase) (state_of (standing tr d)) (vote tr d) (retries tr d)
    code_is = let e : (let a : Answer = Ret code in a) ≡ Ret (answer (commit_kind one_phase) (state_of (standing tr d)) (vote tr d) (retries tr d)) = sound in cc

    by : (t : Bool) → t ≡ true → (if t then moved (standing tr d) (commit_kind one_phase) code else standing tr d) ≡ s
    by true e = ends (standing tr d) one_phase (vote tr d) (retries tr d) code code_is so
    by false e = absurd (true≢false (sym e))

module _ (IsSo : Code → Type 0) (s : Standing) (last : IsFinal s) (ends : EndsSo IsSo s) (g : Gtrid) (Tells : Seen → Type 0)
    (none : Tells Start → ⊥) (before : (seen : Seen) (e : Happening) → Tells (Did seen e) → Tells seen)
    (now : (seen : Seen) (l : Line) (c : Call) (a : Answer) → Tells (Answered seen l c a) → IsEndAnswer IsSo g c a ⊎ Tells seen)
    (lost : (seen : Seen) (l : Line) (c : Option Call) → Tells (Lost seen l c) → Tells seen) where
  heard : (at : Trace) (l : Line) (c : Call) (a : Answer) → AllRight (Then (Then at (Took l c a)) (Heard l c a)) → IsEndAnswer IsSo g c a
      → StandsSo s g (Then (Then at (Took l c a)) (Heard l c a))
  heard at l c a right x =
      stands_step s last g (Then at (Took l c a)) (Heard l c a) right (record {
        branch = x.branch;
        of = x.of;
        stands =
            subst (λ z. standing (Then at z) x.branch ≡ s) (sym took_so)
            (took_commit IsSo s ends at l x.branch x.one_phase x.code x.is_so
            (subst (λ z. SoundAnswer at l z (Ret x.code)) x.call (subst (λ z. SoundAnswer at l c z) x.answer_is right.0.1.1)));
      })
    where
      took_so : Took l c a ≡ Took l (Calls.Commit x.branch x.one_phase) (Ret x.code)
      took_so = ap (λ z. Took l z a) x.call ∙ ap (λ z. Took l (Calls.Commit x.branch x.one_phase) z) x.answer_is

  -- the branch stands so after the session
  ended_so : (p : Trace) (o : Origin) (seen : Seen) (told : Trace) → IsHistory o seen told → AllRight (continued_by p told) → Tells seen
      → StandsSo s g (continued_by p told)
  ended_so p o _ _ (Starts held) right t = absurd (none t)
  ended_so p o _ _ (Does seen tr e i) right t = stands_step s last g (continued_by p tr) e right (ended_so p o seen tr i right.0 (before seen e t))
  ended_so p o _ _ (Hears seen tr at l c a i alone) right t = by (ended_so p o seen tr i (right_alone p tr at alone right.0.0)) (now seen l c a t)
    where
      by : (Tells seen → StandsSo s g (continued_by p tr)) → IsEndAnswer IsSo g c a ⊎ Tells seen
          → StandsSo s g (Then (Then (continued_by p at) (Took l c a)) (Heard l c a))
      by rest (inl x) = heard (continued_by p at) l c a right x
      by rest (inr earlier) =
          stands_step s last g (Then (continued_by p at) (Took l c a)) (Heard l c a) right
          (stands_step s last g (continued_by p at) (Took l c a) right.0
          (on_alone (StandsSo s g) (stands_step s last g) p tr at alone right.0.0 (rest earlier)))
  ended_so p o _ _ (Loses seen tr l c i) right t = stands_step s last g (continued_by p tr) (break_of l) right (ended_so p o seen tr i right.0 (lost seen l c t))
  ended_so p o _ _ (LosesAnswer seen tr at l c a i alone) right t =
      stands_step s last g (Then (continued_by p at) (Took l c a)) (break_of l) right
      (stands_step s last g (continued_by p at) (Took l c a) right.0
      (on_alone (StandsSo s g) (stands_step s last g) p tr at alone right.0.0
      (ended_so p o seen tr i (right_alone p tr at alone right.0.0) (lost seen l (Some c) t))))

-- ** of these two

abbrev IsSuccess : Code → Type 0
IsSuccess code = code ≡ Codes.Success

abbrev IsRefusal : Code → Type 0
IsRefusal code = (why : RbCode) × (code ≡ Codes.RolledBack why)

heard_now : (g : Gtrid) (seen : Seen) (l : Line) (c : Call) (a : Answer) → IsCommitHeard g (Answered seen l c a)
    → IsEndAnswer IsSuccess g c a ⊎ IsCommitHeard g seen
heard_now g seen l (Calls.Commit b one_phase) (Ret Codes.Success) (inl t) =
    inl (record { branch = b; of = gtrid_eq-true b.gtrid g t; one_phase = one_phase; code = Codes.Success; call = refl; answer_is = refl; is_so = refl })
heard_now g seen l (Calls.Commit b one_phase) (Ret Codes.Success) (inr t) = inr t
heard_now g seen l _ _ t = inr t

refused_now : (g : Gtrid) (seen : Seen) (l : Line) (c : Call) (a : Answer) → IsCommitRefused g (Answered seen l c a)
    → IsEndAnswer IsRefusal g c a ⊎ IsCommitRefused g seen
refused_now g seen l (Calls.Commit b one_phase) (Ret (Codes.RolledBack why)) (inl t) =
    inl (record {
      branch = b;
      of = gtrid_eq-true b.gtrid g t;
      one_phase = one_phase;
      code = Codes.RolledBack why;
      call = refl;
      answer_is = refl;
      is_so = (why, refl);
    })
refused_now g seen l (Calls.Commit b one_phase) (Ret (Codes.RolledBack why)) (inr t) = inr t
refused_now g seen l _ _ t = inr t

heard_so : (g : Gtrid) (p : Trace) (o : Origin) (seen : Seen) (told : Trace) → IsHistory o seen told → AllRight (continued_by p told) → IsCommitHeard g seen
    → StandsSo Committed g (continued_by p told)
heard_so g =
    ended_so IsSuccess Committed tt by_success g (IsCommitHeard g) (λ t. t) (λ seen e t. t) (heard_now g) (λ seen l c t. t)

refused_so : (g : Gtrid) (p : Trace) (o : Origin) (seen : Seen) (told : Trace) → IsHistory o seen told → AllRight (continued_by p told)
    → IsCommitRefused g seen → StandsSo RolledBack g (continued_by p told)
refused_so g =
    ended_so IsRefusal RolledBack tt (λ from one v n code e so. by_refusal from one v n code so.0 e so.1) g (IsCommitRefused g) (λ t. t) (λ seen e t. t)
    (refused_now g) (λ seen l c t. t)

-- ** decided

decided_kept : (tr : Trace) (e : Happening) (o : Outcome) (g : Gtrid) → decided_so o tr g ≡ true → decided_so o (Then tr e) g ≡ true
decided_kept tr (Decided h Outcomes.Commit) Outcomes.Commit g k = or_right _ _ k
decided_kept tr (Decided h Outcomes.Rollback) Outcomes.Rollback g k = or_right _ _ k
decided_kept tr (ResolvedOpen r) Outcomes.Rollback g k = or_right _ _ k
decided_kept tr _ Outcomes.Commit g k = k
decided_kept tr _ Outcomes.Rollback g k = k

-- each branch of a transaction that was decided to commit has voted for it
record IsCommitMade (g : Gtrid) (tr : Trace) : Type 0 where
  decided : decided_so Outcomes.Commit tr g ≡ true
  each : (b : Branch) → b.gtrid ≡ g → started tr b ≡ true → (had_row tr g ≡ true) ⊎ (was_told tr (says_read_only b) ≡ true)

made_step : (g : Gtrid) (tr : Trace) (e : Happening) → AllRight (Then tr e) → IsCommitMade g tr → IsCommitMade g (Then tr e)
made_step g tr e right made = record {
  decided = decided_kept tr e Outcomes.Commit g made.decided;
  each = λ b same now. by b (made.each b same (started_back tr e b right.1 (over b same) now));
}
  where
    over : (b : Branch) → b.gtrid ≡ g → live tr b.gtrid ≡ false
    over b same = ap (live tr) same ∙ (closed_decided tr Outcomes.Commit g (always tr right.0) made.decided).not_live

    by : (b : Branch) → (had_row tr g ≡ true) ⊎ (was_told tr (says_read_only b) ≡ true)
        → (had_row (Then tr e) g ≡ true) ⊎ (was_told (Then tr e) (says_read_only b) ≡ true)
    by b (inl had) = inl (rowed_kept tr e g had)
    by b (inr only) = inr (told_kept tr e (says_read_only b) only)

yes_too : (b : Branch) (c : Call) (a : Answer) → says_yes b c a ≡ true → says_yes_in b.gtrid c a ≡ true
yes_too b (Calls.Prepare c) (Ret Codes.Success) e = ap (λ (z : Branch). gtrid_eq z.gtrid b.gtrid) (branch_eq-true c b e) ∙ gtrid_eq-refl b.gtrid
yes_too b _ _ e = absurd (true≢false (sym e))

yes_in : (tr : Trace) (b : Branch) → was_told tr (says_yes b) ≡ true → was_told tr (says_yes_in b.gtrid) ≡ true
yes_in (From o) b e = absurd (true≢false (sym e))
yes_in (Then tr (Heard l c a)) b e = by (yes_in tr b) (says_yes b c a) refl e
  where
    by : (was_told tr (says_yes b) ≡ true → was_told tr (says_yes_in b.gtrid) ≡ true) → (t : Bool) → says_yes b c a ≡ t
        → (t || was_told tr (says_yes b)) ≡ true → (says_yes_in b.gtrid c a || was_told tr (says_yes_in b.gtrid)) ≡ true
    by rest true is e = or_left _ _ (yes_too b c a is)
    by rest false is e = or_right _ _ (rest e)
yes_in (Then tr _) b e = yes_in tr b e

commit_made : (g : Gtrid) (tr : Trace) → AllRight (Then tr (Decided g Outcomes.Commit)) → IsCommitMade g (Then tr (Decided g Outcomes.Commit))
commit_made g tr right = record {
  decided = or_left _ _ (gtrid_eq-refl g);
  each = λ b same now. by b same (decided_voted tr g (always tr right.0) right.1 b same now);
}
  where
    by : (b : Branch) → b.gtrid ≡ g → HasVoted tr b
        → (((gtrid_eq g g && was_told tr (says_yes_in g)) || had_row tr g) ≡ true) ⊎ (was_told tr (says_read_only b) ≡ true)
    by b same (inl said) =
        inl (or_left _ _ (and_from _ _ (gtrid_eq-refl g) (subst (λ z. was_told tr (says_yes_in z) ≡ true) same (yes_in tr b said))))
    by b same (inr only) = inr only

-- none was handed over of a transaction that was decided to roll back
record IsRollbackMade (g : Gtrid) (tr : Trace) : Type 0 where
  decided : decided_so Outcomes.Rollback tr g ≡ true
  kept : handed_over tr g ≡ false

undone_step : (g : Gtrid) (tr : Trace) (e : Happening) → AllRight (Then tr e) → IsRollbackMade g tr → IsRollbackMade g (Then tr e)
undone_step g tr e right made = record {
  decided = decided_kept tr e Outcomes.Rollback g made.decided;
  kept = false_from_ne_true _ (λ h. by (handed_new tr e g h));
}
  where
    over : live tr g ≡ false
    over = (closed_decided tr Outcomes.Rollback g (always tr right.0) made.decided).not_live

    by : (handed_over tr g ≡ true) ⊎ ((l : Line) × (b : Branch) × (e ≡ Issued l (Calls.Commit b true)) × (b.gtrid ≡ g)) → ⊥
    by (inl before) = true≢false (sym before ∙ made.kept)
    by (inr (l, b, is, same)) =
        let call : RightCall tr l OnePhase b = (subst (Right tr) is right.1).1 in true≢false (sym call.may_be.0.is_live ∙ (ap (live tr) same ∙ over))

rollback_made : (g : Gtrid) (tr : Trace) → AllRight (Then tr (Decided g Outcomes.Rollback)) → IsRollbackMade g (Then tr (Decided g Outcomes.Rollback))
rollback_made g tr right = record {
  decided = or_left _ _ (gtrid_eq-refl g);
  kept = false_from_ne_true _ (λ h. true≢false (sym right.1.is_live ∙ (closed_handed tr g (always tr right.0) h).not_live));
}

module _ (o : Outcome) (Made : Gtrid → Trace → Type 0) (step : (g : Gtrid) (tr : Trace) (e : Happening) → AllRight (Then tr e) → Made g tr → Made g (Then tr e))
    (makes : (g : Gtrid) (tr : Trace) → AllRight (Then tr (Decided g o)) → Made g (Then tr (Decided g o))) (g : Gtrid) (Tells : Seen → Type 0)
    (none : Tells Start → ⊥) (now : (seen : Seen) (e : Happening) → Tells (Did seen e) → (e ≡ Decided g o) ⊎ Tells seen)
    (before : (seen : Seen) (l : Line) (c : Call) (a : Answer) → Tells (Answered seen l c a) → Tells seen)
    (lost : (seen : Seen) (l : Line) (c : Option Call) → Tells (Lost seen l c) → Tells seen) where
  -- a decision that a session made stands after it
  made_so : (p : Trace) (from : Origin) (seen : Seen) (told : Trace) → IsHistory from seen told → AllRight (continued_by p told) → Tells seen
      → Made g (continued_by p told)
  made_so p from _ _ (Starts held) right t = absurd (none t)
  made_so p from _ _ (Does seen tr e i) right t = by (made_so p from seen tr i right.0) (now seen e t)
    where
      by : (Tells seen → Made g (continued_by p tr)) → (e ≡ Decided g o) ⊎ Tells seen → Made g (Then (continued_by p tr) e)
      by rest (inl is) =
          subst (λ z. Made g (Then (continued_by p tr) z)) (sym is)
          (makes g (continued_by p tr) (subst (λ z. AllRight (Then (continued_by p tr) z)) is right))
      by rest (inr earlier) = step g (continued_by p tr) e right (rest earlier)
  made_so p from _ _ (Hears seen tr at l c a i alone) right t =
      step g (Then (continued_by p at) (Took l c a)) (Heard l c a) right
      (step g (continued_by p at) (Took l c a) right.0
      (on_alone (Made g) (step g) p tr at alone right.0.0 (made_so p from seen tr i (right_alone p tr at alone right.0.0) (before seen l c a t))))
  made_so p from _ _ (Loses seen tr l c i) right t = step g (continued_by p tr) (break_of l) right (made_so p from seen tr i right.0 (lost seen l c t))
  made_so p from _ _ (LosesAnswer seen tr at l c a i alone) right t =
      step g (Then (continued_by p at) (Took l c a)) (break_of l) right
      (step g (continued_by p at) (Took l c a) right.0
      (on_alone (Made g) (step g) p tr at alone right.0.0
      (made_so p from seen tr i (right_alone p tr at alone right.0.0) (lost seen l (Some c) t))))

commit_now : (g : Gtrid) (seen : Seen) (e : Happening) → IsSeenDecided g (Did seen e) → (e ≡ Decided g Outcomes.Commit) ⊎ IsSeenDecided g seen
commit_now g seen (Decided h Outcomes.Commit) (inl t) = inl (ap (λ z. Decided z Outcomes.Commit) (gtrid_eq-true h g t))
commit_now g seen (Decided h Outcomes.Commit) (inr t) = inr t
commit_now g seen _ t = inr t

rollback_now : (g : Gtrid) (seen : Seen) (e : Happening) → IsRollbackDecided g (Did seen e) → (e ≡ Decided g Outcomes.Rollback) ⊎ IsRollbackDecided g seen
rollback_now g seen (Decided h Outcomes.Rollback) (inl t) = inl (ap (λ z. Decided z Outcomes.Rollback) (gtrid_eq-true h g t))
rollback_now g seen (Decided h Outcomes.Rollback) (inr t) = inr t
rollback_now g seen _ t = inr t

-- ** committed

-- the transaction was decided to commit, or a branch of it is committed
abbrev IsCommit : Gtrid → Trace → Type 0
IsCommit g tr = IsCommitMade g tr ⊎ StandsSo Committed g tr

commit_step : (g : Gtrid) (tr : Trace) (e : Happening) → AllRight (Then tr e) → IsCommit g tr → IsCommit g (Then tr e)
commit_step g tr e right (inl made) = inl (made_step g tr e right made)
commit_step g tr e right (inr ended) = inr (stands_step Committed tt g tr e right ended)

commit_so : (g : Gtrid) (p : Trace) (o : Origin) (seen : Seen) (told : Trace) → IsHistory o seen told → AllRight (continued_by p told) → TellsCommit g seen
    → IsCommit g (continued_by p told)
commit_so g p o seen told i right (inl t) =
    inl (made_so Outcomes.Commit IsCommitMade made_step commit_made g (IsSeenDecided g) (λ t. t) (commit_now g) (λ seen l c a t. t) (λ seen l c t. t)
    p o seen told i right t)
commit_so g p o seen told i right (inr t) = inr (heard_so g p o seen told i right t)

-- then each branch that was started has the row, or only read, or is committed
abbrev IsOfCommit : Trace → Gtrid → Branch → Type 0
IsOfCommit tr g b = (had_row tr g ≡ true) ⊎ ((standing tr b ≡ ReadOnly) ⊎ (standing tr b ≡ Committed))

of_commit : (g : Gtrid) (tr : Trace) → AllRight tr → IsCommit g tr → (b : Branch) → b.gtrid ≡ g → started tr b ≡ true → IsOfCommit tr g b
of_commit g tr right (inl made) b same now = by (made.each b same now)
  where
    by : (had_row tr g ≡ true) ⊎ (was_told tr (says_read_only b) ≡ true) → IsOfCommit tr g b
    by (inl had) = inl had
    by (inr only) = inr (inl ((always tr right).voted_read_only b only))
of_commit g tr right (inr ended) b same now = by (committed_by tr right ended.branch ended.stands)
  where
    there : started tr ended.branch ≡ true
    there = begun_is_started tr ended.branch right (subst HasBegun (sym ended.stands) tt)

    by : (had_row tr ended.branch.gtrid ≡ true) ⊎ (handed_over tr ended.branch.gtrid ≡ true) → IsOfCommit tr g b
    by (inl had) = inl (subst (λ z. had_row tr z ≡ true) ended.of had)
    by (inr handed) =
        inr (inr (ap (standing tr) (sym ((always tr right).handed_one ended.branch b handed (same ∙ sym ended.of) there now)) ∙ ended.stands))

good_of : (g : Gtrid) (tr : Trace) → AllRight tr → (b : Branch) → b.gtrid ≡ g → started tr b ≡ true → IsOfCommit tr g b → IsGood (standing tr b)
good_of g tr right b same now (inl had) = ((always tr right).rows g had).good b same now
good_of g tr right b same now (inr (inl only)) = subst IsGood (sym only) tt
good_of g tr right b same now (inr (inr committed)) = subst IsGood (sym committed) tt

good_stands : (s : Standing) → IsGood s → MayStandCommitted s
good_stands Prepared h = tt
good_stands (Completed how) h = tt
good_stands Committed h = tt
good_stands ReadOnly h = tt
good_stands (Forgotten how) h = tt
good_stands _ h = absurd h

abbrev IsNotPrepared : Standing → Type 0
IsNotPrepared Prepared = ⊥
IsNotPrepared _ = Unit

whole_stands : (s : Standing) → MayStandCommitted (broken s) → MayStandCommitted s
whole_stands Active h = absurd h
whole_stands Idle h = absurd h
whole_stands RollbackOnly h = absurd h
whole_stands s h = h

module _ (log : Log) (f : Branch → Standing) (after : AfterSessions log f) (m : IsOneHistory log f after) (g : Gtrid) (is : IsCommit g m.whole) where
  all_gone : AllRight (gone m.whole)
  all_gone = gone_so log f after m

  here : IsCommit g (gone m.whole)
  here = commit_step g m.whole (Crashed Part.Manager) all_gone is

  stands_there : (b : Branch) → b.gtrid ≡ g → MayStandCommitted (standing (gone m.whole) b)
  stands_there b same = by (started (gone m.whole) b) refl
    where
      by : (t : Bool) → started (gone m.whole) b ≡ t → MayStandCommitted (standing (gone m.whole) b)
      by true now =
          good_stands (standing (gone m.whole) b)
          (good_of g (gone m.whole) all_gone b same now (of_commit g (gone m.whole) all_gone here b same now))
      by false never = subst MayStandCommitted (sym (never_started (gone m.whole) b all_gone never)) tt

  had_there : (b : Branch) → b.gtrid ≡ g → standing (gone m.whole) b ≡ Prepared → had_row (gone m.whole) g ≡ true
  had_there b same prepared =
      by (of_commit g (gone m.whole) all_gone here b same (begun_is_started (gone m.whole) b all_gone (subst HasBegun (sym prepared) tt)))
    where
      by : IsOfCommit (gone m.whole) g b → had_row (gone m.whole) g ≡ true
      by (inl had) = had
      by (inr (inl only)) = absurd (subst (λ s. IsNotPrepared s) prepared (subst (λ s. IsNotPrepared s) (sym only) tt))
      by (inr (inr committed)) = absurd (subst (λ s. IsNotPrepared s) prepared (subst (λ s. IsNotPrepared s) (sym committed) tt))

  commit_stands_there : StandsCommitted log f g
  commit_stands_there = record {
    each = λ b same. whole_stands (f b) (subst MayStandCommitted (m.there b) (stands_there b same));
    row_stays = λ b next same prepared finds.
        let found = m.finds next finds in
        let there = m.there b ∙ ap broken prepared in
        same_listed next.rows (rows_of (resumed m.whole next)) found.rows g
        ∙ row_of_prepared (resumed m.whole next) b g (all_gone, (refl, found.later, found.rows.number, found.records.number)) same
        (rowed_kept (gone m.whole) (Restarted next.incarnation (length next.rows) (length next.heuristic_rows)) g (had_there b same there)) there;
  }

pub commit_stands : ToldCommitStands
commit_stands log f after g was =
    let m = reached log f after in
    commit_stands_there log f after m g
    (some_lasts (TellsCommit g) (IsCommit g) (commit_step g) (λ p o seen told i right t. commit_so g p o seen told i right t)
    log f after m.whole m.parts m.right was)

-- ** rolled back

-- the transaction was decided to roll back, or a branch of it is rolled back
abbrev IsRollback : Gtrid → Trace → Type 0
IsRollback g tr = IsRollbackMade g tr ⊎ StandsSo RolledBack g tr

rollback_step : (g : Gtrid) (tr : Trace) (e : Happening) → AllRight (Then tr e) → IsRollback g tr → IsRollback g (Then tr e)
rollback_step g tr e right (inl made) = inl (undone_step g tr e right made)
rollback_step g tr e right (inr ended) = inr (stands_step RolledBack tt g tr e right ended)

rollback_so : (g : Gtrid) (p : Trace) (o : Origin) (seen : Seen) (told : Trace) → IsHistory o seen told → AllRight (continued_by p told)
    → TellsRollback g seen → IsRollback g (continued_by p told)
rollback_so g p o seen told i right (inl t) =
    inl (made_so Outcomes.Rollback IsRollbackMade undone_step rollback_made g (IsRollbackDecided g) (λ t. t) (rollback_now g) (λ seen l c a t. t)
    (λ seen l c t. t) p o seen told i right t)
rollback_so g p o seen told i right (inr t) = inr (refused_so g p o seen told i right t)

none_committed : (g : Gtrid) (tr : Trace) → AllRight tr → IsRollback g tr → (b : Branch) → b.gtrid ≡ g → standing tr b ≡ Committed → ⊥
none_committed g tr right (inl made) b same e = by (committed_by tr right b e)
  where
    by : (had_row tr b.gtrid ≡ true) ⊎ (handed_over tr b.gtrid ≡ true) → ⊥
    by (inl had) = true≢false (sym made.decided ∙ (ap (decided_so Outcomes.Rollback tr) (sym same) ∙ ((always tr right).rows b.gtrid had).not_rolled_back))
    by (inr handed) = true≢false (sym handed ∙ (ap (handed_over tr) same ∙ made.kept))
none_committed g tr right (inr ended) b same e = are_alike tr right b ended.branch (same ∙ sym ended.of) e (inl ended.stands)

pub rollback_stands : ToldRollbackStands
rollback_stands log f after g was = λ b same e.
    let m = reached log f after in
    let all_gone = gone_so log f after m in
    none_committed g (gone m.whole) all_gone
    (rollback_step g m.whole (Crashed Part.Manager) all_gone
    (some_lasts (TellsRollback g) (IsRollback g) (rollback_step g) (λ p o seen told i right t. rollback_so g p o seen told i right t)
    log f after m.whole m.parts m.right was))
    b same (m.there b ∙ ap broken e)

-- ** handed over

handed_step : (g : Gtrid) (tr : Trace) (e : Happening) → AllRight (Then tr e) → handed_over tr g ≡ true → handed_over (Then tr e) g ≡ true
handed_step g tr e right h = handed_kept tr e g h

-- what is seen of it where the manager did this
handed_now : (g : Gtrid) (seen : Seen) (e : Happening) → IsHandedOver g (Did seen e)
    → ((l : Line) × (b : Branch) × (e ≡ Issued l (Calls.Commit b true)) × (gtrid_eq b.gtrid g ≡ true)) ⊎ IsHandedOver g seen
handed_now g seen (Issued l (Calls.Commit b true)) (inl t) = inl (l, b, refl, t)
handed_now g seen (Issued l (Calls.Commit b true)) (inr t) = inr t
handed_now g seen _ t = inr t

handed_so : (g : Gtrid) (p : Trace) (o : Origin) (seen : Seen) (told : Trace) → IsHistory o seen told → AllRight (continued_by p told) → IsHandedOver g seen
    → handed_over (continued_by p told) g ≡ true
handed_so g p o _ _ (Starts held) right t = absurd t
handed_so g p o _ _ (Does seen tr e i) right t = by (handed_so g p o seen tr i right.0) (handed_now g seen e t)
  where
    by : (IsHandedOver g seen → handed_over (continued_by p tr) g ≡ true)
        → ((l : Line) × (b : Branch) × (e ≡ Issued l (Calls.Commit b true)) × (gtrid_eq b.gtrid g ≡ true)) ⊎ IsHandedOver g seen
        → handed_over (Then (continued_by p tr) e) g ≡ true
    by rest (inl (l, b, is, same)) =
        ap (λ z. handed_over (Then (continued_by p tr) z) g) is ∙ or_left (gtrid_eq b.gtrid g) (handed_over (continued_by p tr) g) same
    by rest (inr earlier) = handed_kept (continued_by p tr) e g (rest earlier)
handed_so g p o _ _ (Hears seen tr at l c a i alone) right t =
    on_alone (λ z. handed_over z g ≡ true) (handed_step g) p tr at alone right.0.0 (handed_so g p o seen tr i (right_alone p tr at alone right.0.0) t)
handed_so g p o _ _ (Loses seen tr l c i) right t = handed_so g p o seen tr i right.0 t
handed_so g p o _ _ (LosesAnswer seen tr at l c a i alone) right t =
    on_alone (λ z. handed_over z g ≡ true) (handed_step g) p tr at alone right.0.0 (handed_so g p o seen tr i (right_alone p tr at alone right.0.0) t)

unstarted_whole : (s : Standing) → broken s ≡ Unstarted → s ≡ Unstarted
unstarted_whole Active e = absurd (cc)
unstarted_whole Idle e = absurd (cc)
unstarted_whole RollbackOnly e = absurd (cc)
unstarted_whole s e = e

pub handed_alone : HandedOverIsAlone
handed_alone log f after g was = λ b c of_b of_c begun_b begun_c.
    (always (gone m.whole) all_gone).handed_one b c (ap (handed_over (gone m.whole)) of_b ∙ handed) (of_c ∙ sym of_b) (there b begun_b) (there c begun_c)
  where
    m : IsOneHistory log f after
    m = reached log f after

    all_gone : AllRight (gone m.whole)
    all_gone = gone_so log f after m

    handed : handed_over (gone m.whole) g ≡ true
    handed =
        some_lasts (IsHandedOver g) (λ z. handed_over z g ≡ true) (handed_step g) (λ p o seen told i right t. handed_so g p o seen told i right t)
        log f after m.whole m.parts m.right was

    there : (b : Branch) → (f b ≡ Unstarted → ⊥) → started (gone m.whole) b ≡ true
    there b begun = by (started (gone m.whole) b) refl
      where
        by : (t : Bool) → started (gone m.whole) b ≡ t → t ≡ true
        by true now = refl
        by false never = absurd (begun (unstarted_whole (f b) (sym (m.there b) ∙ never_started (gone m.whole) b all_gone never)))
