-- Refusals are needed: in each of these histories one step was accepted where its history forces a refusal, all other replies are
-- the demanded ones, and agreement is lost.
use Rattle.std.proofs.Common.{◌≡◌, pos, List, [], ◌∷◌, ◌++◌, true, false, refl}
use Rattle.std.specs.Prelude.{Some}
use mathlib.Core.Logic.{◌⊎◌.inl, ◌⊎◌.inr}
use Rattle.xa_base.specs.declared.code.Code.TheVariants as Codes
use Rattle.xa_base.specs.declared.state.Standing.TheVariants as Standing
use Rattle.xa_base.specs.declared.step.Outcome.TheVariants as Outcome
use Rattle.xa_base.specs.declared.step.Part.TheVariants as Part
use Rattle.xa_base.specs.declared.step.Side.TheVariants as Side
use Rattle.xa_model.specs.Promises.Agreement.{ends, AreAlike}
use Rattle.xa_model.specs.Replies.Allowed.{with_steps, AllAllowed}
use Rattle.xa_model.specs.Facts.{ever}
use Rattle.xa_model.specs.Replies.Rules.{must_refuse}
use Rattle.xa_base.specs.declared.reply.Reply.TheVariants as Replies
use Rattle.xa_base.specs.declared.step.Step.TheVariants as Steps
use Rattle.xa_model.specs.Replies.Steps.{Step, Reply, Refusal}
use Rattle.xa_base.specs.declared.call.Call.TheVariants as Calls
use Rattle.xa_base.specs.declared.answer.Answer.TheVariants.{Ret, Page}
use Rattle.xa_model.specs.Trace.{Name.Ours, Origin, Trace, Trace.From}
use Rattle.xa_model.proofs.Replies.ComputedReplies.{computed}
use Rattle.xa_model.proofs.WorkedHistories.{fresh, gtrid, own, asking, once, answered, called, ready, scanned}

-- the history with a wrong reply in the middle
abbrev ended : Origin → List (Step × Reply) → Step × Reply → List (Step × Reply) → Trace
ended o before wrong later = with_steps (From o) (before ++ wrong ∷ later)

-- each reply is the demanded one but that in the middle, where the history forces this refusal
record IsWrongOnce (o : Origin) (n : Refusal) (xs : List (Step × Reply)) (wrong : Step × Reply) (ys : List (Step × Reply)) : Type 0 where
  before : AllAllowed (From o) xs
  forced : must_refuse (with_steps (From o) xs) wrong.0 ≡ Some n
  later : AllAllowed (with_steps (From o) (xs ++ wrong ∷ [])) ys

-- A decision of a transaction of an older incarnation: one branch was rolled back before it, the other is committed.
abbrev decided_unknown_before : List (Step × Reply)
decided_unknown_before =
    once (Steps.Begin 0) (Replies.Begun (gtrid 1 1))
    ++ ready 0 (own 1 0 0)
    ++ ready 1 (own 1 0 1)
    ++ called 0 0 (Calls.Prepare (own 1 0 0)) (Ret Codes.Success)
    ++ called 0 1 (Calls.Prepare (own 1 0 1)) (Ret Codes.Success)
    ++ once (Steps.Crash Part.Manager) Replies.Crashed
    ++ once (Steps.Restart Side.Manager) (Replies.Restarted 2 0 0)
    ++ called 0 0 Calls.OpenRm (Ret Codes.Success)
    ++ scanned 0 (pos 8) true true (Page (Ours (own 1 0 0) ∷ []))
    ++ once (Steps.Resolve 0) (Replies.Resolved 1)
    ++ answered 0 0 (Calls.Rollback (own 1 0 0)) (Ret Codes.Success)

abbrev decided_unknown_wrong : Step × Reply
decided_unknown_wrong = (Steps.Decide (gtrid 1 1) Outcome.Commit, Replies.Decided)

abbrev decided_unknown_later : List (Step × Reply)
decided_unknown_later =
    called 0 1 Calls.OpenRm (Ret Codes.Success)
    ++ scanned 1 (pos 8) true true (Page (Ours (own 1 0 1) ∷ []))
    ++ once (Steps.Resolve 1) (Replies.Resolved 1)
    ++ answered 0 1 (Calls.Commit (own 1 0 1) false) (Ret Codes.Success)

decided_unknown : IsWrongOnce (fresh 1 2) Refusal.UnknownTransaction decided_unknown_before decided_unknown_wrong decided_unknown_later
decided_unknown = record { before = computed _ decided_unknown_before refl; forced = refl; later = computed _ decided_unknown_later refl }

decided_unknown-unlike : AreAlike (ended (fresh 1 2) decided_unknown_before decided_unknown_wrong decided_unknown_later) → ⊥
decided_unknown-unlike = λ h. h (own 1 0 1) (own 1 0 0) refl refl (inl refl)

-- A branch that is started twice is lost twice.
abbrev started_twice_before : List (Step × Reply)
started_twice_before =
    once (Steps.Begin 0) (Replies.Begun (gtrid 1 1))
    ++ called 0 0 Calls.OpenRm (Ret Codes.Success)
    ++ called 0 0 (Calls.Start (own 1 0 0) false) (Ret Codes.Success)
    ++ once (Steps.Crash (Part.Line 0 0)) Replies.Crashed
    ++ called 0 0 Calls.OpenRm (Ret Codes.Success)

abbrev started_twice_wrong : Step × Reply
started_twice_wrong = (Steps.Issue 0 0 (asking (Calls.Start (own 1 0 0) false)), Replies.Issued)

abbrev started_twice_later : List (Step × Reply)
started_twice_later =
    answered 0 0 (Calls.Start (own 1 0 0) false) (Ret Codes.Success)
    ++ once (Steps.Crash (Part.Line 0 0)) Replies.Crashed

started_twice : IsWrongOnce (fresh 1 1) Refusal.AlreadyStarted started_twice_before started_twice_wrong started_twice_later
started_twice = record { before = computed _ started_twice_before refl; forced = refl; later = computed _ started_twice_later refl }

started_twice-ends : ends (ended (fresh 1 1) started_twice_before started_twice_wrong started_twice_later) (own 1 0 0) ≡ Standing.Lost ∷ Standing.Lost ∷ []
started_twice-ends = refl

-- A transaction that is decided twice: one branch is rolled back, the other committed.
abbrev decided_twice_before : List (Step × Reply)
decided_twice_before =
    once (Steps.Begin 0) (Replies.Begun (gtrid 1 1))
    ++ ready 0 (own 1 0 0)
    ++ ready 1 (own 1 0 1)
    ++ called 0 0 (Calls.Prepare (own 1 0 0)) (Ret Codes.Success)
    ++ called 0 1 (Calls.Prepare (own 1 0 1)) (Ret Codes.Success)
    ++ once (Steps.Decide (gtrid 1 1) Outcome.Rollback) Replies.Decided
    ++ called 0 0 (Calls.Rollback (own 1 0 0)) (Ret Codes.Success)

abbrev decided_twice_wrong : Step × Reply
decided_twice_wrong = (Steps.Decide (gtrid 1 1) Outcome.Commit, Replies.Decided)

abbrev decided_twice_later : List (Step × Reply)
decided_twice_later =
    called 0 1 (Calls.Commit (own 1 0 1) false) (Ret Codes.Success)

decided_twice : IsWrongOnce (fresh 1 2) Refusal.Decided decided_twice_before decided_twice_wrong decided_twice_later
decided_twice = record { before = computed _ decided_twice_before refl; forced = refl; later = computed _ decided_twice_later refl }

decided_twice-unlike : AreAlike (ended (fresh 1 2) decided_twice_before decided_twice_wrong decided_twice_later) → ⊥
decided_twice-unlike = λ h. h (own 1 0 1) (own 1 0 0) refl refl (inl refl)

-- A commit without a row: the other branch is rolled back.
abbrev committed_undecided_before : List (Step × Reply)
committed_undecided_before =
    once (Steps.Begin 0) (Replies.Begun (gtrid 1 1))
    ++ ready 0 (own 1 0 0)
    ++ ready 1 (own 1 0 1)
    ++ called 0 0 (Calls.Prepare (own 1 0 0)) (Ret Codes.Success)
    ++ called 0 1 (Calls.Prepare (own 1 0 1)) (Ret Codes.Success)

abbrev committed_undecided_wrong : Step × Reply
committed_undecided_wrong = (Steps.Issue 0 0 (asking (Calls.Commit (own 1 0 0) false)), Replies.Issued)

abbrev committed_undecided_later : List (Step × Reply)
committed_undecided_later =
    answered 0 0 (Calls.Commit (own 1 0 0) false) (Ret Codes.Success)
    ++ once (Steps.Decide (gtrid 1 1) Outcome.Rollback) Replies.Decided
    ++ called 0 1 (Calls.Rollback (own 1 0 1)) (Ret Codes.Success)

committed_undecided : IsWrongOnce (fresh 1 2) Refusal.NotDecided committed_undecided_before committed_undecided_wrong committed_undecided_later
committed_undecided = record { before = computed _ committed_undecided_before refl; forced = refl; later = computed _ committed_undecided_later refl }

committed_undecided-unlike : AreAlike (ended (fresh 1 2) committed_undecided_before committed_undecided_wrong committed_undecided_later) → ⊥
committed_undecided-unlike = λ h. h (own 1 0 0) (own 1 0 1) refl refl (inl refl)

committed_undecided-no_row : ever (ended (fresh 1 2) committed_undecided_before committed_undecided_wrong committed_undecided_later) (gtrid 1 1) ≡ false
committed_undecided-no_row = refl

-- A commit before the last vote: that branch is lost with its line, the other is committed.
abbrev decided_unheard_before : List (Step × Reply)
decided_unheard_before =
    once (Steps.Begin 0) (Replies.Begun (gtrid 1 1))
    ++ ready 0 (own 1 0 0)
    ++ ready 1 (own 1 0 1)
    ++ called 0 0 (Calls.Prepare (own 1 0 0)) (Ret Codes.Success)

abbrev decided_unheard_wrong : Step × Reply
decided_unheard_wrong = (Steps.Decide (gtrid 1 1) Outcome.Commit, Replies.Decided)

abbrev decided_unheard_later : List (Step × Reply)
decided_unheard_later =
    called 0 0 (Calls.Commit (own 1 0 0) false) (Ret Codes.Success)
    ++ once (Steps.Crash (Part.Line 0 1)) Replies.Crashed

decided_unheard : IsWrongOnce (fresh 1 2) Refusal.Votes decided_unheard_before decided_unheard_wrong decided_unheard_later
decided_unheard = record { before = computed _ decided_unheard_before refl; forced = refl; later = computed _ decided_unheard_later refl }

decided_unheard-unlike : AreAlike (ended (fresh 1 2) decided_unheard_before decided_unheard_wrong decided_unheard_later) → ⊥
decided_unheard-unlike = λ h. h (own 1 0 0) (own 1 0 1) refl refl (inr refl)

-- A row that leaves before the last acknowledgement: after a crash that branch is rolled back.
abbrev done_unsettled_before : List (Step × Reply)
done_unsettled_before =
    once (Steps.Begin 0) (Replies.Begun (gtrid 1 1))
    ++ ready 0 (own 1 0 0)
    ++ ready 1 (own 1 0 1)
    ++ called 0 0 (Calls.Prepare (own 1 0 0)) (Ret Codes.Success)
    ++ called 0 1 (Calls.Prepare (own 1 0 1)) (Ret Codes.Success)
    ++ once (Steps.Decide (gtrid 1 1) Outcome.Commit) Replies.Decided
    ++ called 0 0 (Calls.Commit (own 1 0 0) false) (Ret Codes.Success)

abbrev done_unsettled_wrong : Step × Reply
done_unsettled_wrong = (Steps.Done (gtrid 1 1), Replies.Noted)

abbrev done_unsettled_later : List (Step × Reply)
done_unsettled_later =
    once (Steps.Crash Part.Manager) Replies.Crashed
    ++ once (Steps.Restart Side.Manager) (Replies.Restarted 2 0 0)
    ++ called 0 1 Calls.OpenRm (Ret Codes.Success)
    ++ scanned 1 (pos 8) true true (Page (Ours (own 1 0 1) ∷ []))
    ++ once (Steps.Resolve 1) (Replies.Resolved 1)
    ++ answered 0 1 (Calls.Rollback (own 1 0 1)) (Ret Codes.Success)

done_unsettled : IsWrongOnce (fresh 1 2) Refusal.Busy done_unsettled_before done_unsettled_wrong done_unsettled_later
done_unsettled = record { before = computed _ done_unsettled_before refl; forced = refl; later = computed _ done_unsettled_later refl }

done_unsettled-unlike : AreAlike (ended (fresh 1 2) done_unsettled_before done_unsettled_wrong done_unsettled_later) → ⊥
done_unsettled-unlike = λ h. h (own 1 0 0) (own 1 0 1) refl refl (inl refl)
