-- What servers told of a whole transaction is so, after all sessions.
use Rattle.std.proofs.Common.{◌∙◌, inl, inr, Some, sym}
use Rattle.xa_base.specs.declared.answer.Answer.TheVariants.{Ret}
use Rattle.xa_base.specs.declared.call.Call.TheVariants as Calls
use Rattle.xa_base.specs.declared.code.Code.TheVariants.{RolledBack, Success}
use Rattle.xa_log.specs.Contract.{Moment}
use Rattle.xa_model.specs.Trace.{Answer, Call, Gtrid, Line}
use Rattle.xa_monitor.specs.Seen.{Seen, Seen.Answered}
use Rattle.xa_outcomes.proofs.ServedSessions.{all_on, all_saw}
use Rattle.xa_outcomes.proofs.Transactions.{commit_stands, handed_alone, rollback_stands}
use Rattle.xa_outcomes.specs.Outcomes.{IsHandedOver}
use Rattle.xa_outcomes.specs.ServedTransactions.{ServedCommitRowStays, ServedCommitStands, ServedHandedOverIsAlone, ServedRollbackStands}
use Rattle.xa_outcomes.specs.Transactions.{IsCommitHeard, IsCommitRefused, TellsCommit, TellsRollback}
use Rattle.xa_server.proofs.LeftLogs.{listed, raised_once, start_of}
use Rattle.xa_server.proofs.SessionChains.{Laws}
use Rattle.xa_tm.specs.Laws.{StartRowsAreApart}
use Rattle.xa_tm.specs.Starting.{StartsHaveContent}

-- ** an answer more

pub heard_still : (g : Gtrid) (seen : Seen) (l : Line) (c : Call) (a : Answer) → IsCommitHeard g seen → IsCommitHeard g (Answered seen l c a)
heard_still g seen l (Calls.Commit b one_phase) (Ret Success) t = inr t
heard_still g seen l _ _ t = t

pub refused_still : (g : Gtrid) (seen : Seen) (l : Line) (c : Call) (a : Answer) → IsCommitRefused g seen → IsCommitRefused g (Answered seen l c a)
refused_still g seen l (Calls.Commit b one_phase) (Ret (RolledBack why)) t = inr t
refused_still g seen l _ _ t = t

commit_still : (g : Gtrid) (seen : Seen) (l : Line) (c : Call) (a : Answer) → TellsCommit g seen → TellsCommit g (Answered seen l c a)
commit_still g seen l c a (inl decided) = inl decided
commit_still g seen l c a (inr heard) = inr (heard_still g seen l c a heard)

rollback_still : (g : Gtrid) (seen : Seen) (l : Line) (c : Call) (a : Answer) → TellsRollback g seen → TellsRollback g (Answered seen l c a)
rollback_still g seen l c a (inl decided) = inl decided
rollback_still g seen l c a (inr refused) = inr (refused_still g seen l c a refused)

-- ** after all sessions

module _ {L : Type 0} (moment : L → Moment) (laws : Laws L) where
  pub served_commit : ServedCommitStands moment
  served_commit name last f served g told =
      let saw = all_saw moment name laws (TellsCommit g) (commit_still g) g last f served in
      (commit_stands saw.log f saw.after g (saw.some told)).each

  pub served_rollback : ServedRollbackStands moment
  served_rollback name last f served g told =
      let saw = all_saw moment name laws (TellsRollback g) (rollback_still g) g last f served in
      rollback_stands saw.log f saw.after g (saw.some told)

  pub served_alone : ServedHandedOverIsAlone moment
  served_alone name last f served g told =
      let saw = all_saw moment name laws (IsHandedOver g) (λ seen l c a t. t) g last f served in
      handed_alone saw.log f saw.after g (saw.some told)

  pub served_row_stays : StartsHaveContent → StartRowsAreApart → ServedCommitRowStays moment
  served_row_stays have_content are_apart name last f c served g left told b same prepared =
      let on = all_on moment name laws (TellsCommit g) (commit_still g) g (Some last) f served c left (start_of c) (raised_once have_content are_apart c) in
      sym (listed have_content are_apart c g)
      ∙ (commit_stands on.log f on.after g (on.some told)).row_stays b (start_of c) same prepared on.finds
