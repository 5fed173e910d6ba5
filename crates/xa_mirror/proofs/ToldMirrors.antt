-- A mirror that has what a driver wrote in time is a mirror of the log.
use Rattle.std.proofs.Common.{◌≡◌, ◌∙◌, ◌⊎◌, inl, inr, ℕ, List, true, Option, sym, ap, subst}
use Rattle.std.proofs.lemmas.Bool.{true≢false}
use Rattle.xa_base.specs.StateTable.{broken}
use Rattle.xa_base.specs.declared.state.Standing.{Standing}
use Rattle.xa_base.specs.declared.state.Standing.TheVariants.{Committed}
use Rattle.xa_log.specs.Content.{Content}
use Rattle.xa_log.specs.Contract.{Moment}
use Rattle.xa_mirror.proofs.IssuedCommits.{OnlyManagers, committed_issued, failed_issued, issued_behind, issued_seen, only_managers, untold_issued, were_issued}
use Rattle.xa_mirror.proofs.MirroredRows.{committed_before}
use Rattle.xa_mirror.proofs.ServedAnew.{handed_row, served_anew}
use Rattle.xa_mirror.specs.Mirrors.{AllAreOver, FailoversAgree, IsCommitOver, NoneIsCommitted, ParticipantsAreOver, SettledAreOver}
use Rattle.xa_mirror.specs.ToldMirrors.{AllToldCommitted, IsCommitIssued, NoCommitIssued, ToldFailoversAgree, ToldMirrorsAreMirrors, WasHandedRow, WasToldCommitted}
use Rattle.xa_model.specs.Facts.{standing}
use Rattle.xa_model.specs.Trace.{Branch, Fault, Gtrid, Origin, Trace}
use Rattle.xa_monitor.specs.Seen.{Seen}
use Rattle.xa_monitor.specs.Sessions.{failed_in}
use Rattle.xa_outcomes.specs.Parts.{IsPart}
use Rattle.xa_outcomes.specs.Served.{HaveServedHistory, IsOfServed, ServedSessionsAreParts}
use Rattle.xa_server.proofs.LeftLogs.{raised_once, start_of}
use Rattle.xa_server.specs.HeardEnds.{ServedEndsStay}
use Rattle.xa_server.specs.Sessions.{AreServed, AreServed.Between, AreServed.NoneYet, AreServed.OneMore, IsSessionLeft, IsSessionLeft.AfterLine, IsSessionLeft.InAnswer, IsSessionLeft.InRequest, WasLeft}
use Rattle.xa_server.specs.Transactions.{HasNoRowOf, HasRowOf}
use Rattle.xa_server.specs.declared.server.Server.{Server}
use Rattle.xa_tm.specs.Laws.{StartRowsAreApart}
use Rattle.xa_tm.specs.Starting.{StartsHaveContent}

module _ {L : Type 0} (moment : L → Moment) (name : List ℕ) (g : Gtrid) where
  -- the answer in which a log failed issues nothing
  left_managers : (told seen : Seen) (now left : Server L) → IsSessionLeft moment told now seen left → OnlyManagers told → OnlyManagers seen
  left_managers told _ now _ AfterLine only = only
  left_managers told _ now _ (InRequest request left changes performs) only = only
  left_managers told _ now _ (InAnswer t r n code call left waits performs) only = only

  left_issued : (told seen : Seen) (now left : Server L) → IsSessionLeft moment told now seen left → IsCommitIssued g seen → IsCommitIssued g told
  left_issued told _ now _ AfterLine is = is
  left_issued told _ now _ (InRequest request left changes performs) is = is
  left_issued told _ now _ (InAnswer t r n code call left waits performs) is = is

  -- what was seen in a part of the history
  part_issued : (o : Origin) (kept : Seen) (fails : Option Fault) (past whole : Trace) → OnlyManagers kept → IsPart o kept fails past whole
      → were_issued whole g ≡ true → (were_issued past g ≡ true) ⊎ IsCommitIssued g kept
  part_issued o kept fails past whole only part e =
      by (issued_behind past o (failed_in fails part.now) g (sym (ap (λ t. were_issued t g) part.joined) ∙ e))
    where
      by : (were_issued past g ≡ true) ⊎ (were_issued (failed_in fails part.now) g ≡ true) → (were_issued past g ≡ true) ⊎ IsCommitIssued g kept
      by (inl before) = inl before
      by (inr here) = inr (issued_seen o kept part.told g only part.is_history
          (untold_issued part.told part.now g part.untold (failed_issued fails part.now g here)))

  pub never_issued : (last : Option (Server L)) (f : Branch → Standing) (served : AreServed moment name last f) (whole : Trace)
      → IsOfServed moment name last f served whole → NoCommitIssued moment name g last f served → were_issued whole g ≡ true → ⊥
  never_issued _ _ NoneYet whole is none e = true≢false (sym e ∙ ap (λ t. were_issued t g) is)
  never_issued _ _ (OneMore last from to handed o told seen now left done cut before handed_on is is_left honest may) whole (past, parts, part) none e =
      by (never_issued last from before past parts none.1) part.is_kept
    where
      managers : OnlyManagers told
      managers = only_managers o told is.tracks.0

      here : (were_issued past g ≡ true → ⊥) → (were_issued past g ≡ true) ⊎ IsCommitIssued g told → ⊥
      here rest (inl before) = rest before
      here rest (inr issued) = none.0 issued

      behind : (were_issued past g ≡ true → ⊥) → (were_issued past g ≡ true) ⊎ IsCommitIssued g seen → ⊥
      behind rest (inl before) = rest before
      behind rest (inr issued) = none.0 (left_issued told seen now left is_left issued)

      by : (were_issued past g ≡ true → ⊥) → (part.kept ≡ told) ⊎ (part.kept ≡ seen) → ⊥
      by rest (inl same) = here rest (part_issued o told part.fails past whole managers (subst (λ k. IsPart o k part.fails past whole) same part.part) e)
      by rest (inr same) =
          behind rest (part_issued o seen part.fails past whole (left_managers told seen now left is_left managers)
          (subst (λ k. IsPart o k part.fails past whole) same part.part) e)
  never_issued _ _ (Between last from to d how before was final) whole (past, parts, is) none e =
      never_issued last from before past parts none (sym (ap (λ t. were_issued t g) is) ∙ e)

module _ {L : Type 0} (moment : L → Moment) (content : StartsHaveContent) (apart : StartRowsAreApart) (parts : ServedSessionsAreParts moment)
    (ends : ServedEndsStay moment) (over : SettledAreOver moment) (waited : ParticipantsAreOver moment) (agree : FailoversAgree moment) where
  none_committed : (name : List ℕ) (g : Gtrid) (last : Option (Server L)) (f : Branch → Standing) (served : AreServed moment name last f) (c : Content)
      → WasLeft moment last c → NoCommitIssued moment name g last f served → NoneIsCommitted g f
  none_committed name g last f served c was none b q e =
      never_issued moment name g last f served h.history.whole h.parts none
      (subst (λ k. were_issued h.history.whole k ≡ true) q (committed_issued h.history.whole b h.history.right
      (committed_before (standing h.history.whole b) (h.history.there b ∙ ap broken e))))
    where
      h : HaveServedHistory moment name last f served (start_of c)
      h = parts name last f c (start_of c) served was (raised_once content apart c)

  all_over : (name : List ℕ) (g : Gtrid) (last : Option (Server L)) (f : Branch → Standing) (served : AreServed moment name last f) (c : Content)
      → WasLeft moment last c → HasNoRowOf c g
      → WasToldCommitted moment name g last f served ⊎ WasHandedRow moment name g last f served → AllAreOver g f
  all_over name g last f served c was gone (inl (b, q, told)) =
      over name g c f (served_anew moment name g last f served c was) gone (inl (b, q, ends name last f served b Committed told))
  all_over name g last f served c was gone (inr row) =
      over name g c f (served_anew moment name g last f served c was) gone (inr (handed_row moment content apart name g last f served c was row))

  either : (name : List ℕ) (g : Gtrid) (last : Option (Server L)) (f : Branch → Standing) (served : AreServed moment name last f) (c : Content)
      → WasLeft moment last c → HasRowOf c g → NoCommitIssued moment name g last f served ⊎ AllToldCommitted moment name g last f served c
      → NoneIsCommitted g f ⊎ AllAreOver g f
  either name g last f served c was has (inl none) = inl (none_committed name g last f served c was none)
  either name g last f served c was has (inr all) =
      inr (waited name g c f (served_anew moment name g last f served c was) has
      (λ b waits. subst IsCommitOver (sym (ends name last f served b Committed (all b waits))) tt))

  pub told_mirrors : ToldMirrorsAreMirrors moment
  told_mirrors name g last f served log mirror was told = record {
    later = told.later;
    missing = λ has lacks. either name g last f served log was has (told.missing has lacks);
    more = λ gone has. all_over name g last f served log was gone (told.more gone has);
    same = told.same;
    records = told.records;
  }

  pub told_failovers : ToldFailoversAgree moment
  told_failovers name last from to c d e handed o told seen now left done cut served was mirror holds is is_left honest may leaves =
      agree name last from to c d e handed o told seen now left done cut served was (λ g. told_mirrors name g last from served c d was (mirror g)) holds is
      is_left honest may leaves
