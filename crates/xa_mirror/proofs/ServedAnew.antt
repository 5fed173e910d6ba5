-- Sessions one after another, among which a log was made anew of a mirror, agree on each
-- transaction.
use Rattle.std.proofs.Common.{◌≡◌, ◌⊎◌, inl, inr, ℕ, List, [], Bool, true, false, refl, sym, ap, ◌∙◌, subst}
use Rattle.std.proofs.lemmas.Bool.{true≢false}
use Rattle.std.specs.FinMap.{get}
use Rattle.std.specs.Prelude.{if◌then◌else◌, Option, Some, None, is_some}
use Rattle.xa_base.proofs.BranchKeys.{branch_eq-refl}
use Rattle.xa_base.specs.Branch.{branch_eq}
use Rattle.xa_base.specs.StateTable.{broken}
use Rattle.xa_base.specs.declared.state.Standing.{Standing}
use Rattle.xa_base.specs.declared.state.Standing.TheVariants.{Completed, Prepared, Unstarted}
use Rattle.xa_log.specs.Content.{Content, participants_of}
use Rattle.xa_log.specs.Contract.{Moment}
use Rattle.xa_log.specs.KeySet.{contains}
use Rattle.xa_mirror.proofs.MirroredRows.{all_over, decided_over, left_never, mirror_commits, mirror_never, mirror_row_commits, mirror_stands, participants_over, row_in_log}
use Rattle.xa_mirror.proofs.OneSession.{one_more, start_raised}
use Rattle.xa_mirror.specs.ToldMirrors.{WasHandedRow}
use Rattle.xa_mirror.specs.Mirrors.{AllAreOver, AreServedAnew, AreServedAnew.Between, AreServedAnew.MadeAnew, AreServedAnew.NoneYet, AreServedAnew.OneMore, FailoversAgree, IsCommitOver, SomeIsCommitted, WasLeftWithRow, WasLeftWithoutRow}
use Rattle.xa_model.specs.Facts.{has_record, lists_row}
use Rattle.xa_model.specs.Promises.Agreement.{IsUndone}
use Rattle.xa_model.specs.Trace.{Branch, Gtrid, How, Line, Origin}
use Rattle.xa_monitor.specs.Agreement.{MayAllStand, MayAllStand.AsTold, MayAllStand.CutOff, MayAllStand.EndedAlone, MayAllStand.UnderWay}
use Rattle.xa_monitor.specs.Seen.{Seen}
use Rattle.xa_monitor.specs.Standings.{Comes}
use Rattle.xa_server.proofs.LeftLogs.{listed, raised_once, start_of}
use Rattle.xa_server.proofs.LogStarts.{none_there}
use Rattle.xa_server.proofs.OlderBranches.{HasNoRow.None_committed}
use Rattle.xa_server.proofs.OwnBranches.{Commits, NeverCommits, Stands, broken_turn, commits_kept, commits_row, row_decides, stand_alike, turned_commits, turned_never, turned_stands, undone_no_row}
use Rattle.xa_server.proofs.OwnSessions.{StartsStand}
use Rattle.xa_server.proofs.SessionChains.{Laws}
use Rattle.xa_server.specs.Sessions.{AreServed, AreServed.Between as Ends_between, AreServed.NoneYet as No_session, AreServed.OneMore as One_session, IsEmptyLog, WasLeft}
use Rattle.xa_server.specs.Transactions.{AreServedFor, AreServedFor.Between as BetweenFor, AreServedFor.NoneYet as NoneYetFor, AreServedFor.OneMore as OneMoreFor, IsAlike, IsNeverCommitted, IsToCommit, MayStandFor, MayStandFor.AsTold as AsToldFor, MayStandFor.CutOff as CutOffFor, MayStandFor.EndedAlone as EndedAloneFor, MayStandFor.UnderWay as UnderWayFor, MayTurn, MayTurn.EndsByItself}
use Rattle.xa_server.specs.Votes.{IsLogged}
use Rattle.xa_server.specs.declared.server.Server.{Server}
use Rattle.xa_session.specs.Tracking.{IsRaisedFrom}
use Rattle.xa_tm.specs.Laws.{StartRowsAreApart}
use Rattle.xa_tm.specs.Starting.{StartsHaveContent}

undone_broken : (f : Standing) → IsUndone f → IsUndone (broken f)
undone_broken f (inl e) = inl (ap broken e)
undone_broken f (inr e) = inr (ap broken e)

-- before the first session none of its branches is there
none_yet : (g : Gtrid) (c : Content) → IsEmptyLog c → StartsStand g c (λ b. Unstarted)
none_yet g c empty next from_c = record {
  named = λ b q unfit. refl;
  young = λ later b q. refl;
  records = λ b q has. absurd (no_record b (subst (λ xs. has_record xs b ≡ true) (none_there c next empty from_c).records has));
  kept = λ row b q. tt;
  covers = λ row b q e. absurd (cc);
  no_row = λ none. None_committed (λ b q e. cc);
}
  where
    no_record : (b : Branch) → has_record [] b ≡ true → ⊥
    no_record b e = cc

module _ {L : Type 0} (moment : L → Moment) (laws : Laws L) (content : StartsHaveContent) (apart : StartRowsAreApart) (name : List ℕ) (g : Gtrid) where
  starts_stand : (c : Content) (f : Branch → Standing) → AreServedAnew moment name g c f → StartsStand g c f
  starts_stand _ _ (NoneYet c empty) = none_yet g c empty
  starts_stand _ _ (OneMore c d from to handed o told seen now left done cut before has is is_left honest may leaves) =
      λ next from_d. (one_more moment laws name g c d from to handed o told seen now left done cut (starts_stand c from before) has is is_left honest may
      leaves next from_d).stands
  starts_stand _ _ (Between c from to d before turns others) = λ next from_c.
      turned_stands g next (is_some (get c.decisions g)) (row_in_log c next from_c g) (λ b. broken (from b)) (λ b. broken (to b)) d
      (broken_turn (is_some (get c.decisions g)) (from d) (to d) turns) (λ b q apart. ap broken (others b q apart)) (starts_stand c from before next from_c)
  starts_stand _ _ (MadeAnew c d f before mirror) = λ next from_d. mirror_stands content apart g c d f mirror (starts_stand c f before) next from_d

  -- what was left decided is to commit
  starts_commit : (c : Content) (f : Branch → Standing) (served : AreServedAnew moment name g c f) → WasLeftWithRow moment name g c f served
      → (next : Origin) → IsRaisedFrom c next → Commits g next (λ b. broken (f b))
  starts_commit _ _ (NoneYet c empty) was next from_c = absurd was
  starts_commit _ _ (OneMore c d from to handed o told seen now left done cut before has is is_left honest may leaves) (inl row) next from_d =
      inl (row_in_log d next from_d g ∙ row)
  starts_commit _ _ (OneMore c d from to handed o told seen now left done cut before has is is_left honest may leaves) (inr was) next from_d =
      (one_more moment laws name g c d from to handed o told seen now left done cut (starts_stand c from before) has is is_left honest may
      leaves next from_d).commits
      (starts_commit c from before was o (start_raised moment laws name g c handed o told seen now left has is is_left honest))
  starts_commit _ _ (Between c from to d before turns others) was next from_c =
      turned_commits g next (is_some (get c.decisions g)) (row_in_log c next from_c g) (λ b. broken (from b)) (λ b. broken (to b)) d
      (broken_turn (is_some (get c.decisions g)) (from d) (to d) turns) (λ b q apart. ap broken (others b q apart)) (starts_stand c from before next from_c)
      (starts_commit c from before was next from_c)
  starts_commit _ _ (MadeAnew c d f before mirror) (inl row) next from_d =
      mirror_row_commits content apart g c d f mirror (starts_stand c f before) next from_d row
  starts_commit _ _ (MadeAnew c d f before mirror) (inr was) next from_d =
      mirror_commits content apart g c d f mirror (starts_stand c f before) next from_d was.0
      (starts_commit c f before was.1 (start_of c) (raised_once content apart c))

  -- what was left undecided, with none committed, never is
  starts_never : (c : Content) (f : Branch → Standing) (served : AreServedAnew moment name g c f) → WasLeftWithoutRow moment name g c f served
      → (next : Origin) → IsRaisedFrom c next → NeverCommits g next (λ b. broken (f b))
  starts_never _ _ (NoneYet c empty) was next from_c = absurd was
  starts_never _ _ (OneMore c d from to handed o told seen now left done cut before has is is_left honest may leaves) (inl was) next from_d =
      left_never g d to next from_d was.0 was.1 was.2
  starts_never _ _ (OneMore c d from to handed o told seen now left done cut before has is is_left honest may leaves) (inr was) next from_d =
      (one_more moment laws name g c d from to handed o told seen now left done cut (starts_stand c from before) has is is_left honest may
      leaves next from_d).never_commits
      (starts_never c from before was o (start_raised moment laws name g c handed o told seen now left has is is_left honest))
  starts_never _ _ (Between c from to d before turns others) was next from_c =
      turned_never g next (is_some (get c.decisions g)) (row_in_log c next from_c g) (λ b. broken (from b)) (λ b. broken (to b)) d
      (broken_turn (is_some (get c.decisions g)) (from d) (to d) turns) (λ b q apart. ap broken (others b q apart)) (starts_stand c from before next from_c)
      (starts_never c from before was next from_c)
  starts_never _ _ (MadeAnew c d f before mirror) (none, inl now) next from_d = left_never g d f next from_d none now.0 now.1
  starts_never _ _ (MadeAnew c d f before mirror) (none, inr earlier) next from_d =
      mirror_never content apart g c d f mirror (starts_stand c f before) next from_d none
      (starts_never c f before earlier (start_of c) (raised_once content apart c))

  module _ (c : Content) (f : Branch → Standing) (served : AreServedAnew moment name g c f) where
    from_c : IsRaisedFrom c (start_of c)
    from_c = raised_once content apart c

    stands : Stands g (start_of c) (λ b. broken (f b))
    stands = starts_stand c f served (start_of c) from_c

    row : lists_row (start_of c).rows g ≡ is_some (get c.decisions g)
    row = listed content apart c g

    pub anew_alike : IsAlike g f c
    anew_alike = record {
      agree = λ b d q r e u. stand_alike g (start_of c) (λ b. broken (f b)) stands b d q r (ap broken e) (undone_broken (f d) u);
      committed = λ b d q r e p. sym row ∙ row_decides g (start_of c) (λ b. broken (f b)) stands b d q r (ap broken e) (ap broken p);
      undone = λ b q u. sym row ∙ undone_no_row g (start_of c) (λ b. broken (f b)) stands b q (undone_broken (f b) u);
    }

    pub anew_commits : WasLeftWithRow moment name g c f served → IsToCommit g f c
    anew_commits was =
        let commits = starts_commit c f served was (start_of c) from_c in
        record {
          never_undone = λ b q u. commits_kept g (start_of c) (λ b. broken (f b)) stands commits b q (undone_broken (f b) u);
          row_stays = λ b q p. sym row ∙ commits_row g (start_of c) (λ b. broken (f b)) stands commits b q (ap broken p);
        }

    pub anew_never : WasLeftWithoutRow moment name g c f served → IsNeverCommitted g f c
    anew_never was =
        let never = starts_never c f served was (start_of c) from_c in
        record { never_committed = λ b q e. never.none b q (ap broken e); no_row = sym row ∙ never.no_row }

    pub waited_over : is_some (get c.decisions g) ≡ true → ((b : Branch) → contains (participants_of c g) b ≡ true → IsCommitOver (f b)) → AllAreOver g f
    waited_over has over = participants_over g c f (start_of c) from_c stands has over

    pub settled_over : is_some (get c.decisions g) ≡ false → SomeIsCommitted g f ⊎ WasLeftWithRow moment name g c f served → AllAreOver g f
    settled_over none (inl some) = all_over g f some.0 (stands.no_row (row ∙ none)) some.1 (ap broken some.2)
    settled_over none (inr was) = decided_over g f (start_of c) (row ∙ none) (starts_commit c f served was (start_of c) from_c)

-- ** sessions over one log

-- a log that holds a content has its rows
logged_row : (found : Option Content) (c : Content) (g : Gtrid) → found ≡ Some c → IsLogged found g → is_some (get c.decisions g) ≡ true
logged_row None c g has row = absurd row
logged_row (Some d) c g has row = subst (λ (x : Content). is_some (get x.decisions g) ≡ true) (let same : d ≡ c = cc in same) row

module _ {L : Type 0} (moment : L → Moment) (name : List ℕ) (g : Gtrid) where
  pub over_one_log : (c : Content) (f : Branch → Standing) → AreServedFor moment name g c f → AreServedAnew moment name g c f
  over_one_log _ _ (NoneYetFor c empty) = NoneYet c empty
  over_one_log _ _ (OneMoreFor c d from to handed o told seen now left done cut before has is is_left honest may leaves) =
      OneMore c d from to handed o told seen now left done cut (over_one_log c from before) has is is_left honest may leaves
  over_one_log _ _ (BetweenFor c from to d before turns others) = Between c from to d (over_one_log c from before) turns others

  may_for : (o : Origin) (seen : Seen) (Told : Branch → Standing → Type 0) (done cut : List Line) (f : Branch → Standing)
      → MayAllStand o seen Told done cut f → MayStandFor g o seen Told done cut f
  may_for o seen Told _ _ _ (AsTold f may) = AsToldFor f (λ b is. may b)
  may_for o seen Told _ _ _ (UnderWay done cut from to l c may of uncut waits was) =
      UnderWayFor done cut from to l c (may_for o seen Told done cut from may) of uncut waits (was.0, λ b is. was.1 b)
  may_for o seen Told _ _ _ (CutOff done cut from to l may final) = CutOffFor done cut from to l (may_for o seen Told done cut from may) (λ b is. final b)
  may_for o seen Told _ _ _ (EndedAlone done cut from to d how may was final) =
      EndedAloneFor done cut from to d how (may_for o seen Told done cut from may) was (λ b is. final b)

  ended_there : (d : Branch) (how : How) (from to : Branch → Standing) (t : Bool) → from d ≡ Prepared
      → ((b : Branch) → to b ≡ (if branch_eq d b then Completed how else from b)) → MayTurn t (from d) (to d)
  ended_there d how from to t was final =
      subst (λ s. MayTurn t s (to d)) (sym was)
      (subst (MayTurn t Prepared) (sym (final d ∙ ap (λ u. if u then Completed how else from d) (branch_eq-refl d))) (EndsByItself how))

  -- where all branches are known
  pub served_anew : (last : Option (Server L)) (f : Branch → Standing) → AreServed moment name last f → (c : Content) → WasLeft moment last c
      → AreServedAnew moment name g c f
  served_anew _ _ No_session c was = NoneYet c was
  served_anew _ _ (One_session last from to handed o told seen now left done cut before handed_on is is_left honest may) c was =
      OneMore handed_on.left c from to handed o told seen now left done cut (served_anew last from before handed_on.left handed_on.was_left)
      handed_on.holds is is_left honest (may_for o seen (λ b. Comes seen b (broken (from b))) done cut to may) was
  served_anew _ _ (Ends_between last from to d how before was_prepared final) c was =
      Between c from to d (served_anew last from before c was) (ended_there d how from to (is_some (get c.decisions g)) was_prepared final)
      (λ b same other. final b ∙ ap (λ t. if t then Completed how else from b) other)

module _ {L : Type 0} (moment : L → Moment) (content : StartsHaveContent) (apart : StartRowsAreApart) (name : List ℕ) (g : Gtrid) where
  -- an empty log has no row
  empty_none : (c : Content) → IsEmptyLog c → is_some (get c.decisions g) ≡ true → ⊥
  empty_none c empty row =
      true≢false (sym row
      ∙ (sym (listed content apart c g) ∙ ap (λ xs. lists_row xs g) (none_there c (start_of c) empty (raised_once content apart c)).rows))

  -- what was left of a row
  left_row : (last : Option (Server L)) (f : Branch → Standing) (served : AreServed moment name last f) (c : Content) (was : WasLeft moment last c)
      → is_some (get c.decisions g) ≡ true → WasLeftWithRow moment name g c f (served_anew moment name g last f served c was)
  unfolding served_anew
  left_row _ _ No_session c was row = absurd (empty_none c was row)
  left_row _ _ (One_session last from to handed o told seen now left done cut before handed_on is is_left honest may) c was row = inl row
  left_row _ _ (Ends_between last from to d how before was_prepared final) c was row = left_row last from before c was row

  -- one of these sessions was handed a log that has it
  pub handed_row : (last : Option (Server L)) (f : Branch → Standing) (served : AreServed moment name last f) (c : Content) (was : WasLeft moment last c)
      → WasHandedRow moment name g last f served → WasLeftWithRow moment name g c f (served_anew moment name g last f served c was)
  unfolding served_anew
  handed_row _ _ No_session c was handed_it = absurd handed_it
  handed_row _ _ (One_session last from to handed o told seen now left done cut before handed_on is is_left honest may) c was (inl row) =
      inr (left_row last from before handed_on.left handed_on.was_left
      (ap (λ m. is_some (get m g)) (sym handed_on.holds.same.decisions)
      ∙ logged_row (moment handed).content handed_on.holds.content g handed_on.holds.has row))
  handed_row _ _ (One_session last from to handed o told seen now left done cut before handed_on is is_left honest may) c was (inr earlier) =
      inr (handed_row last from before handed_on.left handed_on.was_left earlier)
  handed_row _ _ (Ends_between last from to d how before was_prepared final) c was handed_it = handed_row last from before c was handed_it

-- ** a failover

module _ {L : Type 0} (moment : L → Moment) (laws : Laws L) (content : StartsHaveContent) (apart : StartRowsAreApart) where
  pub failovers_agree : FailoversAgree moment
  failovers_agree name last from to c d e handed o told seen now left done cut served was_left mirror holds is is_left honest may leaves = (
    λ b b' same committed undone. (alike b.gtrid).agree b b' refl (sym same) committed undone,
    record {
      committed = λ b b' same committed prepared. (alike b.gtrid).committed b b' refl (sym same) committed prepared;
      undone = λ b undone. (alike b.gtrid).undone b refl undone;
    },
  )
    where
      alike : (g : Gtrid) → IsAlike g to e
      alike g =
          anew_alike moment laws content apart name g e to
          (OneMore d e from to handed o told seen now left done cut
          (MadeAnew c d from (served_anew moment name g last from served c was_left) (mirror g)) holds is is_left honest
          (may_for moment name g o seen (λ b. Comes seen b (broken (from b))) done cut to may) leaves)
