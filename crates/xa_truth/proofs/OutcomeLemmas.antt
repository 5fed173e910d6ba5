-- What a reply to a move tells, and what is noted, is what its session saw.
use Rattle.std.proofs.Common.{◌≡◌, ◌∙◌, ◌⊎◌, inl, inr, ℕ, Bool, true, false, ◌||◌, List, [], ◌∷◌, Option, Some, None, ap, get_or, refl, subst, sym}
use Rattle.std.proofs.lemmas.Bool.{and_parts, or_left, or_right}
use Rattle.std.proofs.lemmas.List.{get_or_default}
use Rattle.std.proofs.lemmas.List.Elements.{All-contains}
use Rattle.std.proofs.lemmas.List.Folds.{list_any-append}
use Rattle.std.specs.List.{list_any}
use Rattle.std.specs.Prelude.{MatchBool, codes}
use Rattle.xa_base.specs.declared.branch.Branch.{Branch}
use Rattle.xa_base.specs.declared.branch.Gtrid.{Gtrid}
use Rattle.xa_base.specs.declared.call.Call.TheVariants as Calls
use Rattle.xa_base.specs.declared.state.Standing.{Standing}
use Rattle.xa_base.specs.declared.step.Outcome.{Outcome}
use Rattle.xa_base.specs.declared.step.Outcome.TheVariants as outcomes
use Rattle.xa_conduct.proofs.FirstWords.{TellsCall, TellsOf, error_first, reply_first, start_first}
use Rattle.xa_conduct.proofs.MoveLemmas.{paired_weaker}
use Rattle.xa_conduct.specs.Acting.{done_by, done_of, is_done}
use Rattle.xa_conduct.specs.Backing.{IsBacked, OutcomeRests, TransactionRests, WasAtOnce, asks_at_once, branch_at_rm, is_backed, says_committed, says_rolled_back, loses, tells_code}
use Rattle.xa_conduct.specs.Decided.{is_commit_of, is_rollback_of, is_same}
use Rattle.xa_conduct.specs.Moves.{ArePairedInOrder, parts_of, thread_in}
use Rattle.xa_conduct.specs.Outcomes.{IsDecisionOf, OutcomesAreTrue, SaysDecided, WasDecided}
use Rattle.xa_conduct.specs.Over.{has_calls}
use Rattle.xa_conduct.specs.Places.{is_asked}
use Rattle.xa_conduct.specs.Plain.{is_gtrid}
use Rattle.xa_conduct.specs.Texts.{standing_word, verb_at}
use Rattle.xa_conduct.specs.Told.{HasFirst, IsReply, IsReplyTo, TellsSo, joined_replies}
use Rattle.xa_conduct.specs.declared.place.Place.{Place}
use Rattle.xa_conduct.specs.declared.place.Place.TheVariants.{Working, Preparing, AtOnce, Prepared, Committing, RollingBack, Undoing, Refusing, Forgetting, Over, Owed}
use Rattle.xa_conduct.specs.declared.transaction.Standing.{Standing as NotedStanding}
use Rattle.xa_conduct.specs.declared.transaction.Standing.TheVariants as standings
use Rattle.xa_conduct.specs.declared.transaction.Transaction.{Transaction}
use Rattle.xa_log.specs.Content.{Content}
use Rattle.xa_log.specs.Contract.{Moment}
use Rattle.xa_model.specs.Promises.Agreement.{IsUndone}
use Rattle.xa_model.specs.Trace.{Answer, Call, Happening, Happening.Issued, Line, Origin, line}
use Rattle.xa_monitor.specs.Seen.{Seen, Seen.Answered, Seen.Did, Seen.Lost, Seen.Start}
use Rattle.xa_outcomes.proofs.ServedTransactions.{heard_still, refused_still}
use Rattle.xa_outcomes.specs.Outcomes.{IsSeenDecided, IsHandedOver}
use Rattle.xa_outcomes.specs.ServedTransactions.{ServedCommitRowStays, ServedCommitStands, ServedHandedOverIsAlone, ServedRollbackStands, WasToldCommitServed, WasToldHandedOver, WasToldRollbackServed}
use Rattle.xa_outcomes.specs.Transactions.{IsCommitHeard, IsCommitRefused, IsRollbackDecided, MayStandCommitted, TellsCommit, TellsRollback}
use Rattle.xa_requests.specs.declared.request.Request.{Request}
use Rattle.xa_requests.specs.declared.request.Request.TheVariants as requests
use Rattle.xa_requests.specs.declared.response.Response.{Response}
use Rattle.xa_requests.specs.declared.response.Response.TheVariants as responses
use Rattle.xa_server.specs.Lines.{asked_in}
use Rattle.xa_server.specs.NamedLines.{lines_read}
use Rattle.xa_server.specs.Performing.{Performs}
use Rattle.xa_server.specs.Sessions.{AreServed, AreServed.Between, AreServed.NoneYet, AreServed.OneMore, IsSession}
use Rattle.xa_server.specs.Telling.{Tells}
use Rattle.xa_server.specs.declared.server.Server.{Server}
use Rattle.xa_session.specs.Logging.{LeavesContent}
use Rattle.xa_truth.proofs.HeardCommits.{SawNamed, commit_did, commit_seen, issue_did, issue_seen, loss_seen, named_gtrid, refusal_seen, rollback_did, rollback_seen, success_seen}
use Rattle.xa_truth.proofs.SeenRequests.{lines_seen}
use Rattle.xa_truth.proofs.WordLemmas.{is_known, is_no_commit, is_no_rollback, no_commit, no_rollback, no_unknown}
use Rattle.xa_truth.specs.Outcomes.{IsCommittedInLog, IsMoved, NoteIsSo, NotesAreTrue, RepliesAreTrue, ReplyIsSo, WasNoted, WasReplied, was_done}
use Rattle.xa_truth.specs.Replies.{TellsCommitted, TellsOutcome, TellsRolledBack, TellsUnknown}
use Rattle.xa_truth.specs.Unknown.{IsIssuedAtOnce, IsLineLost, LeavesUnknown, WasLeftUnknown}

-- Something was seen of a transaction, which is this one if the numbers of its name fit their
-- types.
pub record SawOf (g : Gtrid) (Saw : Gtrid → Type 0) : Type 0 where
  pub gtrid : Gtrid
  pub same : is_gtrid g ≡ true → gtrid ≡ g
  pub saw : Saw gtrid

itself : (g : Gtrid) (Saw : Gtrid → Type 0) → Saw g → SawOf g Saw
itself g Saw saw = record { gtrid = g; same = λ fit. refl; saw = saw }

module _ {L : Type 0} (moment : L → Moment) (name : List ℕ) (handed : L) (o : Origin) (told : Seen) (now : Server L)
    (is : IsSession moment name handed o told now) where
  abbrev asked : (Request → Bool) → Bool
  asked = was_done (lines_read name is.lines) is.replies

  -- a request that passes was seen
  seen_of : (Saw : Seen → Type 0) (did : (seen : Seen) (e : Happening) → Saw seen → Saw (Did seen e))
      (answered : (seen : Seen) (l : Line) (c : Call) (a : Answer) → Saw seen → Saw (Answered seen l c a))
      (lost : (seen : Seen) (l : Line) (c : Option Call) → Saw seen → Saw (Lost seen l c)) (p : Request → Bool)
      → ((request : Request) (reply : Response) (seen next : Seen) (old new : Server L) → Performs moment request old reply new → is_done reply ≡ true
      → p request ≡ true → Tells o.threads request reply seen next → Saw next)
      → asked p ≡ true → Saw told
  seen_of Saw did answered lost p here was =
      lines_seen Saw did answered lost moment o.threads p here (lines_read name is.lines) is.replies is.first now Start told is.replied is.no_fault is.told was

  saw_decided : (g : Gtrid) → asked (is_commit_of g) ≡ true → IsSeenDecided g told
  saw_decided g =
      seen_of (IsSeenDecided g) (commit_did g) (λ seen l c a s. s) (λ seen l c s. s) (is_commit_of g)
      (λ request reply seen next old new. commit_seen moment o.threads g request reply seen next old new)

  saw_undone : (g : Gtrid) → asked (is_rollback_of g) ≡ true → IsRollbackDecided g told
  saw_undone g =
      seen_of (IsRollbackDecided g) (rollback_did g) (λ seen l c a s. s) (λ seen l c s. s) (is_rollback_of g)
      (λ request reply seen next old new. rollback_seen moment o.threads g request reply seen next old new)

  saw_heard : (b : Branch) → asked (tells_code says_committed b) ≡ true → SawNamed b IsCommitHeard told
  saw_heard b =
      seen_of (SawNamed b IsCommitHeard) (λ seen e s. s) (λ seen l c a s. (s.0, (s.1.0, heard_still s.0.gtrid seen l c a s.1.1))) (λ seen l c s. s)
      (tells_code says_committed b) (λ request reply seen next old new. success_seen moment o.threads b request reply seen next old new)

  saw_refused : (b : Branch) → asked (tells_code says_rolled_back b) ≡ true → SawNamed b IsCommitRefused told
  saw_refused b =
      seen_of (SawNamed b IsCommitRefused) (λ seen e s. s) (λ seen l c a s. (s.0, (s.1.0, refused_still s.0.gtrid seen l c a s.1.1))) (λ seen l c s. s)
      (tells_code says_rolled_back b) (λ request reply seen next old new. refusal_seen moment o.threads b request reply seen next old new)

  saw_issued : (b : Branch) → asked (asks_at_once b) ≡ true → SawNamed b (λ g s. IsIssuedAtOnce g (line b.thread b.rm) s) told
  saw_issued b =
      seen_of (SawNamed b (λ g s. IsIssuedAtOnce g (line b.thread b.rm) s))
      (λ seen e s. (s.0, (s.1.0, issue_did s.0.gtrid (line b.thread b.rm) seen e s.1.1))) (λ seen l c a s. s) (λ seen l c s. s) (asks_at_once b)
      (λ request reply seen next old new. issue_seen moment o.threads b request reply seen next old new)

  saw_lost : (b : Branch) → asked (loses b) ≡ true → IsLineLost (line b.thread b.rm) told
  saw_lost b =
      seen_of (IsLineLost (line b.thread b.rm)) (λ seen e s. s) (λ seen l c a s. s) (λ seen l c s. inr s) (loses b)
      (λ request reply seen next old new. loss_seen moment o.threads b request reply seen next old new)

  -- ** how a transaction stands

  saw_commit : (g : Gtrid) (t : ℕ) → OutcomeRests asked g t standings.Committed → SawOf g (λ h. TellsCommit h told)
  saw_commit g t (inl decided) = itself g (λ h. TellsCommit h told) (inl (saw_decided g decided))
  saw_commit g t (inr was) =
      let heard = saw_heard (branch_at_rm g t was.rm) was.heard in
      record {
        gtrid = heard.0.gtrid;
        same = named_gtrid (branch_at_rm g t was.rm) heard.0 heard.1.0;
        saw = inr heard.1.1;
      }

  saw_rollback : (g : Gtrid) (t : ℕ) → (asked (is_rollback_of g) ≡ true) ⊎ WasAtOnce asked g t (tells_code says_rolled_back) → SawOf g (λ h. TellsRollback h told)
  saw_rollback g t (inl decided) = itself g (λ h. TellsRollback h told) (inl (saw_undone g decided))
  saw_rollback g t (inr was) =
      let refused = saw_refused (branch_at_rm g t was.rm) was.heard in
      record {
        gtrid = refused.0.gtrid;
        same = named_gtrid (branch_at_rm g t was.rm) refused.0 refused.1.0;
        saw = inr refused.1.1;
      }

  saw_unknown : (g : Gtrid) (t : ℕ) → WasAtOnce asked g t loses → SawOf g (λ h. LeavesUnknown h told)
  saw_unknown g t was =
      let b = branch_at_rm g t was.rm in
      let issued = saw_issued b was.issued in
      record {
        gtrid = issued.0.gtrid;
        same = named_gtrid b issued.0 issued.1.0;
        saw = record { line = line t was.rm; issued = issued.1.1; lost = saw_lost b was.heard };
      }

  -- ** a reply

  -- what it tells of the transaction was seen, perhaps under another name if the numbers of this
  -- one don't fit their types
  pub record ReplySeen (g : Gtrid) (text : List ℕ) : Type 0 where
    pub gtrid : Gtrid
    pub same : is_gtrid g ≡ true → gtrid ≡ g
    pub committed : TellsCommitted text → TellsCommit gtrid told
    pub rolled_back : TellsRolledBack text → TellsRollback gtrid told
    pub unknown : TellsUnknown text → LeavesUnknown gtrid told

  only_commit : (v text : List ℕ) (g h : Gtrid) → (is_gtrid g ≡ true → h ≡ g) → is_no_rollback v → is_known v → HasFirst v text → TellsCommit h told
      → ReplySeen g text
  only_commit v text g h same apart known first saw = record {
    gtrid = h;
    same = same;
    committed = λ w. saw;
    rolled_back = λ w. absurd (no_rollback v text apart first w);
    unknown = λ w. absurd (no_unknown v text known first w);
  }

  only_rollback : (v text : List ℕ) (g h : Gtrid) → (is_gtrid g ≡ true → h ≡ g) → is_no_commit v → is_known v → HasFirst v text → TellsRollback h told
      → ReplySeen g text
  only_rollback v text g h same apart known first saw = record {
    gtrid = h;
    same = same;
    committed = λ w. absurd (no_commit v text apart first w);
    rolled_back = λ w. saw;
    unknown = λ w. absurd (no_unknown v text known first w);
  }

  only_unknown : (v text : List ℕ) (g h : Gtrid) → (is_gtrid g ≡ true → h ≡ g) → is_no_commit v → is_no_rollback v → HasFirst v text
      → LeavesUnknown h told → ReplySeen g text
  only_unknown v text g h same apart none first saw = record {
    gtrid = h;
    same = same;
    committed = λ w. absurd (no_commit v text apart first w);
    rolled_back = λ w. absurd (no_rollback v text none first w);
    unknown = λ w. saw;
  }

  nothing_told : (v text : List ℕ) (g : Gtrid) → is_no_commit v → is_no_rollback v → is_known v → HasFirst v text → ReplySeen g text
  nothing_told v text g apart none known first = record {
    gtrid = g;
    same = λ fit. refl;
    committed = λ w. absurd (no_commit v text apart first w);
    rolled_back = λ w. absurd (no_rollback v text none first w);
    unknown = λ w. absurd (no_unknown v text known first w);
  }

  -- by the call that is to be made
  call_seen : (g : Gtrid) (b : Branch) (place : Place) (text : List ℕ) → b.gtrid ≡ g → is_asked place ≡ true → is_backed asked b place ≡ true
      → HasFirst (verb_at place) text → ReplySeen g text
  call_seen g b Preparing text same is backed first = nothing_told (codes "prepare") text g (refl, refl) (refl, (refl, refl)) refl first
  call_seen g b AtOnce text same is backed first = nothing_told (codes "commit-at-once") text g (refl, refl) (refl, (refl, refl)) refl first
  call_seen g b Committing text same is backed first =
      only_commit (codes "commit") text g b.gtrid (λ fit. same) (refl, (refl, refl)) refl first
      (inl (saw_decided b.gtrid (and_parts (asked (is_commit_of b.gtrid)) _ backed).0))
  call_seen g b RollingBack text same is backed first =
      only_rollback (codes "rollback") text g b.gtrid (λ fit. same) (refl, refl) refl first
      (inl (saw_undone b.gtrid (and_parts (asked (is_rollback_of b.gtrid)) _ backed).0))
  call_seen g b Undoing text same is backed first =
      only_rollback (codes "undo") text g b.gtrid (λ fit. same) (refl, refl) refl first
      (inl (saw_undone b.gtrid (and_parts (asked (is_rollback_of b.gtrid)) _ backed).0))
  call_seen g b Refusing text same is backed first =
      only_rollback (codes "undo") text g b.gtrid (λ fit. same) (refl, refl) refl first
      (inl (saw_undone b.gtrid (and_parts (asked (is_rollback_of b.gtrid)) _ backed).0))
  call_seen g b Forgetting text same is backed first = nothing_told (codes "forget") text g (refl, refl) (refl, (refl, refl)) refl first
  call_seen g b Working text same is backed first = absurd (cc)
  call_seen g b Prepared text same is backed first = absurd (cc)
  call_seen g b Over text same is backed first = absurd (cc)
  call_seen g b Owed text same is backed first = absurd (cc)

  -- by how it stands
  standing_seen : (g : Gtrid) (t : ℕ) (standing : NotedStanding) (text : List ℕ) → OutcomeRests asked g t standing → HasFirst (standing_word standing) text
      → ReplySeen g text
  standing_seen g t standings.Committed text rests first =
      let saw = saw_commit g t rests in only_commit (codes "committed") text g saw.gtrid saw.same (refl, (refl, refl)) refl first saw.saw
  standing_seen g t (standings.RolledBack why) text rests first =
      let saw = saw_rollback g t rests in only_rollback (codes "rolled-back") text g saw.gtrid saw.same (refl, refl) refl first saw.saw
  standing_seen g t standings.Unknown text rests first =
      let saw = saw_unknown g t rests in only_unknown (codes "unknown") text g saw.gtrid saw.same (refl, refl) (refl, (refl, refl)) first saw.saw
  standing_seen g t standings.Idle text rests first = nothing_told (codes "joined") text g (refl, refl) (refl, (refl, refl)) refl first
  standing_seen g t standings.Open text rests first = nothing_told (codes "joined") text g (refl, refl) (refl, (refl, refl)) refl first
  standing_seen g t standings.Ready text rests first = nothing_told (codes "joined") text g (refl, refl) (refl, (refl, refl)) refl first

  told_seen : (t : Transaction) (text : List ℕ) → TransactionRests asked t → TellsOf t text → ReplySeen t.gtrid text
  told_seen t text rests told_of = by (has_calls t) told_of
    where
      by : (calls : Bool) → MatchBool calls (TellsCall t.parts.items text) (HasFirst (standing_word t.standing) text) → ReplySeen t.gtrid text
      by true call =
          call_seen t.gtrid (branch_at_rm t.gtrid t.thread call.part.rm) call.part.place text refl call.asked
          (All-contains (IsBacked asked t.gtrid t.thread) t.parts.items call.part rests.parts call.among) call.first
      by false first = standing_seen t.gtrid t.thread t.standing text rests.outcome first

  -- and of the transaction of the thread that moved
  pub record PartSeen (noted : List Transaction) (part text : List ℕ) : Type 0 where
    pub gtrid : Gtrid
    pub moved : TellsOutcome text → IsMoved noted part gtrid
    pub committed : TellsCommitted text → TellsCommit gtrid told
    pub rolled_back : TellsRolledBack text → TellsRollback gtrid told
    pub unknown : TellsUnknown text → LeavesUnknown gtrid told

  no_outcome : (noted : List Transaction) (part v text : List ℕ) → is_no_commit v → is_no_rollback v → is_known v → HasFirst v text
      → PartSeen noted part text
  no_outcome noted part v text apart none known first = record {
    gtrid = any_name;
    moved = λ w.
        elim w [
          | inl commit ↦ absurd (no_commit v text apart first commit)
          | inr other ↦
              elim other [
                | inl rollback ↦ absurd (no_rollback v text none first rollback)
                | inr unknown ↦ absurd (no_unknown v text known first unknown)
              ]
        ];
    committed = λ w. absurd (no_commit v text apart first w);
    rolled_back = λ w. absurd (no_rollback v text none first w);
    unknown = λ w. absurd (no_unknown v text known first w);
  }
    where
      any_name : Gtrid
      any_name = record { incarnation = 0; sequence = 0 }

  -- the name is the one that was noted
  name_noted : (noted after : List Transaction) (t : ℕ) (text : List ℕ) (tells_so : TellsSo asked noted after t text) (g : Gtrid)
      → (is_gtrid tells_so.transaction.gtrid ≡ true → g ≡ tells_so.transaction.gtrid) → (d : Transaction)
      → is_gtrid (get_or noted t d).gtrid ≡ true → g ≡ (get_or noted t d).gtrid
  name_noted noted after t text tells_so g same d fit =
      let e : tells_so.transaction.gtrid ≡ (get_or noted t d).gtrid =
      tells_so.name ∙ ap (λ (x : Transaction). x.gtrid) (get_or_default noted t tells_so.transaction d tells_so.among) in
      same (subst (λ (h : Gtrid). is_gtrid h ≡ true) (sym e) fit) ∙ e

  reply_in : (noted after : List Transaction) (part : List ℕ) (thread : Option ℕ) (text : List ℕ) → thread_in part ≡ thread → IsReply asked noted after thread text
      → PartSeen noted part text
  reply_in noted after part (Some t) text at (inl tells_so) =
      let saw = told_seen tells_so.transaction text tells_so.rests (reply_first tells_so.transaction tells_so.next text tells_so.is) in
      record {
        gtrid = saw.gtrid;
        moved = λ w. record { thread = t; moves = at; among = tells_so.among; name = name_noted noted after t text tells_so saw.gtrid saw.same };
        committed = saw.committed;
        rolled_back = saw.rolled_back;
        unknown = saw.unknown;
      }
  reply_in noted after part (Some t) text at (inr (inl started)) =
      no_outcome noted part (codes "started") text (refl, refl) (refl, (refl, refl)) refl (start_first text started)
  reply_in noted after part (Some t) text at (inr (inr error)) =
      no_outcome noted part (codes "error") text (refl, refl) (refl, (refl, refl)) refl (error_first text error)
  reply_in noted after part None text at error = no_outcome noted part (codes "error") text (refl, refl) (refl, (refl, refl)) refl (error_first text error)

  reply_seen : (noted after : List Transaction) (part text : List ℕ) → IsReplyTo asked noted after part text → PartSeen noted part text
  reply_seen noted after part text reply = reply_in noted after part (thread_in part) text refl reply

-- ** in one of the sessions

module _ {L : Type 0} (moment : L → Moment) (name : List ℕ) where
  record WasSeen (noted : List Transaction) (last : Option (Server L)) (f : Branch → Standing) (served : AreServed moment name last f) (part text : List ℕ)
      : Type 0 where
    gtrid : Gtrid
    moved : TellsOutcome text → IsMoved noted part gtrid
    committed : TellsCommitted text → WasToldCommitServed moment name gtrid last f served
    rolled_back : TellsRolledBack text → WasToldRollbackServed moment name gtrid last f served
    unknown : TellsUnknown text → WasLeftUnknown moment name gtrid last f served

  record AreSeen (noted : List Transaction) (line text : List ℕ) (last : Option (Server L)) (f : Branch → Standing) (served : AreServed moment name last f)
      : Type 0 where
    replies : List (List ℕ)
    are : text ≡ joined_replies replies
    each : ArePairedInOrder (WasSeen noted last f served) (parts_of line) replies

  were_seen : (noted after : List Transaction) (line text : List ℕ) (last : Option (Server L)) (f : Branch → Standing) (served : AreServed moment name last f)
      → WasReplied moment name noted after line text last f served → AreSeen noted line text last f served
  were_seen noted after line text _ _ NoneYet was = absurd was
  were_seen noted after line text _ _ (OneMore last from to handed o told seen now left done cut before handed_on is is_left honest may) (inl replied) = record {
    replies = replied.replies;
    are = replied.are;
    each =
        paired_weaker (IsReplyTo (was_done (lines_read name is.lines) is.replies) noted after)
        (WasSeen noted (Some left) to (OneMore last from to handed o told seen now left done cut before handed_on is is_left honest may))
        (λ part r reply.
        let saw = reply_seen moment name handed o told now is noted after part r reply in
        record {
          gtrid = saw.gtrid;
          moved = saw.moved;
          committed = λ w. inl (saw.committed w);
          rolled_back = λ w. inl (saw.rolled_back w);
          unknown = λ w. inl (saw.unknown w);
        })
        (parts_of line) replied.replies replied.each;
  }
  were_seen noted after line text _ _ (OneMore last from to handed o told seen now left done cut before handed_on is is_left honest may) (inr earlier) =
      let saw = were_seen noted after line text last from before earlier in
      record {
        replies = saw.replies;
        are = saw.are;
        each =
            paired_weaker (WasSeen noted last from before)
            (WasSeen noted (Some left) to (OneMore last from to handed o told seen now left done cut before handed_on is is_left honest may))
            (λ part r s.
            record {
              gtrid = s.gtrid;
              moved = s.moved;
              committed = λ w. inr (s.committed w);
              rolled_back = λ w. inr (s.rolled_back w);
              unknown = λ w. inr (s.unknown w);
            })
            (parts_of line) saw.replies saw.each;
      }
  were_seen noted after line text _ _ (Between last from to d how before was_prepared final) was =
      let saw = were_seen noted after line text last from before was in
      record {
        replies = saw.replies;
        are = saw.are;
        each =
            paired_weaker (WasSeen noted last from before) (WasSeen noted last to (Between last from to d how before was_prepared final))
            (λ part r s.
            record { gtrid = s.gtrid; moved = s.moved; committed = s.committed; rolled_back = s.rolled_back; unknown = s.unknown })
            (parts_of line) saw.replies saw.each;
      }

  -- ** what is noted

  -- one of these sessions saw it
  abbrev InSome : (Seen → Type 0) → (last : Option (Server L)) (f : Branch → Standing) → AreServed moment name last f → Type 0
  InSome Saw _ _ NoneYet = ⊥
  InSome Saw _ _ (OneMore last from to handed o told seen now left done cut before handed_on is is_left honest may) = Saw told ⊎ InSome Saw last from before
  InSome Saw _ _ (Between last from to d how before was_prepared final) = InSome Saw last from before

  some_noted : (t : Transaction) (Saw : Seen → Type 0)
      → ((handed : L) (o : Origin) (told : Seen) (now : Server L) (is : IsSession moment name handed o told now)
      → TransactionRests (was_done (lines_read name is.lines) is.replies) t → Saw told)
      → (last : Option (Server L)) (f : Branch → Standing) (served : AreServed moment name last f) → WasNoted moment name t last f served
      → InSome Saw last f served
  some_noted t Saw so _ _ NoneYet was = absurd was
  some_noted t Saw so _ _ (OneMore last from to handed o told seen now left done cut before handed_on is is_left honest may) (inl rests) =
      inl (so handed o told now is rests)
  some_noted t Saw so _ _ (OneMore last from to handed o told seen now left done cut before handed_on is is_left honest may) (inr earlier) =
      inr (some_noted t Saw so last from before earlier)
  some_noted t Saw so _ _ (Between last from to d how before was_prepared final) was = some_noted t Saw so last from before was

-- ** of which nobody knows

-- the xa_commit in one phase waited
issued_handed : (g : Gtrid) (l : Line) (seen : Seen) → IsIssuedAtOnce g l seen → IsHandedOver g seen
issued_handed g l Start s = absurd s
issued_handed g l (Did seen (Issued m (Calls.Commit b true))) (inl here) = inl here.0
issued_handed g l (Did seen (Issued m (Calls.Commit b true))) (inr earlier) = inr (issued_handed g l seen earlier)
issued_handed g l (Did seen e) s = issued_handed g l seen s
issued_handed g l (Answered seen m c a) s = issued_handed g l seen s
issued_handed g l (Lost seen m c) s = issued_handed g l seen s

unknown_handed : {L : Type 0} (moment : L → Moment) (name : List ℕ) (g : Gtrid) (last : Option (Server L)) (f : Branch → Standing)
    (served : AreServed moment name last f) → WasLeftUnknown moment name g last f served → WasToldHandedOver moment name g last f served
unknown_handed moment name g _ _ NoneYet was = absurd was
unknown_handed moment name g _ _ (OneMore last from to handed o told seen now left done cut before handed_on is is_left honest may) (inl left_so) =
    inl (issued_handed g left_so.line told left_so.issued)
unknown_handed moment name g _ _ (OneMore last from to handed o told seen now left done cut before handed_on is is_left honest may) (inr earlier) =
    inr (unknown_handed moment name g last from before earlier)
unknown_handed moment name g _ _ (Between last from to d how before was_prepared final) was = unknown_handed moment name g last from before was

-- ** after all sessions

module _ {L : Type 0} (moment : L → Moment) (commits : ServedCommitStands moment) (row_stays : ServedCommitRowStays moment)
    (rolls_back : ServedRollbackStands moment) (is_alone : ServedHandedOverIsAlone moment) where
  committed_there : (name : List ℕ) (last : Server L) (f : Branch → Standing) (c : Content) (served : AreServed moment name (Some last) f) (g : Gtrid)
      → LeavesContent moment last.session.manager c → WasToldCommitServed moment name g (Some last) f served → IsCommittedInLog f c g
  committed_there name last f c served g left told =
      record { each = commits name (Some last) f served g told; row_stays = row_stays name last f c served g left told }

  pub replies_true : RepliesAreTrue moment
  replies_true name last f c served noted after line text left was =
      let saw = were_seen moment name noted after line text (Some last) f served was in
      record {
        replies = saw.replies;
        are = saw.are;
        each =
            paired_weaker (WasSeen moment name noted (Some last) f served) (ReplyIsSo moment name (Some last) f served c noted)
            (λ part r s.
            record {
              gtrid = s.gtrid;
              moved = s.moved;
              committed = λ w. committed_there name last f c served s.gtrid left (s.committed w);
              rolled_back = λ w. rolls_back name (Some last) f served s.gtrid (s.rolled_back w);
              unknown = s.unknown;
              alone = λ w.
                  is_alone name (Some last) f served s.gtrid (unknown_handed moment name s.gtrid (Some last) f served (s.unknown w));
            })
            (parts_of line) saw.replies saw.each;
      }

  pub notes_true : NotesAreTrue moment
  notes_true name last f c served t left was fit = by t.standing refl
    where
      by : (s : NotedStanding) → t.standing ≡ s → NoteIsSo moment name (Some last) f served c t.gtrid s
      by standings.Committed is =
          committed_there name last f c served t.gtrid left
          (some_noted moment name t (TellsCommit t.gtrid)
          (λ handed o told now of rests.
          let saw =
          saw_commit moment name handed o told now of t.gtrid t.thread
          (subst (OutcomeRests (was_done (lines_read name of.lines) of.replies) t.gtrid t.thread) is rests.outcome) in
          subst (λ h. TellsCommit h told) (saw.same fit) saw.saw)
          (Some last) f served was)
      by (standings.RolledBack why) is =
          rolls_back name (Some last) f served t.gtrid
          (some_noted moment name t (TellsRollback t.gtrid)
          (λ handed o told now of rests.
          let saw =
          saw_rollback moment name handed o told now of t.gtrid t.thread
          (subst (OutcomeRests (was_done (lines_read name of.lines) of.replies) t.gtrid t.thread) is rests.outcome) in
          subst (λ h. TellsRollback h told) (saw.same fit) saw.saw)
          (Some last) f served was)
      by standings.Unknown is =
          let unknown =
          some_noted moment name t (LeavesUnknown t.gtrid)
          (λ handed o told now of rests.
          let saw =
          saw_unknown moment name handed o told now of t.gtrid t.thread
          (subst (OutcomeRests (was_done (lines_read name of.lines) of.replies) t.gtrid t.thread) is rests.outcome) in
          subst (λ h. LeavesUnknown h told) (saw.same fit) saw.saw)
          (Some last) f served was in
          (unknown, is_alone name (Some last) f served t.gtrid (unknown_handed moment name t.gtrid (Some last) f served unknown))
      by standings.Idle is = tt
      by standings.Open is = tt
      by standings.Ready is = tt

-- ** of decisions alone

-- the request decides the transaction so
abbrev is_decision : Outcome → Gtrid → Request → Bool
is_decision outcomes.Commit = is_commit_of
is_decision outcomes.Rollback = is_rollback_of

decision_passes : (o : Outcome) (g : Gtrid) (asked : Option Request) → IsDecisionOf o g asked → list_any (is_decision o g) (done_by asked responses.Decided) ≡ true
decision_passes outcomes.Commit g (Some (requests.Decide gs decided)) is = by decided is.0 is.1
  where
    by : (decided : Outcome) → decided ≡ outcomes.Commit → list_any (is_same g) gs ≡ true
        → (is_commit_of g (requests.Decide gs decided) || false) ≡ true
    by outcomes.Commit e same = or_left _ _ same
    by outcomes.Rollback e same = absurd (cc)
decision_passes outcomes.Rollback g (Some (requests.Decide gs decided)) is = by decided is.0 is.1
  where
    by : (decided : Outcome) → decided ≡ outcomes.Rollback → list_any (is_same g) gs ≡ true
        → (is_rollback_of g (requests.Decide gs decided) || false) ≡ true
    by outcomes.Rollback e same = or_left _ _ same
    by outcomes.Commit e same = absurd (cc)
decision_passes outcomes.Commit g _ is = absurd is
decision_passes outcomes.Rollback g _ is = absurd is

later_passes : (p : Request → Bool) (l : List ℕ) (ls : List (List ℕ)) (r : Response) (rs : List Response) → list_any p (done_of ls rs) ≡ true
    → list_any p (done_of (l ∷ ls) (r ∷ rs)) ≡ true
later_passes p l ls r rs later =
    list_any-append p (done_by (asked_in l) r) (done_of ls rs) ∙ or_right (list_any p (done_by (asked_in l) r)) (list_any p (done_of ls rs)) later

decided_done : (o : Outcome) (g : Gtrid) (ls : List (List ℕ)) (rs : List Response) → SaysDecided o g ls rs
    → list_any (is_decision o g) (done_of ls rs) ≡ true
decided_done o g (l ∷ ls) (responses.Decided ∷ rs) (inl here) =
    list_any-append (is_decision o g) (done_by (asked_in l) responses.Decided) (done_of ls rs)
    ∙ or_left (list_any (is_decision o g) (done_by (asked_in l) responses.Decided)) (list_any (is_decision o g) (done_of ls rs))
    (decision_passes o g (asked_in l) here)
decided_done o g (l ∷ ls) (responses.Decided ∷ rs) (inr later) = later_passes (is_decision o g) l ls responses.Decided rs (decided_done o g ls rs later)
decided_done o g (l ∷ ls) (r ∷ rs) said = later_passes (is_decision o g) l ls r rs (decided_done o g ls rs said)
decided_done o g [] rs said = absurd said
decided_done o g (l ∷ ls) [] said = absurd said

module _ {L : Type 0} (moment : L → Moment) (name : List ℕ) where
  commit_told : (g : Gtrid) (last : Option (Server L)) (f : Branch → Standing) (served : AreServed moment name last f)
      → WasDecided moment name outcomes.Commit g last f served → WasToldCommitServed moment name g last f served
  commit_told g _ _ NoneYet was = absurd was
  commit_told g _ _ (OneMore last from to handed o told seen now left done cut before handed_on is is_left honest may) (inl said) =
      inl (inl (saw_decided moment name handed o told now is g (decided_done outcomes.Commit g (lines_read name is.lines) is.replies said)))
  commit_told g _ _ (OneMore last from to handed o told seen now left done cut before handed_on is is_left honest may) (inr earlier) =
      inr (commit_told g last from before earlier)
  commit_told g _ _ (Between last from to d how before was_prepared final) was = commit_told g last from before was

  rollback_told : (g : Gtrid) (last : Option (Server L)) (f : Branch → Standing) (served : AreServed moment name last f)
      → WasDecided moment name outcomes.Rollback g last f served → WasToldRollbackServed moment name g last f served
  rollback_told g _ _ NoneYet was = absurd was
  rollback_told g _ _ (OneMore last from to handed o told seen now left done cut before handed_on is is_left honest may) (inl said) =
      inl (inl (saw_undone moment name handed o told now is g (decided_done outcomes.Rollback g (lines_read name is.lines) is.replies said)))
  rollback_told g _ _ (OneMore last from to handed o told seen now left done cut before handed_on is is_left honest may) (inr earlier) =
      inr (rollback_told g last from before earlier)
  rollback_told g _ _ (Between last from to d how before was_prepared final) was = rollback_told g last from before was

not_undone : (s : Standing) → IsUndone s → MayStandCommitted s → ⊥
not_undone s (inl e) may = subst MayStandCommitted e may
not_undone s (inr e) may = subst MayStandCommitted e may

pub decisions_true : {L : Type 0} (moment : L → Moment) → ServedCommitStands moment → ServedRollbackStands moment → OutcomesAreTrue moment
decisions_true moment commits rolls_back name last f served b = (
  λ was undone. not_undone (f b) undone (commits name last f served b.gtrid (commit_told moment name b.gtrid last f served was) b refl),
  λ was. rolls_back name last f served b.gtrid (rollback_told moment name b.gtrid last f served was) b refl,
)
