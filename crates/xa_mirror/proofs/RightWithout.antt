-- A right history is right without a decision about which nothing was done.
use Rattle.std.proofs.Common.{◌≡◌, ◌⊎◌, inl, inr, ◌<◌, ◌+◌, ℕ, List, [], ◌∷◌, length, Bool, true, false, ◌&&◌, ◌||◌, refl, sym, ap, ◌∙◌, subst}
use Rattle.std.specs.Prelude.{if◌then◌else◌, nat_eq, nat_lt, Option, Some, None}
use Rattle.xa_base.specs.Branch.{gtrid_eq}
use Rattle.xa_base.specs.Opening.{has_closed}
use Rattle.xa_base.specs.Standing.{is_in_doubt}
use Rattle.xa_base.specs.StateTable.{answer, asks_of, state_of}
use Rattle.xa_base.specs.declared.answer.Answer.TheVariants.{Page, Ret}
use Rattle.xa_base.specs.declared.call.Call.TheVariants as Calls
use Rattle.xa_base.specs.declared.step.Outcome.TheVariants as Outcome
use Rattle.xa_mirror.proofs.FactsWithout.{begun_is, handed_is, incarnation_is, lately_is, log_is, next_answer_is, records_are, retries_are, sequence_is, standing_is, started_is, told_is, up_is, vote_is}
use Rattle.xa_mirror.proofs.LinesWithout.{claimed_is, issued_are, live_free, live_still, next_call_is, record_is, rolled_back_is, row_there}
use Rattle.xa_mirror.proofs.RowsWithout.{others_apart, others_wait}
use Rattle.xa_mirror.specs.HistoryWithout.{IsLeftUntouched, IsRightWithout, LeavesUntouched, fault_without, history_without, others}
use Rattle.xa_model.proofs.Invariant.RowLists.{without_keeps}
use Rattle.xa_model.specs.Facts.{acknowledges, claimed, decided_so, each_of_some, handed_over, is_settled, is_settled_lately, issued, log, outlived, participants, participants_in, says_read_only, says_yes, says_yes_in}
use Rattle.xa_model.specs.Facts.Distinct.{EachOnce}
use Rattle.xa_model.specs.Protocol.{AllHaveVoted, AllRight, HasVoted, IsKnown, IsOpen, IsRowSettled, IsSoundPage, MayBeCalled, Right, RightCall, RightDecision, RightDone, RightFault, RightIssue, RightRow, SoundAnswer, call_code}
use Rattle.xa_model.specs.Trace.{Answer, Branch, Call, Fault, Fault.InDecide, Fault.InDone, Fault.InHear, Fault.InResolve, Fault.InRestart, Gtrid, Happening, Happening.Begun, Happening.Claimed, Happening.CompletedAlone, Happening.Decided, Happening.Done, Happening.Failed, Happening.Heard, Happening.Issued, Happening.Nothing, Happening.Resolved, Happening.ResolvedOpen, Happening.Restarted, Happening.Took, Kind, Kind.Commit, Kind.End, Kind.Forget, Kind.Join, Kind.OnePhase, Kind.Prepare, Kind.Rollback, Kind.Start, Line, Outcome as AnOutcome, Trace, Trace.From, Trace.Then, line}

module _ (g : Gtrid) (tr : Trace) (still : IsLeftUntouched g tr) where
  abbrev ur : Trace
  ur = history_without g tr

  -- ** votes and claims

  voted : (b : Branch) → HasVoted tr b → HasVoted ur b
  voted b (inl said) = inl (told_is g tr (says_yes b) ∙ said)
  voted b (inr read) = inr (told_is g tr (says_read_only b) ∙ read)

  all_voted : (h : Gtrid) → AllHaveVoted tr h → AllHaveVoted ur h
  all_voted h all b q s = voted b (all b q (sym (started_is g tr b) ∙ s))

  open_still : (h : Gtrid) → IsOpen tr h → IsOpen ur h
  open_still h is = record {
    is_live = live_still g tr still h is.is_live;
    unclaimed = claimed_is g tr h (live_free g tr h is.is_live) ∙ is.unclaimed;
  }

  right_decision : (h : Gtrid) (outcome : AnOutcome) → RightDecision tr h outcome → RightDecision ur h outcome
  right_decision h outcome r = record {
    is_up = up_is g tr ∙ r.is_up;
    is_live = live_still g tr still h r.is_live;
    votes = λ commits. by (r.votes commits);
  }
    where
      by : AllHaveVoted tr h ⊎ (claimed tr h ≡ true) → AllHaveVoted ur h ⊎ (claimed ur h ≡ true)
      by (inl all) = inl (all_voted h all)
      by (inr is) = inr (claimed_is g tr h (live_free g tr h r.is_live) ∙ is)

  right_row : (h : Gtrid) → RightRow tr h → RightRow ur h
  right_row h r = (right_decision h Outcome.Commit r.0, told_is g tr (says_yes_in h) ∙ r.1)

  -- ** calls

  -- it is no xa_commit of the transaction
  abbrev IsNoCommit : Kind → Branch → Type 0
  IsNoCommit Commit b = gtrid_eq b.gtrid g ≡ false
  IsNoCommit _ b = Unit

  outlived_is : (h : Gtrid) → gtrid_eq h g ≡ false → outlived ur h ≡ outlived tr h
  outlived_is h apart = λ i. nat_lt h.incarnation (incarnation_is g tr i) && row_there g tr h apart i

  known : (k : Kind) (b : Branch) → IsNoCommit k b → IsKnown tr k b.gtrid → IsKnown ur k b.gtrid
  known Commit b apart is = (λ i. begun_is g tr b.gtrid i || outlived_is b.gtrid apart i) ∙ is
  known _ b apart is = begun_is g tr b.gtrid ∙ is

  ended : (h : Gtrid) → (decided_so Outcome.Rollback tr h ≡ true) ⊎ (handed_over tr h ≡ true)
      → (decided_so Outcome.Rollback ur h ≡ true) ⊎ (handed_over ur h ≡ true)
  ended h (inl rolled) = inl (rolled_back_is g tr still h ∙ rolled)
  ended h (inr handed) = inr (handed_is g tr h ∙ handed)

  may_be : (k : Kind) (b : Branch) → IsNoCommit k b → MayBeCalled tr k b → MayBeCalled ur k b
  may_be Start b apart m = (started_is g tr b ∙ m.0, open_still b.gtrid m.1)
  may_be Join b apart m = (started_is g tr b ∙ m.0, open_still b.gtrid m.1)
  may_be (End fail) b apart m = tt
  may_be Prepare b apart m = open_still b.gtrid m
  may_be OnePhase b apart m = (open_still b.gtrid m.0, (started_is g tr b ∙ m.1.0, λ c q s. m.1.1 c q (sym (started_is g tr c) ∙ s)))
  may_be Commit b apart m = row_there g tr b.gtrid apart ∙ m
  may_be Rollback b apart m = ended b.gtrid m
  may_be Forget b apart m = record_is g tr b ∙ m

  right_call : (l : Line) (k : Kind) (b : Branch) → IsNoCommit k b → RightCall tr l k b → RightCall ur l k b
  right_call l k b apart r = record {
    known = known k b apart r.known;
    own_rm = r.own_rm;
    own_thread = r.own_thread;
    may_be = may_be k b apart r.may_be;
  }

  right_issue : (l : Line) (c : Call) → LeavesUntouched g tr (Issued l c) → RightIssue tr l c → RightIssue ur l c
  right_issue l (Calls.Start b false) leaves r = right_call l Start b tt r
  right_issue l (Calls.Start b true) leaves r = right_call l Join b tt r
  right_issue l (Calls.End b fail) leaves r = right_call l (End fail) b tt r
  right_issue l (Calls.Prepare b) leaves r = right_call l Prepare b tt r
  right_issue l (Calls.Commit b true) leaves r = right_call l OnePhase b tt r
  right_issue l (Calls.Commit b false) leaves r = right_call l Commit b leaves r
  right_issue l (Calls.Rollback b) leaves r = right_call l Rollback b tt r
  right_issue l (Calls.Forget b) leaves r = right_call l Forget b tt r
  right_issue l _ leaves r = r

  not_closed : (l : Line) → has_closed (issued tr l) ≡ false → has_closed (issued ur l) ≡ false
  not_closed l r = ap has_closed (issued_are g tr still l) ∙ r

  -- ** answers

  code_is : (x : Option (Kind × Branch)) → call_code ur x ≡ call_code tr x
  code_is None = refl
  code_is (Some (k, b)) = λ i. answer k (state_of (standing_is g tr b i)) (vote_is g tr b i) (retries_are g tr b i)

  sound_page : (r : ℕ) (a : Answer) → IsSoundPage tr r a → IsSoundPage ur r a
  sound_page r (Page names) sound = λ b lists. ap (λ f. nat_eq b.rm r && is_in_doubt f) (standing_is g tr b) ∙ sound b lists
  sound_page r (Ret code) sound = tt

  sound_answer : (l : Line) (c : Call) (a : Answer) → SoundAnswer tr l c a → SoundAnswer ur l c a
  sound_answer l (Calls.Recover n s e) a sound = sound_page l.rm a sound
  sound_answer l c a sound = sound ∙ sym (ap (λ code. Ret code) (code_is (asks_of c)))

  -- ** what leaves the log

  settled_is : (b : Branch) → is_settled ur b ≡ is_settled tr b
  settled_is b = λ i. record_is g tr b i || (told_is g tr (says_read_only b) i || told_is g tr (acknowledges b) i)

  lately_settled_is : (b : Branch) → is_settled_lately ur b ≡ is_settled_lately tr b
  lately_settled_is b = λ i. record_is g tr b i || lately_is g tr (acknowledges b) i

  participants_are : (h : Gtrid) → gtrid_eq h g ≡ false → participants ur h ≡ participants tr h
  participants_are h apart = ap (λ xs. participants_in xs h) (log_is g tr) ∙ others_wait g h (log tr) apart

  row_settled : (h : Gtrid) → gtrid_eq h g ≡ false → IsRowSettled tr h → IsRowSettled ur h
  row_settled h apart (inl own) = inl (
    begun_is g tr h ∙ own.0,
    λ b q s. settled_is b ∙ own.1 b q (sym (started_is g tr b) ∙ s),
  )
  row_settled h apart (inr old) = inr (
    outlived_is h apart ∙ old.0,
    (λ i. each_of_some (λ b. lately_settled_is b i) (participants_are h apart i)) ∙ old.1,
  )

  right_done : (h : Gtrid) → gtrid_eq h g ≡ false → RightDone tr h → RightDone ur h
  right_done h apart r = record {
    is_up = up_is g tr ∙ r.is_up;
    has = row_there g tr h apart ∙ r.has;
    is_settled = row_settled h apart r.is_settled;
  }

  -- ** a log that failed

  each_row : (gs : List Gtrid) → EachOnce (RightRow tr) gs → EachOnce (RightRow ur) (others g gs)
  each_row [] each = tt
  each_row (h ∷ gs) each = by (gtrid_eq h g) (each_row gs each.2)
    where
      by : (t : Bool) → EachOnce (RightRow ur) (others g gs) → EachOnce (RightRow ur) (if t then others g gs else h ∷ others g gs)
      by true rest = rest
      by false rest = (right_row h each.0, others_apart g h gs each.1, rest)

  each_done : (gs : List Gtrid) → EachOnce (RightDone tr) gs → EachOnce (RightDone ur) (others g gs)
  each_done [] each = tt
  each_done (h ∷ gs) each = by (gtrid_eq h g) refl (each_done gs each.2)
    where
      by : (t : Bool) → gtrid_eq h g ≡ t → EachOnce (RightDone ur) (others g gs) → EachOnce (RightDone ur) (if t then others g gs else h ∷ others g gs)
      by true e rest = rest
      by false e rest = (right_done h e each.0, others_apart g h gs each.1, rest)

  right_fault : (f : Fault) → RightFault tr f → RightFault ur (fault_without g f)
  right_fault (InDecide gs) r = each_row gs r
  right_fault (InDone gs) r = each_done gs r
  right_fault (InHear l) r = up_is g tr ∙ r
  right_fault InResolve r = up_is g tr ∙ r
  right_fault InRestart r = up_is g tr ∙ r

  -- ** one happening more

  decided_or_not : (h : Gtrid) → RightDecision tr h Outcome.Commit → Right ur (if gtrid_eq h g then Nothing else Decided h Outcome.Commit)
  decided_or_not h r = by (gtrid_eq h g)
    where
      by : (t : Bool) → Right ur (if t then Nothing else Decided h Outcome.Commit)
      by true = tt
      by false = right_decision h Outcome.Commit r

  done_or_not : (h : Gtrid) → RightDone tr h → Right ur (if gtrid_eq h g then Nothing else Done h)
  done_or_not h r = by (gtrid_eq h g) refl
    where
      by : (t : Bool) → gtrid_eq h g ≡ t → Right ur (if t then Nothing else Done h)
      by true e = tt
      by false e = right_done h e r

  one_more : (e : Happening) → LeavesUntouched g tr e → Right tr e → AllRight ur → AllRight (history_without g (Then tr e))
  one_more (Begun h) leaves r all = (all, (up_is g tr ∙ r.0, r.1 ∙ sym (incarnation_is g tr), r.2 ∙ sym (ap (λ n. n + 1) (sequence_is g tr))))
  one_more (Issued l c) leaves r all = (all, (up_is g tr ∙ r.0, right_issue l c leaves r.1, not_closed l r.2))
  one_more (Resolved q) leaves r all = (all, (up_is g tr ∙ r.0, not_closed (line 0 q) r.1))
  one_more (ResolvedOpen q) leaves r all = (all, (up_is g tr ∙ r.0, not_closed (line 0 q) r.1))
  one_more (Claimed h) leaves r all = (
    all,
    record { is_up = up_is g tr ∙ r.is_up; is_live = live_still g tr still h r.is_live; votes = all_voted h r.votes },
  )
  one_more (Took l c a) leaves r all = (all, (next_call_is g tr still l ∙ r.0, sound_answer l c a r.1))
  one_more (Heard l c a) leaves r all = (all, (up_is g tr ∙ r.0, next_answer_is g tr l ∙ r.1))
  one_more (CompletedAlone b how) leaves r all = (all, standing_is g tr b ∙ r)
  one_more (Decided h Outcome.Commit) leaves r all = (all, decided_or_not h r)
  one_more (Decided h Outcome.Rollback) leaves r all = (all, right_decision h Outcome.Rollback r)
  one_more (Done h) leaves r all = (all, done_or_not h r)
  one_more (Failed f) leaves r all = (all, right_fault f r)
  one_more (Restarted i d h) leaves r all = (
    all,
    (
      up_is g tr ∙ r.0,
      subst (λ n. n < i) (sym (incarnation_is g tr)) r.1,
      sym (ap length (log_is g (Then tr (Restarted i d h)))),
      r.3 ∙ sym (ap length (records_are g (Then tr (Restarted i d h)))),
    ),
  )
  one_more _ leaves r all = (all, tt)

module _ (g : Gtrid) where
  all_right : (tr : Trace) → AllRight tr → IsLeftUntouched g tr → AllRight (history_without g tr)
  all_right (From x) old still = record {
    rows_old = λ h listed. old.rows_old h (without_keeps g h x.rows listed);
    record_old = old.record_old;
    clear = old.clear;
    foreign = old.foreign;
  }
  all_right (Then tr e) all still = one_more g tr still.0 e still.1 all.1 (all_right tr all.0 still.0)

  pub right_without : (tr : Trace) → AllRight tr → IsLeftUntouched g tr → IsRightWithout g tr
  right_without tr all still = record {
    right = all_right tr all still;
    there = standing_is g tr;
    rows = log_is g tr;
    records = records_are g tr;
    incarnation_is = incarnation_is g tr;
  }
