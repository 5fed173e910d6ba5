-- The right history of several sessions, which leaves each branch where it stands, and its parts:
-- `IsReached` of `xa_monitor`, with these.
use Rattle.std.proofs.Common.{◌≡◌, ◌<◌, ◌⊎◌, inl, inr, ℕ, List, [], length, Bool, true, false, refl, sym, ap, ◌∙◌, subst, arith}
use Rattle.std.proofs.lemmas.Bool.Decides.{nat_tests}
use Rattle.std.proofs.lemmas.List.Elements.{at_from_Contains}
use Rattle.std.specs.Prelude.{Contains, if◌then◌else◌, nat_lt, Option}
use Rattle.xa_base.proofs.BranchKeys.{branch_eq-true}
use Rattle.xa_base.specs.Branch.{branch_eq, xid_of_branch}
use Rattle.xa_base.specs.HeldBranch.{HeldBranch, new_branch}
use Rattle.xa_base.specs.StateTable.{broken, completed, state_of}
use Rattle.xa_base.specs.Xid.{Xid}
use Rattle.xa_base.specs.declared.state.Standing.{Standing}
use Rattle.xa_base.specs.declared.state.Standing.TheVariants.{Completed, Prepared, Unstarted}
use Rattle.xa_base.specs.declared.step.Part.TheVariants as Part
use Rattle.xa_model.proofs.Invariant.{Inv}
use Rattle.xa_model.proofs.Invariant.Preservation.{always}
use Rattle.xa_model.proofs.NameLemmas.OwnNames.{own_name}
use Rattle.xa_model.proofs.ProcessLemmas.SameParts.{Faces}
use Rattle.xa_model.proofs.ProcessLemmas.Facing.{faces_after}
use Rattle.xa_model.proofs.ProcessLemmas.Joining.{gone_right}
use Rattle.xa_model.proofs.ProcessLemmas.Leaving.{fits_branch}
use Rattle.xa_model.proofs.ProcessLemmas.SameLogs.{rows_again, records_again}
use Rattle.xa_model.specs.Facts.{fits, held_of, incarnation, origin, retries, standing, vote}
use Rattle.xa_model.specs.Facts.InDoubt.{name_of}
use Rattle.xa_model.specs.Promises.Processes.{AllAreNamed, Resumes, gone, held_in, resumed}
use Rattle.xa_model.specs.Protocol.{AllRight, IsRun, OldOrigin}
use Rattle.xa_model.specs.Trace.{Branch, Fault, Happening.CompletedAlone, Happening.Crashed, Happening.Restarted, How, Line, Name.Ours, Origin, Trace, Trace.Then}
use Rattle.xa_monitor.proofs.Books.{finds_same}
use Rattle.xa_monitor.proofs.Choices.{behind_right, same_there}
use Rattle.xa_monitor.proofs.LaterStarts.{asks_if, broken_failed, history_back, named_failed, none_begun, not_begun, origin_failed, prepared_whole, rules_back, run_failed, stands_back}
use Rattle.xa_monitor.proofs.Names.{done_named, waiting_named}
use Rattle.xa_monitor.proofs.UntoldCalls.{LeavesThere, ended_named}
use Rattle.xa_monitor.specs.Across.{IsKnownAsLeft, continued_by}
use Rattle.xa_monitor.specs.Agreement.{MayAllStand}
use Rattle.xa_monitor.specs.Explained.{IsExplained}
use Rattle.xa_monitor.specs.Seen.{IsHistory, Seen}
use Rattle.xa_monitor.specs.Sessions.{AfterSessions, AfterSessions.Between, AfterSessions.NoneYet, AfterSessions.OneMore, Finds, FindsLog, IsSession, Log, Log.Empty, Log.LeftBy, failed_in, nothing_yet}
use Rattle.xa_monitor.specs.Standings.{Comes}
use Rattle.xa_outcomes.proofs.Untold.{LeavesUntold, leaves_untold}
use Rattle.xa_outcomes.specs.Parts.{IsOfSessions, IsPart}

-- there is one right history of all that happened. It leaves each branch where it stands, except
-- that what was open may be lost already; and the next start finds the rows and records of it
pub record IsOneHistory (log : Log) (f : Branch → Standing) (after : AfterSessions log f) : Type 0 where
  pub whole : Trace
  pub right : AllRight whole
  pub there : (b : Branch) → broken (standing whole b) ≡ broken (f b)
  pub named : AllAreNamed whole
  pub finds : (next : Origin) → Finds log next → FindsLog whole next
  pub parts : IsOfSessions log f after whole

-- ** none yet

either_unstarted : (t : Bool) → (if t then new_branch else new_branch).standing ≡ Unstarted
either_unstarted true = refl
either_unstarted false = refl

nothing_named : (i : ℕ) → AllAreNamed (nothing_yet i)
nothing_named i b unfit = (
  ap (λ t. (if t then new_branch else new_branch).standing) unfit,
  ap (λ t. (if t then new_branch else new_branch).vote) unfit,
  ap (λ t. (if t then new_branch else new_branch).retries) unfit,
)

nothing_right : (i : ℕ) → AllRight (nothing_yet i)
nothing_right i = record {
  rows_old = λ g e. absurd (cc);
  record_old = λ b e. absurd (cc);
  clear = λ b. either_unstarted (fits b);
  foreign = λ r x c. absurd (none x c);
}
  where
    none : (x : Xid) → Contains [] x → ⊥
    none x c = let at = at_from_Contains [] x c in omega (arith, at.1)

none_reached : (i : ℕ) → IsOneHistory (Empty i) (λ b. Unstarted) (NoneYet i)
none_reached i = record {
  whole = nothing_yet i;
  right = nothing_right i;
  there = λ b. ap broken (either_unstarted (fits b));
  named = nothing_named i;
  finds = λ next found. found;
  parts = refl;
}

-- ** one more

-- A right history that goes on with a session, wherever its branches may then stand. The session
-- is the last part of it, and a start that finds what the session left finds the log of it.
pub record GoesOnWith (past : Trace) (to : Branch → Standing) (o : Origin) (seen : Seen) (fails : Option Fault) : Type 0 where
  pub whole : Trace
  pub right : AllRight whole
  pub there : (b : Branch) → broken (standing whole b) ≡ broken (to b)
  pub named : AllAreNamed whole
  pub finds : (next : Origin) → Finds (LeftBy o seen fails) next → FindsLog whole next
  pub part : IsPart o seen fails past whole
  pub explained : IsExplained o seen

module _ (past : Trace) (past_right : AllRight past) (past_named : AllAreNamed past) (from to : Branch → Standing)
    (stood : (b : Branch) → broken (standing past b) ≡ broken (from b)) (o : Origin) (found_log : FindsLog past o) (seen : Seen) (fails : Option Fault)
    (session : IsSession o seen fails) (done cut : List Line) (may : MayAllStand o seen (λ b. Comes seen b (broken (from b))) done cut to) where
  abbrev held : ℕ → Xid → HeldBranch
  held = λ q x. held_in past (name_of x)

  -- the start, with what the past has left at the resource managers
  abbrev start : Origin
  start = record o { held = held }

  held_so : (b : Branch) (t : Bool) → fits b ≡ t → held_of start b ≡ (if t then held_in past (Ours b) else new_branch)
  held_so b true e = ap (λ t. if t then held_in past (name_of (xid_of_branch b)) else new_branch) e ∙ ap (held_in past) (own_name b (fits_branch b e))
  held_so b false e = ap (λ t. if t then held_in past (name_of (xid_of_branch b)) else new_branch) e

  known : (b : Branch) → IsKnownAsLeft past start b
  known b = by (fits b) refl
    where
      by : (t : Bool) → fits b ≡ t → (held_of start b).standing ≡ standing (gone past) b
      by true e = ap (λ (h : HeldBranch). h.standing) (held_so b true e)
      by false e = ap (λ (h : HeldBranch). h.standing) (held_so b false e) ∙ sym (ap broken (past_named b e).0)

  votes_so : (b : Branch) (t : Bool) → fits b ≡ t → (held_of start b).vote ≡ vote past b
  votes_so b true e = ap (λ (h : HeldBranch). h.vote) (held_so b true e)
  votes_so b false e = ap (λ (h : HeldBranch). h.vote) (held_so b false e) ∙ sym (past_named b e).1

  retries_so : (b : Branch) (t : Bool) → fits b ≡ t → (held_of start b).retries ≡ retries past b
  retries_so b true e = ap (λ (h : HeldBranch). h.retries) (held_so b true e)
  retries_so b false e = ap (λ (h : HeldBranch). h.retries) (held_so b false e) ∙ sym (past_named b e).2

  resumes : Resumes past start
  resumes = record {
    later = found_log.later;
    rows = found_log.rows;
    records = found_log.records;
    states = λ b. ap state_of (known b);
    votes = λ b. votes_so b (fits b) refl;
    retries = λ b. retries_so b (fits b) refl;
  }

  is_old : OldOrigin start
  is_old = record { rows_old = session.old.rows_old; record_old = session.old.record_old; held_old = λ b. by b (nat_lt b.gtrid.incarnation o.incarnation) refl }
    where
      by : (b : Branch) (t : Bool) → nat_lt b.gtrid.incarnation o.incarnation ≡ t
          → ((held_of start b).standing ≡ Unstarted) ⊎ (b.gtrid.incarnation < o.incarnation)
      by b true e = inr (grind (arith, nat_tests, e))
      by b false e = inl (known b ∙ ap broken (not_begun (standing past b) (none_begun past b (always past past_right) later)))
        where
          later : incarnation past < b.gtrid.incarnation
          later = let l = found_log.later in grind (arith, nat_tests, e, l)

  there_at_start : (b : Branch) → broken (from b) ≡ (held_of start b).standing
  there_at_start b = sym (known b ∙ stood b)

  y : LeavesUntold start seen (λ p. p ≡ start) done cut to
  y = leaves_untold start seen is_old (rules_back o held seen session.keeps) done cut to
      (stands_back o held seen (λ b. Comes seen b (broken (from b))) (λ b. Comes seen b (held_of start b).standing)
      (λ b s c. subst (λ f. Comes seen b f s) (there_at_start b) c) done cut to may)

  abbrev x : LeavesThere start seen (λ p. p ≡ start) done cut to
  x = y.left

  told_history : IsHistory o seen x.told
  told_history = history_back o held seen x.told x.is_history

  abbrev last : Trace
  last = failed_in fails x.now

  last_runs : IsRun last
  last_runs = run_failed fails o seen x.now x.told session.may_fail told_history x.told_runs x.same x.runs

  last_start : origin last ≡ start
  last_start = origin_failed fails x.now ∙ x.start

  both : AllRight (continued_by (resumed past start) last) × Faces (gone past) (continued_by (resumed past start) last) last
  both = behind_right past start last past_right resumes last_start last_runs

  stands_so : (b : Branch) → standing (continued_by (resumed past start) last) b ≡ standing last b
  stands_so b = same_there past start last past_right resumes last_start last_runs b (known b)

  last_named : AllAreNamed last
  last_named = named_failed fails x.now (x.named
      (done_named o seen x.told told_history x.told_runs session.keeps session.on_branches)
      (λ l n c has e. waiting_named o seen x.told l n c told_history session.keeps session.on_branches e))

  -- what a start finds that finds what the session left
  finds_it : (next : Origin) → Finds (LeftBy o seen fails) next → FindsLog (continued_by (resumed past start) last) next
  finds_it next left = record {
    later = subst (λ n. n < next.incarnation) (sym both.1.deals.incarnation_is) own.later;
    rows = rows_again _ _ _ own.rows after.logs.rows;
    records = records_again _ _ _ own.records after.logs.records;
  }
    where
      own : FindsLog last next
      own = finds_same fails x.now x.told (asks_if fails o seen session.may_fail) x.same next (left x.told told_history x.told_runs)

      inv : Inv (gone past)
      inv = always (gone past) (gone_right past past_right)

      crashed : Faces (gone past) (gone (continued_by (resumed past start) last)) (gone last)
      crashed = faces_after (gone past) inv (continued_by (resumed past start) last) last both.1.deals both.1 (Crashed Part.Manager) tt

      after : Faces (gone past) (resumed (continued_by (resumed past start) last) next) (resumed last next)
      after = faces_after (gone past) inv (gone (continued_by (resumed past start) last)) (gone last) crashed.deals crashed
          (Restarted next.incarnation (length next.rows) (length next.heuristic_rows)) (refl, own.later, own.rows.number, own.records.number)

  pub goes_on : GoesOnWith past to o seen fails
  goes_on = record {
    whole = continued_by (resumed past start) last;
    right = both.0;
    there = λ b. ap broken (stands_so b) ∙ (broken_failed fails x.now b ∙ ap broken (x.there b));
    named = λ b unfit. let n = last_named b unfit in
        (stands_so b ∙ n.0, sym (both.1.held.votes b) ∙ n.1, sym (both.1.held.retries b) ∙ n.2);
    finds = finds_it;
    part = record { finds = found_log; told = x.told; is_history = told_history; now = x.now; untold = y.untold; joined = refl };
    explained = record { history = x.told; is_history = told_history; runs = x.told_runs };
  }

one_reached : (log : Log) (from to : Branch → Standing) (before : AfterSessions log from) → IsOneHistory log from before → (o : Origin) (found : Finds log o)
    (seen : Seen) (fails : Option Fault) (session : IsSession o seen fails) (done cut : List Line)
    (may : MayAllStand o seen (λ b. Comes seen b (broken (from b))) done cut to)
    → IsOneHistory (LeftBy o seen fails) to (OneMore log from to o seen fails done cut before found session may)
one_reached log from to before r o found seen fails session done cut may =
    let on = goes_on r.whole r.right r.named from to r.there o (r.finds o found) seen fails session done cut may in
    record {
      whole = on.whole;
      right = on.right;
      there = on.there;
      named = on.named;
      finds = on.finds;
      parts = (r.whole, r.parts, on.part);
    }

-- ** between two

module _ (log : Log) (from to : Branch → Standing) (before : AfterSessions log from) (r : IsOneHistory log from before) (d : Branch) (how : How)
    (was : from d ≡ Prepared)
    (final : (b : Branch) → to b ≡ (if branch_eq d b then Completed how else from b)) where
  prepared : standing r.whole d ≡ Prepared
  prepared = prepared_whole (standing r.whole d) (r.there d ∙ ap broken was)

  between : IsOneHistory log to (Between log from to d how before was final)
  between = record {
    whole = Then r.whole (CompletedAlone d how);
    right = (r.right, prepared);
    there = λ b. by b (branch_eq d b) refl ∙ ap broken (sym (final b));
    named = ended_named r.whole d how r.named;
    finds = λ next found. let l = r.finds next found in record { later = l.later; rows = l.rows; records = l.records };
    parts = (r.whole, r.parts, refl);
  }
    where
      by : (b : Branch) (t : Bool) → branch_eq d b ≡ t
          → broken (if branch_eq d b then completed (standing r.whole b) how else standing r.whole b)
          ≡ broken (if branch_eq d b then Completed how else from b)
      by b true e =
          ap (λ t. broken (if t then completed (standing r.whole b) how else standing r.whole b)) e
          ∙ (ap (λ s. broken (completed s how)) (subst (λ z. standing r.whole z ≡ Prepared) (branch_eq-true d b e) prepared)
          ∙ sym (ap (λ t. broken (if t then Completed how else from b)) e))
      by b false e =
          ap (λ t. broken (if t then completed (standing r.whole b) how else standing r.whole b)) e
          ∙ (r.there b ∙ sym (ap (λ t. broken (if t then Completed how else from b)) e))

-- ** all of them

pub reached : (log : Log) (f : Branch → Standing) (after : AfterSessions log f) → IsOneHistory log f after
reached _ _ (NoneYet i) = none_reached i
reached _ _ (OneMore log from to o seen fails done cut before found session may) =
    one_reached log from to before (reached log from before) o found seen fails session done cut may
reached _ _ (Between log from to d how before was final) = between log from to before (reached log from before) d how was final
