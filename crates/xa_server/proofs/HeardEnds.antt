-- What was heard of the end of a branch stays so.
use Rattle.std.proofs.Common.{◌≡◌, ◌∙◌, ◌⊎◌, ◌<◌, ◌+◌, inl, inr, ℕ, zero, suc, Bool, true, false, List, [], Option, Some, None, refl, sym, ap, subst, arith}
use Rattle.std.proofs.lemmas.Bool.Decides.{nat_tests}
use Rattle.std.specs.Prelude.{if◌then◌else◌, nat_lt}
use Rattle.xa_base.proofs.BranchKeys.{branch_eq-refl, branch_eq-true}
use Rattle.xa_base.specs.Branch.{branch_eq, xid_of_branch}
use Rattle.xa_base.specs.HeldBranch.{HeldBranch, new_branch}
use Rattle.xa_base.specs.StateTable.{Kind, Kind.Commit, Kind.End, Kind.Forget, Kind.Join, Kind.OnePhase, Kind.Prepare, Kind.Rollback, Kind.Start, State.S0, answer, asks_of, broken, moved, state_of}
use Rattle.xa_base.specs.Xid.{Xid}
use Rattle.xa_base.specs.declared.answer.Answer.TheVariants.{Page, Ret}
use Rattle.xa_base.specs.declared.call.Call.TheVariants as Calls
use Rattle.xa_base.specs.declared.code.Code.TheVariants as Codes
use Rattle.xa_base.specs.declared.state.Standing.{Standing}
use Rattle.xa_base.specs.declared.state.Standing.TheVariants.{Active, Committed, Completed, Idle, Lost, Prepared, RollbackOnly, RolledBack, Unstarted}
use Rattle.xa_base.specs.declared.vote.Vote.TheVariants as Votes
use Rattle.xa_model.proofs.Invariant.Moves.{CanRollBack, Move, Move.Commits, Move.Completes, Move.Ends, Move.Fails, Move.Forgets, Move.In_one_phase, Move.Loses_active, Move.Loses_idle, Move.Loses_rollback_only, Move.Only_reads, Move.Prepares, Move.Refuses, Move.Rolls_back, Move.Starts, Move.Stays}
use Rattle.xa_model.proofs.Invariant.Now.{step_move}
use Rattle.xa_model.proofs.Invariant.Preservation.{always}
use Rattle.xa_model.proofs.NameLemmas.OwnNames.{own_name}
use Rattle.xa_model.proofs.ProcessLemmas.Leaving.{fits_branch}
use Rattle.xa_model.specs.Facts.{fits, held_of, incarnation, next_call, origin, retries, standing, vote}
use Rattle.xa_model.specs.Facts.Standings.{moved_by}
use Rattle.xa_model.specs.Facts.InDoubt.{name_of}
use Rattle.xa_model.specs.Promises.Processes.{Resumes, gone, held_in, resumed}
use Rattle.xa_model.specs.Protocol.{AllRight, IsRun, OldOrigin, SoundAnswer, call_code}
use Rattle.xa_model.specs.Trace.{Answer, Branch, Call, Code, Happening, Happening.Took, How, Line, Name.Ours, Origin, Trace, Trace.Then, Vote, line_eq, line_of}
use Rattle.xa_monitor.proofs.Agreeing.{from_known}
use Rattle.xa_monitor.proofs.Chains.{reached}
use Rattle.xa_monitor.proofs.Choices.{behind_right, same_there}
use Rattle.xa_monitor.proofs.LaterStarts.{history_back, none_begun, not_begun, rules_back, stands_back}
use Rattle.xa_monitor.proofs.ReachedStandings.{IsReached}
use Rattle.xa_monitor.proofs.UntoldCalls.{LeavesThere, first_at}
use Rattle.xa_monitor.specs.Across.{IsKnownAsLeft, continued_by}
use Rattle.xa_monitor.specs.Agreement.{MayAllStand, MayAllStand.AsTold, MayAllStand.CutOff, MayAllStand.EndedAlone, MayAllStand.UnderWay, WaitsAt, is_line_among, times, waiting_call_at}
use Rattle.xa_monitor.specs.Explained.{HasOnlyOlderRows}
use Rattle.xa_monitor.specs.Seen.{KeepsRules, Seen, Seen.Answered, Seen.Did, Seen.Lost, Seen.Start as Begin}
use Rattle.xa_monitor.specs.Sessions.{AfterSessions, AfterSessions.Between, AfterSessions.NoneYet, AfterSessions.OneMore, Finds, FindsLog, Log, WasFoundDecided}
use Rattle.xa_monitor.specs.Standings.{Comes, Explains, ExplainsAsked, ExplainsIf, MayBeDone}
use Rattle.xa_log.specs.Content.{Content}
use Rattle.xa_log.specs.Contract.{Moment}
use Rattle.xa_server.proofs.Failures.{failed_in_answer}
use Rattle.xa_server.proofs.LeftSessions.{honest_before}
use Rattle.xa_server.proofs.LogLemmas.{replies_keep}
use Rattle.xa_server.proofs.LogStarts.{raised_from}
use Rattle.xa_server.proofs.SessionChains.{Laws, StartsGoOn, are_sessions}
use Rattle.xa_server.specs.HeardEnds.{AnswerTellsEnd, HeardEndsStay, SessionsKeepEnds, TellsEnd, WasToldEnd, WasToldEndServed, end_told}
use Rattle.xa_server.specs.LeftSessions.{IsBehind, under}
use Rattle.xa_server.specs.NamedLines.{lines_read}
use Rattle.xa_server.specs.Sessions.{AreServed, AreServed.Between as EndsBetween, AreServed.NoneYet as NoneServed, AreServed.OneMore as OneServed, HoldsLeft, IsSession, IsSessionLeft, IsSessionLeft.AfterLine, IsSessionLeft.InAnswer, IsSessionLeft.InRequest, WasFoundDecidedInLog}
use Rattle.xa_server.specs.declared.server.Server.{Server}
use Rattle.xa_tm.specs.Calls.{log_in}
use Rattle.std.specs.List.{Contains}

-- ** the end of a branch

abbrev IsLast : Standing → Type 0
IsLast s = (s ≡ Committed) ⊎ (s ≡ RolledBack)

-- a standing that changes yet
abbrev IsChanging : Standing → Type 0
IsChanging Unstarted = Unit
IsChanging Active = Unit
IsChanging Idle = Unit
IsChanging RollbackOnly = Unit
IsChanging Prepared = Unit
IsChanging (Completed how) = Unit
IsChanging _ = ⊥

not_changing : (s : Standing) → IsLast s → IsChanging s → ⊥
not_changing s (inl e) c = subst IsChanging e c
not_changing s (inr e) c = subst IsChanging e c

not_rolled : (s : Standing) → IsLast s → CanRollBack s → ⊥
not_rolled s (inl e) c = subst CanRollBack e c
not_rolled s (inr e) c = subst CanRollBack e c

last_move : (tr : Trace) (b : Branch) (f g : Standing) → Move tr b f g → IsLast f → g ≡ f
last_move tr b _ _ (Stays f) last = refl
last_move tr b _ _ (Rolls_back f c closed rest) last = absurd (not_rolled f last c)
last_move tr b _ _ (Starts s) last = absurd (not_changing Unstarted last tt)
last_move tr b _ _ Ends last = absurd (not_changing Active last tt)
last_move tr b _ _ Fails last = absurd (not_changing Active last tt)
last_move tr b _ _ Prepares last = absurd (not_changing Idle last tt)
last_move tr b _ _ Only_reads last = absurd (not_changing Idle last tt)
last_move tr b _ _ Refuses last = absurd (not_changing Idle last tt)
last_move tr b _ _ (In_one_phase h) last = absurd (not_changing Idle last tt)
last_move tr b _ _ (Commits h) last = absurd (not_changing Prepared last tt)
last_move tr b _ _ (Completes how) last = absurd (not_changing Prepared last tt)
last_move tr b _ _ (Forgets how h) last = absurd (not_changing (Completed how) last tt)
last_move tr b _ _ Loses_active last = absurd (not_changing Active last tt)
last_move tr b _ _ Loses_idle last = absurd (not_changing Idle last tt)
last_move tr b _ _ Loses_rollback_only last = absurd (not_changing RollbackOnly last tt)

last_broken : (s : Standing) → IsLast s → broken s ≡ s
last_broken s (inl e) = ap broken e ∙ sym e
last_broken s (inr e) = ap broken e ∙ sym e

last_state : (s : Standing) → IsLast s → state_of s ≡ S0
last_state s (inl e) = ap state_of e
last_state s (inr e) = ap state_of e

last_started : (s : Standing) → IsLast s → moved s Start Codes.Success ≡ Active
last_started s (inl e) = ap (λ z. moved z Start Codes.Success) e
last_started s (inr e) = ap (λ z. moved z Start Codes.Success) e

abbrev is_start : Kind → Bool
is_start Start = true
is_start _ = false

start_is : (k : Kind) → is_start k ≡ true → k ≡ Start
start_is Start e = refl
start_is Join e = absurd (cc)
start_is (End fail) e = absurd (cc)
start_is Prepare e = absurd (cc)
start_is Commit e = absurd (cc)
start_is OnePhase e = absurd (cc)
start_is Rollback e = absurd (cc)
start_is Forget e = absurd (cc)

committed_stays : (k : Kind) (a : Code) → is_start k ≡ false → moved Committed k a ≡ Committed
committed_stays Start a e = absurd (cc)
committed_stays Join a e = refl
committed_stays (End fail) a e = refl
committed_stays Prepare a e = refl
committed_stays Commit a e = refl
committed_stays OnePhase a e = refl
committed_stays Rollback a e = refl
committed_stays Forget a e = refl

rolled_stays : (k : Kind) (a : Code) → is_start k ≡ false → moved RolledBack k a ≡ RolledBack
rolled_stays Start a e = absurd (cc)
rolled_stays Join a e = refl
rolled_stays (End fail) a e = refl
rolled_stays Prepare a e = refl
rolled_stays Commit a e = refl
rolled_stays OnePhase a e = refl
rolled_stays Rollback a e = refl
rolled_stays Forget a e = refl

last_moved : (s : Standing) → IsLast s → (k : Kind) (a : Code) → is_start k ≡ false → moved s k a ≡ s
last_moved s (inl e) k a not = ap (λ z. moved z k a) e ∙ (committed_stays k a not ∙ sym e)
last_moved s (inr e) k a not = ap (λ z. moved z k a) e ∙ (rolled_stays k a not ∙ sym e)

-- ** what an answer tells of it

is_last_one : (k : Kind) (a : Code) (s : Standing) → end_told k a ≡ Some s → IsLast s
is_last_one Commit Codes.Success s e = inl (cc)
is_last_one OnePhase Codes.Success s e = inl (cc)
is_last_one OnePhase (Codes.RolledBack code) s e = inr (cc)
is_last_one Rollback Codes.Success s e = inr (cc)
is_last_one Rollback (Codes.RolledBack code) s e = inr (cc)
is_last_one Prepare (Codes.RolledBack code) s e = inr (cc)
is_last_one _ _ s e = absurd (cc)

by_table : (k : Kind) (at : Standing) (v : Vote) (n : ℕ) (s : Standing) → end_told k (answer k (state_of at) v n) ≡ Some s
    → moved at k (answer k (state_of at) v n) ≡ s
by_table Commit Prepared v zero s e = cc
by_table Commit Prepared v (suc n) s e = absurd (cc)
by_table OnePhase Idle Votes.Yes n s e = cc
by_table OnePhase Idle Votes.ReadOnly n s e = cc
by_table OnePhase Idle (Votes.No code) n s e = cc
by_table Rollback Idle v n s e = cc
by_table Rollback Prepared v n s e = cc
by_table Rollback RollbackOnly v n s e = cc
by_table Prepare Idle (Votes.No code) n s e = cc
by_table Prepare Idle Votes.Yes n s e = absurd (cc)
by_table Prepare Idle Votes.ReadOnly n s e = absurd (cc)
by_table _ _ v n s e = absurd (cc)

end_so : (q : Option (Kind × Branch)) (a : Code) (b : Branch) (s from to : Standing) → AnswerTellsEnd q a b s → ExplainsAsked q a b from to → to ≡ s
end_so None a b s from to ends explained = absurd ends
end_so (Some (k, c)) a b s from to ends explained =
    let x : Explains from k a to = subst (λ t. ExplainsIf t from k a to) ends.0 explained in
    x.moves ∙ (ap (moved x.as_called k) (sym x.answers)
    ∙ by_table k x.as_called x.vote x.retries s (subst (λ z. end_told k z ≡ Some s) (sym x.answers) ends.1))

ends_last : (q : Option (Kind × Branch)) (a : Code) (b : Branch) (s : Standing) → AnswerTellsEnd q a b s → IsLast s
ends_last None a b s ends = absurd ends
ends_last (Some (k, c)) a b s ends = is_last_one k a s ends.1

tells_last : (seen : Seen) (b : Branch) (s : Standing) → TellsEnd b s seen → IsLast s
tells_last Begin b s t = absurd t
tells_last (Did seen e) b s t = tells_last seen b s t
tells_last (Answered seen l c (Ret a)) b s (inl now) = ends_last (asks_of c) a b s now
tells_last (Answered seen l c (Ret a)) b s (inr t) = tells_last seen b s t
tells_last (Answered seen l c (Page names)) b s t = tells_last seen b s t
tells_last (Lost seen l c) b s t = tells_last seen b s t

was_last : (log : Log) (f : Branch → Standing) (after : AfterSessions log f) (b : Branch) (s : Standing) → WasToldEnd b s log f after → IsLast s
was_last _ _ (NoneYet i) b s was = absurd was
was_last _ _ (OneMore log from to o seen fails done cut before found session may) b s (inl told) = tells_last seen b s told
was_last _ _ (OneMore log from to o seen fails done cut before found session may) b s (inr earlier) = was_last log from before b s earlier
was_last _ _ (Between log from to d how before prepared final) b s was = was_last log from before b s was

-- a database that ends a prepared branch by itself ends none that has ended
alone_stays : (d b : Branch) (how : How) (f s : Standing) → IsLast s → f ≡ s → (d ≡ b → f ≡ Prepared) → (t : Bool) → branch_eq d b ≡ t
    → (if t then Completed how else f) ≡ s
alone_stays d b how f s last so prepared true is =
    absurd (not_changing s last (subst IsChanging (sym (prepared (branch_eq-true d b is)) ∙ so) tt))
alone_stays d b how f s last so prepared false is = so

-- ** one session behind others

none_more : (n : ℕ) → n + 0 ≡ n
none_more n = omega arith

module _ (log : Log) (from : Branch → Standing) (D : Branch → Type 0) (r : IsReached log from D) (o : Origin) (found : Finds log o)
    (old : HasOnlyOlderRows o) where
  abbrev past : Trace
  past = r.whole

  abbrev held : ℕ → Xid → HeldBranch
  held = λ q x. held_in past (name_of x)

  -- the start, with what the past has left at the resource managers
  abbrev start : Origin
  start = record o { held = held }

  found_log : FindsLog past o
  found_log = r.finds o found

  held_so : (b : Branch) (t : Bool) → fits b ≡ t → held_of start b ≡ (if t then held_in past (Ours b) else new_branch)
  held_so b true e = ap (λ t. if t then held_in past (name_of (xid_of_branch b)) else new_branch) e ∙ ap (held_in past) (own_name b (fits_branch b e))
  held_so b false e = ap (λ t. if t then held_in past (name_of (xid_of_branch b)) else new_branch) e

  known : (b : Branch) → IsKnownAsLeft past start b
  known b = by (fits b) refl
    where
      by : (t : Bool) → fits b ≡ t → (held_of start b).standing ≡ standing (gone past) b
      by true e = ap (λ (h : HeldBranch). h.standing) (held_so b true e)
      by false e = ap (λ (h : HeldBranch). h.standing) (held_so b false e) ∙ sym (ap broken (r.named b e).0)

  votes_so : (b : Branch) (t : Bool) → fits b ≡ t → (held_of start b).vote ≡ vote past b
  votes_so b true e = ap (λ (h : HeldBranch). h.vote) (held_so b true e)
  votes_so b false e = ap (λ (h : HeldBranch). h.vote) (held_so b false e) ∙ sym (r.named b e).1

  retries_so : (b : Branch) (t : Bool) → fits b ≡ t → (held_of start b).retries ≡ retries past b
  retries_so b true e = ap (λ (h : HeldBranch). h.retries) (held_so b true e)
  retries_so b false e = ap (λ (h : HeldBranch). h.retries) (held_so b false e) ∙ sym (r.named b e).2

  resumes : Resumes past start
  resumes = record {
    later = found_log.later;
    rows = found_log.rows;
    records = found_log.records;
    states = λ b. ap state_of (known b);
    votes = λ b. votes_so b (fits b) refl;
    retries = λ b. retries_so b (fits b) refl;
  }

  is_old : OldOrigin start
  is_old = record { rows_old = old.rows_old; record_old = old.record_old; held_old = λ b. by b (nat_lt b.gtrid.incarnation o.incarnation) refl }
    where
      by : (b : Branch) (t : Bool) → nat_lt b.gtrid.incarnation o.incarnation ≡ t
          → ((held_of start b).standing ≡ Unstarted) ⊎ (b.gtrid.incarnation < o.incarnation)
      by b true e = inr (grind (arith, nat_tests, e))
      by b false e = inl (known b ∙ ap broken (not_begun (standing past b) (none_begun past b (always past r.right) later)))
        where
          later : incarnation past < b.gtrid.incarnation
          later = let l = found_log.later in grind (arith, nat_tests, e, l)

  there_at_start : (b : Branch) → broken (from b) ≡ (held_of start b).standing
  there_at_start b = sym (known b ∙ r.there b)

  -- no xa_start waits on a branch that has ended: it would start again, and no right history lets it
  sound_start : (now : Trace) (l : Line) (c : Call) (b : Branch) → asks_of c ≡ Some (Start, b) → state_of (standing now b) ≡ S0
      → SoundAnswer now l c (Ret Codes.Success)
  sound_start now l c b asks none = by c asks so
    where
      so : (let a : Answer = Ret Codes.Success in a) ≡ Ret (call_code now (asks_of c))
      so = ap (λ s. let a : Answer = Ret (answer Start s (vote now b) (retries now b)) in a) (sym none)
          ∙ ap (λ q. let a : Answer = Ret (call_code now q) in a) (sym asks)

      by : (c : Call) → asks_of c ≡ Some (Start, b) → (let a : Answer = Ret Codes.Success in a) ≡ Ret (call_code now (asks_of c))
          → SoundAnswer now l c (Ret Codes.Success)
      by (Calls.Recover n s e) asks so = absurd (cc)
      by _ asks so = so

  module _ (now : Trace) (begins : origin now ≡ start) (run : IsRun now) (l : Line) (c : Call) (next : next_call now l ≡ Some c) (b : Branch)
      (asks : asks_of c ≡ Some (Start, b)) (last : IsLast (standing now b)) where
    abbrev whole : Trace
    whole = continued_by (resumed past start) now

    abbrev takes : Happening
    takes = Took l c (Ret Codes.Success)

    run_on : IsRun (Then now takes)
    run_on = (run, (next, sound_start now l c b asks (last_state (standing now b) last)))

    right : AllRight (Then whole takes)
    right = (behind_right past start (Then now takes) r.right resumes begins run_on).0

    same : standing whole b ≡ standing now b
    same = same_there past start now r.right resumes begins run b (known b)

    last_there : IsLast (standing whole b)
    last_there = subst IsLast (sym same) last

    stays : standing (Then whole takes) b ≡ standing whole b
    stays = last_move whole b (standing whole b) (standing (Then whole takes) b) (step_move whole takes b (always whole right.0) right.1) last_there

    active : standing (Then whole takes) b ≡ Active
    active =
        ap (λ q. moved_by q Codes.Success b (standing whole b)) asks
        ∙ (ap (λ t. if t then moved (standing whole b) Start Codes.Success else standing whole b) (branch_eq-refl b)
        ∙ last_started (standing whole b) last_there)

    no_start : ⊥
    no_start = not_changing (standing whole b) last_there (subst IsChanging (sym active ∙ stays) tt)

  -- a call that was done, and that waited where the branches stood so, leaves an ended branch as it is
  module _ (p : Seen) (keeps : KeepsRules o p) (done cut : List Line) (f : Branch → Standing)
      (may : MayAllStand o p (λ x. Comes p x (broken (from x))) done cut f) (l : Line) (c : Call) (uncut : is_line_among cut l ≡ false)
      (waits : WaitsAt o p l (times done l) (Some c)) where
    x : LeavesThere start p (λ q. q ≡ start) done cut f
    x = from_known start p is_old (rules_back o held p keeps) done cut f
        (stands_back o held p (λ b. Comes p b (broken (from b))) (λ b. Comes p b (held_of start b).standing)
        (λ b s comes. subst (λ g. Comes p b g s) (there_at_start b) comes) done cut f may)

    first : next_call x.now l ≡ Some c
    first =
        first_at x.now l ∙ (x.calls l 0 uncut
        ∙ (ap (waiting_call_at x.told l) (none_more (times done l)) ∙ waits x.told (history_back o held p x.told x.is_history) x.told_runs))

    unstarted : (b : Branch) → asks_of c ≡ Some (Start, b) → IsLast (f b) → ⊥
    unstarted b asks last = no_start x.now x.start x.runs l c first b asks (subst IsLast (sym (x.there b)) last)

    explained_stays : (k : Kind) (a : Code) (b : Branch) (to : Standing) → asks_of c ≡ Some (k, b) → IsLast (f b) → Explains (f b) k a to → to ≡ f b
    explained_stays k a b to asks last e = by (is_start k) refl e.alone
      where
        by : (t : Bool) → is_start k ≡ t → (e.as_called ≡ f b) ⊎ ((f b ≡ Prepared) × ((how : How) × (e.as_called ≡ Completed how))) → to ≡ f b
        by true is alone = absurd (unstarted b (asks ∙ ap (λ z. let q : Option (Kind × Branch) = Some (z, b) in q) (start_is k is)) last)
        by false is (inl same) = e.moves ∙ (ap (λ z. moved z k a) same ∙ last_moved (f b) last k a is)
        by false is (inr (prepared, how)) = absurd (not_changing (f b) last (subst IsChanging (sym prepared) tt))

    asked_stays : (q : Option (Kind × Branch)) (a : Code) (b : Branch) (to : Standing) → asks_of c ≡ q → IsLast (f b)
        → ExplainsAsked q a b (f b) to → to ≡ f b
    asked_stays None a b to asks last e = e
    asked_stays (Some (k, d)) a b to asks last e = by (branch_eq d b) refl e
      where
        by : (t : Bool) → branch_eq d b ≡ t → ExplainsIf t (f b) k a to → to ≡ f b
        by false is e = e
        by true is e =
            explained_stays k a b to (asks ∙ ap (λ z. let q : Option (Kind × Branch) = Some (k, z) in q) (branch_eq-true d b is)) last e

  -- ** behind what was told

  told_ends : (p : Seen) → KeepsRules o p → (f : Branch → Standing) → ((x : Branch) → Comes p x (broken (from x)) (f x)) → (b : Branch) (s : Standing)
      → IsLast s → (from b ≡ s) ⊎ TellsEnd b s p → f b ≡ s
  told_ends Begin keeps f may b s last (inl e) = may b ∙ (ap broken e ∙ last_broken s last)
  told_ends Begin keeps f may b s last (inr t) = absurd t
  told_ends (Did p e) keeps f may b s last was = told_ends p keeps.0 f may b s last was
  told_ends (Answered p l c (Page names)) keeps f may b s last was =
      (may b).2.0 ∙ told_ends p keeps.0 (λ x. (may x).0) (λ x. (may x).1) b s last was
  told_ends (Answered p l c (Ret a)) keeps f may b s last was = by (λ w. told_ends p keeps.0 (λ x. (may x).0) (λ x. (may x).1) b s last w) was
    where
      earlier : (may b).0 ≡ s → f b ≡ s
      earlier mid =
          asked_stays p keeps.0 [] [] (λ x. (may x).0) (AsTold (λ x. (may x).0) (λ x. (may x).1)) l c refl
          (λ tr i run. sym (first_at tr l) ∙ (keeps.2 tr i run).first) (asks_of c) a b (f b) refl (subst IsLast (sym mid) last) (may b).2
          ∙ mid

      by : ((from b ≡ s) ⊎ TellsEnd b s p → (may b).0 ≡ s) → (from b ≡ s) ⊎ (AnswerTellsEnd (asks_of c) a b s ⊎ TellsEnd b s p) → f b ≡ s
      by before (inl e) = earlier (before (inl e))
      by before (inr (inl now)) = end_so (asks_of c) a b s (may b).0 (f b) now (may b).2
      by before (inr (inr t)) = earlier (before (inr t))
  told_ends (Lost p l c) keeps f may b s last was =
      (may b).2.2 ∙ breaks (told_ends p keeps.0 (λ x. (may x).0) (λ x. (may x).1) b s last was) (line_eq l (line_of b))
    where
      done_or_not : (may b).0 ≡ s → (k : Option Call) → c ≡ k → MayBeDone k b (may b).0 (may b).2.0 → (may b).2.0 ≡ (may b).0
      done_or_not mid None is e = e
      done_or_not mid (Some k) is (inl e) = e
      done_or_not mid (Some k) is (inr (a, e)) =
          asked_stays p keeps.0 [] [] (λ x. (may x).0) (AsTold (λ x. (may x).0) (λ x. (may x).1)) l k refl
          (λ tr i run. sym (first_at tr l) ∙ (keeps.1 tr i run ∙ is)) (asks_of k) a b (may b).2.0 refl (subst IsLast (sym mid) last) e

      breaks : (may b).0 ≡ s → (t : Bool) → (if t then broken (may b).2.0 else (may b).2.0) ≡ s
      breaks mid true = ap broken (done_or_not mid c refl (may b).2.1 ∙ mid) ∙ last_broken s last
      breaks mid false = done_or_not mid c refl (may b).2.1 ∙ mid

  -- and what wasn't told yet
  all_ends : (seen : Seen) → KeepsRules o seen → (done cut : List Line) (f : Branch → Standing)
      → MayAllStand o seen (λ x. Comes seen x (broken (from x))) done cut f → (b : Branch) (s : Standing) → IsLast s
      → (from b ≡ s) ⊎ TellsEnd b s seen → f b ≡ s
  all_ends seen keeps _ _ _ (AsTold f may) b s last was = told_ends seen keeps f may b s last was
  all_ends seen keeps _ _ _ (UnderWay done cut before f l c may has uncut waits did) b s last was =
      let so = all_ends seen keeps done cut before may b s last was in
      asked_stays seen keeps done cut before may l c uncut waits (asks_of c) did.0 b (f b) refl (subst IsLast (sym so) last) (did.1 b) ∙ so
  all_ends seen keeps _ _ _ (CutOff done cut before f l may final) b s last was =
      final b ∙ by (all_ends seen keeps done cut before may b s last was) (line_eq l (line_of b))
    where
      by : before b ≡ s → (t : Bool) → (if t then broken (before b) else before b) ≡ s
      by so true = ap broken so ∙ last_broken s last
      by so false = so
  all_ends seen keeps _ _ _ (EndedAlone done cut before f d how may prepared final) b s last was =
      final b ∙ alone_stays d b how (before b) s last (all_ends seen keeps done cut before may b s last was)
      (λ e. subst (λ z. before z ≡ Prepared) e prepared) (branch_eq d b) refl

-- ** all of them

pub heard_ends : HeardEndsStay
heard_ends _ _ (NoneYet i) b s was = absurd was
heard_ends _ _ (OneMore log from to o seen fails done cut before found session may) b s (inl told) =
    all_ends log from (λ x. WasFoundDecided x log from before) (reached log from before) o found session.old seen session.keeps done cut to may b s
    (tells_last seen b s told) (inr told)
heard_ends _ _ (OneMore log from to o seen fails done cut before found session may) b s (inr earlier) =
    all_ends log from (λ x. WasFoundDecided x log from before) (reached log from before) o found session.old seen session.keeps done cut to may b s
    (was_last log from before b s earlier) (inl (heard_ends log from before b s earlier))
heard_ends _ _ (Between log from to d how before prepared final) b s was =
    final b ∙ alone_stays d b how (from b) s (was_last log from before b s was) (heard_ends log from before b s was)
    (λ e. subst (λ z. from z ≡ Prepared) e prepared) (branch_eq d b) refl

-- ** of sessions that a server serves

module _ {L : Type 0} (moment : L → Moment) (laws : Laws L) (name : List ℕ) (handed : L) (o : Origin) (told : Seen) (now : Server L)
    (is : IsSession moment name handed o told now) where
  -- what is seen in the end keeps the rules too
  keeps_left : (seen : Seen) (left : Server L) → IsSessionLeft moment told now seen left → KeepsRules o seen
  keeps_left _ _ AfterLine = is.tracks.0
  keeps_left _ _ (InRequest request left asks performs) = is.tracks.0
  keeps_left _ _ (InAnswer t r named code call left waits performs) =
      let failed = failed_in_answer moment now left t r named code call waits performs in
      (laws.answer o told now.session t r (Ret code) call is.tracks failed.fit failed.first).keeps

  tells_left : (b : Branch) (s : Standing) (seen : Seen) (left : Server L) → IsSessionLeft moment told now seen left → TellsEnd b s told → TellsEnd b s seen
  tells_left b s _ _ AfterLine t = t
  tells_left b s _ _ (InRequest request left asks performs) t = t
  tells_left b s _ _ (InAnswer t r named code call left waits performs) tells = inr tells

  session_ends : (from to : Branch → Standing) (D : Branch → Type 0) (c : Content) → StartsGoOn from D c → HoldsLeft moment c handed
      → (seen : Seen) (left : Server L) → IsSessionLeft moment told now seen left → (moment (log_in left.session.manager)).is_honest
      → (done cut : List Line) → MayAllStand o seen (λ x. Comes seen x (broken (from x))) done cut to → (b : Branch) (s : Standing) → IsLast s
      → (from b ≡ s) ⊎ TellsEnd b s seen → to b ≡ s
  session_ends from to D c before has seen left is_left honest done cut may b s last was =
      all_ends prior.log from (λ x. WasFoundDecided x prior.log from prior.after) (reached prior.log from prior.after) o prior.finds
      (is.starts.old o is.begins) seen (keeps_left seen left is_left) done cut to may b s last was
    where
      prior : IsBehind from D o
      prior = before o (raised_from moment is.threads is.rms handed is.first is.starts has.order
          ((replies_keep moment (lines_read name is.lines) is.replies is.first now is.replied).honest (honest_before moment told seen now left is_left honest))
          has.content has.has o is.begins c has.same.decisions has.same.heuristics has.raised)

module _ {L : Type 0} (moment : L → Moment) (laws : Laws L) (name : List ℕ) where
  was_last_served : (last : Option (Server L)) (f : Branch → Standing) (served : AreServed moment name last f) (b : Branch) (s : Standing)
      → WasToldEndServed moment name b s last f served → IsLast s
  was_last_served _ _ NoneServed b s was = absurd was
  was_last_served _ _ (OneServed last from to handed o told seen now left done cut before handed_on is is_left honest may) b s (inl t) = tells_last told b s t
  was_last_served _ _ (OneServed last from to handed o told seen now left done cut before handed_on is is_left honest may) b s (inr w) =
      was_last_served last from before b s w
  was_last_served _ _ (EndsBetween last from to d how before prepared final) b s was = was_last_served last from before b s was

  pub served_ends : (last : Option (Server L)) (f : Branch → Standing) (served : AreServed moment name last f) (b : Branch) (s : Standing)
      → WasToldEndServed moment name b s last f served → f b ≡ s
  served_ends _ _ NoneServed b s was = absurd was
  served_ends _ _ (OneServed last from to handed o told seen now left done cut before handed_on is is_left honest may) b s (inl t) =
      session_ends moment laws name handed o told now is from to (λ x. WasFoundDecidedInLog moment name x last from before) handed_on.left
      ((are_sessions moment laws name last from before).next handed_on.left handed_on.was_left) handed_on.holds seen left is_left honest done cut may b s
      (tells_last told b s t) (inr (tells_left moment laws name handed o told now is b s seen left is_left t))
  served_ends _ _ (OneServed last from to handed o told seen now left done cut before handed_on is is_left honest may) b s (inr w) =
      session_ends moment laws name handed o told now is from to (λ x. WasFoundDecidedInLog moment name x last from before) handed_on.left
      ((are_sessions moment laws name last from before).next handed_on.left handed_on.was_left) handed_on.holds seen left is_left honest done cut may b s
      (was_last_served last from before b s w) (inl (served_ends last from before b s w))
  served_ends _ _ (EndsBetween last from to d how before prepared final) b s was =
      final b ∙ alone_stays d b how (from b) s (was_last_served last from before b s was) (served_ends last from before b s was)
      (λ e. subst (λ z. from z ≡ Prepared) e prepared) (branch_eq d b) refl

pub keep_ends : {L : Type 0} (moment : L → Moment) → Laws L → SessionsKeepEnds moment
keep_ends moment laws name from to c found handed o told seen now left done cut b s prior has is is_left honest may (inl both) =
    session_ends moment laws name handed o told now is (under name from) (under name to) (Contains found) c prior.behind has seen left is_left honest
    done cut may b s both.0 (inl both.1)
keep_ends moment laws name from to c found handed o told seen now left done cut b s prior has is is_left honest may (inr t) =
    session_ends moment laws name handed o told now is (under name from) (under name to) (Contains found) c prior.behind has seen left is_left honest
    done cut may b s (tells_last seen b s t) (inr t)
