-- A branch that voted yes in a decided transaction is committed, or will be.
use Rattle.std.proofs.Common.{◌≡◌, ◌∙◌, ◌⊎◌, inl, inr, ℕ, Bool, true, false, ◌&&◌, length, refl, sym, ap, subst}
use Rattle.std.proofs.lemmas.Bool.{or_left, or_right, true≢false}
use Rattle.std.specs.Prelude.{if◌then◌else◌}
use Rattle.xa_base.proofs.BranchKeys.{branch_eq-refl, branch_eq-true, gtrid_eq-refl, gtrid_eq-true}
use Rattle.xa_base.specs.Branch.{branch_eq, gtrid_eq}
use Rattle.xa_base.specs.StateTable.{Kind.Prepare, answer, broken, moved, state_of}
use Rattle.xa_base.specs.declared.answer.Answer.TheVariants.{Ret}
use Rattle.xa_base.specs.declared.call.Call.TheVariants as Calls
use Rattle.xa_base.specs.declared.code.Code.TheVariants.{Success}
use Rattle.xa_base.specs.declared.state.Standing.TheVariants.{Active, Committed, Completed, Forgotten, Idle, Prepared, ReadOnly, RollbackOnly, RolledBack}
use Rattle.xa_base.specs.declared.state.Standing.{Standing}
use Rattle.xa_base.specs.declared.step.Outcome.TheVariants as Outcome
use Rattle.xa_base.specs.declared.step.Part.TheVariants as Part
use Rattle.xa_model.proofs.AgreementLemmas.Alike.{prepared_not_at_rest}
use Rattle.xa_model.proofs.Invariant.Grows.{told_kept}
use Rattle.xa_model.proofs.Invariant.Moves.{Move, Move.Commits, Move.Completes, Move.Forgets, Move.Rolls_back, Move.Stays}
use Rattle.xa_model.proofs.Invariant.Now.{settled_at_rest, step_move}
use Rattle.xa_model.proofs.Invariant.Preservation.{always, begun_is_started}
use Rattle.xa_model.proofs.Invariant.Rows.{rowed_kept}
use Rattle.xa_model.proofs.Invariant.{HasBegun, Inv, IsGood}
use Rattle.xa_model.proofs.ProcessLemmas.SameLogs.{same_listed}
use Rattle.xa_model.specs.Facts.{adds_row, doubt, ever, had_row, has_branch, has_row, participants_in, retries, vote, lists_row, log as rows_of, says_read_only, says_yes_in, standing, started, was_told}
use Rattle.xa_model.specs.Promises.Processes.{gone, resumed}
use Rattle.xa_model.specs.Protocol.{AllRight, SoundAnswer}
use Rattle.xa_model.specs.Trace.{Answer, Branch, Call, Gtrid, Happening, Happening.CompletedAlone, Happening.Crashed, Happening.Decided, Happening.Heard, Happening.Restarted, Happening.Took, Code, Line, Origin, Trace, Trace.Then, Vote}
use Rattle.xa_monitor.specs.Across.{continued_by}
use Rattle.xa_monitor.specs.Seen.{IsHistory, IsHistory.Does, IsHistory.Hears, IsHistory.Loses, IsHistory.LosesAnswer, IsHistory.Starts, Seen, Seen.Answered, Seen.Did, break_of}
use Rattle.xa_monitor.specs.Sessions.{AfterSessions, AfterSessions.Between, AfterSessions.NoneYet, AfterSessions.OneMore, Finds, FindsLog, IsCommitting, Log, failed_in}
use Rattle.xa_outcomes.proofs.Lasting.{on_alone, on_continued, right_alone, right_past, some_lasts}
use Rattle.xa_outcomes.proofs.OneHistory.{gone_so, undone_so}
use Rattle.xa_outcomes.proofs.Reached.{IsOneHistory, reached}
use Rattle.xa_outcomes.specs.Outcomes.{DecidedWillCommit, FoundWillCommit, HasSaidYes, IsDecidedAfterVote, SaidYes, WasFoundVoted, WillCommit}
use Rattle.xa_outcomes.specs.Parts.{IsOfSessions}

-- ** what each right happening keeps

-- the branch has been prepared
abbrev WasPrepared : Standing → Type 0
WasPrepared Prepared = Unit
WasPrepared Committed = Unit
WasPrepared (Completed how) = Unit
WasPrepared (Forgotten how) = Unit
WasPrepared RolledBack = Unit
WasPrepared _ = ⊥

prepared_moves : (tr : Trace) (b : Branch) (f g : Standing) → Move tr b f g → WasPrepared f → WasPrepared g
prepared_moves tr b f g (Stays x) h = h
prepared_moves tr b f g (Commits p) h = tt
prepared_moves tr b f g (Completes how) h = tt
prepared_moves tr b f g (Forgets how r) h = tt
prepared_moves tr b f g (Rolls_back x c p rest) h = tt
prepared_moves tr b f g _ h = absurd h

prepared_step : (b : Branch) (tr : Trace) (e : Happening) → AllRight (Then tr e) → WasPrepared (standing tr b) → WasPrepared (standing (Then tr e) b)
prepared_step b tr e right h = prepared_moves tr b (standing tr b) (standing (Then tr e) b) (step_move tr e b (always tr right.0) right.1) h

-- and its transaction had a row
record IsToCommit (b : Branch) (tr : Trace) : Type 0 where
  prepared : WasPrepared (standing tr b)
  had : had_row tr b.gtrid ≡ true

commit_step : (b : Branch) (tr : Trace) (e : Happening) → AllRight (Then tr e) → IsToCommit b tr → IsToCommit b (Then tr e)
commit_step b tr e right h = record { prepared = prepared_step b tr e right h.prepared; had = rowed_kept tr e b.gtrid h.had }

-- ** a vote

-- the answer is a vote XA_OK of the branch
record IsVote (b : Branch) (c : Call) (a : Answer) : Type 0 where
  call : c ≡ Calls.Prepare b
  answer : a ≡ Ret Success

said_now : (b : Branch) (seen : Seen) (l : Line) (c : Call) (a : Answer) → SaidYes b (Answered seen l c a) → IsVote b c a ⊎ SaidYes b seen
said_now b seen l (Calls.Prepare d) (Ret Success) (inl e) = inl (record { call = ap Calls.Prepare (branch_eq-true d b e); answer = refl })
said_now b seen l (Calls.Prepare d) (Ret Success) (inr s) = inr s
said_now b seen l _ _ s = inr s

-- what answers so is idle, and is prepared then
vote_prepares : (s : Standing) (v : Vote) (n : ℕ) (code : Code) → code ≡ answer Prepare (state_of s) v n → code ≡ Success → WasPrepared (moved s Prepare code)
vote_prepares Idle v n code e is = subst (λ z. WasPrepared (moved Idle Prepare z)) (sym is) tt
vote_prepares _ v n code e is = absurd (cc)

took_vote : (b : Branch) (tr : Trace) (l : Line) → SoundAnswer tr l (Calls.Prepare b) (Ret Success)
    → WasPrepared (standing (Then tr (Took l (Calls.Prepare b) (Ret Success))) b)
took_vote b tr l sound = by (branch_eq b b) (branch_eq-refl b)
  where
    code_is : Success ≡ answer Prepare (state_of (standing tr b)) (vote tr b) (retries tr b)
    code_is = let e : (let a : Answer = Ret Success in a) ≡ Ret (answer Prepare (state_of (standing tr b)) (vote tr b) (retries tr b)) = sound in cc

    by : (t : Bool) → t ≡ true → WasPrepared (if t then moved (standing tr b) Prepare Success else standing tr b)
    by true e = vote_prepares (standing tr b) (vote tr b) (retries tr b) Success code_is refl
    by false e = absurd (true≢false (sym e))

-- the branch was prepared, and a vote XA_OK of its transaction was heard
record HasVoted (b : Branch) (tr : Trace) : Type 0 where
  prepared : WasPrepared (standing tr b)
  told : was_told tr (says_yes_in b.gtrid) ≡ true

voted_step : (b : Branch) (tr : Trace) (e : Happening) → AllRight (Then tr e) → HasVoted b tr → HasVoted b (Then tr e)
voted_step b tr e right h = record { prepared = prepared_step b tr e right h.prepared; told = told_kept tr e (says_yes_in b.gtrid) h.told }

heard_vote : (b : Branch) (at : Trace) (l : Line) (c : Call) (a : Answer) → AllRight (Then (Then at (Took l c a)) (Heard l c a)) → IsVote b c a
    → HasVoted b (Then (Then at (Took l c a)) (Heard l c a))
heard_vote b at l c a right vote = record {
  prepared = prepared_step b (Then at (Took l c a)) (Heard l c a) right
      (subst (λ z. WasPrepared (standing (Then at z) b)) (sym took_so)
      (took_vote b at l (subst (λ z. SoundAnswer at l z (Ret Success)) vote.call (subst (λ z. SoundAnswer at l c z) vote.answer right.0.1.1))));
  told = or_left (says_yes_in b.gtrid c a) (was_told at (says_yes_in b.gtrid)) heard_so;
}
  where
    took_so : Took l c a ≡ Took l (Calls.Prepare b) (Ret Success)
    took_so = ap (λ z. Took l z a) vote.call ∙ ap (λ z. Took l (Calls.Prepare b) z) vote.answer

    heard_so : says_yes_in b.gtrid c a ≡ true
    heard_so =
        ap (λ z. says_yes_in b.gtrid z a) vote.call ∙ (ap (λ z. says_yes_in b.gtrid (Calls.Prepare b) z) vote.answer ∙ gtrid_eq-refl b.gtrid)

-- ** after a session

module _ (p : Trace) (b : Branch) where
  -- a branch that said yes in it
  said_so : (o : Origin) (seen : Seen) (told : Trace) → IsHistory o seen told → AllRight (continued_by p told) → SaidYes b seen
      → HasVoted b (continued_by p told)
  said_so o _ _ (Starts held) right said = absurd said
  said_so o _ _ (Does seen tr e i) right said = voted_step b (continued_by p tr) e right (said_so o seen tr i right.0 said)
  said_so o _ _ (Hears seen tr now l c a i alone) right said =
      by (said_so o seen tr i (right_alone p tr now alone right.0.0)) (said_now b seen l c a said)
    where
      by : (SaidYes b seen → HasVoted b (continued_by p tr)) → IsVote b c a ⊎ SaidYes b seen
          → HasVoted b (Then (Then (continued_by p now) (Took l c a)) (Heard l c a))
      by rest (inl vote) = heard_vote b (continued_by p now) l c a right vote
      by rest (inr earlier) =
          voted_step b (Then (continued_by p now) (Took l c a)) (Heard l c a) right
          (voted_step b (continued_by p now) (Took l c a) right.0 (on_alone (HasVoted b) (voted_step b) p tr now alone right.0.0 (rest earlier)))
  said_so o _ _ (Loses seen tr l c i) right said = voted_step b (continued_by p tr) (break_of l) right (said_so o seen tr i right.0 said)
  said_so o _ _ (LosesAnswer seen tr now l c a i alone) right said =
      voted_step b (Then (continued_by p now) (Took l c a)) (break_of l) right
      (voted_step b (continued_by p now) (Took l c a) right.0
      (on_alone (HasVoted b) (voted_step b) p tr now alone right.0.0 (said_so o seen tr i (right_alone p tr now alone right.0.0) said)))

  -- the decision writes its row
  decides : (h : Gtrid) (tr : Trace) → AllRight (Then tr (Decided h Outcome.Commit)) → gtrid_eq h b.gtrid ≡ true → HasVoted b tr
      → IsToCommit b (Then tr (Decided h Outcome.Commit))
  decides h tr right same v = record {
    prepared = prepared_step b tr (Decided h Outcome.Commit) right v.prepared;
    had = or_left (gtrid_eq h b.gtrid && was_told tr (says_yes_in h)) (had_row tr b.gtrid) (by (gtrid_eq h b.gtrid) same);
  }
    where
      told : was_told tr (says_yes_in h) ≡ true
      told = subst (λ z. was_told tr (says_yes_in z) ≡ true) (sym (gtrid_eq-true h b.gtrid same)) v.told

      by : (t : Bool) → t ≡ true → (t && was_told tr (says_yes_in h)) ≡ true
      by true e = told
      by false e = absurd (true≢false (sym e))

  -- what is seen of it where the manager did this
  decided_now : (seen : Seen) (e : Happening) → IsDecidedAfterVote b (Did seen e)
      → ((h : Gtrid) × (e ≡ Decided h Outcome.Commit) × (gtrid_eq h b.gtrid ≡ true) × SaidYes b seen) ⊎ IsDecidedAfterVote b seen
  decided_now seen (Decided h Outcome.Commit) (inl d) = inl (h, refl, d.0, d.1)
  decided_now seen (Decided h Outcome.Commit) (inr d) = inr d
  decided_now seen _ d = inr d

  decided_so : (o : Origin) (seen : Seen) (told : Trace) → IsHistory o seen told → AllRight (continued_by p told) → IsDecidedAfterVote b seen
      → IsToCommit b (continued_by p told)
  decided_so o _ _ (Starts held) right d = absurd d
  decided_so o _ _ (Does seen tr e i) right d =
      by (decided_so o seen tr i right.0) (said_so o seen tr i right.0) (decided_now seen e d)
    where
      by : (IsDecidedAfterVote b seen → IsToCommit b (continued_by p tr)) → (SaidYes b seen → HasVoted b (continued_by p tr))
          → ((h : Gtrid) × (e ≡ Decided h Outcome.Commit) × (gtrid_eq h b.gtrid ≡ true) × SaidYes b seen) ⊎ IsDecidedAfterVote b seen
          → IsToCommit b (Then (continued_by p tr) e)
      by rest voted (inl (h, is, same, said)) =
          subst (λ z. IsToCommit b (Then (continued_by p tr) z)) (sym is)
          (decides h (continued_by p tr) (subst (λ z. AllRight (Then (continued_by p tr) z)) is right) same (voted said))
      by rest voted (inr earlier) = commit_step b (continued_by p tr) e right (rest earlier)
  decided_so o _ _ (Hears seen tr now l c a i alone) right d =
      commit_step b (Then (continued_by p now) (Took l c a)) (Heard l c a) right
      (commit_step b (continued_by p now) (Took l c a) right.0
      (on_alone (IsToCommit b) (commit_step b) p tr now alone right.0.0 (decided_so o seen tr i (right_alone p tr now alone right.0.0) d)))
  decided_so o _ _ (Loses seen tr l c i) right d = commit_step b (continued_by p tr) (break_of l) right (decided_so o seen tr i right.0 d)
  decided_so o _ _ (LosesAnswer seen tr now l c a i alone) right d =
      commit_step b (Then (continued_by p now) (Took l c a)) (break_of l) right
      (commit_step b (continued_by p now) (Took l c a) right.0
      (on_alone (IsToCommit b) (commit_step b) p tr now alone right.0.0 (decided_so o seen tr i (right_alone p tr now alone right.0.0) d)))

-- ** after all of them

found_lasts : (b : Branch) (log : Log) (f : Branch → Standing) (after : AfterSessions log f) (whole : Trace) → IsOfSessions log f after whole
    → AllRight whole → WasFoundVoted b log f after → IsToCommit b whole
found_lasts b _ _ (NoneYet i) whole is right was = absurd was
found_lasts b _ _ (OneMore log from to o seen fails done cut before found session may) whole (past, parts, part) right was =
    subst (IsToCommit b) (sym part.joined)
    (on_continued (IsToCommit b) (commit_step b) (resumed past o) (failed_in fails part.now) all (by (found_lasts b log from before past parts all_past) was))
  where
    all : AllRight (continued_by (resumed past o) (failed_in fails part.now))
    all = subst AllRight part.joined right

    resumes : AllRight (resumed past o)
    resumes = right_past (resumed past o) (failed_in fails part.now) all

    all_past : AllRight past
    all_past = resumes.0.0

    by : (WasFoundVoted b log from before → IsToCommit b past) → ((lists_row o.rows b.gtrid ≡ true) × HasSaidYes b log from before) ⊎ WasFoundVoted b log from before
        → IsToCommit b (resumed past o)
    by rest (inl (row, said)) =
        let voted =
        some_lasts (SaidYes b) (HasVoted b) (voted_step b) (λ p o seen told i right s. said_so p b o seen told i right s) log from before past parts all_past said in
        record {
          prepared = prepared_step b (gone past) (Restarted o.incarnation (length o.rows) (length o.heuristic_rows)) resumes
              (prepared_step b past (Crashed Part.Manager) resumes.0 voted.prepared);
          had = (always (resumed past o) resumes).row_rowed b.gtrid
              (sym (same_listed o.rows (rows_of (resumed past o)) part.finds.rows b.gtrid) ∙ row);
        }
    by rest (inr earlier) =
        commit_step b (gone past) (Restarted o.incarnation (length o.rows) (length o.heuristic_rows)) resumes
        (commit_step b past (Crashed Part.Manager) resumes.0 (rest earlier))
found_lasts b _ _ (Between log from to d how before was final) whole (past, parts, is) right found =
    let all : AllRight (Then past (CompletedAlone d how)) = subst AllRight is right in
    subst (IsToCommit b) (sym is) (commit_step b past (CompletedAlone d how) all (found_lasts b log from before past parts all.0 found))

-- a branch that was prepared, and isn't undone nor only read, commits
good_commits : (s : Standing) → WasPrepared s → IsGood s → IsCommitting s
good_commits Prepared w g = tt
good_commits Committed w g = tt
good_commits (Completed how) w g = tt
good_commits (Forgotten how) w g = tt
good_commits RolledBack w g = absurd g
good_commits _ w g = absurd w

prepared_begun : (s : Standing) → WasPrepared s → HasBegun s
prepared_begun Prepared w = tt
prepared_begun Committed w = tt
prepared_begun (Completed how) w = tt
prepared_begun (Forgotten how) w = tt
prepared_begun RolledBack w = tt
prepared_begun _ w = absurd w

whole_commits : (s : Standing) → IsCommitting (broken s) → IsCommitting s
whole_commits Active h = absurd h
whole_commits Idle h = absurd h
whole_commits RollbackOnly h = absurd h
whole_commits s h = h

-- the row is there as long as a branch of its transaction is prepared
pub row_of_prepared : (tr : Trace) (c : Branch) (g : Gtrid) → AllRight tr → c.gtrid ≡ g → had_row tr g ≡ true → standing tr c ≡ Prepared
    → has_row tr g ≡ true
row_of_prepared tr c g right same had prepared = by (has_row tr g) refl
  where
    c_started : started tr c ≡ true
    c_started = begun_is_started tr c right (subst HasBegun (sym prepared) tt)

    by : (t : Bool) → has_row tr g ≡ t → t ≡ true
    by true e = refl
    by false e = absurd (prepared_not_at_rest (standing tr c) prepared
        (settled_at_rest tr c (always tr right) c_started ((always tr right).row_left g had e c same c_started)))

module _ (log : Log) (f : Branch → Standing) (after : AfterSessions log f) (m : IsOneHistory log f after) (b : Branch) (was : IsToCommit b m.whole) where
  all_gone : AllRight (gone m.whole)
  all_gone = gone_so log f after m

  here : IsToCommit b (gone m.whole)
  here = commit_step b m.whole (Crashed Part.Manager) all_gone was

  begun : started (gone m.whole) b ≡ true
  begun = begun_is_started (gone m.whole) b all_gone (prepared_begun (standing (gone m.whole) b) here.prepared)

  good : IsGood (standing (gone m.whole) b)
  good = ((always (gone m.whole) all_gone).rows b.gtrid here.had).good b refl begun

  to_commit : WillCommit log f b
  to_commit = record {
    commits = whole_commits (f b) (subst IsCommitting (m.there b) (good_commits (standing (gone m.whole) b) here.prepared good));
    none_undone = λ c same u. true≢false
        (sym (or_right (adds_row (doubt m.whole) b.gtrid) (had_row m.whole b.gtrid) was.had)
        ∙ (ap (ever m.whole) (sym same) ∙ undone_so log f after m c u));
    row_stays = λ c next same prepared finds.
        let found = m.finds next finds in
        same_listed next.rows (rows_of (resumed m.whole next)) found.rows b.gtrid
        ∙ row_of_prepared (resumed m.whole next) c b.gtrid (all_gone, (refl, found.later, found.rows.number, found.records.number)) same
        (rowed_kept (gone m.whole) (Restarted next.incarnation (length next.rows) (length next.heuristic_rows)) b.gtrid here.had)
        (m.there c ∙ ap broken prepared);
  }

pub found_commits : FoundWillCommit
found_commits log f after b was = let m = reached log f after in to_commit log f after m b (found_lasts b log f after m.whole m.parts m.right was)

pub will_commit : DecidedWillCommit
will_commit log f after b was =
    let m = reached log f after in
    to_commit log f after m b
    (some_lasts (IsDecidedAfterVote b) (IsToCommit b) (commit_step b) (λ p o seen told i right d. decided_so p b o seen told i right d)
    log f after m.whole m.parts m.right was)

-- ** the row of its transaction

not_read_only : (s : Standing) → WasPrepared s → s ≡ ReadOnly → ⊥
not_read_only s w e = subst WasPrepared e w

-- a start over what they left finds it there, if it finds the row
pub voter_in_row : (log : Log) (f : Branch → Standing) (after : AfterSessions log f) (b : Branch) (next : Origin) → HasSaidYes b log f after
    → Finds log next → lists_row next.rows b.gtrid ≡ true → has_branch (participants_in next.rows b.gtrid) b ≡ true
voter_in_row log f after b next said finds row = by (inv.covered b.gtrid has b refl (begun_is_started (resumed m.whole next) b all (prepared_begun _ was)))
  where
    m : IsOneHistory log f after
    m = reached log f after

    found : FindsLog m.whole next
    found = m.finds next finds

    all : AllRight (resumed m.whole next)
    all = (gone_so log f after m, (refl, found.later, found.rows.number, found.records.number))

    inv : Inv (resumed m.whole next)
    inv = always (resumed m.whole next) all

    voted : HasVoted b m.whole
    voted = some_lasts (SaidYes b) (HasVoted b) (voted_step b) (λ p o seen told i right s. said_so p b o seen told i right s)
        log f after m.whole m.parts m.right said

    was : WasPrepared (standing (resumed m.whole next) b)
    was = prepared_step b (gone m.whole) (Restarted next.incarnation (length next.rows) (length next.heuristic_rows)) all
        (prepared_step b m.whole (Crashed Part.Manager) all.0 voted.prepared)

    has : has_row (resumed m.whole next) b.gtrid ≡ true
    has = sym (same_listed next.rows (rows_of (resumed m.whole next)) found.rows b.gtrid) ∙ row

    by : (has_branch (participants_in (rows_of (resumed m.whole next)) b.gtrid) b ≡ true) ⊎ (was_told (resumed m.whole next) (says_read_only b) ≡ true)
        → has_branch (participants_in next.rows b.gtrid) b ≡ true
    by (inl there) = found.rows.participants b.gtrid b ∙ there
    by (inr only) = absurd (not_read_only (standing (resumed m.whole next) b) was (inv.voted_read_only b only))
