-- The branches of one transaction through a session, over databases of which only these are known to obey the table.
use Rattle.std.proofs.Common.{◌≡◌, ◌<◌, ◌≤◌, ◌⊎◌, inl, inr, ℕ, List, [], ◌∷◌, Bool, true, false, refl, sym, ap, ◌∙◌, subst, arith}
use Rattle.std.proofs.lemmas.Bool.{false_from_ne_true}
use Rattle.std.proofs.lemmas.Bool.Decides.{nat_tests}
use Rattle.std.specs.Prelude.{if◌then◌else◌, nat_lt, Option, Some, None}
use Rattle.xa_base.proofs.BranchKeys.{branch_eq-refl, branch_eq-true, gtrid_eq-refl, gtrid_eq-true}
use Rattle.xa_base.proofs.StateLemmas.{broken_twice}
use Rattle.xa_base.specs.Branch.{branch_eq, gtrid_eq, xid_of_branch}
use Rattle.xa_base.specs.HeldBranch.{HeldBranch, new_branch}
use Rattle.xa_base.specs.StateTable.{Kind, answer, asks_of, broken, moved, state_of}
use Rattle.xa_base.specs.Xid.{Xid}
use Rattle.xa_base.specs.declared.state.Standing.{Standing}
use Rattle.xa_base.specs.declared.state.Standing.TheVariants.{Active, Committed, Completed, Forgotten, Idle, Lost, Prepared, ReadOnly, RollbackOnly, Unstarted}
use Rattle.xa_base.specs.declared.vote.Vote.TheVariants.{Yes}
use Rattle.xa_model.proofs.Invariant.{Inv, IsAtRest, IsGood, IsOlder, Old}
use Rattle.xa_model.proofs.Invariant.AtEachMoment.{handed_over_alone}
use Rattle.xa_model.proofs.Invariant.Now.{settled_at_rest}
use Rattle.xa_model.proofs.Invariant.Preservation.{run_always}
use Rattle.xa_model.proofs.NameLemmas.OwnNames.{own_name}
use Rattle.xa_model.proofs.ProcessLemmas.Leaving.{fits_branch}
use Rattle.xa_model.proofs.ProcessLemmas.SameLogs.{same_listed}
use Rattle.xa_model.specs.Facts.{fits, had_row, handed_over, has_branch, has_record, has_row, lists_row, log as rows_of, origin, participants, participants_in, recorded, says_read_only, standing, started, was_told}
use Rattle.xa_model.specs.Facts.InDoubt.{name_of}
use Rattle.xa_model.specs.Promises.Agreement.{IsUndone}
use Rattle.xa_model.specs.Promises.Processes.{AllAreNamed, gone, resumed}
use Rattle.xa_model.specs.Protocol.{IsRun, OldOrigin}
use Rattle.xa_model.specs.Trace.{Branch, Call, Code, Fault, Gtrid, How, Line, Name, Name.Foreign, Name.Ours, Origin, Trace, line_eq, line_of}
use Rattle.xa_monitor.proofs.Agreeing.{from_known}
use Rattle.xa_monitor.proofs.Books.{finds_same}
use Rattle.xa_monitor.proofs.LaterStarts.{asks_if, broken_failed, history_back, named_failed, origin_failed, rules_back, run_failed, stands_back}
use Rattle.xa_monitor.proofs.Names.{done_named, waiting_named}
use Rattle.xa_monitor.proofs.UntoldCalls.{LeavesThere}
use Rattle.xa_monitor.specs.Agreement.{IsLineOf, MayAllStand, MayAllStand.AsTold as All_as_told, MayAllStand.CutOff as All_cut_off, MayAllStand.EndedAlone as All_ended_alone, MayAllStand.UnderWay as All_under_way, WaitsAt, is_line_among, times}
use Rattle.xa_monitor.specs.Explained.{IsExplained}
use Rattle.xa_monitor.specs.Seen.{IsHistory, Seen, Seen.Answered, Seen.Did, Seen.Lost, Seen.Start}
use Rattle.xa_monitor.specs.Sessions.{Finds, FindsLog, IsSession, Log.LeftBy, failed_in}
use Rattle.xa_monitor.specs.Standings.{Comes, Explains, ExplainsAsked, ExplainsIf, MayBeFound, MayStand}
use Rattle.xa_server.proofs.OlderBranches.{HasNoRow, HasNoRow.All_over, HasNoRow.None_committed, HasNoRow.Only_one, HasRow, IsEarlier, IsKept, IsPast, NoRowAt, IsEndedAlone, held_at, no_row_at, none_at, over_at, records_at, row_at}
use Rattle.xa_server.specs.Transactions.{MayStandFor, MayStandFor.AsTold, MayStandFor.CutOff, MayStandFor.EndedAlone, MayStandFor.UnderWay, MayTurn, MayTurn.CommittedByHand, MayTurn.EndsByItself, MayTurn.ForgetsByItself, MayTurn.ForgetsItsRollback, MayTurn.RolledBackByHand, WasDoneFor}

-- ** what is so at each start

-- where its branches stand at a start, once what was open is lost
pub record Stands (g : Gtrid) (o : Origin) (h : Branch → Standing) : Type 0 where
  pub named : (b : Branch) → b.gtrid ≡ g → fits b ≡ false → h b ≡ Unstarted
  pub young : o.incarnation ≤ g.incarnation → (b : Branch) → b.gtrid ≡ g → h b ≡ Unstarted
  pub records : (b : Branch) → b.gtrid ≡ g → has_record o.heuristic_rows b ≡ true → IsEndedAlone (h b)
  pub kept : lists_row o.rows g ≡ true → (b : Branch) → b.gtrid ≡ g → IsKept (h b)
  pub covers : lists_row o.rows g ≡ true → (b : Branch) → b.gtrid ≡ g → h b ≡ Prepared → has_branch (participants_in o.rows g) b ≡ true
  pub no_row : lists_row o.rows g ≡ false → HasNoRow h g

-- it is to commit: the start has its row, or all of its branches that were there are over, none of them undone
abbrev pub Commits : Gtrid → Origin → (Branch → Standing) → Type 0
Commits g o h =
    (lists_row o.rows g ≡ true) ⊎ ((g.incarnation < o.incarnation) × ((b : Branch) → b.gtrid ≡ g → IsKept (h b) × IsPast (h b)))

-- it is not: the start has no row of it, none of its branches is committed, and it is begun no more
pub record NeverCommits (g : Gtrid) (o : Origin) (h : Branch → Standing) : Type 0 where
  pub earlier : g.incarnation < o.incarnation
  pub no_row : lists_row o.rows g ≡ false
  pub none : (b : Branch) → b.gtrid ≡ g → h b ≡ Committed → ⊥

-- what a session passes on of a transaction
pub record PassesOn (g : Gtrid) (o next : Origin) (before behind : Branch → Standing) : Type 0 where
  pub stands : Stands g next behind
  pub commits : Commits g o before → Commits g next behind
  pub never_commits : NeverCommits g o before → NeverCommits g next behind

same_commits : (g : Gtrid) (o : Origin) (h k : Branch → Standing) → ((b : Branch) → b.gtrid ≡ g → h b ≡ k b) → Commits g o h → Commits g o k
same_commits g o h k same (inl row) = inl row
same_commits g o h k same (inr x) = inr (x.0, λ b q. (subst IsKept (same b q) (x.1 b q).0, subst IsPast (same b q) (x.1 b q).1))

same_never : (g : Gtrid) (o : Origin) (h k : Branch → Standing) → ((b : Branch) → b.gtrid ≡ g → h b ≡ k b) → NeverCommits g o h → NeverCommits g o k
same_never g o h k same n = record { earlier = n.earlier; no_row = n.no_row; none = λ b q e. n.none b q (same b q ∙ e) }

same_no_row : (g : Gtrid) (h k : Branch → Standing) → ((b : Branch) → b.gtrid ≡ g → h b ≡ k b) → HasNoRow h g → HasNoRow k g
same_no_row g h k same (None_committed none) = None_committed (λ b q e. none b q (same b q ∙ e))
same_no_row g h k same (All_over over) = All_over (λ b q. (subst IsKept (same b q) (over b q).0, subst IsPast (same b q) (over b q).1))
same_no_row g h k same (Only_one d others) = Only_one d (λ b q apart. sym (same b q) ∙ others b q apart)

pub same_stands : (g : Gtrid) (o : Origin) (h k : Branch → Standing) → ((b : Branch) → b.gtrid ≡ g → h b ≡ k b) → Stands g o h → Stands g o k
same_stands g o h k same s = record {
  named = λ b q unfit. sym (same b q) ∙ s.named b q unfit;
  young = λ later b q. sym (same b q) ∙ s.young later b q;
  records = λ b q has. subst IsEndedAlone (same b q) (s.records b q has);
  kept = λ row b q. subst IsKept (same b q) (s.kept row b q);
  covers = λ row b q e. s.covers row b q (same b q ∙ e);
  no_row = λ none. same_no_row g h k same (s.no_row none);
}

pub same_passed : (g : Gtrid) (o next : Origin) (before h k : Branch → Standing) → ((b : Branch) → b.gtrid ≡ g → h b ≡ k b)
    → PassesOn g o next before h → PassesOn g o next before k
same_passed g o next before h k same x = record {
  stands = same_stands g next h k same x.stands;
  commits = λ c. same_commits g next h k same (x.commits c);
  never_commits = λ c. same_never g next h k same (x.never_commits c);
}

-- ** so they are alike

kept_not_undone : (f : Standing) → IsKept f → IsUndone f → ⊥
kept_not_undone f k (inl u) = subst IsKept u k
kept_not_undone f k (inr u) = subst IsKept u k

past_not_prepared : (f : Standing) → IsPast f → f ≡ Prepared → ⊥
past_not_prepared f p e = subst IsPast e p

undone_begun : (f : Standing) → IsUndone f → f ≡ Unstarted → ⊥
undone_begun f (inl u) e = cc
undone_begun f (inr u) e = cc

undone_not : (f : Standing) → IsUndone f → f ≡ Committed → ⊥
undone_not f (inl u) e = cc
undone_not f (inr u) e = cc

module _ (g : Gtrid) (o : Origin) (h : Branch → Standing) (s : Stands g o h) where
  -- two branches of which only one may have begun
  one_branch : (d b : Branch) → ((b : Branch) → b.gtrid ≡ g → (b ≡ d → ⊥) → h b ≡ Unstarted) → b.gtrid ≡ g → (h b ≡ Unstarted → ⊥) → b ≡ d
  one_branch d b others q begun = by (branch_eq b d) refl
    where
      by : (t : Bool) → branch_eq b d ≡ t → b ≡ d
      by true e = branch_eq-true b d e
      by false e = absurd (begun (others b q (λ p. let x : branch_eq b d ≡ true = ap (λ y. branch_eq y d) p ∙ branch_eq-refl d in cc)))

  pub undone_no_row : (b : Branch) → b.gtrid ≡ g → IsUndone (h b) → lists_row o.rows g ≡ false
  undone_no_row b q u = false_from_ne_true _ (λ row. kept_not_undone (h b) (s.kept row b q) u)

  pub stand_alike : (b c : Branch) → b.gtrid ≡ g → c.gtrid ≡ g → h b ≡ Committed → IsUndone (h c) → ⊥
  stand_alike b c q r e u = by (s.no_row (undone_no_row c r u))
    where
      by : HasNoRow h g → ⊥
      by (None_committed none) = none b q e
      by (All_over over) = kept_not_undone (h c) (over c r).0 u
      by (Only_one d others) =
          let one = one_branch d b others q (λ x. cc) in
          let other = one_branch d c others r (λ x. undone_begun (h c) u x) in
          undone_not (h c) u (ap h (other ∙ sym one) ∙ e)

  -- what is to commit is never undone, and has its row as long as a branch is prepared
  pub commits_kept : Commits g o h → (b : Branch) → b.gtrid ≡ g → IsUndone (h b) → ⊥
  commits_kept (inl row) b q u = kept_not_undone (h b) (s.kept row b q) u
  commits_kept (inr x) b q u = kept_not_undone (h b) (x.1 b q).0 u

  pub commits_row : Commits g o h → (b : Branch) → b.gtrid ≡ g → h b ≡ Prepared → lists_row o.rows g ≡ true
  commits_row (inl row) b q p = row
  commits_row (inr x) b q p = absurd (past_not_prepared (h b) (x.1 b q).1 p)

  pub row_decides : (b c : Branch) → b.gtrid ≡ g → c.gtrid ≡ g → h b ≡ Committed → h c ≡ Prepared → lists_row o.rows g ≡ true
  row_decides b c q r e p = by (lists_row o.rows g) refl
    where
      never : HasNoRow h g → ⊥
      never (None_committed none) = none b q e
      never (All_over over) = past_not_prepared (h c) (over c r).1 p
      never (Only_one d others) =
          let one = one_branch d b others q (λ x. cc) in
          let other = one_branch d c others r (λ x. cc) in
          let both : h c ≡ Committed = ap h (other ∙ sym one) ∙ e in cc

      by : (t : Bool) → lists_row o.rows g ≡ t → t ≡ true
      by true row = refl
      by false row = absurd (never (s.no_row row))

-- ** between two sessions

turned : (row : Bool) (f t : Standing) → MayTurn row f t → row ≡ true → IsKept f → IsKept t
turned row _ _ (EndsByItself how) r k = tt
turned row _ _ (ForgetsByItself how) r k = tt
turned row _ _ (CommittedByHand has) r k = tt
turned row _ _ (RolledBackByHand none) r k = cc
turned row _ _ (ForgetsItsRollback none) r k = tt

turned_over : (row : Bool) (f t : Standing) → MayTurn row f t → IsKept f → IsPast f → IsKept t × IsPast t
turned_over row _ _ (EndsByItself how) k p = (tt, tt)
turned_over row _ _ (ForgetsByItself how) k p = (tt, tt)
turned_over row _ _ (CommittedByHand has) k p = (tt, tt)
turned_over row _ _ (RolledBackByHand none) k p = absurd p
turned_over row _ _ (ForgetsItsRollback none) k p = absurd k

turned_alone : (row : Bool) (f t : Standing) → MayTurn row f t → IsEndedAlone f → IsEndedAlone t
turned_alone row _ _ (EndsByItself how) h = tt
turned_alone row _ _ (ForgetsByItself how) h = tt
turned_alone row _ _ (CommittedByHand has) h = absurd h
turned_alone row _ _ (RolledBackByHand none) h = absurd h
turned_alone row _ _ (ForgetsItsRollback none) h = absurd h

turned_begun : (row : Bool) (f t : Standing) → MayTurn row f t → f ≡ Unstarted → ⊥
turned_begun row _ _ (EndsByItself how) e = cc
turned_begun row _ _ (ForgetsByItself how) e = cc
turned_begun row _ _ (CommittedByHand has) e = cc
turned_begun row _ _ (RolledBackByHand none) e = cc
turned_begun row _ _ (ForgetsItsRollback none) e = cc

turned_committed : (row : Bool) (f t : Standing) → MayTurn row f t → row ≡ false → t ≡ Committed → ⊥
turned_committed row _ _ (EndsByItself how) r e = cc
turned_committed row _ _ (ForgetsByItself how) r e = cc
turned_committed row _ _ (CommittedByHand has) r e = cc
turned_committed row _ _ (RolledBackByHand none) r e = cc
turned_committed row _ _ (ForgetsItsRollback none) r e = cc

turned_prepared : (row : Bool) (f t : Standing) → MayTurn row f t → row ≡ true → t ≡ Prepared → ⊥
turned_prepared row _ _ (EndsByItself how) r e = cc
turned_prepared row _ _ (ForgetsByItself how) r e = cc
turned_prepared row _ _ (CommittedByHand has) r e = cc
turned_prepared row _ _ (RolledBackByHand none) r e = cc
turned_prepared row _ _ (ForgetsItsRollback none) r e = cc

pub broken_turn : (row : Bool) (f t : Standing) → MayTurn row f t → MayTurn row (broken f) (broken t)
broken_turn row _ _ (EndsByItself how) = EndsByItself how
broken_turn row _ _ (ForgetsByItself how) = ForgetsByItself how
broken_turn row _ _ (CommittedByHand has) = CommittedByHand has
broken_turn row _ _ (RolledBackByHand none) = RolledBackByHand none
broken_turn row _ _ (ForgetsItsRollback none) = ForgetsItsRollback none

module _ (g : Gtrid) (o : Origin) (row : Bool) (is : lists_row o.rows g ≡ row) (h k : Branch → Standing) (d : Branch) (turns : MayTurn row (h d) (k d))
    (others : (b : Branch) → b.gtrid ≡ g → branch_eq d b ≡ false → k b ≡ h b) (s : Stands g o h) where
  -- of the branch itself, and of any other
  each : (P : (f t : Standing) → Type 0) → P (h d) (k d) → ((f : Standing) → P f f) → (b : Branch) → b.gtrid ≡ g → P (h b) (k b)
  each P here there b q = by (branch_eq d b) refl
    where
      by : (t : Bool) → branch_eq d b ≡ t → P (h b) (k b)
      by true e = subst (λ x. P (h x) (k x)) (branch_eq-true d b e) here
      by false e = subst (P (h b)) (sym (others b q e)) (there (h b))

  turned_none : row ≡ false → ((b : Branch) → b.gtrid ≡ g → h b ≡ Committed → ⊥) → (b : Branch) → b.gtrid ≡ g → k b ≡ Committed → ⊥
  turned_none r none b q e =
      each (λ f t. (f ≡ Committed → ⊥) → t ≡ Committed → ⊥) (λ n x. turned_committed row (h d) (k d) turns r x) (λ f n x. n x) b q (λ x. none b q x) e

  all_over : ((b : Branch) → b.gtrid ≡ g → IsKept (h b) × IsPast (h b)) → (b : Branch) → b.gtrid ≡ g → IsKept (k b) × IsPast (k b)
  all_over over b q =
      each (λ f t. IsKept f × IsPast f → IsKept t × IsPast t) (λ x. turned_over row (h d) (k d) turns x.0 x.1) (λ f x. x) b q (over b q)

  turned_no_row : row ≡ false → HasNoRow h g → HasNoRow k g
  turned_no_row r (None_committed none) = None_committed (turned_none r none)
  turned_no_row r (All_over over) = All_over (all_over over)
  turned_no_row r (Only_one c rest) = Only_one c (λ b q apart.
      each (λ f t. f ≡ Unstarted → t ≡ Unstarted) (λ e. absurd (turned_begun row (h d) (k d) turns e)) (λ f e. e) b q (rest b q apart))

  pub turned_commits : Commits g o h → Commits g o k
  turned_commits (inl has) = inl has
  turned_commits (inr x) = inr (x.0, all_over x.1)

  pub turned_never : NeverCommits g o h → NeverCommits g o k
  turned_never n = record { earlier = n.earlier; no_row = n.no_row; none = turned_none (sym is ∙ n.no_row) n.none }

  pub turned_stands : Stands g o k
  turned_stands = record {
    named = λ b q unfit. still b q (s.named b q unfit);
    young = λ later b q. still b q (s.young later b q);
    records = λ b q has. each (λ f t. IsEndedAlone f → IsEndedAlone t) (turned_alone row (h d) (k d) turns) (λ f p. p) b q (s.records b q has);
    kept = λ r b q. each (λ f t. IsKept f → IsKept t) (λ p. turned row (h d) (k d) turns (sym is ∙ r) p) (λ f p. p) b q (s.kept r b q);
    covers = λ r b q e. s.covers r b q
        (each (λ f t. t ≡ Prepared → f ≡ Prepared) (λ x. absurd (turned_prepared row (h d) (k d) turns (sym is ∙ r) x)) (λ f x. x) b q e);
    no_row = λ none. turned_no_row (sym is ∙ none) (s.no_row none);
  }
    where
      still : (b : Branch) → b.gtrid ≡ g → h b ≡ Unstarted → k b ≡ Unstarted
      still = each (λ f t. f ≡ Unstarted → t ≡ Unstarted) (λ e. absurd (turned_begun row (h d) (k d) turns e)) (λ f e. e)

-- ** the branches of other transactions

-- the start, where branches stand so
abbrev held_if : (Branch → Standing) → Name → HeldBranch
held_if f (Ours b) = record { standing = f b; starter = b.thread; vote = Yes; retries = 0 }
held_if f (Foreign x) = new_branch

abbrev held_so : (Branch → Standing) → ℕ → Xid → HeldBranch
held_so f r x = held_if f (name_of x)

held_there : (o : Origin) (f : Branch → Standing) (b : Branch) → MayBeFound o b (f b) → held_at (record o { held = held_so f }) b ≡ f b
held_there o f b may = by (fits b) refl may
  where
    by : (t : Bool) → fits b ≡ t → MayBeFound o b (f b) → (if t then held_if f (name_of (xid_of_branch b)) else new_branch).standing ≡ f b
    by true e m = ap (λ n. (held_if f n).standing) (own_name b (fits_branch b e))
    by false e (inl u) = sym u
    by false e (inr m) = absurd (let fit = m.0 in cc)

-- where a branch may have been found that may stand there now
from_found : (o : Origin) (seen : Seen) (b : Branch) (f : Standing) → MayStand o seen b f → (f0 : Standing) × MayBeFound o b f0 × Comes seen b f0 f
from_found o Start b f m = (f, m, refl)
from_found o (Did seen e) b f m = from_found o seen b f m
from_found o (Answered seen l c a) b f m = let x = from_found o seen b m.0 m.1 in (x.0, x.1, (m.0, x.2, m.2))
from_found o (Lost seen l d) b f m = let x = from_found o seen b m.0 m.1 in (x.0, x.1, (m.0, x.2, m.2))

-- a branch of another transaction is another branch
other_branch : (g : Gtrid) (d b : Branch) → gtrid_eq d.gtrid g ≡ false → b.gtrid ≡ g → branch_eq d b ≡ false
other_branch g d b apart q = false_from_ne_true _ (λ e.
    let same : gtrid_eq d.gtrid g ≡ true = ap (λ (x : Branch). gtrid_eq x.gtrid g) (branch_eq-true d b e) ∙ (ap (λ y. gtrid_eq y g) q ∙ gtrid_eq-refl g) in cc)

module _ (g : Gtrid) (o : Origin) (seen : Seen) (from : Branch → Standing) (s : Stands g o (λ b. broken (from b)))
    (explained : (b : Branch) → (f : Standing) × MayStand o seen b f) where
  own_found : (b : Branch) → b.gtrid ≡ g → MayBeFound o b (broken (from b))
  own_found b q = by (fits b) refl (nat_lt b.gtrid.incarnation o.incarnation) refl
    where
      number : b.gtrid.incarnation ≡ g.incarnation
      number = ap (λ (x : Gtrid). x.incarnation) q

      by : (t : Bool) → fits b ≡ t → (u : Bool) → nat_lt b.gtrid.incarnation o.incarnation ≡ u → MayBeFound o b (broken (from b))
      by false e u x = inl (s.named b q e)
      by true e false x = inl (s.young (let n = number in grind (arith, nat_tests, x, n)) b q)
      by true e true x = inr (e, grind (arith, nat_tests, x), broken_twice (from b))

  -- where each other branch was found, and came from there by what was told
  pub other : (b : Branch) → (f : Standing) × MayBeFound o b f × Comes seen b f (explained b).0
  other b = from_found o seen b (explained b).0 (explained b).1

  own_is : (b : Branch) → b.gtrid ≡ g → gtrid_eq b.gtrid g ≡ true
  own_is b q = ap (λ y. gtrid_eq y g) q ∙ gtrid_eq-refl g

  abbrev pub stood : Branch → Standing
  stood b = if gtrid_eq b.gtrid g then broken (from b) else (other b).0

  pub stood_own : (b : Branch) → b.gtrid ≡ g → stood b ≡ broken (from b)
  stood_own b q = ap (λ t. if t then broken (from b) else (other b).0) (own_is b q)

  pub stood_found : (b : Branch) → MayBeFound o b (stood b)
  stood_found b = by (gtrid_eq b.gtrid g) refl
    where
      by : (t : Bool) → gtrid_eq b.gtrid g ≡ t → MayBeFound o b (if t then broken (from b) else (other b).0)
      by true e = own_found b (gtrid_eq-true b.gtrid g e)
      by false e = (other b).1

  told_by : (Branch → Standing) → Branch → Standing
  told_by f b = if gtrid_eq b.gtrid g then f b else (explained b).0

  come : (f : Branch → Standing) → ((b : Branch) → b.gtrid ≡ g → Comes seen b (broken (from b)) (f b)) → (b : Branch) → Comes seen b (stood b) (told_by f b)
  unfolding told_by
  come f may b = by (gtrid_eq b.gtrid g) refl
    where
      by : (t : Bool) → gtrid_eq b.gtrid g ≡ t → Comes seen b (if t then broken (from b) else (other b).0) (if t then f b else (explained b).0)
      by true e = may b (gtrid_eq-true b.gtrid g e)
      by false e = (other b).2

  -- all branches may stand somewhere, and those of the transaction there
  pub record AllMay (done cut : List Line) (to : Branch → Standing) : Type 0 where
    pub all : Branch → Standing
    pub agrees : (b : Branch) → b.gtrid ≡ g → all b ≡ to b
    pub may : MayAllStand o seen (λ b. Comes seen b (stood b)) done cut all

  as_told : (f : Branch → Standing) → ((b : Branch) → b.gtrid ≡ g → Comes seen b (broken (from b)) (f b)) → AllMay [] [] f
  unfolding told_by
  as_told f may = record {
    all = told_by f;
    agrees = λ b q. ap (λ t. if t then f b else (explained b).0) (own_is b q);
    may = All_as_told (told_by f) (come f may);
  }

  module _ (done cut : List Line) (mid to : Branch → Standing) (l : Line) (c : Call) (is : IsLineOf o l) (uncut : is_line_among cut l ≡ false)
      (waits : WaitsAt o seen l (times done l) (Some c)) (x : AllMay done cut mid) where
    -- the call was done, and so its branch stands there
    done_at : (k : Kind) (d : Branch) (a : Code) (t : Standing) → asks_of c ≡ Some (k, d) → Explains (x.all d) k a t
        → ((b : Branch) → b.gtrid ≡ g → branch_eq d b ≡ true → t ≡ to b) → ((b : Branch) → b.gtrid ≡ g → branch_eq d b ≡ false → to b ≡ mid b)
        → AllMay (l ∷ done) cut to
    done_at k d a t asks explains here others = record {
      all = λ b. if branch_eq d b then t else x.all b;
      agrees = λ b q. agree b q (branch_eq d b) refl;
      may = All_under_way done cut x.all (λ b. if branch_eq d b then t else x.all b) l c x.may is uncut waits
          (a, subst (λ z. (b : Branch) → ExplainsAsked z a b (x.all b) (if branch_eq d b then t else x.all b)) (sym asks) (λ b. moves b (branch_eq d b) refl));
    }
      where
        agree : (b : Branch) → b.gtrid ≡ g → (u : Bool) → branch_eq d b ≡ u → (if u then t else x.all b) ≡ to b
        agree b q true e = here b q e
        agree b q false e = x.agrees b q ∙ sym (others b q e)

        moves : (b : Branch) (u : Bool) → branch_eq d b ≡ u → ExplainsIf u (x.all b) k a (if u then t else x.all b)
        moves b true e = subst (λ y. Explains (x.all y) k a t) (branch_eq-true d b e) explains
        moves b false e = refl

    under_way : WasDoneFor g c mid to → AllMay (l ∷ done) cut to
    under_way was = by (asks_of c) refl was.1
      where
        left : (k : Kind) (d b : Branch) → branch_eq d b ≡ false → ExplainsIf (branch_eq d b) (mid b) k was.0 (to b) → to b ≡ mid b
        left k d b e w = subst (λ z. ExplainsIf z (mid b) k was.0 (to b)) e w

        by_own : (k : Kind) (d : Branch) → asks_of c ≡ Some (k, d) → ((b : Branch) → b.gtrid ≡ g → ExplainsIf (branch_eq d b) (mid b) k was.0 (to b))
            → (t : Bool) → gtrid_eq d.gtrid g ≡ t → AllMay (l ∷ done) cut to
        by_own k d asks w true own =
            let q = gtrid_eq-true d.gtrid g own in
            let here : Explains (mid d) k was.0 (to d) = subst (λ z. ExplainsIf z (mid d) k was.0 (to d)) (branch_eq-refl d) (w d q) in
            done_at k d was.0 (to d) asks (subst (λ y. Explains y k was.0 (to d)) (sym (x.agrees d q)) here)
            (λ b r e. ap to (branch_eq-true d b e)) (λ b r e. left k d b e (w b r))
        by_own k d asks w false own =
            done_at k d (answer k (state_of (x.all d)) Yes 0) (moved (x.all d) k (answer k (state_of (x.all d)) Yes 0)) asks
            (record { as_called = x.all d; alone = inl refl; vote = Yes; retries = 0; answers = refl; moves = refl })
            (λ b r e. absurd (let no = other_branch g d b own r in cc)) (λ b r e. left k d b e (w b r))

        by : (z : Option (Kind × Branch)) → asks_of c ≡ z → ((b : Branch) → b.gtrid ≡ g → ExplainsAsked z was.0 b (mid b) (to b)) → AllMay (l ∷ done) cut to
        by None asks w = record {
          all = x.all;
          agrees = λ b q. x.agrees b q ∙ sym (w b q);
          may = All_under_way done cut x.all x.all l c x.may is uncut waits
              (was.0, subst (λ z. (b : Branch) → ExplainsAsked z was.0 b (x.all b) (x.all b)) (sym asks) (λ b. refl));
        }
        by (Some (k, d)) asks w = by_own k d asks w (gtrid_eq d.gtrid g) refl

  cut_off : (done cut : List Line) (mid to : Branch → Standing) (l : Line) → AllMay done cut mid
      → ((b : Branch) → b.gtrid ≡ g → to b ≡ (if line_eq l (line_of b) then broken (mid b) else mid b)) → AllMay done (l ∷ cut) to
  cut_off done cut mid to l x final = record {
    all = λ b. if line_eq l (line_of b) then broken (x.all b) else x.all b;
    agrees = λ b q. ap (λ f. if line_eq l (line_of b) then broken f else f) (x.agrees b q) ∙ sym (final b q);
    may = All_cut_off done cut x.all (λ b. if line_eq l (line_of b) then broken (x.all b) else x.all b) l x.may (λ b. refl);
  }

  ended_alone : (done cut : List Line) (mid to : Branch → Standing) (d : Branch) (how : How) → AllMay done cut mid → mid d ≡ Prepared
      → ((b : Branch) → b.gtrid ≡ g → to b ≡ (if branch_eq d b then Completed how else mid b)) → (t : Bool) → gtrid_eq d.gtrid g ≡ t → AllMay done cut to
  ended_alone done cut mid to d how x was final true own = record {
    all = λ b. if branch_eq d b then Completed how else x.all b;
    agrees = λ b q. ap (λ f. if branch_eq d b then Completed how else f) (x.agrees b q) ∙ sym (final b q);
    may = All_ended_alone done cut x.all (λ b. if branch_eq d b then Completed how else x.all b) d how x.may
        (x.agrees d (gtrid_eq-true d.gtrid g own) ∙ was) (λ b. refl);
  }
  ended_alone done cut mid to d how x was final false own = record {
    all = x.all;
    agrees = λ b q.
        x.agrees b q ∙ sym (final b q ∙ ap (λ t. if t then Completed how else mid b) (other_branch g d b own q));
    may = x.may;
  }

  pub all_may : (done cut : List Line) (to : Branch → Standing) → MayStandFor g o seen (λ b. Comes seen b (broken (from b))) done cut to → AllMay done cut to
  all_may _ _ _ (AsTold f may) = as_told f may
  all_may _ _ _ (UnderWay done cut mid to l c may is uncut waits was) = under_way done cut mid to l c is uncut waits (all_may done cut mid may) was
  all_may _ _ _ (CutOff done cut mid to l may final) = cut_off done cut mid to l (all_may done cut mid may) final
  all_may _ _ _ (EndedAlone done cut mid to d how may was final) =
      ended_alone done cut mid to d how (all_may done cut mid may) was final (gtrid_eq d.gtrid g) refl

-- ** the next start

good_kept : (f : Standing) → IsGood f → IsKept f
good_kept Prepared h = tt
good_kept (Completed how) h = tt
good_kept Committed h = tt
good_kept ReadOnly h = tt
good_kept (Forgotten how) h = tt
good_kept _ h = absurd h

rest_past : (f : Standing) → IsAtRest f → IsPast f
rest_past Unstarted h = tt
rest_past Active h = h
rest_past Idle h = h
rest_past RollbackOnly h = h
rest_past Prepared h = h
rest_past _ h = tt

unstarted_past : (f : Standing) → f ≡ Unstarted → IsPast f
unstarted_past f e = subst IsPast (sym e) tt

unstarted_kept : (f : Standing) → f ≡ Unstarted → IsKept f
unstarted_kept f e = subst IsKept (sym e) tt

module _ (g : Gtrid) (last : Trace) (runs : IsRun last) (at : Stands g (origin last) (held_at (origin last))) (next : Origin) (found : FindsLog last next)
    (all_named : AllAreNamed last) where
  abbrev now : Trace
  now = resumed last next

  now_runs : IsRun now
  now_runs = ((runs, tt), (refl, found.later, found.rows.number, found.records.number))

  inv : Inv now
  inv = run_always now now_runs

  listed : lists_row next.rows g ≡ has_row now g
  listed = same_listed next.rows (rows_of now) found.rows g

  found_record : (b : Branch) → has_record next.heuristic_rows b ≡ true → recorded now b ≡ true
  found_record b has = sym (found.records.branches b) ∙ has

  is_named : (b : Branch) → b.gtrid ≡ g → fits b ≡ false → standing now b ≡ Unstarted
  is_named b q unfit = ap broken (all_named b unfit).0

  is_recorded : (b : Branch) → b.gtrid ≡ g → recorded now b ≡ true → IsEndedAlone (standing now b)
  is_recorded b q has = records_at now now_runs b (at.records b q) has

  later_start : (origin last).incarnation < next.incarnation
  later_start = let a = (run_always last runs).since_start in let b = found.later in omega (arith, a, b)

  -- it was begun before the session
  module _ (earlier : IsEarlier now g) where
    with_row : lists_row (origin last).rows g ≡ true → HasRow now g
    with_row row = row_at g now now_runs earlier at.records row (at.kept row) (at.covers row)

    without_row : lists_row (origin last).rows g ≡ false → NoRowAt now g
    without_row none = no_row_at g now now_runs earlier at.records none (at.no_row none)

    row_there : has_row now g ≡ true → HasRow now g
    row_there has = by (lists_row (origin last).rows g) refl
      where
        by : (t : Bool) → lists_row (origin last).rows g ≡ t → HasRow now g
        by true row = with_row row
        by false none = absurd (let had = inv.row_rowed g has in let no = (without_row none).had_none in cc)

    row_gone : has_row now g ≡ false → HasNoRow (standing now) g
    row_gone gone = by (lists_row (origin last).rows g) refl
      where
        by : (t : Bool) → lists_row (origin last).rows g ≡ t → HasNoRow (standing now) g
        by true row = let w = with_row row in All_over (λ b q. (w.kept b q, w.left gone b q))
        by false none = (without_row none).stands

    earlier_stands : Stands g next (standing now)
    earlier_stands = record {
      named = is_named;
      young = λ later b q. absurd (let l = later_start in omega (arith, l, later, earlier));
      records = λ b q has. is_recorded b q (found_record b has);
      kept = λ row b q. (row_there (sym listed ∙ row)).kept b q;
      covers = λ row b q e. let has = sym listed ∙ row in found.rows.participants g b ∙ (row_there has).covers has b q e;
      no_row = λ none. row_gone (sym listed ∙ none);
    }

    earlier_next : g.incarnation < next.incarnation
    earlier_next = let l = later_start in omega (arith, l, earlier)

    over_now : ((b : Branch) → b.gtrid ≡ g → IsKept (held_at (origin last) b) × IsPast (held_at (origin last) b)) → Commits g next (standing now)
    over_now over = inr (earlier_next, over_at g now now_runs earlier over)

    row_now : lists_row (origin last).rows g ≡ true → Commits g next (standing now)
    row_now row = by (lists_row next.rows g) refl
      where
        by : (t : Bool) → lists_row next.rows g ≡ t → Commits g next (standing now)
        by true has = inl has
        by false gone = let w = with_row row in inr (earlier_next, λ b q. (w.kept b q, w.left (sym listed ∙ gone) b q))

    never_now : NeverCommits g (origin last) (held_at (origin last)) → NeverCommits g next (standing now)
    never_now n = record {
      earlier = earlier_next;
      no_row = listed ∙ false_from_ne_true _ (λ has. let had = inv.row_rowed g has in
          let none = (no_row_at g now now_runs earlier at.records n.no_row (None_committed n.none)).had_none in cc);
      none = none_at g now now_runs earlier at.records n.no_row n.none;
    }

  -- it was begun in the session, or wasn't begun yet
  module _ (own : (origin last).incarnation ≤ g.incarnation) where
    not_older : (b : Branch) → b.gtrid ≡ g → IsOlder now b → ⊥
    not_older b q older = let n = ap (λ (x : Gtrid). x.incarnation) q in omega (arith, own, older, n)

    by_start : (P : Type 0) (b : Branch) → b.gtrid ≡ g → (started now b ≡ true → P) → (standing now b ≡ Unstarted → P) → P
    by_start P b q if_started if_not = by (started now b) refl
      where
        found_so : (standing now b ≡ Unstarted) ⊎ IsOlder now b → P
        found_so (inl u) = if_not u
        found_so (inr older) = absurd (not_older b q older)

        by : (t : Bool) → started now b ≡ t → P
        by true e = if_started e
        by false e = found_so (inv.unstarted b e)

    not_yet : next.incarnation ≤ g.incarnation → (b : Branch) → b.gtrid ≡ g → standing now b ≡ Unstarted
    not_yet later b q = by_start (standing now b ≡ Unstarted) b q (λ e. absurd (old ((run_always last runs).started_old b e))) (λ u. u)
      where
        old : Old last b.gtrid → ⊥
        old (inl o) = let n = ap (λ (x : Gtrid). x.incarnation) q in let f = found.later in omega (arith, o, n, f, later)
        old (inr o) = let i = o.0 in let n = ap (λ (x : Gtrid). x.incarnation) q in let f = found.later in omega (arith, i, n, f, later)

    is_kept : had_row now g ≡ true → (b : Branch) → b.gtrid ≡ g → IsKept (standing now b)
    is_kept had b q =
        by_start (IsKept (standing now b)) b q (λ e. good_kept (standing now b) ((inv.rows g had).good b q e)) (unstarted_kept (standing now b))

    is_covered : has_row now g ≡ true → (b : Branch) → b.gtrid ≡ g → standing now b ≡ Prepared → has_branch (participants now g) b ≡ true
    is_covered has b q p = by_start (has_branch (participants now g) b ≡ true) b q (λ e. by (inv.covered g has b q e)) (λ u. absurd (cc))
      where
        by : (has_branch (participants now g) b ≡ true) ⊎ (was_told now (says_read_only b) ≡ true) → has_branch (participants now g) b ≡ true
        by (inl h) = h
        by (inr told) = absurd (let r = inv.voted_read_only b told in cc)

    has_none : has_row now g ≡ false → (t : Bool) → had_row now g ≡ t → (u : Bool) → handed_over now g ≡ u → HasNoRow (standing now) g
    has_none none true had u handed = All_over (λ b q. (
      is_kept had b q,
      by_start (IsPast (standing now b)) b q
          (λ e. rest_past (standing now b) (settled_at_rest now b inv e (inv.row_left g had none b q e)))
          (unstarted_past (standing now b)),
    ))
    has_none none false had true handed =
        let one = (handed_over_alone now now_runs inv).some g handed in
        Only_one one.0 (λ b q apart. by_start (standing now b ≡ Unstarted) b q
        (λ e. absurd (apart (sym (inv.handed_one one.0 b (subst (λ y. handed_over now y ≡ true) (sym one.1) handed) (q ∙ sym one.1) one.2 e)))) (λ u. u))
    has_none none false had false handed = None_committed (λ b q e. by b q (inv.committed b e))
      where
        by : (b : Branch) → b.gtrid ≡ g → ((had_row now b.gtrid ≡ true) ⊎ (handed_over now b.gtrid ≡ true)) ⊎ IsOlder now b → ⊥
        by b q (inl (inl h)) = let x : had_row now g ≡ true = subst (λ y. had_row now y ≡ true) q h in cc
        by b q (inl (inr h)) = let x : handed_over now g ≡ true = subst (λ y. handed_over now y ≡ true) q h in cc
        by b q (inr older) = not_older b q older

    own_stands : Stands g next (standing now)
    own_stands = record {
      named = is_named;
      young = not_yet;
      records = λ b q has. is_recorded b q (found_record b has);
      kept = λ row b q. is_kept (inv.row_rowed g (sym listed ∙ row)) b q;
      covers = λ row b q e. let has = sym listed ∙ row in found.rows.participants g b ∙ is_covered has b q e;
      no_row = λ none. has_none (sym listed ∙ none) (had_row now g) refl (handed_over now g) refl;
    }

  pub next_stands : Stands g next (standing now)
  next_stands = by (nat_lt g.incarnation (origin last).incarnation) refl
    where
      by : (t : Bool) → nat_lt g.incarnation (origin last).incarnation ≡ t → Stands g next (standing now)
      by true e = earlier_stands (grind (arith, nat_tests, e))
      by false e = own_stands (grind (arith, nat_tests, e))

  pub next_commits : OldOrigin (origin last) → Commits g (origin last) (held_at (origin last)) → Commits g next (standing now)
  next_commits old (inl row) = row_now (old.rows_old g row) row
  next_commits old (inr x) = over_now x.0 x.1

  pub next_never : NeverCommits g (origin last) (held_at (origin last)) → NeverCommits g next (standing now)
  next_never n = never_now n.earlier n

-- ** a session

module _ (g : Gtrid) (o : Origin) (from : Branch → Standing) (s : Stands g o (λ b. broken (from b))) (seen : Seen) (fails : Option Fault)
    (session : IsSession o seen fails) (stood : Branch → Standing) (own : (b : Branch) → b.gtrid ≡ g → stood b ≡ broken (from b))
    (found : (b : Branch) → MayBeFound o b (stood b)) (done cut : List Line) (all : Branch → Standing)
    (may : MayAllStand o seen (λ b. Comes seen b (stood b)) done cut all) where
  abbrev start : Origin
  start = record o { held = held_so stood }

  there_at_start : (b : Branch) → held_at start b ≡ stood b
  there_at_start b = held_there o stood b (found b)

  is_old : OldOrigin start
  is_old = record { rows_old = session.old.rows_old; record_old = session.old.record_old; held_old = λ b. by b (found b) }
    where
      by : (b : Branch) → MayBeFound o b (stood b) → (held_at start b ≡ Unstarted) ⊎ (b.gtrid.incarnation < o.incarnation)
      by b (inl u) = inl (there_at_start b ∙ u)
      by b (inr m) = inr m.1

  start_stands : Stands g start (held_at start)
  start_stands = same_stands g start (λ b. broken (from b)) (held_at start) (λ b q. sym (there_at_start b ∙ own b q)) (record {
    named = s.named;
    young = s.young;
    records = s.records;
    kept = s.kept;
    covers = s.covers;
    no_row = s.no_row;
  })

  x : LeavesThere start seen (λ p. p ≡ start) done cut all
  x = from_known start seen is_old (rules_back o (held_so stood) seen session.keeps) done cut all
      (stands_back o (held_so stood) seen (λ b. Comes seen b (stood b)) (λ b. Comes seen b (held_at start b))
      (λ b f c. subst (λ y. Comes seen b y f) (sym (there_at_start b)) c) done cut all may)

  told_history : IsHistory o seen x.told
  told_history = history_back o (held_so stood) seen x.told x.is_history

  pub is_explained : IsExplained o seen
  is_explained = record { history = x.told; is_history = told_history; runs = x.told_runs }

  abbrev last : Trace
  last = failed_in fails x.now

  last_runs : IsRun last
  last_runs = run_failed fails o seen x.now x.told session.may_fail told_history x.told_runs x.same x.runs

  last_named : AllAreNamed last
  last_named = named_failed fails x.now (x.named
      (done_named o seen x.told told_history x.told_runs session.keeps session.on_branches)
      (λ l n c has e. waiting_named o seen x.told l n c told_history session.keeps session.on_branches e))

  stands_last : Stands g (origin last) (held_at (origin last))
  stands_last = subst (λ p. Stands g p (held_at p)) (sym (origin_failed fails x.now ∙ x.start)) start_stands

  start_is : origin last ≡ start
  start_is = origin_failed fails x.now ∙ x.start

  old_last : OldOrigin (origin last)
  old_last = subst OldOrigin (sym start_is) is_old

  stood_so : (b : Branch) → b.gtrid ≡ g → broken (from b) ≡ held_at start b
  stood_so b q = sym (there_at_start b ∙ own b q)

  commits_last : Commits g o (λ b. broken (from b)) → Commits g (origin last) (held_at (origin last))
  commits_last c = subst (λ p. Commits g p (held_at p)) (sym start_is) (same_commits g start (λ b. broken (from b)) (held_at start) stood_so (at c))
    where
      at : Commits g o (λ b. broken (from b)) → Commits g start (λ b. broken (from b))
      at (inl row) = inl row
      at (inr y) = inr y

  never_last : NeverCommits g o (λ b. broken (from b)) → NeverCommits g (origin last) (held_at (origin last))
  never_last n = subst (λ p. NeverCommits g p (held_at p)) (sym start_is)
      (same_never g start (λ b. broken (from b)) (held_at start) stood_so (record { earlier = n.earlier; no_row = n.no_row; none = n.none }))

  pub session_passes : (next : Origin) → Finds (LeftBy o seen fails) next → PassesOn g o next (λ b. broken (from b)) (λ b. broken (all b))
  session_passes next finds =
      same_passed g o next (λ b. broken (from b)) (standing (resumed last next)) (λ b. broken (all b))
      (λ b q. broken_failed fails x.now b ∙ ap broken (x.there b)) (record {
        stands = next_stands g last last_runs stands_last next found_log last_named;
        commits = λ c. next_commits g last last_runs stands_last next found_log last_named old_last (commits_last c);
        never_commits = λ n. next_never g last last_runs stands_last next found_log last_named (never_last n);
      })
    where
      found_log : FindsLog last next
      found_log = finds_same fails x.now x.told (asks_if fails o seen session.may_fail) x.same next (finds x.told told_history x.told_runs)
