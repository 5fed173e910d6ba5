-- Sessions one after another, each over a log of whatever type, agree.
use Rattle.std.proofs.Common.{◌≡◌, ◌<◌, ◌⊎◌, inl, inr, ℕ, List, [], Some, refl, sym, subst, arith, Bool, true, false, Option, None, ap}
use Rattle.std.proofs.lemmas.List.Elements.{All-contains, Contains-append_cases}
use Rattle.std.specs.FinMap.{get}
use Rattle.std.specs.List.{Contains}
use Rattle.std.specs.Prelude.{◌≢◌, IsSome, if◌then◌else◌}
use Rattle.xa_base.specs.Branch.{IsBranch}
use Rattle.xa_base.specs.declared.branch.Gtrid.{Gtrid}
use Rattle.xa_base.specs.declared.state.Standing.{Standing}
use Rattle.xa_base.specs.declared.state.Standing.TheVariants.{Prepared, Unstarted}
use Rattle.xa_log.specs.Content.{Content}
use Rattle.xa_log.specs.Contract.{Moment}
use Rattle.xa_base.specs.Branch.{branch_of_xid}
use Rattle.xa_model.proofs.ProcessLemmas.Leaving.{fits_branch}
use Rattle.xa_model.specs.Facts.{fits}
use Rattle.xa_model.specs.Trace.{Branch, Origin}
use Rattle.xa_monitor.specs.Agreement.{StandAlike}
use Rattle.xa_monitor.specs.Seen.{Seen}
use Rattle.xa_monitor.specs.Sessions.{AfterSessions, AfterSessions.Between, AfterSessions.NoneYet, CommitStands, Finds, HaveOneHistory, Log, Log.Empty, RowsDecide, WasFoundDecided}
use Rattle.xa_names.specs.Laws.{BranchesAreRead, NamesAreApart, OwnHaveName, RenamesBack}
use Rattle.xa_names.specs.Names.{IsUnder, renamed, xid_under}
use Rattle.xa_server.proofs.LeftLogs.{commit_stands, log_decides, raised_once, start_of}
use Rattle.xa_server.proofs.LogLemmas.{replies_keep}
use Rattle.xa_server.proofs.LogStarts.{empty_found, raised_from}
use Rattle.xa_server.proofs.SessionChains.{AreSessions, Laws, one_more}
use Rattle.xa_server.specs.LeftSessions.{IsBehind, LeftSessionsAgree, ServedSessionsGoOn, SessionsBegin, SessionsGoOn, SessionsWait, StandingsAreUnder, under}
use Rattle.xa_server.specs.NamedLines.{lines_read}
use Rattle.xa_server.specs.Sessions.{HasOneHistory, HoldsLeft, IsSessionLeft, IsSessionLeft.AfterLine, IsSessionLeft.InAnswer, IsSessionLeft.InRequest, ServedSessionsAreSeen, StartsOver}
use Rattle.xa_server.specs.Votes.{IsLogged}
use Rattle.xa_server.specs.declared.server.Server.{Server}
use Rattle.xa_base.specs.HeldBranch.{new_branch}
use Rattle.xa_base.specs.Scan.{Scan.NotOpen}
use Rattle.xa_tm.specs.Begins.{BeginsWith, records_begun, rows_begun}
use Rattle.xa_tm.specs.Calls.{book_in, log_in}
use Rattle.xa_tm.specs.Laws.{StartRowsAreApart}
use Rattle.xa_tm.specs.Starting.{StartsHaveContent}

-- ** how they come to be

-- where nothing is, no branch is started
nothing_under : (name : List ℕ) (b : Branch) → Unstarted ≡ under name (λ r x. Unstarted) b
nothing_under name b = by (fits b)
  where
    by : (t : Bool) → Unstarted ≡ (if t then Unstarted else Unstarted)
    by true = refl
    by false = refl

-- so all that holds where none is started holds there
pub begun_under : (name : List ℕ) (P : (Branch → Standing) → Type 0) → P (λ b. Unstarted) → P (under name (λ r x. Unstarted))
begun_under name P holds = subst P (λ i. λ b. nothing_under name b i) holds

pub begin : SessionsBegin
begin name c empty = record {
  behind = λ next raised. record {
    log = Empty 0;
    after = begun_under name (AfterSessions (Empty 0)) (NoneYet 0);
    finds = empty_found c next empty raised;
    decided = λ b found. absurd (none b found);
  };
}
  where
    none : (b : Branch) → Contains [] b → ⊥
    none b found = let at = found.1 in omega (arith, at)

pub wait : SessionsWait
wait name from to c found d how left was final = record {
  behind = λ next raised.
      let on = left.behind next raised in
      record { log = on.log; after = Between on.log (under name from) (under name to) d how on.after was final; finds = on.finds; decided = on.decided };
}

-- a log that holds what was left has its rows
row_there : {L : Type 0} (moment : L → Moment) (c : Content) (handed : L) (g : Gtrid) → HoldsLeft moment c handed → IsLogged (Some c) g
    → IsLogged (moment handed).content g
row_there moment c handed g has row = subst (λ l. IsLogged l g) (sym has.has) (subst (λ m. IsSome (get m g)) (sym has.same.decisions) row)

pub go_on : {L : Type 0} (moment : L → Moment) → Laws L → SessionsGoOn moment
go_on {L} moment laws name from to c d found more handed o told seen now left done cut prior decided has is is_left honest may leaves = record {
  behind = λ next raised.
      let on = all.next d leaves next raised in
      record { log = on.log; after = on.after; finds = on.finds; decided = λ b among. on.decided b (found_so b (Contains-append_cases more found b among)) };
}
  where
    all : AreSessions moment (Some left) (under name to)
        (λ b. ((under name from b ≡ Prepared) × IsLogged (moment handed).content b.gtrid) ⊎ Contains found b)
    all = one_more moment laws name handed o told now is (under name from) (under name to) (Contains found) c prior.behind has seen left is_left honest
        done cut may

    found_so : (b : Branch) → Contains more b ⊎ Contains found b
        → ((under name from b ≡ Prepared) × IsLogged (moment handed).content b.gtrid) ⊎ Contains found b
    found_so b (inl now) =
        let both = All-contains (λ d. (under name from d ≡ Prepared) × IsLogged (Some c) d.gtrid) more b decided now in inl (both.0, row_there moment c handed b.gtrid has both.1)
    found_so b (inr earlier) = inr earlier

-- ** a session that is served

-- a start that has the rows and records of the log, and at whose resource managers nothing is
abbrev pub start_over : {L : Type 0} → (threads rms : ℕ) → Server L → Origin
start_over threads rms first = record {
  threads = threads;
  rms = rms;
  incarnation = (book_in first.session.manager).incarnation;
  rows = rows_begun first.session.manager;
  heuristic_rows = records_begun first.session.manager;
  held = λ r x. new_branch;
  in_doubt = λ r. [];
  scans = λ r. NotOpen;
}

pub begins_over : {L : Type 0} (threads rms : ℕ) (first : Server L) → BeginsWith threads rms first.session.manager (start_over threads rms first)
begins_over threads rms first = record { threads_are = refl; rms_are = refl; incarnation = refl; rows = refl; records = refl }

-- its start is of a later incarnation than what was left
later : {L : Type 0} (moment : L → Moment) (threads rms : ℕ) (handed : L) (first : Server L) (c : Content) → StartsOver moment threads rms handed first
    → HoldsLeft moment c handed → (moment (log_in first.session.manager)).is_honest → c.incarnation < (book_in first.session.manager).incarnation
later moment threads rms handed first c starts has honest =
    let o = start_over threads rms first in
    let raised = raised_from moment threads rms handed first starts has.order honest has.content has.has o (begins_over threads rms first)
    c has.same.decisions has.same.heuristics has.raised in
    subst (λ i. c.incarnation < i) (sym raised.has.incarnation) raised.raised

-- a log that is honest where a session was left was so behind its last line
pub honest_before : {L : Type 0} (moment : L → Moment) (told seen : Seen) (now left : Server L) → IsSessionLeft moment told now seen left
    → (moment (log_in left.session.manager)).is_honest → (moment (log_in now.session.manager)).is_honest
honest_before moment told _ now _ AfterLine honest = honest
honest_before moment told _ now _ (InRequest request left asks performs) honest = performs.keeps.honest honest
honest_before moment told _ now _ (InAnswer t r name code call left waits performs) honest = performs.keeps.honest honest

pub served_on : {L : Type 0} (moment : L → Moment) → SessionsGoOn moment → ServedSessionsAreSeen moment → ServedSessionsGoOn moment
served_on moment on are_seen name threads rms lines replies handed first now left starts have fine is_left honest =
    let start = start_over threads rms first in
    let told = are_seen name threads rms lines replies handed first now starts have fine start (begins_over threads rms first) in
    record {
      start = start;
      seen = told.0;
      told = told.1;
      raised = λ c has.
          later moment threads rms handed first c starts has
          ((replies_keep moment (lines_read name lines) replies first now have).honest
          (honest_before moment told.0 told.0 now left (is_left told.0) honest));
      leaves = λ from to c d found more done cut prior decided has may leaves.
          on name from to c d found more handed start told.0 told.0 now left done cut prior decided has told.2 (is_left told.0) honest may leaves;
    }

-- ** what follows

-- one history, as a start sees it
pub as_found : (f : Branch → Standing) (log : Log) (next : Origin) → HaveOneHistory log f → Finds log next → HasOneHistory f next
as_found f log next one finds = record {
  whole = one.whole;
  right = one.right;
  there = one.there;
  finds = one.finds next finds;
  committed = one.committed;
  undone = one.undone;
}

module _ (agree : (log : Log) (f : Branch → Standing) → AfterSessions log f → StandAlike f)
    (rows : (log : Log) (f : Branch → Standing) (next : Origin) → AfterSessions log f → Finds log next → RowsDecide f next)
    (decided : (log : Log) (f : Branch → Standing) (next : Origin) (b : Branch) (after : AfterSessions log f)
    → WasFoundDecided b log f after → Finds log next → CommitStands f next b)
    (history : (log : Log) (f : Branch → Standing) → AfterSessions log f → HaveOneHistory log f)
    (content : StartsHaveContent) (are_apart : StartRowsAreApart) where
  pub all_alike : LeftSessionsAgree
  all_alike name F c found left = record {
    agree = agree on.log (under name F) on.after;
    rows = log_decides content are_apart c (under name F) (rows on.log (under name F) (start_of c) on.after on.finds);
    decided = λ b among.
        commit_stands content are_apart c (under name F) b (decided on.log (under name F) (start_of c) b on.after (on.decided b among) on.finds);
    history = λ next raised.
        let on = left.behind next raised in as_found (under name F) on.log next (history on.log (under name F) on.after) on.finds;
  }
    where
      on : IsBehind (under name F) (Contains found) (start_of c)
      on = left.behind (start_of c) (raised_once content are_apart c)

-- ** databases

-- where an identifier stands, by the branch that it names
at_branch : (Branch → Standing) → Option Branch → Standing
at_branch f None = Unstarted
at_branch f (Some b) = f b

pub are_under : BranchesAreRead → StandingsAreUnder
unfolding at_branch
are_under read name f none = (λ r x. at_branch f (branch_of_xid (renamed name x)), λ b. by b (fits b) refl)
  where
    by : (b : Branch) (t : Bool) → fits b ≡ t → (if t then at_branch f (branch_of_xid (renamed name (xid_under name b))) else Unstarted) ≡ f b
    by b true e = ap (at_branch f) (read name b (fits_branch b e))
    by b false e = sym (none b e)

-- ** managers of different names

module _ (read : BranchesAreRead) (own : OwnHaveName) (back : RenamesBack) where
  -- the identifier of a branch is one of the manager's name
  own_name : (name : List ℕ) (b : Branch) → IsBranch b → IsUnder name (xid_under name b)
  own_name name b is = subst (IsUnder name) (back name (xid_under name b)) (own name (renamed name (xid_under name b)) b (read name b is))

  pub apart_under : NamesAreApart → (m n : List ℕ) → m ≢ n → (b c : Branch) → IsBranch b → IsBranch c → xid_under m b ≢ xid_under n c
  apart_under apart m n differ b c one other same =
      differ (apart m n (xid_under n c) (subst (IsUnder m) same (own_name m b one)) (own_name n c other))
