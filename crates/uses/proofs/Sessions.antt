-- A driver is served.
use Rattle.std.proofs.Common.{◌≡◌, ℕ, true, List, [], ◌∷◌, ◌++◌, length, Option, Some, None, refl, sym, subst, arith}
use Rattle.std.specs.FinMap.{len-empty}
use Rattle.xa_base.specs.declared.branch.Gtrid.{Gtrid}
use Rattle.xa_base.specs.HeldBranch.{new_branch}
use Rattle.xa_base.specs.Scan.{Scan.NotOpen}
use Rattle.xa_server.proofs.LogLemmas.{replies_keep}
use Rattle.xa_server.proofs.LogStarts.{none_there, raised_from}
use Rattle.xa_server.proofs.TurnLemmas.{split_replies}
use Rattle.xa_server.specs.Replies.{greeting_of}
use Rattle.xa_server.specs.Serving.{HaveReplies, RepliesTo, Serves, replies_given, replies_text, requests_done, told_in}
use Rattle.xa_server.specs.Sessions.{IsEmptyLog, StartsOver}
use Rattle.xa_server.specs.Tracking.{ServedDatabasesAgree}
use Rattle.xa_server.specs.Votes.{AreVotes, IsLogged, VotedCommitsAreLogged}
use Rattle.xa_server.specs.Rows.{is_gtrid_among}
use Rattle.xa_server.specs.declared.server.Server.{Server}
use Rattle.xa_log.specs.Content.{nothing}
use Rattle.xa_log.specs.Contract.{Honestly, Moment}
use Rattle.xa_model.specs.Trace.{Origin}
use Rattle.xa_requests.specs.declared.response.Response.{Response}
use Rattle.xa_requests.specs.declared.response.Response.TheVariants as responses
use Rattle.xa_tm.specs.Begins.{BeginsWith, records_begun, rows_begun}
use Rattle.xa_tm.specs.Calls.{book_in, log_in}
use Rattle.uses.specs.Sessions.{EndDecided, IsServed, IsServedOver, LogsCommits}

-- a start that has the rows and records of the log, and at whose resource managers nothing is
abbrev pub start_of : {L : Type 0} → (threads rms : ℕ) → Server L → Origin
start_of threads rms first = record {
  threads = threads;
  rms = rms;
  incarnation = (book_in first.session.manager).incarnation;
  rows = rows_begun first.session.manager;
  heuristic_rows = records_begun first.session.manager;
  held = λ r x. new_branch;
  in_doubt = λ r. [];
  scans = λ r. NotOpen;
}

pub begins_so : {L : Type 0} (threads rms : ℕ) (first : Server L) → BeginsWith threads rms first.session.manager (start_of threads rms first)
begins_so threads rms first = record { threads_are = refl; rms_are = refl; incarnation = refl; rows = refl; records = refl }

-- what is left of a text that was known is known
pub known_left : {L : Type 0} (text : List ℕ) (left : Option (List ℕ)) (moment : L → Moment) (greeting : Response) (written all : Option (List ℕ))
    (old new : Server L) → Serves moment greeting (Some text) left written all old new
    → (unread : List ℕ) × Serves moment greeting (Some text) (Some unread) written all old new
known_left text None moment greeting written all old new serves = absurd serves.consumed
known_left text (Some unread) moment greeting written all old new serves = (unread, serves)

none_logged : IsEmptyLog nothing
none_logged = record { no_rows = len-empty _ _; no_records = len-empty _ _ }

pub is_served : {L : Type 0} (moment : L → Moment) (threads rms : ℕ) (handed : L) (old new : Server L) (text unread before written : List ℕ)
    → StartsOver moment threads rms handed old → (moment handed).is_in_order → (moment (log_in old.session.manager)).is_honest
    → (moment handed).content ≡ Some nothing → before ≡ []
    → Serves moment (greeting_of old) (Some text) (Some unread) (Some before) (Some written) old new → ServedDatabasesAgree moment
    → IsServed threads rms text written
is_served moment threads rms handed old new text unread before written starts order honest empty none serves agree =
    let start = start_of threads rms old in
    let begins = begins_so threads rms old in
    let so =
    agree threads rms (requests_done serves.turns) (replies_given serves.turns) old new starts.stands serves.replied start begins
    (starts.old start begins) in
    let there = none_there nothing start none_logged
    (raised_from moment threads rms handed old starts order honest nothing empty start begins nothing refl refl (omega arith)) in
    record {
      read = serves.read;
      unread = unread;
      start = start;
      decisions = (book_in old.session.manager).rows;
      heuristics = (book_in old.session.manager).records;
      turns = serves.turns;
      seen = so.seen;
      threads_are = refl;
      rms_are = refl;
      no_rows = there.rows;
      no_records = there.records;
      whole = serves.consumed;
      lines = serves.lines;
      replied = subst (λ xs. written ≡ xs ++ replies_text (told_in (greeting_of old) serves.turns)) none serves.appended;
      ends = serves.ends;
      told = so.told;
      explained = so.explained;
      agree = so.agree;
    }

-- the same of a reader that had the whole text
pub is_served_whole : {L : Type 0} (moment : L → Moment) (threads rms : ℕ) (handed : L) (old new : Server L) (text : List ℕ)
    (whole left : Option (List ℕ)) (before written : List ℕ)
    → StartsOver moment threads rms handed old → (moment handed).is_in_order → (moment (log_in old.session.manager)).is_honest
    → (moment handed).content ≡ Some nothing → before ≡ [] → whole ≡ Some text
    → Serves moment (greeting_of old) whole left (Some before) (Some written) old new → ServedDatabasesAgree moment
    → IsServed threads rms text written
is_served_whole moment threads rms handed old new text whole left before written starts order honest empty none is serves agree =
    let known = known_left text left moment (greeting_of old) (Some before) (Some written) old new
    (subst (λ w. Serves moment (greeting_of old) w left (Some before) (Some written) old new) is serves) in
    is_served moment threads rms handed old new text known.0 before written starts order honest empty none known.1 agree

-- each vote has its reply
votes_fit : (votes : List (List ℕ)) (heard : List Response) (gs : List Gtrid) → AreVotes votes heard gs → length votes ≡ length heard
votes_fit [] [] [] are = refl
votes_fit [] [] (g ∷ gs) are = absurd are
votes_fit [] (r ∷ rs) gs are = absurd are
votes_fit (l ∷ ls) [] gs are = absurd are
votes_fit (l ∷ ls) (r ∷ rs) [] are = absurd are
votes_fit (l ∷ ls) (r ∷ rs) (g ∷ gs) are =
    let rest : length ls ≡ length rs = votes_fit ls rs gs are.2 in
    let all : length (l ∷ ls) ≡ length (r ∷ rs) = omega (arith, rest) in
    all

-- after a decision to commit, the log has the rows
module _ {L : Type 0} (moment : L → Moment) (law : VotedCommitsAreLogged moment) (threads rms : ℕ) (handed : L) (old new : Server L)
    (lines : List (List ℕ)) (replies : List Response) (starts : StartsOver moment threads rms handed old) (have : HaveReplies moment lines replies old new)
    (order : (moment handed).is_in_order) (honest : (moment (log_in new.session.manager)).is_honest) where
  pub rows_logged : (gs : List Gtrid) (g : Gtrid) → EndDecided lines replies gs → is_gtrid_among gs g ≡ true
      → IsLogged (moment (log_in new.session.manager)).content g
  rows_logged gs g end among =
      let all : HaveReplies moment (end.before ++ (end.votes ++ end.line ∷ [])) (end.first ++ (end.heard ++ responses.Decided ∷ [])) old new =
      subst (λ ls. HaveReplies moment ls (end.first ++ (end.heard ++ responses.Decided ∷ [])) old new) end.lines_are
      (subst (λ rs. HaveReplies moment lines rs old new) end.replies_are have) in
      let one = split_replies moment end.before (end.votes ++ end.line ∷ []) end.first (end.heard ++ responses.Decided ∷ []) old new end.as_many all in
      let fit = votes_fit end.votes end.heard gs end.are_votes in
      let two = split_replies moment end.votes (end.line ∷ []) end.heard (responses.Decided ∷ []) one.0 new fit one.2 in
      let kept = replies_keep moment end.before end.first old one.0 one.1 in
      let later = replies_keep moment (end.votes ++ end.line ∷ []) (end.heard ++ responses.Decided ∷ []) one.0 new one.2 in
      let last : RepliesTo moment end.line two.0 responses.Decided new =
      subst (λ c. RepliesTo moment end.line two.0 responses.Decided c) (sym two.2.2) two.2.1 in
      law true end.votes end.heard end.line gs one.0 two.0 new g end.are_votes two.1 end.asks last among (kept.order (starts.over.order order)) honest
      (kept.holds true (starts.over.order order) (later.honest honest)
      (starts.holds order ((replies_keep moment lines replies old new have).honest honest)))

-- what is said of a log that a session leaves
abbrev CommitsLeft : {L : Type 0} → (L → Moment) → L → (text written : List ℕ) → L → Type 0
CommitsLeft {L} moment handed text written log = Honestly (moment handed) (moment log) (LogsCommits (moment log).content text written)

commits_left : {L : Type 0} (moment : L → Moment) (threads rms : ℕ) (handed left : L) (text written : List ℕ)
    (is : IsServedOver moment threads rms handed text written left) → VotedCommitsAreLogged moment
    → CommitsLeft moment handed text written (log_in is.last.session.manager)
commits_left {L} moment threads rms handed left text written is law order honest = record {
  read = is.serves.read;
  unread = is.unread;
  greeting = greeting_of is.first;
  turns = is.serves.turns;
  whole = is.serves.consumed;
  lines = is.serves.lines;
  replied = is.serves.appended;
  ends = is.serves.ends;
  rows = rows_logged moment law threads rms handed is.first is.last (requests_done is.serves.turns) (replies_given is.serves.turns) is.starts
      is.serves.replied order honest;
}

pub logs_commits : {L : Type 0} (moment : L → Moment) (threads rms : ℕ) (handed left : L) (text written : List ℕ)
    → IsServedOver moment threads rms handed text written left → VotedCommitsAreLogged moment
    → Honestly (moment handed) (moment left) (LogsCommits (moment left).content text written)
logs_commits moment threads rms handed left text written is law =
    subst (CommitsLeft moment handed text written) (sym is.log) (commits_left moment threads rms handed left text written is law)
