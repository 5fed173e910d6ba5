-- What a driver writes is served, and what a second one writes after it; databases that obey the
-- branch state table agree, and the log has the rows of what is committed.
use Rattle.std.specs.Prelude.{◌≡◌, ◌<◌, ◌⊎◌, ℕ, true, false, List, [], ◌∷◌, ◌++◌, length, map, Option, Some, is_some}
use Rattle.std.specs.FinMap.{get}
use Rattle.std.specs.List.{list_any}
use Rattle.xa_base.specs.StateTable.{broken}
use Rattle.xa_base.specs.declared.branch.Gtrid.{Gtrid}
use Rattle.xa_base.specs.declared.state.Standing.{Standing}
use Rattle.xa_base.specs.declared.state.Standing.TheVariants.{Committed, Completed, Forgotten, Prepared, Unstarted}
use Rattle.xa_base.specs.declared.step.Outcome.TheVariants as Outcomes
use Rattle.xa_server.specs.Lines.{asked_in, text_lines}
use Rattle.xa_server.specs.Rows.{is_gtrid_among}
use Rattle.xa_server.specs.Replies.{greeting_of}
use Rattle.xa_server.specs.Serving.{AreTurns, EndsAtLastOr, Serves, Turn, replies_given, replies_text, requests_done, told_in}
use Rattle.xa_server.specs.Sessions.{AreServed, LogDecides, StartsOver}
use Rattle.xa_server.specs.Telling.{HaveTold, is_log_fault}
use Rattle.xa_server.specs.Votes.{AreVotes, IsLogged}
use Rattle.xa_server.specs.declared.server.Server.{Server}
use Rattle.xa_log.specs.Content.{Content}
use Rattle.xa_log.specs.Contract.{Moment}
use Rattle.xa_model.specs.Promises.Agreement.{IsUndone}
use Rattle.xa_model.specs.Trace.{Branch, Line, Origin}
use Rattle.xa_requests.specs.declared.request.Request.TheVariants as requests
use Rattle.xa_requests.specs.declared.response.Response.{Response}
use Rattle.xa_requests.specs.declared.response.Response.TheVariants as responses
use Rattle.xa_monitor.specs.Agreement.{MayAllStand, OwnStandAlike, StandAlike, StandSo}
use Rattle.xa_monitor.specs.Explained.{IsExplained}
use Rattle.xa_monitor.specs.Seen.{Seen, Seen.Start}
use Rattle.xa_monitor.specs.Standings.{Comes}
use Rattle.xa_tm.specs.Calls.{log_in}

-- The driver was told the first line of a session, and a line for each line of what was read of its
-- text: up to `quit`, or all. What these tell, from a start with no rows and no records until the
-- log failed, has a right history; and wherever the branches then stand at databases that obey the
-- table, those of a transaction of this session are alike.
pub record IsServed (threads rms : ℕ) (text written : List ℕ) : Type 0 where
  pub read : List ℕ
  pub unread : List ℕ
  pub start : Origin
  pub decisions : ℕ
  pub heuristics : ℕ
  pub turns : List Turn
  pub seen : Seen
  pub threads_are : start.threads ≡ threads
  pub rms_are : start.rms ≡ rms
  pub no_rows : start.rows ≡ []
  pub no_records : start.heuristic_rows ≡ []
  pub whole : text ≡ read ++ unread
  pub lines : AreTurns (text_lines read) turns
  pub replied : written ≡ replies_text (told_in (responses.Restarted start.incarnation decisions heuristics) turns)
  pub ends : EndsAtLastOr (map (λ turn. turn.reply) turns) (unread ≡ [])
  pub told : HaveTold threads (requests_done turns) (replies_given turns) Start seen
  pub explained : IsExplained start seen
  pub agree : (f : Branch → Standing) → StandSo start seen f → OwnStandAlike start.incarnation f

-- Lines end with votes for these transactions, XA_OK each, and with a line that commits them all;
-- that is replied by `decided`.
pub record EndDecided (lines : List (List ℕ)) (replies : List Response) (gs : List Gtrid) : Type 0 where
  pub before : List (List ℕ)
  pub votes : List (List ℕ)
  pub line : List ℕ
  pub first : List Response
  pub heard : List Response
  pub lines_are : lines ≡ before ++ (votes ++ line ∷ [])
  pub replies_are : replies ≡ first ++ (heard ++ responses.Decided ∷ [])
  pub as_many : length before ≡ length first
  pub are_votes : AreVotes votes heard gs
  pub asks : asked_in line ≡ Some (requests.Decide gs Outcomes.Commit)

-- The driver was told the first line of a session, and a line for each line of what was read of its
-- text: up to `quit`, or all. If these end with decisions to commit some transactions, the log
-- has the row of each.
pub record LogsCommits (log : Option Content) (text written : List ℕ) : Type 0 where
  pub read : List ℕ
  pub unread : List ℕ
  pub greeting : Response
  pub turns : List Turn
  pub whole : text ≡ read ++ unread
  pub lines : AreTurns (text_lines read) turns
  pub replied : written ≡ replies_text (told_in greeting turns)
  pub ends : EndsAtLastOr (map (λ turn. turn.reply) turns) (unread ≡ [])
  pub rows : (gs : List Gtrid) (g : Gtrid) → EndDecided (requests_done turns) (replies_given turns) gs → is_gtrid_among gs g ≡ true → IsLogged log g

-- A driver of so many threads and resource managers that writes this text was served by a
-- coordinator that started over a log, and this was written; this log is left.
pub record IsServedOver {L : Type 0} (moment : L → Moment) (threads rms : ℕ) (handed : L) (text written : List ℕ) (left : L) : Type 0 where
  pub first : Server L
  pub last : Server L
  pub unread : List ℕ
  pub starts : StartsOver moment threads rms handed first
  pub serves : Serves moment (greeting_of first) (Some text) (Some unread) (Some []) (Some written) first last
  pub log : left ≡ log_in last.session.manager

-- sessions that agree, of a manager without a name, left this log, and the branches so
abbrev pub AreServedTo : {L : Type 0} → (L → Moment) → L → (Branch → Standing) → Type 0
AreServedTo {L} moment left f = (last : Server L) × (left ≡ log_in last.session.manager) × AreServed moment [] (Some last) f

-- The driver was told the first line of a session, and a line for each line of what was read of its
-- text: up to `quit`, or all.
pub record IsReplied (text written : List ℕ) : Type 0 where
  pub read : List ℕ
  pub unread : List ℕ
  pub greeting : Response
  pub turns : List Turn
  pub whole : text ≡ read ++ unread
  pub lines : AreTurns (text_lines read) turns
  pub replied : written ≡ replies_text (told_in greeting turns)
  pub ends : EndsAtLastOr (map (λ turn. turn.reply) turns) (unread ≡ [])

-- the database ended the branch by itself, which may be forgotten since
abbrev pub EndedAlone : Standing → Type 0
EndedAlone (Completed how) = Unit
EndedAlone (Forgotten how) = Unit
EndedAlone _ = ⊥

-- The branch is never rolled back or lost; and once the log has no row of its transaction, it is
-- committed, unless its database ended it by itself.
pub record EndsCommitted (f : Branch → Standing) (log : Content) (b : Branch) : Type 0 where
  pub never_undone : IsUndone (f b) → ⊥
  pub in_the_end : is_some (get log.decisions b.gtrid) ≡ false → (f b ≡ Committed) ⊎ EndedAlone (f b)

-- Two drivers were replied so, one after the other, over one log. From their starts, these lines
-- and their replies tell what is seen. Wherever the branches may then stand at databases that obey
-- the table, if no branch was there at first: those of any transaction are alike, and the log
-- decides of what is prepared still. If the first driver was killed after a decision to commit,
-- each branch of it that stood prepared then ends committed, whatever the second driver asks for.
pub record AreServedTwice (log : Option Content) (one_lines two_lines : List (List ℕ)) (one_replies two_replies : List Response) : Type 0 where
  pub one : Origin
  pub two : Origin
  pub one_seen : Seen
  pub two_seen : Seen
  pub later : one.incarnation < two.incarnation
  pub one_told : HaveTold one.threads one_lines one_replies Start one_seen
  pub two_told : HaveTold two.threads two_lines two_replies Start two_seen
  pub agree :
      (one_done one_cut two_done two_cut : List Line) (from to : Branch → Standing)
      → MayAllStand one one_seen (λ b. Comes one_seen b Unstarted) one_done one_cut from
      → MayAllStand two two_seen (λ b. Comes two_seen b (broken (from b))) two_done two_cut to
      → StandAlike to × ((c : Content) → log ≡ Some c → LogDecides to c)
  pub commits :
      (gs : List Gtrid) → EndDecided one_lines one_replies gs → (one_done one_cut two_done two_cut : List Line) (from to : Branch → Standing)
      → MayAllStand one one_seen (λ b. Comes one_seen b Unstarted) one_done one_cut from
      → MayAllStand two two_seen (λ b. Comes two_seen b (broken (from b))) two_done two_cut to
      → (b : Branch) → is_gtrid_among gs b.gtrid ≡ true → from b ≡ Prepared → (c : Content) → log ≡ Some c → EndsCommitted to c b

-- The same if the log failed in neither session.
pub record IsServedTwice (log : Option Content) (first second first_written second_written : List ℕ) : Type 0 where
  pub one : IsReplied first first_written
  pub two : IsReplied second second_written
  pub served :
      list_any is_log_fault (replies_given one.turns) ≡ false → list_any is_log_fault (replies_given two.turns) ≡ false
      → AreServedTwice log (requests_done one.turns) (requests_done two.turns) (replies_given one.turns) (replies_given two.turns)
