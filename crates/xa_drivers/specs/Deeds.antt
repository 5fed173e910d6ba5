-- What is done at databases in a session, and what its coordinator is told: one list.
--
-- In it the deeds of each branch, of each line and of the coordinator stand in their order; how
-- those of one branch stand to those of another doesn't matter. An xa_start that a driver makes
-- ahead is in it once it is issued. A connection that is given up counts as gone: what it still
-- does stands before its loss, so nothing else is done to its branches until it is really gone.
use Rattle.std.specs.Prelude.{◌≡◌, ℕ, Bool, true, false, if◌then◌else◌, Option, Some, None}
use Rattle.xa_base.specs.Branch.{branch_eq}
use Rattle.xa_base.specs.Standing.{is_in_doubt}
use Rattle.xa_base.specs.StateTable.{Kind, answer, asks_of, broken, completed, state_of}
use Rattle.xa_base.specs.declared.answer.Answer.TheVariants.{Page, Ret}
use Rattle.xa_base.specs.declared.state.Standing.{Standing}
use Rattle.xa_base.specs.declared.state.Standing.TheVariants.{Prepared}
use Rattle.xa_model.specs.Facts.Standings.{moved_by}
use Rattle.xa_model.specs.Protocol.{Lists}
use Rattle.xa_model.specs.Trace.{Answer, Branch, Call, Code, Happening, How, Line, Name.Ours, Vote, line_eq, line_of}
use Rattle.xa_monitor.specs.Seen.{HasAnswer, Seen, Seen.Answered, Seen.Did as Saw, Seen.Lost, Seen.Start}

-- ** deeds

-- What is done in a session, the newest last. The coordinator did something; a call was made on
-- the connection of a line, and answered so; the connection is gone at the database; a database
-- ended a prepared branch by itself. And what the coordinator was told, and took: the answer to a
-- call; the loss of a line, on which this call waited first.
pub data Deeds : Type 0 where
  Nothing : Deeds
  Did : Deeds → Happening → Deeds
  Made : Deeds → Line → Call → Answer → Deeds
  Severed : Deeds → Line → Deeds
  Ended : Deeds → Branch → How → Deeds
  Told : Deeds → Line → Call → Answer → Deeds
  ToldLost : Deeds → Line → Option Call → Deeds

-- what the coordinator sees of them
abbrev pub seen_of : Deeds → Seen
seen_of Nothing = Start
seen_of (Did ds e) = Saw (seen_of ds) e
seen_of (Made ds l c a) = seen_of ds
seen_of (Severed ds l) = seen_of ds
seen_of (Ended ds b how) = seen_of ds
seen_of (Told ds l c a) = Answered (seen_of ds) l c a
seen_of (ToldLost ds l c) = Lost (seen_of ds) l c

-- ** the databases

-- a branch after a call that was answered so; what a page lists stays where it is
abbrev pub after_call : Call → Answer → Branch → Standing → Standing
after_call c (Ret a) b f = moved_by (asks_of c) a b f
after_call c (Page names) b f = f

-- Where each branch stands after the deeds: a call moves it by the branch state table, it is lost
-- with its connection if it is open, and its database may end it by itself. What is told moves
-- none.
abbrev pub stands : (from : Branch → Standing) → Deeds → Branch → Standing
stands from Nothing b = from b
stands from (Did ds e) b = stands from ds b
stands from (Made ds l c a) b = after_call c a b (stands from ds b)
stands from (Severed ds l) b = if line_eq l (line_of b) then broken (stands from ds b) else stands from ds b
stands from (Ended ds d how) b = if branch_eq d b then completed (stands from ds b) how else stands from ds b
stands from (Told ds l c a) b = stands from ds b
stands from (ToldLost ds l c) b = stands from ds b

-- the answer to what is asked of a branch is that of the table, for some vote and some retries
abbrev pub AnswersByTable : (mine : Branch → Bool) (f : Branch → Standing) → Option (Kind × Branch) → Code → Type 0
AnswersByTable mine f None a = Unit
AnswersByTable mine f (Some (k, b)) a = mine b ≡ true → (v : Vote) × ((n : ℕ) × (answer k (state_of (f b)) v n ≡ a))

-- a page lists what is in doubt at its own resource manager
abbrev pub IsAnswer : (mine : Branch → Bool) (f : Branch → Standing) → Line → Call → Answer → Type 0
IsAnswer mine f l c (Ret a) = AnswersByTable mine f (asks_of c) a
IsAnswer mine f l c (Page names) = (b : Branch) → mine b ≡ true → Lists names (Ours b) → (b.rm ≡ l.rm) × (is_in_doubt (f b) ≡ true)

-- Databases obey the branch state table, as far as these branches go: each call is answered by it,
-- and no branch ends by itself that isn't prepared.
abbrev pub ObeyTable : (mine : Branch → Bool) (from : Branch → Standing) → Deeds → Type 0
ObeyTable mine from Nothing = Unit
ObeyTable mine from (Did ds e) = ObeyTable mine from ds
ObeyTable mine from (Made ds l c a) = ObeyTable mine from ds × HasAnswer c a × IsAnswer mine (stands from ds) l c a
ObeyTable mine from (Severed ds l) = ObeyTable mine from ds
ObeyTable mine from (Ended ds b how) = ObeyTable mine from ds × (mine b ≡ true → stands from ds b ≡ Prepared)
ObeyTable mine from (Told ds l c a) = ObeyTable mine from ds
ObeyTable mine from (ToldLost ds l c) = ObeyTable mine from ds

-- ** one branch

abbrev pub asks_it : Option (Kind × Branch) → Branch → Bool
asks_it (Some (k, d)) b = branch_eq d b
asks_it None b = false

-- the deeds by which this branch may move: calls that name it, the loss of its connection, and an
-- end by its database
abbrev pub own : Branch → Deeds → Deeds
own b Nothing = Nothing
own b (Did ds e) = own b ds
own b (Made ds l c (Ret a)) = if asks_it (asks_of c) b then Made (own b ds) l c (Ret a) else own b ds
own b (Made ds l c (Page names)) = own b ds
own b (Severed ds l) = if line_eq l (line_of b) then Severed (own b ds) l else own b ds
own b (Ended ds d how) = if branch_eq d b then Ended (own b ds) d how else own b ds
own b (Told ds l c a) = own b ds
own b (ToldLost ds l c) = own b ds

-- Where a branch stands depends on these alone: lists that have the same of it leave it alike.
abbrev pub StandByOwnDeeds : Type 0
StandByOwnDeeds = (from : Branch → Standing) (ds es : Deeds) (b : Branch) → own b ds ≡ own b es → stands from ds b ≡ stands from es b
