-- The rules that a driver keeps, and that they suffice.
use Rattle.std.specs.Prelude.{◌≡◌, ℕ, suc, ◌&&◌, ◌||◌, Bool, true, false, if◌then◌else◌, All, List, [], ◌∷◌, Option, Some, None}
use Rattle.xa_base.specs.StateTable.{Kind, Kind.Start, asks_of}
use Rattle.xa_base.specs.declared.answer.Answer.TheVariants.{Page, Ret}
use Rattle.xa_base.specs.declared.state.Standing.{Standing}
use Rattle.xa_base.specs.declared.state.Standing.TheVariants.{Active, Idle, RollbackOnly}
use Rattle.xa_drivers.specs.Deeds.{Deeds, Deeds.Ended, Deeds.Made, Deeds.Nothing, Deeds.Did, Deeds.Severed, Deeds.Told, Deeds.ToldLost, ObeyTable, seen_of, stands}
use Rattle.xa_model.specs.Protocol.{Lists}
use Rattle.xa_model.specs.Trace.{Answer, Branch, Call, Happening, How, Line, Name.Ours, Origin, line_eq, line_of}
use Rattle.xa_monitor.specs.Agreement.{IsLineOf, MayAllStand, WaitsAt}
use Rattle.xa_monitor.specs.Seen.{IsManagers}
use Rattle.xa_monitor.specs.Standings.{Comes}

-- ** what isn't told yet

-- a branch that stands so is open: begun, and neither prepared nor over. It is lost with its
-- connection
abbrev pub is_open_branch : Standing → Bool
is_open_branch Active = true
is_open_branch Idle = true
is_open_branch RollbackOnly = true
is_open_branch _ = false

-- the branches that are open on a line
abbrev pub open_on : (Branch → Standing) → Line → Branch → Bool
open_on f l b = line_eq l (line_of b) && is_open_branch (f b)

-- what was done on a line, and isn't told yet: the answer to a call; or the loss of the
-- connection, with the branches that were open on it
pub data Untold : Type 0 where
  AnAnswer : Line → Call → Answer → Untold
  ALoss : Line → (lost : Branch → Bool) → Untold

abbrev pub line_on : Untold → Line
line_on (AnAnswer l c a) = l
line_on (ALoss l lost) = l

-- the call asks this of the branch
abbrev pub AsksOf : Option (Kind × Branch) → Branch → Type 0
AsksOf (Some (k, c)) b = c ≡ b
AsksOf None b = ⊥

-- it is about the branch: the call names it, the page lists it, or it was lost
abbrev pub IsAbout : Untold → Branch → Type 0
IsAbout (AnAnswer l c (Ret a)) b = AsksOf (asks_of c) b
IsAbout (AnAnswer l c (Page names)) b = Lists names (Ours b)
IsAbout (ALoss l lost) b = lost b ≡ true

-- they are about different branches, and on different lines
pub record AreUnrelated (u v : Untold) : Type 0 where
  pub lines : line_eq (line_on u) (line_on v) ≡ false
  pub branches : (b : Branch) → IsAbout u b → IsAbout v b → ⊥

-- Of what isn't told yet, the newest first, this is told next, and the rest isn't: whatever is
-- older is on another line and about other branches.
pub data IsToldNext (u : Untold) : List Untold → List Untold → Type 0 where
  Newest : (us : List Untold) → All (AreUnrelated u) us → IsToldNext u (u ∷ us) us
  Before : (v : Untold) (us rest : List Untold) → IsToldNext u us rest → IsToldNext u (v ∷ us) (v ∷ rest)

-- The loss of the line is told next. At most one call was made on it whose answer isn't told, the
-- one that waits first.
pub data IsLostNext (l : Line) : Option Call → List Untold → List Untold → Type 0 where
  NoneMade : (c : Option Call) (lost : Branch → Bool) (us rest : List Untold) → IsToldNext (ALoss l lost) us rest → IsLostNext l c us rest
  FirstMade :
      (c : Call) (a : Answer) (lost : Branch → Bool) (us mid rest : List Untold) → IsToldNext (AnAnswer l c a) us mid → IsToldNext (ALoss l lost) mid rest
      → IsLostNext l (Some c) us rest

-- so many calls were made on the line whose answers aren't told
abbrev pub made_on : List Untold → Line → ℕ
made_on [] l = 0
made_on (AnAnswer m c a ∷ us) l = if line_eq m l then suc (made_on us l) else made_on us l
made_on (ALoss m lost ∷ us) l = made_on us l

-- its connection is gone, and that isn't told
abbrev pub is_severed : List Untold → Line → Bool
is_severed [] l = false
is_severed (AnAnswer m c a ∷ us) l = is_severed us l
is_severed (ALoss m lost ∷ us) l = line_eq m l || is_severed us l

-- ** the rules

-- xa_start without TMJOIN
abbrev pub begins_branch : Kind → Bool
begins_branch Start = true
begins_branch _ = false

-- A call may be made:
-- - `of_session`: on a line of the session,
-- - `connected`: whose connection isn't gone, or was told to be lost since;
-- - `issued`: once it is issued, and in turn: it waits after the calls that were made on the line
--   and aren't told;
-- - `own_line`: on the branch's own line, if it begins the branch or the branch is open.
pub record MayMakeCall (o : Origin) (from : Branch → Standing) (ds : Deeds) (us : List Untold) (l : Line) (c : Call) : Type 0 where
  pub of_session : IsLineOf o l
  pub connected : is_severed us l ≡ false
  pub issued : WaitsAt o (seen_of ds) l (made_on us l) (Some c)
  pub own_line : (k : Kind) (b : Branch) → asks_of c ≡ Some (k, b) → (begins_branch k || is_open_branch (stands from ds b)) ≡ true → l ≡ line_of b

-- A driver keeps its rules, and this isn't told yet:
-- - `Makes`: it makes a call only if it may;
-- - `Tells`: it tells an answer as it was given, after all that was done before on that line, or
--   to a branch that the answer is about;
-- - `TellsLoss`: it tells the loss of a line once the connection is gone, in the same order, and
--   after the answers to all calls that were made on the line but the one that waits first.
-- The coordinator does what it does (`Does`), connections are severed (`Loses`) and branches are
-- ended by their databases (`Ends`) at any moment.
pub data DrivesByRules (o : Origin) (from : Branch → Standing) : Deeds → List Untold → Type 0 where
  Begins : DrivesByRules o from Nothing []
  Does : (ds : Deeds) (us : List Untold) (e : Happening) → DrivesByRules o from ds us → IsManagers e → DrivesByRules o from (Did ds e) us
  Makes :
      (ds : Deeds) (us : List Untold) (l : Line) (c : Call) (a : Answer) → DrivesByRules o from ds us → MayMakeCall o from ds us l c
      → DrivesByRules o from (Made ds l c a) (AnAnswer l c a ∷ us)
  Loses :
      (ds : Deeds) (us : List Untold) (l : Line) → DrivesByRules o from ds us
      → DrivesByRules o from (Severed ds l) (ALoss l (open_on (stands from ds) l) ∷ us)
  Ends : (ds : Deeds) (us : List Untold) (b : Branch) (how : How) → DrivesByRules o from ds us → DrivesByRules o from (Ended ds b how) us
  Tells :
      (ds : Deeds) (us rest : List Untold) (l : Line) (c : Call) (a : Answer) → DrivesByRules o from ds us → IsToldNext (AnAnswer l c a) us rest
      → DrivesByRules o from (Told ds l c a) rest
  TellsLoss :
      (ds : Deeds) (us rest : List Untold) (l : Line) (c : Option Call) → DrivesByRules o from ds us → IsLostNext l c us rest
      → DrivesByRules o from (ToldLost ds l c) rest

-- A driver is faithful in a session from this start, at which the branches stood so.
pub record IsFaithful (o : Origin) (from : Branch → Standing) (ds : Deeds) : Type 0 where
  pub untold : List Untold
  pub keeps : DrivesByRules o from ds untold

-- ** they suffice

-- The branches stand where the theorem of sessions supposes: by what was told each may have come
-- there, and then by what wasn't told yet.
pub record StandByTold (o : Origin) (from : Branch → Standing) (ds : Deeds) : Type 0 where
  pub done : List Line
  pub cut : List Line
  pub may : MayAllStand o (seen_of ds) (λ b. Comes (seen_of ds) b (from b)) done cut (stands from ds)

-- So they do where the driver is faithful and the databases obey the table.
abbrev pub DriversSuffice : Type 0
DriversSuffice =
    (o : Origin) (from : Branch → Standing) (ds : Deeds) → IsFaithful o from ds → ObeyTable (λ b. true) from ds → StandByTold o from ds
