-- A log that is made anew of a mirror, a database to which the driver writes each decision before
-- it issues an xa_commit of it; and sessions of a manager one after another, among which the log
-- was lost, and made anew so.
use Rattle.std.specs.Prelude.{◌≡◌, ◌≤◌, ◌⊎◌, ℕ, true, false, List, Option, is_some}
use Rattle.std.specs.FinMap.{empty, get}
use Rattle.xa_base.specs.Branch.{branch_eq}
use Rattle.xa_base.specs.StateTable.{broken}
use Rattle.xa_base.specs.declared.state.Standing.{Standing}
use Rattle.xa_base.specs.declared.state.Standing.TheVariants.{Committed, Completed, Forgotten, ReadOnly, Unstarted}
use Rattle.xa_log.specs.Content.{Content, participants_of, without_decision}
use Rattle.xa_log.specs.Contract.{Moment}
use Rattle.xa_log.specs.KeySet.{contains}
use Rattle.xa_model.specs.Trace.{Branch, Gtrid, Line, Origin}
use Rattle.xa_monitor.specs.Agreement.{MayAllStand, StandAlike}
use Rattle.xa_monitor.specs.Seen.{Seen}
use Rattle.xa_monitor.specs.Standings.{Comes}
use Rattle.xa_server.specs.Sessions.{AreServed, HoldsLeft, IsEmptyLog, IsSession, IsSessionLeft, LogDecides, WasLeft}
use Rattle.xa_server.specs.Transactions.{AreServedFor, HasNoRowOf, HasRowOf, IsAlike, IsNeverCommitted, IsToCommit, MayStandFor, MayTurn}
use Rattle.xa_server.specs.declared.server.Server.{Server}
use Rattle.xa_session.specs.Logging.{LeavesContent}
use Rattle.xa_tm.specs.Calls.{log_in}

-- ** what a mirror has

-- no branch of the transaction stands committed
abbrev pub NoneIsCommitted : Gtrid → (Branch → Standing) → Type 0
NoneIsCommitted g f = (b : Branch) → b.gtrid ≡ g → f b ≡ Committed → ⊥

-- some branch of it does
abbrev pub SomeIsCommitted : Gtrid → (Branch → Standing) → Type 0
SomeIsCommitted g f = (b : Branch) × (b.gtrid ≡ g) × (f b ≡ Committed)

-- The commit is over for the branch: it waits for nothing, and isn't undone. It is committed, it
-- only read, its database ended it by itself, or it never was.
abbrev pub IsCommitOver : Standing → Type 0
IsCommitOver Unstarted = Unit
IsCommitOver Committed = Unit
IsCommitOver ReadOnly = Unit
IsCommitOver (Completed how) = Unit
IsCommitOver (Forgotten how) = Unit
IsCommitOver _ = ⊥

-- each branch of the transaction is so
abbrev pub AllAreOver : Gtrid → (Branch → Standing) → Type 0
AllAreOver g f = (b : Branch) → b.gtrid ≡ g → IsCommitOver (f b)

-- What a mirror has of a transaction, if its branches stand so, and this was left in the log. It
-- may lack the row: then none of the branches is committed, as of a decision that was lost with
-- the log before the mirror had it, or all of them are over, as if the row has left the mirror
-- first. It may have a row that left the log: then all of them are over. A row that both have is
-- the same, a record of the mirror is one of the log's too, and the mirror's incarnation isn't
-- smaller.
pub record IsMirrorFor (g : Gtrid) (f : Branch → Standing) (log mirror : Content) : Type 0 where
  pub later : log.incarnation ≤ mirror.incarnation
  pub missing : HasRowOf log g → HasNoRowOf mirror g → NoneIsCommitted g f ⊎ AllAreOver g f
  pub more : HasNoRowOf log g → HasRowOf mirror g → AllAreOver g f
  pub same : HasRowOf log g → HasRowOf mirror g → get mirror.decisions g ≡ get log.decisions g
  pub records : (b : Branch) → b.gtrid ≡ g → is_some (get mirror.heuristics b) ≡ true → is_some (get log.heuristics b) ≡ true

-- It has that of each transaction.
abbrev pub IsMirrorOf : (f : Branch → Standing) (log mirror : Content) → Type 0
IsMirrorOf f log mirror = (g : Gtrid) → IsMirrorFor g f log mirror

-- A mirror may have the very rows that were left, and no records, in an incarnation that isn't
-- smaller,
abbrev pub copied : ℕ → Content → Content
copied n c = record { decisions = c.decisions; heuristics = empty; incarnation = n }

abbrev pub CopiesAreMirrors : Type 0
CopiesAreMirrors = (f : Branch → Standing) (c : Content) (n : ℕ) → c.incarnation ≤ n → IsMirrorOf f c (copied n c)

-- or lack that of a transaction of which no branch is committed.
abbrev pub CopiesMayLackARow : Type 0
CopiesMayLackARow =
    (f : Branch → Standing) (c : Content) (n : ℕ) (g : Gtrid) → c.incarnation ≤ n → NoneIsCommitted g f
    → IsMirrorOf f c (without_decision g (copied n c))

-- ** the sessions

-- Where the branches of a transaction may stand after sessions of the manager of this name, and
-- what log is left. These are the sessions of `AreServedFor` of `xa_server`, and a log may be
-- handed on in one more way: it is lost, and made anew of a mirror.
pub data AreServedAnew {L : Type 0} (moment : L → Moment) (name : List ℕ) (g : Gtrid) : Content → (Branch → Standing) → Type 0 where
  NoneYet : (c : Content) → IsEmptyLog c → AreServedAnew moment name g c (λ b. Unstarted)
  OneMore :
      (c d : Content) (from to : Branch → Standing) (handed : L) (o : Origin) (told seen : Seen) (now left : Server L) (done cut : List Line)
      → AreServedAnew moment name g c from → HoldsLeft moment c handed → IsSession moment name handed o told now → IsSessionLeft moment told now seen left
      → (moment (log_in left.session.manager)).is_honest → MayStandFor g o seen (λ b. Comes seen b (broken (from b))) done cut to
      → LeavesContent moment left.session.manager d → AreServedAnew moment name g d to
  Between :
      (c : Content) (from to : Branch → Standing) (d : Branch) → AreServedAnew moment name g c from → MayTurn (is_some (get c.decisions g)) (from d) (to d)
      → ((b : Branch) → b.gtrid ≡ g → branch_eq d b ≡ false → to b ≡ from b) → AreServedAnew moment name g c to
  MadeAnew : (c d : Content) (f : Branch → Standing) → AreServedAnew moment name g c f → IsMirrorFor g f c d → AreServedAnew moment name g d f

-- Sessions over one log are such.
abbrev pub ServedAreServedAnew : {L : Type 0} → (L → Moment) → Type 0
ServedAreServedAnew {L} moment =
    (name : List ℕ) (g : Gtrid) (c : Content) (f : Branch → Standing) → AreServedFor moment name g c f → AreServedAnew moment name g c f

-- ** what follows

-- The branches of the transaction stand alike, and the log that is left decides of what is
-- prepared still.
abbrev pub AnewAgree : {L : Type 0} → (L → Moment) → Type 0
AnewAgree {L} moment =
    (name : List ℕ) (g : Gtrid) (c : Content) (f : Branch → Standing) → AreServedAnew moment name g c f → IsAlike g f c

-- The log that one of these sessions left has the row of the transaction, and so has each log that
-- was made of a mirror since, as long as the log before it had it; or such a log has it.
abbrev pub WasLeftWithRow : {L : Type 0} (moment : L → Moment) (name : List ℕ) (g : Gtrid) (c : Content) (f : Branch → Standing)
    → AreServedAnew moment name g c f → Type 0
WasLeftWithRow moment name g _ _ (NoneYet c is_empty) = ⊥
WasLeftWithRow moment name g _ _ (OneMore c d from to handed o told seen now left done cut before has is is_left honest may leaves) =
    HasRowOf d g ⊎ WasLeftWithRow moment name g c from before
WasLeftWithRow moment name g _ _ (Between c from to d before turns others) = WasLeftWithRow moment name g c from before
WasLeftWithRow moment name g _ _ (MadeAnew c d f before mirror) = HasRowOf d g ⊎ (HasNoRowOf c g × WasLeftWithRow moment name g c f before)

-- Then it is to commit.
abbrev pub AnewDecisionsStand : {L : Type 0} → (L → Moment) → Type 0
AnewDecisionsStand {L} moment =
    (name : List ℕ) (g : Gtrid) (c : Content) (f : Branch → Standing) (served : AreServedAnew moment name g c f)
    → WasLeftWithRow moment name g c f served → IsToCommit g f c

-- The log that one of these sessions left, or that was made of a mirror, has no row of the
-- transaction, which is begun no more, and none of its branches stood committed then. No mirror
-- since then has a row of it.
abbrev pub WasLeftWithoutRow : {L : Type 0} (moment : L → Moment) (name : List ℕ) (g : Gtrid) (c : Content) (f : Branch → Standing)
    → AreServedAnew moment name g c f → Type 0
WasLeftWithoutRow moment name g _ _ (NoneYet c is_empty) = ⊥
WasLeftWithoutRow moment name g _ _ (OneMore c d from to handed o told seen now left done cut before has is is_left honest may leaves) =
    (HasNoRowOf d g × (g.incarnation ≤ d.incarnation) × NoneIsCommitted g to) ⊎ WasLeftWithoutRow moment name g c from before
WasLeftWithoutRow moment name g _ _ (Between c from to d before turns others) = WasLeftWithoutRow moment name g c from before
WasLeftWithoutRow moment name g _ _ (MadeAnew c d f before mirror) =
    HasNoRowOf d g × (((g.incarnation ≤ d.incarnation) × NoneIsCommitted g f) ⊎ WasLeftWithoutRow moment name g c f before)

-- So none ever is. A decision that a mirror lacks is undone with its log: it is as if the log had
-- failed in it.
abbrev pub AnewUndecidedStays : {L : Type 0} → (L → Moment) → Type 0
AnewUndecidedStays {L} moment =
    (name : List ℕ) (g : Gtrid) (c : Content) (f : Branch → Standing) (served : AreServedAnew moment name g c f)
    → WasLeftWithoutRow moment name g c f served → IsNeverCommitted g f c

-- If the log that is left has no row of a transaction, and one of its branches is committed, or a
-- log that was left before had the row, all of them are over.
abbrev pub SettledAreOver : {L : Type 0} → (L → Moment) → Type 0
SettledAreOver {L} moment =
    (name : List ℕ) (g : Gtrid) (c : Content) (f : Branch → Standing) (served : AreServedAnew moment name g c f) → HasNoRowOf c g
    → SomeIsCommitted g f ⊎ WasLeftWithRow moment name g c f served → AllAreOver g f

-- And so they are if the log has the row, and all that it waits for are over.
abbrev pub ParticipantsAreOver : {L : Type 0} → (L → Moment) → Type 0
ParticipantsAreOver {L} moment =
    (name : List ℕ) (g : Gtrid) (c : Content) (f : Branch → Standing) → AreServedAnew moment name g c f → HasRowOf c g
    → ((b : Branch) → contains (participants_of c g) b ≡ true → IsCommitOver (f b)) → AllAreOver g f

-- ** of all transactions

-- Sessions of a manager are served over one log, which is lost then, and made anew of a mirror of
-- what was left in it. Over that a further session is served. Then no branch of any transaction
-- stands committed beside one that stands rolled back or lost, and the log that this session
-- leaves decides of what is prepared still.
abbrev pub FailoversAgree : {L : Type 0} → (L → Moment) → Type 0
FailoversAgree {L} moment =
    (name : List ℕ) (last : Option (Server L)) (from to : Branch → Standing) (c d e : Content) (handed : L) (o : Origin) (told seen : Seen)
    (now left : Server L) (done cut : List Line)
    → AreServed moment name last from → WasLeft moment last c → IsMirrorOf from c d → HoldsLeft moment d handed → IsSession moment name handed o told now
    → IsSessionLeft moment told now seen left → (moment (log_in left.session.manager)).is_honest
    → MayAllStand o seen (λ b. Comes seen b (broken (from b))) done cut to → LeavesContent moment left.session.manager e
    → StandAlike to × LogDecides to e
