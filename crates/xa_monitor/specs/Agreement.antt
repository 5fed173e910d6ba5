-- Where all branches may stand at databases that obey the branch state table, also while calls are under way and where lines are lost of
-- which nothing was told yet; and what it is that they agree.
use Rattle.std.specs.Prelude.{ℕ, suc, ◌+◌, ◌≡◌, ◌≤◌, ◌<◌, ◌||◌, Bool, false, if◌then◌else◌, length, slice_get, List, [], ◌∷◌, Option, Some}
use Rattle.xa_base.specs.Branch.{branch_eq}
use Rattle.xa_base.specs.StateTable.{asks_of, broken}
use Rattle.xa_base.specs.declared.state.Standing.{Standing}
use Rattle.xa_base.specs.declared.state.Standing.TheVariants.{Committed, Completed, Prepared}
use Rattle.xa_model.specs.Facts.{held_of, issued, taken}
use Rattle.xa_model.specs.Promises.Agreement.{IsUndone}
use Rattle.xa_model.specs.Protocol.{IsRun}
use Rattle.xa_model.specs.Trace.{Branch, Call, Code, How, Line, Origin, Trace, line_eq, line_of}
use Rattle.xa_monitor.specs.Seen.{IsHistory, Seen}
use Rattle.xa_monitor.specs.Standings.{Comes, ExplainsAsked, MayStand}

-- ** what wasn't told yet

-- the call that waits on a line behind so many others
abbrev pub waiting_call_at : Trace → Line → ℕ → Option Call
waiting_call_at tr l n = slice_get (issued tr l) (length (taken tr l) + n)

-- the call waits there on the line, or none does, by each right history of what was seen
abbrev pub WaitsAt : Origin → Seen → Line → ℕ → Option Call → Type 0
WaitsAt o seen l n c = (tr : Trace) → IsHistory o seen tr → IsRun tr → waiting_call_at tr l n ≡ c

-- the line is one of the session
abbrev pub IsLineOf : Origin → Line → Type 0
IsLineOf o l = (l.thread < o.threads) × (l.rm < o.rms)

-- it is one of these lines
abbrev pub is_line_among : List Line → Line → Bool
is_line_among [] l = false
is_line_among (m ∷ ms) l = line_eq m l || is_line_among ms l

-- so many of these lines are the line
abbrev pub times : List Line → Line → ℕ
times [] l = 0
times (m ∷ ms) l = if line_eq m l then suc (times ms l) else times ms l

-- the call was done with some answer, and each branch came from the one standing to the other by that
abbrev pub WasDone : Call → (from to : Branch → Standing) → Type 0
WasDone c from to = (a : Code) × ((b : Branch) → ExplainsAsked (asks_of c) a b (from b) (to b))

-- Where all branches may stand, if by what was told each may stand there, and after what wasn't told yet: of the calls that wait on a line
-- the first ones were done, in turn and however many, each with any answer; lines were cut off, and what waits on them is lost; databases
-- ended prepared branches by themselves. The one list has a line for each call that was done, the other the lines that were cut off.
pub data MayAllStand (o : Origin) (seen : Seen) (Told : Branch → Standing → Type 0) : List Line → List Line → (Branch → Standing) → Type 0 where
  AsTold : (f : Branch → Standing) → ((b : Branch) → Told b (f b)) → MayAllStand o seen Told [] [] f
  UnderWay :
      (done cut : List Line) (from to : Branch → Standing) (l : Line) (c : Call) → MayAllStand o seen Told done cut from → IsLineOf o l
      → is_line_among cut l ≡ false → WaitsAt o seen l (times done l) (Some c) → WasDone c from to → MayAllStand o seen Told (l ∷ done) cut to
  CutOff :
      (done cut : List Line) (from to : Branch → Standing) (l : Line) → MayAllStand o seen Told done cut from
      → ((b : Branch) → to b ≡ (if line_eq l (line_of b) then broken (from b) else from b)) → MayAllStand o seen Told done (l ∷ cut) to
  EndedAlone :
      (done cut : List Line) (from to : Branch → Standing) (d : Branch) (how : How) → MayAllStand o seen Told done cut from → from d ≡ Prepared
      → ((b : Branch) → to b ≡ (if branch_eq d b then Completed how else from b)) → MayAllStand o seen Told done cut to

-- the branches stand so at databases that obey the table: whatever these held of older incarnations
pub record StandSo (o : Origin) (seen : Seen) (f : Branch → Standing) : Type 0 where
  pub done : List Line
  pub cut : List Line
  pub may : MayAllStand o seen (MayStand o seen) done cut f

-- the same, where it is known how each branch stood at the start
pub record HaveCome (o : Origin) (seen : Seen) (f : Branch → Standing) : Type 0 where
  pub done : List Line
  pub cut : List Line
  pub may : MayAllStand o seen (λ b. Comes seen b (held_of o b).standing) done cut f

-- ** what it is that they agree

-- no branch of a transaction stands committed beside one that stands rolled back or lost
abbrev pub StandAlike : (Branch → Standing) → Type 0
StandAlike f = (b c : Branch) → b.gtrid ≡ c.gtrid → f b ≡ Committed → IsUndone (f c) → ⊥

-- none of a transaction that was begun in this incarnation
abbrev pub OwnStandAlike : (incarnation : ℕ) → (Branch → Standing) → Type 0
OwnStandAlike i f = (b c : Branch) → i ≤ b.gtrid.incarnation → b.gtrid ≡ c.gtrid → f b ≡ Committed → IsUndone (f c) → ⊥
