-- What a manager did and heard where only the answers of the resource managers are known, and the histories of that.
use Rattle.std.specs.Prelude.{ℕ, ◌≡◌, true, length, Option, Some, None}
use Rattle.xa_base.specs.HeldBranch.{HeldBranch}
use Rattle.xa_base.specs.StateTable.{asks_of}
use Rattle.xa_base.specs.Xid.{Xid}
use Rattle.xa_base.specs.declared.answer.Answer.TheVariants.{Page, Ret}
use Rattle.xa_base.specs.declared.call.Call.TheVariants as Calls
use Rattle.xa_base.specs.declared.code.Code.TheVariants as Codes
use Rattle.xa_base.specs.declared.state.Standing.TheVariants.{Prepared}
use Rattle.xa_base.specs.declared.step.Part.TheVariants as Part
use Rattle.xa_model.specs.Facts.{heard, next_call, standing, taken, up}
use Rattle.xa_model.specs.Protocol.{IsRun, Right}
use Rattle.xa_model.specs.Trace.{Answer, Branch, Call, Happening, Happening.Begun, Happening.Claimed, Happening.CompletedAlone, Happening.Crashed, Happening.Decided, Happening.Done, Happening.Heard, Happening.Issued, Happening.Nothing, Happening.PutOff, Happening.Resolved, Happening.ResolvedOpen, Happening.Took, Happening.Voted, How, Line, Origin, Trace, Trace.From, Trace.Then, Vote}

-- ** what is seen

-- what is seen since the start, the newest last: what the manager did, an answer to a call that was done, and a line that was lost,
-- with the call that waited first on it, which may have been done or not
pub data Seen : Type 0 where
  Start : Seen
  Did : Seen → Happening → Seen
  Answered : Seen → Line → Call → Answer → Seen
  Lost : Seen → Line → Option Call → Seen

-- ** its histories

-- a resource manager did something by itself: it chose how it votes, how many commits it puts off, or ended a prepared branch
pub data Alone (tr : Trace) : Trace → Type 0 where
  NoMore : Alone tr tr
  Votes : (now : Trace) (b : Branch) (v : Vote) → Alone tr now → Alone tr (Then now (Voted b v))
  PutsOff : (now : Trace) (b : Branch) (n : ℕ) → Alone tr now → Alone tr (Then now (PutOff b n))
  Ends : (now : Trace) (b : Branch) (how : How) → Alone tr now → standing now b ≡ Prepared → Alone tr (Then now (CompletedAlone b how))

-- the start, with this at its resource managers
abbrev pub start_with : Origin → (held : (rm : ℕ) → Xid → HeldBranch) → Trace
start_with o held = From (record o { held = held })

-- the line breaks
abbrev pub break_of : Line → Happening
break_of l = Crashed (Part.Line l.thread l.rm)

-- a history of what is seen: it starts with anything at the resource managers, each answer is given as it is heard, after whatever
-- they do by themselves, and the call that waits first on a line that is lost is done or not
pub data IsHistory (o : Origin) : Seen → Trace → Type 0 where
  Starts : (held : (rm : ℕ) → Xid → HeldBranch) → IsHistory o Start (start_with o held)
  Does : (seen : Seen) (tr : Trace) (e : Happening) → IsHistory o seen tr → IsHistory o (Did seen e) (Then tr e)
  Hears :
      (seen : Seen) (tr now : Trace) (l : Line) (c : Call) (a : Answer) → IsHistory o seen tr → Alone tr now
      → IsHistory o (Answered seen l c a) (Then (Then now (Took l c a)) (Heard l c a))
  Loses : (seen : Seen) (tr : Trace) (l : Line) (c : Option Call) → IsHistory o seen tr → IsHistory o (Lost seen l c) (Then tr (break_of l))
  LosesAnswer :
      (seen : Seen) (tr now : Trace) (l : Line) (c : Call) (a : Answer) → IsHistory o seen tr → Alone tr now
      → IsHistory o (Lost seen l (Some c)) (Then (Then now (Took l c a)) (break_of l))

-- ** what the manager looks at

-- it moves no branch, breaks no line, and is no answer
abbrev pub IsManagers : Happening → Type 0
IsManagers (Begun g) = Unit
IsManagers (Issued l c) = Unit
IsManagers (Resolved r) = Unit
IsManagers (ResolvedOpen r) = Unit
IsManagers (Claimed g) = Unit
IsManagers (Decided g outcome) = Unit
IsManagers (Done g) = Unit
IsManagers Nothing = Unit
IsManagers _ = ⊥

-- such a call has such answers: a page is for xa_recover, and a call on no branch but that is answered XA_OK
abbrev pub HasAnswer : Call → Answer → Type 0
HasAnswer (Calls.Recover n s e) a = Unit
HasAnswer c (Ret code) = asks_of c ≡ None → code ≡ Codes.Success
HasAnswer c (Page names) = ⊥

-- the call waits first on the line, the manager is up, and has heard every answer
pub record Waits (tr : Trace) (l : Line) (c : Call) : Type 0 where
  pub is_up : up tr ≡ true
  pub first : next_call tr l ≡ Some c
  pub none_unheard : length (heard tr l) ≡ length (taken tr l)

-- the manager kept its rules: whatever the resource managers did by themselves, each thing that it did was right, each answer was to
-- the call that waited first, and it knew which that was as a line was lost
abbrev pub KeepsRules : Origin → Seen → Type 0
KeepsRules o Start = Unit
KeepsRules o (Did seen e) = KeepsRules o seen × IsManagers e × ((tr : Trace) → IsHistory o seen tr → IsRun tr → Right tr e)
KeepsRules o (Answered seen l c a) = KeepsRules o seen × HasAnswer c a × ((tr : Trace) → IsHistory o seen tr → IsRun tr → Waits tr l c)
KeepsRules o (Lost seen l c) = KeepsRules o seen × ((tr : Trace) → IsHistory o seen tr → IsRun tr → next_call tr l ≡ c)
