-- A whole recovery at a resource manager: a scan of all that is in doubt there, and the calls that end it (XA, section 2.3,
-- Transaction Completion and Recovery, and chapter 5, xa_recover).
use Rattle.std.specs.Prelude.{◌≡◌, ℕ, ◌≤◌, pos, List, [], ◌∷◌, length, true}
use Rattle.xa_base.specs.Branch.{IsBranch}
use Rattle.xa_base.specs.declared.code.Code.TheVariants as Codes
use Rattle.xa_base.specs.declared.state.Standing.TheVariants.{Prepared}
use Rattle.xa_model.specs.Facts.{live, started, taken, issued, standing}
use Rattle.xa_base.specs.Call.{map_call}
use Rattle.xa_model.specs.Facts.InDoubt.{in_doubt}
use Rattle.xa_base.specs.declared.reply.Reply.TheVariants as Replies
use Rattle.xa_base.specs.declared.step.Step.TheVariants as Steps
use Rattle.xa_model.specs.Replies.Steps.{Step, Reply}
use Rattle.xa_base.specs.declared.call.Call.TheVariants as Calls
use Rattle.xa_base.specs.declared.answer.Answer.TheVariants.{Ret, Page}
use Rattle.xa_model.specs.Trace.{Branch, Name, Name.Ours, Call, Answer, Trace, line}

-- calls that are taken one by one, each of them heard before the next
abbrev pub in_turn : (rm : ℕ) → List (Call × Answer) → List (Step × Reply)
in_turn r [] = []
in_turn r (x ∷ xs) = (Steps.Take 0 r, Replies.Took (map_call Ours x.0) x.1) ∷ (Steps.Hear 0 r, Replies.Heard (map_call Ours x.0) x.1) ∷ in_turn r xs

-- a page of at most so many names is asked for, taken and heard, and resolved by calls that get these answers
abbrev pub recovery : (rm count : ℕ) → List Name → List (Call × Answer) → List (Step × Reply)
recovery r count names answers =
    (Steps.Recover r (pos count) true true, Replies.Issued)
    ∷ (Steps.Take 0 r, Replies.Took (Calls.Recover (pos count) true true) (Page names))
    ∷ (Steps.Hear 0 r, Replies.Heard (Calls.Recover (pos count) true true) (Page names))
    ∷ (Steps.Resolve r, Replies.Resolved (length answers))
    ∷ in_turn r answers

-- no answer is XA_RETRY
abbrev pub NonePutOff : List (Call × Answer) → Type 0
NonePutOff [] = Unit
NonePutOff (x ∷ xs) = (x.1 ≡ Ret Codes.Retry → ⊥) × NonePutOff xs

-- the recovery may be whole: no call waits on the line, all that is in doubt fits the page, no commit is put off, and the numbers
-- of each branch fit its identifier
pub record MayComplete (tr : Trace) (r count : ℕ) (answers : List (Call × Answer)) : Type 0 where
  pub none_waits : length (taken tr (line 0 r)) ≡ length (issued tr (line 0 r))
  pub enough : length (in_doubt tr r) ≤ count
  pub none_put_off : NonePutOff answers
  pub numbers : (b : Branch) → started tr b ≡ true → IsBranch b

-- what is still prepared there is of live transactions
abbrev pub IsRecovered : Trace → (rm : ℕ) → Type 0
IsRecovered tr r = (b : Branch) → b.rm ≡ r → standing tr b ≡ Prepared → live tr b.gtrid ≡ true
