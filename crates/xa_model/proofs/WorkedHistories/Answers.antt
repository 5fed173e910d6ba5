-- Which answers finish a branch, and which settle it, call by call.
use Rattle.std.proofs.Common.{◌≡◌, List, [], ◌∷◌, Bool, true, false, refl}
use Rattle.std.specs.Prelude.{filter}
use Rattle.xa_base.specs.declared.code.Code.TheVariants as Codes
use Rattle.xa_base.specs.declared.code.How.TheVariants as How
use Rattle.xa_base.specs.declared.code.RbCode.TheVariants as Rb
use Rattle.xa_model.specs.Facts.{says_yes, says_read_only, acknowledges, answers_start, finishes}
use Rattle.xa_base.specs.StateTable.{on}
use Rattle.xa_base.specs.declared.answer.Answer.TheVariants.{Ret}
use Rattle.xa_model.specs.Trace.{Branch, Code, Kind, Kind.Start, Kind.Join, Kind.End, Kind.Prepare, Kind.Commit, Kind.OnePhase, Kind.Rollback, Kind.Forget, Call, Answer}
use Rattle.xa_model.proofs.WorkedHistories.{own}

abbrev rolled_back : Code
rolled_back = Codes.RolledBack Rb.Deadlock

abbrev heuristic : Code
heuristic = Codes.Heuristic How.Mix

-- each code, one of those that come in kinds
abbrev codes : List Code
codes =
    Codes.Success ∷ Codes.ReadOnly ∷ rolled_back ∷ heuristic ∷ Codes.Retry ∷ Codes.NotAnXid ∷ Codes.Invalid ∷ Codes.Protocol
    ∷ Codes.DuplicateXid ∷ Codes.RmError ∷ Codes.RmFailed ∷ []

-- the codes that pass a test as the answer to a call on the branch
abbrev passing : (Call → Answer → Bool) → Kind → Branch → List Code
passing test k b = filter (λ code. test (on k b) (Ret code)) codes

abbrev finishing : Kind → Branch → List Code
finishing = passing (finishes (own 1 0 0))

-- ** the branch itself

start : finishing Start (own 1 0 0) ≡ Codes.ReadOnly ∷ rolled_back ∷ heuristic ∷ Codes.Retry ∷ Codes.NotAnXid ∷ Codes.Invalid
    ∷ Codes.Protocol ∷ Codes.DuplicateXid ∷ Codes.RmError ∷ Codes.RmFailed ∷ []
start = refl

join : finishing Join (own 1 0 0) ≡ finishing Start (own 1 0 0)
join = refl

end : finishing (End false) (own 1 0 0) ≡ []
end = refl

failed_end : finishing (End true) (own 1 0 0) ≡ []
failed_end = refl

prepare : finishing Prepare (own 1 0 0) ≡ Codes.ReadOnly ∷ rolled_back ∷ []
prepare = refl

commit : finishing Commit (own 1 0 0) ≡ Codes.Success ∷ Codes.NotAnXid ∷ []
commit = refl

one_phase : finishing OnePhase (own 1 0 0) ≡ Codes.Success ∷ rolled_back ∷ Codes.NotAnXid ∷ []
one_phase = refl

rollback : finishing Rollback (own 1 0 0) ≡ Codes.Success ∷ rolled_back ∷ Codes.NotAnXid ∷ []
rollback = refl

forget : finishing Forget (own 1 0 0) ≡ Codes.Success ∷ Codes.NotAnXid ∷ []
forget = refl

-- ** another branch: nothing

abbrev kinds : List Kind
kinds = Start ∷ Join ∷ End false ∷ Prepare ∷ Commit ∷ OnePhase ∷ Rollback ∷ Forget ∷ []

-- the calls of which some answer passes
abbrev passes : (Call → Answer → Bool) → Branch → List Kind
passes test b = filter (λ k. is_some (passing test k b)) kinds
  where
    is_some : List Code → Bool
    is_some [] = false
    is_some (x ∷ xs) = true

another : passes (finishes (own 1 0 0)) (own 1 0 1) ≡ []
another = refl

-- ** votes and acknowledgements

yes : passing (says_yes (own 1 0 0)) Prepare (own 1 0 0) ≡ Codes.Success ∷ []
yes = refl

read_only : passing (says_read_only (own 1 0 0)) Prepare (own 1 0 0) ≡ Codes.ReadOnly ∷ []
read_only = refl

acknowledged : passing (acknowledges (own 1 0 0)) Commit (own 1 0 0) ≡ Codes.Success ∷ Codes.NotAnXid ∷ []
acknowledged = refl

votes : passes (says_yes (own 1 0 0)) (own 1 0 0) ≡ Prepare ∷ []
votes = refl

acknowledgements : passes (acknowledges (own 1 0 0)) (own 1 0 0) ≡ Commit ∷ []
acknowledgements = refl

starts : passes (answers_start (own 1 0 0)) (own 1 0 0) ≡ Start ∷ Join ∷ []
starts = refl
