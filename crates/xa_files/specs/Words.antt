-- The words for calls, codes, outcomes, votes and flags.
use Rattle.std.specs.Prelude.{ℕ, List, [], ◌∷◌, codes, Option, Some, None, if◌then◌else◌, option_and_then}
use Rattle.std.specs.Fmt.{signed_decimal}
use Rattle.std.specs.List.{find}
use Rattle.std.specs.Str.{bytes_eq}
use Rattle.xa_base.specs.Call.{kind_name}
use Rattle.xa_base.specs.Code.{code_number}
use Rattle.xa_base.specs.declared.call.CallKind.{CallKind}
use Rattle.xa_base.specs.declared.call.CallKind.TheVariants as calls
use Rattle.xa_base.specs.declared.code.Code.{Code}
use Rattle.xa_base.specs.declared.code.Code.TheVariants.{Success, ReadOnly, Retry, Heuristic, RolledBack, RmError, NotAnXid, Invalid, Protocol, RmFailed, DuplicateXid}
use Rattle.xa_base.specs.declared.code.How.TheVariants as hows
use Rattle.xa_base.specs.declared.code.RbCode.TheVariants as rb
use Rattle.xa_base.specs.declared.step.Outcome.{Outcome}
use Rattle.xa_base.specs.declared.step.Outcome.TheVariants as outcomes
use Rattle.xa_base.specs.declared.vote.Vote.{Vote}
use Rattle.xa_base.specs.declared.vote.Vote.TheVariants as votes

-- what a word stands for in a list of words with their meanings
abbrev pub meaning_in : {A : Type 0} → List (List ℕ × A) → List ℕ → Option A
meaning_in [] word = None
meaning_in (entry ∷ entries) word = if bytes_eq word entry.0 then Some entry.1 else meaning_in entries word

-- the kinds of calls
abbrev pub call_kinds : List CallKind
call_kinds =
    calls.OpenRm ∷ calls.CloseRm ∷ calls.Start ∷ calls.End ∷ calls.Prepare ∷ calls.Commit ∷ calls.Rollback ∷ calls.Forget ∷ calls.Recover ∷ []

-- the kind of a call, by its `xa`, which is its name
abbrev pub call_named : List ℕ → Option CallKind
call_named word = find (λ kind. bytes_eq (kind_name kind) word) call_kinds

-- how a transaction ends
abbrev pub outcome_named : List ℕ → Option Outcome
outcome_named = meaning_in ((codes "commit", outcomes.Commit) ∷ (codes "rollback", outcomes.Rollback) ∷ [])

-- the codes
abbrev pub return_codes : List Code
return_codes =
    Success ∷ ReadOnly ∷ Retry ∷ Heuristic hows.Mix ∷ Heuristic hows.Rb ∷ Heuristic hows.Com ∷ Heuristic hows.Haz
    ∷ RolledBack rb.Rollback ∷ RolledBack rb.CommFail ∷ RolledBack rb.Deadlock ∷ RolledBack rb.Integrity
    ∷ RolledBack rb.Other ∷ RolledBack rb.Proto ∷ RolledBack rb.Timeout ∷ RolledBack rb.Transient
    ∷ RmError ∷ NotAnXid ∷ Invalid ∷ Protocol ∷ RmFailed ∷ DuplicateXid ∷ []

-- a code's number, as it is written
abbrev pub code_text : Code → List ℕ
code_text code = signed_decimal (code_number code)

-- the code whose number this is
unfoldable pub code_named : List ℕ → Option Code
code_named word = find (λ code. bytes_eq (code_text code) word) return_codes

-- the vote that is answered by a code: one that tells of a rollback
abbrev pub no_by : Code → Option Vote
no_by (RolledBack code) = Some (votes.No code)
no_by code = None

-- a vote: `ok`, `ro`, or the number of such a code
abbrev pub vote_named : List ℕ → Option Vote
vote_named word =
    if bytes_eq word (codes "ok") then Some votes.Yes
    else if bytes_eq word (codes "ro") then Some votes.ReadOnly
    else option_and_then no_by (code_named word)

-- the value of a flag that some call takes
abbrev pub flag_named : List ℕ → Option ℕ
flag_named = meaning_in (
    (codes "TMNOFLAGS", 0) ∷ (codes "TMJOIN", 0x0020_0000) ∷ (codes "TMENDRSCAN", 0x0080_0000) ∷ (codes "TMSTARTRSCAN", 0x0100_0000)
    ∷ (codes "TMSUCCESS", 0x0400_0000) ∷ (codes "TMFAIL", 0x2000_0000) ∷ (codes "TMONEPHASE", 0x4000_0000) ∷ [])
