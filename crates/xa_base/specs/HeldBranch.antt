-- What a resource manager holds of one branch, and what calls, scripts and breaks make of it.
use Rattle.std.specs.Prelude.{ℕ, ◌-◌, ◌==◌, if◌then◌else◌, Option, Some, None}
use Rattle.xa_base.specs.StateTable.{Kind, Kind.Start, state_of, asks_of, answer, moved, broken, completed}
use Rattle.xa_base.specs.Xid.{Xid, xid_eq}
use Rattle.xa_base.specs.declared.call.Call.{Call}
use Rattle.xa_base.specs.declared.code.Code.{Code}
use Rattle.xa_base.specs.declared.code.Code.TheVariants as Codes
use Rattle.xa_base.specs.declared.code.How.{How}
use Rattle.xa_base.specs.declared.state.Standing.{Standing}
use Rattle.xa_base.specs.declared.state.Standing.TheVariants.{Unstarted}
use Rattle.xa_base.specs.declared.vote.Vote.{Vote}
use Rattle.xa_base.specs.declared.vote.Vote.TheVariants.{Yes}

-- where it stands, the thread that started it last, the vote that counts, and how many commits are
-- still put off
pub record HeldBranch : Type 0 where
  pub standing : Standing
  pub starter : ℕ
  pub vote : Vote
  pub retries : ℕ

-- a branch that nobody has named
abbrev pub new_branch : HeldBranch
new_branch = record { standing = Unstarted; starter = 0; vote = Yes; retries = 0 }

-- the answer to a call on the branch
abbrev pub answer_of : HeldBranch → Kind → Code
answer_of b kind = answer kind (state_of b.standing) b.vote b.retries

-- who started the branch: an xa_start of a branch that doesn't exist makes its thread the starter
abbrev pub starter_after : (thread : ℕ) → Kind → Code → ℕ → ℕ
starter_after thread Start Codes.Success starter = thread
starter_after thread _ _ starter = starter

-- XA_RETRY uses up one retry
abbrev pub retries_after : Code → ℕ → ℕ
retries_after Codes.Retry n = n - 1
retries_after _ n = n

-- the branch after a thread's call on it
abbrev pub called : (thread : ℕ) → Kind → HeldBranch → HeldBranch
called thread kind b = record {
  standing = moved b.standing kind (answer_of b kind);
  starter = starter_after thread kind (answer_of b kind) b.starter;
  vote = b.vote;
  retries = retries_after (answer_of b kind) b.retries;
}

-- the branch of an identifier after a thread's call: as before, if the call names no branch or
-- another
abbrev pub held_by : (thread : ℕ) → Option (Kind × Xid) → Xid → HeldBranch → HeldBranch
held_by thread None x b = b
held_by thread (Some (kind, named)) x b = if xid_eq named x then called thread kind b else b

abbrev pub held_after : (thread : ℕ) → Call Xid → Xid → HeldBranch → HeldBranch
held_after thread call = held_by thread (asks_of call)

-- the answer to a call, by the branch that it names; xa_open and xa_close name none, and answer
-- XA_OK
abbrev pub code_by : (Xid → HeldBranch) → Option (Kind × Xid) → Code
code_by held None = Codes.Success
code_by held (Some (kind, named)) = answer_of (held named) kind

abbrev pub code_for : (Xid → HeldBranch) → Call Xid → Code
code_for held call = code_by held (asks_of call)

-- the branch after a line of this thread broke
abbrev pub broken_by : (thread : ℕ) → HeldBranch → HeldBranch
broken_by thread b = if b.starter == thread then record b { standing = broken b.standing } else b

-- the branch after all lines broke
abbrev pub crashed : HeldBranch → HeldBranch
crashed b = record b { standing = broken b.standing }

-- the branch after its resource manager ended it by itself
abbrev pub completed_by : How → HeldBranch → HeldBranch
completed_by how b = record b { standing = completed b.standing how }
