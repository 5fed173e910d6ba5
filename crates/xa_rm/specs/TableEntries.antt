-- What an entry of the table of branches stands for.
use Rattle.std.specs.Prelude.{Bool, true, false}
use Rattle.xa_base.specs.HeldBranch.{HeldBranch}
use Rattle.xa_base.specs.declared.state.Standing.{Standing}
use Rattle.xa_base.specs.declared.state.Standing.TheVariants.{Unstarted}
use Rattle.xa_rm.specs.declared.table_entry.TableEntry.{TableEntry}

-- the branch that an entry holds
abbrev pub held_branch : TableEntry → HeldBranch
held_branch h = record { standing = h.standing; starter = h.starter; vote = h.vote; retries = h.retries }

-- whether a branch that stands so ever was
abbrev pub was_started : Standing → Bool
was_started Unstarted = false
was_started _ = true
