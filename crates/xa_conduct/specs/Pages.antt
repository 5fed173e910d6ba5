-- Which of the branches that a resource manager lists a recovery may end: those of earlier sessions.
use Rattle.std.specs.Prelude.{◌≡◌, ℕ, Bool, true, false, nat_lt, Option, Some, None}
use Rattle.xa_base.specs.Branch.{branch_of_xid}
use Rattle.xa_base.specs.Xid.{Xid}
use Rattle.xa_base.specs.declared.branch.Branch.{Branch}
use Rattle.xa_conduct.specs.declared.recovery.Listed.{Listed}
use Rattle.xa_conduct.specs.declared.recovery.Listed.TheVariants.{Earlier}

abbrev pub began_before : (incarnation : ℕ) → Option Branch → Bool
began_before incarnation None = false
began_before incarnation (Some b) = nat_lt b.gtrid.incarnation incarnation

-- an earlier incarnation began the branch that this identifier names
abbrev pub is_earlier : (incarnation : ℕ) → Xid → Bool
is_earlier incarnation x = began_before incarnation (branch_of_xid x)

-- what is taken for a branch of an earlier session is one
abbrev pub BeganBefore : (incarnation : ℕ) → Listed → Type 0
BeganBefore incarnation (Earlier b) = nat_lt b.gtrid.incarnation incarnation ≡ true
BeganBefore incarnation _ = Unit {0}
