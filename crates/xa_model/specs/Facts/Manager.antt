-- Whether the manager is up, its incarnation and what it began, and what a happening breaks: failures of either side, after which
-- the manager recovers (XA, section 2.3, Transaction Completion and Recovery). Incarnations are this manager's own.
use Rattle.std.specs.Prelude.{ℕ, ◌+◌, Bool, true, false, not, ◌&&◌, ◌||◌, nat_eq}
use Rattle.xa_base.specs.Branch.{gtrid_eq}
use Rattle.xa_base.specs.declared.step.Part.TheVariants as Part
use Rattle.xa_model.specs.Trace.{Gtrid, Line, Happening, Happening.Begun, Happening.Crashed, Happening.Failed, Happening.RmRestarted, Happening.Restarted, Origin, Trace, Trace.From, Trace.Then, line, line_eq}

-- where the history starts
abbrev pub origin : Trace → Origin
origin (From o) = o
origin (Then tr e) = origin tr

-- the manager is down from its crash, or from a step in which its log failed, to the next restart
abbrev pub up : Trace → Bool
up (From o) = true
up (Then tr (Crashed Part.Manager)) = false
up (Then tr (Failed f)) = false
up (Then tr (Restarted i d h)) = true
up (Then tr _) = up tr

-- a resource manager is down from its crash to its restart
abbrev pub rm_up : Trace → (rm : ℕ) → Bool
rm_up (From o) r = true
rm_up (Then tr (Crashed (Part.Rm s))) r = not (nat_eq s r) && rm_up tr r
rm_up (Then tr (RmRestarted s)) r = nat_eq s r || rm_up tr r
rm_up (Then tr _) r = rm_up tr r

-- the incarnation that the last restart gave
abbrev pub incarnation : Trace → ℕ
incarnation (From o) = o.incarnation
incarnation (Then tr (Restarted i d h)) = i
incarnation (Then tr _) = incarnation tr

-- how many transactions were begun in this incarnation
abbrev pub sequence : Trace → ℕ
sequence (From o) = 0
sequence (Then tr (Begun g)) = sequence tr + 1
sequence (Then tr (Restarted i d h)) = 0
sequence (Then tr _) = sequence tr

-- the transaction was begun in this incarnation, which ends as the manager falls
abbrev pub begun : Trace → Gtrid → Bool
begun (From o) g = false
begun (Then tr (Begun h)) g = gtrid_eq h g || begun tr g
begun (Then tr (Crashed Part.Manager)) g = false
begun (Then tr (Failed f)) g = false
begun (Then tr (Restarted i d h)) g = false
begun (Then tr _) g = begun tr g

-- how many transactions were begun, in all incarnations
abbrev pub begins : Trace → ℕ
begins (From o) = 0
begins (Then tr (Begun g)) = begins tr + 1
begins (Then tr _) = begins tr

-- whether a line breaks: it crashes, or one of its sides does, or the log fails while the manager is up
abbrev pub breaks : Trace → Happening → Line → Bool
breaks tr (Crashed (Part.Line t r)) l = line_eq (line t r) l
breaks tr (Crashed (Part.Rm r)) l = nat_eq r l.rm
breaks tr (Crashed Part.Manager) l = true
breaks tr (Failed f) l = up tr
breaks tr _ l = false
