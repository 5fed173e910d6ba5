-- The texts of replies that a trace and a driver's session have alike.
use Rattle.std.specs.Prelude.{ℕ, List, ◌++◌, codes}
use Rattle.std.specs.Fmt.{decimal}
use Rattle.std.specs.List.{flat_map}
use Rattle.xa_base.specs.Branch.{gtrid_text}
use Rattle.xa_base.specs.Refusal.{refusal_name, refusal_number}
use Rattle.xa_base.specs.Xid.{Xid, text_of}
use Rattle.xa_base.specs.declared.branch.Gtrid.{Gtrid}
use Rattle.xa_base.specs.declared.refusal.Refusal.{Refusal}

-- identifiers, each after a space
abbrev pub listed_xids : List Xid → List ℕ
listed_xids = flat_map (λ x. codes " " ++ text_of x)

abbrev pub begun_text : Gtrid → List ℕ
begun_text gtrid = codes "begun " ++ gtrid_text gtrid

-- the incarnation of a manager that is up, and how many rows of either kind it found
abbrev pub restarted_text : (incarnation decisions heuristics : ℕ) → List ℕ
restarted_text incarnation decisions heuristics =
    codes "restarted " ++ decimal incarnation ++ codes " " ++ decimal decisions ++ codes " " ++ decimal heuristics

-- a refusal, by its number and its name
abbrev pub refused_text : Refusal → List ℕ
refused_text refusal = codes "refused " ++ decimal (refusal_number refusal) ++ codes " " ++ refusal_name refusal
