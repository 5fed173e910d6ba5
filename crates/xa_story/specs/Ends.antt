-- What became of a branch, in words.
use Rattle.std.specs.Prelude.{ℕ, List, [], ◌++◌, codes, None, Some}
use Rattle.std.specs.Fmt.{decimal}
use Rattle.xa_base.specs.Branch.{branch_of_xid}
use Rattle.xa_base.specs.Xid.{Xid}
use Rattle.xa_base.specs.declared.code.How.TheVariants as hows
use Rattle.xa_base.specs.declared.state.Fate.{Fate}
use Rattle.xa_base.specs.declared.state.Fate.TheVariants as fates
use Rattle.xa_files.specs.Fates.{fate_text}
use Rattle.xa_story.specs.Lines.{left}
use Rattle.xa_story.specs.Naming.{Naming, xid_text}

-- what a fate means, if its name doesn't say it
abbrev pub fate_note : Fate → List ℕ
fate_note fates.Prepared = codes ": it waits to be told how it ends"
fate_note fates.Lost = codes ": its line broke before it was prepared"
fate_note (fates.Heuristic hows.Com) = codes ": its resource manager committed it without being told"
fate_note (fates.Heuristic hows.Rb) = codes ": its resource manager rolled it back without being told"
fate_note (fates.Heuristic hows.Mix) = codes ": its resource manager committed a part without being told"
fate_note (fates.Heuristic hows.Haz) = codes ": its resource manager may have ended it without being told"
fate_note fate = []

-- a branch, and at which resource manager it is
abbrev pub branch_place_text : Naming → Xid → List ℕ
branch_place_text n x = elim (branch_of_xid x) [ None ↦ xid_text n x | Some b ↦ xid_text n x ++ codes " at rm " ++ decimal b.rm ]

-- the line of a branch, with its fate
abbrev pub branch_end_line : Naming → Xid × Fate → List ℕ
branch_end_line n line = codes "      " ++ left 16 (branch_place_text n line.0) ++ codes " " ++ fate_text line.1 ++ fate_note line.1 ++ codes "\n"
