-- Who takes part in a step.
use Rattle.std.specs.Prelude.{ℕ, List, [], ◌∷◌, ◌++◌, codes}
use Rattle.std.specs.Fmt.{decimal}
use Rattle.xa_base.specs.Xid.{Xid}
use Rattle.xa_base.specs.declared.step.Part.TheVariants as parts
use Rattle.xa_base.specs.declared.step.Side.TheVariants as side
use Rattle.xa_base.specs.declared.step.Step.{Step}
use Rattle.xa_base.specs.declared.step.Step.TheVariants as steps
use Rattle.xa_story.specs.declared.party.Party.{Party}
use Rattle.xa_story.specs.declared.party.Party.TheVariants.{Thread, Manager, Rm}
use Rattle.xa_story.specs.declared.party.Sides.{Sides}
use Rattle.xa_story.specs.declared.party.Sides.TheVariants.{Alone, Sends, Hears, Between}

-- who does something by itself, calls or answers, hears, or is at either end of a line
abbrev pub sides_of : Step Xid → Sides
sides_of (steps.Begin thread) = Sends (Thread thread) Manager
sides_of (steps.Issue thread rm call) = Sends (Thread thread) (Rm rm)
sides_of (steps.Take thread rm) = Sends (Rm rm) (Thread thread)
sides_of (steps.Hear thread rm) = Hears (Thread thread) (Rm rm)
sides_of (steps.Vote rm xid vote) = Alone (Rm rm)
sides_of (steps.Busy rm xid times) = Alone (Rm rm)
sides_of (steps.Heuristic rm xid how) = Alone (Rm rm)
sides_of (steps.Recover rm count start_scan end_scan) = Sends Manager (Rm rm)
sides_of (steps.Resolve rm) = Sends Manager (Rm rm)
sides_of (steps.ResolveOpen rm) = Sends Manager (Rm rm)
sides_of (steps.Crash (parts.Line thread rm)) = Between (Thread thread) (Rm rm)
sides_of (steps.Crash (parts.Rm rm)) = Alone (Rm rm)
sides_of (steps.Restart (side.Rm rm)) = Alone (Rm rm)
sides_of _ = Alone Manager

-- ** words

abbrev pub party_text : Party → List ℕ
party_text (Thread thread) = codes "thread " ++ decimal thread
party_text Manager = codes "manager"
party_text (Rm rm) = codes "rm " ++ decimal rm

-- the marks →, ← and –, as UTF-8
abbrev pub to_mark : List ℕ
to_mark = 226 ∷ 134 ∷ 146 ∷ []

abbrev pub from_mark : List ℕ
from_mark = 226 ∷ 134 ∷ 144 ∷ []

abbrev pub between_mark : List ℕ
between_mark = 226 ∷ 128 ∷ 147 ∷ []

-- two parts with a mark between them
abbrev pub pair_text : Party → List ℕ → Party → List ℕ
pair_text one mark other = party_text one ++ codes " " ++ mark ++ codes " " ++ party_text other

abbrev pub sides_text : Sides → List ℕ
sides_text (Alone party) = party_text party
sides_text (Sends from to) = pair_text from to_mark to
sides_text (Hears by of) = pair_text by from_mark of
sides_text (Between one other) = pair_text one between_mark other
