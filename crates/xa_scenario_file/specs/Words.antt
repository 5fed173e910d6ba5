-- The words of scenario files alone.
use Rattle.std.specs.Prelude.{ℕ, List, [], ◌∷◌, codes, Option}
use Rattle.xa_base.specs.declared.code.How.{How}
use Rattle.xa_base.specs.declared.code.How.TheVariants as hows
use Rattle.xa_files.specs.Words.{meaning_in}
use Rattle.xa_scenario_file.specs.declared.words.EntryKind.{EntryKind}
use Rattle.xa_scenario_file.specs.declared.words.EntryKind.TheVariants as kinds
use Rattle.xa_scenario_file.specs.declared.words.PartKind.{PartKind}
use Rattle.xa_scenario_file.specs.declared.words.PartKind.TheVariants as parts

-- the kind of an entry, by its `do`
abbrev pub entry_named : List ℕ → Option EntryKind
entry_named = meaning_in (
    (codes "begin", kinds.Begin) ∷ (codes "issue", kinds.Issue) ∷ (codes "call", kinds.Call)
    ∷ (codes "take", kinds.Take) ∷ (codes "hear", kinds.Hear) ∷ (codes "drain", kinds.Drain)
    ∷ (codes "vote", kinds.Vote) ∷ (codes "busy", kinds.Busy) ∷ (codes "heuristic", kinds.Heuristic)
    ∷ (codes "decide", kinds.Decide) ∷ (codes "recover", kinds.Recover) ∷ (codes "resolve", kinds.Resolve)
    ∷ (codes "done", kinds.Done) ∷ (codes "crash", kinds.Crash) ∷ (codes "restart", kinds.Restart)
    ∷ (codes "claim", kinds.Claim) ∷ (codes "settle", kinds.Settle) ∷ (codes "abandon", kinds.Abandon)
    ∷ (codes "resolve-open", kinds.ResolveOpen) ∷ [])

-- how a resource manager ends a branch by itself
abbrev pub how_named : List ℕ → Option How
how_named = meaning_in (
    (codes "com", hows.Com) ∷ (codes "rb", hows.Rb) ∷ (codes "mix", hows.Mix) ∷ (codes "haz", hows.Haz) ∷ [])

-- the kind of a part, by its `part`
abbrev pub part_named : List ℕ → Option PartKind
part_named = meaning_in ((codes "line", parts.Line) ∷ (codes "rm", parts.Rm) ∷ (codes "manager", parts.Manager) ∷ [])
