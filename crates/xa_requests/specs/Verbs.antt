-- The first words of requests.
use Rattle.std.specs.Prelude.{[], ◌∷◌, codes, Option}
use Rattle.xa_files.specs.Words.{meaning_in}
use Rattle.xa_requests.specs.Words.{Word}
use Rattle.xa_requests.specs.declared.verbs.Verb.{Verb}
use Rattle.xa_requests.specs.declared.verbs.Verb.TheVariants as verbs

-- the kind of a request
abbrev pub verb_named : Word → Option Verb
verb_named = meaning_in (
    (codes "begin", verbs.Begin) ∷ (codes "issue", verbs.Issue) ∷ (codes "answer", verbs.Answer)
    ∷ (codes "decide", verbs.Decide) ∷ (codes "claim", verbs.Claim) ∷ (codes "settle", verbs.Settle)
    ∷ (codes "abandon", verbs.Abandon) ∷ (codes "done", verbs.Done) ∷ (codes "resolve", verbs.Resolve)
    ∷ (codes "resolve-open", verbs.ResolveOpen) ∷ (codes "waiting", verbs.Waiting) ∷ (codes "owed", verbs.Owed)
    ∷ (codes "crash", verbs.Crash) ∷ (codes "status", verbs.Status) ∷ (codes "quit", verbs.Quit) ∷ [])
