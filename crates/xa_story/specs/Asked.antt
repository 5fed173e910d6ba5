-- What an event was asked to do, in words.
use Rattle.std.specs.Prelude.{List, ◌++◌, codes, ℕ, None, Some}
use Rattle.std.specs.Fmt.{decimal}
use Rattle.xa_base.specs.Call.{kind_name, xid_in}
use Rattle.xa_base.specs.Xid.{Xid}
use Rattle.xa_base.specs.declared.branch.Gtrid.{Gtrid}
use Rattle.xa_base.specs.declared.call.Call.{Call}
use Rattle.xa_base.specs.declared.call.CallKind.TheVariants as kinds
use Rattle.xa_base.specs.declared.code.How.{How}
use Rattle.xa_base.specs.declared.code.How.TheVariants as hows
use Rattle.xa_base.specs.declared.reply.Event.{Event}
use Rattle.xa_base.specs.declared.reply.Reply.{Reply}
use Rattle.xa_base.specs.declared.reply.Reply.TheVariants as replies
use Rattle.xa_base.specs.declared.step.Outcome.{Outcome}
use Rattle.xa_base.specs.declared.step.Outcome.TheVariants as outcomes
use Rattle.xa_base.specs.declared.step.Part.TheVariants as parts
use Rattle.xa_base.specs.declared.step.Step.{Step}
use Rattle.xa_base.specs.declared.step.Step.TheVariants as steps
use Rattle.xa_base.specs.declared.vote.Vote.{Vote}
use Rattle.xa_story.specs.Naming.{Naming, next_name, transaction_name, xid_text}
use Rattle.xa_story.specs.Words.{call_name_with_flags, vote_text}

-- a call, by its name and the name of its branch
abbrev pub named_call_text : Naming → Call Xid → List ℕ
named_call_text n call = elim (xid_in call) [ None ↦ call_name_with_flags call | Some x ↦ call_name_with_flags call ++ codes " " ++ xid_text n x ]

-- what a resource manager does with a prepared branch by itself
abbrev pub alone_text : How → List ℕ → List ℕ
alone_text hows.Com branch = codes "commits " ++ branch ++ codes " itself"
alone_text hows.Rb branch = codes "rolls " ++ branch ++ codes " back itself"
alone_text hows.Mix branch = codes "commits a part of " ++ branch ++ codes " itself"
alone_text hows.Haz branch = codes "may have ended " ++ branch

-- what was taken or heard: the call, or else what was looked for
abbrev pub moved_text : Naming → Reply Xid → List ℕ → List ℕ
moved_text n (replies.Took call answer) otherwise = named_call_text n call
moved_text n (replies.Heard call answer) otherwise = named_call_text n call
moved_text n reply otherwise = otherwise

abbrev pub outcome_name : Outcome → List ℕ
outcome_name outcomes.Commit = codes "commit"
outcome_name outcomes.Rollback = codes "rollback"

-- a word, and the transaction that it is about
abbrev pub of_transaction : Naming → List ℕ → Gtrid → List ℕ
of_transaction n word g = word ++ codes " " ++ transaction_name n g

-- how a resource manager is to vote on a branch
abbrev pub votes_text : Naming → Xid → Vote → List ℕ
votes_text n x vote = codes "will vote " ++ vote_text vote ++ codes " on " ++ xid_text n x

-- how often it is to put an xa_commit off
abbrev pub puts_off_text : Naming → Xid → ℕ → List ℕ
puts_off_text n x times = codes "will put xa_commit " ++ xid_text n x ++ codes " off " ++ decimal times ++ codes " times"

-- how a transaction is to end
abbrev pub decide_text : Naming → Gtrid → Outcome → List ℕ
decide_text n g outcome = codes "decide " ++ transaction_name n g ++ codes " " ++ outcome_name outcome

-- what a step that was replied so asked for
abbrev pub step_text : Naming → Reply Xid → Step Xid → List ℕ
step_text n reply (steps.Begin thread) = codes "begin " ++ next_name n
step_text n reply (steps.Issue thread rm call) = named_call_text n call
step_text n reply (steps.Take thread rm) = moved_text n reply (codes "take a call")
step_text n reply (steps.Hear thread rm) = moved_text n reply (codes "hear an answer")
step_text n reply (steps.Vote rm x vote) = votes_text n x vote
step_text n reply (steps.Busy rm x times) = puts_off_text n x times
step_text n reply (steps.Heuristic rm x how) = alone_text how (xid_text n x)
step_text n reply (steps.Decide g outcome) = decide_text n g outcome
step_text n reply (steps.Claim g) = of_transaction n (codes "claim") g
step_text n reply (steps.Settle g) = of_transaction n (codes "settle") g
step_text n reply (steps.Abandon g) = of_transaction n (codes "abandon") g
step_text n reply (steps.Done g) = of_transaction n (codes "done") g
step_text n reply (steps.Recover rm count start end) = kind_name kinds.Recover
step_text n reply (steps.Resolve rm) = codes "resolve"
step_text n reply (steps.ResolveOpen rm) = codes "resolve-open"
step_text n reply (steps.Crash (parts.Line thread rm)) = codes "breaks"
step_text n reply (steps.Crash part) = codes "crashes"
step_text n reply (steps.Restart side) = codes "restarts"

abbrev pub asked_text : Naming → Event → List ℕ
asked_text n event = step_text n event.reply event.step
