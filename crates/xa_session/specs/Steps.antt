-- What each method of a session does.
use Rattle.std.specs.Prelude.{◌≡◌, ◌≢◌, ℕ, ◌+◌, true, List, [], ◌∷◌, length, map, Option, Some, None, Result, Err, IfErr, IfOk, OnErr, OnOk}
use Rattle.xa_base.specs.Answer.{map_answer}
use Rattle.xa_base.specs.Call.{map_call}
use Rattle.xa_base.specs.Xid.{Xid}
use Rattle.xa_base.specs.declared.answer.Answer.{Answer}
use Rattle.xa_base.specs.declared.branch.Branch.{Branch}
use Rattle.xa_base.specs.declared.branch.Gtrid.{Gtrid}
use Rattle.xa_base.specs.declared.call.Call.{Call}
use Rattle.xa_base.specs.declared.refusal.Refusal.{Refusal}
use Rattle.xa_base.specs.declared.refusal.Refusal.TheVariants as Refusals
use Rattle.xa_base.specs.declared.step.Outcome.{Outcome}
use Rattle.xa_base.specs.declared.step.Outcome.TheVariants as Outcomes
use Rattle.xa_base.specs.declared.step.Part.TheVariants as Parts
use Rattle.xa_base.specs.declared.step.Step.TheVariants as Steps
use Rattle.xa_line.specs.Grid.{line_at, new_grid, with_line}
use Rattle.xa_line.specs.Traffic.{no_traffic, with_one_more}
use Rattle.xa_model.specs.Replies.History.{name_of}
use Rattle.xa_model.specs.Replies.Steps.{accepted}
use Rattle.xa_model.specs.Trace.{Call as KnownCall, Fault.InDecide, Fault.InDone, Happening, Happening.Begun, Happening.Claimed, Happening.Crashed, Happening.Decided, Happening.Done, Happening.Issued, Happening.Resolved, Happening.ResolvedOpen, Trace, line}
use Rattle.xa_tm.specs.Book.{Book, Doubt.Adds, Doubt.Drops, after, after_all, rows_for}
use Rattle.xa_tm.specs.Calls.{FailsBy, book_in, log_in, written_by}
use Rattle.xa_tm.specs.Refusing.{resolved_in, resolved_open_in}
use Rattle.xa_tm.specs.Release.{HoldsNothingOf, IsOver, book_without}
use Rattle.xa_session.specs.Answering.{FailsToHear, HearsAs, IsFirst, IsFoundLater}
use Rattle.xa_session.specs.Following.{Follows, FollowsAll, FollowsLoss, StandsIn, StaysAs}
use Rattle.xa_session.specs.Hearing.{with_answer_heard}
use Rattle.xa_session.specs.Session.{BranchExplains, IsExplainable, LetsWait, begin_refusal, decide_all_refusal, done_all_refusal, issue_refusal, known_waiting, line_refusal, lines_by, refusal_at, resolve_open_refusal, resolve_refusal, unfit}
use Rattle.xa_session.specs.declared.session.Session.{Session}
use Rattle.xa_session.specs.declared.session.answers.Unfit.{Unfit}
use Rattle.xa_session.specs.declared.session.answers.Unfit.TheVariants as Unfits

-- ** rules, and what happens

module _ {L A : Type 0} where
  -- A step of the manager, or none. A rule that refuses it changes nothing, and the first that
  -- applies is told.
  pub record ObeysRules (why : Option Refusal) (old new : Session L) (result : Result A Refusal) : Type 0 where
    pub refused : (n : Refusal) → why ≡ Some n → (result ≡ Err n) × (new ≡ old)
    pub allowed : OnOk result (why ≡ None)

  -- No line changed, and not the log. If no rule refuses, only want of memory does, and all stays
  -- as it was.
  pub record IsQuiet (why : Option Refusal) (old new : Session L) (result : Result A Refusal) : Type 0 where
    pub memory : why ≡ None → IfErr result (λ n. n ≡ Refusals.Memory)
    pub stays : OnErr result (StaysAs old new)
    pub log : log_in new.manager ≡ log_in old.manager
    pub lines : new.lines ≡ old.lines

  -- The log may have been asked. If no rule refuses, it fails so. All stays as it was unless the
  -- log failed; then all lines are new.
  pub record AsksLog (why : Option Refusal) (Fails : (old new : Book) → Refusal → Type 0) (old new : Session L) (result : Result A Refusal) : Type 0 where
    pub fails : why ≡ None → IfErr result (Fails (book_in old.manager) (book_in new.manager))
    pub stays : IfErr result (λ n. n ≢ Refusals.LogFault → StaysAs old new)
    pub lines : new.lines ≡ lines_by result old.lines
    -- a failure of the log is counted as one that happened
    pub fault_counted : result ≡ Err Refusals.LogFault → new.happenings ≡ old.happenings + 1

-- these happened in turn: they were right to, wherever the session stood, and the book is what they
-- lead to
pub record HappenInTurn {L : Type 0} (es : List Happening) (old new : Session L) : Type 0 where
  pub book : book_in new.manager ≡ after_all (book_in old.manager) es
  pub follows : FollowsAll es old new

-- this happened
abbrev pub Happens : {L : Type 0} → Happening → (old new : Session L) → Type 0
Happens e old new = HappenInTurn (e ∷ []) old new

-- the transaction that is begun next
abbrev pub next_gtrid_in : Book → Gtrid
next_gtrid_in k = record { incarnation = k.incarnation; sequence = k.sequence + 1 }

-- ** decisions

module _ {L : Type 0} where
  -- a transaction begins, the next in number
  pub record Begins (thread : ℕ) (old new : Session L) (result : Result Gtrid Refusal) : Type 0 where
    pub rules : ObeysRules (begin_refusal old thread) old new result
    pub quiet : IsQuiet (begin_refusal old thread) old new result
    pub next : IfOk result (λ g. g ≡ next_gtrid_in (book_in old.manager))
    pub begun : IfOk result (λ g. Happens (Begun g) old new)

  -- it is claimed
  pub record Claims (g : Gtrid) (old new : Session L) (result : Result (Unit {0}) Refusal) : Type 0 where
    pub rules : ObeysRules (refusal_at old (Steps.Claim g)) old new result
    pub quiet : IsQuiet (refusal_at old (Steps.Claim g)) old new result
    pub claimed : OnOk result (Happens (Claimed g) old new)

  -- it is claimed, and is rolled back
  pub record Abandons (g : Gtrid) (old new : Session L) (result : Result (Unit {0}) Refusal) : Type 0 where
    pub rules : ObeysRules (refusal_at old (Steps.Abandon g)) old new result
    pub quiet : IsQuiet (refusal_at old (Steps.Abandon g)) old new result
    pub decided : OnOk result (Happens (Decided g Outcomes.Rollback) old new)

  -- these are decided so
  pub record Decides (gs : List Gtrid) (outcome : Outcome) (old new : Session L) (result : Result (Unit {0}) Refusal) : Type 0 where
    pub rules : ObeysRules (decide_all_refusal old outcome gs) old new result
    pub asks : AsksLog (decide_all_refusal old outcome gs)
        (FailsBy (Adds (rows_for (book_in old.manager) (written_by outcome (book_in old.manager) gs)))
        (InDecide (written_by outcome (book_in old.manager) gs))) old new result
    pub decided : OnOk result (HappenInTurn (map (λ g. Decided g outcome) gs) old new)

  -- it is claimed, and is committed
  pub record Settles (g : Gtrid) (old new : Session L) (result : Result (Unit {0}) Refusal) : Type 0 where
    pub rules : ObeysRules (refusal_at old (Steps.Settle g)) old new result
    pub asks : AsksLog (refusal_at old (Steps.Settle g)) (FailsBy (Adds (rows_for (book_in old.manager) (g ∷ []))) (InDecide (g ∷ []))) old new result
    -- it fails by the log only if a row is to be written: of a transaction that some branch voted
    -- XA_OK for
    pub asked : refusal_at old (Steps.Settle g) ≡ None → result ≡ Err Refusals.LogFault → ((book_in old.manager).transaction g).has_yes ≡ true
    pub decided : OnOk result (Happens (Decided g Outcomes.Commit) old new)

  -- the rows of these leave the log
  pub record Finishes (gs : List Gtrid) (old new : Session L) (result : Result (Unit {0}) Refusal) : Type 0 where
    pub rules : ObeysRules (done_all_refusal old gs) old new result
    pub asks : AsksLog (done_all_refusal old gs) (FailsBy (Drops gs) (InDone gs)) old new result
    pub done : OnOk result (HappenInTurn (map (λ g. Done g) gs) old new)

-- ** calls

module _ {L : Type 0} where
  -- a call waits on a line, last
  pub record Issues (thread rm : ℕ) (call : Call Xid) (old new : Session L) (result : Result (Unit {0}) Refusal) : Type 0 where
    pub rules : ObeysRules (issue_refusal old thread rm call) old new result
    pub issued : OnOk result ((c : KnownCall) → accepted (map_call name_of call) ≡ Some c → Happens (Issued (line thread rm) c) old new)
    pub memory : issue_refusal old thread rm call ≡ None → IfErr result (λ n. n ≡ Refusals.Memory)
    pub stays : OnErr result (StaysAs old new)
    pub log : log_in new.manager ≡ log_in old.manager
    pub lines : OnOk result (new.lines ≡ with_line old.lines thread rm
        (record (line_at old.lines thread rm) { calls = with_one_more (line_at old.lines thread rm).calls call }))

  -- the call that waits first on a line was answered
  pub record Hears (thread rm : ℕ) (answer : Answer Xid) (old new : Session L) (result : Result (Unit {0}) Unfit) : Type 0 where
    pub refused : (u : Unfit) → unfit old thread rm answer ≡ Some u → (result ≡ Err u) × (new ≡ old)
    pub allowed : OnOk result (unfit old thread rm answer ≡ None)
    -- an answer that no state of a branch explains changes nothing
    pub unexplained : (b : Branch) → result ≡ Err (Unfits.NoSuchState b) → (BranchExplains old thread rm answer b → ⊥) × (new ≡ old)
    pub explained : unfit old thread rm answer ≡ None → ((b : Branch) → result ≢ Err (Unfits.NoSuchState b)) → IsExplainable old thread rm answer
    pub heard : OnOk result ((c : KnownCall) → IsFirst old thread rm c → HearsAs thread rm c (map_answer name_of answer) old new)
    pub lines : OnOk result (new.lines ≡ with_line old.lines thread rm (with_answer_heard (line_at old.lines thread rm) answer))
    -- else it is as no state explains it, or memory is refused or the log fails
    pub only : unfit old thread rm answer ≡ None → IfErr result IsFoundLater
    pub fails : (n : Refusal) → result ≡ Err (Unfits.Refused n) → unfit old thread rm answer ≡ None → (c : KnownCall) → IsFirst old thread rm c
        → FailsToHear thread rm c (map_answer name_of answer) old new n
    pub stays : IfErr result (λ u. u ≢ Unfits.Refused Refusals.LogFault → StaysAs old new)
    pub broken : result ≡ Err (Unfits.Refused Refusals.LogFault) → new.lines ≡ new_grid old.lines.threads old.lines.rms
    pub fault_counted : result ≡ Err (Unfits.Refused Refusals.LogFault) → new.happenings ≡ old.happenings + 1

-- ** lines

-- what waits on the line is lost, and the line is new
pub record LosesLine {L : Type 0} (thread rm : ℕ) (old new : Session L) : Type 0 where
  pub book : book_in new.manager ≡ after (book_in old.manager) (Crashed (Parts.Line thread rm))
  pub follows : FollowsLoss (line thread rm) (known_waiting old.lines thread rm) old new
  pub lines : new.lines ≡ with_line old.lines thread rm no_traffic

module _ {L : Type 0} where
  -- a line is lost
  pub record Loses (thread rm : ℕ) (old new : Session L) (result : Result (Unit {0}) Refusal) : Type 0 where
    pub rules : ObeysRules (line_refusal old thread rm) old new result
    pub memory : line_refusal old thread rm ≡ None → IfErr result (λ n. (n ≡ Refusals.Memory) × StaysAs old new)
    pub lost : OnOk result (LosesLine thread rm old new)
    pub log : log_in new.manager ≡ log_in old.manager

-- ** recoveries

module _ {L : Type 0} where
  -- the calls wait that end what the last page lists
  pub record Resolves (rm : ℕ) (old new : Session L) (result : Result ℕ Refusal) : Type 0 where
    pub rules : ObeysRules (resolve_refusal old rm) old new result
    pub memory : resolve_refusal old rm ≡ None → IfErr result (λ n. (n ≡ Refusals.Memory) × (new ≡ old))
    pub stays : OnErr result (StaysAs old new)
    pub count : IfOk result (λ count. count ≡ length (resolved_in (book_in old.manager) rm))
    pub lines : OnOk result (LetsWait rm (resolved_in (book_in old.manager) rm) old.lines new.lines)
    pub manager : new.manager ≡ old.manager
    pub follows : OnOk result (Follows (Resolved rm) old new)

  -- the same, and what is open of it is rolled back
  pub record ResolvesOpen (rm : ℕ) (old new : Session L) (result : Result ℕ Refusal) : Type 0 where
    pub rules : ObeysRules (resolve_open_refusal old rm) old new result
    pub memory : resolve_open_refusal old rm ≡ None → IfErr result (λ n. n ≡ Refusals.Memory)
    pub stays : OnErr result (StaysAs old new)
    pub count : IfOk result (λ count. count ≡ length (resolved_open_in (book_in old.manager) rm))
    pub lines : OnOk result (LetsWait rm (resolved_open_in (book_in old.manager) rm) old.lines new.lines)
    pub resolved : OnOk result (Happens (ResolvedOpen rm) old new)
    pub log : log_in new.manager ≡ log_in old.manager

-- ** releases

module _ {L : Type 0} where
  -- The transaction was over, and nothing is held of it any more. Nothing happened: wherever the
  -- session stood, it still stands.
  pub record Forgets (g : Gtrid) (old new : Session L) : Type 0 where
    pub over : IsOver (book_in old.manager) g
    pub nothing_held : HoldsNothingOf g new.manager
    pub book : book_in new.manager ≡ book_without g (book_in old.manager)
    pub stands : (tr : Trace) → StandsIn tr old → StandsIn tr new
    pub happenings : new.happenings ≡ old.happenings
    pub log : log_in new.manager ≡ log_in old.manager
    pub lines : new.lines ≡ old.lines
    pub monitor : new.monitor ≡ old.monitor
