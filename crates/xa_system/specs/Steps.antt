-- What each step does to a resource manager and to a line, whatever the history.
use Rattle.std.specs.Prelude.{◌≡◌, ℕ, List, [], length, Some, slice_get}
use Rattle.xa_system.specs.declared.site.Site.{Site}
use Rattle.xa_model.specs.Replies.ReadBack.{CallHasXid}
use Rattle.xa_base.specs.Recover.{IsInDoubtList}
use Rattle.xa_base.specs.Xid.{Xid}
use Rattle.xa_base.specs.declared.answer.Answer.{Answer}
use Rattle.xa_base.specs.declared.answer.Answer.TheVariants as Answers
use Rattle.xa_base.specs.declared.call.Call.{Call}
use Rattle.xa_base.specs.declared.refusal.Refusal.TheVariants as Refusals
use Rattle.xa_base.specs.declared.reply.Reply.{Reply}
use Rattle.xa_base.specs.declared.reply.Reply.TheVariants as Replies
use Rattle.xa_line.specs.Traffic.{PassesOn, Traffic, with_one_more}
use Rattle.xa_rm.specs.ResourceManager as rms
use Rattle.xa_rm.specs.ResourceManager.{Keeps}
use Rattle.xa_rm.specs.Look.{Look}

-- how many identifiers an answer lists
abbrev pub page_len : Answer Xid → ℕ
page_len (Answers.Ret code) = 0
page_len (Answers.Page xids) = length xids

module _ {R : Type 0} (look : R → Look) where
  -- the resource manager holds what it held
  abbrev pub IsSame : R → R → Type 0
  IsSame old new = Keeps (look old) (look new)

  -- it answered a thread's call, and all that was in doubt is listed
  pub record Applies (thread : ℕ) (call : Call Xid) (answer : Answer Xid) (old new : R) : Type 0 where
    pub answers : rms.Answers thread call answer (look old) (look new)
    pub listed : IsInDoubtList (look old).held (look old).in_doubt

  -- a call was taken from the line and answered
  pub record TakesOne (thread : ℕ) (call : Call Xid) (answer : Answer Xid)
      (old new : R) (before after : Traffic) : Type 0 where
    pub taken : PassesOn before.calls call after.calls
    pub answered : after.answers ≡ with_one_more before.answers (call, answer)
    pub has_xid : CallHasXid call
    pub applied : Applies thread call answer old new

  -- what Take does, by its reply
  abbrev pub Takes : (thread : ℕ) → (old new : R) → (before after : Traffic) → Reply Xid → Type 0
  Takes thread old new before after (Replies.Took call answer) = TakesOne thread call answer old new before after
  Takes thread old new before after Replies.Nothing = (before.calls.waiting ≡ []) × (after ≡ before) × IsSame old new
  Takes thread old new before after (Replies.Refused n) = (n ≡ Refusals.Memory) × (after ≡ before) × IsSame old new
  Takes thread old new before after reply = ⊥

  -- it crashed, or all its lines broke
  abbrev pub Crashes : R → R → Type 0
  Crashes old new = rms.Crashes (look old) (look new)

  -- a line of a thread broke
  abbrev pub Breaks : (thread : ℕ) → R → R → Type 0
  Breaks thread old new = rms.Breaks thread (look old) (look new)

  -- the lines of all of them broke, and each that was up is up
  pub record AllCrash (old new : List (Site R)) : Type 0 where
    pub count : length new ≡ length old
    pub each : (r : ℕ) (before : Site R) → slice_get old r ≡ Some before
        → (after : Site R) × (slice_get new r ≡ Some after) × (after.is_up ≡ before.is_up) × Crashes before.rm after.rm

  -- each resource manager of a list crashed
  pub record AreCrashed (old new : List R) : Type 0 where
    pub count : length new ≡ length old
    pub each : (r : ℕ) (before : R) → slice_get old r ≡ Some before → (after : R) × (slice_get new r ≡ Some after) × Crashes before after

-- an answer was heard
pub record HearsOne (pair : Call Xid × Answer Xid) (before after : Traffic) (reply : Reply Xid) : Type 0 where
  pub reply_is : reply ≡ Replies.Heard pair.0 pair.1
  pub heard : PassesOn before.answers pair after.answers
  pub calls : after.calls ≡ before.calls
