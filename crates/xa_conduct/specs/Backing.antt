-- What was asked for and done of a transaction and its branches, and so, what the notes of it rest on.
use Rattle.std.specs.Prelude.{◌≡◌, ◌==◌, ◌&&◌, ◌||◌, ◌⊎◌, ℕ, Bool, true, false, All, List, Option, Some, None}
use Rattle.std.specs.List.{list_any}
use Rattle.xa_base.specs.Branch.{xid_of_branch}
use Rattle.xa_base.specs.Xid.{Xid, xid_eq}
use Rattle.xa_base.specs.declared.answer.Answer.TheVariants.{Ret}
use Rattle.xa_base.specs.declared.branch.Branch.{Branch}
use Rattle.xa_base.specs.declared.branch.Gtrid.{Gtrid}
use Rattle.xa_base.specs.declared.call.Call.TheVariants as calls
use Rattle.xa_base.specs.declared.call.CallKind.{CallKind}
use Rattle.xa_base.specs.declared.call.CallKind.TheVariants as kinds
use Rattle.xa_base.specs.declared.code.Code.{Code}
use Rattle.xa_base.specs.declared.code.Code.TheVariants as codes
use Rattle.xa_requests.specs.declared.request.Request.{Request}
use Rattle.xa_requests.specs.declared.request.Request.TheVariants as requests
use Rattle.xa_conduct.specs.Decided.{is_commit_of, is_rollback_of}
use Rattle.xa_conduct.specs.Meaning.{kind_at}
use Rattle.xa_conduct.specs.declared.meaning.Heard.{Heard}
use Rattle.xa_conduct.specs.declared.meaning.Heard.TheVariants as heards
use Rattle.xa_conduct.specs.declared.part.Part.{Part}
use Rattle.xa_conduct.specs.declared.place.Place.{Place}
use Rattle.xa_conduct.specs.declared.place.Place.TheVariants.{Working, Preparing, AtOnce, Prepared, Committing, RollingBack, Undoing, Refusing, Forgetting, Over, Owed}
use Rattle.xa_conduct.specs.declared.transaction.Standing.{Standing}
use Rattle.xa_conduct.specs.declared.transaction.Standing.TheVariants as standings
use Rattle.xa_conduct.specs.declared.transaction.Transaction.{Transaction}

-- ** what a request says of a branch

-- this identifier is the branch's, and this line is its line
abbrev pub is_on : Branch → (thread rm : ℕ) → Xid → Bool
is_on b t r x = (t == b.thread) && ((r == b.rm) && xid_eq x (xid_of_branch b))

-- it lets this call on the branch wait
abbrev pub asks_prepare : Branch → Request → Bool
asks_prepare b (requests.Issue t r (calls.Prepare x)) = is_on b t r x
asks_prepare b _ = false

abbrev pub asks_at_once : Branch → Request → Bool
asks_at_once b (requests.Issue t r (calls.Commit x true)) = is_on b t r x
asks_at_once b _ = false

abbrev pub asks_commit : Branch → Request → Bool
asks_commit b (requests.Issue t r (calls.Commit x false)) = is_on b t r x
asks_commit b _ = false

abbrev pub asks_rollback : Branch → Request → Bool
asks_rollback b (requests.Issue t r (calls.Rollback x)) = is_on b t r x
asks_rollback b _ = false

abbrev pub asks_forget : Branch → Request → Bool
asks_forget b (requests.Issue t r (calls.Forget x)) = is_on b t r x
asks_forget b _ = false

abbrev pub is_named_on : Branch → (thread rm : ℕ) → Option Xid → Bool
is_named_on b t r None = false
is_named_on b t r (Some x) = is_on b t r x

-- it tells the answer to a call on the branch, and the call and its code are so
abbrev pub tells_code : (CallKind → Code → Bool) → Branch → Request → Bool
tells_code are_so b (requests.Answer t r name (Ret code)) = are_so name.kind code && is_named_on b t r name.xid
tells_code are_so b _ = false

-- it tells that the branch's line is lost
abbrev pub loses : Branch → Request → Bool
loses b (requests.CrashLine t r) = (t == b.thread) && (r == b.rm)
loses b _ = false

-- ** answers

-- the branch voted yes
abbrev pub is_yes_vote : CallKind → Code → Bool
is_yes_vote kinds.Prepare codes.Success = true
is_yes_vote _ _ = false

-- it is committed; it was rolled back in place of that
abbrev pub says_committed : CallKind → Code → Bool
says_committed kinds.Commit codes.Success = true
says_committed _ _ = false

abbrev pub says_rolled_back : CallKind → Code → Bool
says_rolled_back kinds.Commit (codes.RolledBack why) = true
says_rolled_back _ _ = false

-- it can't be ended yet
abbrev pub is_later : CallKind → Code → Bool
is_later _ codes.Retry = true
is_later _ _ = false

-- nothing is left of it
abbrev pub is_end : CallKind → Code → Bool
is_end kinds.Prepare codes.ReadOnly = true
is_end kinds.Prepare (codes.RolledBack why) = true
is_end kinds.Commit codes.Success = true
is_end kinds.Commit (codes.RolledBack why) = true
is_end kinds.Rollback codes.Success = true
is_end kinds.Forget codes.Success = true
is_end _ _ = false

-- ** what notes rest on

-- a request that passes the test was asked for, before or in a plan
abbrev pub was_asked : (past plan : List Request) → (Request → Bool) → Bool
was_asked past plan p = list_any p past || list_any p plan

-- The calls that a branch at this place is told wait on its line, as they were asked for. An xa_commit of two phases is told only
-- behind the decision to commit, and an xa_rollback behind that to roll back. A branch is over only if an answer to it said so, or if its end is left to the recovery: then its
-- line is lost, or its resource manager has said that it can't be ended yet.
abbrev pub is_backed : ((Request → Bool) → Bool) → Branch → Place → Bool
is_backed asked b Working = true
is_backed asked b Preparing = asked (asks_prepare b)
is_backed asked b AtOnce = asked (asks_at_once b)
is_backed asked b Prepared = asked (tells_code is_yes_vote b)
is_backed asked b Committing = asked (is_commit_of b.gtrid) && asked (asks_commit b)
is_backed asked b RollingBack = asked (is_rollback_of b.gtrid) && asked (asks_rollback b)
is_backed asked b Undoing = asked (is_rollback_of b.gtrid) && asked (asks_rollback b)
is_backed asked b Refusing = asked (is_rollback_of b.gtrid) && asked (asks_prepare b)
is_backed asked b Forgetting = asked (asks_forget b)
is_backed asked b Over = asked (tells_code is_end b)
is_backed asked b Owed = asked (loses b) || asked (tells_code is_later b)

-- as places go on
abbrev pub KeepsBacked : (old new : List Request) → Branch → Place → Place → Type 0
KeepsBacked old new b from to =
    (past : List Request) → is_backed (was_asked past old) b from ≡ true → is_backed (was_asked past new) b to ≡ true

-- The call that the branch at this place was told was answered by this code, which is asked for; or its line is lost, which is.
abbrev pub IsToldSo : ((Request → Bool) → Bool) → Branch → Place → Option Code → Type 0
IsToldSo asked b place None = asked (loses b) ≡ true
IsToldSo asked b place (Some code) =
    (are_so : CallKind → Code → Bool) → are_so (kind_at place) code ≡ true → asked (tells_code are_so b) ≡ true

abbrev pub branch_at_rm : Gtrid → (thread rm : ℕ) → Branch
branch_at_rm g t r = record { gtrid = g; thread = t; rm = r }

-- the one branch was to be committed in one phase, and this was asked for then
pub record WasAtOnce (asked : (Request → Bool) → Bool) (g : Gtrid) (thread : ℕ) (then : Branch → Request → Bool) : Type 0 where
  pub rm : ℕ
  pub issued : asked (asks_at_once (branch_at_rm g thread rm)) ≡ true
  pub heard : asked (then (branch_at_rm g thread rm)) ≡ true

-- An outcome rests on the decision, or on how the xa_commit in one phase was answered. Unknown is only one of which that call has no
-- answer, and its line was lost.
abbrev pub OutcomeRests : ((Request → Bool) → Bool) → Gtrid → (thread : ℕ) → Standing → Type 0
OutcomeRests asked g t standings.Committed = (asked (is_commit_of g) ≡ true) ⊎ WasAtOnce asked g t (tells_code says_committed)
OutcomeRests asked g t (standings.RolledBack why) = (asked (is_rollback_of g) ≡ true) ⊎ WasAtOnce asked g t (tells_code says_rolled_back)
OutcomeRests asked g t standings.Unknown = WasAtOnce asked g t loses
OutcomeRests asked g t _ = Unit {0}

-- how a transaction that stood so stands once a branch was heard
abbrev pub standing_once_heard : Standing → Heard → (rm : ℕ) → Standing
standing_once_heard standing heards.Committed rm = standings.Committed
standing_once_heard standing (heards.RolledBack why) rm = standings.RolledBack (Some (why, rm))
standing_once_heard standing heards.LostAtOnce rm = standings.Unknown
standing_once_heard standing _ rm = standing

abbrev pub IsBacked : ((Request → Bool) → Bool) → Gtrid → (thread : ℕ) → Part → Type 0
IsBacked asked g t part = is_backed asked (branch_at_rm g t part.rm) part.place ≡ true

abbrev pub AreBacked : ((Request → Bool) → Bool) → Gtrid → (thread : ℕ) → List Part → Type 0
AreBacked asked g t parts = All (IsBacked asked g t) parts

-- as the branches of a transaction go on
abbrev pub KeepAllBacked : (old new : List Request) → Gtrid → (thread : ℕ) → List Part → List Part → Type 0
KeepAllBacked old new g t parts now = (past : List Request) → AreBacked (was_asked past old) g t parts → AreBacked (was_asked past new) g t now

-- how a transaction of this name stands, and its branches, rests on what was asked for
pub record RestOn (asked : (Request → Bool) → Bool) (g : Gtrid) (thread : ℕ) (standing : Standing) (branches : List Part) : Type 0 where
  pub outcome : OutcomeRests asked g thread standing
  pub parts : AreBacked asked g thread branches

-- what is noted of a transaction does
abbrev pub TransactionRests : ((Request → Bool) → Bool) → Transaction → Type 0
TransactionRests asked t = RestOn asked t.gtrid t.thread t.standing t.parts.items

-- as transactions go on, one or all
abbrev pub KeepsResting : (old new : List Request) → Transaction → Transaction → Type 0
KeepsResting old new t u = (past : List Request) → TransactionRests (was_asked past old) t → TransactionRests (was_asked past new) u

abbrev pub KeepResting : (old new : List Request) → List Transaction → List Transaction → Type 0
KeepResting old new ts us = (past : List Request) → All (TransactionRests (was_asked past old)) ts → All (TransactionRests (was_asked past new)) us

-- what rested on some requests still does
abbrev pub KeepsRest : (ts us : List Transaction) → Type 0
KeepsRest ts us = (asked : (Request → Bool) → Bool) → All (TransactionRests asked) ts → All (TransactionRests asked) us
