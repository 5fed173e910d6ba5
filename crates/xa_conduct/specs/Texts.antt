-- What a driver is told of a transaction, as text: the calls that wait to be made; or if there are none, its outcome.
use Rattle.std.specs.Fmt.{decimal, signed_decimal}
use Rattle.std.specs.List.{find, flat_map, list_any}
use Rattle.std.specs.Prelude.{Bool, false, ℕ, ◌++◌, codes, if◌then◌else◌, List, [], None, Option, Some, true}
use Rattle.xa_base.specs.Branch.{gtrid_text}
use Rattle.xa_base.specs.Code.{how_number, rb_number}
use Rattle.xa_base.specs.declared.branch.Gtrid.{Gtrid}
use Rattle.xa_base.specs.declared.code.How.{How}
use Rattle.xa_base.specs.declared.code.How.TheVariants as hows
use Rattle.xa_base.specs.declared.code.RbCode.{RbCode}
use Rattle.xa_conduct.specs.Over.{has_calls, has_left, is_decided}
use Rattle.xa_conduct.specs.Places.{is_asked, is_left}
use Rattle.xa_conduct.specs.declared.part.Part.{Part}
use Rattle.xa_conduct.specs.declared.place.Place.{Place}
use Rattle.xa_conduct.specs.declared.place.Place.TheVariants.{Preparing, AtOnce, Committing, RollingBack, Undoing, Refusing, Forgetting}
use Rattle.xa_conduct.specs.declared.transaction.Standing.{Standing}
use Rattle.xa_conduct.specs.declared.transaction.Standing.TheVariants.{Committed, RolledBack, Unknown}
use Rattle.xa_conduct.specs.declared.transaction.Transaction.{Transaction}

-- a number, behind a space
abbrev pub spaced_number : ℕ → List ℕ
spaced_number n = codes " " ++ decimal n

-- ** the calls

-- the call that the branch at this place is told to make
abbrev pub verb_at : Place → List ℕ
verb_at Preparing = codes "prepare"
verb_at AtOnce = codes "commit-at-once"
verb_at Committing = codes "commit"
verb_at RollingBack = codes "rollback"
verb_at Undoing = codes "undo"
verb_at Refusing = codes "undo"
verb_at Forgetting = codes "forget"
verb_at place = []

abbrev pub is_told : Part → Bool
is_told part = is_asked part.place

abbrev pub verb_of : Option Part → List ℕ
verb_of None = []
verb_of (Some part) = verb_at part.place

-- that of the first branch whose call waits to be made
abbrev pub first_verb : List Part → List ℕ
first_verb parts = verb_of (find is_told parts)

-- where each of them waits
abbrev pub asked_number : Part → List ℕ
asked_number part = if is_asked part.place then spaced_number part.rm else []

abbrev pub calls_text : List Part → List ℕ
calls_text parts = first_verb parts ++ flat_map asked_number parts

-- ** how it stands

-- how a transaction stands that has no call to make
abbrev pub standing_word : Standing → List ℕ
standing_word Committed = codes "committed"
standing_word (RolledBack why) = codes "rolled-back"
standing_word Unknown = codes "unknown"
standing_word standing = codes "joined"

-- why it was rolled back and where, if a branch is the reason
abbrev pub why_text : Option (RbCode × ℕ) → List ℕ
why_text None = []
why_text (Some (code, rm)) = codes " " ++ signed_decimal (rb_number code) ++ spaced_number rm

abbrev pub standing_with_reason : Standing → List ℕ
standing_with_reason (RolledBack why) = codes "rolled-back" ++ why_text why
standing_with_reason standing = standing_word standing

-- ** branches that are left to the recovery

abbrev pub owed_at : Part → List ℕ
owed_at part = if is_left part.place then spaced_number part.rm else []

abbrev pub owed_branches_text : Transaction → List ℕ
owed_branches_text t = if has_left t then codes " owed" ++ flat_map owed_at t.parts.items else []

-- ** branches that ended otherwise

-- to end by itself so is against the outcome
abbrev pub is_against : Standing → How → Bool
is_against Committed hows.Com = false
is_against (RolledBack why) hows.Rb = false
is_against standing how = true

abbrev pub ended_against : Standing → Option How → Bool
ended_against standing None = false
ended_against standing (Some how) = is_against standing how

abbrev pub is_mixed : Standing → Part → Bool
is_mixed standing part = ended_against standing part.alone

-- where, and how
abbrev pub ended_alone_text : (rm : ℕ) → Option How → List ℕ
ended_alone_text rm None = []
ended_alone_text rm (Some how) = spaced_number rm ++ codes " " ++ signed_decimal (how_number how)

abbrev pub mixed_at : Standing → Part → List ℕ
mixed_at standing part = if is_mixed standing part then ended_alone_text part.rm part.alone else []

abbrev pub mixed_text : Transaction → List ℕ
mixed_text t = if list_any (is_mixed t.standing) t.parts.items then codes " mixed" ++ flat_map (mixed_at t.standing) t.parts.items else []

-- ** the whole

abbrev pub outcome_text : Transaction → List ℕ
outcome_text t = standing_with_reason t.standing ++ owed_branches_text t ++ mixed_text t

-- Each call that waits is told; where none does, how it stands.
unfoldable pub told_text : Transaction → List ℕ
told_text t = if has_calls t then calls_text t.parts.items else if is_decided t.standing then outcome_text t else standing_with_reason t.standing

-- the name of the transaction that begins behind it
abbrev pub next_text : Gtrid → List ℕ
next_text g = codes " next " ++ gtrid_text g

abbrev pub next_name_text : Option Gtrid → List ℕ
next_name_text None = []
next_name_text (Some g) = next_text g

abbrev pub move_reply_text : Transaction → Option Gtrid → List ℕ
move_reply_text t next = told_text t ++ next_name_text next

-- the reply to the move by which a thread's first transaction begins
abbrev pub started_text : Gtrid → List ℕ
started_text g = codes "started" ++ next_text g
