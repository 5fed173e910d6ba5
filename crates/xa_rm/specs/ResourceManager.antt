-- What calls, scripts and scans do at a resource manager: to the branch of each identifier, and to
-- the scan of each thread.
use Rattle.std.specs.Prelude.{◌≡◌, ◌≢◌, ◌==◌, ◌-◌, ◌^◌, ◌&&◌, ℕ, ℤ, Bool, true, false, not, nat_eq, nat_le, nat_lt, if◌then◌else◌, List, Option, Some, None}
use Rattle.std.specs.Option.{option_map_or}
use Rattle.xa_base.specs.Branch.{branch_of_xid, xid_of_branch}
use Rattle.xa_base.specs.Call.{call_with}
use Rattle.xa_base.specs.declared.branch.Branch.{Branch}
use Rattle.xa_base.specs.HeldBranch.{HeldBranch, broken_by, code_for, crashed, held_after}
use Rattle.xa_base.specs.Recover.{IsInDoubtList, xid_page, page_answer}
use Rattle.xa_base.specs.Scan.{Scan, Scan.NotOpen, scan_after}
use Rattle.xa_base.specs.Standing.{fate_of}
use Rattle.xa_base.specs.Xid.{Xid, xid_eq}
use Rattle.xa_base.specs.declared.answer.Answer.{Answer}
use Rattle.xa_base.specs.declared.answer.Answer.TheVariants.{Page, Ret}
use Rattle.xa_base.specs.declared.call.Call.{Call}
use Rattle.xa_base.specs.declared.call.Call.TheVariants.{OpenRm, CloseRm, Recover}
use Rattle.xa_base.specs.declared.call.CallKind.TheVariants as Kind
use Rattle.xa_base.specs.declared.code.Code.TheVariants.{Invalid}
use Rattle.xa_base.specs.declared.state.Fate.TheVariants as Fates
use Rattle.xa_base.specs.declared.vote.Vote.{Vote}
use Rattle.xa_rm.specs.Look.{Look}

-- ** calls

-- the answer to a thread's call
abbrev pub answer_to : Look → (thread : ℕ) → Call Xid → Answer Xid
answer_to look thread (Recover count start end) = page_answer (xid_page (look.scan thread) count start look.in_doubt)
answer_to look thread call = Ret (code_for look.held call)

-- the caller's scan after its call: only xa_recover moves it
abbrev pub scan_after_own : Call Xid → (in_doubt : List Xid) → Scan Xid → Scan Xid
scan_after_own (Recover count start end) in_doubt scan = scan_after scan start end (xid_page scan count start in_doubt)
scan_after_own call in_doubt scan = scan

-- the scan of thread t after a call of `thread`: as before, if that is another
abbrev pub scan_after_call : (thread : ℕ) → Call Xid → (in_doubt : List Xid) → (t : ℕ) → Scan Xid → Scan Xid
scan_after_call thread call in_doubt t scan = if t == thread then scan_after_own call in_doubt scan else scan

-- whether a call opens or closes the line on which it comes, and so names no branch
abbrev pub is_of_line : Call Xid → Bool
is_of_line OpenRm = true
is_of_line CloseRm = true
is_of_line _ = false

-- the xa_recover with these flags; none, if they are other than TMSTARTRSCAN, TMENDRSCAN and both
-- together
abbrev pub recover_of : (count : ℤ) → (flags : ℕ) → Option (Call Xid)
recover_of count flags = call_with Kind.Recover None flags (Some count)

-- the answer to a thread's xa_recover with these flags, and XAER_INVAL if there is none
abbrev pub answer_to_recover : Look → (thread : ℕ) → (count : ℤ) → (flags : ℕ) → Answer Xid
answer_to_recover look thread count flags = option_map_or (answer_to look thread) (recover_of count flags) (Ret Invalid)

-- the scan of thread t after an xa_recover of `thread` with these flags: as before, if there is
-- none
abbrev pub scan_after_recover : (thread : ℕ) → (count : ℤ) → (flags : ℕ) → (in_doubt : List Xid) → (t : ℕ) → Scan Xid → Scan Xid
scan_after_recover thread count flags in_doubt t scan =
    option_map_or (λ call. scan_after_call thread call in_doubt t scan) (recover_of count flags) scan

-- nothing has changed
pub record Keeps (old new : Look) : Type 0 where
  pub held : (x : Xid) → new.held x ≡ old.held x
  pub scans : (t : ℕ) → new.scan t ≡ old.scan t

-- a page that is answered is one of what is in doubt
abbrev pub ListsDoubt : Look → Answer Xid → Type 0
ListsDoubt look answer = (page : List Xid) → answer ≡ Page page → IsInDoubtList look.held look.in_doubt

-- a thread's call was answered: it changes the branch that it names and the thread's scan
pub record Answers (thread : ℕ) (call : Call Xid) (given : Answer Xid) (old new : Look) : Type 0 where
  pub answer : given ≡ answer_to old thread call
  pub held : (x : Xid) → new.held x ≡ held_after thread call x (old.held x)
  pub scans : (t : ℕ) → new.scan t ≡ scan_after_call thread call old.in_doubt t (old.scan t)
  pub in_doubt : ListsDoubt old given

-- a thread's xa_recover with these flags was answered: it changes the thread's scan alone
pub record Recovers (thread : ℕ) (count : ℤ) (flags : ℕ) (given : Answer Xid) (old new : Look) : Type 0 where
  pub answer : given ≡ answer_to_recover old thread count flags
  pub held : (x : Xid) → new.held x ≡ old.held x
  pub scans : (t : ℕ) → new.scan t ≡ scan_after_recover thread count flags old.in_doubt t (old.scan t)
  pub in_doubt : ListsDoubt old given

-- ** broken lines

-- a line of the thread broke
pub record Breaks (thread : ℕ) (old new : Look) : Type 0 where
  pub held : (x : Xid) → new.held x ≡ broken_by thread (old.held x)
  pub scans : (t : ℕ) → new.scan t ≡ (if t == thread then NotOpen else old.scan t)

-- the lines of all threads broke
pub record Crashes (old new : Look) : Type 0 where
  pub held : (x : Xid) → new.held x ≡ crashed (old.held x)
  pub scans : (t : ℕ) → new.scan t ≡ NotOpen

-- ** scripts

-- the branch of x after the named branch changed so: as before, if that is another
abbrev pub changed_at : (named : Xid) → (HeldBranch → HeldBranch) → (x : Xid) → HeldBranch → HeldBranch
changed_at named change x b = if xid_eq named x then change b else b

-- only the named branch has changed, and it so
pub record Sets (named : Xid) (change : HeldBranch → HeldBranch) (old new : Look) : Type 0 where
  pub held : (x : Xid) → new.held x ≡ changed_at named change x (old.held x)
  pub scans : (t : ℕ) → new.scan t ≡ old.scan t

-- the branch after its vote was set
abbrev pub voting : Vote → HeldBranch → HeldBranch
voting vote b = record b { vote = vote }

-- the branch after it was set how many commits are still put off
abbrev pub retrying : (times : ℕ) → HeldBranch → HeldBranch
retrying times b = record b { retries = times }

-- ** formats

-- some branch of this format was ever started
pub record HoldsFormat (held : Xid → HeldBranch) (z : ℤ) : Type 0 where
  pub xid : Xid
  pub format : xid.format ≡ z
  pub started : fate_of (held xid).standing ≢ Fates.Unstarted

-- no branch of this format ever was
pub record HoldsNoFormat (held : Xid → HeldBranch) (z : ℤ) : Type 0 where
  pub unstarted : (x : Xid) → x.format ≡ z → fate_of (held x).standing ≡ Fates.Unstarted

-- ** what earlier processes left

-- the branch is of this resource manager and of an earlier incarnation than this one, and a row of
-- a log can hold its numbers
abbrev pub is_past : (rm incarnation : ℕ) → Branch → Bool
is_past r i b = nat_eq b.rm r && (nat_lt b.gtrid.incarnation i && nat_le b.gtrid.sequence (2 ^ 63 - 1))

-- the identifier is this branch's, and the branch is so
abbrev pub is_past_as : (rm incarnation : ℕ) → Xid → Branch → Bool
is_past_as r i x b = (nat_lt b.thread (2 ^ 32) && xid_eq x (xid_of_branch b)) && is_past r i b

-- whether an identifier has the shape of this manager's, and isn't that of such a branch
abbrev pub names_newer : (rm incarnation : ℕ) → Xid → Bool
names_newer r i x = option_map_or (λ b. not (is_past_as r i x b)) (branch_of_xid x) false

-- some such branch was ever started
pub record HoldsNewer (held : Xid → HeldBranch) (r i : ℕ) : Type 0 where
  pub xid : Xid
  pub newer : names_newer r i xid ≡ true
  pub started : fate_of (held xid).standing ≢ Fates.Unstarted

-- none ever was
pub record HoldsPast (held : Xid → HeldBranch) (r i : ℕ) : Type 0 where
  pub unstarted : (x : Xid) → names_newer r i x ≡ true → fate_of (held x).standing ≡ Fates.Unstarted
