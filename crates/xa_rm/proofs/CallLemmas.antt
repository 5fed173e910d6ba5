-- Which branch a call names, and what it asks of it.
use Rattle.std.proofs.Common.{◌≡◌, ℕ, zero, suc, ℤ, ◌==◌, Bool, true, false, if◌then◌else◌, Option, Some, None, IsSome, IfOk, Result, Ok, Err, refl, sym, ◌∙◌, ap, subst}
use Rattle.std.specs.Option.{option_map_or}
use Rattle.xa_base.proofs.XidOrder.{xid_eq-same}
use Rattle.xa_base.specs.Call.{xid_in}
use Rattle.xa_base.specs.HeldBranch.{HeldBranch, new_branch, called, answer_of, held_by, starter_after, retries_after}
use Rattle.xa_base.specs.Standing.{is_in_doubt}
use Rattle.xa_base.specs.StateTable.{Kind, Kind.Start, Kind.Join, Kind.End, Kind.Prepare, Kind.Commit, Kind.OnePhase, Kind.Rollback, Kind.Forget, answer, moved, state_of, start_kind, commit_kind, asks_of}
use Rattle.xa_base.specs.Xid.{Xid, xid_eq}
use Rattle.xa_base.specs.declared.answer.Answer.{Answer}
use Rattle.xa_base.specs.declared.answer.Answer.TheVariants.{Ret}
use Rattle.xa_base.specs.declared.call.Call.{Call}
use Rattle.xa_base.specs.declared.call.Call.TheVariants as Calls
use Rattle.xa_base.specs.declared.code.Code.TheVariants as Codes
use Rattle.xa_base.specs.declared.fault.Memory.{Memory}
use Rattle.xa_base.specs.declared.state.Standing.{Standing}
use Rattle.xa_base.specs.declared.state.Standing.TheVariants.{Unstarted, Active, Idle, Prepared, RollbackOnly, Completed, Committed, RolledBack, Lost, ReadOnly, Forgotten}
use Rattle.xa_base.specs.declared.vote.Vote.{Vote}
use Rattle.xa_base.specs.declared.vote.Vote.TheVariants as Votes
use Rattle.xa_rm.specs.Branches.{branch_or_new}
use Rattle.xa_rm.specs.Look.{Look}
use Rattle.xa_rm.specs.ResourceManager.{Answers, Recovers, answer_to, recover_of, scan_after_call}
use Rattle.xa_rm.specs.declared.table_entry.TableEntry.{TableEntry}

-- what is asked, or else k
kind_in : Kind → Option (Kind × Xid) → Kind
kind_in k None = k
kind_in k (Some asked) = asked.0

-- what a call asks, it asks in one way
pub called_as : (asked : Option (Kind × Xid)) (k : Kind) (y : Xid) → asked ≡ Some (k, y) → (thread : ℕ) (b after : HeldBranch)
    → ((t : ℕ) → after ≡ called t k b) → (kind : Kind) (x : Xid) → asked ≡ Some (kind, x) → after ≡ called thread kind b
unfolding kind_in
called_as asked k y is thread b after held kind x e =
    let same = sym is ∙ e in
    let kinds : k ≡ kind = ap (λ (o : Option (Kind × Xid)). kind_in k o) same in
    subst (λ (i : Kind). after ≡ called thread i b) kinds (held thread)

-- what xa_commit asks, by its flag
pub commit_asks : (call : Call Xid) (xid : Xid) (one_phase : Bool) → call ≡ Calls.Commit xid one_phase → (b : Bool)
    → one_phase ≡ b → asks_of call ≡ Some (commit_kind b, xid)
commit_asks call xid one_phase is b e = ap asks_of (is ∙ ap (Calls.Commit xid) e)

asking : Kind → Xid → Option (Kind × Xid)
asking kind x = Some (kind, x)

asks_as : (kind : Kind) (y x : Xid) → Some y ≡ Some x → asking kind y ≡ asking kind x
unfolding asking
asks_as kind y x e = let same : y ≡ x = cc in ap (asking kind) same

-- a call that names a branch asks something of it
pub asks_named : (call : Call Xid) (x : Xid) → xid_in call ≡ Some x → (kind : Kind) × (asks_of call ≡ Some (kind, x))
unfolding asking
asks_named Calls.OpenRm x e = let no : ⊥ = cc in absurd no
asks_named Calls.CloseRm x e = let no : ⊥ = cc in absurd no
asks_named (Calls.Start xid join) x e = (start_kind join, asks_as (start_kind join) xid x e)
asks_named (Calls.End xid fail) x e = (End fail, asks_as (End fail) xid x e)
asks_named (Calls.Prepare xid) x e = (Prepare, asks_as Prepare xid x e)
asks_named (Calls.Commit xid one_phase) x e = (commit_kind one_phase, asks_as (commit_kind one_phase) xid x e)
asks_named (Calls.Rollback xid) x e = (Rollback, asks_as Rollback xid x e)
asks_named (Calls.Forget xid) x e = (Forget, asks_as Forget xid x e)
asks_named (Calls.Recover count start end) x e = let no : ⊥ = cc in absurd no

-- no call puts a branch in doubt that was never named
pub not_at_once : (thread : ℕ) (kind : Kind) → is_in_doubt (called thread kind new_branch).standing ≡ false
not_at_once thread Start = refl
not_at_once thread _ = refl

-- a branch that a call leaves in doubt is in the table
pub known_in_doubt : (o : Option TableEntry) (thread : ℕ) (kind : Kind) → is_in_doubt (called thread kind (branch_or_new o)).standing ≡ true → IsSome o
known_in_doubt None thread kind e = let never = not_at_once thread kind in let no : ⊥ = cc in absurd no
known_in_doubt (Some h) thread kind e = refl

-- ** a call that finds no branch

not_found : (kind : Kind) (s : Standing) (vote : Vote) (n : ℕ) → answer kind (state_of s) vote n ≡ Codes.NotAnXid → moved s kind Codes.NotAnXid ≡ s
not_found (End true) Active vote n e = let no : ⊥ = cc in absurd no
not_found (End false) Active vote n e = let no : ⊥ = cc in absurd no
not_found Prepare Idle Votes.Yes n e = let no : ⊥ = cc in absurd no
not_found Prepare Idle Votes.ReadOnly n e = let no : ⊥ = cc in absurd no
not_found Prepare Idle (Votes.No code) n e = let no : ⊥ = cc in absurd no
not_found OnePhase Idle Votes.Yes n e = let no : ⊥ = cc in absurd no
not_found OnePhase Idle Votes.ReadOnly n e = let no : ⊥ = cc in absurd no
not_found OnePhase Idle (Votes.No code) n e = let no : ⊥ = cc in absurd no
not_found Rollback Idle vote n e = let no : ⊥ = cc in absurd no
not_found Rollback Prepared vote n e = let no : ⊥ = cc in absurd no
not_found Rollback RollbackOnly vote n e = let no : ⊥ = cc in absurd no
not_found Commit Prepared vote zero e = let no : ⊥ = cc in absurd no
not_found Commit Prepared vote (suc n) e = let no : ⊥ = cc in absurd no
not_found Forget (Completed how) vote n e = let no : ⊥ = cc in absurd no
not_found Start Unstarted vote n e = let no : ⊥ = cc in absurd no
not_found Start Committed vote n e = let no : ⊥ = cc in absurd no
not_found Start RolledBack vote n e = let no : ⊥ = cc in absurd no
not_found Start Lost vote n e = let no : ⊥ = cc in absurd no
not_found Start ReadOnly vote n e = let no : ⊥ = cc in absurd no
not_found Start (Forgotten how) vote n e = let no : ⊥ = cc in absurd no
not_found Join Active vote n e = refl
not_found kind s vote n e = refl

same_starter : (thread : ℕ) (kind : Kind) (starter : ℕ) → starter_after thread kind Codes.NotAnXid starter ≡ starter
same_starter thread Start starter = refl
same_starter thread _ starter = refl

-- a branch is left by a call that is answered XAER_NOTA
pub called_not_found : (thread : ℕ) (kind : Kind) (b : HeldBranch) → answer_of b kind ≡ Codes.NotAnXid → called thread kind b ≡ b
called_not_found thread kind b e =
    let standing : moved b.standing kind (answer_of b kind) ≡ b.standing =
    ap (moved b.standing kind) e ∙ not_found kind b.standing b.vote b.retries e in
    let starter : starter_after thread kind (answer_of b kind) b.starter ≡ b.starter =
    ap (λ code. starter_after thread kind code b.starter) e ∙ same_starter thread kind b.starter in
    let retries : retries_after (answer_of b kind) b.retries ≡ b.retries = ap (λ code. retries_after code b.retries) e in
    ap (λ (s : Standing). let c : HeldBranch = record (called thread kind b) { standing = s } in c) standing
    ∙ ap (λ (t : ℕ). let c : HeldBranch = record (called thread kind b) { standing = b.standing; starter = t } in c) starter
    ∙ ap (λ (n : ℕ). let c : HeldBranch = record b { retries = n } in c) retries

-- ** one branch of all

-- a change of the branch of x, where the new branch is written there
pub changed_there : (held : Xid → HeldBranch) (f : HeldBranch → HeldBranch) (x : Xid) (after : HeldBranch) → after ≡ f (held x)
    → (y : Xid) → (if xid_eq x y then after else held y) ≡ (if xid_eq x y then f (held y) else held y)
changed_there held f x after e y =
    elim (xid_eq x y) as (λ t. xid_eq x y ≡ t → (if t then after else held y) ≡ (if t then f (held y) else held y)) [
      | true ↦ λ same. e ∙ ap (λ (z : Xid). f (held z)) (xid_eq-same x y same)
      | false ↦ λ same. refl
    ] refl

-- a change that leaves the branch of x leaves all
pub unchanged_there : (held : Xid → HeldBranch) (f : HeldBranch → HeldBranch) (x : Xid) → held x ≡ f (held x)
    → (y : Xid) → held y ≡ (if xid_eq x y then f (held y) else held y)
unchanged_there held f x e y =
    elim (xid_eq x y) as (λ t. xid_eq x y ≡ t → held y ≡ (if t then f (held y) else held y)) [
      | true ↦ λ same. subst (λ (z : Xid). held z ≡ f (held z)) (xid_eq-same x y same) e
      | false ↦ λ same. refl
    ] refl

-- ** the flags of xa_recover

-- if none of four calls is chosen, none of four others is
none_chosen : {X : Type 0} (a b c d : Bool) (p q r s t u v w : X)
    → (if a then Some p else if b then Some q else if c then Some r else if d then Some s else None) ≡ None
    → (if a then Some t else if b then Some u else if c then Some v else if d then Some w else None) ≡ None
none_chosen true b c d p q r s t u v w e = let no : ⊥ = cc in absurd no
none_chosen false true c d p q r s t u v w e = let no : ⊥ = cc in absurd no
none_chosen false false true d p q r s t u v w e = let no : ⊥ = cc in absurd no
none_chosen false false false true p q r s t u v w e = let no : ⊥ = cc in absurd no
none_chosen false false false false p q r s t u v w e = refl

-- flags that make no xa_recover of one count make none of another
pub recover_of_none : (m n : ℤ) (flags : ℕ) → recover_of m flags ≡ None → recover_of n flags ≡ None
recover_of_none m n flags e = none_chosen (0 == flags) (0x0080_0000 == flags) (0x0100_0000 == flags) (0x0180_0000 == flags) _ _ _ _ _ _ _ _ e

-- xa_recover asks nothing of a branch
asks_chosen : (n : ℤ) (a b c d : Bool) (call : Call Xid) → (if a then Some (Calls.Recover n false false) else if b then Some (Calls.Recover n false true)
    else if c then Some (Calls.Recover n true false) else if d then Some (Calls.Recover n true true) else None) ≡ Some call → asks_of call ≡ None
asks_chosen n true b c d call e = ap (λ (o : Option (Call Xid)). option_map_or asks_of o None) (sym e)
asks_chosen n false true c d call e = ap (λ (o : Option (Call Xid)). option_map_or asks_of o None) (sym e)
asks_chosen n false false true d call e = ap (λ (o : Option (Call Xid)). option_map_or asks_of o None) (sym e)
asks_chosen n false false false true call e = ap (λ (o : Option (Call Xid)). option_map_or asks_of o None) (sym e)
asks_chosen n false false false false call e = let no : ⊥ = cc in absurd no

recover_asks : (n : ℤ) (flags : ℕ) (call : Call Xid) → recover_of n flags ≡ Some call → asks_of call ≡ None
recover_asks n flags call e = asks_chosen n (0 == flags) (0x0080_0000 == flags) (0x0100_0000 == flags) (0x0180_0000 == flags) call e

-- what was answered to the call that is made of these flags was answered to an xa_recover with them
pub recovered : (thread : ℕ) (count : ℤ) (flags : ℕ) (call : Call Xid) (result : Result (Answer Xid) Memory) (old new : Look)
    → recover_of count flags ≡ Some call → IfOk result (λ given. Answers thread call given old new)
    → IfOk result (λ given. Recovers thread count flags given old new)
recovered thread count flags call (Ok given) old new made did = record {
  answer = did.answer ∙ ap (λ asked. option_map_or (answer_to old thread) asked (Ret Codes.Invalid)) (sym made);
  held = λ x. did.held x ∙ ap (λ asked. held_by thread asked x (old.held x)) (recover_asks count flags call made);
  scans = λ t. did.scans t
      ∙ ap (λ asked. option_map_or (λ call. scan_after_call thread call old.in_doubt t (old.scan t)) asked (old.scan t)) (sym made);
  in_doubt = did.in_doubt;
}
recovered thread count flags call (Err e) old new made did = tt
