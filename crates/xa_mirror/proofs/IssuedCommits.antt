-- A branch is committed by an xa_commit that was issued of it.
use Rattle.std.proofs.Common.{◌≡◌, ◌∙◌, ◌⊎◌, inl, inr, ℕ, zero, suc, List, [], ◌∷◌, Bool, true, false, ◌||◌, refl, sym, ap, subst}
use Rattle.std.proofs.lemmas.Bool.{or_cases, or_left, or_right, true≢false}
use Rattle.std.specs.Prelude.{if◌then◌else◌, Option, Some, None, slice_get}
use Rattle.xa_base.proofs.BranchKeys.{branch_eq-true, gtrid_eq-refl}
use Rattle.xa_base.proofs.Lists.{get_if, get_none}
use Rattle.xa_base.specs.Branch.{branch_eq, gtrid_eq}
use Rattle.xa_base.specs.StateTable.{after_end, after_prepare, broken, completed, moved, on}
use Rattle.xa_base.specs.declared.answer.Answer.TheVariants.{Page, Ret}
use Rattle.xa_base.specs.declared.call.Call.TheVariants as Calls
use Rattle.xa_base.specs.declared.code.Code.TheVariants as Codes
use Rattle.xa_base.specs.declared.state.Standing.{Standing}
use Rattle.xa_base.specs.declared.state.Standing.TheVariants.{Active, Committed, Completed, Forgotten, Idle, Lost, Prepared, ReadOnly, RollbackOnly, RolledBack, Unstarted}
use Rattle.xa_base.specs.declared.step.Part.TheVariants as Part
use Rattle.xa_mirror.specs.ToldMirrors.{IsCommitIssued, IsListed}
use Rattle.xa_model.proofs.Invariant.{Waits}
use Rattle.xa_model.proofs.Invariant.Lines.{NewWait, NewWait.IsNew, NewWait.Waited, waits_back}
use Rattle.xa_model.proofs.Invariant.Now.{front_waits}
use Rattle.xa_model.proofs.Invariant.WaitingCalls.{resolving_item}
use Rattle.xa_model.proofs.Keys.{line_eq-true}
use Rattle.xa_model.specs.Facts.{breaks, lists_one_of, new_calls, page, page_after, standing, up}
use Rattle.xa_model.specs.Promises.Processes.{resumed}
use Rattle.xa_model.specs.Protocol.{AllRight}
use Rattle.xa_model.specs.Trace.{Answer, Branch, Call, Code, Fault, Gtrid, Happening, Happening.Begun, Happening.Claimed, Happening.CompletedAlone, Happening.Crashed, Happening.Decided, Happening.Done, Happening.Failed, Happening.Heard, Happening.Issued, Happening.Nothing, Happening.PutOff, Happening.Resolved, Happening.ResolvedOpen, Happening.Restarted, Happening.Took, Happening.Voted, How, Kind, Kind.Commit, Kind.End, Kind.Forget, Kind.Join, Kind.OnePhase, Kind.Prepare, Kind.Rollback, Kind.Start, Line, Name, Name.Foreign, Name.Ours, Origin, Trace, Trace.From, Trace.Then, line, line_eq, line_of}
use Rattle.xa_monitor.specs.Across.{continued_by}
use Rattle.xa_monitor.specs.Seen.{Alone, Alone.Ends, Alone.NoMore as AloneNoMore, Alone.PutsOff, Alone.Votes, IsHistory, IsHistory.Does, IsHistory.Hears, IsHistory.Loses, IsHistory.LosesAnswer, IsHistory.Starts, IsManagers, KeepsRules, Seen, Seen.Answered, Seen.Did, Seen.Lost, Seen.Start}
use Rattle.xa_monitor.specs.Sessions.{failed_in}
use Rattle.xa_outcomes.specs.Parts.{GoesOnUntold, GoesOnUntold.Goes, GoesOnUntold.NoMore, IsUntold}

-- ** in a history

-- it issues an xa_commit of a branch of the transaction, or resolves a page that lists one
abbrev pub issues : Gtrid → Trace → Happening → Bool
issues g tr (Issued l (Calls.Commit b one_phase)) = gtrid_eq b.gtrid g
issues g tr (Resolved r) = lists_one_of g (page tr r)
issues g tr (ResolvedOpen r) = lists_one_of g (page tr r)
issues g tr e = false

-- such happened since the start
abbrev pub were_issued : Trace → Gtrid → Bool
were_issued (From o) g = false
were_issued (Then tr e) g = issues g tr e || were_issued tr g

-- in one phase or two
abbrev IsCommitKind : Kind → Type 0
IsCommitKind Commit = Unit
IsCommitKind OnePhase = Unit
IsCommitKind _ = ⊥

listed_one : (names : List Name) (b : Branch) (i : ℕ) → slice_get names i ≡ Some (Ours b) → lists_one_of b.gtrid names ≡ true
listed_one [] b i e = absurd (get_none i (Ours b) e)
listed_one (Ours c ∷ names) b zero e = or_left _ _ (ap (λ (x : Branch). gtrid_eq x.gtrid b.gtrid) (let same : c ≡ b = cc in same) ∙ gtrid_eq-refl b.gtrid)
listed_one (Ours c ∷ names) b (suc i) e = or_right _ _ (listed_one names b i e)
listed_one (Foreign x ∷ names) b zero e = absurd (cc)
listed_one (Foreign x ∷ names) b (suc i) e = listed_one names b i e

either_way : (t : Bool) (calls : List Call) (i : ℕ) (c : Call) → slice_get (if t then calls else []) i ≡ Some c → slice_get calls i ≡ Some c
either_way true calls i c e = e
either_way false calls i c e = absurd (get_none i c e)

new_issued : (tr : Trace) (e : Happening) (l : Line) (i : ℕ) (k : Kind) (b : Branch) → IsCommitKind k → slice_get (new_calls tr e l) i ≡ Some (on k b)
    → issues b.gtrid tr e ≡ true
new_issued tr (Issued m d) l i k b is h = by k is (get_if (line_eq m l) d i (on k b) h).2
  where
    by : (k : Kind) → IsCommitKind k → d ≡ on k b → issues b.gtrid tr (Issued m d) ≡ true
    by Commit is e = ap (λ c. issues b.gtrid tr (Issued m c)) e ∙ gtrid_eq-refl b.gtrid
    by OnePhase is e = ap (λ c. issues b.gtrid tr (Issued m c)) e ∙ gtrid_eq-refl b.gtrid
    by _ is e = absurd is
new_issued tr (Resolved r) l i k b is h =
    let x = resolving_item tr (page tr r) i k b (either_way (line_eq (line 0 r) l) _ i (on k b) h) in listed_one (page tr r) b x.listed.0 x.listed.1
new_issued tr (ResolvedOpen r) l i k b is h =
    let x = resolving_item (Then tr (ResolvedOpen r)) (page tr r) i k b (either_way (line_eq (line 0 r) l) _ i (on k b) h) in
    listed_one (page tr r) b x.listed.0 x.listed.1
new_issued tr _ l i k b is h = absurd (get_none i (on k b) h)

waiting_issued : (tr : Trace) (l : Line) (k : Kind) (b : Branch) → IsCommitKind k → Waits tr l (on k b) → were_issued tr b.gtrid ≡ true
waiting_issued (From o) l k b is w = absurd (get_none w.place (on k b) w.is)
waiting_issued (Then tr e) l k b is w = by (waiting_issued tr l k b is) (waits_back tr e l (on k b) w)
  where
    by : (Waits tr l (on k b) → were_issued tr b.gtrid ≡ true) → NewWait tr e l (on k b) → (issues b.gtrid tr e || were_issued tr b.gtrid) ≡ true
    by rest (Waited unbroken v n) = or_right _ _ (rest v)
    by rest (IsNew i unbroken h) = or_left _ _ (new_issued tr e l i k b is h)

ended_not : (a : Code) → after_end a ≡ Committed → ⊥
ended_not (Codes.RolledBack code) e = cc
ended_not _ e = cc

prepared_not : (a : Code) → after_prepare a ≡ Committed → ⊥
prepared_not Codes.Success e = cc
prepared_not Codes.ReadOnly e = cc
prepared_not _ e = cc

-- no other call commits a branch
moved_commits : (f : Standing) (k : Kind) (a : Code) → moved f k a ≡ Committed → (f ≡ Committed) ⊎ IsCommitKind k
moved_commits Active (End fail) a e = absurd (ended_not a e)
moved_commits Idle Prepare a e = absurd (prepared_not a e)
moved_commits Idle OnePhase a e = inr tt
moved_commits Idle Rollback a e = absurd (cc)
moved_commits Prepared Commit a e = inr tt
moved_commits Prepared Rollback a e = absurd (cc)
moved_commits RollbackOnly Rollback a e = absurd (cc)
moved_commits (Completed how) Forget a e = absurd (cc)
moved_commits Unstarted Start a e = absurd (cc)
moved_commits Committed Start a e = absurd (cc)
moved_commits RolledBack Start a e = absurd (cc)
moved_commits Lost Start a e = absurd (cc)
moved_commits ReadOnly Start a e = absurd (cc)
moved_commits (Forgotten how) Start a e = absurd (cc)
moved_commits f k a e = inl e

broken_committed : (f : Standing) → broken f ≡ Committed → f ≡ Committed
broken_committed Active e = cc
broken_committed Idle e = cc
broken_committed RollbackOnly e = cc
broken_committed f e = e

broken_if : (t : Bool) (f : Standing) → (if t then broken f else f) ≡ Committed → f ≡ Committed
broken_if true f e = broken_committed f e
broken_if false f e = e

completed_if : (t : Bool) (f : Standing) (how : How) → (if t then completed f how else f) ≡ Committed → f ≡ Committed
completed_if true Prepared how e = absurd (cc)
completed_if true f how e = e
completed_if false f how e = e

module _ (tr : Trace) (b : Branch) (before : standing tr b ≡ Committed → were_issued tr b.gtrid ≡ true) where
  took_committed : (l : Line) (k : Kind) (d : Branch) (a : Code) → Waits tr l (on k d) → (t : Bool) → branch_eq d b ≡ t
      → (if t then moved (standing tr b) k a else standing tr b) ≡ Committed → were_issued tr b.gtrid ≡ true
  took_committed l k d a w false p e = before e
  took_committed l k d a w true p e = by (moved_commits (standing tr b) k a e)
    where
      by : (standing tr b ≡ Committed) ⊎ IsCommitKind k → were_issued tr b.gtrid ≡ true
      by (inl was) = before was
      by (inr is) = waiting_issued tr l k b is (subst (λ x. Waits tr l (on k x)) (branch_eq-true d b p) w)

pub committed_issued : (tr : Trace) (b : Branch) → AllRight tr → standing tr b ≡ Committed → were_issued tr b.gtrid ≡ true
committed_issued (From o) b right e = absurd (let no : Unstarted ≡ Committed = sym (right.clear b) ∙ e in cc)
committed_issued (Then tr (Took l (Calls.Start d false) (Ret a))) b right e =
    took_committed tr b (committed_issued tr b right.0) l Start d a (front_waits tr l (on Start d) right.1.0) (branch_eq d b) refl e
committed_issued (Then tr (Took l (Calls.Start d true) (Ret a))) b right e =
    took_committed tr b (committed_issued tr b right.0) l Join d a (front_waits tr l (on Join d) right.1.0) (branch_eq d b) refl e
committed_issued (Then tr (Took l (Calls.End d fail) (Ret a))) b right e =
    took_committed tr b (committed_issued tr b right.0) l (End fail) d a (front_waits tr l (on (End fail) d) right.1.0) (branch_eq d b) refl e
committed_issued (Then tr (Took l (Calls.Prepare d) (Ret a))) b right e =
    took_committed tr b (committed_issued tr b right.0) l Prepare d a (front_waits tr l (on Prepare d) right.1.0) (branch_eq d b) refl e
committed_issued (Then tr (Took l (Calls.Commit d false) (Ret a))) b right e =
    took_committed tr b (committed_issued tr b right.0) l Commit d a (front_waits tr l (on Commit d) right.1.0) (branch_eq d b) refl e
committed_issued (Then tr (Took l (Calls.Commit d true) (Ret a))) b right e =
    took_committed tr b (committed_issued tr b right.0) l OnePhase d a (front_waits tr l (on OnePhase d) right.1.0) (branch_eq d b) refl e
committed_issued (Then tr (Took l (Calls.Rollback d) (Ret a))) b right e =
    took_committed tr b (committed_issued tr b right.0) l Rollback d a (front_waits tr l (on Rollback d) right.1.0) (branch_eq d b) refl e
committed_issued (Then tr (Took l (Calls.Forget d) (Ret a))) b right e =
    took_committed tr b (committed_issued tr b right.0) l Forget d a (front_waits tr l (on Forget d) right.1.0) (branch_eq d b) refl e
committed_issued (Then tr (Took l Calls.OpenRm (Ret a))) b right e = committed_issued tr b right.0 e
committed_issued (Then tr (Took l Calls.CloseRm (Ret a))) b right e = committed_issued tr b right.0 e
committed_issued (Then tr (Took l (Calls.Recover n x y) (Ret a))) b right e = committed_issued tr b right.0 e
committed_issued (Then tr (Took l c (Page names))) b right e = committed_issued tr b right.0 e
committed_issued (Then tr (CompletedAlone d how)) b right e =
    committed_issued tr b right.0 (completed_if (branch_eq d b) (standing tr b) how e)
committed_issued (Then tr e) b right x =
    or_right (issues b.gtrid tr e) (were_issued tr b.gtrid) (committed_issued tr b right.0 (broken_if (breaks tr e (line_of b)) (standing tr b) x))

-- ** in which part it happened

module _ (past : Trace) (o : Origin) where
  up_behind : (tr : Trace) → up (continued_by (resumed past o) tr) ≡ up tr
  up_behind (From x) = refl
  up_behind (Then tr (Failed f)) = refl
  up_behind (Then tr (Restarted i d h)) = refl
  up_behind (Then tr (Crashed Part.Manager)) = refl
  up_behind (Then tr _) = up_behind tr

  break_behind : (tr : Trace) (e : Happening) (l : Line) → breaks (continued_by (resumed past o) tr) e l ≡ breaks tr e l
  break_behind tr (Failed f) l = up_behind tr
  break_behind tr (Crashed (Part.Line t r)) l = refl
  break_behind tr (Crashed (Part.Rm r)) l = refl
  break_behind tr (Crashed Part.Manager) l = refl
  break_behind tr _ l = refl

  page_behind : (tr : Trace) (r : ℕ) → page (continued_by (resumed past o) tr) r ≡ page tr r
  page_behind (From x) r = refl
  page_behind (Then tr e) r = λ i. if break_behind tr e (line 0 r) i then [] else page_after (page_behind tr r i) e r

  issues_behind : (tr : Trace) (e : Happening) (g : Gtrid) → issues g (continued_by (resumed past o) tr) e ≡ issues g tr e
  issues_behind tr (Issued l (Calls.Commit b one)) g = refl
  issues_behind tr (Resolved r) g = ap (lists_one_of g) (page_behind tr r)
  issues_behind tr (ResolvedOpen r) g = ap (lists_one_of g) (page_behind tr r)
  issues_behind tr _ g = refl

  pub issued_behind : (tr : Trace) (g : Gtrid) → were_issued (continued_by (resumed past o) tr) g ≡ true
      → (were_issued past g ≡ true) ⊎ (were_issued tr g ≡ true)
  issued_behind (From x) g e = inl e
  issued_behind (Then tr x) g e = by (issued_behind tr g) (or_cases _ _ e)
    where
      more : (were_issued past g ≡ true) ⊎ (were_issued tr g ≡ true) → (were_issued past g ≡ true) ⊎ ((issues g tr x || were_issued tr g) ≡ true)
      more (inl before) = inl before
      more (inr here) = inr (or_right _ _ here)

      by : (were_issued (continued_by (resumed past o) tr) g ≡ true → (were_issued past g ≡ true) ⊎ (were_issued tr g ≡ true))
          → (issues g (continued_by (resumed past o) tr) x ≡ true) ⊎ (were_issued (continued_by (resumed past o) tr) g ≡ true)
          → (were_issued past g ≡ true) ⊎ ((issues g tr x || were_issued tr g) ≡ true)
      by rest (inl now) = inr (or_left _ _ (sym (issues_behind tr x g) ∙ now))
      by rest (inr before) = more (rest before)

pub failed_issued : (fails : Option Fault) (now : Trace) (g : Gtrid) → were_issued (failed_in fails now) g ≡ true → were_issued now g ≡ true
failed_issued None now g e = e
failed_issued (Some f) now g e = e

untold_none : (tr : Trace) (e : Happening) (g : Gtrid) → IsUntold e → issues g tr e ≡ false
untold_none tr (Took l c a) g u = refl
untold_none tr (CompletedAlone b how) g u = refl
untold_none tr (Voted b v) g u = refl
untold_none tr (PutOff b n) g u = refl
untold_none tr (Crashed part) g u = refl
untold_none tr _ g u = absurd u

pub untold_issued : (told now : Trace) (g : Gtrid) → GoesOnUntold told now → were_issued now g ≡ true → were_issued told g ≡ true
untold_issued told _ g NoMore e = e
untold_issued told _ g (Goes now x u on) e =
    untold_issued told now g on (sym (ap (λ t. t || were_issued now g) (untold_none now x g u)) ∙ e)

-- ** what was seen of it

alone_issued : (tr now : Trace) (g : Gtrid) → Alone tr now → were_issued now g ≡ true → were_issued tr g ≡ true
alone_issued tr _ g AloneNoMore e = e
alone_issued tr _ g (Votes now b v a) e = alone_issued tr now g a e
alone_issued tr _ g (PutsOff now b n a) e = alone_issued tr now g a e
alone_issued tr _ g (Ends now b how a p) e = alone_issued tr now g a e

alone_page : (tr now : Trace) (r : ℕ) → Alone tr now → page now r ≡ page tr r
alone_page tr _ r AloneNoMore = refl
alone_page tr _ r (Votes now b v a) = alone_page tr now r a
alone_page tr _ r (PutsOff now b n a) = alone_page tr now r a
alone_page tr _ r (Ends now b how a p) = alone_page tr now r a

managers_page : (tr : Trace) (e : Happening) (r : ℕ) → IsManagers e → page (Then tr e) r ≡ page tr r
managers_page tr (Begun g) r m = refl
managers_page tr (Issued l c) r m = refl
managers_page tr (Resolved q) r m = refl
managers_page tr (ResolvedOpen q) r m = refl
managers_page tr (Claimed g) r m = refl
managers_page tr (Decided g outcome) r m = refl
managers_page tr (Done g) r m = refl
managers_page tr Nothing r m = refl
managers_page tr _ r m = absurd m

lists_none : (g : Gtrid) → lists_one_of g [] ≡ true → ⊥
lists_none g e = cc

-- what the manager did is its own
abbrev pub OnlyManagers : Seen → Type 0
OnlyManagers Start = Unit
OnlyManagers (Did seen e) = OnlyManagers seen × IsManagers e
OnlyManagers (Answered seen l c a) = OnlyManagers seen
OnlyManagers (Lost seen l c) = OnlyManagers seen

pub only_managers : (o : Origin) (seen : Seen) → KeepsRules o seen → OnlyManagers seen
only_managers o Start keeps = tt
only_managers o (Did seen e) keeps = (only_managers o seen keeps.0, keeps.1)
only_managers o (Answered seen l c a) keeps = only_managers o seen keeps.0
only_managers o (Lost seen l c) keeps = only_managers o seen keeps.0

-- a page that is there was heard
page_seen : (o : Origin) (seen : Seen) (tr : Trace) (g : Gtrid) (r : ℕ) → OnlyManagers seen → IsHistory o seen tr → lists_one_of g (page tr r) ≡ true
    → IsListed g r seen
page_seen o _ _ g r keeps (Starts held) e = absurd (lists_none g e)
page_seen o _ _ g r keeps (Does seen tr x i) e =
    page_seen o seen tr g r keeps.0 i (sym (ap (lists_one_of g) (managers_page tr x r keeps.1)) ∙ e)
page_seen o _ _ g r keeps (Hears seen tr now l c a i alone) e =
    heard c a (λ p. page_seen o seen tr g r keeps i (sym (ap (lists_one_of g) (alone_page tr now r alone)) ∙ p)) e
  where
    this : (t : Bool) → line_eq l (line 0 r) ≡ t → (names : List Name)
        → (lists_one_of g (page now r) ≡ true → IsListed g r seen) → lists_one_of g (if t then names else page now r) ≡ true
        → ((l.rm ≡ r) × (lists_one_of g names ≡ true)) ⊎ IsListed g r seen
    this true p names rest x = inl (ap (λ (m : Line). m.rm) (line_eq-true l (line 0 r) p), x)
    this false p names rest x = inr (rest x)

    heard : (c : Call) (a : Answer) → (lists_one_of g (page now r) ≡ true → IsListed g r seen)
        → lists_one_of g (page_after (page now r) (Heard l c a) r) ≡ true → IsListed g r (Answered seen l c a)
    heard (Calls.Recover n s e) (Page names) rest x = this (line_eq l (line 0 r)) refl names rest x
    heard (Calls.Recover n s e) (Ret code) rest x = rest x
    heard _ (Page names) rest x = inr (rest x)
    heard _ (Ret code) rest x = rest x
page_seen o _ _ g r keeps (Loses seen tr l c i) e = by (line_eq l (line 0 r)) (page_seen o seen tr g r keeps i) e
  where
    by : (t : Bool) → (lists_one_of g (page tr r) ≡ true → IsListed g r seen) → lists_one_of g (if t then [] else page tr r) ≡ true → IsListed g r seen
    by true rest e = absurd (lists_none g e)
    by false rest e = rest e
page_seen o _ _ g r keeps (LosesAnswer seen tr now l c a i alone) e =
    by (line_eq l (line 0 r)) (λ p. page_seen o seen tr g r keeps i (sym (ap (lists_one_of g) (alone_page tr now r alone)) ∙ p)) e
  where
    by : (t : Bool) → (lists_one_of g (page now r) ≡ true → IsListed g r seen) → lists_one_of g (if t then [] else page now r) ≡ true → IsListed g r seen
    by true rest e = absurd (lists_none g e)
    by false rest e = rest e

saw_more : (g : Gtrid) (seen : Seen) (e : Happening) → IsCommitIssued g seen → IsCommitIssued g (Did seen e)
saw_more g seen (Issued l (Calls.Commit b one)) s = inr s
saw_more g seen (Resolved r) s = inr s
saw_more g seen (ResolvedOpen r) s = inr s
saw_more g seen _ s = s

pub issued_seen : (o : Origin) (seen : Seen) (told : Trace) (g : Gtrid) → OnlyManagers seen → IsHistory o seen told → were_issued told g ≡ true
    → IsCommitIssued g seen
issued_seen o _ _ g keeps (Starts held) e = absurd (true≢false (sym e))
issued_seen o _ _ g keeps (Does seen tr x i) e = by (issued_seen o seen tr g keeps.0 i) (or_cases _ _ e)
  where
    now : (x : Happening) → issues g tr x ≡ true → IsCommitIssued g (Did seen x)
    now (Issued l (Calls.Commit b one)) is = inl is
    now (Resolved r) is = inl (page_seen o seen tr g r keeps.0 i is)
    now (ResolvedOpen r) is = inl (page_seen o seen tr g r keeps.0 i is)
    now _ is = absurd (true≢false (sym is))

    by : (were_issued tr g ≡ true → IsCommitIssued g seen) → (issues g tr x ≡ true) ⊎ (were_issued tr g ≡ true) → IsCommitIssued g (Did seen x)
    by rest (inl is) = now x is
    by rest (inr before) = saw_more g seen x (rest before)
issued_seen o _ _ g keeps (Hears seen tr now l c a i alone) e = issued_seen o seen tr g keeps i (alone_issued tr now g alone e)
issued_seen o _ _ g keeps (Loses seen tr l c i) e = issued_seen o seen tr g keeps i e
issued_seen o _ _ g keeps (LosesAnswer seen tr now l c a i alone) e = issued_seen o seen tr g keeps i (alone_issued tr now g alone e)
