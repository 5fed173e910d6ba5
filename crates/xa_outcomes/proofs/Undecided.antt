-- A transaction never decided, nor handed over to its one branch, is never committed.
use Rattle.std.proofs.Common.{◌≡◌, ◌∙◌, ◌⊎◌, inl, inr, Bool, true, false, not, ◌&&◌, ◌||◌, ◌==◌, List, [], ◌∷◌, length, map, Option, Some, None, refl, sym, ap, subst}
use Rattle.std.proofs.lemmas.Bool.{and_parts, or_cases, or_left, or_right, true≢false}
use Rattle.std.specs.Prelude.{if◌then◌else◌}
use Rattle.xa_base.specs.Branch.{gtrid_eq}
use Rattle.xa_base.specs.declared.answer.Answer.TheVariants.{Ret}
use Rattle.xa_base.specs.declared.call.Call.TheVariants as Calls
use Rattle.xa_base.specs.declared.code.Code.TheVariants as Codes
use Rattle.xa_base.specs.declared.state.Standing.{Standing}
use Rattle.xa_base.specs.declared.step.Outcome.TheVariants as Outcome
use Rattle.xa_model.specs.Facts.{adds_row, doubt, fault_change, had_row, handed_over, has_gtrid, next_answer, lists_row, log as rows_of, record_of, record_of_next, row_for, says_yes_in, up, was_told}
use Rattle.xa_model.specs.Promises.Processes.{resumed}
use Rattle.xa_model.specs.Trace.{Answer, Branch, Call, Fault, Fault.InDecide, Fault.InHear, Gtrid, Happening, Happening.CompletedAlone, Happening.Crashed, Happening.Decided, Happening.Failed, Happening.Issued, Happening.PutOff, Happening.Restarted, Happening.Took, Happening.Voted, Origin, Trace, Trace.From, Trace.Then}
use Rattle.xa_monitor.specs.Across.{continued_by}
use Rattle.xa_monitor.specs.Seen.{Alone, Alone.Ends, Alone.NoMore as AloneNoMore, Alone.PutsOff, Alone.Votes, IsHistory, IsHistory.Does, IsHistory.Hears, IsHistory.Loses, IsHistory.LosesAnswer, IsHistory.Starts, IsManagers, KeepsRules, Seen, Seen.Did}
use Rattle.xa_monitor.specs.Sessions.{AfterSessions, AfterSessions.Between, AfterSessions.NoneYet, AfterSessions.OneMore, Log, failed_in, nothing_yet}
use Rattle.xa_outcomes.proofs.OneHistory.{committed_so}
use Rattle.xa_outcomes.proofs.Reached.{IsOneHistory, reached}
use Rattle.xa_outcomes.specs.Outcomes.{IsSeenDecided, IsHandedOver, IsLeftDeciding, IsUndecidedSoFar, NeverDecidedIsNeverCommitted, UndecidedIsUncommitted, WasNeverDecided}
use Rattle.xa_outcomes.specs.Parts.{GoesOnUntold, GoesOnUntold.Goes, GoesOnUntold.NoMore, IsOfSessions, IsUntold}

-- ** what commits a transaction

abbrev commits : Gtrid → Happening → Bool
commits g (Decided h Outcome.Commit) = gtrid_eq h g
commits g (Issued l (Calls.Commit b true)) = gtrid_eq b.gtrid g
commits g (Failed (InDecide gs)) = has_gtrid gs g
commits g e = false

-- the start has its row, or such happened since
abbrev some_commit : Trace → Gtrid → Bool
some_commit (From o) g = lists_row o.rows g
some_commit (Then tr e) g = commits g e || some_commit tr g

-- such happened since the start
abbrev commit_in : Trace → Gtrid → Bool
commit_in (From o) g = false
commit_in (Then tr e) g = commits g e || commit_in tr g

rows_of_each : (tr : Trace) (gs : List Gtrid) (g : Gtrid) → lists_row (map (row_for tr) gs) g ≡ has_gtrid gs g
rows_of_each tr [] g = refl
rows_of_each tr (h ∷ gs) g = ap (λ t. gtrid_eq h g || t) (rows_of_each tr gs g)

record_adds_none : (c : Call) (a : Answer) (g : Gtrid) → adds_row (record_of c a) g ≡ false
record_adds_none (Calls.Commit b one_phase) (Ret (Codes.Heuristic how)) g = refl
record_adds_none (Calls.Rollback b) (Ret (Codes.Heuristic how)) g = refl
record_adds_none _ _ g = refl

next_adds_none : (x : Option (Call × Answer)) (g : Gtrid) → adds_row (record_of_next x) g ≡ false
next_adds_none None g = refl
next_adds_none (Some p) g = record_adds_none p.0 p.1 g

fault_adds : (tr : Trace) (f : Fault) (g : Gtrid) → adds_row (fault_change tr f) g ≡ true → commits g (Failed f) ≡ true
fault_adds tr (InDecide gs) g e = sym (rows_of_each tr gs g) ∙ e
fault_adds tr (InHear l) g e = absurd (true≢false (sym e ∙ next_adds_none (next_answer tr l) g))
fault_adds tr _ g e = absurd (true≢false (sym e))

doubt_step : (tr : Trace) (e : Happening) (g : Gtrid) → (adds_row (doubt tr) g ≡ true → some_commit tr g ≡ true)
    → adds_row (doubt (Then tr e)) g ≡ true → some_commit (Then tr e) g ≡ true
doubt_step tr (Failed f) g d r = by (up tr) r
  where
    by : (t : Bool) → adds_row (if t then fault_change tr f else doubt tr) g ≡ true → (commits g (Failed f) || some_commit tr g) ≡ true
    by true e = or_left _ _ (fault_adds tr f g e)
    by false e = or_right _ _ (d e)
doubt_step tr (Restarted i d n) g k r = absurd (true≢false (sym r))
doubt_step tr e g d r = or_right (commits g e) (some_commit tr g) (d r)

doubt_some : (tr : Trace) (g : Gtrid) → adds_row (doubt tr) g ≡ true → some_commit tr g ≡ true
doubt_some (From o) g r = absurd (true≢false (sym r))
doubt_some (Then tr e) g r = doubt_step tr e g (doubt_some tr g) r

had_step : (tr : Trace) (e : Happening) (g : Gtrid) → (had_row tr g ≡ true → some_commit tr g ≡ true)
    → (adds_row (doubt tr) g ≡ true → some_commit tr g ≡ true) → had_row (Then tr e) g ≡ true → some_commit (Then tr e) g ≡ true
had_step tr (Decided h Outcome.Commit) g k d r = by (or_cases _ _ r)
  where
    by : ((gtrid_eq h g && was_told tr (says_yes_in h)) ≡ true) ⊎ (had_row tr g ≡ true) → (gtrid_eq h g || some_commit tr g) ≡ true
    by (inl both) = or_left _ _ (and_parts (gtrid_eq h g) (was_told tr (says_yes_in h)) both).0
    by (inr had) = or_right _ _ (k had)
had_step tr (Restarted i x n) g k d r = by (or_cases _ _ r)
  where
    by : ((not (x == length (rows_of tr)) && adds_row (doubt tr) g) ≡ true) ⊎ (had_row tr g ≡ true) → some_commit tr g ≡ true
    by (inl both) = d (and_parts (not (x == length (rows_of tr))) (adds_row (doubt tr) g) both).1
    by (inr had) = k had
had_step tr e g k d r = or_right (commits g e) (some_commit tr g) (k r)

had_some : (tr : Trace) (g : Gtrid) → had_row tr g ≡ true → some_commit tr g ≡ true
had_some (From o) g r = r
had_some (Then tr e) g r = had_step tr e g (had_some tr g) (doubt_some tr g) r

handed_step : (tr : Trace) (e : Happening) (g : Gtrid) → (handed_over tr g ≡ true → some_commit tr g ≡ true) → handed_over (Then tr e) g ≡ true
    → some_commit (Then tr e) g ≡ true
handed_step tr (Issued l (Calls.Commit b true)) g k r = by (or_cases _ _ r)
  where
    by : (gtrid_eq b.gtrid g ≡ true) ⊎ (handed_over tr g ≡ true) → (gtrid_eq b.gtrid g || some_commit tr g) ≡ true
    by (inl one) = or_left _ _ one
    by (inr before) = or_right _ _ (k before)
handed_step tr e g k r = or_right (commits g e) (some_commit tr g) (k r)

handed_some : (tr : Trace) (g : Gtrid) → handed_over tr g ≡ true → some_commit tr g ≡ true
handed_some (From o) g r = absurd (true≢false (sym r))
handed_some (Then tr e) g r = handed_step tr e g (handed_some tr g) r

-- ** in which part it happened

continued_some : (p tr : Trace) (g : Gtrid) → some_commit (continued_by p tr) g ≡ true → (some_commit p g ≡ true) ⊎ (commit_in tr g ≡ true)
continued_some p (From o) g r = inl r
continued_some p (Then tr e) g r = by (continued_some p tr g) (or_cases _ _ r)
  where
    more : (some_commit p g ≡ true) ⊎ (commit_in tr g ≡ true) → (some_commit p g ≡ true) ⊎ (commit_in (Then tr e) g ≡ true)
    more (inl before) = inl before
    more (inr here) = inr (or_right _ _ here)

    by : (some_commit (continued_by p tr) g ≡ true → (some_commit p g ≡ true) ⊎ (commit_in tr g ≡ true))
        → (commits g e ≡ true) ⊎ (some_commit (continued_by p tr) g ≡ true) → (some_commit p g ≡ true) ⊎ (commit_in (Then tr e) g ≡ true)
    by rest (inl now) = inr (or_left _ _ now)
    by rest (inr before) = more (rest before)

failed_some : (fails : Option Fault) (now : Trace) (g : Gtrid) → commit_in (failed_in fails now) g ≡ true
    → IsLeftDeciding g fails ⊎ (commit_in now g ≡ true)
failed_some None now g r = inr r
failed_some (Some (InDecide gs)) now g r = or_cases _ _ r
failed_some (Some _) now g r = inr r

untold_none : (e : Happening) (g : Gtrid) → IsUntold e → commits g e ≡ false
untold_none (Took l c a) g u = refl
untold_none (CompletedAlone b how) g u = refl
untold_none (Voted b v) g u = refl
untold_none (PutOff b n) g u = refl
untold_none (Crashed part) g u = refl
untold_none _ g u = absurd u

untold_some : (told now : Trace) (g : Gtrid) → GoesOnUntold told now → commit_in now g ≡ true → commit_in told g ≡ true
untold_some told _ g NoMore r = r
untold_some told _ g (Goes now e u on) r = untold_some told now g on (sym (ap (λ t. t || commit_in now g) (untold_none e g u)) ∙ r)

alone_some : (tr now : Trace) (g : Gtrid) → Alone tr now → commit_in now g ≡ true → commit_in tr g ≡ true
alone_some tr _ g AloneNoMore r = r
alone_some tr _ g (Votes now b v a) r = alone_some tr now g a r
alone_some tr _ g (PutsOff now b n a) r = alone_some tr now g a r
alone_some tr _ g (Ends now b how a p) r = alone_some tr now g a r

-- the session saw it
abbrev SawCommit : Gtrid → Seen → Type 0
SawCommit g seen = IsSeenDecided g seen ⊎ IsHandedOver g seen

saw_more : (g : Gtrid) (seen : Seen) (e : Happening) → SawCommit g seen → SawCommit g (Did seen e)
saw_more g seen (Decided h Outcome.Commit) (inl d) = inl (inr d)
saw_more g seen (Decided h Outcome.Commit) (inr d) = inr d
saw_more g seen (Issued l (Calls.Commit b true)) (inl d) = inl d
saw_more g seen (Issued l (Calls.Commit b true)) (inr d) = inr (inr d)
saw_more g seen _ s = s

saw_now : (g : Gtrid) (seen : Seen) (e : Happening) → IsManagers e → commits g e ≡ true → SawCommit g (Did seen e)
saw_now g seen (Decided h Outcome.Commit) m c = inl (inl c)
saw_now g seen (Issued l (Calls.Commit b true)) m c = inr (inl c)
saw_now g seen (Failed f) m c = absurd m
saw_now g seen _ m c = absurd (cc)

saw : (o : Origin) (seen : Seen) (told : Trace) (g : Gtrid) → KeepsRules o seen → IsHistory o seen told → commit_in told g ≡ true → SawCommit g seen
saw o _ _ g keeps (Starts held) r = absurd (true≢false (sym r))
saw o _ _ g keeps (Does seen tr e i) r = by (saw o seen tr g keeps.0 i) (or_cases _ _ r)
  where
    by : (commit_in tr g ≡ true → SawCommit g seen) → (commits g e ≡ true) ⊎ (commit_in tr g ≡ true) → SawCommit g (Did seen e)
    by rest (inl now) = saw_now g seen e keeps.1 now
    by rest (inr before) = saw_more g seen e (rest before)
saw o _ _ g keeps (Hears seen tr now l c a i alone) r = saw o seen tr g keeps.0 i (alone_some tr now g alone r)
saw o _ _ g keeps (Loses seen tr l c i) r = saw o seen tr g keeps.0 i r
saw o _ _ g keeps (LosesAnswer seen tr now l c a i alone) r = saw o seen tr g keeps.0 i (alone_some tr now g alone r)

-- a row was written, or an xa_commit in one phase issued
abbrev HadOrHanded : Trace → Gtrid → Type 0
HadOrHanded tr g = (had_row tr g ≡ true) ⊎ (handed_over tr g ≡ true)

had_or_handed_some : (tr : Trace) (g : Gtrid) → HadOrHanded tr g → some_commit tr g ≡ true
had_or_handed_some tr g (inl had) = had_some tr g had
had_or_handed_some tr g (inr handed) = handed_some tr g handed

-- not by a step in which the log failed
not_failed : (fails : Option Fault) (p now : Trace) (g : Gtrid) → HadOrHanded (continued_by p (failed_in fails now)) g → HadOrHanded (continued_by p now) g
not_failed None p now g r = r
not_failed (Some f) p now g r = r

never_some : (g : Gtrid) (log : Log) (f : Branch → Standing) (after : AfterSessions log f) (whole : Trace) → IsOfSessions log f after whole
    → WasNeverDecided g log f after → some_commit whole g ≡ true → ⊥
never_some g _ _ (NoneYet i) whole is never r = true≢false (sym r ∙ ap (λ t. some_commit t g) is)
never_some g _ _ (OneMore log from to o seen fails done cut before found session may) whole (past, parts, part) never r =
    by (never_some g log from before past parts never.3)
    (continued_some (resumed past o) (failed_in fails part.now) g (sym (ap (λ t. some_commit t g) part.joined) ∙ r))
  where
    was_seen : SawCommit g seen → ⊥
    was_seen (inl decided) = never.0 decided
    was_seen (inr handed) = never.1 handed

    here : IsLeftDeciding g fails ⊎ (commit_in part.now g ≡ true) → ⊥
    here (inl deciding) = never.2 deciding
    here (inr some) = was_seen (saw o seen part.told g session.keeps part.is_history (untold_some part.told part.now g part.untold some))

    by : (some_commit past g ≡ true → ⊥) → (some_commit past g ≡ true) ⊎ (commit_in (failed_in fails part.now) g ≡ true) → ⊥
    by none (inl before_it) = none before_it
    by none (inr in_it) = here (failed_some fails part.now g in_it)
never_some g _ _ (Between log from to d how before was final) whole (past, parts, is) never r =
    never_some g log from before past parts never (sym (ap (λ t. some_commit t g) is) ∙ r)

pub never_committed : NeverDecidedIsNeverCommitted
never_committed log f after b never e = by (committed_so log f after m b e)
  where
    m : IsOneHistory log f after
    m = reached log f after

    no : some_commit m.whole b.gtrid ≡ true → ⊥
    no = never_some b.gtrid log f after m.whole m.parts never

    by : (had_row m.whole b.gtrid ≡ true) ⊎ (handed_over m.whole b.gtrid ≡ true) → ⊥
    by (inl had) = no (had_some m.whole b.gtrid had)
    by (inr handed) = no (handed_some m.whole b.gtrid handed)

so_far_some : (g : Gtrid) (log : Log) (f : Branch → Standing) (after : AfterSessions log f) (whole : Trace) → IsOfSessions log f after whole
    → IsUndecidedSoFar g log f after → (had_row whole g ≡ true) ⊎ (handed_over whole g ≡ true) → ⊥
so_far_some g _ _ (NoneYet i) whole is so_far r = by (had_or_handed_some (nothing_yet i) g (subst (λ t. HadOrHanded t g) is r))
  where
    by : some_commit (nothing_yet i) g ≡ true → ⊥
    by e = true≢false (sym e)
so_far_some g _ _ (OneMore log from to o seen fails done cut before found session may) whole (past, parts, part) so_far r =
    by (continued_some (resumed past o) part.now g
    (had_or_handed_some (continued_by (resumed past o) part.now) g
    (not_failed fails (resumed past o) part.now g (subst (λ t. HadOrHanded t g) part.joined r))))
  where
    was_seen : SawCommit g seen → ⊥
    was_seen (inl decided) = so_far.0 decided
    was_seen (inr handed) = so_far.1 handed

    by : (some_commit past g ≡ true) ⊎ (commit_in part.now g ≡ true) → ⊥
    by (inl before_it) = never_some g log from before past parts so_far.2 before_it
    by (inr in_it) = was_seen (saw o seen part.told g session.keeps part.is_history (untold_some part.told part.now g part.untold in_it))
so_far_some g _ _ (Between log from to d how before was final) whole (past, parts, is) so_far r =
    so_far_some g log from before past parts so_far (subst (λ t. HadOrHanded t g) is r)

pub uncommitted : UndecidedIsUncommitted
uncommitted log f after b so_far e =
    let m = reached log f after in so_far_some b.gtrid log f after m.whole m.parts so_far (committed_so log f after m b e)
