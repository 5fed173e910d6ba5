-- The number of branches that are not settled is that of a count over the branches, of each
-- transaction that is begun.
use Rattle.std.proofs.Common.{◌≡◌, inl, inr, ◌+◌, ◌-◌, List, [], ◌∷◌, Bool, true, false, not, ◌&&◌, ◌||◌, Option, Some, None, is_some, refl, sym, ap, ◌∙◌, subst, arith}
use Rattle.std.specs.Prelude.{if◌then◌else◌}
use Rattle.std.proofs.lemmas.Bool.{or_right}
use Rattle.std.proofs.Math.Bool.{or-false}
use Rattle.xa_base.specs.declared.call.Call.TheVariants as Calls
use Rattle.xa_base.specs.declared.answer.Answer.TheVariants.{Ret}
use Rattle.xa_base.specs.Branch.{gtrid_eq, branch_eq}
use Rattle.xa_base.specs.declared.branch.Branch.{Branch}
use Rattle.xa_base.specs.declared.branch.Gtrid.{Gtrid}
use Rattle.xa_base.specs.declared.code.Code.TheVariants as Codes
use Rattle.xa_base.specs.declared.code.How.{How}
use Rattle.xa_base.specs.declared.step.Part.TheVariants as Part
use Rattle.xa_model.specs.Facts.{begun, branches, has_branch, heuristic_rows, incarnation, sequence, record_of, recorded_as, says_read_only, acknowledges, is_settled, started, was_told, Change, Change.AddRows, Change.DropRows, Change.AddRecord, Change.NoChange}
use Rattle.xa_model.specs.Protocol.{IsRun}
use Rattle.xa_model.specs.Trace.{Line, Call, Answer, Happening.Begun, Happening.Issued, Happening.Heard, Happening.Crashed, Happening.Failed, Happening.Restarted, Trace, Trace.From, Trace.Then}
use Rattle.xa_model.proofs.Invariant.{Old}
use Rattle.xa_base.proofs.BranchKeys.{branch_eq-refl, gtrid_eq-true}
use Rattle.xa_model.proofs.Invariant.Preservation.{run_always}
use Rattle.xa_model.proofs.AgreementLemmas.Distinct.{branches_listed}
use Rattle.xa_tm.specs.Book.{doubt_of, recorded_with}
use Rattle.xa_tm.specs.Counts.{settler, recorded_by, is_counted, counts_as_settled, is_unsettled, unsettled}
use Rattle.xa_tm.proofs.History.Counting.{count, but, votes_of, apart, one_out, same_count, not_or, swap_eq}
use Rattle.xa_tm.proofs.History.RecordsAfter.{has_record_is, how_changed}

-- the manager's reading of a settled branch is the history's
pub settled_is : (tr : Trace) (b : Branch) → is_settled tr b ≡ counts_as_settled tr b
settled_is tr b = ap (λ t. t || (was_told tr (says_read_only b) || was_told tr (acknowledges b))) (has_record_is (heuristic_rows tr) b)

-- ** answers

recorded_more : (c : Change) (b : Branch) (o : Option How) → is_some (recorded_with (doubt_of c) b o) ≡ (votes_of (recorded_by c) b || is_some o)
recorded_more (AddRecord x) b None = by (branch_eq x.branch b)
  where
    by : (t : Bool) → is_some (if t then Some x.how else None) ≡ (t || false)
    by true = refl
    by false = refl
recorded_more (AddRecord x) b (Some h) = by (branch_eq x.branch b)
  where
    by : (t : Bool) → true ≡ (t || true)
    by true = refl
    by false = refl
recorded_more (AddRows xs) b o = refl
recorded_more (DropRows gs) b o = refl
recorded_more NoChange b o = refl

says_settled : (b : Branch) (c : Call) (a : Answer)
    → (votes_of (recorded_by (record_of c a)) b || (says_read_only b c a || acknowledges b c a)) ≡ votes_of (settler c a) b
says_settled b (Calls.Prepare v) (Ret Codes.ReadOnly) = or-false (branch_eq v b)
says_settled b (Calls.Commit v false) (Ret Codes.Success) = refl
says_settled b (Calls.Commit v false) (Ret Codes.NotAnXid) = refl
says_settled b c a = or-false _

settled_more : (tr : Trace) (l : Line) (c : Call) (a : Answer) (b : Branch)
    → counts_as_settled (Then tr (Heard l c a)) b ≡ (votes_of (settler c a) b || counts_as_settled tr b)
settled_more tr l c a b =
    ap (λ t. t || ((says_read_only b c a || was_told tr (says_read_only b)) || (acknowledges b c a || was_told tr (acknowledges b))))
    (ap is_some (how_changed (record_of c a) (heuristic_rows tr) b) ∙ recorded_more (record_of c a) b (recorded_as tr b))
    ∙ shuffled (votes_of (recorded_by (record_of c a)) b) (is_some (recorded_as tr b)) (says_read_only b c a) (was_told tr (says_read_only b))
    (acknowledges b c a) (was_told tr (acknowledges b))
    ∙ ap (λ t. t || counts_as_settled tr b) (says_settled b c a)
  where
    shuffled : (v o x p y q : Bool) → ((v || o) || ((x || p) || (y || q))) ≡ ((v || (x || y)) || (o || (p || q)))
    shuffled true o x p y q = refl
    shuffled false true true p y q = refl
    shuffled false true false p true q = refl
    shuffled false true false p false q = refl
    shuffled false false true p y q = refl
    shuffled false false false true true q = refl
    shuffled false false false true false q = refl
    shuffled false false false false y q = refl

-- ** a transaction without branches

count_none : (p : Branch → Bool) (bs : List Branch) → ((b : Branch) → has_branch bs b ≡ true → p b ≡ false) → count p bs ≡ 0
count_none p [] none = refl
count_none p (x ∷ xs) none =
    ap (λ (t : Bool). if t then count p xs + 1 else count p xs) (none x (ap (λ t. t || has_branch xs x) (branch_eq-refl x)))
    ∙ count_none p xs (λ b h. none b (or_right (branch_eq x b) (has_branch xs b) h))

unsettled_none : (tr : Trace) (g : Gtrid) → count (λ b. gtrid_eq b.gtrid g) (branches tr) ≡ 0 → unsettled tr g ≡ 0
unsettled_none (From o) g e = refl
unsettled_none (Then tr (Issued l (Calls.Start b false))) g e = by (gtrid_eq b.gtrid g) (not (counts_as_settled tr b)) e (unsettled_none tr g)
  where
    by : (s n : Bool) → (if s then count (λ b. gtrid_eq b.gtrid g) (branches tr) + 1 else count (λ b. gtrid_eq b.gtrid g) (branches tr)) ≡ 0
        → (count (λ b. gtrid_eq b.gtrid g) (branches tr) ≡ 0 → unsettled tr g ≡ 0) → (if s && n then unsettled tr g + 1 else unsettled tr g) ≡ 0
    by true n e rest = absurd (let no : ⊥ = absurd (omega (arith, e)) in no)
    by false n e rest = rest e
unsettled_none (Then tr (Issued l (Calls.Start b true))) g e = by (gtrid_eq b.gtrid g) (not (counts_as_settled tr b)) e (unsettled_none tr g)
  where
    by : (s n : Bool) → (if s then count (λ b. gtrid_eq b.gtrid g) (branches tr) + 1 else count (λ b. gtrid_eq b.gtrid g) (branches tr)) ≡ 0
        → (count (λ b. gtrid_eq b.gtrid g) (branches tr) ≡ 0 → unsettled tr g ≡ 0) → (if s && n then unsettled tr g + 1 else unsettled tr g) ≡ 0
    by true n e rest = absurd (let no : ⊥ = absurd (omega (arith, e)) in no)
    by false n e rest = rest e
unsettled_none (Then tr (Heard l c a)) g e = by (is_counted (is_unsettled tr) g (settler c a)) (unsettled_none tr g e)
  where
    by : (t : Bool) → unsettled tr g ≡ 0 → (if t then unsettled tr g - 1 else unsettled tr g) ≡ 0
    by true z = ap (λ n. n - 1) z
    by false z = z
unsettled_none (Then tr _) g e = unsettled_none tr g e

-- no branch of a transaction that is begun was started before
no_branch_yet : (tr : Trace) (g : Gtrid) → IsRun tr → g.incarnation ≡ incarnation tr → g.sequence ≡ sequence tr + 1
    → (b : Branch) → has_branch (branches tr) b ≡ true → gtrid_eq b.gtrid g ≡ false
no_branch_yet tr g r inc seq b h = by (gtrid_eq b.gtrid g) refl
  where
    later : Old tr g → ⊥
    later (inl less) = absurd (omega arith)
    later (inr same) = absurd (omega (arith, same.1))

    by : (t : Bool) → gtrid_eq b.gtrid g ≡ t → gtrid_eq b.gtrid g ≡ false
    by true e = absurd (later (subst (Old tr) (gtrid_eq-true b.gtrid g e) ((run_always tr r).started_old b (sym (branches_listed tr b) ∙ h))))
    by false e = e

-- ** the number

pub counted_settled : (tr : Trace) (g : Gtrid) → IsRun tr → begun tr g ≡ true
    → unsettled tr g ≡ count (λ b. gtrid_eq b.gtrid g && not (counts_as_settled tr b)) (branches tr)
counted_settled (From o) g r e = absurd (cc)
counted_settled (Then tr (Begun h)) g r e = by (gtrid_eq h g) refl e (counted_settled tr g r.0)
  where
    fresh : gtrid_eq h g ≡ true → (b : Branch) → has_branch (branches tr) b ≡ true → gtrid_eq b.gtrid g ≡ false
    fresh s =
        let is = gtrid_eq-true h g s in
        no_branch_yet tr g r.0 (ap (λ (x : Gtrid). x.incarnation) (sym is) ∙ r.1.1) (ap (λ (x : Gtrid). x.sequence) (sym is) ∙ r.1.2)

    by : (t : Bool) → gtrid_eq h g ≡ t → (t || begun tr g) ≡ true
        → (begun tr g ≡ true → unsettled tr g ≡ count (λ b. gtrid_eq b.gtrid g && not (counts_as_settled tr b)) (branches tr))
        → unsettled tr g ≡ count (λ b. gtrid_eq b.gtrid g && not (counts_as_settled tr b)) (branches tr)
    by true s e rest = unsettled_none tr g (count_none (λ b. gtrid_eq b.gtrid g) (branches tr) (fresh s))
        ∙ sym (count_none (λ b. gtrid_eq b.gtrid g && not (counts_as_settled tr b)) (branches tr)
        (λ b h'. ap (λ t. t && not (counts_as_settled tr b)) (fresh s b h')))
    by false s e rest = rest e
counted_settled (Then tr (Issued l (Calls.Start b false))) g r e =
    ap (λ n. if gtrid_eq b.gtrid g && not (counts_as_settled tr b) then n + 1 else n) (counted_settled tr g r.0 e)
counted_settled (Then tr (Issued l (Calls.Start b true))) g r e =
    ap (λ n. if gtrid_eq b.gtrid g && not (counts_as_settled tr b) then n + 1 else n) (counted_settled tr g r.0 e)
counted_settled (Then tr (Heard l c a)) g r begun_now = by (settler c a) refl (counted_settled tr g r.0 begun_now)
  where
    p : Branch → Bool
    p b = gtrid_eq b.gtrid g && not (counts_as_settled tr b)

    q : Branch → Bool
    q b = gtrid_eq b.gtrid g && not (counts_as_settled (Then tr (Heard l c a)) b)

    after : (v : Option Branch) → settler c a ≡ v → (b : Branch) → q b ≡ (p b && not (votes_of v b))
    after v is b =
        ap (λ t. gtrid_eq b.gtrid g && not t) (settled_more tr l c a b ∙ ap (λ w. votes_of w b || counts_as_settled tr b) is)
        ∙ not_or (gtrid_eq b.gtrid g) (votes_of v b) (counts_as_settled tr b)

    regroup : (e s n : Bool) → (e && (s && n)) ≡ (s && (e && n))
    regroup true s n = refl
    regroup false true n = refl
    regroup false false n = refl

    all : (t : Bool) → t ≡ (t && true)
    all true = refl
    all false = refl

    by : (v : Option Branch) → settler c a ≡ v → unsettled tr g ≡ count p (branches tr)
        → (if is_counted (is_unsettled tr) g v then unsettled tr g - 1 else unsettled tr g) ≡ count q (branches tr)
    by None is e = e ∙ same_count p q (branches tr) (λ b. all (p b) ∙ sym (after None is b))
    by (Some v) is e =
        ap (λ t. if t then unsettled tr g - 1 else unsettled tr g)
        (regroup (gtrid_eq v.gtrid g) (started tr v) (not (counts_as_settled tr v)) ∙ ap (λ s. s && p v) (sym (branches_listed tr v)))
        ∙ one_out p v (branches tr) (unsettled tr g) (apart tr r.0) e
        ∙ same_count (but p v) q (branches tr) (λ b. ap (λ t. p b && not t) (swap_eq b v) ∙ sym (after (Some v) is b))
counted_settled (Then tr (Crashed Part.Manager)) g r e = absurd (cc)
counted_settled (Then tr (Failed f)) g r e = absurd (cc)
counted_settled (Then tr (Restarted i d h)) g r e = absurd (cc)
counted_settled (Then tr _) g r e = counted_settled tr g r.0 e
