-- The numbers that are counted as a history goes on are those of a count over its branches.
use Rattle.std.proofs.Common.{◌≡◌, ℕ, ◌+◌, ◌-◌, ◌==◌, List, [], ◌∷◌, Bool, true, false, not, ◌&&◌, ◌||◌, Option, Some, None, refl, sym, ap, ◌∙◌, subst, arith}
use Rattle.std.specs.Prelude.{if◌then◌else◌}
use Rattle.std.proofs.lemmas.Bool.{true≢false, or_parts}
use Rattle.xa_base.specs.declared.call.Call.TheVariants as Calls
use Rattle.xa_base.specs.declared.answer.Answer.TheVariants.{Ret}
use Rattle.xa_base.specs.Branch.{gtrid_eq, branch_eq}
use Rattle.xa_base.specs.declared.branch.Branch.{Branch}
use Rattle.xa_base.specs.declared.branch.Gtrid.{Gtrid}
use Rattle.xa_base.specs.declared.code.Code.TheVariants as Codes
use Rattle.xa_model.specs.Facts.{branches, has_branch, says_yes, says_read_only, started, was_told, all_of, has_voted}
use Rattle.xa_model.specs.Protocol.{IsRun}
use Rattle.xa_model.specs.Trace.{Line, Call, Answer, Happening.Issued, Happening.Heard, Trace, Trace.From, Trace.Then}
use Rattle.xa_model.proofs.AgreementLemmas.Distinct.{branches_listed}
use Rattle.xa_base.proofs.BranchKeys.{branch_eq-true, branch_eq-refl}
use Rattle.xa_tm.specs.Counts.{voter, is_counted, lacks_vote, branch_count, unvoted}

-- ** counts over lists

abbrev pub count : (Branch → Bool) → List Branch → ℕ
count p [] = 0
count p (x ∷ xs) = if p x then count p xs + 1 else count p xs

abbrev pub Apart : List Branch → Type 0
Apart [] = Unit
Apart (x ∷ xs) = (has_branch xs x ≡ false) × Apart xs

abbrev pub but : (Branch → Bool) → Branch → Branch → Bool
but p b c = p c && not (branch_eq c b)

-- a branch that is not among them takes nothing away
pub none_less : (p : Branch → Bool) (b : Branch) (bs : List Branch) → has_branch bs b ≡ false → count (but p b) bs ≡ count p bs
none_less p b [] e = refl
none_less p b (x ∷ xs) e =
    let apart = or_parts (branch_eq x b) (has_branch xs b) e in
    kept (p x) (branch_eq x b) apart.0 _ _ ∙ ap (λ n. if p x then n + 1 else n) (none_less p b xs apart.1)
  where
    kept : (q s : Bool) → s ≡ false → (m n : ℕ) → (if q && not s then m else n) ≡ (if q then m else n)
    kept q true e m n = absurd (cc)
    kept true false e m n = refl
    kept false false e m n = refl

-- and one that is among them and counts takes one away
pub one_less : (p : Branch → Bool) (b : Branch) (bs : List Branch) → Apart bs → has_branch bs b ≡ true → p b ≡ true → count (but p b) bs + 1 ≡ count p bs
one_less p b [] apart e y = absurd (cc)
one_less p b (x ∷ xs) apart e y = by (branch_eq x b) refl (λ h. one_less p b xs apart.1 h y)
  where
    both : (q : Bool) (m n : ℕ) → m + 1 ≡ n → (if q then m + 1 else m) + 1 ≡ (if q then n + 1 else n)
    both true m n e = ap (λ k. k + 1) e
    both false m n e = e

    later : (s r : Bool) → (s || r) ≡ true → s ≡ false → r ≡ true
    later true r e f = absurd (cc)
    later false r e f = e

    at : (q s : Bool) (m n : ℕ) → q ≡ true → s ≡ true → m ≡ n → (if q && not s then m + 1 else m) + 1 ≡ (if q then n + 1 else n)
    at true true m n f g e = ap (λ k. k + 1) e
    at true false m n f g e = absurd (cc)
    at false s m n f g e = absurd (cc)

    away : (q s : Bool) (m : ℕ) → s ≡ false → (if q && not s then m + 1 else m) ≡ (if q then m + 1 else m)
    away q true m e = absurd (cc)
    away true false m e = refl
    away false false m e = refl

    by : (s : Bool) → branch_eq x b ≡ s → (has_branch xs b ≡ true → count (but p b) xs + 1 ≡ count p xs) → count (but p b) (x ∷ xs) + 1 ≡ count p (x ∷ xs)
    by true s less =
        let is = branch_eq-true x b s in
        at (p x) (branch_eq x b) _ _ (ap p is ∙ y) s (none_less p b xs (subst (λ c. has_branch xs c ≡ false) is apart.0))
    by false s less =
        ap (λ k. k + 1) (away (p x) (branch_eq x b) (count (but p b) xs) s)
        ∙ both (p x) (count (but p b) xs) (count p xs) (less (later (branch_eq x b) (has_branch xs b) e s))

pub same_count : (p q : Branch → Bool) (bs : List Branch) → ((c : Branch) → p c ≡ q c) → count p bs ≡ count q bs
same_count p q bs e = ap (λ (r : Branch → Bool). count r bs) (λ i. λ c. e c i)

-- a branch that doesn't count takes nothing away
idle : (p : Branch → Bool) (b c : Branch) → p b ≡ false → but p b c ≡ p c
idle p b c e = by (branch_eq c b) refl
  where
    none : (x : Bool) → x ≡ false → (x && false) ≡ x
    none true f = absurd (cc)
    none false f = refl

    all : (x : Bool) → (x && true) ≡ x
    all true = refl
    all false = refl

    by : (s : Bool) → branch_eq c b ≡ s → (p c && not s) ≡ p c
    by true s = none (p c) (ap p (branch_eq-true c b s) ∙ e)
    by false s = all (p c)

less_one : (m n : ℕ) → m + 1 ≡ n → n - 1 ≡ m
less_one m n e = omega arith

-- the number after an answer that takes one branch out of those that count
pub one_out : (p : Branch → Bool) (b : Branch) (bs : List Branch) (u : ℕ) → Apart bs → u ≡ count p bs
    → (if has_branch bs b && p b then u - 1 else u) ≡ count (but p b) bs
one_out p b bs u apart e = by (has_branch bs b) (p b) refl refl
  where
    by : (h w : Bool) → has_branch bs b ≡ h → p b ≡ w → (if h && w then u - 1 else u) ≡ count (but p b) bs
    by true true among counts = less_one (count (but p b) bs) u (one_less p b bs apart among counts ∙ sym e)
    by true false among counts = e ∙ sym (same_count (but p b) p bs (λ c. idle p b c counts))
    by false w among counts = e ∙ sym (none_less p b bs among)

-- nothing is counted exactly if each passes
pub none_counted : (g : Gtrid) (t : Branch → Bool) (bs : List Branch) → (count (λ b. gtrid_eq b.gtrid g && not (t b)) bs == 0) ≡ all_of g t bs
none_counted g t [] = refl
none_counted g t (x ∷ xs) = by (gtrid_eq x.gtrid g) (t x) (none_counted g t xs)
  where
    more : (n : ℕ) → (n + 1 == 0) ≡ false
    more n = grind arith

    by : (s p : Bool) → (count (λ b. gtrid_eq b.gtrid g && not (t b)) xs == 0) ≡ all_of g t xs
        → ((if s && not p then count (λ b. gtrid_eq b.gtrid g && not (t b)) xs + 1 else count (λ b. gtrid_eq b.gtrid g && not (t b)) xs) == 0)
        ≡ ((not s || p) && all_of g t xs)
    by true true rest = rest
    by true false rest = more _
    by false p rest = rest

-- ** branches

-- no branch is started twice
pub apart : (tr : Trace) → IsRun tr → Apart (branches tr)
apart (From o) r = tt
apart (Then tr (Issued l (Calls.Start b false))) r = (branches_listed tr b ∙ r.1.1.may_be.0, apart tr r.0)
apart (Then tr (Issued l (Calls.Start b true))) r = (branches_listed tr b ∙ r.1.1.may_be.0, apart tr r.0)
apart (Then tr _) r = apart tr r.0

pub counted_branches : (tr : Trace) (g : Gtrid) → branch_count tr g ≡ count (λ b. gtrid_eq b.gtrid g) (branches tr)
counted_branches (From o) g = refl
counted_branches (Then tr (Issued l (Calls.Start b false))) g = ap (λ n. if gtrid_eq b.gtrid g then n + 1 else n) (counted_branches tr g)
counted_branches (Then tr (Issued l (Calls.Start b true))) g = ap (λ n. if gtrid_eq b.gtrid g then n + 1 else n) (counted_branches tr g)
counted_branches (Then tr _) g = counted_branches tr g

-- ** votes

-- whether an answer is a vote of the branch
abbrev pub votes_of : Option Branch → Branch → Bool
votes_of None b = false
votes_of (Some v) b = branch_eq v b

says_vote : (b : Branch) (c : Call) (a : Answer) → (says_yes b c a || says_read_only b c a) ≡ votes_of (voter c a) b
says_vote b (Calls.Prepare v) (Ret Codes.Success) = or_false (branch_eq v b)
  where
    or_false : (t : Bool) → (t || false) ≡ t
    or_false true = refl
    or_false false = refl
says_vote b (Calls.Prepare v) (Ret Codes.ReadOnly) = refl
says_vote b _ _ = refl

pub voted_more : (tr : Trace) (l : Line) (c : Call) (a : Answer) (b : Branch) → has_voted (Then tr (Heard l c a)) b ≡ (votes_of (voter c a) b || has_voted tr b)
voted_more tr l c a b =
    shuffled (says_yes b c a) (says_read_only b c a) (was_told tr (says_yes b)) (was_told tr (says_read_only b))
    ∙ ap (λ t. t || has_voted tr b) (says_vote b c a)
  where
    shuffled : (x y p q : Bool) → ((x || p) || (y || q)) ≡ ((x || y) || (p || q))
    shuffled true y p q = refl
    shuffled false true true q = refl
    shuffled false true false q = refl
    shuffled false false p q = refl

pub not_or : (e v h : Bool) → (e && not (v || h)) ≡ ((e && not h) && not v)
not_or true true true = refl
not_or true true false = refl
not_or true false true = refl
not_or true false false = refl
not_or false v h = refl

pub swap_eq : (c b : Branch) → branch_eq c b ≡ branch_eq b c
swap_eq c b = by (branch_eq c b) (branch_eq b c) refl refl
  where
    by : (s t : Bool) → branch_eq c b ≡ s → branch_eq b c ≡ t → s ≡ t
    by true true e f = refl
    by false false e f = refl
    by true false e f = absurd (true≢false (sym (branch_eq-refl b) ∙ ap (branch_eq b) (sym (branch_eq-true c b e)) ∙ f))
    by false true e f = absurd (true≢false (sym (branch_eq-refl c) ∙ ap (branch_eq c) (sym (branch_eq-true b c f)) ∙ e))

-- the number of branches of the transaction without a vote for commit
pub counted_votes : (tr : Trace) (g : Gtrid) → IsRun tr → unvoted tr g ≡ count (λ b. gtrid_eq b.gtrid g && not (has_voted tr b)) (branches tr)
counted_votes (From o) g r = refl
counted_votes (Then tr (Issued l (Calls.Start b false))) g r =
    ap (λ n. if gtrid_eq b.gtrid g && not (has_voted tr b) then n + 1 else n) (counted_votes tr g r.0)
counted_votes (Then tr (Issued l (Calls.Start b true))) g r = ap (λ n. if gtrid_eq b.gtrid g && not (has_voted tr b) then n + 1 else n) (counted_votes tr g r.0)
counted_votes (Then tr (Heard l c a)) g r = by (voter c a) refl (counted_votes tr g r.0)
  where
    p : Branch → Bool
    p b = gtrid_eq b.gtrid g && not (has_voted tr b)

    q : Branch → Bool
    q b = gtrid_eq b.gtrid g && not (has_voted (Then tr (Heard l c a)) b)

    after : (v : Option Branch) → voter c a ≡ v → (b : Branch) → q b ≡ (p b && not (votes_of v b))
    after v is b =
        ap (λ t. gtrid_eq b.gtrid g && not t) (voted_more tr l c a b ∙ ap (λ w. votes_of w b || has_voted tr b) is)
        ∙ not_or (gtrid_eq b.gtrid g) (votes_of v b) (has_voted tr b)

    regroup : (e s n : Bool) → (e && (s && n)) ≡ (s && (e && n))
    regroup true s n = refl
    regroup false true n = refl
    regroup false false n = refl

    all : (t : Bool) → t ≡ (t && true)
    all true = refl
    all false = refl

    by : (v : Option Branch) → voter c a ≡ v → unvoted tr g ≡ count p (branches tr)
        → (if is_counted (lacks_vote tr) g v then unvoted tr g - 1 else unvoted tr g) ≡ count q (branches tr)
    by None is e = e ∙ same_count p q (branches tr) (λ b. all (p b) ∙ sym (after None is b))
    by (Some v) is e =
        ap (λ t. if t then unvoted tr g - 1 else unvoted tr g)
        (regroup (gtrid_eq v.gtrid g) (started tr v) (not (has_voted tr v)) ∙ ap (λ s. s && p v) (sym (branches_listed tr v)))
        ∙ one_out p v (branches tr) (unvoted tr g) (apart tr r.0) e
        ∙ same_count (but p v) q (branches tr) (λ b. ap (λ t. p b && not t) (swap_eq b v) ∙ sym (after (Some v) is b))
counted_votes (Then tr _) g r = counted_votes tr g r.0
