-- The steps of branches, of transactions, and of all threads.
use Rattle.std.proofs.Common.{◌≡◌, ◌∙◌, ◌+◌, ◌==◌, ◌||◌, ◌⊎◌, ℕ, zero, suc, not, ◌<◌, ◌≤◌, Bool, true, false, List, [], ◌∷◌, ◌++◌, ap, ap₂, arith, drop, eq-eqb, get_or, inl, inr, length, lit≤, ne_eqb, refl, subst, subst₂, sym, take, take_all}
use Rattle.std.proofs.Math.ListN.{set}
use Rattle.std.proofs.lemmas.Bool.{and_parts, cases_Bool, cases_eq, true≢false}
use Rattle.std.proofs.lemmas.Grind.{common_steps}
use Rattle.std.proofs.lemmas.List.{get_or-set_other, get_or-set_same, get_or_default, length-set}
use Rattle.std.proofs.lemmas.List.Folds.{list_any-append}
use Rattle.std.proofs.lemmas.List.Sums.{sum_by-append, sum_by-set, sum_by_push}
use Rattle.std.proofs.lemmas.Option.{slice_get_read}
use Rattle.std.specs.List.{list_all, list_any, sum_by}
use Rattle.std.specs.Prelude.{if◌then◌else◌}
use Rattle.xa_base.specs.declared.branch.Gtrid.{Gtrid}
use Rattle.xa_conduct.proofs.BackingLemmas.{no_step, step_closer}
use Rattle.xa_conduct.specs.Backing.{standing_once_heard}
use Rattle.xa_conduct.specs.Meaning.{step_at}
use Rattle.xa_conduct.specs.Over.{has_calls}
use Rattle.xa_conduct.specs.Places.{is_asked, is_working, steps_at}
use Rattle.xa_conduct.specs.Progress.{AllStep, Steps, are_working, branch_steps, is_asked_in, is_asked_of, is_part_at, is_new_at, is_start, takes_move, moves_taken, steps_made, steps_of, steps_to}
use Rattle.xa_conduct.specs.declared.meaning.Heard.{Heard}
use Rattle.xa_conduct.specs.declared.meaning.Heard.TheVariants as heards
use Rattle.xa_conduct.specs.declared.meaning.Step.{Step}
use Rattle.xa_conduct.specs.declared.notes.Reply.{Reply}
use Rattle.xa_conduct.specs.declared.notes.Reply.TheVariants as replies
use Rattle.xa_conduct.specs.declared.part.Part.{Part}
use Rattle.xa_conduct.specs.declared.place.Place.{Place}
use Rattle.xa_conduct.specs.declared.place.Place.TheVariants.{Working}
use Rattle.xa_conduct.specs.declared.report.Report.{Report}
use Rattle.xa_conduct.specs.declared.transaction.Standing.{Standing}
use Rattle.xa_conduct.specs.declared.transaction.Standing.TheVariants as standings
use Rattle.xa_conduct.specs.declared.transaction.Transaction.{Transaction}

-- ** branches

-- one more, at which work goes on
pub branches_pushed : (parts now : List Part) (part : Part) → now ≡ parts ++ part ∷ [] → part.place ≡ Working
    → branch_steps now ≡ branch_steps parts + 1
branches_pushed parts now part is works =
    ap branch_steps is ∙ sum_by_push steps_of parts part ∙ ap (λ (p : Place). branch_steps parts + steps_at p) works

-- one of them went on
pub branches_set : (parts now : List Part) (i : ℕ) (from to : Part) → i < length parts → from ≡ get_or parts i from → now ≡ set parts i to
    → branch_steps now + steps_at from.place ≡ branch_steps parts + steps_at to.place
branches_set parts now i from to within at is =
    ap (λ (ps : List Part). branch_steps ps + steps_of from) is
    ∙ ap (λ (p : Part). branch_steps (set parts i to) + steps_of p) at
    ∙ sum_by-set steps_of parts i to from within

-- as they went on before
pub branches_on : (first parts : List Part) (i : ℕ) (d to : Part) → i < length parts → steps_at (get_or parts i d).place ≤ steps_at to.place
    → branch_steps first ≤ branch_steps parts → branch_steps first ≤ branch_steps (set parts i to)
branches_on first parts i d to within no_less before = omega (arith, sum_by-set steps_of parts i to d within, no_less, before)

refilled : (parts now : List Part) (len : ℕ) → len ≡ length parts → length now ≡ length parts → take len (now ++ drop (length now) parts) ≡ now
refilled parts now len is same = grind (arith, common_steps)

-- all of them went on, and were written back
pub branches_lent : (parts lent now : List Part) (len : ℕ) → lent ≡ parts → len ≡ length lent → length now ≡ length lent
    → branch_steps lent ≤ branch_steps now → branch_steps parts ≤ branch_steps (take len (now ++ drop (length now) parts))
branches_lent parts lent now len is long same more =
    subst (λ (ps : List Part). branch_steps parts ≤ branch_steps ps) (sym (refilled parts now len (long ∙ ap length is) (same ∙ ap length is)))
    (subst (λ (ps : List Part). branch_steps ps ≤ branch_steps now) is more)

-- work goes on at the first
pub works_first : (parts : List Part) (part : Part) → 0 < length parts → part ≡ get_or parts 0 part → are_working parts ≡ true
    → is_working part.place ≡ true
works_first [] part within at working = absurd (omega arith)
works_first (p ∷ ps) part within at working =
    ap (λ (x : Part). is_working x.place) at ∙ (and_parts (is_working p.place) (are_working ps) working).0

or_none : (x y : Bool) → (x || y) ≡ false → (x ≡ false) × (y ≡ false)
or_none true y is = absurd (true≢false is)
or_none false y is = (refl, is)

all_get : {X : Type 0} (p : X → Bool) (xs : List X) (i : ℕ) (d : X) → i < length xs → list_all p xs ≡ true → p (get_or xs i d) ≡ true
all_get p [] i d within all = absurd (omega arith)
all_get p (x ∷ xs) zero d within all = (and_parts (p x) (list_all p xs) all).0
all_get p (x ∷ xs) (suc i) d within all = all_get p xs i d (omega arith) (and_parts (p x) (list_all p xs) all).1

-- ** one transaction

pub one_at_most : (standing : Standing) → steps_to standing ≤ 1
one_at_most standings.Idle = lit≤ tt
one_at_most standings.Open = lit≤ tt
one_at_most standings.Ready = lit≤ tt
one_at_most standings.Committed = lit≤ tt
one_at_most (standings.RolledBack why) = lit≤ tt
one_at_most standings.Unknown = lit≤ tt

pub stands_on : (standing : Standing) (heard : Heard) (rm : ℕ) → steps_to standing ≤ steps_to (standing_once_heard standing heard rm)
stands_on standing heards.Committed rm = one_at_most standing
stands_on standing (heards.RolledBack why) rm = one_at_most standing
stands_on standing heards.LostAtOnce rm = one_at_most standing
stands_on standing heards.Nothing rm = omega arith
stands_on standing (heards.No why) rm = omega arith
stands_on standing heards.LostVote rm = omega arith
stands_on standing heards.LostEnd rm = omega arith

pub steps_none : (t : Transaction) → Steps 0 t t
steps_none t = record { same = refl; made = omega arith }

pub steps_both : (a b : ℕ) (t u v : Transaction) → Steps a t u → Steps b u v → Steps (a + b) t v
steps_both a b t u v one other = record { same = other.same ∙ one.same; made = omega (arith, one.made, other.made) }

pub steps_fewer : (a b : ℕ) (t u : Transaction) → b ≤ a → Steps a t u → Steps b t u
steps_fewer a b t u fewer made = record { same = made.same; made = omega (arith, made.made, fewer) }

pub step_no_less : (place : Place) (report : Report) → steps_at place ≤ steps_at (step_at place report).place
step_no_less place report =
    elim (cases_Bool (is_asked place)) [
      | inl asked ↦ let closer = step_closer place report asked in omega (arith, closer)
      | inr idle ↦ subst (λ (s : Step). steps_at place ≤ steps_at s.place) (sym (no_step place report idle)) (omega arith)
    ]

-- one of its branches heard a report
pub steps_heard : (t u : Transaction) (i : ℕ) (from to : Part) (report : Report) (heard : Heard) (rm : ℕ) → i < length t.parts.items
    → from ≡ get_or t.parts.items i from → u.parts.items ≡ set t.parts.items i to → to.place ≡ (step_at from.place report).place → u.gtrid ≡ t.gtrid
    → u.standing ≡ standing_once_heard t.standing heard rm → Steps (if is_asked_in t.parts.items i then 1 else 0) t u
steps_heard t u i from to report heard rm within at is goes same stands =
    let here : is_asked_in t.parts.items i ≡ is_asked from.place =
    ap is_asked_of (slice_get_read t.parts.items (length t.parts.items) i from refl within at) in
    let moved = branches_set t.parts.items u.parts.items i from to within at is in
    let on = stands_on t.standing heard rm in
    let stood = ap steps_to stands in
    let went = ap steps_at goes in
    elim (cases_Bool (is_asked from.place)) [
      | inl asked ↦
          let closer = step_closer from.place report asked in
          subst (λ (b : Bool). Steps (if b then 1 else 0) t u) (sym (here ∙ asked))
          (record { same = same; made = omega (arith, moved, on, stood, went, closer) })
      | inr idle ↦
          let no_less = step_no_less from.place report in
          subst (λ (b : Bool). Steps (if b then 1 else 0) t u) (sym (here ∙ idle))
          (record { same = same; made = omega (arith, moved, on, stood, went, no_less) })
    ]

-- one of the branches was heard, or none of those that were looked at was told a call, and no report was taken
abbrev pub HeardSoFar : ℕ → Transaction → Transaction → (all left : List Report) → Type 0
HeardSoFar k t u all left = Steps 1 t u ⊎ ((u ≡ t) × (list_any (λ (part : Part). is_asked part.place) (take k t.parts.items) ≡ false) × (left ≡ all))

none_next : (parts : List Part) (k : ℕ) → list_any (λ (part : Part). is_asked part.place) (take k parts) ≡ false → is_asked_in parts k ≡ false
    → list_any (λ (part : Part). is_asked part.place) (take (suc k) parts) ≡ false
none_next [] k none idle = refl
none_next (p ∷ ps) zero none idle = ap (λ (b : Bool). b || false) idle
none_next (p ∷ ps) (suc k) none idle =
    let parts = or_none (is_asked p.place) (list_any (λ (part : Part). is_asked part.place) (take k ps)) none in
    ap₂ (λ (a b : Bool). a || b) parts.0 (none_next ps k parts.1 idle)

pub heard_none : (k : ℕ) (t u : Transaction) (all left : List Report) → HeardSoFar k t u all left → is_asked_in u.parts.items k ≡ false
    → HeardSoFar (k + 1) t u all left
heard_none k t u all left before idle =
    elim before [
      | inl made ↦ inl made
      | inr none ↦
          let on : suc k ≡ k + 1 = omega arith in
          inr (
            none.0,
            subst (λ (n : ℕ). list_any (λ (part : Part). is_asked part.place) (take n t.parts.items) ≡ false) on
                (none_next t.parts.items k none.1 (subst (λ (x : Transaction). is_asked_in x.parts.items k ≡ false) none.0 idle)),
            none.2,
          )
    ]

pub heard_one : (k : ℕ) (t u v : Transaction) (all left : List Report) → HeardSoFar k t u all left → is_asked_in u.parts.items k ≡ true
    → Steps (if is_asked_in u.parts.items k then 1 else 0) u v → Steps 1 t v
heard_one k t u v all left before asked made =
    let one : Steps 1 u v = subst (λ (b : Bool). Steps (if b then 1 else 0) u v) asked made in
    elim before [
      | inl some ↦ steps_fewer 2 1 t v (lit≤ tt) (steps_both 1 1 t u v some one)
      | inr none ↦ subst (λ (x : Transaction). Steps 1 x v) none.0 one
    ]

-- all were looked at
pub heard_all : (k : ℕ) (t u : Transaction) (all left : List Report) → length t.parts.items ≤ k → has_calls t ≡ true → HeardSoFar k t u all left
    → Steps 1 t u
heard_all k t u all left past calls before =
    elim before [
      | inl made ↦ made
      | inr none ↦
          let whole : list_any (λ (part : Part). is_asked part.place) t.parts.items ≡ false =
          subst (λ (ps : List Part). list_any (λ (part : Part). is_asked part.place) ps ≡ false) (take_all k t.parts.items past) none.1 in
          absurd (true≢false (sym calls ∙ whole))
    ]

-- no report is left
pub heard_out : (k : ℕ) (t u : Transaction) (all left : List Report) → 0 < length all → length left ≡ 0 → HeardSoFar k t u all left → Steps 1 t u
heard_out k t u all left some out before =
    elim before [
      | inl made ↦ made
      | inr none ↦ absurd (omega (arith, some, ap length none.2, out))
    ]

-- so many resource managers were looked at of which none had a branch before
abbrev pub Joined : ℕ → Transaction → Transaction → Type 0
Joined k t u = ((k ≡ 0) × (u.parts.items ≡ t.parts.items) × Steps 0 t u) ⊎ Steps 1 t u

pub joined_more : (k m : ℕ) (t u v : Transaction) → Joined k t u → Steps 1 u v → Joined m t v
joined_more k m t u v before one =
    elim before [
      | inl none ↦ inr (steps_both 0 1 t u v none.2 one)
      | inr some ↦ inr (steps_fewer 2 1 t v (lit≤ tt) (steps_both 1 1 t u v some one))
    ]

-- one that has a branch isn't the first
pub joined_same : (k m d : ℕ) (rms : List ℕ) (t u : Transaction) → k < length rms → list_all (is_new_at t.parts.items) rms ≡ true
    → list_any (is_part_at (get_or rms k d)) u.parts.items ≡ true → Joined k t u → Joined m t u
joined_same k m d rms t u within new has before =
    elim before [
      | inl none ↦
          let has_first : list_any (is_part_at (get_or rms k d)) t.parts.items ≡ true = sym (ap (list_any (is_part_at (get_or rms k d))) none.1) ∙ has in
          let is_new : is_new_at t.parts.items (get_or rms k d) ≡ true = all_get (is_new_at t.parts.items) rms k d within new in
          absurd (true≢false (sym is_new ∙ ap not has_first))
      | inr some ↦ inr some
    ]

pub joined_all : (k : ℕ) (t u : Transaction) → 0 < k → Joined k t u → Steps 1 t u
joined_all k t u some before =
    elim before [
      | inl none ↦ absurd (omega (arith, none.0))
      | inr made ↦ made
    ]

-- ** all threads

-- nothing was taken
pub all_step_none : (ts : List Transaction) → AllStep [] ts ts
all_step_none ts = record { count = refl; each = λ j d inside start. steps_none (get_or ts j d) }

pub all_step_refused : (ts : List Transaction) → AllStep (replies.NotNow ∷ []) ts ts
all_step_refused ts = record { count = refl; each = λ j d inside start. steps_none (get_or ts j d) }

pub all_step_no_move : (ts : List Transaction) → AllStep (replies.NoMove ∷ []) ts ts
all_step_no_move ts = record { count = refl; each = λ j d inside start. steps_none (get_or ts j d) }

-- one move after another
pub all_step_both : (a b : List Reply) (ts us vs : List Transaction) → AllStep a ts us → AllStep b us vs → AllStep (a ++ b) ts vs
all_step_both a b ts us vs one other = record {
  count = other.count ∙ one.count;
  each =
      λ j d inside start.
      let apart = or_none (list_any (is_start j) a) (list_any (is_start j) b) (sym (list_any-append (is_start j) a b) ∙ start) in
      subst (λ (n : ℕ). Steps n (get_or ts j d) (get_or vs j d)) (sym (sum_by-append (takes_move j) a b))
      (steps_both (moves_taken j a) (moves_taken j b) (get_or ts j d) (get_or us j d) (get_or vs j d) (one.each j d inside apart.0)
      (other.each j d (subst (λ (n : ℕ). j < n) (sym one.count) inside) apart.1));
}

-- the transaction of one thread went on
step_set : (n : ℕ → ℕ) (ts : List Transaction) (i j : ℕ) (d from to : Transaction) → i < length ts → from ≡ get_or ts i from → j < length ts
    → Steps (n i) from to → ((j ≡ i → ⊥) → n j ≡ 0) → Steps (n j) (get_or ts j d) (get_or (set ts i to) j d)
step_set n ts i j d from to within at inside made other =
    elim (cases_eq j i) [
      | inl same ↦
          let was : get_or ts j d ≡ from = ap (λ (k : ℕ). get_or ts k d) same ∙ get_or_default ts i d from within ∙ sym at in
          let is : get_or (set ts i to) j d ≡ to = ap (λ (k : ℕ). get_or (set ts i to) k d) same ∙ get_or-set_same ts i to d within in
          subst₂ (λ (x y : Transaction). Steps (n j) x y) (sym was) (sym is) (subst (λ (k : ℕ). Steps (n k) from to) (sym same) made)
      | inr apart ↦
          subst₂ (λ (k : ℕ) (y : Transaction). Steps k (get_or ts j d) y) (sym (other apart)) (sym (get_or-set_other ts i j to d apart))
          (steps_none (get_or ts j d))
    ]

-- by a move that was taken
pub all_step_one : (ts : List Transaction) (i : ℕ) (from to : Transaction) → i < length ts → from ≡ get_or ts i from → Steps 1 from to
    → AllStep (replies.Thread i ∷ []) ts (set ts i to)
all_step_one ts i from to within at made = record {
  count = length-set ts i to;
  each =
      λ j d inside start.
      step_set (λ k. moves_taken k (replies.Thread i ∷ [])) ts i j d from to within at inside
      (subst (λ (b : Bool). Steps (0 + (if b then 1 else 0)) from to) (sym (eq-eqb i i refl)) made)
      (λ apart. ap (λ (b : Bool). 0 + (if b then 1 else 0)) (ne_eqb j i apart));
}

-- or by what follows from others
pub all_step_set : (ts : List Transaction) (i : ℕ) (from to : Transaction) → i < length ts → from ≡ get_or ts i from → Steps 0 from to
    → AllStep [] ts (set ts i to)
all_step_set ts i from to within at made = record {
  count = length-set ts i to;
  each = λ j d inside start. step_set (λ k. 0) ts i j d from to within at inside made (λ apart. refl);
}

-- its first one began
pub all_step_begun : (ts before : List Transaction) (i : ℕ) (g : Gtrid) (to : Transaction) → before ≡ ts
    → AllStep (replies.Started i g ∷ []) ts (set before i to)
all_step_begun ts before i g to is =
    subst (λ (us : List Transaction). AllStep (replies.Started i g ∷ []) ts (set us i to)) (sym is) (record {
      count = length-set ts i to;
      each =
          λ j d inside start.
          let apart : j ≡ i → ⊥ = λ same. true≢false (sym (ap (λ (b : Bool). b || false) (eq-eqb j i same)) ∙ start) in
          subst (Steps 0 (get_or ts j d)) (sym (get_or-set_other ts i j to d apart)) (steps_none (get_or ts j d));
    })

pub all_step_started : (ts before : List Transaction) (i : ℕ) (g : Gtrid) → before ≡ ts → AllStep (replies.Started i g ∷ []) ts before
all_step_started ts before i g is =
    subst (AllStep (replies.Started i g ∷ []) ts) (sym is)
    (record { count = refl; each = λ j d inside start. steps_none (get_or ts j d) })
