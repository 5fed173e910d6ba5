-- The listed identifiers are ascending: by job, and for each job by resource manager.
use Rattle.std.proofs.Common.{◌≡◌, ℕ, zero, suc, ◌+◌, ◌<◌, ◌≤◌, ◌^◌, ◌%◌, List, [], ◌∷◌, ◌++◌, map, length, vec_len, Option, Some, None, refl, sym, ◌∙◌, subst, arith}
use Rattle.std.specs.Prelude.{IfOk, Result, Ok, Err, IfSome, slice_get}
use Rattle.std.specs.Cmp.{nat_cmp_is}
use Rattle.std.specs.List.{AllByRecursion, cons_option, filter_map, flat_map, range_with_len}
use Rattle.std.specs.Option.{option_and_then, option_map}
use Rattle.std.specs.List.Sorted.{IsStrictlySortedBy}
use Rattle.std.specs.Ordering.{nat_cmp}
use Rattle.std.specs.declared.cmp.Ordering.TheVariants.{Less, Equal}
use Rattle.std.proofs.Math.Nat.{mod-lt}
use Rattle.xa_base.proofs.BytesOrder.{branch_order}
use Rattle.xa_base.proofs.Lists.{all_append, all_map}
use Rattle.xa_base.specs.Branch.{IsBranch, xid_of_branch}
use Rattle.xa_base.specs.Xid.{Xid, xid_cmp}
use Rattle.xa_base.specs.declared.state.Fate.{Fate}
use Rattle.xa_base.specs.declared.step.Outcome.{Outcome}
use Rattle.xa_base.specs.declared.vote.Vote.{Vote}
use Rattle.xa_log.specs.Content.{last_number}
use Rattle.xa_workers.specs.Fates.{AreInOrder, fate_after, fate_at, fates_of, job_fates}
use Rattle.xa_workers.specs.Jobs.{IsRunnable, branch_of, vote_at}
use Rattle.xa_workers.specs.declared.jobs.Jobs.{Jobs}
use Rattle.xa_workers.specs.declared.limits.TheConstants.{JOB_LIMIT}

abbrev Listed : Type 0
Listed = Xid × Fate

abbrev Below : Listed → Listed → Type 0
Below f g = xid_cmp f.0 g.0 ≡ Less

abbrev Ascends : List Listed → Type 0
Ascends [] = Unit {0}
Ascends (f ∷ fs) = AllByRecursion (Below f) fs × Ascends fs

ascends_append : (fs gs : List Listed) → Ascends fs → Ascends gs → AllByRecursion (λ f. AllByRecursion (Below f) gs) fs → Ascends (fs ++ gs)
ascends_append [] gs one other apart = other
ascends_append (f ∷ fs) gs one other apart = (all_append (Below f) fs gs one.0 apart.0, ascends_append fs gs one.1 other apart.1)

all_keys : (x : Xid) (fs : List Listed) → AllByRecursion (λ g. xid_cmp x g.0 ≡ Less) fs → AllByRecursion (λ y. xid_cmp x y ≡ Less) (map (λ f. f.0) fs)
all_keys x [] all = tt
all_keys x (g ∷ fs) all = (all.0, all_keys x fs all.1)

keys_ascend : (fs : List Listed) → Ascends fs → IsStrictlySortedBy xid_cmp (map (λ f. f.0) fs)
unfolding IsStrictlySortedBy
keys_ascend [] is = tt
keys_ascend (f ∷ fs) is = (all_keys f.0 fs is.0, keys_ascend fs is.1)

module _ (jobs : Jobs) (n : ℕ) (ends : List Outcome) (few : vec_len jobs.votes ≤ JOB_LIMIT) (some : 0 < jobs.threads)
    (threads : jobs.threads ≤ 8) (rms : jobs.rms ≤ 8) (fits : n ≤ last_number) where
  -- the numbers of a job's branch fit their types
  fits_branch : (i r : ℕ) → i < JOB_LIMIT → r < 8 → IsBranch (branch_of jobs n i r)
  fits_branch i r job rm = record {
    incarnation = let e : n < 2 ^ 64 = omega (arith, fits) in e;
    sequence = let e : i + 1 < 2 ^ 64 = omega (arith, job) in e;
    thread = let m = mod-lt i some in let e : i % jobs.threads < 2 ^ 32 = omega (arith, m, threads) in e;
    rm = let e : r < 2 ^ 32 = omega (arith, rm) in e;
  }

  same_number : (k : ℕ) → nat_cmp k k ≡ Equal
  same_number k = sym (nat_cmp_is k k Equal refl)

  lesser : (k m : ℕ) → k < m → nat_cmp k m ≡ Less
  lesser k m below = sym (nat_cmp_is k m Less below)

  abbrev xid_at : ℕ → ℕ → Xid
  xid_at i r = xid_of_branch (branch_of jobs n i r)

  next_rm : (i r s : ℕ) → i < JOB_LIMIT → s < 8 → r < s → xid_cmp (xid_at i r) (xid_at i s) ≡ Less
  next_rm i r s job rm below =
      branch_order (branch_of jobs n i r) (branch_of jobs n i s) (fits_branch i r job (omega (arith, rm, below))) (fits_branch i s job rm)
      ∙ rw (same_number n, same_number (i + 1), same_number (i % jobs.threads), lesser r s below) refl

  next_job : (i j r s : ℕ) → j < JOB_LIMIT → i < j → r < 8 → s < 8 → xid_cmp (xid_at i r) (xid_at j s) ≡ Less
  next_job i j r s job below rm rm' =
      branch_order (branch_of jobs n i r) (branch_of jobs n j s) (fits_branch i r (omega (arith, job, below)) rm) (fits_branch j s job rm')
      ∙ rw (same_number n, lesser (i + 1) (j + 1) (omega (arith, below))) refl

  -- what is listed of job i from resource manager r on
  record IsOf (i r : ℕ) (f : Listed) : Type 0 where
    place : ℕ
    behind : r ≤ place
    within : place < 8
    is : f.0 ≡ xid_at i place

  named : (i r : ℕ) (end : Option Outcome) (vote : Option Vote)
      → IfSome (option_and_then (λ e. option_map (λ v. (xid_at i r, fate_after e v)) vote) end) (λ (f : Listed). f.0 ≡ xid_at i r)
  named i r None vote = tt
  named i r (Some e) None = tt
  named i r (Some e) (Some v) = refl

  earlier : (i r : ℕ) (f : Listed) → IsOf i (r + 1) f → IsOf i r f
  earlier i r f h = record { place = h.place; behind = omega (arith, h.behind); within = h.within; is = h.is }

  below_later : (i r : ℕ) (f g : Listed) → i < JOB_LIMIT → f.0 ≡ xid_at i r → IsOf i (r + 1) g → Below f g
  below_later i r f g job is h = rw (is, h.is) (next_rm i r h.place job h.within (omega (arith, h.behind)))

  one_more : (i r : ℕ) (o : Option Listed) (fs : List Listed) → i < JOB_LIMIT → r < 8 → IfSome o (λ f. f.0 ≡ xid_at i r)
      → AllByRecursion (IsOf i (r + 1)) fs × Ascends fs → AllByRecursion (IsOf i r) (cons_option o fs) × Ascends (cons_option o fs)
  one_more i r None fs job rm is all = (all_map (IsOf i (r + 1)) (IsOf i r) (earlier i r) fs all.0, all.1)
  one_more i r (Some f) fs job rm is all =
      let here : IsOf i r f = record { place = r; behind = omega arith; within = rm; is = is } in (
        (here, all_map (IsOf i (r + 1)) (IsOf i r) (earlier i r) fs all.0),
        (all_map (IsOf i (r + 1)) (Below f) (λ g h. below_later i r f g job is h) fs all.0, all.1),
      )

  at_rms : (i r count : ℕ) → i < JOB_LIMIT → r + count ≤ 8
      → AllByRecursion (IsOf i r) (filter_map (fate_at jobs n ends i) (range_with_len r count))
      × Ascends (filter_map (fate_at jobs n ends i) (range_with_len r count))
  at_rms i r zero job within = (tt, tt)
  at_rms i r (suc count) job within =
      one_more i r (fate_at jobs n ends i r) (filter_map (fate_at jobs n ends i) (range_with_len (r + 1) count)) job (omega (arith, within))
      (named i r (slice_get ends i) (vote_at jobs i r)) (at_rms i (r + 1) count job (omega (arith, within)))

  of_job : (i : ℕ) → i < JOB_LIMIT → AllByRecursion (IsOf i 0) (job_fates jobs n ends i) × Ascends (job_fates jobs n ends i)
  of_job i job = at_rms i 0 jobs.rms job (omega (arith, rms))

  -- what is listed of the jobs from i on
  record IsFrom (i : ℕ) (f : Listed) : Type 0 where
    job : ℕ
    behind : i ≤ job
    within : job < JOB_LIMIT
    is : IsOf job 0 f

  from_later : (i : ℕ) (f : Listed) → IsFrom (i + 1) f → IsFrom i f
  from_later i f h = record { job = h.job; behind = omega (arith, h.behind); within = h.within; is = h.is }

  below_next : (i : ℕ) (f g : Listed) → IsOf i 0 f → IsFrom (i + 1) g → Below f g
  below_next i f g h k = rw (h.is, k.is.is) (next_job i k.job h.place k.is.place k.within (omega (arith, k.behind)) h.within k.is.within)

  from : (i count : ℕ) → i + count ≤ JOB_LIMIT
      → AllByRecursion (IsFrom i) (flat_map (job_fates jobs n ends) (range_with_len i count))
      × Ascends (flat_map (job_fates jobs n ends) (range_with_len i count))
  from i zero within = (tt, tt)
  from i (suc count) within =
      let job : i < JOB_LIMIT = omega (arith, within) in
      let here = of_job i job in
      let later = from (i + 1) count (omega (arith, within)) in
      let rest = flat_map (job_fates jobs n ends) (range_with_len (i + 1) count) in (
        all_append (IsFrom i) (job_fates jobs n ends i) rest
            (all_map (IsOf i 0) (IsFrom i) (λ f h. record { job = i; behind = omega arith; within = job; is = h }) (job_fates jobs n ends i) here.0)
            (all_map (IsFrom (i + 1)) (IsFrom i) (from_later i) rest later.0),
        ascends_append (job_fates jobs n ends i) rest here.1 later.1
            (all_map (IsOf i 0) (λ f. AllByRecursion (Below f) rest)
            (λ f h. all_map (IsFrom (i + 1)) (Below f) (λ g k. below_next i f g h k) rest later.0) (job_fates jobs n ends i) here.0),
      )

  all_ascend : Ascends (fates_of jobs n ends)
  all_ascend = let count : vec_len jobs.votes ≡ length jobs.votes.items = omega arith in (from 0 (length jobs.votes.items) (omega (arith, few, count))).1

  pub in_order : (fates : List Listed) → fates ≡ fates_of jobs n ends → AreInOrder fates
  in_order fates are = subst AreInOrder (sym are) (keys_ascend (fates_of jobs n ends) all_ascend)

pub in_order_if_ok : {X E : Type 0} (jobs : Jobs) (n : ℕ) (ends : X → List Outcome) (fates : X → List Listed) (r : Result X E)
    → IsRunnable jobs → n ≤ last_number → IfOk r (λ x. fates x ≡ fates_of jobs n (ends x)) → IfOk r (λ x. AreInOrder (fates x))
in_order_if_ok jobs n ends fates (Ok x) run fits are =
    in_order jobs n (ends x) run.few_jobs run.some_threads run.few_threads run.few_rms fits (fates x) are
in_order_if_ok jobs n ends fates (Err e) run fits are = tt
