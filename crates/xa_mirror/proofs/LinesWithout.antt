-- What a history says of transactions without a decision about which nothing was done, and which
-- calls it issues.
use Rattle.std.proofs.Common.{◌≡◌, ◌⊎◌, inl, inr, List, [], ◌∷◌, ◌++◌, length, Bool, true, false, not, ◌&&◌, ◌||◌, refl, sym, ap, ◌∙◌}
use Rattle.std.proofs.lemmas.Bool.{false_from_ne_true, or_left, or_parts}
use Rattle.std.specs.Prelude.{if◌then◌else◌, slice_get}
use Rattle.xa_base.proofs.BranchKeys.{gtrid_eq-true}
use Rattle.xa_base.specs.Branch.{gtrid_eq}
use Rattle.xa_base.specs.StateTable.{on}
use Rattle.xa_base.specs.declared.step.Outcome.TheVariants as Outcome
use Rattle.xa_base.specs.declared.step.Part.TheVariants as Part
use Rattle.xa_mirror.proofs.FactsWithout.{begun_is, broken_is, either, either_done, handed_is, log_is, page_is, records_are, taken_is, up_is}
use Rattle.xa_mirror.proofs.RowsWithout.{none_listed, others_listed}
use Rattle.xa_mirror.specs.HistoryWithout.{IsLeftUntouched, IsToCommitIn, history_without}
use Rattle.xa_model.specs.Facts.{begun, claimed, decided_so, handed_over, has_record, has_row, issued, lists_one_of, lists_row, live, log, new_calls, next_call, page, recorded, resolving_calls}
use Rattle.xa_model.specs.Trace.{Branch, Gtrid, Happening.Claimed, Happening.Crashed, Happening.Decided, Happening.Done, Happening.Failed, Happening.Nothing, Happening.Resolved, Happening.ResolvedOpen, Happening.Restarted, Kind.Commit, Kind.Forget, Kind.Rollback, Line, Name, Name.Foreign, Name.Ours, Trace, Trace.From, Trace.Then, line, line_eq}

clash : {t : Bool} → t ≡ true → t ≡ false → ⊥
clash p q = cc

module _ (g : Gtrid) where
  abbrev o : Trace → Trace
  o tr = history_without g tr

  -- it is another transaction, or isn't decided to commit in this process
  abbrev pub IsFree : Trace → Gtrid → Type 0
  IsFree tr h = (gtrid_eq h g ≡ false) ⊎ (decided_so Outcome.Commit tr h ≡ false)

  pub free_or_not : (tr : Trace) (h : Gtrid) → IsFree tr h ⊎ ((h ≡ g) × (decided_so Outcome.Commit tr h ≡ true))
  free_or_not tr h = by (gtrid_eq h g) refl (decided_so Outcome.Commit tr h) refl
    where
      by : (t : Bool) → gtrid_eq h g ≡ t → (u : Bool) → decided_so Outcome.Commit tr h ≡ u
          → IsFree tr h ⊎ ((h ≡ g) × (decided_so Outcome.Commit tr h ≡ true))
      by false p u q = inl (inl p)
      by true p false q = inl (inr q)
      by true p true q = inr (gtrid_eq-true h g p, q)

  -- a decision of the one transaction is none of a free one
  not_it : (tr : Trace) (k h : Gtrid) → gtrid_eq k g ≡ true → IsFree (Then tr (Decided k Outcome.Commit)) h → gtrid_eq k h ≡ false
  not_it tr k h p (inl apart) = false_from_ne_true _ (λ q. clash (ap (λ x. gtrid_eq x g) (sym (gtrid_eq-true k h q)) ∙ p) apart)
  not_it tr k h p (inr none) = (or_parts (gtrid_eq k h) (decided_so Outcome.Commit tr h) none).0

  free_before : (tr : Trace) (k h : Gtrid) → IsFree (Then tr (Decided k Outcome.Commit)) h → IsFree tr h
  free_before tr k h (inl apart) = inl apart
  free_before tr k h (inr none) = inr (or_parts (gtrid_eq k h) (decided_so Outcome.Commit tr h) none).1

  -- ** transactions

  pub committed_is : (tr : Trace) (h : Gtrid) → IsFree tr h → decided_so Outcome.Commit (o tr) h ≡ decided_so Outcome.Commit tr h
  committed_is (From x) h free = refl
  committed_is (Then tr (Decided k Outcome.Commit)) h free = by (committed_is tr h (free_before tr k h free)) (gtrid_eq k g) refl
    where
      by : decided_so Outcome.Commit (o tr) h ≡ decided_so Outcome.Commit tr h → (t : Bool) → gtrid_eq k g ≡ t
          → decided_so Outcome.Commit (Then (o tr) (if t then Nothing else Decided k Outcome.Commit)) h ≡ (gtrid_eq k h || decided_so Outcome.Commit tr h)
      by rest true p = rest ∙ sym (ap (λ t. t || decided_so Outcome.Commit tr h) (not_it tr k h p free))
      by rest false p = ap (λ t. gtrid_eq k h || t) rest
  committed_is (Then tr (Done k)) h free =
      either_done (λ e. decided_so Outcome.Commit (Then (o tr) e) h ≡ decided_so Outcome.Commit tr h) k (gtrid_eq k g)
      (committed_is tr h free) (committed_is tr h free)
  committed_is (Then tr (Failed f)) h free = committed_is tr h free
  committed_is (Then tr _) h free = committed_is tr h free

  pub claimed_is : (tr : Trace) (h : Gtrid) → IsFree tr h → claimed (o tr) h ≡ claimed tr h
  claimed_is (From x) h free = refl
  claimed_is (Then tr (Claimed k)) h free = ap (λ t. gtrid_eq k h || t) (claimed_is tr h free)
  claimed_is (Then tr (Decided k Outcome.Commit)) h free = by (claimed_is tr h (free_before tr k h free)) (gtrid_eq k g) refl
    where
      by : claimed (o tr) h ≡ claimed tr h → (t : Bool) → gtrid_eq k g ≡ t
          → claimed (Then (o tr) (if t then Nothing else Decided k Outcome.Commit)) h ≡ (not (gtrid_eq k h) && claimed tr h)
      by rest true p = rest ∙ sym (ap (λ t. not t && claimed tr h) (not_it tr k h p free))
      by rest false p = ap (λ t. not (gtrid_eq k h) && t) rest
  claimed_is (Then tr (Decided k Outcome.Rollback)) h free = ap (λ t. not (gtrid_eq k h) && t) (claimed_is tr h free)
  claimed_is (Then tr (Done k)) h free =
      either_done (λ e. claimed (Then (o tr) e) h ≡ claimed tr h) k (gtrid_eq k g) (claimed_is tr h free) (claimed_is tr h free)
  claimed_is (Then tr (Crashed Part.Manager)) h free = refl
  claimed_is (Then tr (Failed f)) h free = refl
  claimed_is (Then tr (Restarted i d n)) h free = refl
  claimed_is (Then tr _) h free = claimed_is tr h free

  pub rolled_back_is : (tr : Trace) → IsLeftUntouched g tr → (h : Gtrid) → decided_so Outcome.Rollback (o tr) h ≡ decided_so Outcome.Rollback tr h
  rolled_back_is (From x) still h = refl
  rolled_back_is (Then tr (Decided k Outcome.Commit)) still h =
      either (λ e. decided_so Outcome.Rollback (Then (o tr) e) h ≡ decided_so Outcome.Rollback tr h) k (gtrid_eq k g)
      (rolled_back_is tr still.0 h) (rolled_back_is tr still.0 h)
  rolled_back_is (Then tr (Done k)) still h =
      either_done (λ e. decided_so Outcome.Rollback (Then (o tr) e) h ≡ decided_so Outcome.Rollback tr h) k (gtrid_eq k g)
      (rolled_back_is tr still.0 h) (rolled_back_is tr still.0 h)
  rolled_back_is (Then tr (Decided k Outcome.Rollback)) still h = ap (λ t. gtrid_eq k h || t) (rolled_back_is tr still.0 h)
  rolled_back_is (Then tr (ResolvedOpen r)) still h = by (rolled_back_is tr still.0 h) (free_or_not tr h)
    where
      page_left : lists_one_of g (page tr r) ≡ false → h ≡ g → (s t : Bool) → (lists_one_of h (page tr r) && s) ≡ (lists_one_of h (page tr r) && t)
      page_left none same s t = ap (λ x. x && s) (ap (λ k. lists_one_of k (page tr r)) same ∙ none) ∙ sym (ap (λ x. x && t) (ap (λ k. lists_one_of k (page tr r)) same ∙ none))

      by : decided_so Outcome.Rollback (o tr) h ≡ decided_so Outcome.Rollback tr h → IsFree tr h ⊎ ((h ≡ g) × (decided_so Outcome.Commit tr h ≡ true))
          → ((lists_one_of h (page (o tr) r)
          && (begun (o tr) h && not (claimed (o tr) h || (decided_so Outcome.Commit (o tr) h || handed_over (o tr) h)))) || decided_so Outcome.Rollback (o tr) h)
          ≡ ((lists_one_of h (page tr r) && (begun tr h && not (claimed tr h || (decided_so Outcome.Commit tr h || handed_over tr h)))) || decided_so Outcome.Rollback tr h)
      by rest (inl free) = λ i.
          (lists_one_of h (page_is g tr r i)
          && (begun_is g tr h i && not (claimed_is tr h free i || (committed_is tr h free i || handed_is g tr h i)))) || rest i
      by rest (inr it) =
          (λ i. (lists_one_of h (page_is g tr r i) && (begun (o tr) h && not (claimed (o tr) h || (decided_so Outcome.Commit (o tr) h || handed_over (o tr) h)))) || rest i)
          ∙ ap (λ t. t || decided_so Outcome.Rollback tr h)
          (page_left (still.1 (or_left _ _ (ap (decided_so Outcome.Commit tr) (sym it.0) ∙ it.1))) it.0 _ _)
  rolled_back_is (Then tr (Failed f)) still h = rolled_back_is tr still.0 h
  rolled_back_is (Then tr _) still h = rolled_back_is tr still.0 h

  pub live_is : (tr : Trace) → IsLeftUntouched g tr → (h : Gtrid) → IsFree tr h → live (o tr) h ≡ live tr h
  live_is tr still h free = λ i.
      begun_is g tr h i && not (committed_is tr h free i || (rolled_back_is tr still h i || handed_is g tr h i))

  -- what is live is free
  pub live_free : (tr : Trace) (h : Gtrid) → live tr h ≡ true → IsFree tr h
  live_free tr h is = by (begun tr h) (decided_so Outcome.Commit tr h) refl is
    where
      by : (s t : Bool) → decided_so Outcome.Commit tr h ≡ t → (s && not (t || (decided_so Outcome.Rollback tr h || handed_over tr h))) ≡ true → IsFree tr h
      by s false q is = inr q
      by true true q is = cc
      by false true q is = cc

  pub live_still : (tr : Trace) → IsLeftUntouched g tr → (h : Gtrid) → live tr h ≡ true → live (o tr) h ≡ true
  live_still tr still h is = live_is tr still h (live_free tr h is) ∙ is

  -- ** rows and records

  pub row_there : (tr : Trace) (h : Gtrid) → gtrid_eq h g ≡ false → has_row (o tr) h ≡ has_row tr h
  row_there tr h apart = ap (λ xs. lists_row xs h) (log_is g tr) ∙ others_listed g h (log tr) apart

  pub row_gone : (tr : Trace) → has_row (o tr) g ≡ false
  row_gone tr = ap (λ xs. lists_row xs g) (log_is g tr) ∙ none_listed g (log tr)

  pub record_is : (tr : Trace) (b : Branch) → recorded (o tr) b ≡ recorded tr b
  record_is tr b = ap (λ xs. has_record xs b) (records_are g tr)

  -- ** calls

  -- recovery issues the same calls
  same_calls : (tr : Trace) → IsLeftUntouched g tr → (names : List Name) → (IsToCommitIn tr g → lists_one_of g names ≡ false)
      → resolving_calls (o tr) names ≡ resolving_calls tr names
  same_calls tr still [] none = refl
  same_calls tr still (Foreign x ∷ names) none = same_calls tr still names none
  same_calls tr still (Ours b ∷ names) none =
      by (same_calls tr still names (λ is. (or_parts (gtrid_eq b.gtrid g) (lists_one_of g names) (none is)).1)) (gtrid_eq b.gtrid g) refl
    where
      all_same : live (o tr) b.gtrid ≡ live tr b.gtrid → has_row (o tr) b.gtrid ≡ has_row tr b.gtrid
          → resolving_calls (o tr) names ≡ resolving_calls tr names → resolving_calls (o tr) (Ours b ∷ names) ≡ resolving_calls tr (Ours b ∷ names)
      all_same l r rest = λ i. if l i then rest i else on (if record_is tr b i then Forget else if r i then Commit else Rollback) b ∷ rest i

      by : resolving_calls (o tr) names ≡ resolving_calls tr names → (t : Bool) → gtrid_eq b.gtrid g ≡ t
          → resolving_calls (o tr) (Ours b ∷ names) ≡ resolving_calls tr (Ours b ∷ names)
      by rest false p = all_same (live_is tr still b.gtrid (inl p)) (row_there tr b.gtrid p) rest
      by rest true p = undecided (false_from_ne_true _ (λ is. clash (or_left (gtrid_eq b.gtrid g) (lists_one_of g names) p) (none is)))
        where
          it : b.gtrid ≡ g
          it = gtrid_eq-true b.gtrid g p

          undecided : (decided_so Outcome.Commit tr g || has_row tr g) ≡ false → resolving_calls (o tr) (Ours b ∷ names) ≡ resolving_calls tr (Ours b ∷ names)
          undecided n =
              let parts = or_parts (decided_so Outcome.Commit tr g) (has_row tr g) n in
              all_same (live_is tr still b.gtrid (inr (ap (decided_so Outcome.Commit tr) it ∙ parts.0)))
              (ap (has_row (o tr)) it ∙ (row_gone tr ∙ (sym parts.1 ∙ ap (has_row tr) (sym it)))) rest

  pub issued_are : (tr : Trace) → IsLeftUntouched g tr → (l : Line) → issued (o tr) l ≡ issued tr l
  issued_are (From x) still l = refl
  issued_are (Then tr (Decided h Outcome.Commit)) still l =
      either (λ e. issued (Then (o tr) e) l ≡ issued tr l ++ []) h (gtrid_eq h g) (ap (λ xs. xs ++ []) (issued_are tr still.0 l)) (ap (λ xs. xs ++ []) (issued_are tr still.0 l))
  issued_are (Then tr (Done h)) still l =
      either_done (λ e. issued (Then (o tr) e) l ≡ issued tr l ++ []) h (gtrid_eq h g) (ap (λ xs. xs ++ []) (issued_are tr still.0 l)) (ap (λ xs. xs ++ []) (issued_are tr still.0 l))
  issued_are (Then tr (Failed f)) still l = λ i. if up_is g tr i then [] else issued_are tr still.0 l i ++ []
  issued_are (Then tr (Restarted i d h)) still l = ap (λ xs. xs ++ []) (issued_are tr still.0 l)
  issued_are (Then tr (Resolved r)) still l = λ i.
      issued_are tr still.0 l i ++ (if line_eq (line 0 r) l then ((λ i. resolving_calls (o tr) (page_is g tr r i)) ∙ same_calls tr still.0 (page tr r) still.1) i else [])
  issued_are (Then tr (ResolvedOpen r)) still l = λ i.
      issued_are tr still.0 l i
      ++ (if line_eq (line 0 r) l
      then ((λ i. resolving_calls (Then (o tr) (ResolvedOpen r)) (page_is g tr r i)) ∙ same_calls (Then tr (ResolvedOpen r)) still (page tr r) still.1) i else [])
  issued_are (Then tr e) still l = λ i. if broken_is g tr e l i then [] else issued_are tr still.0 l i ++ new_calls tr e l

  pub next_call_is : (tr : Trace) → IsLeftUntouched g tr → (l : Line) → next_call (o tr) l ≡ next_call tr l
  next_call_is tr still l = λ i. slice_get (issued_are tr still l i) (length (taken_is g tr l i))
