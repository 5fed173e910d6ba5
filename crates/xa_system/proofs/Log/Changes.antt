-- What a happening does to the log of a manager.
use Rattle.std.proofs.Common.{◌≡◌, ◌≢◌, ◌⊎◌, inl, inr, ℕ, zero, suc, Bool, true, false, refl, sym, ap, subst, ◌∙◌, arith}
use Rattle.std.specs.Prelude.{if◌then◌else◌, Option, Some, None, IsSomeAnd, Result, Ok, Err}
use Rattle.std.proofs.lemmas.Bool.{true≢false}
use Rattle.xa_model.specs.Facts.{doubt, fault_change, log, up}
use Rattle.xa_model.specs.Facts.Distinct.{IsNewTo}
use Rattle.xa_model.specs.Protocol.{IsRun, RightFault}
use Rattle.xa_model.specs.Trace.{Call, Fault, Fault.InRestart, Happening, Happening.Begun, Happening.Claimed, Happening.Failed, Happening.Issued, Line, Trace, Trace.Then}
use Rattle.xa_base.specs.declared.branch.Gtrid.{Gtrid}
use Rattle.xa_base.specs.declared.refusal.Refusal.{Refusal}
use Rattle.xa_base.specs.declared.refusal.Refusal.TheVariants as Refusals
use Rattle.xa_log.specs.Content.{Content, with_bump}
use Rattle.xa_log.specs.Contract.{LeavesAlso, MayMake, Moment, one_more_fault}
use Rattle.xa_model.proofs.AgreementLemmas.Distinct.{doubt_is_new_to}
use Rattle.xa_tm.proofs.Log.Leaves.{left_by_a_fault, left_by_a_restart, left_up, tied_down}
use Rattle.xa_tm.proofs.Log.Ties.{tied_same}
use Rattle.xa_tm.specs.Book.{Book, Doubt.NoDoubt, after, book_after, book_of, doubt_of, failed_restarts_after}
use Rattle.xa_tm.specs.Calls.{AsksFor, book_in, faults_by, log_in}
use Rattle.xa_tm.specs.Slots.{durable_in, last_out, log_held, slot_moment}
use Rattle.xa_tm.specs.BookAndLog.{IsChangeOf, IsTied, IsTiedDown, TiedBy, changed_by}
use Rattle.xa_tm.specs.declared.manager.Manager.{Manager}
use Rattle.xa_system.specs.LogInHistory.{AreTied, IsDurable, LogFollows, MayHaveFailed, change_in, count_after}
use Rattle.xa_tm.proofs.Log.TellsRows.{change_of, made_is}

-- no failure of the log
abbrev pub IsUncounted : Happening → Type 0
IsUncounted e = (n : ℕ) → count_after e n ≡ n

-- ** what leaves the rows alone

pub tied_begun : (near : Bool) (k : Book) (g : Gtrid) (held : Option Content) → IsTied near k held → IsTied near (after k (Begun g)) held
tied_begun near k g held =
    tied_same near k (after k (Begun g)) held
    (record { up = refl; incarnation = refl; failed_restarts = refl; row = λ q. refl; rows = refl; recorded = λ b. refl; records = refl; doubt = refl })

pub tied_claimed : (near : Bool) (k : Book) (g : Gtrid) (held : Option Content) → IsTied near k held → IsTied near (after k (Claimed g)) held
tied_claimed near k g held =
    tied_same near k (after k (Claimed g)) held
    (record { up = refl; incarnation = refl; failed_restarts = refl; row = λ q. refl; rows = refl; recorded = λ b. refl; records = refl; doubt = refl })

pub tied_issued : (near : Bool) (k : Book) (l : Line) (c : Call) (held : Option Content) → IsTied near k held → IsTied near (after k (Issued l c)) held
tied_issued near k l c held =
    tied_same near k (after k (Issued l c)) held
    (record { up = refl; incarnation = refl; failed_restarts = refl; row = λ q. refl; rows = refl; recorded = λ b. refl; records = refl; doubt = refl })

-- ** what a crash may leave

-- of a log that holds something, where a crash leaves exactly that
pub left_of_some : (near : Bool) (k : Book) (held : Option Content) (may : Content → Type 0) (P : Content → Type 0) → IsSomeAnd held P → IsTied near k held
    → ((c d : Content) → held ≡ Some c → may d → d ≡ c) → AreTied near k may
left_of_some near k None may P some tied durable d left = absurd some
left_of_some near k (Some c) may P some tied durable d left = subst (λ x. IsTied near k (Some x)) (sym (durable c d refl left)) tied

-- a place for a log is as durable as that
pub slot_durable : {L : Type 0} (moment : L → Moment) → IsDurable moment → IsDurable (slot_moment moment)
slot_durable moment durable slot c d order is left =
    durable_in (λ l. (moment l).content) (λ l. (moment l).is_in_order) (λ l. (moment l).may_leave) durable (log_held slot) (last_out slot) c d order is left

-- while it is down
down_tied : (near : Bool) (k : Book) (d : Content) → k.up ≡ false → IsTied near k (Some d) → IsTiedDown near k d
down_tied near k d down tied = let t : TiedBy false near k (Some d) = subst (λ u. TiedBy u near k (Some d)) down tied in t d refl

-- what the log is asked for in a step that is no restart
asked_is : (tr : Trace) (f : Fault) → ((m : ℕ) → failed_restarts_after (Failed f) m ≡ m) → (c : Content)
    → change_in tr f c ≡ changed_by (doubt_of (fault_change tr f)) c
asked_is tr InRestart still c = absurd (let one : suc zero ≡ zero = still zero in cc)
asked_is tr f still c = sym (made_is (fault_change tr f) c)

-- what the log is asked for if it may have failed is a change of the rows that are there
pub fault_is_change : (tr : Trace) (f : Fault) (k : Book) → k ≡ book_of tr → IsRun tr → RightFault tr f → up tr ≡ true
    → IsChangeOf k.row (doubt_of (fault_change tr f))
fault_is_change tr f k at run right is_up = subst (λ (b : Book). IsChangeOf b.row (doubt_of (fault_change tr f))) (sym at)
    (change_of (log tr) (fault_change tr f)
    (subst (λ (t : Bool). IsNewTo (log tr) (if t then fault_change tr f else doubt tr)) is_up (doubt_is_new_to (Then tr (Failed f)) (run, right))))

-- no failure, nothing that may have changed
none_failed : (tr : Trace) (e : Happening) (old new : Option Content) → IsUncounted e → MayHaveFailed tr e old new
none_failed tr (Failed f) old new uncounted = absurd (let one : one_more_fault 0 ≡ 0 = uncounted 0 in one_more one)
  where
    one_more : one_more_fault 0 ≡ 0 → ⊥
    one_more h = omega (arith, h)
none_failed tr e old new uncounted = tt

-- ** the log after a call of the manager

module _ {L : Type 0} (moment : L → Moment) where
  -- the log isn't asked
  pub log_kept : {tr : Trace} (e : Happening) (old new : Manager L) → IsUncounted e → log_in new ≡ log_in old
      → ((near : Bool) (held : Option Content) → IsTied near (book_in old) held → IsTied near (book_in new) held) → LogFollows moment tr e old new
  log_kept {tr} e old new uncounted same tied = record {
    order = λ h. subst (λ l. (moment l).is_in_order) (sym same) h;
    honest = λ h. subst (λ l. (moment l).is_honest) same h;
    tied = λ near order honest h. subst (λ l. IsTied near (book_in new) (moment l).content) (sym same) (tied near (moment (log_in old)).content h);
    counted = λ order honest h. ap (λ l. (moment l).fault_count) same ∙ sym (uncounted (moment (log_in old)).fault_count);
    counts = inl (ap (λ l. (moment l).fault_count) same ∙ sym (uncounted (moment (log_in old)).fault_count));
    failed = λ order honest. none_failed tr e (moment (log_in old)).content (moment (log_in new)).content uncounted;
    left = λ near durable order honest h may c is. tied near (Some c) (may c (subst (λ l. (moment l).may_leave c) same is));
  }

  pub log_same_book : {tr : Trace} (e : Happening) (old new : Manager L) → IsUncounted e → log_in new ≡ log_in old
      → book_in new ≡ book_in old → LogFollows moment tr e old new
  log_same_book e old new uncounted same book = log_kept e old new uncounted same (λ near held h. subst (λ k. IsTied near k held) (sym book) h)

  pub log_stays : {tr : Trace} (e : Happening) (manager : Manager L) → IsUncounted e → LogFollows moment tr e manager manager
  log_stays e manager uncounted = log_kept e manager manager uncounted refl (λ near held h. h)

  -- what a call says of the log that it asked
  pub record LogCalled {A : Type 0} (result : Result A Refusal) (old new : Manager L) : Type 0 where
    pub order : (moment (log_in old)).is_in_order → (moment (log_in new)).is_in_order
    pub honest : (moment (log_in new)).is_honest → (moment (log_in old)).is_honest
    pub tied : (near : Bool) → (moment (log_in old)).is_in_order → (moment (log_in new)).is_honest
        → IsTied near (book_in old) (moment (log_in old)).content → IsTied near (book_in new) (moment (log_in new)).content
    pub faults : (moment (log_in old)).is_in_order → (moment (log_in new)).is_honest
        → IsTied true (book_in old) (moment (log_in old)).content
        → (moment (log_in new)).fault_count ≡ faults_by result (moment (log_in old)).fault_count
    -- whatever the log, except if the manager was down
    pub counts : ((moment (log_in new)).fault_count ≡ faults_by result (moment (log_in old)).fault_count)
        ⊎ (((book_in old).up ≡ false) × ((moment (log_in new)).fault_count ≡ (moment (log_in old)).fault_count))

  pub log_called : {A : Type 0} (change : Content → Content) (result : Result A Refusal) (old new : Manager L)
      → AsksFor change (moment (log_in old)) (moment (log_in new)) result
      → ((near : Bool) → (moment (log_in old)).is_in_order → (moment (log_in new)).is_honest
      → IsTied near (book_in old) (moment (log_in old)).content → IsTied near (book_in new) (moment (log_in new)).content)
      → LogCalled result old new
  log_called change result old new asks tied = record {
    counts = inl asks.faults;
    order = asks.order;
    honest = asks.honest;
    tied = tied;
    faults = λ order honest h. asks.faults;
  }

  -- it did what it was to do, and the manager is up
  pub log_done : {A : Type 0} {tr : Trace} (e : Happening) (x : A) (old new : Manager L) → IsUncounted e → (book_in new).up ≡ true
      → LogCalled (let y : Result A Refusal = Ok x in y) old new → LogFollows moment tr e old new
  log_done {tr = tr} e x old new uncounted up did = record {
    order = did.order;
    honest = did.honest;
    tied = did.tied;
    counted = λ order honest h. did.faults order honest h ∙ sym (uncounted (moment (log_in old)).fault_count);
    counts = inl (same_count did.counts ∙ sym (uncounted (moment (log_in old)).fault_count));
    failed = λ order honest. none_failed tr e (moment (log_in old)).content (moment (log_in new)).content uncounted;
    left = λ near durable order honest h may.
        left_up near (book_in new) (moment (log_in new)).content (moment (log_in new)).may_leave up (did.tied near order honest h)
        (λ c d. durable (log_in new) c d (did.order order));
  }
    where
      same_count : ((moment (log_in new)).fault_count ≡ (moment (log_in old)).fault_count)
          ⊎ (((book_in old).up ≡ false) × ((moment (log_in new)).fault_count ≡ (moment (log_in old)).fault_count))
          → (moment (log_in new)).fault_count ≡ (moment (log_in old)).fault_count
      same_count (inl same) = same
      same_count (inr missed) = missed.1

  -- it was refused: the log is as before, or it failed, and may have made a change
  pub record LogUndone (A : Type 0) (n : Refusal) (change : Content → Content) (old new : Manager L) : Type 0 where
    pub called : LogCalled (let y : Result A Refusal = Err n in y) old new
    pub kept : n ≢ Refusals.LogFault → log_in new ≡ log_in old
    pub failed : n ≡ Refusals.LogFault → (moment (log_in old)).is_in_order → (moment (log_in new)).is_honest
        → MayMake change (moment (log_in old)).content (moment (log_in new)).content
    pub crash : (moment (log_in old)).is_in_order → (moment (log_in new)).is_honest
        → LeavesAlso change (moment (log_in old)).content (moment (log_in old)).may_leave (moment (log_in new)).may_leave

  pub log_undone : {A : Type 0} (n : Refusal) (change : Content → Content) (old new : Manager L)
      → AsksFor change (moment (log_in old)) (moment (log_in new)) (let y : Result A Refusal = Err n in y)
      → ((near : Bool) → (moment (log_in old)).is_in_order → (moment (log_in new)).is_honest
      → IsTied near (book_in old) (moment (log_in old)).content → IsTied near (book_in new) (moment (log_in new)).content)
      → (n ≢ Refusals.LogFault → log_in new ≡ log_in old) → LogUndone A n change old new
  log_undone {A = A} n change old new asks tied kept = record {
    called = log_called change _ old new asks tied;
    kept = kept;
    failed = λ is order honest. asks.fault order (ap (λ (m : Refusal). let y : Result A Refusal = Err m in y) is);
    crash = asks.crash;
  }

  failing_as : {A : Type 0} {tr : Trace} (f : Fault) (n : Refusal) (old new : Manager L) → n ≡ Refusals.LogFault
      → LogUndone A n (change_in tr f) old new
      → (((moment (log_in new)).fault_count ≡ one_more_fault (moment (log_in old)).fault_count)
      ⊎ ((let e : Happening = Failed f in e ≡ Failed InRestart) × ((moment (log_in new)).fault_count ≡ (moment (log_in old)).fault_count)))
      → ((near : Bool) → IsDurable moment → (moment (log_in old)).is_in_order → (moment (log_in new)).is_honest
      → IsTied near (book_in old) (moment (log_in old)).content → AreTied near (book_in old) (moment (log_in old)).may_leave
      → AreTied near (book_in new) (moment (log_in new)).may_leave)
      → LogFollows moment tr (Failed f) old new
  failing_as {A = A} f n old new is did counts left = record {
    order = did.called.order;
    honest = did.called.honest;
    tied = did.called.tied;
    counted =
        λ order honest h. did.called.faults order honest h
        ∙ ap (λ m. faults_by (let x : Result A Refusal = Err m in x) (moment (log_in old)).fault_count) is;
    counts = counts;
    failed = did.failed is;
    left = left;
  }

  -- the manager was up
  pub log_failing : {A : Type 0} {tr : Trace} (f : Fault) (n : Refusal) (old new : Manager L) → n ≡ Refusals.LogFault
      → (book_in old).up ≡ true → IsChangeOf (book_in old).row (doubt_of (fault_change tr f)) → ((m : ℕ) → failed_restarts_after (Failed f) m ≡ m)
      → book_in new ≡ book_after (book_in old) (doubt_of (fault_change tr f)) (Failed f)
      → LogUndone A n (change_in tr f) old new → LogFollows moment tr (Failed f) old new
  log_failing {A = A} {tr = tr} f n old new is up asked still book did =
      failing_as f n old new is did (inl (counted did.called.counts)) (λ near durable order honest h may d left.
      subst (λ k. IsTied near k (Some d)) (sym book)
      (tied_down near (book_after (book_in old) (doubt_of (fault_change tr f)) (Failed f)) d refl
      (left_by_a_fault near (book_in old) (doubt_of (fault_change tr f)) f (moment (log_in old)).content (moment (log_in old)).may_leave
      (moment (log_in new)).may_leave up asked (still (book_in old).failed_restarts) h (λ b c. durable (log_in old) b c order)
      (subst (λ (change : Content → Content). LeavesAlso change (moment (log_in old)).content (moment (log_in old)).may_leave (moment (log_in new)).may_leave)
      (λ i c. asked_is tr f still c i) (did.crash order honest)) d left)))
    where
      counted : ((moment (log_in new)).fault_count ≡ faults_by (let x : Result A Refusal = Err n in x) (moment (log_in old)).fault_count)
          ⊎ (((book_in old).up ≡ false) × ((moment (log_in new)).fault_count ≡ (moment (log_in old)).fault_count))
          → (moment (log_in new)).fault_count ≡ one_more_fault (moment (log_in old)).fault_count
      counted (inl same) = same ∙ ap (λ m. faults_by (let x : Result A Refusal = Err m in x) (moment (log_in old)).fault_count) is
      counted (inr missed) = absurd (true≢false (sym up ∙ missed.0))

  -- it was down
  pub restart_failing : {A : Type 0} {tr : Trace} (n : Refusal) (old new : Manager L) → n ≡ Refusals.LogFault
      → (book_in old).up ≡ false → book_in new ≡ book_after (book_in old) NoDoubt (Failed InRestart)
      → LogUndone A n with_bump old new → LogFollows moment tr (Failed InRestart) old new
  restart_failing {A = A} n old new is down book did =
      failing_as InRestart n old new is did (counted did.called.counts) (λ near durable order honest h may d left.
      subst (λ k. IsTied near k (Some d)) (sym book)
      (tied_down near (book_after (book_in old) NoDoubt (Failed InRestart)) d refl
      (left_by_a_restart near (book_in old) (moment (log_in old)).content (moment (log_in old)).may_leave (moment (log_in new)).may_leave down h
      (λ c was. down_tied near (book_in old) c down (may c was)) (did.crash order honest) d left)))
    where
      counted : ((moment (log_in new)).fault_count ≡ faults_by (let x : Result A Refusal = Err n in x) (moment (log_in old)).fault_count)
          ⊎ (((book_in old).up ≡ false) × ((moment (log_in new)).fault_count ≡ (moment (log_in old)).fault_count))
          → ((moment (log_in new)).fault_count ≡ one_more_fault (moment (log_in old)).fault_count)
          ⊎ ((let e : Happening = Failed InRestart in e ≡ Failed InRestart) × ((moment (log_in new)).fault_count ≡ (moment (log_in old)).fault_count))
      counted (inl same) = inl (same ∙ ap (λ m. faults_by (let x : Result A Refusal = Err m in x) (moment (log_in old)).fault_count) is)
      counted (inr missed) = inr (refl, missed.1)

  -- a restart that was refused by the log was one of a manager that was down
  pub restart_counts : {A : Type 0} (result : Result A Refusal) (old new : Manager L)
      → ((book_in old).up ≡ true → result ≡ Err Refusals.Busy)
      → ((moment (log_in new)).fault_count ≡ faults_by result (moment (log_in old)).fault_count)
      ⊎ ((result ≡ Err Refusals.LogFault) × ((moment (log_in new)).fault_count ≡ (moment (log_in old)).fault_count))
      → ((moment (log_in new)).fault_count ≡ faults_by result (moment (log_in old)).fault_count)
      ⊎ (((book_in old).up ≡ false) × ((moment (log_in new)).fault_count ≡ (moment (log_in old)).fault_count))
  restart_counts {A = A} result old new busy (inl same) = inl same
  restart_counts {A = A} result old new busy (inr missed) = inr (by (book_in old).up refl, missed.1)
    where
      by : (u : Bool) → (book_in old).up ≡ u → u ≡ false
      by true is = absurd (let two : (let x : Result A Refusal = Err Refusals.Busy in x) ≡ Err Refusals.LogFault = sym (busy is) ∙ missed.0 in cc)
      by false is = refl
