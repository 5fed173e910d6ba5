-- What becomes of the log.
use Rattle.std.proofs.Common.{◌≡◌, ◌≢◌, ◌∙◌, ◌⊎◌, inl, inr, ℕ, Bool, true, Option, Some, None, refl, sym, ap, subst}
use Rattle.std.specs.Prelude.{Result, Ok, Err, OnOk, IfErr}
use Rattle.xa_base.specs.declared.branch.Gtrid.{Gtrid}
use Rattle.xa_base.specs.declared.refusal.Refusal.{Refusal}
use Rattle.xa_base.specs.declared.refusal.Refusal.TheVariants.{LogFault, Memory}
use Rattle.xa_base.specs.declared.step.Outcome.TheVariants as Outcomes
use Rattle.xa_base.specs.declared.step.Part.TheVariants as Parts
use Rattle.xa_base.proofs.Options.{err_is}
use Rattle.xa_log.specs.Content.{Content}
use Rattle.xa_log.specs.Contract.{Moment}
use Rattle.xa_model.specs.Trace.{Call, Fault, Happening.Begun, Happening.Claimed, Happening.Crashed, Happening.Decided, Happening.Failed, Happening.Issued, Happening.ResolvedOpen, Line}
use Rattle.xa_tm.proofs.Log.Leaves.{left_by_a_fault, left_up, tied_down}
use Rattle.xa_tm.proofs.Log.Ties.{SameOfLog, tied_same}
use Rattle.xa_tm.specs.Book.{Book, Doubt, after, book_after, failed_restarts_after}
use Rattle.xa_tm.specs.BookAndLog.{IsChangeOf, IsTied, changed_by}
use Rattle.xa_tm.specs.Calls.{AsksFor, FailsBy, book_in, log_in}
use Rattle.xa_tm.specs.Release.{book_without}
use Rattle.xa_tm.specs.declared.manager.Manager.{Manager}
use Rattle.xa_session.specs.Logging.{KeepsLog}

-- ** what the book says of the log

pub same_book : (k l : Book) → l ≡ k → SameOfLog k l
same_book k l is = subst (SameOfLog k) (sym is)
    (record { up = refl; incarnation = refl; failed_restarts = refl; row = λ q. refl; rows = refl; recorded = λ b. refl; records = refl; doubt = refl })

pub same_begun : (k l : Book) (g : Gtrid) → l ≡ after k (Begun g) → SameOfLog k l
same_begun k l g is = subst (SameOfLog k) (sym is)
    (record { up = refl; incarnation = refl; failed_restarts = refl; row = λ q. refl; rows = refl; recorded = λ b. refl; records = refl; doubt = refl })

pub same_claimed : (k l : Book) (g : Gtrid) → l ≡ after k (Claimed g) → SameOfLog k l
same_claimed k l g is = subst (SameOfLog k) (sym is)
    (record { up = refl; incarnation = refl; failed_restarts = refl; row = λ q. refl; rows = refl; recorded = λ b. refl; records = refl; doubt = refl })

pub same_abandoned : (k l : Book) (g : Gtrid) → l ≡ after k (Decided g Outcomes.Rollback) → SameOfLog k l
same_abandoned k l g is = subst (SameOfLog k) (sym is)
    (record { up = refl; incarnation = refl; failed_restarts = refl; row = λ q. refl; rows = refl; recorded = λ b. refl; records = refl; doubt = refl })

pub same_issued : (k l : Book) (w : Line) (c : Call) → l ≡ after k (Issued w c) → SameOfLog k l
same_issued k l w c is = subst (SameOfLog k) (sym is)
    (record { up = refl; incarnation = refl; failed_restarts = refl; row = λ q. refl; rows = refl; recorded = λ b. refl; records = refl; doubt = refl })

pub same_lost : (k l : Book) (t r : ℕ) → l ≡ after k (Crashed (Parts.Line t r)) → SameOfLog k l
same_lost k l t r is = subst (SameOfLog k) (sym is)
    (record { up = refl; incarnation = refl; failed_restarts = refl; row = λ q. refl; rows = refl; recorded = λ b. refl; records = refl; doubt = refl })

pub same_opened : (k l : Book) (r : ℕ) → l ≡ after k (ResolvedOpen r) → SameOfLog k l
same_opened k l r is = subst (SameOfLog k) (sym is)
    (record { up = refl; incarnation = refl; failed_restarts = refl; row = λ q. refl; rows = refl; recorded = λ b. refl; records = refl; doubt = refl })

pub same_released : (k l : Book) (g : Gtrid) → l ≡ book_without g k → SameOfLog k l
same_released k l g is = subst (SameOfLog k) (sym is)
    (record { up = refl; incarnation = refl; failed_restarts = refl; row = λ q. refl; rows = refl; recorded = λ b. refl; records = refl; doubt = refl })

-- ** what a crash may leave

-- of a log in order that holds something, exactly that
abbrev pub IsDurable : {L : Type 0} → (L → Moment) → Type 0
IsDurable moment = (log : _) (c d : Content) → (moment log).is_in_order → (moment log).content ≡ Some c → (moment log).may_leave d → d ≡ c

module _ {L : Type 0} (moment : L → Moment) where
  -- ** the log isn't asked

  pub quiet_keeps : (old new : Manager L) → log_in new ≡ log_in old → SameOfLog (book_in old) (book_in new) → KeepsLog moment old new
  quiet_keeps old new same says = record {
    order = λ h. subst (λ l. (moment l).is_in_order) (sym same) h;
    honest = λ h. subst (λ l. (moment l).is_honest) same h;
    holds = λ near order honest was. record {
      tied = subst (λ l. IsTied near (book_in new) (moment l).content) (sym same)
          (tied_same near (book_in old) (book_in new) (moment (log_in old)).content says was.tied);
      left = λ c may. tied_same near (book_in old) (book_in new) (Some c) says (was.left c (subst (λ l. (moment l).may_leave c) same may));
    };
    incarnation = says.incarnation;
  }

  -- nothing is done
  pub kept : (m : Manager L) → KeepsLog moment m m
  kept m = quiet_keeps m m refl (same_book (book_in m) (book_in m) refl)

  pub kept_as : (old new : Manager L) → new ≡ old → KeepsLog moment old new
  kept_as old new is = subst (KeepsLog moment old) (sym is) (kept old)

  -- one step after another
  pub both_keep : (a b c : Manager L) → KeepsLog moment a b → KeepsLog moment b c → KeepsLog moment a c
  both_keep a b c first second = record {
    order = λ h. second.order (first.order h);
    honest = λ h. first.honest (second.honest h);
    holds = λ near order honest was. second.holds near (first.order order) honest (first.holds near order (second.honest honest) was);
    incarnation = second.incarnation ∙ first.incarnation;
  }

  -- ** the log is asked

  abbrev pub KeepsTie : (old new : Manager L) → Type 0
  KeepsTie old new = (near : Bool) → (moment (log_in old)).is_in_order → (moment (log_in new)).is_honest
      → IsTied near (book_in old) (moment (log_in old)).content → IsTied near (book_in new) (moment (log_in new)).content

  -- the manager stayed up, or nothing was to be done
  pub record IsDone (old new : Manager L) : Type 0 where
    pub incarnation : (book_in new).incarnation ≡ (book_in old).incarnation
    pub does : ((book_in new).up ≡ true) ⊎ ((log_in new ≡ log_in old) × (book_in new ≡ book_in old))

  -- what a call of the manager says that may have asked the log, and that nothing of `why` refuses
  pub record Asks (why : Option Refusal) (asked : Doubt) (f : Fault) (old new : Manager L) (reply : Result (Unit {0}) Refusal) : Type 0 where
    pub asks : AsksFor (changed_by asked) (moment (log_in old)) (moment (log_in new)) reply
    pub tied : KeepsTie old new
    pub unasked : IfErr reply (λ n. n ≢ LogFault → log_in new ≡ log_in old)
    pub never : why ≡ Some LogFault → ⊥
    pub refused : (n : Refusal) → why ≡ Some n → (reply ≡ Err n) × (new ≡ old)
    pub err : why ≡ None → IfErr reply (FailsBy asked f (book_in old) (book_in new))
    pub ok : OnOk reply (IsDone old new)
    pub change : why ≡ None → reply ≡ Err LogFault → ((book_in old).up ≡ true) × IsChangeOf (book_in old).row asked
    pub still : (n : ℕ) → failed_restarts_after (Failed f) n ≡ n

  done_keeps : {A : Type 0} (change : Content → Content) (old new : Manager L) (reply : Result A Refusal) → IsDurable moment
      → AsksFor change (moment (log_in old)) (moment (log_in new)) reply → KeepsTie old new → IsDone old new → KeepsLog moment old new
  done_keeps change old new reply durable asks tied did = by did.does
    where
      by : ((book_in new).up ≡ true) ⊎ ((log_in new ≡ log_in old) × (book_in new ≡ book_in old)) → KeepsLog moment old new
      by (inl up) = record {
        order = asks.order;
        honest = asks.honest;
        holds = λ near order honest was. record {
          tied = tied near order honest was.tied;
          left = left_up near (book_in new) (moment (log_in new)).content (moment (log_in new)).may_leave up (tied near order honest was.tied)
              (λ c d. durable (log_in new) c d (asks.order order));
        };
        incarnation = did.incarnation;
      }
      by (inr same) = quiet_keeps old new same.0 (same_book (book_in old) (book_in new) same.1)

  fault_keeps : {A : Type 0} (asked : Doubt) (f : Fault) (old new : Manager L) (reply : Result A Refusal) → IsDurable moment
      → AsksFor (changed_by asked) (moment (log_in old)) (moment (log_in new)) reply → KeepsTie old new → (book_in old).up ≡ true
      → IsChangeOf (book_in old).row asked → ((n : ℕ) → failed_restarts_after (Failed f) n ≡ n)
      → book_in new ≡ book_after (book_in old) asked (Failed f) → KeepsLog moment old new
  fault_keeps asked f old new reply durable asks tied up of still book = record {
    order = asks.order;
    honest = asks.honest;
    holds = λ near order honest was. record {
      tied = tied near order honest was.tied;
      left = λ c may. subst (λ k. IsTied near k (Some c)) (sym book)
          (tied_down near (book_after (book_in old) asked (Failed f)) c refl
          (left_by_a_fault near (book_in old) asked f (moment (log_in old)).content (moment (log_in old)).may_leave (moment (log_in new)).may_leave up of
          (still (book_in old).failed_restarts) was.tied (λ b d. durable (log_in old) b d order) (asks.crash order honest) c may));
    };
    incarnation = ap (λ (k : Book). k.incarnation) book;
  }

fault_or_not : (n : Refusal) → (n ≡ LogFault) ⊎ (n ≢ LogFault)
fault_or_not LogFault = inl refl
fault_or_not _ = inr (λ e. absurd (cc))

pub memory_is_no_fault : (n : Refusal) → n ≡ Memory → n ≡ LogFault → ⊥
memory_is_no_fault n memory fault = let no : Memory ≡ LogFault = sym memory ∙ fault in absurd (cc)

module _ {L : Type 0} (moment : L → Moment) where
  pub asked_keeps : (why : Option Refusal) (asked : Doubt) (f : Fault) (old new : Manager L) (reply : Result (Unit {0}) Refusal) → IsDurable moment
      → Asks moment why asked f old new reply → KeepsLog moment old new
  asked_keeps why asked f old new (Ok x) durable did = done_keeps moment (changed_by asked) old new (Ok x) durable did.asks did.tied did.ok
  asked_keeps why asked f old new (Err n) durable did = by why refl (fault_or_not n)
    where
      fails : (n ≡ LogFault) → why ≡ None → FailsBy asked f (book_in old) (book_in new) n → KeepsLog moment old new
      fails fault none (inl memory) = absurd (memory_is_no_fault n memory.0 fault)
      fails fault none (inr failed) =
          let told : (let x : Result (Unit {0}) Refusal = Err n in x) ≡ Err LogFault = ap (λ m. let x : Result (Unit {0}) Refusal = Err m in x) fault in
          let may = did.change none told in
          fault_keeps moment asked f old new (Err n) durable did.asks did.tied may.0 may.1 did.still failed.1

      stays : (n ≢ LogFault) → FailsBy asked f (book_in old) (book_in new) n → KeepsLog moment old new
      stays other (inl memory) = quiet_keeps moment old new (did.unasked other) (same_book (book_in old) (book_in new) memory.1)
      stays other (inr failed) = absurd (other failed.0)

      by : (o : Option Refusal) → why ≡ o → (n ≡ LogFault) ⊎ (n ≢ LogFault) → KeepsLog moment old new
      by (Some m) is (inl fault) = absurd (did.never (is ∙ ap (λ p. Some p) (err_is m n (sym (did.refused m is).0) ∙ fault)))
      by (Some m) is (inr other) = kept_as moment old new (did.refused m is).1
      by None is (inl fault) = fails fault is (did.err is)
      by None is (inr other) = stays other (did.err is)
