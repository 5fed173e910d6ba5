-- What a crash of the log's store may leave.
use Rattle.std.proofs.Common.{◌≡◌, ◌≤◌, ◌+◌, ◌⊎◌, inl, inr, Bool, true, false, Option, Some, None, IsSomeAnd, refl, sym, ap, subst, arith}
use Rattle.xa_base.specs.declared.step.Part.{Part}
use Rattle.xa_base.proofs.Options.{some_is}
use Rattle.xa_model.specs.Trace.{Fault, Fault.InRestart, Happening.Crashed, Happening.Failed}
use Rattle.xa_log.specs.Content.{Content, with_bump}
use Rattle.xa_log.specs.Contract.{LeavesAlso}
use Rattle.xa_tm.specs.Book.{Book, Doubt, Doubt.NoDoubt, after, book_after, failed_restarts_after}
use Rattle.xa_tm.specs.Leaving.{LeavesTied}
use Rattle.xa_tm.specs.BookAndLog.{IsChangeOf, IsTied, IsTiedDown, IsTiedUp, TiedBy, changed_by}
use Rattle.xa_tm.proofs.Log.Restart.{tied_no_restart}
use Rattle.xa_tm.proofs.Log.Ties.{tied_fault, up_content}

-- while the manager is up, a crash leaves what the log holds
pub left_up : (near : Bool) (k : Book) (held : Option Content) (may : Content → Type 0) → k.up ≡ true → IsTied near k held
    → ((c d : Content) → held ≡ Some c → may d → d ≡ c) → (c : Content) → may c → IsTied near k (Some c)
left_up near k held may up tied durable d left = by held (up_content near k held up tied) tied durable
  where
    by : (held : Option Content) → IsSomeAnd held (IsTiedUp k) → IsTied near k held → ((c d : Content) → held ≡ Some c → may d → d ≡ c) → IsTied near k (Some d)
    by None some tied durable = absurd some
    by (Some c) some tied durable = subst (λ x. IsTied near k (Some x)) (sym (durable c d refl left)) tied

-- what is tied once it is down
pub tied_down : (near : Bool) (k : Book) (d : Content) → k.up ≡ false → IsTiedDown near k d → IsTied near k (Some d)
tied_down near k d down t = subst (λ u. TiedBy u near k (Some d)) (sym down) (λ c is. subst (IsTiedDown near k) (let same : d ≡ c = cc in same) t)

pub left_while_up : (near : Bool) (k : Book) (log : Option Content) (may : Content → Type 0) → k.up ≡ true → IsTied near k log
    → ((c d : Content) → log ≡ Some c → may d → d ≡ c) → LeavesTied near k may
left_while_up near k log may up tied holds d left = by log (up_content near k log up tied) holds
  where
    by : (log : Option Content) → IsSomeAnd log (IsTiedUp k) → ((c d : Content) → log ≡ Some c → may d → d ≡ c) → IsTiedDown near k d
    by None t holds = absurd t
    by (Some c) t holds = subst (IsTiedDown near k) (sym (holds c d refl left)) (record {
      holds = (c, t.holds, inl (record { decisions = refl; heuristics = refl }));
      incarnation = λ h. record {
        least = let a : k.incarnation ≤ c.incarnation = omega (arith, t.incarnation) in a;
        most = let a : c.incarnation ≤ k.incarnation + k.failed_restarts = omega (arith, t.incarnation) in a;
      };
    })

pub left_by_a_fault : (near : Bool) (k : Book) (asked : Doubt) (f : Fault) (log : Option Content) (old new : Content → Type 0) → k.up ≡ true
    → IsChangeOf k.row asked → failed_restarts_after (Failed f) k.failed_restarts ≡ k.failed_restarts → IsTied near k log
    → ((c d : Content) → log ≡ Some c → old d → d ≡ c)
    → LeavesAlso (changed_by asked) log old new → LeavesTied near (book_after k asked (Failed f)) new
left_by_a_fault near k asked f log old new up of same tied holds leaves d left = by log tied holds (leaves d left)
  where
    by : (log : Option Content) → IsTied near k log → ((c d : Content) → log ≡ Some c → old d → d ≡ c)
        → old d ⊎ IsSomeAnd log (λ b. d ≡ changed_by asked b) → IsTiedDown near (book_after k asked (Failed f)) d
    by None tied holds r = absurd (up_content near k None up tied)
    by (Some c) tied holds (inl o) = tied_fault near k asked f (Some c) (Some d) up of same (inr (inl (ap (λ x. Some x) (holds c d refl o)))) tied d refl
    by (Some c) tied holds (inr e) = tied_fault near k asked f (Some c) (Some d) up of same (inr (inr (ap (λ x. Some x) e))) tied d refl

pub left_by_a_restart : (near : Bool) (k : Book) (log : Option Content) (old new : Content → Type 0) → k.up ≡ false → IsTied near k log → LeavesTied near k old
    → LeavesAlso with_bump log old new → LeavesTied near (book_after k NoDoubt (Failed InRestart)) new
left_by_a_restart near k log old new down tied was leaves d left = by log tied (leaves d left)
  where
    by : (log : Option Content) → IsTied near k log → old d ⊎ IsSomeAnd log (λ b. d ≡ with_bump b) → IsTiedDown near (book_after k NoDoubt (Failed InRestart)) d
    by log tied (inl o) = tied_no_restart near k (Some d) (Some d) down (inr (inl refl))
        (subst (λ u. TiedBy u near k (Some d)) (sym down) (λ c is. subst (IsTiedDown near k) (some_is d c is) (was d o))) d refl
    by None tied (inr e) = absurd e
    by (Some c) tied (inr e) = tied_no_restart near k (Some c) (Some d) down (inr (inr (ap (λ x. Some x) e))) tied d refl

pub left_by_a_crash : (near : Bool) (k : Book) (p : Part) (may : Content → Type 0) → LeavesTied near k may → LeavesTied near (after k (Crashed p)) may
left_by_a_crash near k p may was d left =
    let t = was d left in
    record {
      holds = (
        t.holds.0,
        record { rows = t.holds.1.rows; row_number = t.holds.1.row_number; records = t.holds.1.records; record_number = t.holds.1.record_number },
        t.holds.2,
      );
      incarnation = λ h. record { least = (t.incarnation h).least; most = (t.incarnation h).most };
    }
