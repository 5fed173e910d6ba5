-- Steps of the manager alone: begins, claims and decisions.
use Rattle.std.proofs.Common.{◌≡◌, ◌+◌, ◌≢◌, ℕ, refl, sym, ap, ◌∙◌, subst}
use Rattle.std.specs.Prelude.{Some, None, Result, Ok, Err}
use Rattle.xa_base.specs.Xid.{Xid}
use Rattle.xa_model.specs.Replies.Allowed.{MayLackMemory}
use Rattle.xa_model.specs.Replies.History.{reply_of, step_of}
use Rattle.xa_model.specs.Replies.ReadBack.{StepHasXids}
use Rattle.xa_model.specs.Replies.Rules.{must_refuse}
use Rattle.xa_model.specs.Trace.{Happening.Begun, Happening.Claimed, Happening.Decided, Happening.Done, Trace}
use Rattle.xa_base.specs.declared.branch.Gtrid.{Gtrid}
use Rattle.xa_base.specs.declared.refusal.Refusal.{Refusal}
use Rattle.xa_base.specs.declared.refusal.Refusal.TheVariants as Refusals
use Rattle.xa_base.specs.declared.reply.Reply.{Reply}
use Rattle.xa_base.specs.declared.reply.Reply.TheVariants as Replies
use Rattle.xa_base.specs.declared.step.Outcome.{Outcome}
use Rattle.xa_base.specs.declared.step.Outcome.TheVariants as Outcomes
use Rattle.xa_base.specs.declared.step.Step.{Step}
use Rattle.xa_base.specs.declared.step.Step.TheVariants as Steps
use Rattle.xa_base.proofs.Options.{err_is}
use Rattle.xa_tm.specs.declared.manager.Manager.{Manager}
use Rattle.xa_tm.specs.Calls.{book_in, log_in}
use Rattle.xa_tm.specs.BookAndLog.{IsTied}
use Rattle.xa_system.proofs.Log.Changes.{LogCalled, log_done, log_kept, tied_begun, tied_claimed}
use Rattle.xa_tm.specs.Laws.{IsLookedAt}
use Rattle.xa_system.specs.Parts.{GoesOn, Sees}
use Rattle.xa_system.specs.declared.parts.Parts.{Parts}
use Rattle.xa_tm.specs.Book.{Book, after}
use Rattle.xa_tm.specs.Refusing.{managers_refusal, refusal_in}
use Rattle.xa_system.proofs.Steps.OfManager.{IsOwn, did_goes, refused_or_lacking, up_in, with_manager}

module _ {R L : Type 0} (see : Sees R L) where
  pub own_begun : (tr : Trace) (g : Gtrid) → IsOwn see tr (Begun g)
  own_begun tr g =
      record {
        sites = λ r. record {
          quiet = record {
            branches = record { standing = λ b at. refl; vote = λ b at. refl; retries = λ b at. refl };
            scan_stays = refl;
          };
          is_up = refl;
        };
        unbroken = λ t r. refl;
        calls = λ t r. refl;
        taken = λ t r. refl;
        heard = λ t r. refl;
        fits = λ h. h;
        event = tt;
      }

  pub own_claimed : (tr : Trace) (g : Gtrid) → IsOwn see tr (Claimed g)
  own_claimed tr g =
      record {
        sites = λ r. record {
          quiet = record {
            branches = record { standing = λ b at. refl; vote = λ b at. refl; retries = λ b at. refl };
            scan_stays = refl;
          };
          is_up = refl;
        };
        unbroken = λ t r. refl;
        calls = λ t r. refl;
        taken = λ t r. refl;
        heard = λ t r. refl;
        fits = λ h. h;
        event = tt;
      }

  pub own_decided : (tr : Trace) (g : Gtrid) (o : Outcome) → IsOwn see tr (Decided g o)
  own_decided tr g o =
      record {
        sites = λ r. record {
          quiet = record {
            branches = record { standing = λ b at. refl; vote = λ b at. refl; retries = λ b at. refl };
            scan_stays = refl;
          };
          is_up = refl;
        };
        unbroken = λ t r. refl;
        calls = λ t r. refl;
        taken = λ t r. refl;
        heard = λ t r. refl;
        fits = λ h. h;
        event = tt;
      }

  pub own_done : (tr : Trace) (g : Gtrid) → IsOwn see tr (Done g)
  own_done tr g =
      record {
        sites = λ r. record {
          quiet = record {
            branches = record { standing = λ b at. refl; vote = λ b at. refl; retries = λ b at. refl };
            scan_stays = refl;
          };
          is_up = refl;
        };
        unbroken = λ t r. refl;
        calls = λ t r. refl;
        taken = λ t r. refl;
        heard = λ t r. refl;
        fits = λ h. h;
        event = tt;
      }

  -- a Begin
  pub begin_did : (parts : Parts R L) (manager : Manager L) (t : ℕ) (g : Gtrid) (reply : Reply Xid) → reply ≡ Replies.Begun g
      → refusal_in (book_in parts.manager) (Steps.Begin t) ≡ None
      → g ≡ record { incarnation = (book_in parts.manager).incarnation; sequence = (book_in parts.manager).sequence + 1 }
      → book_in manager ≡ after (book_in parts.manager) (Begun g)
      → log_in manager ≡ log_in parts.manager → GoesOn see (Steps.Begin t) reply parts (with_manager see parts manager)
  begin_did parts manager t g reply is none next book log tr stands few =
      did_goes see tr (Steps.Begin t) reply (Replies.Begun g) parts manager stands tt tt (ap reply_of is) refl none
      (ap (λ h. Replies.Begun h) (next ∙ ap (λ (k : Book). record { incarnation = k.incarnation; sequence = k.sequence + 1 }) stands.book))
      (own_begun tr g) refl book
      (log_kept see.moment (Begun g) parts.manager manager (λ k. refl) log
      (λ near held h. subst (λ k. IsTied near k held) (sym book) (tied_begun near (book_in parts.manager) g held h)))

  -- a refusal of the manager, or want of memory
  pub manager_refused : {A : Type 0} (step : Step Xid) (parts : Parts R L) (manager : Manager L) (n : Refusal) (reply : Reply Xid)
      → StepHasXids step → IsLookedAt (step_of step) → ((tr : Trace) → managers_refusal tr (step_of step) ≡ must_refuse tr (step_of step))
      → ((tr : Trace) → MayLackMemory tr (step_of step)) → reply ≡ Replies.Refused n
      → ((m : Refusal) → refusal_in (book_in parts.manager) (step_of step) ≡ Some m
      → ((let x : Result A Refusal = Err n in x) ≡ Err m) × (manager ≡ parts.manager))
      → (refusal_in (book_in parts.manager) (step_of step) ≡ None → (n ≡ Refusals.Memory) × (book_in manager ≡ book_in parts.manager))
      → (n ≢ Refusals.LogFault → log_in manager ≡ log_in parts.manager)
      → GoesOn see step reply parts (with_manager see parts manager)
  manager_refused step parts manager n reply has looked same may is refused lacking log tr stands few =
      refused_or_lacking see tr step reply parts manager n stands has looked is (same tr) (may tr)
      (λ m e. (sym (err_is n m (refused m e).0), ap book_in (refused m e).1)) lacking log

  -- a Claim and an Abandon
  pub claim_did : (parts : Parts R L) (manager : Manager L) (g : Gtrid) (reply : Reply Xid) → reply ≡ Replies.Claimed
      → refusal_in (book_in parts.manager) (Steps.Claim g) ≡ None
      → book_in manager ≡ after (book_in parts.manager) (Claimed g) → log_in manager ≡ log_in parts.manager
      → GoesOn see (Steps.Claim g) reply parts (with_manager see parts manager)
  claim_did parts manager g reply is none book log tr stands few =
      did_goes see tr (Steps.Claim g) reply Replies.Claimed parts manager stands tt tt (ap reply_of is) refl none refl (own_claimed tr g) refl book
      (log_kept see.moment (Claimed g) parts.manager manager (λ k. refl) log
      (λ near held h. subst (λ k. IsTied near k held) (sym book) (tied_claimed near (book_in parts.manager) g held h)))

  pub abandon_did : (parts : Parts R L) (manager : Manager L) (g : Gtrid) (reply : Reply Xid) → reply ≡ Replies.Decided
      → refusal_in (book_in parts.manager) (Steps.Abandon g) ≡ None
      → book_in manager ≡ after (book_in parts.manager) (Decided g Outcomes.Rollback)
      → LogCalled see.moment (let x : Result (Unit {0}) Refusal = Ok tt in x) parts.manager manager
      → GoesOn see (Steps.Abandon g) reply parts (with_manager see parts manager)
  abandon_did parts manager g reply is none book did tr stands few =
      did_goes see tr (Steps.Abandon g) reply Replies.Decided parts manager stands tt tt (ap reply_of is) refl none refl
      (own_decided tr g Outcomes.Rollback) refl book
      (log_done see.moment (Decided g Outcomes.Rollback) tt parts.manager manager (λ k. refl)
      (ap (λ (k : Book). k.up) book ∙ up_in see tr parts (Steps.Abandon g) tt refl refl stands none) did)

  pub decide_did : (parts : Parts R L) (manager : Manager L) (g : Gtrid) (o : Outcome) (reply : Reply Xid)
      → reply ≡ Replies.Decided → refusal_in (book_in parts.manager) (Steps.Decide g o) ≡ None
      → book_in manager ≡ after (book_in parts.manager) (Decided g o)
      → LogCalled see.moment (let x : Result (Unit {0}) Refusal = Ok tt in x) parts.manager manager
      → GoesOn see (Steps.Decide g o) reply parts (with_manager see parts manager)
  decide_did parts manager g o reply is none book did tr stands few =
      did_goes see tr (Steps.Decide g o) reply Replies.Decided parts manager stands tt tt (ap reply_of is) refl none refl (own_decided tr g o) refl book
      (log_done see.moment (Decided g o) tt parts.manager manager (λ k. refl)
      (ap (λ (k : Book). k.up) book ∙ up_in see tr parts (Steps.Decide g o) tt refl refl stands none) did)

  pub settle_did : (parts : Parts R L) (manager : Manager L) (g : Gtrid) (reply : Reply Xid) → reply ≡ Replies.Decided
      → refusal_in (book_in parts.manager) (Steps.Settle g) ≡ None
      → book_in manager ≡ after (book_in parts.manager) (Decided g Outcomes.Commit)
      → LogCalled see.moment (let x : Result (Unit {0}) Refusal = Ok tt in x) parts.manager manager
      → GoesOn see (Steps.Settle g) reply parts (with_manager see parts manager)
  settle_did parts manager g reply is none book did tr stands few =
      did_goes see tr (Steps.Settle g) reply Replies.Decided parts manager stands tt tt (ap reply_of is) refl none refl
      (own_decided tr g Outcomes.Commit) refl book
      (log_done see.moment (Decided g Outcomes.Commit) tt parts.manager manager (λ k. refl)
      (ap (λ (k : Book). k.up) book ∙ up_in see tr parts (Steps.Settle g) tt refl refl stands none) did)

  pub done_did : (parts : Parts R L) (manager : Manager L) (g : Gtrid) (reply : Reply Xid) → reply ≡ Replies.Noted
      → refusal_in (book_in parts.manager) (Steps.Done g) ≡ None
      → book_in manager ≡ after (book_in parts.manager) (Done g) → LogCalled see.moment (let x : Result (Unit {0}) Refusal = Ok tt in x) parts.manager manager
      → GoesOn see (Steps.Done g) reply parts (with_manager see parts manager)
  done_did parts manager g reply is none book did tr stands few =
      did_goes see tr (Steps.Done g) reply Replies.Noted parts manager stands tt tt (ap reply_of is) refl none refl (own_done tr g) refl book
      (log_done see.moment (Done g) tt parts.manager manager (λ k. refl)
      (ap (λ (k : Book). k.up) book ∙ up_in see tr parts (Steps.Done g) tt refl refl stands none) did)
