-- The restart of the manager.
use Rattle.std.proofs.Common.{◌≡◌, ◌≤◌, inl, inr, ℕ, Bool, true, false, refl, sym, ap, ◌∙◌, subst}
use Rattle.std.specs.Prelude.{if◌then◌else◌, Option, Some, None}
use Rattle.xa_base.specs.Xid.{Xid}
use Rattle.xa_model.specs.Replies.Allowed.{Allowed, Allowed.As_value, Allowed.For_log}
use Rattle.xa_model.specs.Facts as facts
use Rattle.xa_model.specs.Replies.History.{reply_of}
use Rattle.xa_model.specs.Replies.Rules.{must_refuse}
use Rattle.xa_model.specs.Trace.{Fault.InRestart, Happening.Failed, Happening.Restarted, Trace}
use Rattle.xa_base.specs.declared.refusal.Refusal.{Refusal}
use Rattle.xa_base.specs.declared.refusal.Refusal.TheVariants as Refusals
use Rattle.xa_base.specs.declared.reply.Reply.{Reply}
use Rattle.xa_base.specs.declared.reply.Reply.TheVariants as Replies
use Rattle.xa_base.specs.declared.step.Side.TheVariants as Sides
use Rattle.xa_base.specs.declared.step.Step.TheVariants as Steps
use Rattle.xa_model.proofs.Replies.Replies.{allowed_right}
use Rattle.xa_log.specs.Content.{last_number, with_bump}
use Rattle.xa_tm.specs.declared.manager.Manager.{Manager}
use Rattle.xa_system.specs.LogInHistory.{LogFollows}
use Rattle.xa_system.proofs.Log.Changes.{LogUndone, restart_failing}
use Rattle.xa_tm.specs.declared.manager.restart.Found.{Found}
use Rattle.xa_tm.specs.Calls.{book_in, FailsBy}
use Rattle.xa_system.specs.Parts.{OneMore, Sees, Stands}
use Rattle.xa_system.specs.declared.parts.Parts.{Parts}
use Rattle.xa_system.proofs.Steps.OfManager.{IsOwn, book_then, own_follows, with_manager}
use Rattle.xa_system.proofs.Histories.Standing.{goes_as, up_is}
use Rattle.xa_system.proofs.Histories.RefusedSteps.{lacking_goes, rule_goes}
use Rattle.xa_tm.specs.Book.{Doubt.NoDoubt, after, book_of}
use Rattle.xa_tm.specs.BookAndLog.{IsFound}
use Rattle.xa_tm.proofs.History.Finds.{found_is_allowed}

module _ {R L : Type 0} (see : Sees R L) where
  own_restarted : (tr : Trace) (i d h : ℕ) → i ≤ last_number → IsOwn see tr (Restarted i d h)
  own_restarted tr i d h most =
      record {
        sites = λ r. record {
          quiet = record {
            branches = record { standing = λ b at. refl; vote = λ b at. refl; retries = λ b at. refl };
            scan_stays = refl;
          };
          is_up = refl;
        };
        unbroken = λ t r. refl;
        calls = λ t r. refl;
        taken = λ t r. refl;
        heard = λ t r. refl;
        fits = λ fits. most;
        event = tt;
      }

  -- a failed restart breaks nothing
  own_failed : (tr : Trace) → facts.up tr ≡ false → IsOwn see tr (Failed InRestart)
  own_failed tr down =
      record {
        sites = λ r. record {
          quiet = record {
            branches = record { standing = λ b at. rw down refl; vote = λ b at. refl; retries = λ b at. refl };
            scan_stays = rw down refl;
          };
          is_up = refl;
        };
        unbroken = λ t r. down;
        calls = λ t r. refl;
        taken = λ t r. refl;
        heard = λ t r. refl;
        fits = λ h. h;
        event = tt;
      }

  abbrev restart_why : (up : Bool) → Option Refusal
  restart_why up = if up then Some Refusals.Busy else None

  restart_free : (tr : Trace) → facts.up tr ≡ false → must_refuse tr (Steps.Restart Sides.Manager) ≡ None
  restart_free tr down = λ i. restart_why (down i)

  pub restart_did : (parts : Parts R L) (manager : Manager L) (i d h : ℕ) (reply : Reply Xid) → reply ≡ Replies.Restarted i d h
      → (book_in parts.manager).up ≡ false
      → book_in manager ≡ after (book_in parts.manager) (Restarted i d h) → IsFound (book_in parts.manager) i d h → i ≤ last_number
      → ((tr : Trace) → LogFollows see.moment tr (Restarted i d h) parts.manager manager)
      → (tr : Trace) → Stands see tr parts → OneMore see (Steps.Restart Sides.Manager) reply tr parts (with_manager see parts manager)
  restart_did parts manager i d h reply is down book found most log tr stands =
      let e = Restarted i d h in
      let at : IsFound (book_of tr) i d h = subst (λ k. IsFound k i d h) stands.book found in
      let allowed : Allowed tr (Steps.Restart Sides.Manager) (Replies.Restarted i d h) =
      As_value (restart_free tr (sym (up_is see tr parts stands) ∙ down)) (found_is_allowed tr i d h stands.kept.run stands.apart at) in
      goes_as see tr (Steps.Restart Sides.Manager) reply (Replies.Restarted i d h) parts (with_manager see parts manager) stands tt (ap reply_of is) allowed
      (own_follows see tr e parts manager (own_restarted tr i d h most) stands
      (book_then see tr e parts manager stands (allowed_right tr (Steps.Restart Sides.Manager) (Replies.Restarted i d h) allowed) book) (log tr))

  pub restart_undone : (parts : Parts R L) (manager : Manager L) (n : Refusal) (reply : Reply Xid) → reply ≡ Replies.Refused n
      → ((book_in parts.manager).up ≡ true → (n ≡ Refusals.Busy) × (book_in manager ≡ book_in parts.manager))
      → ((book_in parts.manager).up ≡ false → FailsBy NoDoubt InRestart (book_in parts.manager) (book_in manager) n)
      → LogUndone see.moment Found n with_bump parts.manager manager
      → (tr : Trace) → Stands see tr parts → OneMore see (Steps.Restart Sides.Manager) reply tr parts (with_manager see parts manager)
  restart_undone parts manager n reply is busy fails undone tr stands = by_up (book_in parts.manager).up refl
    where
      by_cause : facts.up tr ≡ false → FailsBy NoDoubt InRestart (book_in parts.manager) (book_in manager) n
          → OneMore see (Steps.Restart Sides.Manager) reply tr parts (with_manager see parts manager)
      by_cause down (inl w) =
          lacking_goes see tr (Steps.Restart Sides.Manager) parts manager reply stands tt (is ∙ ap (λ m. Replies.Refused m) w.0) (restart_free tr down) tt w.1
          (undone.kept (λ q. absurd (let two : Refusals.Memory ≡ Refusals.LogFault = sym w.0 ∙ q in cc)))
      by_cause down (inr w) =
          let allowed : Allowed tr (Steps.Restart Sides.Manager) (Replies.Refused Refusals.LogFault) = For_log (restart_free tr down) tt refl in
          goes_as see tr (Steps.Restart Sides.Manager) reply (Replies.Refused Refusals.LogFault) parts
          (with_manager see parts manager) stands tt (ap reply_of (is ∙ ap (λ m. Replies.Refused m) w.0)) allowed
          (own_follows see tr (Failed InRestart) parts manager (own_failed tr down) stands
          (book_then see tr (Failed InRestart) parts manager stands
          (allowed_right tr (Steps.Restart Sides.Manager) (Replies.Refused Refusals.LogFault) allowed) w.1)
          (restart_failing see.moment n parts.manager manager w.0 (up_is see tr parts stands ∙ down) w.1 undone))

      by_up : (u : Bool) → (book_in parts.manager).up ≡ u → OneMore see (Steps.Restart Sides.Manager) reply tr parts (with_manager see parts manager)
      by_up true e =
          let w = busy e in
          let up : facts.up tr ≡ true = sym (up_is see tr parts stands) ∙ e in
          rule_goes see tr (Steps.Restart Sides.Manager) reply parts manager Refusals.Busy stands tt (is ∙ ap (λ m. Replies.Refused m) w.0)
          (λ i. restart_why (up i)) w.1
          (undone.kept (λ q. absurd (let two : Refusals.Busy ≡ Refusals.LogFault = sym w.0 ∙ q in cc)))
      by_up false e = by_cause (sym (up_is see tr parts stands) ∙ e) (fails e)
