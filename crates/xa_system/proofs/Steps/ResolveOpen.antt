-- ResolveOpen: a recovery that decides.
use Rattle.std.proofs.Common.{◌≡◌, ℕ, List, length, map, refl, sym, ap, ◌∙◌}
use Rattle.std.specs.Prelude.{◌+◌, not, Option, Some, None, nat_lt}
use Rattle.xa_base.specs.Xid.{Xid}
use Rattle.xa_model.specs.Replies.Allowed.{Allowed, Allowed.As_value}
use Rattle.xa_model.specs.Facts as facts
use Rattle.xa_model.specs.Facts.{rm_up, waiting}
use Rattle.xa_model.specs.Replies.Rules.{has_rm, must_refuse}
use Rattle.xa_model.specs.Trace.{Happening.ResolvedOpen, Trace, Trace.Then, line}
use Rattle.xa_base.specs.declared.call.Call as Asking
use Rattle.xa_base.specs.declared.refusal.Refusal.{Refusal}
use Rattle.xa_base.specs.declared.refusal.Refusal.TheVariants as Refusals
use Rattle.xa_base.specs.declared.reply.Reply.{Reply}
use Rattle.xa_base.specs.declared.reply.Reply.TheVariants as Replies
use Rattle.xa_base.specs.declared.step.Step.TheVariants as Steps
use Rattle.xa_line.specs.Grid.{line_at, with_line}
use Rattle.xa_line.specs.Traffic.{Traffic, with_more}
use Rattle.xa_tm.specs.declared.manager.Manager.{Manager}
use Rattle.xa_system.specs.LogInHistory.{LogFollows}
use Rattle.xa_tm.specs.Calls.{book_in, log_in}
use Rattle.xa_line.specs.Histories.{known as known_call}
use Rattle.xa_system.specs.Parts.{GoesOn, HindersRecovery, Sees, Stands}
use Rattle.xa_system.specs.declared.parts.Parts.{Parts}
use Rattle.xa_system.proofs.Steps.OfManager.{book_then, with_manager}
use Rattle.xa_system.proofs.Histories.RefusedSteps.{lacking_goes, refused_goes}
use Rattle.xa_tm.specs.Book.{after}
use Rattle.xa_tm.specs.Refusing.{resolved_open_in}
use Rattle.xa_system.proofs.Steps.RecoveryRules.{open_rule, recovery_free, recovery_why}
use Rattle.xa_system.proofs.Steps.RecoveryGoes.{open_calls_found, open_so, recovery_goes}

module _ {R L : Type 0} (see : Sees R L) where
  open_why : (tr : Trace) (parts : Parts R L) (r n : ℕ) (o : Option Refusal)
      → n ≡ length (resolved_open_in (book_in parts.manager) r) → HindersRecovery see r n parts o → Stands see tr parts
      → must_refuse tr (Steps.ResolveOpen r) ≡ o
  open_why tr parts r n o many hinders stands =
      let count = many ∙ ap length (open_calls_found see tr parts r stands) in
      open_rule tr r
      ∙ ap (λ m. recovery_why (has_rm tr r) (facts.up tr) (rm_up tr r) (not (facts.is_open tr (line 0 r))) (facts.is_closed tr (line 0 r))
      (nat_lt 64 (waiting tr (line 0 r) + m))) (sym count)
      ∙ sym (hinders tr stands)

  pub open_hindered : (parts : Parts R L) (r n : ℕ) (o : Refusal) (reply : Reply Xid) → reply ≡ Replies.Refused o
      → n ≡ length (resolved_open_in (book_in parts.manager) r) → HindersRecovery see r n parts (Some o) → GoesOn see (Steps.ResolveOpen r) reply parts parts
  open_hindered parts r n o reply is many hinders =
      refused_goes see (Steps.ResolveOpen r) parts reply o tt is (λ tr stands. open_why tr parts r n (Some o) many hinders stands)

  pub open_lacks : (parts : Parts R L) (manager : Manager L) (r n : ℕ) (o : Refusal) (reply : Reply Xid)
      → reply ≡ Replies.Refused o → (o ≡ Refusals.Memory) × (book_in manager ≡ book_in parts.manager)
      → n ≡ length (resolved_open_in (book_in parts.manager) r) → HindersRecovery see r n parts None
      → log_in manager ≡ log_in parts.manager → GoesOn see (Steps.ResolveOpen r) reply parts (with_manager see parts manager)
  open_lacks parts manager r n o reply is lack many hinders same tr stands few =
      lacking_goes see tr (Steps.ResolveOpen r) parts manager reply stands tt (is ∙ ap (λ m. Replies.Refused m) lack.0)
      (open_why tr parts r n None many hinders stands) tt lack.1 same

  pub open_did : (parts : Parts R L) (r n : ℕ) (calls : List (Asking.Call Xid)) (x : Traffic) (manager : Manager L) (reply : Reply Xid)
      → reply ≡ Replies.Resolved n → n ≡ length (resolved_open_in (book_in parts.manager) r) → HindersRecovery see r n parts None
      → map known_call calls ≡ map Some (resolved_open_in (book_in parts.manager) r)
      → x ≡ record (line_at parts.lines 0 r) { calls = with_more (line_at parts.lines 0 r).calls calls }
      → book_in manager ≡ after (book_in parts.manager) (ResolvedOpen r)
      → ((tr : Trace) → LogFollows see.moment tr (ResolvedOpen r) parts.manager manager)
      → GoesOn see (Steps.ResolveOpen r) reply parts
      (record { alloc = parts.alloc; start = parts.start; began = parts.began; sites = parts.sites; lines = with_line parts.lines 0 r x; manager = manager })
  open_did parts r n calls x manager reply is many hinders are put book log tr stands few =
      let e = ResolvedOpen r in
      let free = recovery_free _ _ _ _ _ _ (sym (hinders tr stands)) in
      let same = open_calls_found see tr parts r stands in
      let allowed : Allowed tr (Steps.ResolveOpen r) (Replies.Resolved n) =
      As_value (open_why tr parts r n None many hinders stands) (ap (λ m. Replies.Resolved m) (many ∙ ap length same)) in
      recovery_goes see tr (Steps.ResolveOpen r) e r n
      (facts.resolving_calls (Then tr e) (facts.page tr r)) calls parts x manager reply stands tt is allowed refl (open_so see tr r) free.0
      (are ∙ ap (map Some) same) put (book_then see tr e parts manager stands (free.1, free.3) book) (log tr)
