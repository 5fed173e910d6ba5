-- Resolve: the calls that a recovery comes to.
use Rattle.std.proofs.Common.{◌≡◌, ℕ, List, length, map, refl, sym, ap, ◌∙◌}
use Rattle.std.specs.Prelude.{◌+◌, not, Option, Some, None, nat_lt}
use Rattle.xa_base.specs.Xid.{Xid}
use Rattle.xa_model.specs.Replies.Allowed.{Allowed, Allowed.As_value}
use Rattle.xa_model.specs.Facts as facts
use Rattle.xa_model.specs.Facts.{rm_up, waiting}
use Rattle.xa_model.specs.Replies.Rules.{has_rm, must_refuse}
use Rattle.xa_model.specs.Trace.{Happening.Resolved, Trace, line}
use Rattle.xa_base.specs.declared.call.Call as Asking
use Rattle.xa_base.specs.declared.refusal.Refusal.{Refusal}
use Rattle.xa_base.specs.declared.refusal.Refusal.TheVariants as Refusals
use Rattle.xa_base.specs.declared.reply.Reply.{Reply}
use Rattle.xa_base.specs.declared.reply.Reply.TheVariants as Replies
use Rattle.xa_base.specs.declared.step.Step.TheVariants as Steps
use Rattle.xa_model.proofs.Replies.Replies.{allowed_right}
use Rattle.xa_line.specs.Grid.{line_at, with_line}
use Rattle.xa_line.specs.Traffic.{Traffic, with_more}
use Rattle.xa_system.proofs.Log.Changes.{log_stays}
use Rattle.xa_tm.specs.Calls.{book_in}
use Rattle.xa_line.specs.Histories.{known as known_call}
use Rattle.xa_system.specs.Parts.{GoesOn, HindersRecovery, Sees, Stands}
use Rattle.xa_system.specs.declared.parts.Parts.{Parts}
use Rattle.xa_system.proofs.Steps.OfManager.{book_then}
use Rattle.xa_system.proofs.Histories.RefusedSteps.{lacking_goes, refused_goes}
use Rattle.xa_tm.specs.Refusing.{resolved_in}
use Rattle.xa_system.proofs.Steps.RecoveryRules.{recovery_free, recovery_why, resolve_rule}
use Rattle.xa_system.proofs.Steps.RecoveryGoes.{calls_found, recovery_goes, resolved_so}

module _ {R L : Type 0} (see : Sees R L) where
  resolve_why : (tr : Trace) (parts : Parts R L) (r n : ℕ) (o : Option Refusal)
      → n ≡ length (resolved_in (book_in parts.manager) r) → HindersRecovery see r n parts o → Stands see tr parts → must_refuse tr (Steps.Resolve r) ≡ o
  resolve_why tr parts r n o many hinders stands =
      let count = many ∙ ap length (calls_found see tr parts r stands) in
      resolve_rule tr r
      ∙ ap (λ m. recovery_why (has_rm tr r) (facts.up tr) (rm_up tr r) (not (facts.is_open tr (line 0 r))) (facts.is_closed tr (line 0 r))
      (nat_lt 64 (waiting tr (line 0 r) + m))) (sym count)
      ∙ sym (hinders tr stands)

  pub resolve_hindered : (parts : Parts R L) (r n : ℕ) (o : Refusal) (reply : Reply Xid) → reply ≡ Replies.Refused o
      → n ≡ length (resolved_in (book_in parts.manager) r) → HindersRecovery see r n parts (Some o) → GoesOn see (Steps.Resolve r) reply parts parts
  resolve_hindered parts r n o reply is many hinders =
      refused_goes see (Steps.Resolve r) parts reply o tt is (λ tr stands. resolve_why tr parts r n (Some o) many hinders stands)

  pub resolve_lacks : (parts : Parts R L) (r n : ℕ) (o : Refusal) (reply : Reply Xid) → reply ≡ Replies.Refused o
      → o ≡ Refusals.Memory → n ≡ length (resolved_in (book_in parts.manager) r) → HindersRecovery see r n parts None
      → GoesOn see (Steps.Resolve r) reply parts parts
  resolve_lacks parts r n o reply is lack many hinders tr stands few =
      lacking_goes see tr (Steps.Resolve r) parts parts.manager reply stands tt (is ∙ ap (λ m. Replies.Refused m) lack)
      (resolve_why tr parts r n None many hinders stands) tt refl refl

  pub resolve_did : (parts : Parts R L) (r n : ℕ) (calls : List (Asking.Call Xid)) (x : Traffic) (reply : Reply Xid)
      → reply ≡ Replies.Resolved n → n ≡ length (resolved_in (book_in parts.manager) r) → HindersRecovery see r n parts None
      → map known_call calls ≡ map Some (resolved_in (book_in parts.manager) r)
      → x ≡ record (line_at parts.lines 0 r) { calls = with_more (line_at parts.lines 0 r).calls calls }
      → GoesOn see (Steps.Resolve r) reply parts
      (record {
        alloc = parts.alloc;
        start = parts.start;
        began = parts.began;
        sites = parts.sites;
        lines = with_line parts.lines 0 r x;
        manager = parts.manager;
      })
  resolve_did parts r n calls x reply is many hinders are put tr stands few =
      let e = Resolved r in
      let same = calls_found see tr parts r stands in
      let free = recovery_free _ _ _ _ _ _ (sym (hinders tr stands)) in
      let allowed : Allowed tr (Steps.Resolve r) (Replies.Resolved n) =
      As_value (resolve_why tr parts r n None many hinders stands) (ap (λ m. Replies.Resolved m) (many ∙ ap length same)) in
      recovery_goes see tr (Steps.Resolve r) e r n
      (facts.resolving_calls tr (facts.page tr r)) calls parts x parts.manager reply stands tt is allowed refl (resolved_so see tr r) free.0
      (are ∙ ap (map Some) same) put (book_then see tr e parts parts.manager stands (allowed_right tr (Steps.Resolve r) (Replies.Resolved n) allowed) refl)
      (log_stays see.moment e parts.manager (λ k. refl))
