-- A step that is refused leaves the parts as they were.
use Rattle.std.proofs.Common.{◌≡◌, refl, sym, ap, subst}
use Rattle.std.specs.Prelude.{Some, None}
use Rattle.xa_base.specs.Xid.{Xid}
use Rattle.xa_model.specs.Replies.Allowed.{Allowed.By_rule, Allowed.For_memory, MayLackMemory}
use Rattle.xa_model.specs.Replies.History.{reply_of, step_of}
use Rattle.xa_model.specs.Replies.ReadBack.{StepHasXids}
use Rattle.xa_model.specs.Replies.Rules.{must_refuse}
use Rattle.xa_model.specs.Replies.Steps.{Step as Known, happened}
use Rattle.xa_model.specs.Trace.{Happening.Nothing, Trace}
use Rattle.xa_base.specs.declared.refusal.Refusal.{Refusal}
use Rattle.xa_base.specs.declared.refusal.Refusal.TheVariants as Refusals
use Rattle.xa_base.specs.declared.reply.Reply.{Reply}
use Rattle.xa_base.specs.declared.reply.Reply.TheVariants as Replies
use Rattle.xa_model.proofs.Replies.Guards.{IsForced, forced}
use Rattle.xa_base.specs.declared.step.Step.{Step}
use Rattle.xa_tm.specs.declared.manager.Manager.{Manager}
use Rattle.xa_tm.specs.Calls.{book_in, log_in}
use Rattle.xa_system.specs.Parts.{GoesOn, OneMore, Sees, Stands}
use Rattle.xa_system.specs.declared.parts.Parts.{Parts}
use Rattle.xa_system.proofs.Histories.Standing.{Follows, goes_as, nothing_follows}

module _ {R L : Type 0} (see : Sees R L) where
  -- a refusal that is forced comes to nothing
  comes_to_nothing : (n : Refusal) (s : Known) → IsForced n → happened s (Replies.Refused n) ≡ Nothing
  comes_to_nothing Refusals.LogFault s f = absurd f
  comes_to_nothing n s f = refl

  -- a refused step goes on with nothing changed
  pub refused_goes : (step : Step Xid) (parts : Parts R L) (reply : Reply Xid) (n : Refusal) → StepHasXids step
      → reply ≡ Replies.Refused n → ((tr : Trace) → Stands see tr parts → must_refuse tr (step_of step) ≡ Some n)
      → GoesOn see step reply parts parts
  refused_goes step parts reply n has is forced_so tr stands few =
      let why = forced_so tr stands in
      goes_as see tr step reply (Replies.Refused n) parts parts stands has (ap reply_of is) (By_rule n why refl)
      (subst (λ e. Follows see tr e parts parts) (sym (comes_to_nothing n (step_of step) (forced tr (step_of step) n why)))
      (nothing_follows see tr parts parts.manager stands refl refl))

  -- so does one that memory was refused to
  pub lacking_goes : (tr : Trace) (step : Step Xid) (parts : Parts R L) (manager : Manager L) (reply : Reply Xid)
      → Stands see tr parts → StepHasXids step → reply ≡ Replies.Refused Refusals.Memory → must_refuse tr (step_of step) ≡ None
      → MayLackMemory tr (step_of step)
      → book_in manager ≡ book_in parts.manager → log_in manager ≡ log_in parts.manager
      → OneMore see step reply tr parts (record {
        alloc = parts.alloc;
        start = parts.start;
        began = parts.began;
        sites = parts.sites;
        lines = parts.lines;
        manager = manager;
      })
  lacking_goes tr step parts manager reply stands has is none may same log =
      goes_as see tr step reply (Replies.Refused Refusals.Memory) parts _ stands has (ap reply_of is) (For_memory none may refl)
      (nothing_follows see tr parts manager stands same log)

  -- a refusal that is forced, if the manager holds what it held
  pub rule_goes : (tr : Trace) (step : Step Xid) (reply : Reply Xid) (parts : Parts R L) (manager : Manager L) (n : Refusal)
      → Stands see tr parts → StepHasXids step → reply ≡ Replies.Refused n → must_refuse tr (step_of step) ≡ Some n
      → book_in manager ≡ book_in parts.manager → log_in manager ≡ log_in parts.manager
      → OneMore see step reply tr parts (record {
        alloc = parts.alloc;
        start = parts.start;
        began = parts.began;
        sites = parts.sites;
        lines = parts.lines;
        manager = manager;
      })
  rule_goes tr step reply parts manager n stands has is why same log =
      goes_as see tr step reply (Replies.Refused n) parts _ stands has (ap reply_of is) (By_rule n why refl)
      (subst (λ e. Follows see tr e parts (record {
        alloc = parts.alloc;
        start = parts.start;
        began = parts.began;
        sites = parts.sites;
        lines = parts.lines;
        manager = manager;
      })) (sym (comes_to_nothing n (step_of step) (forced tr (step_of step) n why))) (nothing_follows see tr parts manager stands same log))
