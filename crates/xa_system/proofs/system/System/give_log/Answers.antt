use Rattle.std.proofs.Common.{◌≡◌, ◌∙◌, subst, sym, ap, refl, true, false}
use Rattle.std.specs.Prelude.{is_ok}
use Rattle.xa_system.proofs.Log.GiveLog.{keeps_given, not_refused, on_ok}
use Rattle.xa_system.proofs.Log.Changes.{slot_durable}
use Rattle.xa_system.specs.Parts.{Sees, sees}
use Rattle.xa_system.specs.declared.system.System.TheInside.{Inside}
use Rattle.xa_tm.specs.Book.{Book}
use Rattle.xa_tm.specs.Calls.{book_in, log_in}
use Rattle.xa_tm.specs.Slots.{TakesIn, honest_in, last_out, log_held, order_in, slot_moment}
use Rattle.xa_tm.specs.declared.slot.Slot.{Slot}
use Rattle.xa_system.specs.LogInHistory.{MayHoldRows}
use Rattle.xa_system.specs.SystemView.{observes, system_view_of, trace_in}
use Rattle.xa_model.proofs.AgreementLemmas.Distinct.{doubt_is_new_to}
use Rattle.xa_tm.proofs.Log.TellsRows.{rows_may_hold}
use Rattle.xa_tm.specs.BookAndLog.{MayHold}
use Rattle.xa_tm.proofs.History.HeardAnswers.{if_err}
use Rattle.xa_system.proofs.system.System.give_log.Goals as goal

pub returns-clause-back : goal.returns-clause-back
returns-clause-back g c =
    let see = observes g.R.ResourceManager.look g.L.DecisionLog.moment in
    let tr = trace_in see.look (system_view_of c.self.inside) in
    if_err c.give_log-given.result _ _ (λ e gave. record {
      looks = gave.looks;
      memory = gave.memory;
      log = gave.log;
      read = gave.read;
      other = λ is order honest content held may.
          gave.other is order honest content held
          (subst (λ k. MayHold k content) (sym c.self.invariant.stands.book)
          (rows_may_hold tr content (doubt_is_new_to tr c.self.invariant.stands.kept.run)
          (subst (λ v. MayHoldRows (trace_in see.look v) content) (sym c.self.view_is) may)));
    }) c.give_log-given.ensures.back

pub invariant_of-self : goal.invariant_of-self
invariant_of-self g c =
    let moment = g.L.DecisionLog.moment in
    let see : Sees g.row.R.Denot (Slot g.row.L.Denot) =
    sees g.R.ResourceManager.look (slot_moment moment) in
    let a = c.self.inside in
    let gave = c.give_log-given.ensures in
    let manager = c.give_log-given.new.self in
    let now : Inside g.row.R.Denot g.row.L.Denot = record {
      first = a.first;
      handed = c.of-handed.result;
      parts = record {
        alloc = a.parts.alloc;
        start = a.parts.start;
        began = a.parts.began;
        sites = a.parts.sites;
        lines = a.parts.lines;
        manager = manager;
      };
      events = a.events;
    } in
    let ok : is_ok c.give_log-given.result ≡ true = sym c.is_ok.ensures.value ∙ c.if-is_ok.true in
    let taken : TakesIn g.L.DecisionLog c.args.log (log_held (log_in manager)) = on_ok c.give_log-given.result _ ok gave.ok in
    let down : (book_in manager).up ≡ false =
    ap (λ (k : Book). k.up) gave.book ∙ not_refused c.give_log-given.result _ (book_in a.parts.manager).up ok (λ up. (gave.up up).0) in
    let stands = c.self.invariant.stands in
    record {
      few = c.self.invariant.few;
      room = c.self.invariant.room;
      stands = record {
        origin = stands.origin;
        some_thread = stands.some_thread;
        kept = stands.kept;
        over = stands.over;
        apart = stands.apart;
        began = stands.began;
        room = stands.room;
        fits = stands.fits;
        count = stands.count;
        sites = stands.sites;
        rms = stands.rms;
        whole = stands.whole;
        lines = stands.lines;
        book = gave.book ∙ stands.book;
      };
      allowed = c.self.invariant.allowed;
      log = keeps_given see moment _ a now c.args.log (slot_durable moment g.met.L.DecisionLog.durable) c.self.invariant.log refl refl c.of-handed.ensures down
          (λ order. subst (order_in (λ l. (moment l).is_in_order)) (sym taken.is) (taken.looks.order order))
          (λ honest. taken.looks.honest (subst (honest_in (λ l. (moment l).is_honest) (last_out (log_in manager))) taken.is honest))
          (on_ok c.give_log-given.result _ ok gave.may_hold);
    }
