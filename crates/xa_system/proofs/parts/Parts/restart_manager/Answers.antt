use Rattle.std.proofs.Common.{◌≡◌, ◌∙◌, refl, sym, ap, subst}
use Rattle.xa_base.specs.declared.reply.Reply.TheVariants as Replies
use Rattle.xa_tm.specs.Book.{Book}
use Rattle.xa_tm.specs.Calls.{book_in, log_in}
use Rattle.xa_tm.specs.BookAndLog.{IsReadFrom}
use Rattle.std.specs.Prelude.{Result, Ok, Err}
use Rattle.xa_model.specs.Trace.{Happening.Restarted}
use Rattle.xa_base.specs.declared.refusal.Refusal.{Refusal}
use Rattle.xa_base.proofs.Options.{err_is}
use Rattle.xa_system.proofs.Log.Changes.{log_done, restart_counts}
use Rattle.xa_system.specs.Parts.{sees}
use Rattle.xa_system.proofs.Steps.OfManager.{sound_book}
use Rattle.xa_system.proofs.Steps.Restart.{restart_did, restart_undone}
use Rattle.xa_tm.specs.declared.manager.restart.Found.{Found}
use Rattle.xa_system.proofs.parts.Parts.restart_manager.Goals as goal

pub restart-requires : goal.restart-requires
restart-requires g c =
    let see = sees g.R.ResourceManager.look g.L.DecisionLog.moment in
    let p = c.args.self.now in
    sound_book see p c.requires

pub returns-in-Ok-clause-goes : goal.returns-in-Ok-clause-goes
returns-in-Ok-clause-goes g c tr stands few =
    let see = sees g.R.ResourceManager.look g.L.DecisionLog.moment in
    let p = c.args.self.now in
    restart_did see p c.restart.new.self c.in-Ok.field-0.incarnation c.in-Ok.field-0.decisions c.in-Ok.field-0.heuristics c.new.result c.new.ensures
    c.in-Ok.ensures.down c.in-Ok.ensures.ok c.in-Ok.ensures.found c.in-Ok.ensures.most
    (λ tr. log_done see.moment {A = Found}
    (Restarted c.in-Ok.field-0.incarnation c.in-Ok.field-0.decisions c.in-Ok.field-0.heuristics) c.in-Ok.field-0 p.manager c.restart.new.self
    (λ n. refl) (ap (λ (k : Book). k.up) c.in-Ok.ensures.ok) (record {
      order = c.in-Ok.ensures.log.order;
      honest = c.in-Ok.ensures.log.honest;
      tied = c.in-Ok.ensures.tied;
      faults = c.in-Ok.ensures.log.faults;
      counts = restart_counts see.moment {A = Found} (Ok c.in-Ok.field-0) p.manager c.restart.new.self
          (λ up. (c.in-Ok.ensures.busy up).0) c.in-Ok.ensures.log.counted;
    })) tr
    stands

pub returns-in-Err-clause-goes : goal.returns-in-Err-clause-goes
returns-in-Err-clause-goes g c tr stands few =
    let see = sees g.R.ResourceManager.look g.L.DecisionLog.moment in
    let p = c.args.self.now in
    restart_undone see p c.restart.new.self c.in-Err.refusal c.refused.result c.refused.ensures
    (λ e. (err_is {A = Found} _ _ (c.in-Err.ensures.busy e).0, ap book_in (c.in-Err.ensures.busy e).1)) c.in-Err.ensures.err
    (record {
      called = record {
        order = c.in-Err.ensures.log.order;
        honest = c.in-Err.ensures.log.honest;
        tied = c.in-Err.ensures.tied;
        faults = c.in-Err.ensures.log.faults;
        counts = restart_counts see.moment {A = Found} (Err c.in-Err.refusal) p.manager c.restart.new.self (λ up. (c.in-Err.ensures.busy up).0)
            c.in-Err.ensures.log.counted;
      };
      kept = c.in-Err.ensures.kept;
      failed = λ is order honest. c.in-Err.ensures.log.fault order honest
          (ap (λ (m : Refusal). let x : Result Found Refusal = Err m in x) is);
      crash = c.in-Err.ensures.log.crash;
    }) tr stands

pub returns-in-Ok-clause-read : goal.returns-in-Ok-clause-read
returns-in-Ok-clause-read g c i d h is =
    let f = c.in-Ok.field-0 in
    let same : Replies.Restarted f.incarnation f.decisions f.heuristics ≡ Replies.Restarted i d h = sym c.new.ensures ∙ is in
    let incarnation : f.incarnation ≡ i = cc in
    let decisions : f.decisions ≡ d = cc in
    let heuristics : f.heuristics ≡ h = cc in
    subst (λ n. IsReadFrom g.L.DecisionLog n d h (log_in c.args.self.now.manager) (log_in c.restart.new.self)) incarnation
    (subst (λ n. IsReadFrom g.L.DecisionLog f.incarnation n h (log_in c.args.self.now.manager) (log_in c.restart.new.self)) decisions
    (subst (λ n. IsReadFrom g.L.DecisionLog f.incarnation f.decisions n (log_in c.args.self.now.manager) (log_in c.restart.new.self)) heuristics
    c.in-Ok.ensures.read))

pub returns-in-Err-clause-read : goal.returns-in-Err-clause-read
returns-in-Err-clause-read g c i d h is =
    let same : Replies.Refused c.in-Err.refusal ≡ Replies.Restarted i d h = sym c.refused.ensures ∙ is in
    absurd (cc)
