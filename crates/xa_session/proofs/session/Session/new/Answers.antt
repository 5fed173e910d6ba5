use Rattle.std.proofs.Common.{[], false, ◌∙◌, ap, arith, refl, subst, sym}
use Rattle.xa_base.specs.HeldBranch.{new_branch}
use Rattle.xa_base.specs.Scan.{Scan.NotOpen}
use Rattle.xa_line.specs.Grid.{Grid, IsWhole, line_at}
use Rattle.xa_line.specs.Histories.{LineStands}
use Rattle.xa_line.proofs.GridLaws.{line_at-new_grid, whole-new_grid}
use Rattle.xa_model.specs.Facts.Distinct.{ApartRows}
use Rattle.xa_model.specs.Trace.{Origin, Trace.From, line}
use Rattle.xa_tm.specs.Begins.{records_begun, rows_begun}
use Rattle.xa_tm.specs.Book.{Book}
use Rattle.xa_tm.specs.Calls.{book_in}
use Rattle.xa_tm.specs.LedgerBook.{IsSound}
use Rattle.xa_tm.specs.Limits.{HasRoomForRun}
use Rattle.xa_tm.specs.Release.{HasReleased}
use Rattle.xa_tm.specs.Started.{IsStartedOver}
use Rattle.xa_tm.specs.Starting.{IsOld}
use Rattle.xa_tm.proofs.Release.{books_are_whole}
use Rattle.xa_session.specs.Headroom.{HasHeadroom, first_headroom}
use Rattle.xa_session.specs.Session.{AllHeard}
use Rattle.xa_session.proofs.Headroom.{starts_have_headroom}
use Rattle.xa_session.proofs.Books.{old_log}
use Rattle.xa_session.proofs.LogStarts.{start_holds}
use Rattle.xa_session.proofs.Sessions.{all_new}
use Rattle.xa_session.proofs.session.Session.new.Goals as goal

pub returns-in-Ok-over-clause-ready : goal.returns-in-Ok-over-clause-ready
returns-in-Ok-over-clause-ready g c =
    let m = c.in-Ok-over.manager in
    let o : Origin = record {
      threads = c.args.threads;
      rms = c.args.rms;
      incarnation = (book_in m).incarnation;
      rows = rows_begun m;
      heuristic_rows = records_begun m;
      held = λ r x. new_branch;
      in_doubt = λ r. [];
      scans = λ r. NotOpen;
    } in
    let started = c.in-Ok-over.ensures.started in
    let is = started.book o (record { threads_are = refl; rms_are = refl; incarnation = refl; rows = refl; records = refl }) in
    record {
      few = omega arith;
      headroom = subst (HasHeadroom first_headroom) (sym is) (starts_have_headroom o (subst IsSound is started.sound)
          (subst IsOld is started.old) (subst HasRoomForRun is started.room));
      heard = subst AllHeard (sym c.in-Ok.ensures) (all_new c.args.threads c.args.rms);
    }

pub returns-in-Ok-over-clause-stands : goal.returns-in-Ok-over-clause-stands
returns-in-Ok-over-clause-stands g c = λ o begins.
    let lines = c.in-Ok.ensures in (
      λ runs. record {
        run = runs;
        apart = subst ApartRows (sym begins.rows) c.in-Ok-over.ensures.started.apart;
        threads = ap (λ l. l.threads) lines ∙ sym begins.threads_are;
        rms = ap (λ l. l.rms) lines ∙ sym begins.rms_are;
        whole = subst IsWhole (sym lines) (whole-new_grid c.args.threads c.args.rms);
        rms_up = λ r. refl;
        book = (
          (λ g. false),
          subst (λ w. HasReleased (λ g. false) w (book_in c.in-Ok-over.manager)) (c.in-Ok-over.ensures.started.book o begins)
              (books_are_whole (book_in c.in-Ok-over.manager) c.in-Ok-over.ensures.started.own),
        );
        lines =
            λ t r has. subst (LineStands (From o) (line t r)) (sym (ap (λ l. line_at l t r) lines ∙ line_at-new_grid c.args.threads c.args.rms t r))
            (record { all_issued = refl; all_answered = refl; all_heard = refl; each_answered = refl });
      },
      c.new-monitor.ensures o (begins.incarnation ∙ sym c.incarnation.ensures),
    )

pub returns-in-Ok-over-clause-old : goal.returns-in-Ok-over-clause-old
returns-in-Ok-over-clause-old g c = λ o begins. old_log o (subst IsOld (c.in-Ok-over.ensures.started.book o begins) c.in-Ok-over.ensures.started.old)

pub returns-in-Ok-over-clause-over : goal.returns-in-Ok-over-clause-over
returns-in-Ok-over-clause-over g c =
    let moment = g.L.DecisionLog.moment in
    subst (λ log. IsStartedOver moment c.args.threads c.args.rms (moment log) c.in-Ok-over.manager) c.in_ok-read.ensures.handed c.in-Ok-over.ensures.over

pub returns-in-Ok-over-clause-holds : goal.returns-in-Ok-over-clause-holds
returns-in-Ok-over-clause-holds g c = λ near order honest.
    let m = c.in-Ok-over.manager in
    let o : Origin = record {
      threads = c.args.threads;
      rms = c.args.rms;
      incarnation = (book_in m).incarnation;
      rows = rows_begun m;
      heuristic_rows = records_begun m;
      held = λ r x. new_branch;
      in_doubt = λ r. [];
      scans = λ r. NotOpen;
    } in
    let is = c.in-Ok-over.ensures.started.book o
    (record { threads_are = refl; rms_are = refl; incarnation = refl; rows = refl; records = refl }) in
    let over = returns-in-Ok-over-clause-over g c in
    start_holds g.L.DecisionLog.moment near m (λ log b d order is left. g.met.L.DecisionLog.durable log b d order is left)
    (ap (λ (k : Book). k.up) is) (over.order order) (over.tied near order honest)

pub invariant_of-session : goal.invariant_of-session
invariant_of-session g c =
    let m = c.in-Ok-over.manager in
    let o : Origin = record {
      threads = c.args.threads;
      rms = c.args.rms;
      incarnation = (book_in m).incarnation;
      rows = rows_begun m;
      heuristic_rows = records_begun m;
      held = λ r x. new_branch;
      in_doubt = λ r. [];
      scans = λ r. NotOpen;
    } in
    let is = c.in-Ok-over.ensures.started.book o
    (record { threads_are = refl; rms_are = refl; incarnation = refl; rows = refl; records = refl }) in
    record {
      sized = (
        ap (λ (k : Book). k.threads) is ∙ sym (ap (λ (l : Grid). l.threads) c.in-Ok.ensures),
        ap (λ (k : Book). k.rms) is ∙ sym (ap (λ (l : Grid). l.rms) c.in-Ok.ensures),
      );
    }
