use Rattle.std.proofs.Common.{◌≡◌, ◌<◌, ◌≤◌, inl, inr, ap, ◌∙◌, ◌-◌, arith, length, sym, subst, IsSomeAnd}
use Rattle.std.specs.Prelude.{◌^◌}
use Rattle.std.specs.List.{list_all}
use Rattle.std.proofs.lemmas.Bool.{and_parts}
use Rattle.xa_base.specs.declared.branch.Branch.{Branch}
use Rattle.xa_base.specs.declared.code.How.{How}
use Rattle.xa_model.specs.Facts.Distinct.{ApartRows}
use Rattle.xa_log.specs.Content.{last_number}
use Rattle.xa_log.specs.declared.log_rows.LogRows.{LogRows}
use Rattle.xa_log.specs.Contract.{one_more_fault}
use Rattle.xa_tm.specs.Begins.{records_listed, rows_listed}
use Rattle.xa_tm.specs.Book.{Book}
use Rattle.xa_tm.proofs.Log.Begins.{begun_apart, begun_book}
use Rattle.xa_tm.specs.LedgerBook.{IsSound, as_book}
use Rattle.xa_tm.specs.Release.{RowsAreOwn}
use Rattle.xa_tm.specs.declared.ledger.Ledger.{Ledger}
use Rattle.xa_log.specs.Starting.{fits_before}
use Rattle.xa_tm.specs.Starting.{IsOld, ended_among, loaded, book_at_start}
use Rattle.xa_tm.proofs.History.Starts.{in_incarnation, raised_over, start_old, start_sound, start_tied, started_over}
use Rattle.xa_tm.proofs.History.LoadedRows.{loaded_own}
use Rattle.xa_tm.proofs.Log.Pasts.{not_past, past_of}
use Rattle.xa_tm.proofs.manager.Manager.over.Goals as goal

pub returns-then-can_start-clause-started : goal.returns-then-can_start-clause-started
returns-then-can_start-clause-started g c =
    let rows = c.args.read.rows in
    let some : length rows.decisions.items < 2 ^ 64 - 1 = omega arith in
    let few : length rows.heuristics.items < 2 ^ 64 - 1 = omega arith in
    let some_rows : length rows.decisions.items ≤ last_number = omega arith in
    let few_records : length rows.heuristics.items ≤ last_number = omega arith in
    let i = c.in_ok-incarnation.incarnation in
    let is = ap as_book c.in_incarnation-ledger.ensures ∙
    in_incarnation c.in_ok-ledger.ledger i c.args.threads c.args.rms (loaded rows.decisions.items rows.participants.items)
    (length rows.decisions.items) (ended_among rows.heuristics.items) (length rows.heuristics.items) c.in_ok-ledger.ensures in
    let starts = and_parts _ _ (sym c.can_start.ensures ∙ c.if-can_start.true) in
    let up = and_parts _ _ starts.1 in
    record {
      book = λ o with.
          is ∙ begun_book c.args.threads c.args.rms i rows.decisions.items rows.participants.items rows.heuristics.items o up.0 up.1 with.threads_are
          with.rms_are (with.incarnation ∙ ap (λ (l : Ledger). l.incarnation) c.in_incarnation-ledger.ensures)
          (with.rows ∙ ap (λ (r : LogRows). rows_listed r.decisions.items r.participants.items) c.of-began.ensures)
          (with.records ∙ ap (λ (r : LogRows). records_listed r.heuristics.items) c.of-began.ensures);
      old = subst IsOld (sym is) (start_old c.args.threads c.args.rms i rows.decisions.items rows.participants.items rows.heuristics.items starts.0);
      own = subst RowsAreOwn (sym is) (loaded_own rows.decisions.items rows.participants.items);
      apart = subst (λ (r : LogRows). ApartRows (rows_listed r.decisions.items r.participants.items)) (sym c.of-began.ensures)
          (begun_apart rows.decisions.items rows.participants.items up.0);
      sound = subst IsSound (sym is) (start_sound c.args.threads c.args.rms i rows.decisions.items rows.participants.items rows.heuristics.items some few
          c.in_ok-incarnation.ensures.most
          (and_parts (list_all (fits_before i) rows.decisions.items)
          (list_all (λ (e : Branch × How). fits_before i e.0.gtrid) rows.heuristics.items) starts.0).0);
      room = record {
        rows = subst (λ n. n ≤ last_number) (sym (ap (λ (k : Book). k.rows) is)) some_rows;
        records = subst (λ n. n ≤ last_number) (sym (ap (λ (k : Book). k.records) is)) few_records;
      };
    }

pub returns-then-can_start-clause-over : goal.returns-then-can_start-clause-over
returns-then-can_start-clause-over g c =
    let moment = g.L.DecisionLog.moment in
    let rows = c.args.read.rows in
    let i = c.in_ok-incarnation.incarnation in
    let handed = (moment c.args.read.handed.value).content in
    let read = (moment c.args.read.log).content in
    let new = (moment c.bump.new.self).content in
    let bumped = c.in_ok-incarnation.ensures.changes in
    let is = ap as_book c.in_incarnation-ledger.ensures ∙
    in_incarnation c.in_ok-ledger.ledger i c.args.threads c.args.rms (loaded rows.decisions.items rows.participants.items)
    (length rows.decisions.items) (ended_among rows.heuristics.items) (length rows.heuristics.items) c.in_ok-ledger.ensures in
    let raised = λ (order : (moment c.args.read.handed.value).is_in_order) (honest : (moment c.bump.new.self).is_honest).
    raised_over c.args.threads c.args.rms i rows.decisions.items rows.participants.items rows.heuristics.items handed read new
    (c.requires.reads.ok order (bumped.honest honest)) (bumped.ok (c.requires.reads.order order) honest) in
    let book = λ (order : (moment c.args.read.handed.value).is_in_order) (honest : (moment c.bump.new.self).is_honest).
    subst (λ k. IsSomeAnd new (λ c'. k ≡ book_at_start c.args.threads c.args.rms c')) (sym is)
    (started_over c.args.threads c.args.rms i rows.decisions.items rows.participants.items rows.heuristics.items handed read new
    (c.requires.decisions order (bumped.honest honest)) (c.requires.participants order (bumped.honest honest))
    (c.requires.heuristics order (bumped.honest honest)) (c.requires.reads.ok order (bumped.honest honest))
    (bumped.ok (c.requires.reads.order order) honest) (c.in_ok-incarnation.ensures.answer (c.requires.reads.order order) honest)
    (λ content is. g.met.L.DecisionLog.own c.args.read.handed.value content order is)) in
    record {
      order = λ order. bumped.order (c.requires.reads.order order);
      honest = λ honest. c.requires.reads.honest (bumped.honest honest);
      faults = bumped.faults ∙ c.requires.reads.faults;
      past = λ order honest. past_of c.args.threads c.args.rms _ handed new (raised order honest) (book order honest)
          (returns-then-can_start-clause-started g c).old;
      raised = raised;
      tied = λ near order honest. start_tied near c.args.threads c.args.rms _ new (book order honest);
      book = book;
    }

-- ** the faults

pub returns-in_err-incarnation-clause-log_fault : goal.returns-in_err-incarnation-clause-log_fault
returns-in_err-incarnation-clause-log_fault g c =
    λ is. (c.bump.new.self, inl (c.in_err-incarnation.ensures.changes.faults ∙ ap one_more_fault c.requires.reads.faults))

pub returns-clause-log_fault : goal.returns-clause-log_fault
returns-clause-log_fault g c = λ is.
    let rows = c.args.read.rows in
    let i = c.in_ok-incarnation.incarnation in
    let handed = (g.L.DecisionLog.moment c.args.read.handed.value).content in
    let mid = (g.L.DecisionLog.moment c.args.read.log).content in
    let bumped = c.in_ok-incarnation.ensures.changes in (
      c.bump.new.self,
      inr (record {
        honest = λ honest. c.requires.reads.honest (bumped.honest honest);
        faults = bumped.faults ∙ c.requires.reads.faults;
        not_past = λ order honest.
            let still = bumped.honest honest in
            not_past i rows.decisions.items rows.heuristics.items handed mid
            (c.requires.decisions order still) (c.requires.heuristics order still) (c.requires.reads.ok order still)
            (c.in_ok-incarnation.ensures.answer (c.requires.reads.order order) honest)
            (λ content is. g.met.L.DecisionLog.fits c.args.read.handed.value content order is)
            (sym c.can_start.ensures ∙ c.if-can_start.false);
        raised = λ order honest.
            raised_over c.args.threads c.args.rms i rows.decisions.items rows.participants.items rows.heuristics.items
            handed mid (g.L.DecisionLog.moment c.bump.new.self).content
            (c.requires.reads.ok order (bumped.honest honest)) (bumped.ok (c.requires.reads.order order) honest);
      }),
    )
