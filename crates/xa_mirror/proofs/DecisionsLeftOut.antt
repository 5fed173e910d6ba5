-- Decisions of which no xa_commit was issued are left out of a history, one after another.
use Rattle.std.proofs.Common.{◌≡◌, ◌<◌, ◌+◌, ◌-◌, ◌==◌, inl, ℕ, List, [], ◌∷◌, length, Bool, true, false, ◌||◌, Option, Some, None, refl, sym, ap, ◌∙◌, subst, arith}
use Rattle.std.proofs.lemmas.Bool.{or_parts}
use Rattle.std.proofs.lemmas.List.Elements.{All-head, All-tail, All-weaker}
use Rattle.std.specs.FinMap.{get, get-remove, len, len-remove, remove}
use Rattle.std.specs.Prelude.{All, cond, if◌then◌else◌, is_some}
use Rattle.xa_base.proofs.BranchKeys.{gtrid_eq-refl, gtrid_eq-true}
use Rattle.xa_base.proofs.BranchOrder.{gtrids_total}
use Rattle.xa_base.specs.Branch.{gtrid_eq}
use Rattle.xa_base.specs.declared.call.Call.TheVariants as Calls
use Rattle.xa_base.specs.declared.step.Outcome.TheVariants as Outcome
use Rattle.xa_log.specs.Content.{Content, without_decision, without_decisions}
use Rattle.xa_log.specs.KeySet.{from_list}
use Rattle.xa_mirror.proofs.FactsWithout.{either, either_done, incarnation_is, page_is, retries_are, standing_is, vote_is}
use Rattle.xa_mirror.proofs.IssuedCommits.{issues, were_issued}
use Rattle.xa_mirror.proofs.RightWithout.{right_without}
use Rattle.xa_mirror.proofs.RowsWithout.{none_listed}
use Rattle.xa_mirror.specs.HistoryWithout.{IsLeftUntouched, IsRightWithout, LeavesUntouched, history_without}
use Rattle.xa_mirror.specs.OneHistory.{history_without_each}
use Rattle.xa_model.proofs.ProcessLemmas.Joining.{gone_right}
use Rattle.xa_model.proofs.ProcessLemmas.SameLogs.{records_again, rows_again, rows_without}
use Rattle.xa_model.specs.Facts.{doubt, heuristic_rows, heuristics_changed, how_in, incarnation, lists_one_of, lists_row, log, rows_changed, standing, without}
use Rattle.xa_model.specs.Facts.Distinct.{ApartRows}
use Rattle.xa_model.specs.Promises.Processes.{AllAreNamed, SameRecords, SameRows, resumed}
use Rattle.xa_model.specs.Protocol.{AllRight}
use Rattle.xa_model.specs.Trace.{Branch, Gtrid, Happening, Happening.Decided, Happening.Done, Happening.Failed, Happening.Issued, Happening.Resolved, Happening.ResolvedOpen, Happening.Restarted, Origin, Recorded, Row, Trace, Trace.From, Trace.Then}
use Rattle.xa_monitor.specs.Sessions.{FindsLog}
use Rattle.xa_server.proofs.LeftLogs.{listed, raised_once, start_of}
use Rattle.xa_session.specs.Tracking.{IsRaisedFrom}
use Rattle.xa_tm.proofs.History.OneMore.{lists_is}
use Rattle.xa_tm.proofs.History.RowCounts.{one_row_less}
use Rattle.xa_tm.proofs.Log.NextRows.{next_records, next_rows}
use Rattle.xa_tm.proofs.Log.TellsRows.{row_in_is}
use Rattle.xa_tm.specs.Book.{Waiting, row_in}
use Rattle.xa_tm.specs.Laws.{StartRowsAreApart}
use Rattle.xa_tm.specs.LogRows.{HoldsRows, MayHoldRows, StartsOver}
use Rattle.xa_tm.specs.Starting.{StartsHaveContent}

-- ** what was issued

untouched : (g : Gtrid) (tr : Trace) → were_issued tr g ≡ false → IsLeftUntouched g tr
untouched g (From o) none = tt
untouched g (Then tr e) none = let parts = or_parts (issues g tr e) (were_issued tr g) none in (untouched g tr parts.1, leaves e parts.0)
  where
    leaves : (e : Happening) → issues g tr e ≡ false → LeavesUntouched g tr e
    leaves (Issued l (Calls.Commit b one)) n = n
    leaves (Resolved r) n = λ is. n
    leaves (ResolvedOpen r) n = λ is. n
    leaves _ n = tt

-- without a decision the same is issued
issued_without : (g h : Gtrid) (tr : Trace) → were_issued (history_without g tr) h ≡ were_issued tr h
issued_without g h (From o) = refl
issued_without g h (Then tr (Decided k Outcome.Commit)) =
    either (λ e. were_issued (Then (history_without g tr) e) h ≡ were_issued tr h) k (gtrid_eq k g) (issued_without g h tr) (issued_without g h tr)
issued_without g h (Then tr (Done k)) =
    either_done (λ e. were_issued (Then (history_without g tr) e) h ≡ were_issued tr h) k (gtrid_eq k g) (issued_without g h tr) (issued_without g h tr)
issued_without g h (Then tr (Failed f)) = issued_without g h tr
issued_without g h (Then tr (Restarted i d n)) = issued_without g h tr
issued_without g h (Then tr (Issued l (Calls.Commit b one))) = ap (λ t. gtrid_eq b.gtrid h || t) (issued_without g h tr)
issued_without g h (Then tr (Resolved r)) = λ i. lists_one_of h (page_is g tr r i) || issued_without g h tr i
issued_without g h (Then tr (ResolvedOpen r)) = λ i. lists_one_of h (page_is g tr r i) || issued_without g h tr i
issued_without g h (Then tr _) = issued_without g h tr

named_without : (g : Gtrid) (tr : Trace) → AllAreNamed tr → AllAreNamed (history_without g tr)
named_without g tr named b unfit =
    let n = named b unfit in (standing_is g tr b ∙ n.0, vote_is g tr b ∙ n.1, retries_are g tr b ∙ n.2)

-- ** rows of a start

row_without : (g h : Gtrid) (xs : List Row) → row_in (without g xs) h ≡ cond (gtrid_eq h g) None (row_in xs h)
row_without g h xs = by (gtrid_eq h g) refl
  where
    none : (x : Option Waiting) → is_some x ≡ false → x ≡ None
    none None e = refl
    none (Some set) e = cc

    others : (ys : List Row) → gtrid_eq h g ≡ false → row_in (without g ys) h ≡ row_in ys h
    others [] apart = refl
    others (y ∷ ys) apart = there (gtrid_eq y.gtrid g) refl (gtrid_eq y.gtrid h) refl (others ys apart)
      where
        there : (t : Bool) → gtrid_eq y.gtrid g ≡ t → (u : Bool) → gtrid_eq y.gtrid h ≡ u → row_in (without g ys) h ≡ row_in ys h
            → row_in (if t then without g ys else y ∷ without g ys) h ≡ (if u then Some (from_list y.participants) else row_in ys h)
        there true p true q rest =
            absurd (let clash : true ≡ false = sym p ∙ (ap (λ k. gtrid_eq k g) (gtrid_eq-true y.gtrid h q) ∙ apart) in cc)
        there true p false q rest = rest
        there false p u q rest = λ i. if q i then Some (from_list y.participants) else rest i

    by : (t : Bool) → gtrid_eq h g ≡ t → row_in (without g xs) h ≡ cond t None (row_in xs h)
    by true e =
        none (row_in (without g xs) h)
        (sym (lists_is (without g xs) h) ∙ (ap (lists_row (without g xs)) (gtrid_eq-true h g e) ∙ none_listed g xs))
    by false e = others xs e

none_less : (g : Gtrid) (xs : List Row) → lists_row xs g ≡ false → without g xs ≡ xs
none_less g [] e = refl
none_less g (x ∷ xs) e =
    let parts = or_parts (gtrid_eq x.gtrid g) (lists_row xs g) e in
    ap (λ (t : Bool). if t then without g xs else x ∷ without g xs) parts.0 ∙ ap (λ ys. x ∷ ys) (none_less g xs parts.1)

number_without : (g : Gtrid) (xs : List Row) → ApartRows xs → length (without g xs) ≡ cond (lists_row xs g) (length xs - 1) (length xs)
number_without g xs apart = by (lists_row xs g) refl
  where
    by : (t : Bool) → lists_row xs g ≡ t → length (without g xs) ≡ cond t (length xs - 1) (length xs)
    by true e = one_row_less g xs apart e
    by false e = ap length (none_less g xs e)

-- ** a start over a log that has just these rows and records

record HasRows (rows : List Row) (records : List Recorded) (c : Content) : Type 0 where
  rows_are : (g : Gtrid) → row_in rows g ≡ get c.decisions g
  row_number : length rows ≡ len c.decisions
  records_are : (b : Branch) → how_in records b ≡ get c.heuristics b
  record_number : length records ≡ len c.heuristics

module _ (rows : List Row) (records : List Recorded) (c : Content) (has : HasRows rows records c) (next : Origin) (from_c : IsRaisedFrom c next) where
  -- a start with them
  abbrev o : Origin
  o = record next { rows = rows; heuristic_rows = records }

  -- the log, as it was before it was raised last
  abbrev before : Content
  before = record c { incarnation = next.incarnation - 1 }

  over : StartsOver next before
  over = record {
    rows = record {
      rows = λ g. sym (from_c.has.rows g ∙ ap (λ m. get m g) from_c.rows) ∙ row_in_is next.rows g;
      row_number = sym (from_c.has.row_number ∙ ap len from_c.rows);
      records = λ b. sym (from_c.has.records b ∙ ap (λ m. get m b) from_c.records);
      record_number = sym (from_c.has.record_number ∙ ap len from_c.records);
    };
    incarnation = let i = from_c.has.incarnation in let r = from_c.raised in omega (arith, i, r);
  }

  holds : HoldsRows (From o) before
  holds = record {
    rows = λ g. sym (has.rows_are g) ∙ row_in_is rows g;
    row_number = sym has.row_number;
    records = λ b. sym (has.records_are b);
    record_number = sym has.record_number;
  }

  left : MayHoldRows (From o) before
  left = (before, holds, inl (record { decisions = refl; heuristics = refl }))

  same_rows : SameRows next.rows rows
  same_rows = by (length next.rows == length rows) (next_rows (From o) next before tt left over from_c.apart)
    where
      by : (t : Bool) → SameRows next.rows (if t then rows else rows) → SameRows next.rows rows
      by true s = s
      by false s = s

  same_records : SameRecords next.heuristic_rows records
  same_records = by (length next.heuristic_rows == length records) (next_records (From o) next before tt left over)
    where
      by : (t : Bool) → SameRecords next.heuristic_rows (if t then records else records) → SameRecords next.heuristic_rows records
      by true s = s
      by false s = s

  -- so it finds the log of each history whose log has them after a restart that finds so many
  finds : (whole : Trace) (lost : Origin) → incarnation whole < next.incarnation
      → length lost.rows ≡ length rows → length lost.heuristic_rows ≡ length records
      → SameRows rows (log (resumed whole lost)) → SameRecords records (heuristic_rows (resumed whole lost)) → FindsLog whole next
  finds whole lost later number record_number in_rows in_records = record {
    later = later;
    rows = rows_again next.rows rows (log (resumed whole next)) same_rows (subst (SameRows rows) (ap there (number ∙ sym same_rows.number)) in_rows);
    records = records_again next.heuristic_rows records (heuristic_rows (resumed whole next)) same_records
        (subst (SameRecords records) (ap recorded_there (record_number ∙ sym same_records.number)) in_records);
  }
    where
      there : ℕ → List Row
      there n = if n == length (log whole) then log whole else rows_changed (doubt whole) (log whole)

      recorded_there : ℕ → List Recorded
      recorded_there n = if n == length (heuristic_rows whole) then heuristic_rows whole else heuristics_changed (doubt whole) (heuristic_rows whole)

module _ (content : StartsHaveContent) (apart : StartRowsAreApart) where
  start_has : (c : Content) → HasRows (start_of c).rows (start_of c).heuristic_rows c
  start_has c =
      let from_c = raised_once content apart c in
      record {
        rows_are = λ g. from_c.has.rows g ∙ ap (λ m. get m g) from_c.rows;
        row_number = from_c.has.row_number ∙ ap len from_c.rows;
        records_are = λ b. from_c.has.records b ∙ ap (λ m. get m b) from_c.records;
        record_number = from_c.has.record_number ∙ ap len from_c.records;
      }

  -- each start over a log finds what one of them does
  pub found_again : (c : Content) (whole : Trace) → FindsLog whole (start_of c) → (next : Origin) → IsRaisedFrom c next → FindsLog whole next
  found_again c whole found next from_c =
      finds (start_of c).rows (start_of c).heuristic_rows c (start_has c) next from_c whole (start_of c) later refl refl found.rows found.records
    where
      later : incarnation whole < next.incarnation
      later =
          let l : incarnation whole < c.incarnation + 1 = found.later in let i = from_c.has.incarnation in let r = from_c.raised in omega (arith, l, i, r)

  -- ** one decision

  module _ (g : Gtrid) (c : Content) (whole : Trace) (right : AllRight whole) (none : were_issued whole g ≡ false) (found : FindsLog whole (start_of c)) where
    abbrev first : Origin
    first = start_of c

    -- a start over the log that has it
    abbrev last : Trace
    last = resumed whole first

    right_left : IsRightWithout g last
    right_left = right_without g last (gone_right whole right, (refl, found.later, found.rows.number, found.records.number)) (untouched g last none)

    lacking_has : HasRows (without g first.rows) first.heuristic_rows (without_decision g c)
    lacking_has =
        let all = start_has c in
        record {
          rows_are = λ h. row_without g h first.rows ∙ (ap (cond (gtrid_eq h g) None) (all.rows_are h) ∙ sym (get-remove gtrids_total c.decisions g h));
          row_number =
              number_without g first.rows (apart c)
              ∙ ((λ i. cond (listed content apart c g i) (all.row_number i - 1) (all.row_number i)) ∙ sym (len-remove gtrids_total c.decisions g));
          records_are = all.records_are;
          record_number = all.record_number;
        }

    found_without : (next : Origin) → IsRaisedFrom (without_decision g c) next → FindsLog (history_without g whole) next
    found_without next from_d =
        finds (without g first.rows) first.heuristic_rows (without_decision g c) lacking_has next from_d (history_without g whole) lost later
        (sym in_rows.number) refl (subst (SameRows (without g first.rows)) (sym right_left.rows) in_rows)
        (subst (SameRecords first.heuristic_rows) (sym right_left.records) found.records)
      where
        -- the start that finds what is left
        lost : Origin
        lost = record first { rows = without g (log last) }

        in_rows : SameRows (without g first.rows) (without g (log last))
        in_rows = rows_without g first.rows (log last) found.rows

        later : incarnation (history_without g whole) < next.incarnation
        later =
            let e = incarnation_is g whole in let l : incarnation whole < c.incarnation + 1 = found.later in
            let i = from_d.has.incarnation in let r : c.incarnation < from_d.found.incarnation = from_d.raised in omega (arith, e, l, i, r)

  -- ** all of them

  -- a history without these decisions: a start over the log without their rows finds its log
  pub record IsLeftOut (gs : List Gtrid) (c : Content) (whole : Trace) : Type 0 where
    pub left : Trace
    pub is : left ≡ history_without_each gs whole
    pub right : AllRight left
    pub there : (b : Branch) → standing left b ≡ standing whole b
    pub named : AllAreNamed whole → AllAreNamed left
    pub found : FindsLog left (start_of (without_decisions gs c))

  pub left_out : (gs : List Gtrid) (c : Content) (whole : Trace) → AllRight whole → FindsLog whole (start_of c)
      → All (λ g. were_issued whole g ≡ false) gs → IsLeftOut gs c whole
  left_out [] c whole right found none = record { left = whole; is = refl; right = right; there = λ b. refl; named = λ n. n; found = found }
  left_out (g ∷ gs) c whole right found none =
      let this : were_issued whole g ≡ false = All-head (λ h. were_issued whole h ≡ false) g gs none in
      let others : All (λ h. were_issued (history_without g whole) h ≡ false) gs =
      All-weaker (λ h. were_issued whole h ≡ false) (λ h. were_issued (history_without g whole) h ≡ false) (λ h n. issued_without g h whole ∙ n) gs
      (All-tail (λ h. were_issued whole h ≡ false) g gs none) in
      let rest : IsLeftOut gs (without_decision g c) (history_without g whole) =
      left_out gs (without_decision g c) (history_without g whole) (right_left g c whole right this found).right.0.0
      (found_without g c whole right this found (start_of (without_decision g c)) (raised_once content apart (without_decision g c))) others in
      record {
        left = rest.left;
        is = rest.is;
        right = rest.right;
        there = λ b. rest.there b ∙ standing_is g whole b;
        named = λ n. rest.named (named_without g whole n);
        found = rest.found;
      }
