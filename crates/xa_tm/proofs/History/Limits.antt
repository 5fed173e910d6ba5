-- The book of a right history is sound: its numbers are bounded by how much happened.
use Rattle.std.proofs.Common.{◌≡◌, ◌≤◌, ◌<◌, ◌+◌, ◌-◌, ◌^◌, ℕ, suc, List, [], ◌∷◌, length, map, Bool, true, false, ◌||◌, ◌⊎◌, inl, inr, refl, sym, ap, ◌∙◌, subst, arith}
use Rattle.std.specs.Prelude.{if◌then◌else◌, Contains, IsSome, Option, Some, None}
use Rattle.std.proofs.lemmas.Bool.{and_parts}
use Rattle.xa_base.specs.declared.branch.Branch.{Branch}
use Rattle.xa_base.specs.declared.branch.Gtrid.{Gtrid}
use Rattle.xa_base.specs.declared.call.Call.TheVariants as Calls
use Rattle.xa_base.specs.declared.refusal.Refusal.{Refusal}
use Rattle.xa_base.specs.declared.refusal.Refusal.TheVariants as Refusals
use Rattle.xa_base.specs.declared.reply.Event.{Event}
use Rattle.xa_base.specs.declared.reply.Reply.TheVariants as Replies
use Rattle.xa_base.specs.declared.step.Side.TheVariants as Side
use Rattle.xa_base.specs.declared.step.Step.TheVariants as Steps
use Rattle.xa_base.specs.declared.state.Standing.TheVariants.{Unstarted}
use Rattle.xa_base.specs.declared.step.Outcome.TheVariants as Outcome
use Rattle.xa_base.specs.declared.step.Part.TheVariants as Part
use Rattle.xa_base.specs.Branch.{branch_eq, branch_of_xid, gtrid_eq}
use Rattle.xa_model.specs.Replies.Allowed.{failed_restarts, with_steps}
use Rattle.xa_model.specs.Facts.{Change.AddRecord, Change.NoChange, adds_row, begun, doubt, fault_change, had_row, held_of, incarnation, lists_row, live, log, next_answer, origin, record_of_next, sequence, started, up, begins}
use Rattle.xa_model.specs.Replies.History.{history, read}
use Rattle.xa_model.specs.Protocol.{IsRun, Right, RightFault, RightOrigin, RightRow}
use Rattle.xa_model.specs.Replies.Steps.{Reply, Step, accepted, call_issued, decided, happened, if_ours, log_failed, noted, refused, resolved}
use Rattle.xa_model.specs.Trace.{Call, Fault, Fault.InDecide, Fault.InHear, Name.Foreign, Name.Ours, line, Happening, Happening.Begun, Happening.Crashed, Happening.Decided, Happening.Failed, Happening.Issued, Happening.Restarted, Origin, Recorded, Trace, Trace.From, Trace.Then}
use Rattle.xa_base.specs.Xid.{Xid}
use Rattle.xa_model.proofs.Invariant.{Inv, Old}
use Rattle.xa_base.proofs.BranchKeys.{branch_eq-true, gtrid_eq-true}
use Rattle.xa_model.proofs.Invariant.Preservation.{run_always}
use Rattle.xa_model.proofs.Invariant.RowLists.{each_is, rows_made}
use Rattle.xa_model.proofs.Invariant.Rows.{NewRow, NewRow.Had, NewRow.By_decision, NewRow.By_restart, rowed_new}
use Rattle.xa_log.specs.Content.{last_number}
use Rattle.xa_log.specs.Contract.{FitsRow}
use Rattle.xa_tm.specs.Book.{book_of, row_in}
use Rattle.xa_tm.specs.LedgerBook.{IsSound}
use Rattle.xa_tm.specs.Limits.{FitsIncarnation, counts_for, HasRoomForRun, IsWithinLimits, happenings, most_events}
use Rattle.xa_tm.specs.Starting.{IsOld}
use Rattle.xa_tm.proofs.History.Refusals.{has_row_is, recorded_is}
use Rattle.xa_tm.proofs.History.RowCounts.{next_or_none}
use Rattle.xa_tm.proofs.History.Soundness.{no_row}
use Rattle.xa_tm.proofs.History.Numbers.{begins_cover, begins_few, failed_few, as_before, branches_few, unvoted_few, unsettled_few, adds, rows_few, records_few}

-- ** events

-- a step counts once
ours_counts : (happening : Call → Happening) → ((c : Call) → counts_for (happening c) ≡ 1) → (c : Option Call) → counts_for (if_ours happening c) ≡ 1
ours_counts happening one (Some c) = one c
ours_counts happening one None = refl

fault_counts : (s : Step) → counts_for (log_failed s) ≡ 1
fault_counts (Steps.Decide g o) = refl
fault_counts (Steps.Settle g) = refl
fault_counts (Steps.Done g) = refl
fault_counts (Steps.Hear t r) = refl
fault_counts (Steps.Restart Side.Manager) = refl
fault_counts (Steps.Resolve r) = refl
fault_counts (Steps.ResolveOpen r) = refl
fault_counts _ = refl

refused_counts : (n : Refusal) (s : Step) → counts_for (refused n s) ≡ 1
refused_counts Refusals.LogFault s = fault_counts s
refused_counts _ s = refl

issued_counts : (s : Step) → counts_for (call_issued s) ≡ 1
issued_counts (Steps.Issue t r c) = ours_counts (Happening.Issued (line t r)) (λ c. refl) (accepted c)
issued_counts (Steps.Recover r n start end) = refl
issued_counts _ = refl

noted_counts : (s : Step) → counts_for (noted s) ≡ 1
noted_counts (Steps.Vote r (Ours b) v) = refl
noted_counts (Steps.Vote r (Foreign x) v) = refl
noted_counts (Steps.Busy r (Ours b) n) = refl
noted_counts (Steps.Busy r (Foreign x) n) = refl
noted_counts (Steps.Heuristic r (Ours b) how) = refl
noted_counts (Steps.Heuristic r (Foreign x) how) = refl
noted_counts (Steps.Done g) = refl
noted_counts _ = refl

decided_counts : (s : Step) → counts_for (decided s) ≡ 1
decided_counts (Steps.Decide g o) = refl
decided_counts (Steps.Settle g) = refl
decided_counts (Steps.Abandon g) = refl
decided_counts _ = refl

resolved_counts : (s : Step) → counts_for (resolved s) ≡ 1
resolved_counts (Steps.Resolve r) = refl
resolved_counts (Steps.ResolveOpen r) = refl
resolved_counts _ = refl

step_counts : (s : Step) (r : Reply) → counts_for (happened s r) ≡ 1
step_counts s (Replies.Refused n) = refused_counts n s
step_counts s Replies.Issued = issued_counts s
step_counts s Replies.Noted = noted_counts s
step_counts s Replies.Decided = decided_counts s
step_counts s (Replies.Resolved n) = resolved_counts s
step_counts (Steps.Begin t) (Replies.Begun g) = refl
step_counts (Steps.Take t r) (Replies.Took c a) = ours_counts (λ d. Happening.Took (line t r) d a) (λ d. refl) (accepted c)
step_counts (Steps.Hear t r) (Replies.Heard c a) = ours_counts (λ d. Happening.Heard (line t r) d a) (λ d. refl) (accepted c)
step_counts (Steps.Claim g) Replies.Claimed = refl
step_counts (Steps.Crash p) Replies.Crashed = refl
step_counts (Steps.Restart (Side.Rm r)) Replies.RmRestarted = refl
step_counts (Steps.Restart Side.Manager) (Replies.Restarted i d h) = refl
step_counts _ _ = refl

steps_happen : (tr : Trace) (xs : List (Step × Reply)) → happenings (with_steps tr xs) ≡ happenings tr + length xs
steps_happen tr [] = omega arith
steps_happen tr (x ∷ xs) =
    let rest = steps_happen (Then tr (happened x.0 x.1)) xs in let one = step_counts x.0 x.1 in rest ∙ omega (arith, one)

as_many : (events : List Event) → length (map read events) ≡ length events
as_many [] = refl
as_many (e ∷ es) = ap (λ n. suc n) (as_many es)

pub events_happen : (o : Origin) (events : List Event) → happenings (history o events) ≡ length events
events_happen o events = let all = steps_happen (From o) (map read events) in let many = as_many events in omega (arith, all, many)

-- ** what is begun fits a row

pub begun_fits : (tr : Trace) (g : Gtrid) → begun tr g ≡ true → IsRun tr → g.sequence ≤ happenings tr
begun_fits (From o) g e r = absurd (cc)
begun_fits (Then tr (Begun h)) g e r = by (gtrid_eq h g) refl e (λ k. begun_fits tr g k r.0)
  where
    by : (t : Bool) → gtrid_eq h g ≡ t → (t || begun tr g) ≡ true → (begun tr g ≡ true → g.sequence ≤ happenings tr) → g.sequence ≤ happenings tr + 1
    by true is e rest =
        let at : g.sequence ≡ sequence tr + 1 = ap (λ (x : Gtrid). x.sequence) (sym (gtrid_eq-true h g is)) ∙ r.1.2 in
        let few = begins_few tr in
        let cover = begins_cover tr in
        omega (arith, at, few, cover)
    by false is e rest = as_before _ _ _ (rest e)
begun_fits (Then tr (Crashed Part.Manager)) g e r = absurd (cc)
begun_fits (Then tr (Failed f)) g e r = absurd (cc)
begun_fits (Then tr (Restarted i d h)) g e r = absurd (cc)
begun_fits (Then tr _) g e r = as_before _ _ _ (begun_fits tr g e r.0)

live_fits : (tr : Trace) (g : Gtrid) → IsRun tr → live tr g ≡ true → g.sequence ≤ happenings tr
live_fits tr g r l = begun_fits tr g (and_parts _ _ l).0 r

pub started_fits : (tr : Trace) (b : Branch) → started tr b ≡ true → IsRun tr → b.gtrid.sequence ≤ happenings tr
started_fits (From o) b e r = absurd (cc)
started_fits (Then tr (Issued l (Calls.Start c false))) b e r = by (branch_eq c b) refl e (λ k. started_fits tr b k r.0)
  where
    by : (t : Bool) → branch_eq c b ≡ t → (t || started tr b) ≡ true → (started tr b ≡ true → b.gtrid.sequence ≤ happenings tr)
        → b.gtrid.sequence ≤ happenings tr + 1
    by true is e rest =
        as_before _ _ _ (subst (λ (x : Branch). x.gtrid.sequence ≤ happenings tr) (branch_eq-true c b is) (live_fits tr c.gtrid r.0 r.1.1.may_be.1.is_live))
    by false is e rest = as_before _ _ _ (rest e)
started_fits (Then tr (Issued l (Calls.Start c true))) b e r = by (branch_eq c b) refl e (λ k. started_fits tr b k r.0)
  where
    by : (t : Bool) → branch_eq c b ≡ t → (t || started tr b) ≡ true → (started tr b ≡ true → b.gtrid.sequence ≤ happenings tr)
        → b.gtrid.sequence ≤ happenings tr + 1
    by true is e rest =
        as_before _ _ _ (subst (λ (x : Branch). x.gtrid.sequence ≤ happenings tr) (branch_eq-true c b is) (live_fits tr c.gtrid r.0 r.1.1.may_be.1.is_live))
    by false is e rest = as_before _ _ _ (rest e)
started_fits (Then tr _) b e r = as_before _ _ _ (started_fits tr b e r.0)

-- ** rows fit the log

fault_fits : (tr : Trace) (f : Fault) (g : Gtrid) → IsRun tr → RightFault tr f → adds_row (fault_change tr f) g ≡ true → g.sequence ≤ happenings tr
fault_fits tr (InDecide gs) g r right e = live_fits tr g r (each_is (RightRow tr) gs right g (sym (rows_made tr gs g) ∙ e)).0.is_live
fault_fits tr (InHear l) g r right e = by (next_or_none (next_answer tr l))
  where
    by : ((x : Recorded) × (record_of_next (next_answer tr l) ≡ AddRecord x)) ⊎ (record_of_next (next_answer tr l) ≡ NoChange) → g.sequence ≤ happenings tr
    by (inl w) = let no : false ≡ true = sym (ap (λ c. adds_row c g) w.1) ∙ e in absurd (cc)
    by (inr w) = let no : false ≡ true = sym (ap (λ c. adds_row c g) w) ∙ e in absurd (cc)
fault_fits tr _ g r right e = absurd (cc)

doubt_fits : (tr : Trace) (g : Gtrid) → IsRun tr → adds_row (doubt tr) g ≡ true → g.sequence ≤ happenings tr
doubt_fits (From o) g r e = absurd (cc)
doubt_fits (Then tr (Failed f)) g r e = by (up tr) (λ k. doubt_fits tr g r.0 k) e
  where
    by : (t : Bool) → (adds_row (doubt tr) g ≡ true → g.sequence ≤ happenings tr)
        → adds_row (if t then fault_change tr f else doubt tr) g ≡ true → g.sequence ≤ happenings (Then tr (Failed f))
    by true before k = as_before _ _ _ (fault_fits tr f g r.0 r.1 k)
    by false before k = as_before _ _ _ (before k)
doubt_fits (Then tr (Restarted i d h)) g r e = absurd (cc)
doubt_fits (Then tr _) g r e = as_before _ _ _ (doubt_fits tr g r.0 e)

-- a row is of the start, or of a transaction that was begun since
pub row_fits : (tr : Trace) (g : Gtrid) → IsRun tr → had_row tr g ≡ true → (lists_row (origin tr).rows g ≡ true) ⊎ (g.sequence ≤ happenings tr)
row_fits (From o) g r h = inl h
row_fits (Then tr e) g r h = by (rowed_new tr e g h) (λ k. row_fits tr g r.0 k)
  where
    later : (lists_row (origin tr).rows g ≡ true) ⊎ (g.sequence ≤ happenings tr) → (lists_row (origin tr).rows g ≡ true) ⊎ (g.sequence ≤ happenings (Then tr e))
    later (inl k) = inl k
    later (inr k) = inr (as_before _ _ _ k)

    by : NewRow tr e g → (had_row tr g ≡ true → (lists_row (origin tr).rows g ≡ true) ⊎ (g.sequence ≤ happenings tr))
        → (lists_row (origin tr).rows g ≡ true) ⊎ (g.sequence ≤ happenings (Then tr e))
    by (Had k) before = later (before k)
    by (By_decision q has) before = let d : Right tr (Decided g Outcome.Commit) = subst (Right tr) q r.1 in later (inr (live_fits tr g r.0 d.is_live))
    by (By_restart i d n q adds has) before = later (inr (doubt_fits tr g r.0 adds))

-- ** the whole

-- a transaction that is old has no greater incarnation
pub old_fits : (tr : Trace) (g : Gtrid) → Old tr g → incarnation tr ≤ last_number → g.incarnation ≤ last_number
old_fits tr g (inl less) fits = omega (arith, less, fits)
old_fits tr g (inr same) fits = let at = same.0 in omega (arith, at, fits)

module _ (tr : Trace) (limits : IsWithinLimits tr) (sound : IsSound (book_of (From (origin tr)))) where
  rows_fit : (g : Gtrid) → IsSome (row_in (log tr) g) → FitsRow g
  rows_fit g some = (old_fits tr g (inv.rows g had).closed.old limits.fits, by (row_fits tr g limits.right had))
    where
      inv : Inv tr
      inv = run_always tr limits.right

      had : had_row tr g ≡ true
      had = inv.row_rowed g (sym (has_row_is tr g) ∙ some)

      by : (lists_row (origin tr).rows g ≡ true) ⊎ (g.sequence ≤ happenings tr) → g.sequence ≤ last_number
      by (inl listed) = (sound.rows_fit g (has_row_is (From (origin tr)) g ∙ listed)).1
      by (inr few) = let events = limits.events in omega (arith, few, events)

  few_below : (n : ℕ) → n ≤ happenings tr → n < 2 ^ 64 - 1
  few_below n few = let events = limits.events in omega (arith, few, events)

  room_below : (n m : ℕ) → n ≤ m + happenings tr → m ≤ last_number → n < 2 ^ 64 - 1
  room_below n m few room = let events = limits.events in omega (arith, few, events, room)

  pub book_is_sound : HasRoomForRun (book_of (From (origin tr))) → IsSound (book_of tr)
  book_is_sound room = record {
    begins = begins_cover tr;
    restarts = few_below (failed_restarts tr) (failed_few tr);
    rows = room_below _ (length (origin tr).rows) (rows_few tr) room.rows;
    records = room_below _ (length (origin tr).heuristic_rows) (records_few tr) room.records;
    fits = limits.fits;
    fits_begins = begins_fit;
    branches = λ g. few_below _ (branches_few tr g);
    unvoted = λ g. few_below _ (unvoted_few tr g);
    unsettled = λ g. few_below _ (unsettled_few tr g);
    rows_fit = rows_fit;
    no_row = λ g is_begun undecided. no_row tr g limits.right is_begun undecided;
  }
    where
      begins_fit : begins tr < last_number
      begins_fit = let few = begins_few tr in let events = limits.events in omega (arith, few, events)

-- one right happening more
pub limits_kept : (tr : Trace) (e : Happening) → IsWithinLimits tr → Right tr e → happenings (Then tr e) ≤ most_events → FitsIncarnation e
    → IsWithinLimits (Then tr e)
limits_kept tr e limits right room fit = record {
  right = (limits.right, right);
  events = room;
  fits = incarnation_fits e fit;
  found = limits.found;
}
  where
    incarnation_fits : (e : Happening) → FitsIncarnation e → incarnation (Then tr e) ≤ last_number
    incarnation_fits (Restarted i d h) fit = fit
    incarnation_fits _ fit = limits.fits

-- ** starts

pub old_start_is_right : (o : Origin) → IsOld (book_of (From o)) → ((b : Branch) → (held_of o b).standing ≡ Unstarted)
    → ((r : ℕ) (x : Xid) → Contains (o.in_doubt r) x → branch_of_xid x ≡ None) → RightOrigin o
old_start_is_right o old clear foreign = record {
  rows_old = λ g h. old.rows g (has_row_is (From o) g ∙ h);
  record_old = λ b h. old.records b (recorded_is (From o) b ∙ h);
  clear = clear;
  foreign = foreign;
}
