-- A start over what a history leaves resumes the history.
use Rattle.std.proofs.Common.{◌≡◌, ◌+◌, ℕ, Bool, true, false, List, refl, sym, ap, subst, ◌∙◌, arith}
use Rattle.std.specs.Prelude.{if◌then◌else◌, IsSome, IsSomeAnd, Option, Some, None, slice_get}
use Rattle.std.specs.Option.{option_map_or}
use Rattle.xa_base.specs.Branch.{xid_of_branch}
use Rattle.xa_base.specs.HeldBranch.{HeldBranch, crashed, new_branch}
use Rattle.xa_base.specs.StateTable.{state_of}
use Rattle.xa_base.specs.Xid.{Xid}
use Rattle.xa_base.specs.declared.branch.Branch.{Branch}
use Rattle.xa_log.specs.Content.{Content}
use Rattle.xa_log.specs.declared.decision_log.DecisionLog as DecisionLog
use Rattle.xa_model.specs.Facts.{fits}
use Rattle.xa_model.specs.Facts.Distinct.{ApartRows}
use Rattle.xa_model.specs.Promises.Processes.{Resumes}
use Rattle.xa_model.specs.Trace.{Origin, Recorded, Row, Trace}
use Rattle.xa_tm.specs.Slots.{honest_in, last_out, log_held, slot_moment}
use Rattle.xa_tm.specs.declared.slot.Slot.{Slot}
use Rattle.xa_system.specs.LogInHistory.{StartsOver}
use Rattle.xa_system.specs.NextProcess.{FindsNewer, Leaves, held_among}
use Rattle.xa_system.specs.Parts.{held_at_rm, origin_from}
use Rattle.xa_system.specs.Steps.{AreCrashed}
use Rattle.xa_system.specs.SystemView.{HasNewer}
use Rattle.xa_system.proofs.Histories.CrashedRms.{crashed_from, newer_before}
use Rattle.xa_tm.proofs.Log.NextRows.{next_records, next_rows}
use Rattle.xa_rm.specs.Look.{Look}

module _ {R : Type 0} (look : R → Look) (old new : List R) (crashes : AreCrashed look old new) where
  -- what is held after the crash
  held_crashed : (r : ℕ) (x : Xid) → held_at_rm look new r x ≡ crashed (held_at_rm look old r x)
  held_crashed r x = from_option (slice_get new r) refl
    where
      none_old : (o : Option R) → slice_get old r ≡ o → slice_get new r ≡ None
          → new_branch ≡ crashed (option_map_or (λ rm. (look rm).held) o (λ y. new_branch) x)
      none_old None e at = refl
      none_old (Some rm) e at = absurd (let after = crashes.each r rm e in let no : None ≡ Some after.0 = sym at ∙ after.1 in cc)

      from_option : (o : Option R) → slice_get new r ≡ o
          → option_map_or (λ rm. (look rm).held) o (λ y. new_branch) x ≡ crashed (option_map_or (λ rm. (look rm).held) (slice_get old r) (λ y. new_branch) x)
      from_option None at = none_old (slice_get old r) refl at
      from_option (Some rm) at =
          let from = crashed_from look old new crashes r rm at in
          from.2.held x ∙ sym (ap (λ o. crashed (option_map_or (λ rm. (look rm).held) o (λ y. new_branch) x)) from.1)

  crashed_among : (b : Branch) → held_among look new b ≡ crashed (held_among look old b)
  crashed_among b = by (fits b)
    where
      by : (t : Bool) → (if t then held_at_rm look new b.rm (xid_of_branch b) else new_branch)
          ≡ crashed (if t then held_at_rm look old b.rm (xid_of_branch b) else new_branch)
      by true = held_crashed b.rm (xid_of_branch b)
      by false = refl

  module _ (threads i : ℕ) (rows : List Row) (records : List Recorded) where
    start_resumes : (c : Content) → ApartRows rows → StartsOver (origin_from look threads new i rows records) c → (past : Trace) → Leaves look past old c
        → Resumes past (origin_from look threads new i rows records)
    start_resumes c apart over past leaves = record {
      later = let next = over.incarnation in let least = leaves.log.least in omega (arith, next, least);
      rows = next_rows past (origin_from look threads new i rows records) c leaves.log.is_new leaves.log.rows over apart;
      records = next_records past (origin_from look threads new i rows records) c leaves.log.is_new leaves.log.rows over;
      states = λ b. ap (λ (h : HeldBranch). state_of h.standing) (crashed_among b) ∙ (leaves.branches b).state;
      votes = λ b. ap (λ (h : HeldBranch). h.vote) (crashed_among b) ∙ (leaves.branches b).vote_is;
      retries = λ b. ap (λ (h : HeldBranch). h.retries) (crashed_among b) ∙ (leaves.branches b).retries_are;
    }

    -- so it is over whatever the log holds
    pub each_resumes : (held : Option Content) → ApartRows rows → IsSomeAnd held (StartsOver (origin_from look threads new i rows records))
        → IsSomeAnd held (λ c. (past : Trace) → Leaves look past old c → Resumes past (origin_from look threads new i rows records))
    each_resumes None apart over = absurd over
    each_resumes (Some c) apart over = λ past leaves. start_resumes c apart over past leaves

  -- what is found newer after the crash was so before
  pub finds_newer : {L : Type 0} (logs : DecisionLog.Ghosts L) (o : Origin) (log : L) (slot : Slot L) → IsSome (log_held slot)
      → HasNewer look o.incarnation new
      → ((logs.moment log).is_in_order → (slot_moment logs.moment slot).is_honest → IsSomeAnd (logs.moment log).content (StartsOver o))
      → FindsNewer look logs old log
  finds_newer logs o log slot held newer over = from_option (log_held slot) refl held
    where
      raised : (c : Option Content) → IsSomeAnd c (StartsOver o) → IsSomeAnd c (λ d. o.incarnation ≡ d.incarnation + 1)
      raised None at = absurd at
      raised (Some d) at = at.incarnation

      from_option : (left : Option _) → log_held slot ≡ left → IsSome left → FindsNewer look logs old log
      from_option None e none = absurd (cc)
      from_option (Some left) e some = record {
        incarnation = o.incarnation;
        newer = newer_before look old new crashes o.incarnation newer;
        left = left;
        raised = λ order honest. raised (logs.moment log).content
            (over order (subst (honest_in (λ l. (logs.moment l).is_honest) (last_out slot)) (sym e) honest));
      }
