-- A start over resource managers that hold nothing of this manager.
use Rattle.std.proofs.Common.{◌≡◌, ◌⊎◌, inl, inr, ℕ, Bool, true, false, List, [], length, refl, sym, ap, subst, ◌∙◌, arith}
use Rattle.std.specs.Prelude.{if◌then◌else◌, Option, Some, None, Contains, slice_get}
use Rattle.std.specs.List.Sorted.{IsStrictlySortedBy}
use Rattle.std.specs.Option.{option_map_or}
use Rattle.std.specs.Ordering.{int_eq}
use Rattle.std.proofs.lemmas.Bool.{cases_Bool, true≢false}
use Rattle.xa_tm.proofs.History.Limits.{old_start_is_right}
use Rattle.xa_tm.specs.Starting.{IsOld}
use Rattle.xa_model.specs.Facts.{fits, held_of}
use Rattle.xa_base.specs.declared.branch.Branch.{Branch}
use Rattle.xa_base.specs.Branch.{branch_of_xid, own_format, xid_of_branch}
use Rattle.xa_base.specs.HeldBranch.{new_branch}
use Rattle.xa_base.specs.Recover.{IsInDoubtList}
use Rattle.xa_model.specs.Protocol.{OldOrigin, RightOrigin}
use Rattle.xa_model.proofs.Invariant.Preservation.{run_of}
use Rattle.xa_base.specs.Standing.{fate_of, is_in_doubt}
use Rattle.xa_base.specs.StateTable.{broken}
use Rattle.xa_model.specs.Trace.{Trace.From}
use Rattle.xa_base.specs.Xid.{Xid}
use Rattle.xa_base.specs.declared.state.Fate.TheVariants as Fates
use Rattle.xa_base.specs.declared.state.Standing.{Standing}
use Rattle.xa_base.specs.declared.state.Standing.TheVariants.{Unstarted, Active, Idle, Prepared, RollbackOnly, Completed, Committed, RolledBack, Lost, ReadOnly, Forgotten}
use Rattle.xa_base.proofs.BranchLemmas.{own_format_of}
use Rattle.xa_tm.specs.declared.manager.Manager.{Manager}
use Rattle.xa_system.specs.Parts.{Sees, origin_of}
use Rattle.xa_system.specs.SystemView.{AreClear, IsUnclear}
use Rattle.xa_tm.specs.Started.{IsStarted}
use Rattle.xa_system.specs.RmInHistory.{BeginsOver}
use Rattle.xa_rm.specs.Look.{Look}
use Rattle.xa_system.proofs.Histories.Start.{begun}

pub never : (f : Standing) → fate_of f ≡ Fates.Unstarted → f ≡ Unstarted
never Unstarted e = refl
never Active e = absurd (cc)
never Idle e = absurd (cc)
never Prepared e = absurd (cc)
never RollbackOnly e = absurd (cc)
never (Completed how) e = absurd (cc)
never Committed e = absurd (cc)
never RolledBack e = absurd (cc)
never Lost e = absurd (cc)
never ReadOnly e = absurd (cc)
never (Forgotten how) e = absurd (cc)

pub none_listed : IsInDoubtList (λ x. new_branch) []
unfolding IsStrictlySortedBy
none_listed = record { in_order = tt; listed = λ x. (λ in_none. absurd (omega (arith, in_none.1)), λ e. absurd (cc)) }

module _ {R L : Type 0} (see : Sees R L) (threads : ℕ) (rms : List R) (manager : Manager L) (clear : AreClear see.look rms)
    (new : IsStarted threads (length rms) manager) where
  none_started : (r : ℕ) (x : Xid) → x.format ≡ own_format → ((origin_of see threads rms manager).held r x).standing ≡ Unstarted
  none_started r x e = from_option (slice_get rms r) refl
    where
      from_option : (o : Option R) → slice_get rms r ≡ o → (option_map_or (λ rm. (see.look rm).held) o (λ x. new_branch) x).standing ≡ Unstarted
      from_option None at = refl
      from_option (Some rm) at = never _ ((clear r rm at).no_branch.unstarted x e)

  all_listed : (r : ℕ) → IsInDoubtList ((origin_of see threads rms manager).held r) ((origin_of see threads rms manager).in_doubt r)
  all_listed r = from_option (slice_get rms r) refl
    where
      from_option : (o : Option R) → slice_get rms r ≡ o
          → IsInDoubtList (option_map_or (λ rm. (see.look rm).held) o (λ x. new_branch)) (option_map_or (λ rm. (see.look rm).in_doubt) o [])
      from_option None at = none_listed
      from_option (Some rm) at = (clear r rm at).listed

  foreign_listed : (r : ℕ) (x : Xid) → Contains ((origin_of see threads rms manager).in_doubt r) x → branch_of_xid x ≡ None
  foreign_listed r x listed = by_format (cases_Bool (int_eq x.format own_format))
    where
      by_format : (int_eq x.format own_format ≡ true) ⊎ (int_eq x.format own_format ≡ false) → branch_of_xid x ≡ None
      by_format (inr other) = rw other refl
      by_format (inl own) =
          let doubt = ((all_listed r).listed x).0 listed in
          absurd (true≢false (sym doubt ∙ ap is_in_doubt (none_started r x (own_format_of x own))))

  none_there : (b : Branch) → (held_of (origin_of see threads rms manager) b).standing ≡ Unstarted
  none_there b = by_fit (fits b)
    where
      by_fit : (t : Bool)
          → (if t then (origin_of see threads rms manager).held b.rm (xid_of_branch b) else new_branch).standing ≡ Unstarted
      by_fit true = none_started b.rm (xid_of_branch b) refl
      by_fit false = refl

  pub starts_clear : BeginsOver (origin_of see threads rms manager)
  starts_clear = record {
    still = λ b. subst (λ s. broken s ≡ s) (sym (none_there b)) refl;
    numbers = λ b. inl (none_there b);
    listed = all_listed;
    home = λ r x listed. inr (foreign_listed r x listed);
  }

  pub starts_right : RightOrigin (origin_of see threads rms manager)
  starts_right =
      old_start_is_right (origin_of see threads rms manager) (subst IsOld (begun see threads rms manager new) new.old) none_there foreign_listed

  pub starts_old : OldOrigin (origin_of see threads rms manager)
  starts_old = run_of (From (origin_of see threads rms manager)) starts_right

module _ {R : Type 0} (look : R → Look) where
  -- what is clear isn't unclear
  pub not_both : (rms : List R) → AreClear look rms → IsUnclear look rms → ⊥
  not_both rms clear un = un.holds.started ((clear un.place un.rm un.there).no_branch.unstarted un.holds.xid un.holds.format)
