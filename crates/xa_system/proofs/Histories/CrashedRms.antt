-- Resource managers after a crash hold what they held before it.
use Rattle.std.proofs.Common.{◌≡◌, inl, inr, ℕ, List, refl, sym, ap, subst, ◌∙◌, arith}
use Rattle.std.specs.Prelude.{Some, slice_get}
use Rattle.std.proofs.lemmas.Option.{slice_get_cases, slice_get_within}
use Rattle.xa_base.specs.HeldBranch.{HeldBranch}
use Rattle.xa_base.specs.Standing.{fate_of}
use Rattle.xa_base.specs.StateTable.{broken}
use Rattle.xa_base.specs.Xid.{Xid}
use Rattle.xa_base.specs.declared.state.Fate.TheVariants as Fates
use Rattle.xa_base.specs.declared.state.Standing.{Standing}
use Rattle.xa_base.specs.declared.state.Standing.TheVariants.{Unstarted, Active, Idle, Prepared, RollbackOnly, Completed, Committed, RolledBack, Lost, ReadOnly, Forgotten}
use Rattle.xa_base.proofs.StateLemmas.{broken_twice}
use Rattle.xa_system.specs.SystemView.{AreClear, ArePast, HasNewer}
use Rattle.xa_system.specs.Steps.{AreCrashed, Crashes}
use Rattle.xa_system.proofs.Histories.ClearStart.{never}
use Rattle.xa_rm.specs.Look.{Look}

-- no crash makes a branch one that never was
never_broken : (f : Standing) → fate_of (broken f) ≡ Fates.Unstarted → fate_of f ≡ Fates.Unstarted
never_broken Active e = absurd (cc)
never_broken Idle e = absurd (cc)
never_broken RollbackOnly e = absurd (cc)
never_broken Unstarted e = refl
never_broken Prepared e = absurd (cc)
never_broken (Completed how) e = absurd (cc)
never_broken Committed e = absurd (cc)
never_broken RolledBack e = absurd (cc)
never_broken Lost e = absurd (cc)
never_broken ReadOnly e = absurd (cc)
never_broken (Forgotten how) e = absurd (cc)

module _ {R : Type 0} (look : R → Look) (old new : List R) (crashes : AreCrashed look old new) where
  -- each that is there now crashed
  pub crashed_from : (r : ℕ) (rm : R) → slice_get new r ≡ Some rm → (before : R) × (slice_get old r ≡ Some before) × Crashes look before rm
  crashed_from r rm at = elim ((slice_get_cases old r).1) [
    | inl w ↦ (
        let after = crashes.each r w.0 w.2 in
        let same : Some after.0 ≡ Some rm = sym after.1 ∙ at in
        let is : after.0 ≡ rm = cc in
        (w.0, w.2, subst (Crashes look w.0) is after.2))
    | inr w ↦ absurd (let within = slice_get_within new r rm at in omega (arith, within, crashes.count, w.0))
  ]

  -- so none of its branches is at work
  pub all_still : (r : ℕ) (rm : R) → slice_get new r ≡ Some rm → (x : Xid) → broken ((look rm).held x).standing ≡ ((look rm).held x).standing
  all_still r rm at x =
      let from = crashed_from r rm at in
      let is = ap (λ (h : HeldBranch). h.standing) (from.2.held x) in
      ap broken is ∙ broken_twice ((look from.0).held x).standing ∙ sym is

  -- what is clear before is clear
  pub still_clear : (incarnation : ℕ) → ArePast look incarnation new → AreClear look old → AreClear look new
  still_clear incarnation past clear r rm at =
      let from = crashed_from r rm at in
      record {
        no_branch = record {
          unstarted = λ x own. ap (λ (h : HeldBranch). fate_of h.standing) (from.2.held x)
              ∙ ap (λ f. fate_of (broken f)) (never ((look from.0).held x).standing ((clear r from.0 from.1).no_branch.unstarted x own));
        };
        listed = (past r rm at).listed;
      }

  -- a branch that is newer is so after
  pub newer_after : (incarnation : ℕ) → HasNewer look incarnation old → HasNewer look incarnation new
  newer_after incarnation newer =
      let after = crashes.each newer.place newer.rm newer.there in
      record {
        place = newer.place;
        rm = after.0;
        there = after.1;
        holds = record {
          xid = newer.holds.xid;
          newer = newer.holds.newer;
          started = λ none. newer.holds.started
              (never_broken ((look newer.rm).held newer.holds.xid).standing
              (sym (ap (λ (h : HeldBranch). fate_of h.standing) (after.2.held newer.holds.xid)) ∙ none));
        };
      }

  -- a branch that is newer was so before
  pub newer_before : (incarnation : ℕ) → HasNewer look incarnation new → HasNewer look incarnation old
  newer_before incarnation newer =
      let from = crashed_from newer.place newer.rm newer.there in
      record {
        place = newer.place;
        rm = from.0;
        there = from.1;
        holds = record {
          xid = newer.holds.xid;
          newer = newer.holds.newer;
          started = λ none. newer.holds.started
              (ap (λ (h : HeldBranch). fate_of h.standing) (from.2.held newer.holds.xid)
              ∙ ap (λ f. fate_of (broken f)) (never ((look from.0).held newer.holds.xid).standing none));
        };
      }
