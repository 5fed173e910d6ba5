-- What a system leaves is what its history leaves.
use Rattle.std.proofs.Common.{◌≡◌, inl, inr, Bool, true, false, List, length, map, refl, sym, ap, subst, ◌∙◌, arith}
use Rattle.std.specs.Prelude.{if◌then◌else◌, IsSomeAnd, Option, Some, None, slice_get}
use Rattle.std.specs.Option.{option_map_or}
use Rattle.std.proofs.lemmas.Bool.{true≢false}
use Rattle.std.proofs.lemmas.List.{length-map}
use Rattle.std.proofs.lemmas.Option.{slice_get_cases}
use Rattle.xa_base.specs.Branch.{IsBranch, xid_of_branch}
use Rattle.xa_base.specs.HeldBranch.{new_branch}
use Rattle.xa_base.specs.StateTable.{broken, state_of}
use Rattle.xa_base.specs.declared.branch.Branch.{Branch}
use Rattle.xa_log.specs.Content.{Content}
use Rattle.xa_log.specs.Contract.{Moment}
use Rattle.xa_model.specs.Facts.{fits, origin, up}
use Rattle.xa_model.specs.Replies.History.{history}
use Rattle.xa_model.specs.Trace.{Trace}
use Rattle.xa_model.proofs.AgreementLemmas.Distinct.{doubt_is_new_to}
use Rattle.xa_model.proofs.ProcessLemmas.Leaving.{branch_fits, fits_branch}
use Rattle.xa_tm.specs.declared.slot.Slot.{Slot}
use Rattle.xa_system.specs.LogInHistory.{IsAsTold, LogStands, LogStandsBy, MayHoldRows, MayRestartOver}
use Rattle.xa_system.specs.NextProcess.{Leaves, LeavesBranch, held_among}
use Rattle.xa_system.specs.Parts.{Sees, held_at_rm}
use Rattle.xa_tm.specs.Calls.{log_in}
use Rattle.xa_system.specs.SystemView.{IsSound, MayRestart, SystemView, observes_parts, start_of, system_view_of, trace_in}
use Rattle.xa_system.specs.Trace.{IsElsewhere}
use Rattle.xa_system.specs.declared.site.Site.{Site}
use Rattle.xa_system.specs.declared.system.System.TheInside.{Inside}
use Rattle.xa_system.proofs.Histories.SystemView.{holds}

module _ {R L : Type 0} (see : Sees R (Slot L)) (moment : L → Moment) (a : Inside R L) (sound : IsSound see moment a) where
  abbrev tr : Trace
  tr = history (start_of see moment a.parts) a.events.items

  abbrev rms : List R
  rms = map (λ (site : Site R). site.rm) a.parts.sites.items

  count : length rms ≡ (origin tr).rms
  count = length-map a.parts.sites.items (λ (site : Site R). site.rm) ∙ sym a.parts.sites.ok.0 ∙ sound.stands.count

  unknown : (b : Branch) → IsElsewhere (origin tr) b → LeavesBranch tr b new_branch
  unknown b away =
      let known = sound.stands.kept.elsewhere b away in
      record {
        state = sym (ap (λ f. state_of (broken f)) known.never);
        vote_is = sym known.vote_is;
        retries_are = sym known.retries_are;
      }

  at_rm : (b : Branch) (o : Option R) → slice_get rms b.rm ≡ o → IsBranch b
      → LeavesBranch tr b (option_map_or (λ rm. (see.look rm).held) o (λ x. new_branch) (xid_of_branch b))
  at_rm b (Some rm) at own =
      let held = ((holds see moment a sound).rms b.rm rm at).branches.own b own refl in
      record {
        state = ap (λ f. state_of (broken f)) held.standing;
        vote_is = held.vote;
        retries_are = held.retries;
      }
  at_rm b None at own = unknown b (λ here. absurd (elim (slice_get_cases rms b.rm).1 [
    | inl w ↦ (let no : None ≡ Some w.0 = sym at ∙ w.2 in cc)
    | inr w ↦ (let n = count in let within = here.1 in absurd (omega (arith, w.0, within, n)))
  ]))

  leaves_branch : (b : Branch) → LeavesBranch tr b (held_among see.look rms b)
  leaves_branch b = by_fit (fits b) refl
    where
      by_fit : (t : Bool) → fits b ≡ t → LeavesBranch tr b (if t then held_at_rm see.look rms b.rm (xid_of_branch b) else new_branch)
      by_fit true own = at_rm b (slice_get rms b.rm) refl (fits_branch b own)
      by_fit false other = unknown b (λ here. absurd (true≢false (sym (branch_fits b here.0) ∙ other)))

  pub leaves_all : (held : Option Content) (c : Content) → held ≡ Some c → LogStands tr held → MayRestartOver tr held → Leaves see.look tr rms c
  leaves_all held c is stands may = record {
    branches = leaves_branch;
    log = record { rows = by_up (up tr) stands; is_new = doubt_is_new_to tr sound.stands.kept.run; least = (may c is).least };
  }
    where
      by_up : (u : Bool) → LogStandsBy u tr held → MayHoldRows tr c
      by_up true told =
          let at : IsSomeAnd (Some c) (IsAsTold tr) = subst (λ o. IsSomeAnd o (IsAsTold tr)) is told in
          (c, at.rows, inl (record { decisions = refl; heuristics = refl }))
      by_up false may_hold = may_hold c is

  -- as it is seen
  pub leaves_view : (s : SystemView R L) → system_view_of a ≡ s → (moment s.handed).is_in_order → (see.moment s.log).is_honest
      → MayRestart (observes_parts see moment) s → (c : Content) → (see.moment (log_in a.parts.manager)).content ≡ Some c
      → (left : List R) → left ≡ rms → Leaves see.look (trace_in see.look s) left c
  leaves_view s view order honest may c is left same =
      subst (λ xs. Leaves see.look (trace_in see.look s) xs c) (sym same)
      (subst (λ v. (moment v.handed).is_in_order → (see.moment v.log).is_honest → MayRestart (observes_parts see moment) v
      → Leaves see.look (trace_in see.look v) rms c) view
      (λ in_order now may_restart. leaves_all (see.moment (log_in a.parts.manager)).content c is ((holds see moment a sound).log.stands in_order now)
      may_restart)
      order honest may)
