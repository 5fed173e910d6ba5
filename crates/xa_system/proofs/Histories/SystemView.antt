-- A sound system holds its history.
use Rattle.std.proofs.Common.{inl, inr, ◌≡◌, false, ℕ, List, [], ◌∷◌, map, refl, sym, ap, subst, ◌∙◌, Option, Some, None}
use Rattle.std.specs.Prelude.{slice_get}
use Rattle.std.specs.Option.{option_map}
use Rattle.std.proofs.lemmas.List.{length-map}
use Rattle.std.proofs.lemmas.Option.{slice_get-map}
use Rattle.xa_model.specs.Replies.Allowed.{with_steps}
use Rattle.xa_base.specs.Branch.{IsBranch, xid_of_branch}
use Rattle.xa_base.specs.Recover.{IsInDoubtList}
use Rattle.xa_model.specs.Facts.{branches, fate, origin}
use Rattle.xa_model.specs.Protocol.{IsRun, OldOrigin}
use Rattle.xa_model.proofs.Replies.Replies.{InBranches, started_in}
use Rattle.xa_base.specs.Standing.{fate_of}
use Rattle.xa_base.specs.Xid.{Xid}
use Rattle.xa_base.specs.declared.branch.Branch.{Branch}
use Rattle.xa_model.specs.Replies.History.{history, read}
use Rattle.xa_model.specs.Replies.Steps as known
use Rattle.xa_model.specs.Replies.Steps.{happened}
use Rattle.xa_model.specs.Trace.{Origin, Trace, Trace.From, Trace.Then}
use Rattle.xa_base.specs.declared.reply.Event.{Event}
use Rattle.xa_system.specs.Parts.{Sees}
use Rattle.xa_system.specs.Trace.{Each}
use Rattle.xa_system.specs.SystemView.{HoldsItsTrace, IsSound, observes_parts, system_view_of, start_of}
use Rattle.xa_system.specs.RmInHistory.{RmStands}
use Rattle.xa_system.specs.declared.site.Site.{Site}
use Rattle.xa_system.specs.declared.system.System.TheInside.{Inside}
use Rattle.xa_system.proofs.Log.Laws.{tied_left, tied_stands}
use Rattle.xa_log.specs.Contract.{Moment}
use Rattle.xa_tm.specs.Calls.{log_in}
use Rattle.xa_tm.specs.declared.slot.Slot.{Slot}
use Rattle.xa_tm.specs.BookAndLog.{IsTied}

-- ** histories

origin_kept : (tr : Trace) (xs : List (known.Step × known.Reply)) → origin (with_steps tr xs) ≡ origin tr
origin_kept tr [] = refl
origin_kept tr (x ∷ xs) = origin_kept (Then tr (happened x.0 x.1)) xs

pub origin_is : (o : Origin) (events : List Event) → origin (history o events) ≡ o
origin_is o events = origin_kept (From o) (map read events)

-- the start of a run
origin_old : (tr : Trace) → IsRun tr → OldOrigin (origin tr)
origin_old (From o) run = run
origin_old (Then tr e) run = origin_old tr run.0

-- an element of a mapped list comes from one of the list
pub mapped_at : {A B : Type 0} (f : A → B) (xs : List A) (k : ℕ) (y : B) → slice_get (map f xs) k ≡ Some y → (x : A) × (slice_get xs k ≡ Some x) × (f x ≡ y)
mapped_at f xs k y e = from_option (slice_get xs k) refl (sym (slice_get-map f xs k) ∙ e)
  where
    from_option : (o : Option _) → slice_get xs k ≡ o → option_map f o ≡ Some y → (x : _) × (slice_get xs k ≡ Some x) × (f x ≡ y)
    from_option None at is = absurd cc
    from_option (Some x) at is = (x, at, cc)

-- of branches with numbers that fit each has such numbers
numbers_in : (bs : List Branch) (b : Branch) → Each IsBranch bs → InBranches bs b → IsBranch b
numbers_in [] b all among = absurd among
numbers_in (x ∷ xs) b all (inl same) = subst IsBranch same all.0
numbers_in (x ∷ xs) b all (inr more) = numbers_in xs b all.1 more

module _ {R L : Type 0} (see : Sees R (Slot L)) (moment : L → Moment) where
  pub holds : (a : Inside R L) → IsSound see moment a → HoldsItsTrace (observes_parts see moment) (system_view_of a)
  holds a sound = record {
    allowed = sound.allowed;
    old = subst OldOrigin (origin_is o a.events.items) (origin_old (history o a.events.items) sound.stands.kept.run);
    listed = λ r. subst (λ p. IsInDoubtList (p.held r) (p.in_doubt r)) (origin_is o a.events.items)
        (sound.stands.over.listed r);
    numbers = λ b is. numbers_in (branches (history o a.events.items)) b sound.stands.kept.numbers (started_in (history o a.events.items) b is);
    count = length-map a.parts.sites.items (λ (site : Site R). site.rm) ∙ sym a.parts.sites.ok.0 ∙ sound.stands.count
        ∙ ap (λ (p : Origin). p.rms) (origin_is o a.events.items);
    grid = sound.stands.rms ∙ ap (λ (p : Origin). p.rms) (origin_is o a.events.items);
    rms = λ r rm at.
        let from = mapped_at (λ (site : Site R). site.rm) a.parts.sites.items r rm at in
        subst (RmStands see.look (history (start_of see moment a.parts) a.events.items) r) from.2 (sound.stands.sites r from.0 from.1).rm;
    lines = sound.stands.lines;
    log = record {
      start = sound.log.start;
      stands = λ order honest. tied_stands (history (start_of see moment a.parts) a.events.items) (see.moment (log_in a.parts.manager)).content
          (subst (λ k. IsTied false k (see.moment (log_in a.parts.manager)).content) sound.stands.book (sound.log.tied order honest));
      order = sound.log.order;
      leaves = λ order honest c left. tied_left (history o a.events.items) c
          (subst (λ k. IsTied false k (Some c)) sound.stands.book (sound.log.left order honest c left));
    };
  }
    where
      o : Origin
      o = start_of see moment a.parts

  -- what became of a branch, as its resource manager says
  pub fate_is : (a : Inside R L) → IsSound see moment a → (x : Xid) (found b : Branch) (site : Site R) → Some found ≡ Some b → IsBranch b
      → x ≡ xid_of_branch b → slice_get a.parts.sites.items found.rm ≡ Some site
      → fate_of ((see.look site.rm).held x).standing ≡ fate (history (start_of see moment a.parts) a.events.items) b
  fate_is a sound x found b site same fits e at =
      let is : found ≡ b = cc in
      ap (λ y. fate_of ((see.look site.rm).held y).standing) e
      ∙ ap fate_of ((sound.stands.sites found.rm site at).rm.branches.own b fits (ap (λ (d : Branch). d.rm) (sym is))).standing
