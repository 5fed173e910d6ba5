-- A start over resource managers that hold nothing of this manager but what earlier processes left.
use Rattle.std.proofs.Common.{◌≡◌, ◌≤◌, ◌<◌, ◌^◌, ◌⊎◌, inl, inr, ℕ, Bool, true, false, List, [], length, map, refl, sym, ap, subst, ◌∙◌, arith}
use Rattle.std.specs.Prelude.{if◌then◌else◌, not, Option, Some, None, Contains, slice_get}
use Rattle.std.specs.Option.{option_map, option_map_or}
use Rattle.std.proofs.lemmas.Bool.{and_parts, cases_Bool, eqb-true, leb-true, ltb-true, true≢false}
use Rattle.std.proofs.lemmas.Option.{slice_get-map, slice_get_within}
use Rattle.xa_base.specs.Branch.{branch_of_xid, xid_of_branch}
use Rattle.xa_base.specs.HeldBranch.{new_branch}
use Rattle.xa_base.specs.Recover.{IsInDoubtList}
use Rattle.xa_base.specs.Standing.{is_in_doubt}
use Rattle.xa_base.specs.StateTable.{broken}
use Rattle.xa_base.specs.Xid.{Xid}
use Rattle.xa_base.specs.declared.branch.Branch.{Branch}
use Rattle.xa_base.specs.declared.state.Standing.TheVariants.{Unstarted}
use Rattle.xa_base.proofs.XidOrder.{xid_eq-same}
use Rattle.xa_log.specs.Content.{last_number}
use Rattle.xa_model.specs.Facts.{fits, held_of}
use Rattle.xa_model.specs.Facts.InDoubt.{name_by}
use Rattle.xa_model.specs.Protocol.{OldOrigin}
use Rattle.xa_model.specs.Trace.{Name.Ours, Origin, Trace.From}
use Rattle.xa_model.proofs.NameLemmas.OwnNames.{own_name}
use Rattle.xa_model.proofs.ProcessLemmas.Leaving.{fits_branch}
use Rattle.xa_rm.specs.ResourceManager.{HoldsNewer, is_past_as}
use Rattle.xa_tm.proofs.History.Refusals.{has_row_is, recorded_is}
use Rattle.xa_tm.specs.Book.{book_of}
use Rattle.xa_tm.specs.Calls.{book_in}
use Rattle.xa_tm.specs.Starting.{IsOld}
use Rattle.xa_tm.specs.declared.manager.Manager.{Manager}
use Rattle.xa_system.specs.Parts.{Sees, origin_of}
use Rattle.xa_system.specs.SystemView.{ArePast, HasNewer, IsOfPast, new_site}
use Rattle.xa_tm.specs.Started.{IsStarted}
use Rattle.xa_system.specs.RmInHistory.{BeginsOver, IsOwnAt}
use Rattle.xa_system.specs.declared.site.Site.{Site}
use Rattle.xa_system.proofs.Histories.Start.{back_again, begun}
use Rattle.xa_system.proofs.Histories.ClearStart.{never, none_listed}
use Rattle.xa_rm.specs.Look.{Look}

module _ {R L : Type 0} (see : Sees R L) (threads : ℕ) (rms : List R) (manager : Manager L) (new : IsStarted threads (length rms) manager)
    (few : length rms ≤ 8) (past : ArePast see.look (book_in manager).incarnation rms)
    (still : (r : ℕ) (rm : R) → slice_get rms r ≡ Some rm → (x : Xid) → broken ((see.look rm).held x).standing ≡ ((see.look rm).held x).standing) where
  here : Origin
  here = origin_of see threads rms manager

  -- what is held of an identifier that names a branch
  abbrev IsLeftAs : (r : ℕ) → Xid → Branch → Type 0
  IsLeftAs r x b = ((here.held r x).standing ≡ Unstarted) ⊎ (is_past_as r (book_in manager).incarnation x b ≡ true)

  left_as : (r : ℕ) (x : Xid) (b : Branch) → branch_of_xid x ≡ Some b → IsLeftAs r x b
  unfolding here
  left_as r x b named = from_option (slice_get rms r) refl (cases_Bool (is_past_as r (book_in manager).incarnation x b))
    where
      from_option : (o : Option R) → slice_get rms r ≡ o
          → (is_past_as r (book_in manager).incarnation x b ≡ true) ⊎ (is_past_as r (book_in manager).incarnation x b ≡ false)
          → ((option_map_or (λ rm. (see.look rm).held) o (λ y. new_branch) x).standing ≡ Unstarted) ⊎ (is_past_as r (book_in manager).incarnation x b ≡ true)
      from_option o at (inl is) = inr is
      from_option None at (inr other) = inl refl
      from_option (Some rm) at (inr other) =
          inl (never _ ((past r rm at).past.unstarted x
          (ap (λ o. option_map_or (λ c. not (is_past_as r (book_in manager).incarnation x c)) o false) named ∙ ap not other)))

  -- the numbers of one that is left
  pub record IsNumbered (r : ℕ) (x : Xid) (b : Branch) : Type 0 where
    pub thread : b.thread < 2 ^ 32
    pub is : x ≡ xid_of_branch b
    pub rm : b.rm ≡ r
    pub incarnation : b.gtrid.incarnation < (book_in manager).incarnation
    pub sequence : b.gtrid.sequence ≤ last_number

  numbered : (r : ℕ) (x : Xid) (b : Branch) → is_past_as r (book_in manager).incarnation x b ≡ true → IsNumbered r x b
  numbered r x b is =
      let parts = and_parts _ _ is in
      let own = and_parts _ _ parts.0 in
      let far = and_parts _ _ parts.1 in
      let old = and_parts _ _ far.1 in
      record {
        thread = ltb-true _ _ own.0;
        is = xid_eq-same x (xid_of_branch b) own.1;
        rm = eqb-true _ _ far.0;
        incarnation = ltb-true _ _ old.0;
        sequence = leb-true _ _ old.1;
      }

  -- what is held of a branch
  found : (b : Branch) → ((held_of here b).standing ≡ Unstarted) ⊎ IsNumbered b.rm (xid_of_branch b) b
  found b = by_fit (fits b) refl
    where
      named : (o : Option Branch) → name_by (xid_of_branch b) o ≡ Ours b → o ≡ Some b
      named (Some c) e = cc
      named None e = absurd (cc)

      by_fit : (t : Bool) → fits b ≡ t
          → ((if t then here.held b.rm (xid_of_branch b) else new_branch).standing ≡ Unstarted) ⊎ IsNumbered b.rm (xid_of_branch b) b
      by_fit false q = inl refl
      by_fit true q =
          elim (left_as b.rm (xid_of_branch b) b (named (branch_of_xid (xid_of_branch b)) (own_name b (fits_branch b q)))) [
            | inl none ↦ inl none
            | inr is ↦ inr (numbered b.rm (xid_of_branch b) b is)
          ]

  all_rest : (r : ℕ) (x : Xid) → broken (here.held r x).standing ≡ (here.held r x).standing
  unfolding here
  all_rest r x = from_option (slice_get rms r) refl
    where
      from_option : (o : Option R) → slice_get rms r ≡ o
          → broken (option_map_or (λ rm. (see.look rm).held) o (λ y. new_branch) x).standing
          ≡ (option_map_or (λ rm. (see.look rm).held) o (λ y. new_branch) x).standing
      from_option None at = refl
      from_option (Some rm) at = still r rm at x

  all_in_doubt : (r : ℕ) → IsInDoubtList (here.held r) (here.in_doubt r)
  unfolding here
  all_in_doubt r = from_option (slice_get rms r) refl
    where
      from_option : (o : Option R) → slice_get rms r ≡ o
          → IsInDoubtList (option_map_or (λ rm. (see.look rm).held) o (λ x. new_branch)) (option_map_or (λ rm. (see.look rm).in_doubt) o [])
      from_option None at = none_listed
      from_option (Some rm) at = (past r rm at).listed

  -- a resource manager that has something in doubt is there
  there_is_one : (r : ℕ) (x : Xid) → is_in_doubt (here.held r x).standing ≡ true → r < length rms
  unfolding here
  there_is_one r x e = from_option (slice_get rms r) refl e
    where
      from_option : (o : Option R) → slice_get rms r ≡ o → is_in_doubt (option_map_or (λ rm. (see.look rm).held) o (λ y. new_branch) x).standing ≡ true
          → r < length rms
      from_option None at h = absurd (cc)
      from_option (Some rm) at h = slice_get_within rms r rm at

  own_listed : (r : ℕ) (x : Xid) → Contains (here.in_doubt r) x → IsOwnAt r x ⊎ (branch_of_xid x ≡ None)
  own_listed r x listed = by_branch (branch_of_xid x) refl
    where
      doubt : is_in_doubt (here.held r x).standing ≡ true
      doubt = ((all_in_doubt r).listed x).0 listed

      by_branch : (o : Option Branch) → branch_of_xid x ≡ o → IsOwnAt r x ⊎ (o ≡ None)
      by_branch None e = inr refl
      by_branch (Some b) e = inl (elim (left_as r x b e) [
        | inl none ↦ absurd (true≢false (sym doubt ∙ ap is_in_doubt none))
        | inr is ↦ (
            let at = numbered r x b is in
            let within = there_is_one r x doubt in
            let most = new.sound.fits in (
              b,
              record {
                incarnation = omega (arith, at.incarnation, most);
                sequence = omega (arith, at.sequence);
                thread = at.thread;
                rm = omega (arith, at.rm, within, few);
              },
              at.rm,
              at.is,
            ))
      ])

  pub past_over : BeginsOver (origin_of see threads rms manager)
  unfolding here
  past_over = record {
    still = λ b. by_fit b (fits b);
    numbers = λ b. elim (found b) [
      | inl none ↦ inl none
      | inr at ↦ inr at.sequence
    ];
    listed = all_in_doubt;
    home = own_listed;
  }
    where
      by_fit : (b : Branch) (t : Bool) → broken (if t then (origin_of see threads rms manager).held b.rm (xid_of_branch b) else new_branch).standing
          ≡ (if t then (origin_of see threads rms manager).held b.rm (xid_of_branch b) else new_branch).standing
      by_fit b true = all_rest b.rm (xid_of_branch b)
      by_fit b false = refl

  pub past_old : OldOrigin (origin_of see threads rms manager)
  unfolding here
  past_old = record {
    rows_old = λ g h. old.rows g (has_row_is (From (origin_of see threads rms manager)) g ∙ h);
    record_old = λ b h. old.records b (recorded_is (From (origin_of see threads rms manager)) b ∙ h);
    held_old = λ b. elim (found b) [
      | inl none ↦ inl none
      | inr at ↦ inr at.incarnation
    ];
  }
    where
      old : IsOld (book_of (From (origin_of see threads rms manager)))
      old = subst IsOld (begun see threads rms manager new) new.old

-- ** the look at the resource managers

module _ {R : Type 0} (look : R → Look) (incarnation : ℕ) (sites : List (Site R)) where
  abbrev rms_of : List R
  rms_of = map (λ (s : Site R). s.rm) sites

  pub are_of_past : ((r : ℕ) (site : Site R) → slice_get sites r ≡ Some site → IsOfPast look incarnation r site.rm) → ArePast look incarnation rms_of
  are_of_past all r rm at = from_option (slice_get sites r) refl (sym (slice_get-map (λ (s : Site R). s.rm) sites r) ∙ at)
    where
      from_option : (o : Option (Site R)) → slice_get sites r ≡ o → option_map (λ (s : Site R). s.rm) o ≡ Some rm → IsOfPast look incarnation r rm
      from_option None e is = absurd cc
      from_option (Some site) e is = subst (IsOfPast look incarnation r) (let same : site.rm ≡ rm = cc in same) (all r site e)

  pub one_newer : (r : ℕ) (site : Site R) → slice_get sites r ≡ Some site → HoldsNewer (look site.rm).held r incarnation → HasNewer look incarnation rms_of
  one_newer r site at holds = record {
    place = r;
    rm = site.rm;
    there = slice_get-map (λ (s : Site R). s.rm) sites r ∙ ap (option_map (λ (s : Site R). s.rm)) at;
    holds = holds;
  }

-- what is of the past has nothing newer
pub none_newer : {R : Type 0} (look : R → Look) (incarnation : ℕ) (rms : List R) → ArePast look incarnation rms → HasNewer look incarnation rms → ⊥
none_newer look incarnation rms past newer = newer.holds.started ((past newer.place newer.rm newer.there).past.unstarted newer.holds.xid newer.holds.newer)

-- what holds of the resource managers of new sites
pub of_sites : {R : Type 0} (P : ℕ → List R → Type 0) (i j : ℕ) (now sites : List (Site R)) (rms : List R) → i ≡ j → now ≡ sites → sites ≡ map new_site rms
    → P i (map (λ (s : Site R). s.rm) now) → P j rms
of_sites P i j now sites rms same is all h = subst (λ n. P n rms) same (subst (P i) (ap (map (λ (s : Site _). s.rm)) (is ∙ all) ∙ back_again rms) h)
