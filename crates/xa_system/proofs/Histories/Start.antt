-- A new system stands where its history begins.
use Rattle.std.proofs.Common.{◌≡◌, ◌<◌, inl, ℕ, Bool, true, false, List, [], ◌∷◌, map, length, refl, sym, ap, subst, ◌∙◌, arith}
use Rattle.std.specs.Prelude.{if◌then◌else◌, Option, Some, None, IsSomeAnd, slice_get, vec_len}
use Rattle.std.specs.Option.{option_map, option_map_or}
use Rattle.std.specs.Vec.{vec_capacity}
use Rattle.std.proofs.lemmas.List.{length-map}
use Rattle.std.proofs.lemmas.Option.{slice_get-map, slice_get_within}
use Rattle.xa_tm.specs.Starting.{book_at_start}
use Rattle.xa_tm.specs.Limits.{HasRoomForRun}
use Rattle.xa_log.specs.Contract.{Moment}
use Rattle.xa_system.specs.declared.parts.Parts.{Parts}
use Rattle.xa_model.specs.Facts.{fits, held_of}
use Rattle.xa_model.proofs.ProcessLemmas.Leaving.{branch_fits, fits_branch}
use Rattle.xa_base.specs.declared.branch.Branch.{Branch}
use Rattle.xa_tm.specs.Book.{Book, book_of}
use Rattle.xa_tm.specs.declared.slot.Slot.{Slot}
use Rattle.xa_tm.specs.LedgerBook as books
use Rattle.xa_base.specs.Branch.{IsBranch, xid_of_branch}
use Rattle.xa_base.specs.HeldBranch.{HeldBranch, new_branch}
use Rattle.xa_model.specs.Replies.History.{history}
use Rattle.xa_model.specs.Facts.InDoubt.{xid_of_name}
use Rattle.xa_model.specs.Protocol.{OldOrigin}
use Rattle.xa_base.specs.Scan.{Scan, Scan.Behind, Scan.NotOpen}
use Rattle.xa_base.specs.Standing.{is_in_doubt}
use Rattle.xa_base.specs.StateTable.{broken}
use Rattle.xa_model.specs.Trace.{Name.Foreign, Origin, Trace.From, line}
use Rattle.xa_base.specs.Xid.{Xid}
use Rattle.xa_line.specs.Grid.{Grid, line_at}
use Rattle.xa_line.proofs.GridLaws.{line_at-new_grid, whole-new_grid}
use Rattle.xa_tm.specs.declared.manager.Manager.{Manager}
use Rattle.xa_tm.specs.Calls.{book_in, log_in}
use Rattle.xa_tm.specs.BookAndLog.{IsTied}
use Rattle.xa_system.specs.LogInHistory.{IsDurable, StartsOver}
use Rattle.xa_system.specs.declared.system.System.TheInside.{Inside}
use Rattle.xa_system.proofs.Log.Laws.{near_restarts, starts_over}
use Rattle.xa_line.specs.Histories.{LineStands}
use Rattle.xa_system.specs.Parts.{Sees, SiteStands, Stands, origin_of}
use Rattle.xa_system.specs.declared.system.TheConstants.{EVENT_LIMIT}
use Rattle.xa_system.specs.SystemView.{AreNew, IsSound, MayRestart, new_site, observes_parts, system_view_of, start_of}
use Rattle.xa_tm.specs.Started.{IsStarted, IsStartedOver}
use Rattle.xa_tm.proofs.Log.Leaves.{left_up}
use Rattle.xa_system.specs.Trace.{IsElsewhere, IsUnknown}
use Rattle.xa_system.specs.RmInHistory.{BeginsOver, RmStands, scan_by}
use Rattle.xa_system.specs.declared.site.Site.{Site}

scan_back : (s : Scan Xid) → s ≡ scan_by xid_of_name (scan_by (λ x. Foreign x) s)
scan_back NotOpen = refl
scan_back (Behind None) = refl
scan_back (Behind (Some x)) = refl

mapped_site : {R : Type 0} (rms : List R) (r : ℕ) (site : Site R) → slice_get (map new_site rms) r ≡ Some site
    → (rm : R) × (slice_get rms r ≡ Some rm) × (new_site rm ≡ site)
mapped_site rms r site e = from_option (slice_get rms r) refl (sym (slice_get-map new_site rms r) ∙ e)
  where
    from_option : (o : Option _) → slice_get rms r ≡ o → option_map new_site o ≡ Some site → (rm : _) × (slice_get rms r ≡ Some rm) × (new_site rm ≡ site)
    from_option None at is = absurd cc
    from_option (Some rm) at is = (rm, at, cc)

pub back_again : {R : Type 0} (rms : List R) → map (λ (s : Site R). s.rm) (map new_site rms) ≡ rms
back_again [] = refl
back_again (x ∷ xs) = ap (λ ys. x ∷ ys) (back_again xs)

module _ {R L : Type 0} (see : Sees R L) (threads : ℕ) (rms : List R) (manager : Manager L) (new : IsStarted threads (length rms) manager) where
  -- the manager's book is that of the start
  pub begun : book_in manager ≡ book_of (From (origin_of see threads rms manager))
  begun = new.book (origin_of see threads rms manager) (record { threads_are = refl; rms_are = refl; incarnation = refl; rows = refl; records = refl })

  held_there : (r : ℕ) (rm : R) → slice_get rms r ≡ Some rm → (origin_of see threads rms manager).held r ≡ (see.look rm).held
  held_there r rm at = ap (λ o. option_map_or (λ rm. (see.look rm).held) o (λ x. new_branch)) at

  -- what is held of a branch with an identifier is what its resource manager holds
  held_as : (b : Branch) → IsBranch b
      → held_of (origin_of see threads rms manager) b ≡ (origin_of see threads rms manager).held b.rm (xid_of_branch b)
  held_as b h = ap (λ t. if t then (origin_of see threads rms manager).held b.rm (xid_of_branch b) else new_branch) (branch_fits b h)

  -- and that is where the history begins
  held_at_first : (r : ℕ) (rm : R) (b : Branch) → slice_get rms r ≡ Some rm → IsBranch b → b.rm ≡ r
      → (see.look rm).held (xid_of_branch b) ≡ held_of (origin_of see threads rms manager) b
  held_at_first r rm b at h here =
      ap (λ (f : Xid → HeldBranch). f (xid_of_branch b)) (sym (ap (origin_of see threads rms manager).held here ∙ held_there r rm at)) ∙ sym (held_as b h)

  -- nothing is held of a branch elsewhere
  held_elsewhere : (b : Branch) → IsElsewhere (origin_of see threads rms manager) b → held_of (origin_of see threads rms manager) b ≡ new_branch
  held_elsewhere b away = by_fit (fits b) refl
    where
      from_option : (o : Option R) → slice_get rms b.rm ≡ o → IsBranch b
          → option_map_or (λ rm. (see.look rm).held) o (λ x. new_branch) (xid_of_branch b) ≡ new_branch
      from_option None at own = refl
      from_option (Some rm) at own = absurd (away (own, slice_get_within rms b.rm rm at))

      by_fit : (t : Bool) → fits b ≡ t → (if t then (origin_of see threads rms manager).held b.rm (xid_of_branch b) else new_branch) ≡ new_branch
      by_fit true own = from_option (slice_get rms b.rm) refl (fits_branch b own)
      by_fit false other = refl

  pub none_elsewhere : (b : Branch) → IsElsewhere (origin_of see threads rms manager) b → IsUnknown (From (origin_of see threads rms manager)) b
  none_elsewhere b away =
      let none = held_elsewhere b away in
      record {
        unstarted = refl;
        never = ap (λ (h : HeldBranch). h.standing) none;
        vote_is = ap (λ (h : HeldBranch). h.vote) none;
        retries_are = ap (λ (h : HeldBranch). h.retries) none;
      }

  pub rm_starts : BeginsOver (origin_of see threads rms manager) → (r : ℕ) (rm : R) → slice_get rms r ≡ Some rm
      → RmStands see.look (From (origin_of see threads rms manager)) r rm
  rm_starts over r rm at = record {
    branches = record {
      own = λ b h here. let same = held_at_first r rm b at h here in record {
        standing = ap (λ (k : HeldBranch). k.standing) same;
        vote = ap (λ (k : HeldBranch). k.vote) same;
        retries = ap (λ (k : HeldBranch). k.retries) same;
        starter = inl (subst (λ (k : HeldBranch). broken k.standing ≡ k.standing) (sym same) (over.still b));
      };
      others = λ x other. ap (λ (f : Xid → HeldBranch). is_in_doubt (f x).standing) (sym (held_there r rm at));
    };
    scan = scan_back ((see.look rm).scan 0)
        ∙ ap (λ o. scan_by xid_of_name (option_map_or (λ q. scan_by (λ x. Foreign x) ((see.look q).scan 0)) o NotOpen)) (sym at);
  }

module _ {R L : Type 0} (see : Sees R (Slot L)) (moment : L → Moment) (threads : ℕ) (rms : List R) (parts : Parts R (Slot L))
    (first : AreNew threads rms parts) (new : IsStarted threads (length rms) parts.manager) where
  here : Origin
  here = origin_of see threads rms parts.manager

  same_book : book_in parts.manager ≡ book_of (From here)
  unfolding here
  same_book = begun see threads rms parts.manager new

  -- and the manager is up
  pub starts_up : (book_in parts.manager).up ≡ true
  unfolding here
  starts_up = ap (λ (k : Book). k.up) same_book

  -- where the parts start
  pub origin_same : start_of see moment parts ≡ origin_of see threads rms parts.manager
  origin_same = λ i. origin_of see (ap (λ (g : Grid). g.threads) first.lines i) (first.start i) (first.began i)

  parts_stand : BeginsOver (origin_of see threads rms parts.manager) → OldOrigin (origin_of see threads rms parts.manager) → 0 < threads
      → Stands see (From (origin_of see threads rms parts.manager)) parts
  unfolding here
  parts_stand begins old some = record {
    origin = sym origin_same;
    some_thread = some;
    kept = record {
      run = old;
      numbers = tt;
      elsewhere = none_elsewhere see threads rms parts.manager new;
      calls = λ l. tt;
      answers = λ l. tt;
      pages = λ r. tt;
    };
    over = begins;
    apart = new.apart;
    began = subst books.IsSound same_book new.sound;
    room = subst HasRoomForRun same_book new.room;
    fits = new.sound.fits;
    count = parts.sites.ok.0 ∙ ap length first.sites ∙ length-map rms new_site;
    sites = λ r site at.
        let from = mapped_site rms r site (sym (ap (λ xs. slice_get xs r) first.sites) ∙ at) in
        subst (SiteStands see (From here) r) from.2
        (record { is_up = refl; rm = rm_starts see threads rms parts.manager new begins r from.0 from.1 });
    rms = ap (λ (g : Grid). g.rms) first.lines;
    whole = rw first.lines (whole-new_grid threads (length rms));
    lines =
        λ t r has. subst (LineStands (From here) (line t r))
        (sym (ap (λ g. line_at g t r) first.lines ∙ line_at-new_grid threads (length rms) t r))
        (record { all_issued = refl; all_answered = refl; all_heard = refl; each_answered = refl });
    book = same_book;
  }

  module _ (log : L) (over : IsStartedOver see.moment threads (length rms) (moment log) parts.manager) where
    pub starts_over_log : (moment log).is_in_order → (see.moment (log_in parts.manager)).is_honest
        → IsSomeAnd (moment log).content (StartsOver (origin_of see threads rms parts.manager))
    unfolding here
    starts_over_log order honest =
        starts_over here threads (length rms) (moment log).content (see.moment (log_in parts.manager)).content (over.raised order honest)
        (subst (λ k. IsSomeAnd (see.moment (log_in parts.manager)).content (λ c. k ≡ book_at_start threads (length rms) c)) same_book
        (over.book order honest))

    -- a system of new parts with no events is sound
    pub new_sound : BeginsOver (origin_of see threads rms parts.manager) → OldOrigin (origin_of see threads rms parts.manager)
        → (a : Inside R L) → a.parts ≡ parts → IsDurable see.moment → 0 < threads → a.events.items ≡ [] → vec_len a.events ≡ 0
        → vec_capacity a.events ≡ EVENT_LIMIT → a.first.value ≡ log → a.handed.value ≡ log → IsSound see moment a
    unfolding here
    new_sound begins old a same durable some none len room same_first same_handed = record {
      few = omega (arith, len);
      room = omega (arith, room);
      stands = subst (λ o. Stands see o a.parts) (sym (ap (λ es. history (start_of see moment a.parts) es) none ∙ ap From origin_there))
          (subst (Stands see (From here)) (sym same) (parts_stand begins old some));
      allowed = rw none tt;
      log = record {
        order = order_as;
        honest = λ h. subst (λ l. (moment l).is_honest) (sym same_handed)
            (over.honest (subst (λ (p : Parts R (Slot L)). (see.moment (log_in p.manager)).is_honest) same h));
        start = λ order honest.
            let in_order = subst (λ l. (moment l).is_in_order) same_first order in
            let now = subst (λ m. (see.moment (log_in m)).is_honest) first.began
            (subst (λ (p : Parts R (Slot L)). (see.moment (log_in p.began.value)).is_honest) same honest) in
            subst (λ o. IsSomeAnd (moment a.first.value).content (StartsOver o)) (sym origin_there)
            (subst (λ l. IsSomeAnd (moment l).content (StartsOver here)) (sym same_first) (starts_over_log in_order now));
        tied = tied_as false;
        left = λ order honest.
            left_up false (book_in a.parts.manager) (see.moment (log_in a.parts.manager)).content (see.moment (log_in a.parts.manager)).may_leave
            (ap (λ (p : Parts R (Slot L)). (book_in p.manager).up) same ∙ starts_up) (tied_as false order honest)
            (λ c d. durable (log_in a.parts.manager) c d (order_as order));
      };
    }
      where
        origin_there : start_of see moment a.parts ≡ here
        origin_there = ap (start_of see moment) same ∙ origin_same

        order_as : (moment a.handed.value).is_in_order → (see.moment (log_in a.parts.manager)).is_in_order
        order_as h = subst (λ (p : Parts R (Slot L)). (see.moment (log_in p.manager)).is_in_order) (sym same)
            (over.order (subst (λ l. (moment l).is_in_order) same_handed h))

        tied_as : (near : Bool) → (moment a.handed.value).is_in_order → (see.moment (log_in a.parts.manager)).is_honest
            → IsTied near (book_in a.parts.manager) (see.moment (log_in a.parts.manager)).content
        tied_as near order honest =
            let in_order = subst (λ l. (moment l).is_in_order) same_handed order in
            let now = subst (λ (p : Parts R (Slot L)). (see.moment (log_in p.manager)).is_honest) same honest in
            subst (λ (p : Parts R (Slot L)). IsTied near (book_in p.manager) (see.moment (log_in p.manager)).content) (sym same)
            (over.tied near in_order now)

    -- and a restart may follow
    pub new_may_restart : (a : Inside R L) → IsSound see moment a → a.parts ≡ parts → (moment log).is_in_order
        → (see.moment (log_in a.parts.manager)).is_honest → MayRestart (observes_parts see moment) (system_view_of a)
    new_may_restart a sound same order honest =
        let now = subst (λ (p : Parts R (Slot L)). (see.moment (log_in p.manager)).is_honest) same honest in
        near_restarts (history (start_of see moment a.parts) a.events.items) (see.moment (log_in a.parts.manager)).content
        (subst (λ k. IsTied true k (see.moment (log_in a.parts.manager)).content) sound.stands.book
        (subst (λ (p : Parts R (Slot L)). IsTied true (book_in p.manager) (see.moment (log_in p.manager)).content) (sym same)
        (over.tied true order now)))
