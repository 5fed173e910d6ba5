-- A recovery leads to where the history with it leaves the parts.
use Rattle.std.proofs.Common.{◌≡◌, ◌≤◌, ◌<◌, ℕ, Bool, true, false, List, [], ◌++◌, length, map, refl, sym, ap, ◌∙◌, subst, arith, append_assoc}
use Rattle.std.specs.Prelude.{◌&&◌, ◌+◌, not, Some, None, nat_lt, slice_get}
use Rattle.std.specs.Option.{option_or}
use Rattle.std.proofs.lemmas.Bool.{lt-ltb, not-false, or_from}
use Rattle.std.proofs.lemmas.List.{append-nil}
use Rattle.std.proofs.lemmas.List.Folds.{list_any-append}
use Rattle.xa_base.specs.Xid.{Xid}
use Rattle.xa_model.specs.Replies.Allowed.{Allowed}
use Rattle.xa_model.specs.Facts as facts
use Rattle.xa_model.specs.Replies.History.{reply_of, step_of}
use Rattle.xa_base.specs.Opening.{closes, has_closed, has_opened}
use Rattle.xa_model.specs.Facts.{rm_up, waiting}
use Rattle.xa_model.specs.Replies.ReadBack.{StepHasXids}
use Rattle.xa_model.specs.Replies.Rules.{has_rm}
use Rattle.xa_model.specs.Replies.Steps.{happened}
use Rattle.xa_model.specs.Trace.{Call, Happening, Happening.Resolved, Happening.ResolvedOpen, Line, Trace, Trace.Then, line, line_eq}
use Rattle.xa_base.specs.declared.call.Call as Asking
use Rattle.xa_base.specs.declared.reply.Reply.{Reply}
use Rattle.xa_base.specs.declared.reply.Reply.TheVariants as Replies
use Rattle.xa_base.specs.declared.step.Step.{Step}
use Rattle.xa_model.proofs.Keys.{line_eq-refl}
use Rattle.xa_line.specs.Grid.{HasLine, line_at, with_line}
use Rattle.xa_line.specs.Traffic.{Traffic, answered, answers_heard, calls_issued, calls_taken, opening_refusal, room_refusal, with_more}
use Rattle.xa_line.proofs.GridLaws.{whole-with_line}
use Rattle.xa_log.specs.Content.{last_number}
use Rattle.xa_tm.specs.declared.manager.Manager.{Manager}
use Rattle.xa_system.specs.LogInHistory.{LogFollows}
use Rattle.xa_tm.specs.Calls.{book_in}
use Rattle.xa_line.specs.Histories.{LineStands, known as known_call}
use Rattle.xa_system.specs.Parts.{HindersRecovery, OneMore, Sees, Stands, StandsSomewhere}
use Rattle.xa_system.specs.declared.parts.Parts.{Parts}
use Rattle.xa_system.specs.declared.site.Site.{Site}
use Rattle.xa_system.proofs.Steps.PresentRms.{rm_there}
use Rattle.xa_line.proofs.TrafficLaws.{as_many_calls, line_goes_on, same_length}
use Rattle.xa_line.proofs.HistoryLaws.{closed_known, opened_known}
use Rattle.xa_line.proofs.ChangedLines.{line_stays, lines_with}
use Rattle.xa_system.proofs.Histories.Standing.{Follows, IsEvent, IsNothingTo, goes_as, has_line, site_stays, up_is}
use Rattle.xa_tm.specs.Book.{book_of}
use Rattle.xa_tm.specs.Refusing.{resolved_in, resolved_open_in}
use Rattle.xa_tm.proofs.History.Recovery.{resolved_is, resolved_open_is}
use Rattle.xa_system.proofs.Steps.RecoveryRules.{line_says, recovery_free, recovery_why, room_for}

-- ** what a line takes

-- several calls wait
more_issued : (tr : Trace) (e : Happening) (l : Line) (old new : Traffic) (calls : List (Asking.Call Xid)) → LineStands tr l old
    → facts.breaks tr e l ≡ false → facts.new_taken e l ≡ [] → facts.new_heard e l ≡ []
    → map known_call calls ≡ map Some (facts.new_calls tr e l) → new ≡ record old { calls = with_more old.calls calls } → LineStands (Then tr e) l new
more_issued tr e l old new calls stands unbroken no_taken no_heard are put =
    subst (LineStands (Then tr e) l) (sym put)
    (line_goes_on tr e l old (record old { calls = with_more old.calls calls }) calls [] [] stands unbroken
    (sym (append_assoc (calls_taken old) old.calls.waiting calls)) are
    (sym (append-nil (answered old))) (rw no_taken refl) (sym (append-nil (answers_heard old))) (rw no_heard refl) stands.each_answered)

module _ {R L : Type 0} (see : Sees R L) where
  -- what a recovery is to the parts
  pub record IsRecovery (tr : Trace) (e : Happening) (r : ℕ) (calls : List Call) : Type 0 where
    pub sites : (q : ℕ) → IsNothingTo see tr e q
    pub unbroken : (l : Line) → facts.breaks tr e l ≡ false
    pub here : facts.new_calls tr e (line 0 r) ≡ calls
    pub elsewhere : (l : Line) → line_eq (line 0 r) l ≡ false → facts.new_calls tr e l ≡ []
    pub taken : (l : Line) → facts.new_taken e l ≡ []
    pub heard : (l : Line) → facts.new_heard e l ≡ []
    pub fits : facts.incarnation tr ≤ last_number → facts.incarnation (Then tr e) ≤ last_number
    pub event : IsEvent e

  pub resolved_so : (tr : Trace) (r : ℕ) → IsRecovery tr (Resolved r) r (facts.resolving_calls tr (facts.page tr r))
  resolved_so tr r = record {
    sites =
        λ q. record {
          quiet = record { branches = record { standing = λ b at. refl; vote = λ b at. refl; retries = λ b at. refl }; scan_stays = refl };
          is_up = refl;
        };
    unbroken = λ l. refl;
    here = rw (line_eq-refl (line 0 r)) refl;
    elsewhere = λ l apart. rw apart refl;
    taken = λ l. refl;
    heard = λ l. refl;
    fits = λ h. h;
    event = tt;
  }

  pub open_so : (tr : Trace) (r : ℕ) → IsRecovery tr (ResolvedOpen r) r (facts.resolving_calls (Then tr (ResolvedOpen r)) (facts.page tr r))
  open_so tr r = record {
    sites =
        λ q. record {
          quiet = record { branches = record { standing = λ b at. refl; vote = λ b at. refl; retries = λ b at. refl }; scan_stays = refl };
          is_up = refl;
        };
    unbroken = λ l. refl;
    here = rw (line_eq-refl (line 0 r)) refl;
    elsewhere = λ l apart. rw apart refl;
    taken = λ l. refl;
    heard = λ l. refl;
    fits = λ h. h;
    event = tt;
  }

  has_first : (tr : Trace) (parts : Parts R L) (r : ℕ) → Stands see tr parts → has_rm tr r ≡ true → HasLine parts.lines 0 r
  has_first tr parts r stands there = has_line see tr parts 0 r stands (both (lt-ltb 0 _ stands.some_thread) there)
    where
      both : {a b : Bool} → a ≡ true → b ≡ true → (a && b) ≡ true
      both e d = rw (e, d) refl

  pub recovery_goes : (tr : Trace) (step : Step Xid) (e : Happening) (r n : ℕ) (ks : List Call) (calls : List (Asking.Call Xid))
      (parts : Parts R L) (x : Traffic) (manager : Manager L) (reply : Reply Xid) → Stands see tr parts → StepHasXids step
      → reply ≡ Replies.Resolved n → Allowed tr (step_of step) (Replies.Resolved n)
      → happened (step_of step) (Replies.Resolved n) ≡ e → IsRecovery tr e r ks → has_rm tr r ≡ true
      → map known_call calls ≡ map Some ks
      → x ≡ record (line_at parts.lines 0 r) { calls = with_more (line_at parts.lines 0 r).calls calls } → book_in manager ≡ book_of (Then tr e)
      → LogFollows see.moment tr e parts.manager manager
      → OneMore see step reply tr parts (record {
        alloc = parts.alloc;
        start = parts.start;
        began = parts.began;
        sites = parts.sites;
        lines = with_line parts.lines 0 r x;
        manager = manager;
      })
  recovery_goes tr step e r n ks calls parts x manager reply stands has_xids is allowed happens recovery there are put book log =
      let has = has_first tr parts r stands there in
      goes_as see tr step reply (Replies.Resolved n) parts _ stands has_xids (ap reply_of is) allowed
      (subst (λ h. Follows see tr h parts (record {
        alloc = parts.alloc;
        start = parts.start;
        began = parts.began;
        sites = parts.sites;
        lines = with_line parts.lines 0 r x;
        manager = manager;
      })) (sym happens) (record {
        start = refl;
        began = refl;
        threads = refl;
        rms = refl;
        fits = recovery.fits stands.fits;
        whole = whole-with_line parts.lines 0 r x stands.whole;
        count = refl;
        sites = λ q at_q there_q. site_stays see tr e q at_q (recovery.sites q) (stands.sites q at_q there_q);
        lines = lines_with (Then tr e) parts.lines 0 r x stands.whole has
            (more_issued tr e (line 0 r) (line_at parts.lines 0 r) x calls (stands.lines 0 r has) (recovery.unbroken (line 0 r))
            (recovery.taken (line 0 r)) (recovery.heard (line 0 r)) (are ∙ ap (map Some) (sym recovery.here)) put)
            (λ u q has_u apart. line_stays tr e (line u q) (line_at parts.lines u q) (recovery.unbroken (line u q))
            (recovery.elsewhere (line u q) apart) (recovery.taken (line u q)) (recovery.heard (line u q)) (stands.lines u q has_u));
        book = book;
        log = log;
        unchanged = λ q. absurd (subst IsEvent q recovery.event);
      }))

  -- the calls that the manager finds are those of the history
  pub calls_found : (tr : Trace) (parts : Parts R L) (r : ℕ) → Stands see tr parts
      → resolved_in (book_in parts.manager) r ≡ facts.resolving_calls tr (facts.page tr r)
  calls_found tr parts r stands = ap (λ k. resolved_in k r) stands.book ∙ resolved_is tr r

  -- so are those of a recovery that decides
  pub open_calls_found : (tr : Trace) (parts : Parts R L) (r : ℕ) → Stands see tr parts
      → resolved_open_in (book_in parts.manager) r ≡ facts.resolving_calls (Then tr (ResolvedOpen r)) (facts.page tr r)
  open_calls_found tr parts r stands = ap (λ k. resolved_open_in k r) stands.book ∙ resolved_open_is tr r

  -- ** what hinders a recovery

  same_open : (tr : Trace) (parts : Parts R L) (r : ℕ) → Stands see tr parts → HasLine parts.lines 0 r
      → has_opened (calls_issued (line_at parts.lines 0 r)) ≡ facts.is_open tr (line 0 r)
  same_open tr parts r stands has = opened_known (calls_issued (line_at parts.lines 0 r)) (facts.issued tr (line 0 r)) (stands.lines 0 r has).all_issued

  same_closed : (tr : Trace) (parts : Parts R L) (r : ℕ) → Stands see tr parts → HasLine parts.lines 0 r
      → has_closed (calls_issued (line_at parts.lines 0 r)) ≡ facts.is_closed tr (line 0 r)
  same_closed tr parts r stands has = closed_known (calls_issued (line_at parts.lines 0 r)) (facts.issued tr (line 0 r)) (stands.lines 0 r has).all_issued

  -- as it is found
  pub recovery_found : (tr : Trace) (parts : Parts R L) (r n : ℕ) (site : Site R) → Stands see tr parts → r < parts.lines.rms
      → slice_get parts.sites.items r ≡ Some site
      → recovery_why (has_rm tr r) (facts.up tr) (rm_up tr r) (not (facts.is_open tr (line 0 r))) (facts.is_closed tr (line 0 r))
      (nat_lt 64 (waiting tr (line 0 r) + n))
      ≡ recovery_why true (book_in parts.manager).up site.is_up (not (has_opened (calls_issued (line_at parts.lines 0 r))))
      (has_closed (calls_issued (line_at parts.lines 0 r))) (nat_lt 64 (length (line_at parts.lines 0 r).calls.waiting + n))
  recovery_found tr parts r n site stands within at =
      let there = rm_there see tr parts r stands within in
      let has = has_first tr parts r stands there in
      let many = as_many_calls tr (line 0 r) (line_at parts.lines 0 r) (stands.lines 0 r has) in
      λ i. recovery_why (there i) (sym (up_is see tr parts stands) i) (sym (stands.sites r site at).is_up i)
      (not (sym (same_open tr parts r stands has) i)) (sym (same_closed tr parts r stands has) i) (nat_lt 64 (sym many i + n))

  -- if all are up, the line says what it is refused for
  pub recovery_by_line : (tr : Trace) (parts : Parts R L) (r n : ℕ) (site : Site R) → Stands see tr parts → r < parts.lines.rms
      → slice_get parts.sites.items r ≡ Some site → (book_in parts.manager).up ≡ true → site.is_up ≡ true
      → recovery_why (has_rm tr r) (facts.up tr) (rm_up tr r) (not (facts.is_open tr (line 0 r))) (facts.is_closed tr (line 0 r))
      (nat_lt 64 (waiting tr (line 0 r) + n))
      ≡ option_or (opening_refusal (calls_issued (line_at parts.lines 0 r))) (room_refusal (line_at parts.lines 0 r) n)
  recovery_by_line tr parts r n site stands within at up site_up =
      let here = line_at parts.lines 0 r in
      recovery_found tr parts r n site stands within at
      ∙ (λ i. recovery_why true (up i) (site_up i) (not (has_opened (calls_issued here))) (has_closed (calls_issued here))
      (nat_lt 64 (length here.calls.waiting + n)))
      ∙ line_says (not (has_opened (calls_issued here))) (has_closed (calls_issued here)) (nat_lt 64 (length here.calls.waiting + n))

  -- ** a recovery that nothing hinders

  module _ (parts : Parts R L) (r n : ℕ) (ks : List Call) (calls : List (Asking.Call Xid)) (hinders : HindersRecovery see r n parts None)
      (are : map known_call calls ≡ map Some ks) where
    -- the line has room for all calls
    pub recovery_room : (x : Traffic) (count : ℕ) → count ≡ length calls → n ≡ length ks → x ≡ line_at parts.lines 0 r
        → StandsSomewhere see parts → length x.calls.waiting + count ≤ 64
    recovery_room x count len many is at =
        let tr = at.0 in
        let free = recovery_free _ _ _ _ _ _ (sym (hinders tr at.1)) in
        let has = has_first tr parts r at.1 free.0 in
        let waits = as_many_calls tr (line 0 r) (line_at parts.lines 0 r) (at.1.lines 0 r has) in
        let room = room_for (waiting tr (line 0 r)) n free.4 in
        let same = same_length known_call calls ks are in
        let here : length x.calls.waiting ≡ waiting tr (line 0 r) = ap (λ (t : Traffic). length t.calls.waiting) is ∙ waits in
        omega (arith, room, same, here, len, many)

    pub recovery_open : (x : Traffic) → x ≡ line_at parts.lines 0 r → StandsSomewhere see parts → has_opened (calls_issued x) ≡ true
    recovery_open x is at =
        let tr = at.0 in
        let free = recovery_free _ _ _ _ _ _ (sym (hinders tr at.1)) in
        ap (λ t. has_opened (calls_issued t)) is ∙ same_open tr parts r at.1 (has_first tr parts r at.1 free.0) ∙ not-false _ free.2

    pub recovery_unclosed : (x : Traffic) → x ≡ line_at parts.lines 0 r → has_closed ks ≡ false → StandsSomewhere see parts
        → has_closed (calls_issued x ++ calls) ≡ false
    recovery_unclosed x is plain at =
        let tr = at.0 in
        let free = recovery_free _ _ _ _ _ _ (sym (hinders tr at.1)) in
        list_any-append closes (calls_issued x) calls
        ∙ or_from _ _ (ap (λ t. has_closed (calls_issued t)) is ∙ same_closed tr parts r at.1 (has_first tr parts r at.1 free.0) ∙ free.3)
        (closed_known calls ks are ∙ plain)
