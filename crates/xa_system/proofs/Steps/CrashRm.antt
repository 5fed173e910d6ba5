-- A resource manager crashes, and is restarted.
use Rattle.std.proofs.Common.{◌≡◌, ◌≢◌, ◌<◌, ◌≤◌, ◌⊎◌, inl, inr, ℕ, Bool, true, false, refl, sym, ap, ◌∙◌, subst}
use Rattle.std.specs.Prelude.{not, if◌then◌else◌, Option, Some, None, slice_get, nat_eq}
use Rattle.std.specs.Vec.{with_item}
use Rattle.std.proofs.lemmas.Bool.{eq-eqb, ne_eqb}
use Rattle.std.proofs.lemmas.Bool.Decides.{eqb_tells}
use Rattle.xa_tm.specs.declared.manager.Manager.{Manager}
use Rattle.xa_tm.specs.Calls.{book_in}
use Rattle.xa_system.proofs.Rms.Unaffected.{rm_stays}
use Rattle.xa_base.specs.Xid.{Xid}
use Rattle.xa_model.specs.Replies.Allowed.{Allowed.As_value}
use Rattle.xa_model.specs.Replies.History.{reply_of}
use Rattle.xa_model.specs.Facts.{rm_up}
use Rattle.xa_model.specs.Replies.Rules.{must_refuse}
use Rattle.xa_model.specs.Trace.{Happening, Happening.Crashed, Happening.RmRestarted, Trace, Trace.Then, line}
use Rattle.xa_base.specs.declared.refusal.Refusal.{Refusal}
use Rattle.xa_base.specs.declared.refusal.Refusal.TheVariants as Refusals
use Rattle.xa_base.specs.declared.reply.Reply.{Reply}
use Rattle.xa_base.specs.declared.reply.Reply.TheVariants as Replies
use Rattle.xa_base.specs.declared.step.Part.TheVariants as KnownParts
use Rattle.xa_base.specs.declared.step.Side.TheVariants as Sides
use Rattle.xa_base.specs.declared.step.Step.TheVariants as Steps
use Rattle.xa_line.specs.Grid.{Grid, HasLine, RenewsRm, line_at}
use Rattle.xa_line.specs.Histories.{LineStands}
use Rattle.xa_system.specs.Parts.{OneMore, Sees, Stands}
use Rattle.xa_system.specs.Steps.{Crashes}
use Rattle.xa_system.specs.declared.parts.Parts.{Parts}
use Rattle.xa_system.specs.declared.site.Site.{Site}
use Rattle.xa_system.proofs.Rms.BrokenLines.{BreaksAll, crash_stands}
use Rattle.xa_line.proofs.TrafficLaws.{line_renewed}
use Rattle.xa_line.proofs.ChangedLines.{line_stays}
use Rattle.xa_system.proofs.Steps.OfManager.{book_then}
use Rattle.xa_system.specs.LogInHistory.{LogFollows}
use Rattle.xa_system.proofs.Log.Changes.{log_stays}
use Rattle.xa_system.proofs.Histories.Standing.{IsEvent, IsNothingTo, goes_as, sites_with}
use Rattle.xa_tm.specs.Book.{after}
use Rattle.xa_system.proofs.Steps.PresentRms.{rm_missing, rm_there}

abbrev pub rm_why : (there up : Bool) → Option Refusal
rm_why there up = if there then (if not up then Some Refusals.RmDown else None) else Some Refusals.Limit

abbrev pub restart_why : (there up : Bool) → Option Refusal
restart_why there up = if there then (if up then Some Refusals.Busy else None) else Some Refusals.Limit

crashed_rm : (tr : Trace) (r : ℕ) → BreaksAll tr (Crashed (KnownParts.Rm r)) r
crashed_rm tr r =
    record { standing = λ b at. rw (eq-eqb r b.rm (sym at)) refl; vote = λ b at. refl; retries = λ b at. refl; closed = rw (eq-eqb r r refl) refl }

module _ {R L : Type 0} (see : Sees R L) where
  -- ** a resource manager

  rm_crash_elsewhere : (tr : Trace) (r s : ℕ) → s ≢ r → IsNothingTo see tr (Crashed (KnownParts.Rm r)) s
  rm_crash_elsewhere tr r s apart = record {
    quiet = record {
      branches = record { standing = λ b at. rw (ne_eqb r b.rm (λ e. apart (sym at ∙ sym e))) refl; vote = λ b at. refl; retries = λ b at. refl };
      scan_stays = rw (ne_eqb r s (λ e. apart (sym e))) refl;
    };
    is_up = rw (ne_eqb r s (λ e. apart (sym e))) refl;
  }

  renewed_lines : (tr : Trace) (parts : Parts R L) (r : ℕ) (lines : Grid) → Stands see tr parts → RenewsRm parts.lines lines r
      → (t s : ℕ) → HasLine lines t s → LineStands (Then tr (Crashed (KnownParts.Rm r))) (line t s) (line_at lines t s)
  renewed_lines tr parts r lines stands renews t s has = by_rm (eqb_tells s r)
    where
      e : Happening
      e = Crashed (KnownParts.Rm r)

      has_old : HasLine parts.lines t s
      has_old = (subst (λ n. t < n) renews.threads has.0, subst (λ n. s < n) renews.rms has.1)

      by_rm : ((nat_eq s r ≡ true) × (s ≡ r)) ⊎ ((nat_eq s r ≡ false) × (s ≢ r)) → LineStands (Then tr e) (line t s) (line_at lines t s)
      by_rm (inl w) =
          let has_r : HasLine parts.lines t r = (has_old.0, subst (λ n. n < parts.lines.rms) w.1 has_old.1) in
          subst (LineStands (Then tr e) (line t s)) (sym (ap (line_at lines t) w.1 ∙ renews.renewed t has_r))
          (line_renewed tr e (line t s) (eq-eqb r s (sym w.1)))
      by_rm (inr w) =
          subst (LineStands (Then tr e) (line t s)) (sym (renews.others t s has_old w.1))
          (line_stays tr e (line t s) (line_at parts.lines t s) (ne_eqb r s (λ q. w.1 (sym q))) refl refl refl (stands.lines t s has_old))

  pub crash_rm_leads : (parts : Parts R L) (r : ℕ) (site : Site R) (rm : R) (lines : Grid) (manager : Manager L) (reply : Reply Xid)
      → reply ≡ Replies.Crashed → r < parts.lines.rms → site.is_up ≡ true → Crashes see.look site.rm rm → RenewsRm parts.lines lines r
      → book_in manager ≡ after (book_in parts.manager) (Crashed (KnownParts.Rm r))
      → ((tr : Trace) → LogFollows see.moment tr (Crashed (KnownParts.Rm r)) parts.manager manager) → (tr : Trace)
      → Stands see tr parts → slice_get parts.sites.items r ≡ Some site
      → OneMore see (Steps.Crash (KnownParts.Rm r)) reply tr parts
      (record {
        alloc = parts.alloc;
        start = parts.start;
        began = parts.began;
        sites = with_item parts.sites r (record { rm = rm; is_up = false });
        lines = lines;
        manager = manager;
      })
  crash_rm_leads parts r site rm lines manager reply is within site_up did renews book log tr stands at =
      let e = Crashed (KnownParts.Rm r) in
      let here = stands.sites r site at in
      let why : must_refuse tr (Steps.Crash (KnownParts.Rm r)) ≡ None = λ i. rm_why (rm_there see tr parts r stands within i) ((sym here.is_up ∙ site_up) i) in
      goes_as see tr (Steps.Crash (KnownParts.Rm r)) reply Replies.Crashed parts _ stands tt (ap reply_of is) (As_value why refl)
      (record {
        start = refl;
        began = refl;
        threads = renews.threads;
        rms = renews.rms;
        fits = stands.fits;
        whole = renews.whole;
        count = refl;
        sites =
            sites_with see tr e parts.sites r site (record { rm = rm; is_up = false }) at
            (record { is_up = rw (eq-eqb r r refl) refl; rm = crash_stands see.look tr e r site.rm rm (crashed_rm tr r) did here.rm })
            (rm_crash_elsewhere tr r) stands.sites;
        lines = renewed_lines tr parts r lines stands renews;
        book = book_then see tr e parts manager stands tt book;
        log = log tr;
        unchanged = λ q. absurd (subst IsEvent q tt);
      })

  pub crash_rm_limit : (tr : Trace) (parts : Parts R L) (r : ℕ) → parts.lines.rms ≤ r → Stands see tr parts
      → must_refuse tr (Steps.Crash (KnownParts.Rm r)) ≡ Some Refusals.Limit
  crash_rm_limit tr parts r past stands = λ i. rm_why (rm_missing see tr parts r stands past i) (rm_up tr r)

  pub crash_rm_down : (tr : Trace) (parts : Parts R L) (r : ℕ) (site : Site R) → r < parts.lines.rms
      → slice_get parts.sites.items r ≡ Some site → site.is_up ≡ false → Stands see tr parts
      → must_refuse tr (Steps.Crash (KnownParts.Rm r)) ≡ Some Refusals.RmDown
  crash_rm_down tr parts r site within at down stands = λ i. rm_why (rm_there see tr parts r stands within i) ((sym (stands.sites r site at).is_up ∙ down) i)

  -- ** its restart

  pub restart_limit : (tr : Trace) (parts : Parts R L) (r : ℕ) → parts.lines.rms ≤ r → Stands see tr parts
      → must_refuse tr (Steps.Restart (Sides.Rm r)) ≡ Some Refusals.Limit
  restart_limit tr parts r past stands = λ i. restart_why (rm_missing see tr parts r stands past i) (rm_up tr r)

  pub restart_busy : (tr : Trace) (parts : Parts R L) (r : ℕ) (site : Site R) → r < parts.lines.rms
      → slice_get parts.sites.items r ≡ Some site → site.is_up ≡ true → Stands see tr parts → must_refuse tr (Steps.Restart (Sides.Rm r)) ≡ Some Refusals.Busy
  restart_busy tr parts r site within at up stands = λ i. restart_why (rm_there see tr parts r stands within i) ((sym (stands.sites r site at).is_up ∙ up) i)

  pub restart_leads : (parts : Parts R L) (r : ℕ) (site : Site R) (reply : Reply Xid) → reply ≡ Replies.RmRestarted
      → r < parts.lines.rms → site.is_up ≡ false → (tr : Trace) → Stands see tr parts → slice_get parts.sites.items r ≡ Some site
      → OneMore see (Steps.Restart (Sides.Rm r)) reply tr parts
      (record {
        alloc = parts.alloc;
        start = parts.start;
        began = parts.began;
        sites = with_item parts.sites r (record { rm = site.rm; is_up = true });
        lines = parts.lines;
        manager = parts.manager;
      })
  restart_leads parts r site reply is within down tr stands at =
      let e = RmRestarted r in
      let here = stands.sites r site at in
      let why : must_refuse tr (Steps.Restart (Sides.Rm r)) ≡ None = λ i. restart_why (rm_there see tr parts r stands within i) ((sym here.is_up ∙ down) i) in
      goes_as see tr (Steps.Restart (Sides.Rm r)) reply Replies.RmRestarted parts _ stands tt (ap reply_of is) (As_value why refl)
      (record {
        start = refl;
        began = refl;
        threads = refl;
        rms = refl;
        fits = stands.fits;
        whole = stands.whole;
        count = refl;
        sites = sites_with see tr e parts.sites r site (record { rm = site.rm; is_up = true }) at
            (record {
              is_up = rw (eq-eqb r r refl) refl;
              rm = rm_stays see.look tr e r site.rm (record {
                branches = record {
                  standing = λ b at. refl;
                  vote = λ b at. refl;
                  retries = λ b at. refl;
                };
                scan_stays = refl;
              }) here.rm;
            })
            (λ s apart. record {
              quiet = record {
                branches = record { standing = λ b at. refl; vote = λ b at. refl; retries = λ b at. refl };
                scan_stays = refl;
              };
              is_up = rw (ne_eqb r s (λ q. apart (sym q))) refl;
            })
            stands.sites;
        lines = λ t s has. line_stays tr e (line t s) (line_at parts.lines t s) refl refl refl refl (stands.lines t s has);
        book = stands.book;
        log = log_stays see.moment e parts.manager (λ n. refl);
        unchanged = λ q. absurd (subst IsEvent q tt);
      })
