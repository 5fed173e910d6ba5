-- A line breaks.
use Rattle.std.proofs.Common.{◌≡◌, ◌≢◌, ℕ, Bool, true, false, refl, sym, ap, ◌∙◌, subst}
use Rattle.std.specs.Prelude.{◌&&◌, not, if◌then◌else◌, Option, Some, None, slice_get, nat_eq, nat_lt}
use Rattle.std.specs.Vec.{with_item}
use Rattle.std.proofs.lemmas.Bool.{ne_eqb}
use Rattle.xa_tm.specs.declared.manager.Manager.{Manager}
use Rattle.xa_tm.specs.Calls.{book_in}
use Rattle.xa_base.specs.Xid.{Xid}
use Rattle.xa_model.specs.Replies.Allowed.{Allowed.As_value}
use Rattle.xa_model.specs.Facts as facts
use Rattle.xa_model.specs.Replies.History.{reply_of}
use Rattle.xa_model.specs.Facts.{rm_up}
use Rattle.xa_model.specs.Replies.Rules.{must_refuse}
use Rattle.xa_model.specs.Trace.{Happening.Crashed, Trace, Trace.Then, line, line_eq}
use Rattle.xa_base.specs.declared.branch.Branch.{Branch}
use Rattle.xa_base.specs.declared.refusal.Refusal.{Refusal}
use Rattle.xa_base.specs.declared.refusal.Refusal.TheVariants as Refusals
use Rattle.xa_base.specs.declared.reply.Reply.{Reply}
use Rattle.xa_base.specs.declared.reply.Reply.TheVariants as Replies
use Rattle.xa_base.specs.declared.step.Part.TheVariants as KnownParts
use Rattle.xa_base.specs.declared.step.Step.TheVariants as Steps
use Rattle.xa_model.proofs.Keys.{line_eq-refl}
use Rattle.xa_line.specs.Grid.{line_at, with_line}
use Rattle.xa_line.specs.Traffic.{Traffic, no_traffic}
use Rattle.xa_line.proofs.GridLaws.{whole-with_line}
use Rattle.xa_line.specs.Histories.{LineStands}
use Rattle.xa_system.specs.Parts.{OneMore, Sees, Stands}
use Rattle.xa_system.specs.Steps.{Breaks}
use Rattle.xa_system.specs.declared.parts.Parts.{Parts}
use Rattle.xa_system.specs.declared.site.Site.{Site}
use Rattle.xa_system.proofs.Rms.BrokenLines.{break_stands}
use Rattle.xa_line.proofs.TrafficLaws.{line_renewed}
use Rattle.xa_line.proofs.ChangedLines.{line_stays, lines_apart_rm, lines_with}
use Rattle.xa_system.proofs.Steps.OfManager.{book_then}
use Rattle.xa_system.specs.LogInHistory.{LogFollows}
use Rattle.xa_system.proofs.Histories.Standing.{IsEvent, IsNothingTo, goes_as, has_line, sites_with, there_is, up_is}
use Rattle.xa_tm.specs.Book.{after}

abbrev pub line_why : (there up rm_up : Bool) → Option Refusal
line_why there up rm_up =
    if there then (if not up then Some Refusals.ManagerDown else (if not rm_up then Some Refusals.RmDown else None)) else Some Refusals.Limit

line_elsewhere : (t r : ℕ) (b : Branch) (s : ℕ) → s ≢ r → b.rm ≡ s → line_eq (line t r) (line b.thread b.rm) ≡ false
line_elsewhere t r b s apart at = by_thread (nat_eq t b.thread)
  where
    by_thread : (q : Bool) → (q && nat_eq r b.rm) ≡ false
    by_thread true = ne_eqb r b.rm (λ e. apart (sym at ∙ sym e))
    by_thread false = refl

module _ {R L : Type 0} (see : Sees R L) where
  nothing_else : (tr : Trace) (t r s : ℕ) → s ≢ r → IsNothingTo see tr (Crashed (KnownParts.Line t r)) s
  nothing_else tr t r s apart = record {
    quiet = record {
      branches = record { standing = λ b at. rw (line_elsewhere t r b s apart at) refl; vote = λ b at. refl; retries = λ b at. refl };
      scan_stays = rw (lines_apart_rm t r 0 s apart) refl;
    };
    is_up = refl;
  }

  pub crash_line_leads : (parts : Parts R L) (t r : ℕ) (site : Site R) (rm : R) (x : Traffic) (manager : Manager L) (reply : Reply Xid)
      → reply ≡ Replies.Crashed → (nat_lt t parts.lines.threads && nat_lt r parts.lines.rms) ≡ true
      → (book_in parts.manager).up ≡ true → site.is_up ≡ true → x ≡ no_traffic → Breaks see.look t site.rm rm
      → book_in manager ≡ after (book_in parts.manager) (Crashed (KnownParts.Line t r))
      → ((tr : Trace) → LogFollows see.moment tr (Crashed (KnownParts.Line t r)) parts.manager manager)
      → (tr : Trace) → Stands see tr parts → slice_get parts.sites.items r ≡ Some site
      → OneMore see (Steps.Crash (KnownParts.Line t r)) reply tr parts
      (record {
        alloc = parts.alloc;
        start = parts.start;
        began = parts.began;
        sites = with_item parts.sites r (record { rm = rm; is_up = site.is_up });
        lines = with_line parts.lines t r x;
        manager = manager;
      })
  crash_line_leads parts t r site rm x manager reply is there up site_up renewed broke book log tr stands at =
      let has_tr = sym (there_is see tr parts t r stands) ∙ there in
      let has = has_line see tr parts t r stands has_tr in
      let e = Crashed (KnownParts.Line t r) in
      let here = stands.sites r site at in
      let why : must_refuse tr (Steps.Crash (KnownParts.Line t r)) ≡ None =
      λ i. line_why (has_tr i) ((sym (up_is see tr parts stands) ∙ up) i) ((sym here.is_up ∙ site_up) i) in
      goes_as see tr (Steps.Crash (KnownParts.Line t r)) reply Replies.Crashed parts _ stands tt (ap reply_of is) (As_value why refl)
      (record {
        start = refl;
        began = refl;
        threads = refl;
        rms = refl;
        fits = stands.fits;
        whole = whole-with_line parts.lines t r x stands.whole;
        count = refl;
        sites =
            sites_with see tr e parts.sites r site (record { rm = rm; is_up = site.is_up }) at
            (record { is_up = here.is_up; rm = break_stands see.look tr t r site.rm rm broke here.rm }) (nothing_else tr t r) stands.sites;
        lines = lines_with (Then tr e) parts.lines t r x stands.whole has
            (subst (LineStands (Then tr e) (line t r)) (sym renewed) (line_renewed tr e (line t r) (line_eq-refl (line t r))))
            (λ u s has_u apart. line_stays tr e (line u s) (line_at parts.lines u s) apart refl refl refl (stands.lines u s has_u));
        book = book_then see tr e parts manager stands tt book;
        log = log tr;
        unchanged = λ q. absurd (subst IsEvent q tt);
      })

  pub crash_line_limit : (tr : Trace) (parts : Parts R L) (t r : ℕ)
      → (nat_lt t parts.lines.threads && nat_lt r parts.lines.rms) ≡ false → Stands see tr parts
      → must_refuse tr (Steps.Crash (KnownParts.Line t r)) ≡ Some Refusals.Limit
  crash_line_limit tr parts t r e stands = λ i. line_why ((sym (there_is see tr parts t r stands) ∙ e) i) (facts.up tr) (rm_up tr r)

  pub crash_line_down : (tr : Trace) (parts : Parts R L) (t r : ℕ)
      → (nat_lt t parts.lines.threads && nat_lt r parts.lines.rms) ≡ true → (book_in parts.manager).up ≡ false
      → Stands see tr parts → must_refuse tr (Steps.Crash (KnownParts.Line t r)) ≡ Some Refusals.ManagerDown
  crash_line_down tr parts t r e down stands =
      λ i. line_why ((sym (there_is see tr parts t r stands) ∙ e) i) ((sym (up_is see tr parts stands) ∙ down) i) (rm_up tr r)

  pub crash_line_rm_down : (tr : Trace) (parts : Parts R L) (t r : ℕ) (site : Site R)
      → (nat_lt t parts.lines.threads && nat_lt r parts.lines.rms) ≡ true → (book_in parts.manager).up ≡ true
      → slice_get parts.sites.items r ≡ Some site → site.is_up ≡ false → Stands see tr parts
      → must_refuse tr (Steps.Crash (KnownParts.Line t r)) ≡ Some Refusals.RmDown
  crash_line_rm_down tr parts t r site e up at down stands =
      λ i. line_why ((sym (there_is see tr parts t r stands) ∙ e) i) ((sym (up_is see tr parts stands) ∙ up) i) ((sym (stands.sites r site at).is_up ∙ down) i)
