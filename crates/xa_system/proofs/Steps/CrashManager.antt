-- The manager crashes, and with it all its lines.
use Rattle.std.proofs.Common.{◌≡◌, ◌<◌, inl, inr, ℕ, true, false, List, length, refl, sym, ap, ◌∙◌, subst, arith, Vec, Global}
use Rattle.std.specs.Prelude.{Some, None, slice_get}
use Rattle.std.proofs.lemmas.Option.{slice_get_cases, slice_get_within}
use Rattle.xa_tm.specs.declared.manager.Manager.{Manager}
use Rattle.xa_tm.specs.Calls.{book_in}
use Rattle.xa_base.specs.Xid.{Xid}
use Rattle.xa_model.specs.Replies.Allowed.{Allowed.As_value}
use Rattle.xa_model.specs.Replies.History.{reply_of}
use Rattle.xa_model.specs.Facts.{rm_up}
use Rattle.xa_model.specs.Replies.Rules.{must_refuse}
use Rattle.xa_model.specs.Trace.{Happening, Happening.Crashed, Trace, Trace.Then, line}
use Rattle.xa_base.specs.declared.refusal.Refusal.TheVariants as Refusals
use Rattle.xa_base.specs.declared.reply.Reply.{Reply}
use Rattle.xa_base.specs.declared.reply.Reply.TheVariants as Replies
use Rattle.xa_base.specs.declared.step.Part.TheVariants as KnownParts
use Rattle.xa_base.specs.declared.step.Step.TheVariants as Steps
use Rattle.xa_line.specs.Grid.{Grid, line_at, new_grid}
use Rattle.xa_line.proofs.GridLaws.{line_at-new_grid, whole-new_grid}
use Rattle.xa_line.specs.Histories.{LineStands}
use Rattle.xa_system.specs.Parts.{OneMore, Sees, SiteStands, Stands}
use Rattle.xa_system.specs.Steps.{AllCrash}
use Rattle.xa_system.specs.declared.parts.Parts.{Parts}
use Rattle.xa_system.specs.declared.site.Site.{Site}
use Rattle.xa_system.proofs.Rms.BrokenLines.{BreaksAll, crash_stands}
use Rattle.xa_line.proofs.TrafficLaws.{line_renewed}
use Rattle.xa_system.proofs.Steps.OfManager.{book_then}
use Rattle.xa_system.specs.LogInHistory.{LogFollows}
use Rattle.xa_system.proofs.Histories.Standing.{IsEvent, goes_as, up_is}
use Rattle.xa_tm.specs.Book.{after}
use Rattle.xa_system.proofs.Steps.Crash.{line_why}

crashed_manager : (tr : Trace) (r : ℕ) → BreaksAll tr (Crashed KnownParts.Manager) r
crashed_manager tr r = record { standing = λ b at. refl; vote = λ b at. refl; retries = λ b at. refl; closed = refl }

module _ {R L : Type 0} (see : Sees R L) where
  -- the sites after all lines of all of them broke
  pub all_stand : (tr : Trace) (e : Happening) (sites now : Vec (Site R) Global) → ((r : ℕ) → BreaksAll tr e r)
      → ((r : ℕ) → rm_up (Then tr e) r ≡ rm_up tr r) → AllCrash see.look sites.items now.items
      → ((r : ℕ) (site : Site R) → slice_get sites.items r ≡ Some site → SiteStands see tr r site) → (r : ℕ) (site : Site R)
      → slice_get now.items r ≡ Some site → SiteStands see (Then tr e) r site
  all_stand tr e sites now breaks ups did stand r site at =
      let within = slice_get_within now.items r site at in
      let before = was_there sites.items r (subst (λ n. r < n) did.count within) in
      let after_it = did.each r before.0 before.1 in
      let one : Some after_it.0 ≡ Some site = sym after_it.1 ∙ at in
      let same : after_it.0 ≡ site = cc in
      subst (SiteStands see (Then tr e) r) same (record {
        is_up = after_it.2 ∙ (stand r before.0 before.1).is_up ∙ sym (ups r);
        rm = crash_stands see.look tr e r before.0.rm after_it.0.rm (breaks r) after_it.3 (stand r before.0 before.1).rm;
      })
    where
      was_there : (xs : List (Site R)) (k : ℕ) → k < length xs → (x : Site R) × (slice_get xs k ≡ Some x)
      was_there xs k lt = elim ((slice_get_cases xs k).1) [ inl w ↦ (w.0, w.2) | inr w ↦ absurd (omega (arith, w.0, lt)) ]

  pub crash_manager_down : (tr : Trace) (parts : Parts R L) → (book_in parts.manager).up ≡ false → Stands see tr parts
      → must_refuse tr (Steps.Crash KnownParts.Manager) ≡ Some Refusals.ManagerDown
  crash_manager_down tr parts down stands = λ i. line_why true ((sym (up_is see tr parts stands) ∙ down) i) true

  pub crash_manager_leads : (parts : Parts R L) (sites : Vec (Site R) Global) (lines : Grid) (manager : Manager L) (reply : Reply Xid)
      → reply ≡ Replies.Crashed → (book_in parts.manager).up ≡ true → AllCrash see.look parts.sites.items sites.items
      → lines ≡ new_grid parts.lines.threads parts.lines.rms → book_in manager ≡ after (book_in parts.manager) (Crashed KnownParts.Manager)
      → ((tr : Trace) → LogFollows see.moment tr (Crashed KnownParts.Manager) parts.manager manager) → (tr : Trace) → Stands see tr parts
      → OneMore see (Steps.Crash KnownParts.Manager) reply tr parts
      (record { alloc = parts.alloc; start = parts.start; began = parts.began; sites = sites; lines = lines; manager = manager })
  crash_manager_leads parts sites lines manager reply is up did renewed book log tr stands =
      let e = Crashed KnownParts.Manager in
      let why : must_refuse tr (Steps.Crash KnownParts.Manager) ≡ None = λ i. line_why true ((sym (up_is see tr parts stands) ∙ up) i) true in
      goes_as see tr (Steps.Crash KnownParts.Manager) reply Replies.Crashed parts _ stands tt (ap reply_of is) (As_value why refl)
      (record {
        start = refl;
        began = refl;
        threads = ap (λ (g : Grid). g.threads) renewed;
        rms = ap (λ (g : Grid). g.rms) renewed;
        fits = stands.fits;
        whole = rw renewed (whole-new_grid parts.lines.threads parts.lines.rms);
        count = sites.ok.0 ∙ did.count ∙ sym parts.sites.ok.0;
        sites = all_stand tr e parts.sites sites (crashed_manager tr) (λ r. refl) did stands.sites;
        lines =
            λ t r has. subst (LineStands (Then tr e) (line t r))
            (sym (ap (λ g. line_at g t r) renewed ∙ line_at-new_grid parts.lines.threads parts.lines.rms t r)) (line_renewed tr e (line t r) refl);
        book = book_then see tr e parts manager stands tt book;
        log = log tr;
        unchanged = λ q. absurd (subst IsEvent q tt);
      })
