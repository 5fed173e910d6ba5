-- Scripts: votes, retries and heuristic ends.
use Rattle.std.proofs.Common.{◌≡◌, ◌<◌, ◌≤◌, ℕ, Bool, true, false, [], refl, sym, ap, ◌∙◌, subst}
use Rattle.std.specs.Prelude.{Some, None, Result, Ok, Err, OnOk, OnErr, slice_get}
use Rattle.std.specs.Vec.{with_item}
use Rattle.xa_model.specs.Replies.Allowed.{Allowed, Allowed.As_value, Allowed.By_rule, Allowed.For_memory, IsValue, MayLackMemory}
use Rattle.xa_model.specs.Facts as facts
use Rattle.xa_base.specs.HeldBranch.{HeldBranch}
use Rattle.xa_model.specs.Replies.History.{name_of, reply_of, step_of}
use Rattle.xa_model.specs.Facts.{rm_up}
use Rattle.xa_model.specs.Replies.ReadBack.{StepHasXids}
use Rattle.xa_model.specs.Replies.Guards.{is_at}
use Rattle.xa_model.specs.Replies.Rules.{applies, has_rm, must_refuse}
use Rattle.xa_model.specs.Replies.Steps as known
use Rattle.xa_model.specs.Replies.Steps.{happened}
use Rattle.xa_model.specs.Trace.{Happening, Happening.Nothing, Name.Ours, Line, Trace, Trace.Then, line}
use Rattle.xa_base.specs.Xid.{IsXid, Xid}
use Rattle.xa_base.specs.declared.branch.Branch.{Branch}
use Rattle.xa_base.specs.declared.refusal.Refusal.{Refusal}
use Rattle.xa_base.specs.declared.refusal.Refusal.TheVariants as Refusals
use Rattle.xa_base.specs.declared.reply.Reply.{Reply}
use Rattle.xa_base.specs.declared.reply.Reply.TheVariants as Replies
use Rattle.xa_base.specs.declared.step.Step.{Step}
use Rattle.xa_line.specs.Grid.{line_at}
use Rattle.xa_line.proofs.ChangedLines.{line_stays}
use Rattle.xa_rm.specs.ResourceManager.{Sets}
use Rattle.xa_tm.specs.Calls.{book_in}
use Rattle.xa_rm.specs.declared.fault.RmFault.{RmFault}
use Rattle.xa_rm.specs.declared.fault.RmFault.TheVariants as Faults
use Rattle.xa_system.specs.Parts.{GoesOn, HindersScript, OneMore, Sees, Stands, noted_as}
use Rattle.xa_system.specs.RmInHistory.{RmStands}
use Rattle.xa_system.specs.declared.parts.Parts.{Parts}
use Rattle.xa_system.specs.declared.site.Site.{Site}
use Rattle.xa_system.specs.Steps.{IsSame}
use Rattle.xa_system.proofs.Steps.PresentRms.{rm_missing, rm_there}
use Rattle.xa_system.proofs.Log.Changes.{log_stays}
use Rattle.xa_system.proofs.Reading.{named_fits, named_is}
use Rattle.xa_system.proofs.Histories.Standing.{Follows, IsEvent, goes_as, nothing_to, same_rm, site_same, site_stays, sites_with}
use Rattle.xa_system.proofs.Histories.RefusedSteps.{refused_goes}
use Rattle.xa_tm.specs.Book.{book_of}
use Rattle.xa_system.proofs.Steps.ScriptedBranches.{IsScript, Scripts, script_stands}
use Rattle.xa_system.proofs.Steps.ScriptRefusals.{named_there, script_free, script_hindered, script_why}

module _ {R L : Type 0} (see : Sees R L) where
  -- the parts with another resource manager at a site
  abbrev pub with_rm : Parts R L → ℕ → Site R → R → Parts R L
  with_rm parts r site rm =
      record {
        alloc = parts.alloc;
        start = parts.start;
        began = parts.began;
        sites = with_item parts.sites r (record { rm = rm; is_up = site.is_up });
        lines = parts.lines;
        manager = parts.manager;
      }

  pub script_limit : (tr : Trace) (parts : Parts R L) (r : ℕ) (bad : Bool) → parts.lines.rms ≤ r → Stands see tr parts
      → script_why (has_rm tr r) (rm_up tr r) bad ≡ Some Refusals.Limit
  script_limit tr parts r bad past stands = λ i. script_why (rm_missing see tr parts r stands past i) (rm_up tr r) bad

  pub script_found : (tr : Trace) (parts : Parts R L) (r : ℕ) (site : Site R) (up bad : Bool) → r < parts.lines.rms
      → slice_get parts.sites.items r ≡ Some site → site.is_up ≡ up → Stands see tr parts → script_why (has_rm tr r) (rm_up tr r) bad ≡ script_why true up bad
  script_found tr parts r site up bad within at is stands =
      λ i. script_why (rm_there see tr parts r stands within i) ((sym (stands.sites r site at).is_up ∙ is) i) bad

  -- what is held of the branch that an identifier names
  pub held_here : (tr : Trace) (parts : Parts R L) (r : ℕ) (site : Site R) (x : Xid) (b : Branch)
      → slice_get parts.sites.items r ≡ Some site → IsXid x → name_of x ≡ Ours b → b.rm ≡ r → Stands see tr parts
      → ((see.look site.rm).held x).standing ≡ facts.standing tr b
  held_here tr parts r site x b at has is here stands =
      ap (λ y. ((see.look site.rm).held y).standing) (named_is x b has is) ∙ ((stands.sites r site at).rm.branches.own b (named_fits x b has is) here).standing

  -- the script was followed
  pub script_did : (tr : Trace) (step : Step Xid) (e : Happening) (parts : Parts R L) (r : ℕ) (site : Site R) (rm : R) (reply : Reply Xid)
      (x : Xid) (c : Branch) (change : HeldBranch → HeldBranch) → Stands see tr parts → StepHasXids step
      → slice_get parts.sites.items r ≡ Some site → reply ≡ Replies.Noted → must_refuse tr (step_of step) ≡ None
      → IsValue tr (step_of step) Replies.Noted → happened (step_of step) Replies.Noted ≡ e
      → IsXid x → name_of x ≡ Ours c → c.rm ≡ r → Scripts tr e c change → IsScript tr e c
      → ((l : Line) → facts.breaks tr e l ≡ false) → ((l : Line) → facts.new_calls tr e l ≡ [])
      → ((l : Line) → facts.new_taken e l ≡ []) → ((l : Line) → facts.new_heard e l ≡ []) → book_in parts.manager ≡ book_of (Then tr e)
      → Sets x change (see.look site.rm) (see.look rm) → OneMore see step reply tr parts (with_rm parts r site rm)
  script_did tr step e parts r site rm reply x c change stands has at is none value happens xid is_name here scripts quiet unbroken calls taken heard book
      sets =
      goes_as see tr step reply Replies.Noted parts _ stands has (ap reply_of is) (As_value none value)
      (subst (λ h. Follows see tr h parts (with_rm parts r site rm)) (sym happens) (record {
        start = refl;
        began = refl;
        threads = refl;
        rms = refl;
        fits = quiet.fits stands.fits;
        whole = stands.whole;
        count = refl;
        sites = sites_with see tr e parts.sites r site (record { rm = rm; is_up = site.is_up }) at
            (record {
              is_up = (stands.sites r site at).is_up ∙ sym (quiet.ups r);
              rm = subst (λ n. RmStands see.look (Then tr e) n rm) here
                  (script_stands see.look tr e c change site.rm rm (named_fits x c xid is_name) scripts
                  (subst (λ z. Sets z change (see.look site.rm) (see.look rm)) (named_is x c xid is_name) sets)
                  (subst (λ n. RmStands see.look tr n site.rm) (sym here) (stands.sites r site at).rm));
            })
            (λ s apart. record { quiet = quiet.quiet s (λ q. apart (q ∙ here)); is_up = quiet.ups s }) stands.sites;
        lines =
            λ t q has_q. line_stays tr e (line t q) (line_at parts.lines t q) (unbroken (line t q)) (calls (line t q)) (taken (line t q))
            (heard (line t q)) (stands.lines t q has_q);
        book = book;
        log = log_stays see.moment e parts.manager quiet.uncounted;
        unchanged = λ q. absurd (subst IsEvent q quiet.event);
      }))

  -- it was not, and nothing has changed
  pub script_refused : (tr : Trace) (step : Step Xid) (parts : Parts R L) (r : ℕ) (site : Site R) (rm : R) (reply : Reply Xid) (seen : known.Reply)
      → Stands see tr parts → StepHasXids step → slice_get parts.sites.items r ≡ Some site
      → reply_of reply ≡ seen → Allowed tr (step_of step) seen → happened (step_of step) seen ≡ Nothing
      → IsSame see.look site.rm rm → OneMore see step reply tr parts (with_rm parts r site rm)
  script_refused tr step parts r site rm reply seen stands has at is allowed nothing same =
      goes_as see tr step reply seen parts _ stands has is allowed
      (subst (λ h. Follows see tr h parts (with_rm parts r site rm)) (sym nothing) (record {
        start = refl;
        began = refl;
        threads = refl;
        rms = refl;
        fits = stands.fits;
        whole = stands.whole;
        count = refl;
        sites = sites_with see tr Nothing parts.sites r site (record { rm = rm; is_up = site.is_up }) at
            (site_stays see tr Nothing r (record { rm = rm; is_up = site.is_up }) (nothing_to see tr r)
            (record {
              is_up = (stands.sites r site at).is_up;
              rm = same_rm see tr r site.rm rm same (stands.sites r site at).rm;
            }))
            (λ s apart. nothing_to see tr s) stands.sites;
        lines = λ t q has_q. line_stays tr Nothing (line t q) (line_at parts.lines t q) refl refl refl refl (stands.lines t q has_q);
        book = stands.book;
        log = log_stays see.moment Nothing parts.manager (λ n. refl);
        unchanged = λ q. record {
          sites = site_same see parts.sites r site (record { rm = rm; is_up = site.is_up }) at refl same;
          lines = λ t q has_q. refl;
          book = refl;
          log = refl;
        };
      }))

  -- it was refused before it was looked at
  pub script_hinders : (step : Step Xid) (parts : Parts R L) (r : ℕ) (x : Xid) (n : Refusal) (reply : Reply Xid)
      → StepHasXids step → reply ≡ Replies.Refused n → HindersScript see r (name_of x) parts (Some n)
      → ((tr : Trace) → must_refuse tr (step_of step) ≡ script_why (has_rm tr r) (rm_up tr r) (applies tr (step_of step) Refusals.Script))
      → ((tr : Trace) → is_at r (name_of x) ≡ false → applies tr (step_of step) Refusals.Script ≡ true) → GoesOn see step reply parts parts
  script_hinders step parts r x n reply has is hinders rule else_bad =
      refused_goes see step parts reply n has is
      (λ tr stands. rule tr ∙ script_hindered (has_rm tr r) (rm_up tr r) (is_at r (name_of x)) (applies tr (step_of step) Refusals.Script) n
      (hinders tr stands) (else_bad tr))

  -- it was looked at
  pub script_told : (tr : Trace) (step : Step Xid) (e : Branch
      → Happening) (parts : Parts R L) (r : ℕ) (site : Site R) (rm : R) (reply : Reply Xid) (x : Xid) (change : HeldBranch
      → HeldBranch) (told : Result (Unit {0}) RmFault)
      → Stands see tr parts → StepHasXids step → slice_get parts.sites.items r ≡ Some site → reply ≡ noted_as told → HindersScript see r (name_of x) parts None
      → must_refuse tr (step_of step) ≡ script_why (has_rm tr r) (rm_up tr r) (applies tr (step_of step) Refusals.Script)
      → ((c : Branch) → name_of x ≡ Ours c → c.rm ≡ r → told ≡ Err Faults.Script → applies tr (step_of step) Refusals.Script ≡ true)
      → ((c : Branch) → name_of x ≡ Ours c → c.rm ≡ r → (told ≡ Err Faults.Script → ⊥) → applies tr (step_of step) Refusals.Script ≡ false)
      → IsValue tr (step_of step) Replies.Noted → MayLackMemory tr (step_of step)
      → ((c : Branch) → name_of x ≡ Ours c → happened (step_of step) Replies.Noted ≡ e c)
      → IsXid x → ((c : Branch) → Scripts tr (e c) c change) → ((c : Branch) → IsScript tr (e c) c)
      → ((c : Branch) (l : Line) → facts.breaks tr (e c) l ≡ false) → ((c : Branch) (l : Line) → facts.new_calls tr (e c) l ≡ [])
      → ((c : Branch) (l : Line) → facts.new_taken (e c) l ≡ []) → ((c : Branch) (l : Line) → facts.new_heard (e c) l ≡ [])
      → ((c : Branch) → book_in parts.manager ≡ book_of (Then tr (e c)))
      → OnOk told (Sets x change (see.look site.rm) (see.look rm)) → OnErr told (IsSame see.look site.rm rm)
      → OneMore see step reply tr parts (with_rm parts r site rm)
  script_told tr step e parts r site rm reply x change told stands has at is hinders rule bad fine value may happens xid scripts quiet unbroken calls taken
      heard book sets same =
      by told (is) (bad b here.1 here.2) (fine b here.1 here.2) sets same
    where
      free : (has_rm tr r ≡ true) × (rm_up tr r ≡ true) × (is_at r (name_of x) ≡ true)
      free = script_free (has_rm tr r) (rm_up tr r) (is_at r (name_of x)) (hinders tr stands)

      here : (b : Branch) × (name_of x ≡ Ours b) × (b.rm ≡ r)
      here = named_there r (name_of x) free.2

      b : Branch
      b = here.0

      why : (t : Bool) → applies tr (step_of step) Refusals.Script ≡ t → must_refuse tr (step_of step) ≡ script_why true true t
      why t q = rule ∙ (λ i. script_why (free.0 i) (free.1 i) (q i))

      by : (o : Result (Unit {0}) RmFault) → reply ≡ noted_as o → (o ≡ Err Faults.Script → applies tr (step_of step) Refusals.Script ≡ true)
          → ((o ≡ Err Faults.Script → ⊥) → applies tr (step_of step) Refusals.Script ≡ false)
          → OnOk o (Sets x change (see.look site.rm) (see.look rm)) → OnErr o (IsSame see.look site.rm rm)
          → OneMore see step reply tr parts (with_rm parts r site rm)
      by (Ok u) q bad fine sets same =
          script_did tr step (e b) parts r site rm reply x b change stands has at q (why false (fine (λ w. absurd (cc)))) value
          (happens b here.1) xid here.1 here.2 (scripts b) (quiet b) (unbroken b) (calls b) (taken b) (heard b) (book b) sets
      by (Err Faults.Script) q bad fine sets same =
          script_refused tr step parts r site rm reply (Replies.Refused Refusals.Script) stands has at (ap reply_of q)
          (By_rule Refusals.Script (why true (bad refl)) refl) refl same
      by (Err Faults.Memory) q bad fine sets same =
          script_refused tr step parts r site rm reply (Replies.Refused Refusals.Memory) stands has at (ap reply_of q)
          (For_memory (why false (fine (λ w. absurd (cc)))) may refl) refl same
