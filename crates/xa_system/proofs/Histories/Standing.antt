-- Where the parts stand after one event more.
use Rattle.std.proofs.Common.{◌≡◌, ◌≢◌, ◌<◌, ◌≤◌, inl, inr, ℕ, zero, suc, true, get_or, List, [], ◌∷◌, set, refl, sym, ap, ◌∙◌, subst, arith, Vec, Global}
use Rattle.std.specs.Prelude.{◌&&◌, Some, slice_get, vec_len, nat_lt}
use Rattle.std.specs.Vec.{with_item}
use Rattle.std.proofs.lemmas.Bool.{and_parts, ltb-true}
use Rattle.std.proofs.lemmas.Bool.Decides.{eqb_tells}
use Rattle.std.proofs.lemmas.Option.{slice_get_read}
use Rattle.xa_log.specs.Content.{last_number}
use Rattle.xa_model.specs.Facts as facts
use Rattle.xa_base.specs.Xid.{Xid}
use Rattle.xa_model.specs.Replies.Allowed.{Allowed}
use Rattle.xa_model.specs.Replies.History.{reply_of, step_of}
use Rattle.xa_model.specs.Facts.{rm_up}
use Rattle.xa_model.specs.Replies.ReadBack.{StepHasXids}
use Rattle.xa_model.specs.Replies.Rules.{has_rm, has_thread}
use Rattle.xa_model.specs.Replies.Steps.{Reply as KnownReply, Step as Known, happened}
use Rattle.xa_model.specs.Trace.{Happening, Happening.Nothing, Trace, Trace.Then, line}
use Rattle.xa_base.specs.declared.refusal.Refusal.{Refusal}
use Rattle.xa_base.specs.declared.refusal.Refusal.TheVariants as Refusals
use Rattle.xa_base.specs.declared.reply.Reply.{Reply}
use Rattle.xa_base.specs.declared.reply.Reply.TheVariants as Replies
use Rattle.xa_base.specs.declared.step.Step.{Step}
use Rattle.xa_line.specs.Grid.{HasLine, IsWhole, line_at, with_line}
use Rattle.xa_line.specs.Traffic.{Traffic}
use Rattle.xa_tm.specs.declared.manager.Manager.{Manager}
use Rattle.xa_tm.specs.Calls.{book_in, log_in}
use Rattle.xa_line.specs.Histories.{LineStands}
use Rattle.xa_line.proofs.ChangedLines.{line_stays}
use Rattle.xa_system.specs.LogInHistory.{LogFollows}
use Rattle.xa_system.specs.Parts.{IsUnchanged, OneMore, Sees, SiteStands, Stands, origin_of}
use Rattle.xa_system.specs.RmInHistory.{RmStands}
use Rattle.xa_system.specs.Steps.{IsSame}
use Rattle.xa_system.proofs.Log.Changes.{log_same_book}
use Rattle.xa_system.specs.declared.parts.Parts.{Parts}
use Rattle.xa_system.specs.declared.site.Site.{Site}
use Rattle.xa_system.proofs.Histories.OneMoreEvent.{kept_then}
use Rattle.xa_system.proofs.Rms.Unaffected.{IsQuiet, rm_stays, same_held}
use Rattle.xa_tm.specs.Book.{Book, book_of}
use Rattle.xa_rm.specs.Look.{Look}

-- ** lists

pub get_set_same : {A : Type 0} (xs : List A) (i : ℕ) (y z : A) → slice_get xs i ≡ Some z → slice_get (set xs i y) i ≡ Some y
get_set_same [] i y z e = absurd cc
get_set_same (x ∷ xs) zero y z e = refl
get_set_same (x ∷ xs) (suc i) y z e = get_set_same xs i y z e

pub get_set_other : {A : Type 0} (xs : List A) (i j : ℕ) (y : A) → j ≢ i → slice_get (set xs i y) j ≡ slice_get xs j
get_set_other [] i j y other = refl
get_set_other (x ∷ xs) zero zero y other = absurd (other refl)
get_set_other (x ∷ xs) zero (suc j) y other = refl
get_set_other (x ∷ xs) (suc i) zero y other = refl
get_set_other (x ∷ xs) (suc i) (suc j) y other = get_set_other xs i j y (λ e. other (ap suc e))

-- nothing happens in a refused step, unless the log failed
pub refused_as_nothing : (n : Refusal) (s : Known) → n ≢ Refusals.LogFault → happened s (Replies.Refused n) ≡ Nothing
refused_as_nothing Refusals.LogFault s other = absurd (other refl)
refused_as_nothing n s other = refl

-- something happened
abbrev pub IsEvent : Happening → Type 0
IsEvent Nothing = ⊥
IsEvent e = Unit {0}

pub stays_same : {R : Type 0} (look : R → Look) (rm : R) → IsSame look rm rm
stays_same look rm = record { held = λ x. refl; scans = λ t. refl }

module _ {R L : Type 0} (see : Sees R L) where
  -- ** sites

  -- a happening that is nothing to a resource manager, nor to whether it is up
  pub record IsNothingTo (tr : Trace) (e : Happening) (r : ℕ) : Type 0 where
    pub quiet : IsQuiet tr e r
    pub is_up : rm_up (Then tr e) r ≡ rm_up tr r

  pub site_stays : (tr : Trace) (e : Happening) (r : ℕ) (site : Site R) → IsNothingTo tr e r → SiteStands see tr r site → SiteStands see (Then tr e) r site
  site_stays tr e r site nothing stand = record {
    is_up = stand.is_up ∙ sym nothing.is_up;
    rm = rm_stays see.look tr e r site.rm nothing.quiet stand.rm;
  }

  -- one site changed, and the others stay
  pub sites_with : (tr : Trace) (e : Happening) (sites : Vec (Site R) Global) (r : ℕ) (before after : Site R)
      → slice_get sites.items r ≡ Some before → SiteStands see (Then tr e) r after
      → ((s : ℕ) → s ≢ r → IsNothingTo tr e s) → ((s : ℕ) (site : Site R) → slice_get sites.items s ≡ Some site → SiteStands see tr s site)
      → (s : ℕ) (site : Site R) → slice_get (with_item sites r after).items s ≡ Some site → SiteStands see (Then tr e) s site
  sites_with tr e sites r before after at here others stand s site there =
      elim (eqb_tells s r) [
        | inl same ↦ (
            let put = get_set_same sites.items r after before at in
            let one : Some after ≡ Some site = sym put ∙ ap (λ n. slice_get (set sites.items r after) n) (sym same.1) ∙ there in
            let is : after ≡ site = cc in
            subst (λ x. SiteStands see (Then tr e) s x) is (subst (λ n. SiteStands see (Then tr e) n after) (sym same.1) here))
        | inr apart ↦ site_stays tr e s site (others s apart.1) (stand s site (sym (get_set_other sites.items r s after apart.1) ∙ there))
      ]

  -- one site changed into one that is the same
  pub site_same : (sites : Vec (Site R) Global) (r : ℕ) (before after : Site R) → slice_get sites.items r ≡ Some before
      → after.is_up ≡ before.is_up → IsSame see.look before.rm after.rm
      → (s : ℕ) (site : Site R) → slice_get sites.items s ≡ Some site
      → (now : Site R) × (slice_get (with_item sites r after).items s ≡ Some now) × (now.is_up ≡ site.is_up) × IsSame see.look site.rm now.rm
  site_same sites r before after at up same s site there =
      elim (eqb_tells s r) [
        | inl w ↦ (
            let one : Some before ≡ Some site = sym at ∙ ap (slice_get sites.items) (sym w.1) ∙ there in
            let is : before ≡ site = cc in (
              after,
              ap (slice_get (set sites.items r after)) w.1 ∙ get_set_same sites.items r after before at,
              up ∙ ap
                  (λ (x : Site R). x.is_up) is,
              subst (λ (x : Site R). IsSame see.look x.rm after.rm) is same,
            ))
        | inr apart ↦ (site, get_set_other sites.items r s after apart.1 ∙ there, refl, stays_same see.look site.rm)
      ]

  -- ** the whole

  -- what one happening more makes of the parts
  pub record Follows (tr : Trace) (e : Happening) (old new : Parts R L) : Type 0 where
    pub start : new.start ≡ old.start
    pub began : new.began ≡ old.began
    pub threads : new.lines.threads ≡ old.lines.threads
    pub rms : new.lines.rms ≡ old.lines.rms
    pub whole : IsWhole new.lines
    pub count : vec_len new.sites ≡ vec_len old.sites
    pub fits : facts.incarnation (Then tr e) ≤ last_number
    pub sites : (r : ℕ) (site : Site R) → slice_get new.sites.items r ≡ Some site → SiteStands see (Then tr e) r site
    pub lines : (t r : ℕ) → HasLine new.lines t r → LineStands (Then tr e) (line t r) (line_at new.lines t r)
    pub book : book_in new.manager ≡ book_of (Then tr e)
    pub log : LogFollows see.moment tr e old.manager new.manager
    pub unchanged : e ≡ Nothing → IsUnchanged see old new

  -- so one event more has happened
  pub goes : (tr : Trace) (step : Step Xid) (reply : Reply Xid) (old new : Parts R L) → Stands see tr old → StepHasXids step
      → Allowed tr (step_of step) (reply_of reply)
      → Follows tr (happened (step_of step) (reply_of reply)) old new → OneMore see step reply tr old new
  goes tr step reply old new stands has allowed follows = record {
    allowed = allowed;
    stands = record {
      origin = stands.origin ∙ sym (λ i. origin_of see (follows.threads i) (follows.start i).value.items (follows.began i).value);
      some_thread = stands.some_thread;
      kept = kept_then tr step (reply_of reply) stands.kept has allowed;
      over = stands.over;
      apart = stands.apart;
      began = stands.began;
      room = stands.room;
      fits = follows.fits;
      count = follows.count ∙ stands.count;
      sites = follows.sites;
      rms = follows.rms ∙ stands.rms;
      whole = follows.whole;
      lines = follows.lines;
      book = follows.book;
    };
    began = follows.began;
    log = follows.log;
    unchanged = λ n is other. follows.unchanged (ap (λ r. happened (step_of step) (reply_of r)) is ∙ refused_as_nothing n (step_of step) other);
  }

  -- the same, if what the history knows of the reply is at hand
  pub goes_as : (tr : Trace) (step : Step Xid) (reply : Reply Xid) (seen : KnownReply) (old new : Parts R L) → Stands see tr old
      → StepHasXids step → reply_of reply ≡ seen → Allowed tr (step_of step) seen
      → Follows tr (happened (step_of step) seen) old new → OneMore see step reply tr old new
  goes_as tr step reply seen old new stands has is allowed follows =
      goes tr step reply old new stands has (subst (Allowed tr (step_of step)) (sym is) allowed)
      (subst (λ r. Follows tr (happened (step_of step) r) old new) (sym is) follows)

  -- ** what is often needed

  -- the parts with this site and this line
  abbrev pub with_site_and_line : Parts R L → (t r : ℕ) → Site R → Traffic → Parts R L
  with_site_and_line parts t r site x = record {
    alloc = parts.alloc;
    start = parts.start;
    began = parts.began;
    sites = with_item parts.sites r site;
    lines = with_line parts.lines t r x;
    manager = parts.manager;
  }

  pub has_line : (tr : Trace) (parts : Parts R L) (t r : ℕ) → Stands see tr parts → (has_thread tr t && has_rm tr r) ≡ true → HasLine parts.lines t r
  has_line tr parts t r stands e =
      let both = and_parts (has_thread tr t) (has_rm tr r) e in
      (subst (λ n. t < n) (ap (λ o. o.threads) stands.origin) (ltb-true t _ both.0), subst (λ n. r < n) (sym stands.rms) (ltb-true r _ both.1))

  pub up_is : (tr : Trace) (parts : Parts R L) → Stands see tr parts → (book_in parts.manager).up ≡ facts.up tr
  up_is tr parts stands = ap (λ (k : Book). k.up) stands.book

  pub nothing_to : (tr : Trace) (r : ℕ) → IsNothingTo tr Nothing r
  nothing_to tr r =
      record { quiet = record { branches = record { standing = λ b at. refl; vote = λ b at. refl; retries = λ b at. refl }; scan_stays = refl }; is_up = refl }

  pub same_rm : (tr : Trace) (r : ℕ) (old new : R) → IsSame see.look old new → RmStands see.look tr r old → RmStands see.look tr r new
  same_rm tr r old new same stand = record {
    branches = same_held tr r (see.look old).held (see.look new).held same.held stand.branches;
    scan = same.scans 0 ∙ stand.scan;
  }

  -- whether the system has a line, as it finds out
  pub there_is : (tr : Trace) (parts : Parts R L) (t r : ℕ) → Stands see tr parts
      → (nat_lt t parts.lines.threads && nat_lt r parts.lines.rms) ≡ (has_thread tr t && has_rm tr r)
  there_is tr parts t r stands = λ i. (nat_lt t (sym (ap (λ o. o.threads) stands.origin) i) && nat_lt r (stands.rms i))

  -- if nothing happens, what the book says stays
  pub nothing_follows : (tr : Trace) (parts : Parts R L) (manager : Manager L) → Stands see tr parts → book_in manager ≡ book_in parts.manager
      → log_in manager ≡ log_in parts.manager
      → Follows tr Nothing parts (record {
        alloc = parts.alloc;
        start = parts.start;
        began = parts.began;
        sites = parts.sites;
        lines = parts.lines;
        manager = manager;
      })
  nothing_follows tr parts manager stands same log = record {
    start = refl;
    began = refl;
    threads = refl;
    rms = refl;
    whole = stands.whole;
    count = refl;
    fits = stands.fits;
    sites = λ r site at. site_stays tr Nothing r site (nothing_to tr r) (stands.sites r site at);
    lines = λ t r has. line_stays tr Nothing (line t r) (line_at parts.lines t r) refl refl refl refl (stands.lines t r has);
    book = same ∙ stands.book;
    log = log_same_book see.moment Nothing parts.manager manager (λ k. refl) log same;
    unchanged = λ q. record { sites = λ r before at. (before, at, refl, stays_same see.look before.rm); lines = λ t r has. refl; book = same; log = log };
  }

  -- the site that was read
  pub site_read : (tr : Trace) (parts : Parts R L) (t r : ℕ) (site : Site R) → Stands see tr parts
      → (nat_lt t parts.lines.threads && nat_lt r parts.lines.rms) ≡ true → site ≡ get_or parts.sites.items r site
      → slice_get parts.sites.items r ≡ Some site
  site_read tr parts t r site stands e is =
      let within : r < parts.lines.rms = ltb-true r parts.lines.rms (and_parts _ _ e).1 in
      let count : vec_len parts.sites ≡ parts.lines.rms = stands.count ∙ sym stands.rms in
      slice_get_read parts.sites.items (vec_len parts.sites) r site parts.sites.ok.0 (omega (arith, within, count)) is
