-- A Take leads to where the history with it leaves the parts.
use Rattle.std.proofs.Common.{◌≡◌, ◌≢◌, ◌-◌, ℕ, Bool, true, false, [], ◌∷◌, ◌++◌, map, length, refl, sym, ap, ◌∙◌, subst, arith, append_assoc}
use Rattle.std.specs.Prelude.{◌&&◌, not, if◌then◌else◌, Option, Some, None, slice_get, nat_le, nat_lt}
use Rattle.std.proofs.lemmas.Bool.Decides.{nat_tests}
use Rattle.std.proofs.lemmas.List.{append-nil, map-append}
use Rattle.xa_base.specs.Xid.{Xid}
use Rattle.xa_model.specs.Replies.Allowed.{Allowed.As_value, Allowed.For_memory, Takes.Takes_none, Takes.Takes_one}
use Rattle.xa_base.specs.Call.{map_call}
use Rattle.xa_base.specs.Answer.{map_answer}
use Rattle.xa_model.specs.Replies.History.{name_of}
use Rattle.xa_model.specs.Facts.{rm_up, unheard}
use Rattle.xa_model.specs.Replies.Rules.{has_rm, has_thread, must_refuse}
use Rattle.xa_model.specs.Trace.{Call, Happening.Nothing, Happening.Took, Line, Trace, Trace.Then, line, Name.Ours}
use Rattle.xa_base.specs.declared.answer.Answer as Given
use Rattle.xa_base.specs.declared.call.Call as Asking
use Rattle.xa_base.specs.declared.refusal.Refusal.{Refusal}
use Rattle.xa_base.specs.declared.refusal.Refusal.TheVariants as Refusals
use Rattle.xa_base.specs.declared.reply.Reply.{Reply}
use Rattle.xa_base.specs.declared.reply.Reply.TheVariants as Replies
use Rattle.xa_base.specs.declared.step.Step.TheVariants as Steps
use Rattle.xa_model.proofs.Keys.{line_eq-refl}
use Rattle.xa_line.specs.Grid.{HasLine, line_at}
use Rattle.xa_line.specs.Traffic.{Flow, PassesOn, Traffic, all_of, answered, answers_heard, calls_issued, with_one_more}
use Rattle.xa_line.proofs.FlowLaws.{all_of-PassesOn}
use Rattle.xa_line.proofs.GridLaws.{whole-with_line}
use Rattle.xa_line.specs.Histories.{LineStands, known}
use Rattle.xa_system.specs.Parts.{Leads, OneMore, Sees, Stands}
use Rattle.xa_system.specs.Steps.{IsSame, Takes, TakesOne}
use Rattle.xa_system.specs.declared.parts.Parts.{Parts}
use Rattle.xa_system.specs.declared.site.Site.{Site}
use Rattle.xa_system.proofs.Log.Changes.{log_stays}
use Rattle.xa_line.proofs.TrafficLaws.{as_many_answers, line_goes_on}
use Rattle.xa_line.proofs.ChangedLines.{line_stays, lines_same, lines_with}
use Rattle.xa_system.proofs.LineLaws.{no_waiting_call, waiting_call}
use Rattle.xa_model.proofs.Replies.Replies.{accepted_ours}
use Rattle.xa_model.specs.Replies.Steps.{if_ours}
use Rattle.xa_system.proofs.OnBranch.{ours_back}
use Rattle.xa_system.proofs.Histories.Standing.{Follows, IsEvent, site_same, goes_as, has_line, nothing_to, same_rm, site_stays, sites_with, there_is, with_site_and_line}
use Rattle.xa_system.proofs.Rms.TakeLaws.{took_rightly, waits_home}
use Rattle.xa_system.proofs.Steps.TakeElsewhere.{took_quiet}

-- ** the line

took_line : (tr : Trace) (l : Line) (k : Call) (call : Asking.Call Xid) (a : Given.Answer Xid) (before after : Traffic)
    → LineStands tr l before → known call ≡ Some k
    → PassesOn before.calls call after.calls → after.answers ≡ with_one_more before.answers (call, a)
    → LineStands (Then tr (Took l k (map_answer name_of a))) l after
took_line tr l k call a before after stands is passes put =
    line_goes_on tr (Took l k (map_answer name_of a)) l before after [] ((call, a) ∷ []) [] stands refl
    (all_of-PassesOn before.calls call after.calls passes ∙ sym (append-nil (calls_issued before))) refl
    (ap all_of put ∙ sym (append_assoc (answers_heard before) before.answers.waiting ((call, a) ∷ []))) (rw (is, line_eq-refl l) refl)
    (ap (λ (f : Flow (Asking.Call Xid × Given.Answer Xid)). f.gone) put ∙ sym (append-nil (answers_heard before))) refl
    (passes.through ∙ ap (λ xs. xs ++ call ∷ []) stands.each_answered
    ∙ sym (ap (map (λ p. p.0)) (ap all_of put ∙ sym (append_assoc (answers_heard before) before.answers.waiting ((call, a) ∷ []))) ∙ map-append (λ p. p.0)
    (answered before) ((call, a) ∷ [])))

-- ** the refusals of a Take

pub take_why : (there up full : Bool) → Option Refusal
take_why there up full = if there then (if not up then Some Refusals.RmDown else (if full then Some Refusals.Full else None)) else Some Refusals.Limit

pub take_rule : (tr : Trace) (t r : ℕ)
    → must_refuse tr (Steps.Take t r) ≡ take_why (has_thread tr t && has_rm tr r) (rm_up tr r) (nat_le 64 (unheard tr (line t r)))
unfolding take_why
take_rule tr t r = refl

take_none : (there up full : Bool) → take_why there up full ≡ None → (there ≡ true) × (up ≡ true) × (full ≡ false)
unfolding take_why
take_none true true false e = (refl, refl, refl)
take_none true true true e = absurd (cc)
take_none true false full e = absurd (cc)
take_none false up full e = absurd (cc)

-- ** a Take that isn't refused

module _ {R L : Type 0} (see : Sees R L) where
  -- if nothing happened to the resource manager and the line
  take_nothing : (tr : Trace) (parts : Parts R L) (t r : ℕ) (site : Site R) (after : R) (x : Traffic)
      → slice_get parts.sites.items r ≡ Some site → HasLine parts.lines t r → Stands see tr parts
      → x ≡ line_at parts.lines t r → IsSame see.look site.rm after
      → Follows see tr Nothing parts (with_site_and_line see parts t r (record { rm = after; is_up = site.is_up }) x)
  take_nothing tr parts t r site after x at has stands same_line same = record {
    start = refl;
    began = refl;
    threads = refl;
    rms = refl;
    fits = stands.fits;
    whole = whole-with_line parts.lines t r x stands.whole;
    count = refl;
    sites = sites_with see tr Nothing parts.sites r site (record { rm = after; is_up = site.is_up }) at
        (site_stays see tr Nothing r (record { rm = after; is_up = site.is_up }) (nothing_to see tr r)
        (record { is_up = (stands.sites r site at).is_up; rm = same_rm see tr r site.rm after same (stands.sites r site at).rm }))
        (λ s apart. nothing_to see tr s) stands.sites;
    lines = lines_with (Then tr Nothing) parts.lines t r x stands.whole has
        (subst (LineStands (Then tr Nothing) (line t r)) (sym same_line)
        (line_stays tr Nothing (line t r) (line_at parts.lines t r) refl refl refl refl (stands.lines t r has)))
        (λ u s has_u apart. line_stays tr Nothing (line u s) (line_at parts.lines u s) refl refl refl refl (stands.lines u s has_u));
    book = stands.book;
    log = log_stays see.moment Nothing parts.manager (λ n. refl);
    unchanged = λ q. record {
      sites = site_same see parts.sites r site (record { rm = after; is_up = site.is_up }) at refl same;
      lines = lines_same parts.lines t r x stands.whole has same_line;
      book = refl;
      log = refl;
    };
  }

  took_one : (tr : Trace) (parts : Parts R L) (t r : ℕ) (site : Site R) (after : R) (x : Traffic) (call : Asking.Call Xid) (a : Given.Answer Xid)
      → slice_get parts.sites.items r ≡ Some site → HasLine parts.lines t r → Stands see tr parts
      → must_refuse tr (Steps.Take t r) ≡ None → TakesOne see.look t call a site.rm after (line_at parts.lines t r) x
      → OneMore see (Steps.Take t r) (Replies.Took call a) tr parts (with_site_and_line see parts t r (record { rm = after; is_up = site.is_up }) x)
  took_one tr parts t r site after x call a at has stands none took =
      let l = line t r in
      let here = stands.lines t r has in
      let waits = waiting_call tr l (line_at parts.lines t r) call x.calls.waiting here took.taken.oldest in
      let k = waits.0 in
      let site_here = stands.sites r site at in
      let right = took_rightly see.look tr l site.rm after stands.kept stands.over site_here.rm call k a took.has_xid waits.1 waits.2 took.applied in
      let e = Took l k (map_answer name_of a) in
      goes_as see tr (Steps.Take t r) (Replies.Took call a) (Replies.Took (map_call Ours k) (map_answer name_of a)) parts _ stands tt
      (ap (λ c. Replies.Took c (map_answer name_of a)) (ours_back (map_call name_of call) k waits.1))
      (As_value none (Takes_one k (map_answer name_of a) waits.2 right.right))
      (subst (λ h. Follows see tr h parts (with_site_and_line see parts t r (record { rm = after; is_up = site.is_up }) x))
      (sym (ap (if_ours (λ d. Took l d (map_answer name_of a))) (accepted_ours k))) (record {
        start = refl;
        began = refl;
        threads = refl;
        rms = refl;
        fits = stands.fits;
        whole = whole-with_line parts.lines t r x stands.whole;
        count = refl;
        sites = sites_with see tr e parts.sites r site (record { rm = after; is_up = site.is_up }) at
            (record { is_up = site_here.is_up; rm = right.stands })
            (λ s apart. record { quiet = took_quiet tr l k (map_answer name_of a) s (waits_home tr l k stands.kept waits.2) apart; is_up = refl }) stands.sites;
        lines = lines_with (Then tr e) parts.lines t r x stands.whole has
            (took_line tr l k call a (line_at parts.lines t r) x here waits.1 took.taken took.answered)
            (λ u s has_u apart. line_stays tr e (line u s) (line_at parts.lines u s) refl refl (rw apart refl) refl (stands.lines u s has_u));
        book = stands.book;
        log = log_stays see.moment e parts.manager (λ n. refl);
        unchanged = λ q. absurd (subst IsEvent q tt);
      }))

  pub take_leads : (parts : Parts R L) (t r : ℕ) (site : Site R) (after : R) (x : Traffic) (reply : Reply Xid) → slice_get parts.sites.items r ≡ Some site
      → Takes see.look t site.rm after (line_at parts.lines t r) x reply
      → Leads see (Steps.Take t r) reply parts (with_site_and_line see parts t r (record { rm = after; is_up = site.is_up }) x)
  unfolding take_why
  take_leads parts t r site after x (Replies.Took call a) at did tr stands few none =
      took_one tr parts t r site after x call a at (has_line see tr parts t r stands (take_none _ _ _ none).0) stands none did
  take_leads parts t r site after x Replies.Nothing at did tr stands few none =
      let has = has_line see tr parts t r stands (take_none _ _ _ none).0 in
      goes_as see tr (Steps.Take t r) Replies.Nothing Replies.Nothing parts _ stands tt refl
      (As_value none (Takes_none (no_waiting_call tr (line t r) (line_at parts.lines t r) (stands.lines t r has) did.0)))
      (take_nothing tr parts t r site after x at has stands did.1 did.2)
  take_leads parts t r site after x (Replies.Refused Refusals.Memory) at did tr stands few none =
      let has = has_line see tr parts t r stands (take_none _ _ _ none).0 in
      goes_as see tr (Steps.Take t r) (Replies.Refused Refusals.Memory) (Replies.Refused Refusals.Memory) parts _ stands tt refl
      (For_memory none tt refl)
      (take_nothing tr parts t r site after x at has stands did.1 did.2)
  take_leads parts t r site after x (Replies.Refused n) at did tr stands few none = absurd (cc)
  take_leads parts t r site after x reply at did tr stands few none = absurd did

  -- ** a Take that is refused

  pub take_limit : (tr : Trace) (parts : Parts R L) (t r : ℕ) → (nat_lt t parts.lines.threads && nat_lt r parts.lines.rms) ≡ false
      → Stands see tr parts → must_refuse tr (Steps.Take t r) ≡ Some Refusals.Limit
  unfolding take_why
  take_limit tr parts t r e stands = λ i. take_why ((sym (there_is see tr parts t r stands) ∙ e) i) (rm_up tr r) (nat_le 64 (unheard tr (line t r)))

  take_seen : (tr : Trace) (parts : Parts R L) (t r : ℕ) (site : Site R)
      → (nat_lt t parts.lines.threads && nat_lt r parts.lines.rms) ≡ true → slice_get parts.sites.items r ≡ Some site → Stands see tr parts
      → must_refuse tr (Steps.Take t r) ≡ take_why true site.is_up (nat_le 64 (length (line_at parts.lines t r).answers.waiting))
  unfolding take_why
  take_seen tr parts t r site e at stands =
      let there = sym (there_is see tr parts t r stands) ∙ e in
      let many = as_many_answers tr (line t r) (line_at parts.lines t r) (stands.lines t r (has_line see tr parts t r stands there)) in
      λ i. take_why (there i) (sym (stands.sites r site at).is_up i) (nat_le 64 (sym many i))

  pub take_down : (tr : Trace) (parts : Parts R L) (t r : ℕ) (site : Site R)
      → (nat_lt t parts.lines.threads && nat_lt r parts.lines.rms) ≡ true → slice_get parts.sites.items r ≡ Some site → site.is_up ≡ false → Stands see tr parts
      → must_refuse tr (Steps.Take t r) ≡ Some Refusals.RmDown
  unfolding take_why
  take_down tr parts t r site e at down stands =
      take_seen tr parts t r site e at stands ∙ ap (λ u. take_why true u (nat_le 64 (length (line_at parts.lines t r).answers.waiting))) down

  pub take_full : (tr : Trace) (parts : Parts R L) (t r : ℕ) (site : Site R) (free : ℕ)
      → (nat_lt t parts.lines.threads && nat_lt r parts.lines.rms) ≡ true → slice_get parts.sites.items r ≡ Some site → site.is_up ≡ true
      → free ≡ 64 - length (line_at parts.lines t r).answers.waiting → free ≡ 0 → Stands see tr parts → must_refuse tr (Steps.Take t r) ≡ Some Refusals.Full
  unfolding take_why
  take_full tr parts t r site free e at is_up is zero_free stands =
      let n = length (line_at parts.lines t r).answers.waiting in
      let full : nat_le 64 n ≡ true = grind (arith, nat_tests) in
      take_seen tr parts t r site e at stands ∙ λ i. take_why true (is_up i) (full i)

  pub take_may : (tr : Trace) (parts : Parts R L) (t r : ℕ) (site : Site R) (free : ℕ)
      → (nat_lt t parts.lines.threads && nat_lt r parts.lines.rms) ≡ true → slice_get parts.sites.items r ≡ Some site → site.is_up ≡ true
      → free ≡ 64 - length (line_at parts.lines t r).answers.waiting → free ≢ 0 → Stands see tr parts → must_refuse tr (Steps.Take t r) ≡ None
  unfolding take_why
  take_may tr parts t r site free e at is_up is some_free stands =
      let n = length (line_at parts.lines t r).answers.waiting in
      let full : nat_le 64 n ≡ false = grind (arith, nat_tests) in
      take_seen tr parts t r site e at stands ∙ λ i. take_why true (is_up i) (full i)
