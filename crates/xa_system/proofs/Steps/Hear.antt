-- A Hear leads to where the history with it leaves the parts.
use Rattle.std.proofs.Common.{◌≡◌, ◌≢◌, ◌<◌, ◌⊎◌, inl, inr, ℕ, Bool, true, false, refl, sym, ap, ◌∙◌, subst, Vec, Global}
use Rattle.std.specs.Prelude.{◌&&◌, Result, Ok, Some, None, slice_get, nat_lt}
use Rattle.std.specs.Option.{option_map}
use Rattle.xa_base.specs.Xid.{Xid}
use Rattle.xa_model.specs.Replies.Allowed.{Allowed, Allowed.As_value, Hears.Hears_none, Hears.Hears_one}
use Rattle.xa_model.specs.Facts as facts
use Rattle.xa_base.specs.Call.{map_call}
use Rattle.xa_base.specs.Answer.{map_answer}
use Rattle.xa_model.specs.Replies.Steps.{accepted, happened, if_ours}
use Rattle.xa_model.specs.Replies.History.{reply_of, name_of}
use Rattle.xa_model.specs.Facts.{rm_up}
use Rattle.xa_model.specs.Protocol.{Right}
use Rattle.xa_model.specs.Replies.Rules.{must_refuse}
use Rattle.xa_model.specs.Trace.{Call, Fault.InHear, Happening.Failed, Happening.Heard, Trace, Trace.Then, line, Name.Ours}
use Rattle.xa_base.specs.declared.code.How.{How}
use Rattle.xa_base.specs.declared.answer.Answer as Given
use Rattle.xa_base.specs.declared.answer.Answer.TheVariants as Answers
use Rattle.xa_base.specs.declared.call.Call as Asking
use Rattle.xa_base.specs.declared.code.Code.TheVariants as Codes
use Rattle.xa_base.specs.declared.refusal.Refusal.{Refusal}
use Rattle.xa_base.specs.declared.refusal.Refusal.TheVariants as Refusals
use Rattle.xa_base.specs.declared.reply.Reply.{Reply}
use Rattle.xa_base.specs.declared.reply.Reply.TheVariants as Replies
use Rattle.xa_base.specs.declared.step.Step.TheVariants as Steps
use Rattle.xa_base.proofs.Options.{some_is}
use Rattle.xa_base.proofs.Lists.{none_first}
use Rattle.xa_model.proofs.Replies.Replies.{allowed_right, accepted_ours}
use Rattle.xa_line.specs.Grid.{Grid, HasLine, line_at, new_grid, with_line}
use Rattle.xa_line.specs.Traffic.{PassesOn, Traffic}
use Rattle.xa_line.proofs.GridLaws.{whole-with_line}
use Rattle.xa_tm.specs.declared.manager.Manager.{Manager}
use Rattle.xa_tm.specs.Answering.{FitsRecord, IsAnswerTo}
use Rattle.xa_tm.specs.Calls.{book_in, log_in, FailsBy}
use Rattle.xa_tm.specs.Limits.{happenings}
use Rattle.xa_tm.proofs.History.NextAnswer.{answer_is_code, record_fits}
use Rattle.xa_line.specs.Histories.{known as known_call}
use Rattle.xa_line.proofs.ChangedLines.{line_stays, lines_with}
use Rattle.xa_system.specs.Parts.{OneMore, Sees, Stands}
use Rattle.xa_system.specs.declared.system.TheConstants.{EVENT_LIMIT}
use Rattle.xa_system.specs.Steps.{AllCrash}
use Rattle.xa_system.specs.declared.parts.Parts.{Parts}
use Rattle.xa_system.specs.declared.site.Site.{Site}
use Rattle.xa_system.proofs.Steps.Crash.{line_why}
use Rattle.xa_system.proofs.LineLaws.{no_waiting_answer, waiting_answer}
use Rattle.xa_system.proofs.OnBranch.{ours_back}
use Rattle.xa_tm.proofs.Log.TellsRows.{made_is}
use Rattle.xa_log.specs.Content.{Content}
use Rattle.xa_tm.specs.BookAndLog.{changed_by}
use Rattle.xa_system.proofs.Log.Changes.{LogCalled, LogUndone, fault_is_change, log_done, log_failing}
use Rattle.xa_system.specs.LogInHistory.{LogFollows, after_change}
use Rattle.xa_system.proofs.Steps.OfManager.{book_then, up_where, within}
use Rattle.xa_system.proofs.Histories.Standing.{Follows, IsEvent, goes_as, has_line, nothing_follows, site_stays, there_is, up_is}
use Rattle.xa_system.proofs.Histories.RefusedSteps.{lacking_goes}
use Rattle.xa_tm.specs.Book.{Book, after, book_after, doubt_of}
use Rattle.xa_system.proofs.Steps.HeardAnswers.{first_is, heard_line, known_pair}
use Rattle.xa_system.proofs.Steps.FailedLog.{fail_goes}

module _ {R L : Type 0} (see : Sees R L) where
  -- ** refusals of a Hear

  pub hear_limit : (tr : Trace) (parts : Parts R L) (t r : ℕ) → (nat_lt t parts.lines.threads && nat_lt r parts.lines.rms) ≡ false
      → Stands see tr parts → must_refuse tr (Steps.Hear t r) ≡ Some Refusals.Limit
  hear_limit tr parts t r e stands = λ i. line_why ((sym (there_is see tr parts t r stands) ∙ e) i) (facts.up tr) (rm_up tr r)

  pub hear_found : (tr : Trace) (parts : Parts R L) (t r : ℕ) (up rm_is_up : Bool)
      → (nat_lt t parts.lines.threads && nat_lt r parts.lines.rms) ≡ true → (book_in parts.manager).up ≡ up → rm_up tr r ≡ rm_is_up → Stands see tr parts
      → must_refuse tr (Steps.Hear t r) ≡ line_why true up rm_is_up
  hear_found tr parts t r up rm_is_up e is_up is_rm stands =
      λ i. line_why ((sym (there_is see tr parts t r stands) ∙ e) i) ((sym (up_is see tr parts stands) ∙ is_up) i) (is_rm i)

  -- ** a Hear that isn't refused

  module _ (tr : Trace) (parts : Parts R L) (t r : ℕ) (stands : Stands see tr parts)
      (there : (nat_lt t parts.lines.threads && nat_lt r parts.lines.rms) ≡ true) (none : must_refuse tr (Steps.Hear t r) ≡ None) where
    has : HasLine parts.lines t r
    has = has_line see tr parts t r stands (sym (there_is see tr parts t r stands) ∙ there)

    -- the answer that waits first is the history's
    pub heard_known : (call : Asking.Call Xid) (a : Given.Answer Xid)
        → Some (call, a) ≡ slice_get (line_at parts.lines t r).answers.waiting 0
        → (c : Call) × (known_call call ≡ Some c) × (facts.next_answer tr (line t r) ≡ Some (c, map_answer name_of a))
    heard_known call a first =
        let list = first_is (line_at parts.lines t r).answers.waiting (call, a) first in
        let waits = waiting_answer tr (line t r) (line_at parts.lines t r) (call, a) list.0 (stands.lines t r has) list.1 in
        let pair = known_pair (known_call call) (map_answer name_of a) waits.0 waits.1 in
        (waits.0.0, pair.0, waits.2 ∙ ap Some pair.1)

    -- and the manager can hear it
    pub hear_answers : (call : Asking.Call Xid) (a : Given.Answer Xid)
        → Some (call, a) ≡ slice_get (line_at parts.lines t r).answers.waiting 0 → IsAnswerTo (map_call name_of call) (map_answer name_of a)
    hear_answers call a first =
        let k = heard_known call a first in
        answer_is_code tr (line t r) k.0 (map_answer name_of a) (map_call name_of call) stands.kept.run k.2 k.1

    pub hear_fits : (call : Asking.Call Xid) (a : Given.Answer Xid)
        → Some (call, a) ≡ slice_get (line_at parts.lines t r).answers.waiting 0 → happenings tr < EVENT_LIMIT
        → FitsRecord (map_call name_of call) (map_answer name_of a)
    hear_fits call a first few =
        let k = heard_known call a first in
        record_fits tr (within see tr parts stands few) (line t r) k.0 (map_answer name_of a) (map_call name_of call) k.2 k.1

    pub hear_nothing : (reply : Reply Xid) → reply ≡ Replies.Nothing
        → None ≡ slice_get (line_at parts.lines t r).answers.waiting 0 → OneMore see (Steps.Hear t r) reply tr parts parts
    hear_nothing reply is first =
        goes_as see tr (Steps.Hear t r) reply Replies.Nothing parts parts stands tt (ap reply_of is)
        (As_value none (Hears_none (no_waiting_answer tr (line t r) (line_at parts.lines t r) (stands.lines t r has)
        (none_first (line_at parts.lines t r).answers.waiting first))))
        (nothing_follows see tr parts parts.manager stands refl refl)

    pub hear_lacks : (call : Asking.Call Xid) (a : Given.Answer Xid) (manager : Manager L) (reply : Reply Xid)
        → Some (call, a) ≡ slice_get (line_at parts.lines t r).answers.waiting 0 → reply ≡ Replies.Refused Refusals.Memory
        → book_in manager ≡ book_in parts.manager → log_in manager ≡ log_in parts.manager
        → OneMore see (Steps.Hear t r) reply tr parts
        (record { alloc = parts.alloc; start = parts.start; began = parts.began; sites = parts.sites; lines = parts.lines; manager = manager })
    hear_lacks call a manager reply first is same log =
        let k = heard_known call a first in
        lacking_goes see tr (Steps.Hear t r) parts manager reply stands tt is none
        (λ e. absurd (let two : Some (k.0, map_answer name_of a) ≡ None = sym k.2 ∙ e in cc)) same log

    pub hear_did : (call : Asking.Call Xid) (a : Given.Answer Xid) (x : Traffic) (manager : Manager L) (reply : Reply Xid)
        → Some (call, a) ≡ slice_get (line_at parts.lines t r).answers.waiting 0 → reply ≡ Replies.Heard call a
        → ((c : Call) → accepted (map_call name_of call) ≡ Some c → book_in manager ≡ after (book_in parts.manager) (Heard (line t r) c (map_answer name_of a)))
        → PassesOn (line_at parts.lines t r).answers (call, a) x.answers → x.calls ≡ (line_at parts.lines t r).calls
        → LogCalled see.moment (let y : Result (Unit {0}) Refusal = Ok tt in y) parts.manager manager
        → OneMore see (Steps.Hear t r) reply tr parts
        (record { alloc = parts.alloc; start = parts.start; began = parts.began; sites = parts.sites; lines = with_line parts.lines t r x; manager = manager })
    hear_did call a x manager reply first is book passes same called =
        let k = heard_known call a first in
        let e = Heard (line t r) k.0 (map_answer name_of a) in
        let happens : happened (Steps.Hear t r) (Replies.Heard (map_call Ours k.0) (map_answer name_of a)) ≡ e =
        ap (if_ours (λ d. Heard (line t r) d (map_answer name_of a))) (accepted_ours k.0) in
        let allowed : Allowed tr (Steps.Hear t r) (Replies.Heard (map_call Ours k.0) (map_answer name_of a)) =
        As_value none (Hears_one k.0 (map_answer name_of a) k.2) in
        goes_as see tr (Steps.Hear t r) reply (Replies.Heard (map_call Ours k.0) (map_answer name_of a)) parts _ stands tt
        (ap reply_of is ∙ ap (λ c. Replies.Heard c (map_answer name_of a)) (ours_back (map_call name_of call) k.0 k.1)) allowed
        (subst (λ h. Follows see tr h parts (record {
          alloc = parts.alloc;
          start = parts.start;
          began = parts.began;
          sites = parts.sites;
          lines = with_line parts.lines t r x;
          manager = manager;
        })) (sym happens) (record {
          start = refl;
          began = refl;
          threads = refl;
          rms = refl;
          fits = stands.fits;
          whole = whole-with_line parts.lines t r x stands.whole;
          count = refl;
          sites =
              λ q at_q there_q. site_stays see tr e q at_q
              (record {
                quiet = record { branches = record { standing = λ b at. refl; vote = λ b at. refl; retries = λ b at. refl }; scan_stays = refl };
                is_up = refl;
              }) (stands.sites q at_q there_q);
          lines = lines_with (Then tr e) parts.lines t r x stands.whole has
              (heard_line tr (line t r) (call, a) k.0 (map_answer name_of a) (line_at parts.lines t r) x (stands.lines t r has)
              (ap (option_map (λ c. (c, map_answer name_of a))) k.1) passes same)
              (λ u q has_u apart. line_stays tr e (line u q) (line_at parts.lines u q) refl refl refl (rw apart refl) (stands.lines u q has_u));
          book = book_then see tr e parts manager stands
              (subst (Right tr) happens (allowed_right tr (Steps.Hear t r) (Replies.Heard (map_call Ours k.0) (map_answer name_of a)) allowed))
              (book k.0 k.1);
          log = log_done see.moment e tt parts.manager manager (λ n. refl)
              (ap (λ (b : Book). b.up) (book k.0 k.1) ∙ ap (λ (b : Book). b.up) stands.book ∙ up_where tr (Steps.Hear t r) refl none) called;
          unchanged = λ q. absurd (subst IsEvent q tt);
        }))

    pub hear_failed : (call : Asking.Call Xid) (a : Given.Answer Xid) (how : How) (sites : Vec (Site R) Global) (lines : Grid)
        (manager : Manager L) (reply : Reply Xid) → Some (call, a) ≡ slice_get (line_at parts.lines t r).answers.waiting 0
        → reply ≡ Replies.Refused Refusals.LogFault
        → a ≡ Answers.Ret (Codes.Heuristic how) → facts.up tr ≡ true → AllCrash see.look parts.sites.items sites.items
        → lines ≡ new_grid parts.lines.threads parts.lines.rms
        → ((c : Call) → accepted (map_call name_of call) ≡ Some c
        → book_in manager ≡ book_after (book_in parts.manager) (doubt_of (facts.record_of c (map_answer name_of a))) (Failed (InHear (line t r))))
        → LogFollows see.moment tr (Failed (InHear (line t r))) parts.manager manager
        → OneMore see (Steps.Hear t r) reply tr parts
        (record { alloc = parts.alloc; start = parts.start; began = parts.began; sites = sites; lines = lines; manager = manager })
    hear_failed call a how sites lines manager reply first is code up did renewed book log =
        let k = heard_known call a first in
        fail_goes see tr (Steps.Hear t r) (InHear (line t r)) reply parts sites lines manager stands tt is none
        (k.0, how, k.2 ∙ ap (λ b. Some (k.0, map_answer name_of b)) code) refl up did renewed
        (book k.0 k.1 ∙ ap (λ d. book_after (book_in parts.manager) (doubt_of d) (Failed (InHear (line t r)))) (sym (ap facts.record_of_next k.2))) log

    -- what waits is lost or stays, as the manager tells
    pub hear_undone : (call : Asking.Call Xid) (a : Given.Answer Xid) (n : Refusal) (sites : Vec (Site R) Global) (lines : Grid)
        (manager : Manager L) (reply : Reply Xid) → Some (call, a) ≡ slice_get (line_at parts.lines t r).answers.waiting 0 → reply ≡ Replies.Refused n
        → facts.up tr ≡ true → ((c : Call) → accepted (map_call name_of call) ≡ Some c
        → FailsBy (doubt_of (facts.record_of c (map_answer name_of a))) (InHear (line t r)) (book_in parts.manager) (book_in manager) n)
        → (n ≡ Refusals.LogFault → (how : How) × (a ≡ Answers.Ret (Codes.Heuristic how)))
        → (n ≡ Refusals.LogFault → AllCrash see.look parts.sites.items sites.items)
        → (n ≡ Refusals.LogFault → lines ≡ new_grid parts.lines.threads parts.lines.rms)
        → (n ≢ Refusals.LogFault → sites ≡ parts.sites) → (n ≢ Refusals.LogFault → lines ≡ parts.lines)
        → ((c : Call) → accepted (map_call name_of call) ≡ Some c
        → LogUndone see.moment (Unit {0}) n (changed_by (doubt_of (facts.record_of c (map_answer name_of a)))) parts.manager manager)
        → OneMore see (Steps.Hear t r) reply tr parts
        (record { alloc = parts.alloc; start = parts.start; began = parts.began; sites = sites; lines = lines; manager = manager })
    hear_undone call a n sites lines manager reply first is up fails uses crash broken sites_stay lines_stay called =
        let k = heard_known call a first in
        by_cause (fails k.0 k.1)
      where
        by_cause : ((n ≡ Refusals.Memory) × (book_in manager ≡ book_in parts.manager))
            ⊎ ((n ≡ Refusals.LogFault)
            × (book_in manager ≡ book_after (book_in parts.manager) (doubt_of (facts.record_of (heard_known call a first).0 (map_answer name_of a)))
            (Failed (InHear (line t r)))))
            → OneMore see (Steps.Hear t r) reply tr parts
            (record { alloc = parts.alloc; start = parts.start; began = parts.began; sites = sites; lines = lines; manager = manager })
        by_cause (inl w) =
            let no_fault : n ≢ Refusals.LogFault = λ e. absurd (let two : Refusals.Memory ≡ Refusals.LogFault = sym w.0 ∙ e in cc) in
            subst (λ q. OneMore see (Steps.Hear t r) reply tr parts (record {
              alloc = parts.alloc;
              start = parts.start;
              began = parts.began;
              sites = q;
              lines = lines;
              manager = manager;
            })) (sym (sites_stay no_fault))
            (subst (λ q. OneMore see (Steps.Hear t r) reply tr parts (record {
              alloc = parts.alloc;
              start = parts.start;
              began = parts.began;
              sites = parts.sites;
              lines = q;
              manager = manager;
            })) (sym (lines_stay no_fault))
            (hear_lacks call a manager reply first (is ∙ ap (λ m. Replies.Refused m) w.0) w.1
            ((called (heard_known call a first).0 (heard_known call a first).1).kept no_fault)))
        by_cause (inr w) =
            hear_failed call a (uses w.0).0 sites lines manager reply first (is ∙ ap (λ m. Replies.Refused m) w.0) (uses w.0).1 up (crash w.0) (broken w.0)
            (λ c e. subst (λ d. book_in manager ≡ book_after (book_in parts.manager) (doubt_of (facts.record_of d (map_answer name_of a)))
            (Failed (InHear (line t r)))) (let two : Some (heard_known call a first).0 ≡ Some c = sym (heard_known call a first).1 ∙ e in some_is _ _ two) w.1)
            (log_failing see.moment (InHear (line t r)) n parts.manager manager w.0 (ap (λ (b : Book). b.up) stands.book ∙ up)
            (fault_is_change tr (InHear (line t r)) (book_in parts.manager) stands.book stands.kept.run up up) (λ m. refl)
            (w.1 ∙ ap (λ d. book_after (book_in parts.manager) (doubt_of d) (Failed (InHear (line t r))))
            (sym (ap facts.record_of_next (heard_known call a first).2)))
            (subst (λ (d : Content → Content). LogUndone see.moment (Unit {0}) n d parts.manager manager)
            (λ i d. (made_is (facts.record_of (heard_known call a first).0 (map_answer name_of a)) d ∙ ap (λ e. after_change e d)
            (sym (ap facts.record_of_next (heard_known call a first).2))) i)
            (called (heard_known call a first).0 (heard_known call a first).1)))
