-- A call that is issued, or refused.
use Rattle.std.proofs.Common.{◌≡◌, ◌≢◌, ◌-◌, ℕ, Bool, true, false, [], ◌∷◌, length, refl, sym, ap, ◌∙◌, subst, arith, append_assoc}
use Rattle.std.specs.Prelude.{◌&&◌, not, Option, Some, None, slice_get, nat_le, nat_lt}
use Rattle.std.proofs.lemmas.Bool.Decides.{nat_tests}
use Rattle.std.proofs.lemmas.List.{append-nil}
use Rattle.xa_model.specs.Replies.Allowed.{Allowed, Allowed.As_value}
use Rattle.xa_model.specs.Facts as facts
use Rattle.xa_base.specs.Call.{map_call}
use Rattle.xa_model.specs.Replies.Steps.{accepted, happened, if_ours}
use Rattle.xa_model.specs.Replies.History.{reply_of, name_of}
use Rattle.xa_model.specs.Facts.{rm_up, waiting}
use Rattle.xa_model.specs.Replies.ReadBack.{CallHasXid}
use Rattle.xa_base.specs.Xid.{Xid}
use Rattle.xa_tm.specs.declared.manager.Manager.{Manager}
use Rattle.xa_tm.specs.Calls.{book_in, log_in}
use Rattle.xa_tm.specs.BookAndLog.{IsTied}
use Rattle.xa_base.specs.Opening.{comes_unopened}
use Rattle.xa_model.specs.Protocol.{IsRun, Right}
use Rattle.xa_model.specs.Replies.Guards.{call_guards, first_guard, refusal_by, refusal_of}
use Rattle.xa_model.specs.Replies.Rules.{has_rm, has_thread, must_refuse}
use Rattle.xa_model.specs.Replies.View.{lines_of, view_of}
use Rattle.xa_model.specs.Trace.{Call, Happening.Issued, Trace, Trace.Then, line, Name}
use Rattle.xa_base.specs.declared.call.Call as Asking
use Rattle.xa_base.specs.declared.refusal.Refusal.{Refusal}
use Rattle.xa_base.specs.declared.refusal.Refusal.TheVariants as Refusals
use Rattle.xa_base.specs.declared.reply.Reply.{Reply}
use Rattle.xa_base.specs.declared.reply.Reply.TheVariants as Replies
use Rattle.xa_base.specs.declared.step.Step.TheVariants as Steps
use Rattle.xa_model.proofs.Keys.{line_eq-refl}
use Rattle.xa_model.proofs.Replies.Guards.{bar_of, issue_rule, issue_why, known_call as known_asked}
use Rattle.xa_model.proofs.Replies.Replies.{allowed_right}
use Rattle.xa_line.specs.Grid.{HasLine, line_at, with_line}
use Rattle.xa_line.specs.Traffic.{Traffic, barred, answers_heard, answered, calls_issued, calls_taken, with_one_more}
use Rattle.xa_line.proofs.GridLaws.{whole-with_line}
use Rattle.xa_line.proofs.HistoryLaws.{closed_known, unopened_known}
use Rattle.xa_line.specs.Histories.{LineStands, known as known_call}
use Rattle.xa_system.specs.Parts.{OneMore, Sees, Stands}
use Rattle.xa_system.specs.declared.parts.Parts.{Parts}
use Rattle.xa_system.specs.declared.site.Site.{Site}
use Rattle.xa_line.proofs.TrafficLaws.{as_many_calls, line_goes_on}
use Rattle.xa_line.proofs.ChangedLines.{line_stays, lines_with}
use Rattle.xa_system.proofs.Log.Changes.{log_kept, tied_issued}
use Rattle.xa_system.proofs.Steps.OfManager.{book_then}
use Rattle.xa_system.proofs.Histories.Standing.{Follows, IsEvent, goes_as, has_line, site_stays, there_is, up_is}
use Rattle.xa_tm.specs.Book.{after, book_of}
use Rattle.xa_tm.specs.Refusing.{at_rest, refusal_in}
use Rattle.xa_tm.proofs.History.Refusals.{view_is}
use Rattle.xa_tm.proofs.Maps.Issue.{issue_refusal}

-- ** the refusals, by who finds them

abbrev Asked : Type 0
Asked = Asking.Call Name

-- what the call itself is refused for
abbrev call_why : Trace → (thread rm : ℕ) → Asked → Option Refusal
call_why tr t r a = first_guard (call_guards (view_of tr) t r a)

-- whether the line isn't open for the call
abbrev is_shut_to : Trace → (thread rm : ℕ) → Asked → Bool
is_shut_to tr t r a = comes_unopened (facts.issued tr (line t r)) a

-- what the manager finds of a call, if it is up
call_rule : (tr : Trace) (t r : ℕ) (a : Asked) → IsRun tr → (has_thread tr t && has_rm tr r) ≡ true → facts.up tr ≡ true
    → refusal_in (book_of tr) (Steps.Issue t r a) ≡ call_why tr t r a
call_rule tr t r a run there up =
    ap (λ v. refusal_of v at_rest (Steps.Issue t r a)) (view_is tr run) ∙ issue_refusal (view_of tr) t r a
    ∙ λ i. refusal_by (there i) ((Refusals.ManagerDown, not (up i)) ∷ call_guards (view_of tr) t r a)

-- ** the call

call_is : (t r : ℕ) (a : Asked) (c : Call) → accepted a ≡ Some c → happened (Steps.Issue t r a) Replies.Issued ≡ Issued (line t r) c
call_is t r a c e = ap (if_ours (λ k. Issued (line t r) k)) e

issued_line : (tr : Trace) (t r : ℕ) (c : Call) (call : Asking.Call Xid) (old new : Traffic) → known_call call ≡ Some c
    → LineStands tr (line t r) old → new ≡ record old { calls = with_one_more old.calls call } → LineStands (Then tr (Issued (line t r) c)) (line t r) new
issued_line tr t r c call old new is stands put =
    subst (LineStands (Then tr (Issued (line t r) c)) (line t r)) (sym put)
    (line_goes_on tr (Issued (line t r) c) (line t r) old (record old { calls = with_one_more old.calls call }) (call ∷ []) [] [] stands refl
    (sym (append_assoc (calls_taken old) old.calls.waiting (call ∷ []))) (rw (is, line_eq-refl (line t r)) refl)
    (sym (append-nil (answered old))) refl (sym (append-nil (answers_heard old))) refl stands.each_answered)

module _ {R L : Type 0} (see : Sees R L) where
  -- what the line says of the call is what the history says
  same_bar : (tr : Trace) (parts : Parts R L) (t r : ℕ) (call : Asking.Call Xid) → Stands see tr parts → HasLine parts.lines t r
      → bar_of (is_shut_to tr t r (map_call name_of call)) (facts.is_closed tr (line t r)) ≡ barred (calls_issued (line_at parts.lines t r)) call
  same_bar tr parts t r call stands has =
      let alike = (stands.lines t r has).all_issued in
      λ i. bar_of (sym (unopened_known (calls_issued (line_at parts.lines t r)) (facts.issued tr (line t r)) call alike) i)
      (sym (closed_known (calls_issued (line_at parts.lines t r)) (facts.issued tr (line t r)) alike) i)

  -- and what the manager says of it
  same_call : (tr : Trace) (parts : Parts R L) (t r : ℕ) (call : Asking.Call Xid) → Stands see tr parts
      → (has_thread tr t && has_rm tr r) ≡ true → facts.up tr ≡ true
      → call_why tr t r (map_call name_of call) ≡ refusal_in (book_in parts.manager) (Steps.Issue t r (map_call name_of call))
  same_call tr parts t r call stands there up =
      sym (ap (λ k. refusal_in k (Steps.Issue t r (map_call name_of call))) stands.book ∙ call_rule tr t r (map_call name_of call) stands.kept.run there up)

  -- the refusal, as it is found
  pub issue_found : (tr : Trace) (parts : Parts R L) (t r : ℕ) (site : Site R) (call : Asking.Call Xid) → Stands see tr parts
      → (nat_lt t parts.lines.threads && nat_lt r parts.lines.rms) ≡ true → (book_in parts.manager).up ≡ true
      → slice_get parts.sites.items r ≡ Some site
      → must_refuse tr (Steps.Issue t r (map_call name_of call))
      ≡ issue_why true true site.is_up (barred (calls_issued (line_at parts.lines t r)) call)
      (refusal_in (book_in parts.manager) (Steps.Issue t r (map_call name_of call))) (nat_le 64 (length (line_at parts.lines t r).calls.waiting))
  issue_found tr parts t r site call stands there up at =
      let has_tr = sym (there_is see tr parts t r stands) ∙ there in
      let has = has_line see tr parts t r stands has_tr in
      let up_tr = sym (up_is see tr parts stands) ∙ up in
      let many = as_many_calls tr (line t r) (line_at parts.lines t r) (stands.lines t r has) in
      issue_rule (view_of tr) (lines_of tr) t r (map_call name_of call)
      ∙ λ i. issue_why (has_tr i) (up_tr i) (sym (stands.sites r site at).is_up i) (same_bar tr parts t r call stands has i)
      (same_call tr parts t r call stands has_tr up_tr i) (nat_le 64 (sym many i))

  pub issue_limit : (tr : Trace) (parts : Parts R L) (t r : ℕ) (call : Asking.Call Xid)
      → (nat_lt t parts.lines.threads && nat_lt r parts.lines.rms) ≡ false → Stands see tr parts
      → must_refuse tr (Steps.Issue t r (map_call name_of call)) ≡ Some Refusals.Limit
  issue_limit tr parts t r call e stands =
      issue_rule (view_of tr) (lines_of tr) t r (map_call name_of call)
      ∙ λ i. issue_why ((sym (there_is see tr parts t r stands) ∙ e) i) (facts.up tr) (rm_up tr r)
      (bar_of (is_shut_to tr t r (map_call name_of call)) (facts.is_closed tr (line t r)))
      (call_why tr t r (map_call name_of call)) (nat_le 64 (waiting tr (line t r)))

  pub issue_manager_down : (tr : Trace) (parts : Parts R L) (t r : ℕ) (call : Asking.Call Xid)
      → (nat_lt t parts.lines.threads && nat_lt r parts.lines.rms) ≡ true → (book_in parts.manager).up ≡ false
      → Stands see tr parts → must_refuse tr (Steps.Issue t r (map_call name_of call)) ≡ Some Refusals.ManagerDown
  issue_manager_down tr parts t r call e down stands =
      issue_rule (view_of tr) (lines_of tr) t r (map_call name_of call)
      ∙ λ i. issue_why ((sym (there_is see tr parts t r stands) ∙ e) i) ((sym (up_is see tr parts stands) ∙ down) i) (rm_up tr r)
      (bar_of (is_shut_to tr t r (map_call name_of call)) (facts.is_closed tr (line t r)))
      (call_why tr t r (map_call name_of call)) (nat_le 64 (waiting tr (line t r)))

  -- the call waits
  pub issue_did : (parts : Parts R L) (t r : ℕ) (call : Asking.Call Xid) (site : Site R) (x : Traffic) (manager : Manager L) (reply : Reply Xid)
      → CallHasXid call → reply ≡ Replies.Issued → (nat_lt t parts.lines.threads && nat_lt r parts.lines.rms) ≡ true
      → (book_in parts.manager).up ≡ true → refusal_in (book_in parts.manager) (Steps.Issue t r (map_call name_of call)) ≡ None
      → ((c : Call) → accepted (map_call name_of call) ≡ Some c → book_in manager ≡ after (book_in parts.manager) (Issued (line t r) c))
      → log_in manager ≡ log_in parts.manager
      → x ≡ record (line_at parts.lines t r) { calls = with_one_more (line_at parts.lines t r).calls call }
      → (tr : Trace) → Stands see tr parts → must_refuse tr (Steps.Issue t r (map_call name_of call)) ≡ None
      → OneMore see (Steps.Issue t r call) reply tr parts
      (record { alloc = parts.alloc; start = parts.start; began = parts.began; sites = parts.sites; lines = with_line parts.lines t r x; manager = manager })
  issue_did parts t r call site x manager reply has_xid is there up free book same put tr stands why =
      let has_tr = sym (there_is see tr parts t r stands) ∙ there in
      let has = has_line see tr parts t r stands has_tr in
      let known_so =
      known_asked (view_of tr) t r (map_call name_of call) (same_call tr parts t r call stands has_tr (sym (up_is see tr parts stands) ∙ up) ∙ free) in
      let c = known_so.0 in
      let e = Issued (line t r) c in
      let allowed : Allowed tr (Steps.Issue t r (map_call name_of call)) Replies.Issued = As_value why refl in
      let happens = call_is t r (map_call name_of call) c known_so.1 in
      goes_as see tr (Steps.Issue t r call) reply Replies.Issued parts _ stands has_xid (ap reply_of is) allowed
      (subst (λ h. Follows see tr h parts (record {
        alloc = parts.alloc;
        start = parts.start;
        began = parts.began;
        sites = parts.sites;
        lines = with_line parts.lines t r x;
        manager = manager;
      })) (sym happens) (record {
        start = refl;
        began = refl;
        threads = refl;
        rms = refl;
        fits = stands.fits;
        whole = whole-with_line parts.lines t r x stands.whole;
        count = refl;
        sites =
            λ q at_q there_q. site_stays see tr e q at_q
            (record {
              quiet = record { branches = record { standing = λ b at. refl; vote = λ b at. refl; retries = λ b at. refl }; scan_stays = refl };
              is_up = refl;
            }) (stands.sites q at_q there_q);
        lines = lines_with (Then tr e) parts.lines t r x stands.whole has
            (issued_line tr t r c call (line_at parts.lines t r) x known_so.1 (stands.lines t r has) put)
            (λ u q has_u apart. line_stays tr e (line u q) (line_at parts.lines u q) refl (rw apart refl) refl refl (stands.lines u q has_u));
        book = book_then see tr e parts manager stands
            (subst (Right tr) happens (allowed_right tr (Steps.Issue t r (map_call name_of call)) Replies.Issued allowed)) (book c known_so.1);
        log = log_kept see.moment e parts.manager manager (λ n. refl) same
            (λ near held h. subst (λ k. IsTied near k held) (sym (book c known_so.1)) (tied_issued near (book_in parts.manager) (line t r) c held h));
        unchanged = λ q. absurd (subst IsEvent q tt);
      }))

-- whether calls fill a line, by its free places
pub is_full_at : (free n : ℕ) → free ≡ 64 - n → free ≡ 0 → nat_le 64 n ≡ true
is_full_at free n is zero_free = grind (arith, nat_tests)

pub has_room_at : (free n : ℕ) → free ≡ 64 - n → free ≢ 0 → nat_le 64 n ≡ false
has_room_at free n is some_free = grind (arith, nat_tests)
