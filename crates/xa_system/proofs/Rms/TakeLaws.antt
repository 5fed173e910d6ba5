-- A resource manager that takes a call of its line gives the history's answer, and stands where the
-- history then leaves it.
use Rattle.std.proofs.Common.{◌≡◌, ◌⊎◌, inl, inr, ℕ, List, map, Bool, true, false, refl, sym, ap, ◌∙◌, subst, ℤ}
use Rattle.std.specs.Prelude.{if◌then◌else◌, ◌==◌, Option, Some, None}
use Rattle.xa_base.specs.StateTable.{on, Kind, Kind.Start, answer, state_of}
use Rattle.xa_base.specs.declared.answer.Answer.TheVariants.{Ret}
use Rattle.xa_base.specs.Branch.{IsBranch, branch_eq, xid_of_branch}
use Rattle.xa_model.specs.Facts as facts
use Rattle.xa_base.specs.HeldBranch as held
use Rattle.xa_base.specs.HeldBranch.{HeldBranch, called}
use Rattle.xa_base.specs.Answer.{map_answer}
use Rattle.xa_model.specs.Replies.Steps.{accepted}
use Rattle.xa_model.specs.Replies.History.{name_of}
use Rattle.xa_model.specs.Facts.InDoubt.{in_doubt, name_cmp, page_in, scan, scan_answer, xid_of_name}
use Rattle.xa_model.specs.Replies.ReadBack.{CallHasXid}
use Rattle.xa_base.specs.Recover as xids
use Rattle.xa_model.specs.Protocol.{RightAnswer}
use Rattle.xa_base.specs.Scan.{page_of, reads_from, scan_after}
use Rattle.xa_model.specs.Trace.{Call, Happening, Happening.Took, Line, Name, Name.Ours, Trace, Trace.Then, line, line_eq}
use Rattle.xa_base.specs.Xid.{IsXid, Xid, xid_eq}
use Rattle.xa_base.specs.declared.answer.Answer as Given
use Rattle.xa_base.specs.declared.branch.Branch.{Branch}
use Rattle.xa_base.specs.declared.call.Call as Asking
use Rattle.xa_base.specs.declared.code.Code.{Code}
use Rattle.xa_base.specs.declared.code.Code.TheVariants as Codes
use Rattle.xa_base.specs.declared.call.Call.TheVariants as Calls
use Rattle.xa_model.proofs.Invariant.{Waits}
use Rattle.xa_base.specs.Standing.{is_in_doubt}
use Rattle.xa_base.proofs.BranchKeys.{branch_eq-true}
use Rattle.xa_base.proofs.Options.{some_is}
use Rattle.xa_model.proofs.Keys.{line_eq-refl}
use Rattle.xa_model.proofs.Invariant.Now.{front_waits}
use Rattle.xa_model.proofs.Invariant.Preservation.{run_always}
use Rattle.xa_line.specs.Histories.{known}
use Rattle.xa_system.specs.RmInHistory.{BeginsOver, BranchesStand, IsHeldAs, IsOther, RmStands, scan_by}
use Rattle.xa_system.specs.Steps.{Applies}
use Rattle.xa_system.specs.Trace.{IsHome, IsKept}
use Rattle.xa_system.proofs.Rms.InDoubt.{same_in_doubt}
use Rattle.xa_system.proofs.OnBranch.{answers_on, home_on, known_on, scan_on, standing_none}
use Rattle.xa_system.proofs.Rms.Pages.{after_mapped, same_answer, same_page}
use Rattle.xa_system.proofs.Rms.Unaffected.{branches_stay, rm_stays, same_held}
use Rattle.xa_system.proofs.Reading.{named_fits, named_is}
use Rattle.xa_system.proofs.Rms.AfterTake.{other_apart, same_tests, took_other, took_own}
use Rattle.xa_system.proofs.Histories.OneMoreEvent.{each_item}
use Rattle.xa_rm.specs.Look.{Look}

-- ** calls

-- a call that waits is at home
pub waits_home : (tr : Trace) (l : Line) (k : Call) → IsKept tr → facts.next_call tr l ≡ Some k → IsHome l k
waits_home tr l k kept e = each_item (IsHome l) (facts.issued tr l) (kept.calls l) _ k e

no_scan : {X : Type 0} (x : X) (t : Bool) → (if t then x else x) ≡ x
no_scan x true = refl
no_scan x false = refl

page_again : (page : Option (List Name)) → page_in (xids.page_answer page) ≡ page
page_again (Some ns) = refl
page_again None = refl

-- ** what the call comes to

-- the answer is the history's, and the resource manager stands where the history then leaves it
pub record TookRightly {R : Type 0} (look : R → Look) (tr : Trace) (l : Line) (k : Call) (answer : Given.Answer Xid) (new : R) : Type 0 where
  pub right : RightAnswer tr l k (map_answer name_of answer)
  pub stands : RmStands look (Then tr (Took l k (map_answer name_of answer))) l.rm new

module _ {R : Type 0} (look : R → Look) (tr : Trace) (l : Line) (old new : R) (kept : IsKept tr) (stand : RmStands look tr l.rm old) where
  -- a call on a branch
  on_branch : (kind : Kind) (x : Xid) (k : Call) (a : Given.Answer Xid) → IsXid x → accepted (on kind (name_of x)) ≡ Some k → facts.next_call tr l ≡ Some k
      → a ≡ Given.TheVariants.Ret (held.answer_of ((look old).held x) kind)
      → ((y : Xid) → (look new).held y ≡ (if xid_eq x y then called l.thread kind ((look old).held y) else (look old).held y))
      → ((t : ℕ) → (look new).scan t ≡ (look old).scan t)
      → TookRightly look tr l k a new
  on_branch kind x k a has is next answered held_now scans = by_name (known_on kind (name_of x) k is)
    where
      by_name : (b : Branch) × (name_of x ≡ Ours b) × (on kind b ≡ k) → TookRightly look tr l k a new
      by_name w = subst (λ c. TookRightly look tr l c a new) w.2 (record {
        right = answers_on tr l kind b (map_answer name_of a) (ap (map_answer name_of) answered ∙ ap Ret code_is);
        stands = subst (λ g. RmStands look (Then tr (Took l (on kind b) g)) l.rm new) (sym (ap (map_answer name_of) answered ∙ ap Ret held_code)) (record {
          branches = record { own = own; others = others };
          scan = scans 0 ∙ stand.scan ∙ ap (scan_by xid_of_name) (sym (scan_on tr l kind b (Ret code) l.rm));
        });
      })
        where
          b : Branch
          b = w.0

          fits : IsBranch b
          fits = named_fits x b has w.1

          here : x ≡ xid_of_branch b
          here = named_is x b has w.1

          home : b.rm ≡ l.rm
          home = home_on l kind b (waits_home tr l (on kind b) kept (next ∙ ap Some (sym w.2)))

          at : IsHeldAs tr b ((look old).held (xid_of_branch b))
          at = stand.branches.own b fits home

          held_code : held.answer_of ((look old).held x) kind ≡ held.answer_of ((look old).held (xid_of_branch b)) kind
          held_code = ap (λ y. held.answer_of ((look old).held y) kind) here

          code : Code
          code = held.answer_of ((look old).held (xid_of_branch b)) kind

          code_is : held.answer_of ((look old).held x) kind ≡ answer kind (state_of (facts.standing tr b)) (facts.vote tr b) (facts.retries tr b)
          code_is = held_code ∙ (λ i. answer kind (state_of (at.standing i)) (at.vote i) (at.retries i))

          starts : kind ≡ Start → l.thread ≡ b.thread
          starts e =
              let f = (run_always tr kept.run).waiting l Start b (subst (λ j. Waits tr l (on j b)) e (front_waits tr l (on kind b) (next
              ∙ ap Some (sym w.2)))) in
              ap (λ (m : Line). m.thread) f.own_line

          now_at : (y : Xid) → (look new).held y ≡ (if xid_eq (xid_of_branch b) y then called l.thread kind ((look old).held y) else (look old).held y)
          now_at y = held_now y ∙ ap (λ z. if xid_eq z y then called l.thread kind ((look old).held y) else (look old).held y) here

          own : (c : Branch) → IsBranch c → c.rm ≡ l.rm → IsHeldAs (Then tr (Took l (on kind b) (Ret code))) c ((look new).held (xid_of_branch c))
          own c fits_c home_c = by_test (branch_eq b c) refl
            where
              by_test : (t : Bool) → branch_eq b c ≡ t → IsHeldAs (Then tr (Took l (on kind b) (Ret code))) c ((look new).held (xid_of_branch c))
              by_test true e =
                  let same = branch_eq-true b c e in
                  subst (IsHeldAs (Then tr (Took l (on kind b) (Ret code))) c)
                  (sym (now_at (xid_of_branch c) ∙ ap (λ t. if t then called l.thread kind ((look old).held (xid_of_branch c)) else (look old).held
                  (xid_of_branch c)) (same_tests c b fits_c fits ∙ e)))
                  (subst (λ h. IsHeldAs (Then tr (Took l (on kind b) (Ret code))) c (called l.thread kind h))
                  (ap (λ d. (look old).held (xid_of_branch d)) same)
                  (took_own tr l kind b c ((look old).held (xid_of_branch b)) starts
                  (subst (λ d. IsHeldAs tr d ((look old).held (xid_of_branch b))) same at) same))
              by_test false e =
                  let here_c = stand.branches.own c fits_c home_c in
                  subst (IsHeldAs (Then tr (Took l (on kind b) (Ret code))) c)
                  (sym (now_at (xid_of_branch c) ∙ ap (λ t. if t then called l.thread kind ((look old).held (xid_of_branch c)) else (look old).held
                  (xid_of_branch c)) (same_tests c b fits_c fits ∙ e)))
                  (took_other tr l kind b c code ((look old).held (xid_of_branch c)) e here_c)

          others : (y : Xid) → IsOther l.rm y → is_in_doubt ((look new).held y).standing ≡ is_in_doubt ((facts.origin tr).held l.rm y).standing
          others y other =
              ap (λ (h : HeldBranch). is_in_doubt h.standing)
              (now_at y ∙ ap (λ t. if t then called l.thread kind ((look old).held y) else (look old).held y)
              (other_apart l.rm y b fits home other)) ∙ stand.branches.others y other

  -- a call on no branch that leaves all as it is
  on_line : (k : Call) (a : Given.Answer Xid) → (k ≡ Calls.OpenRm) ⊎ (k ≡ Calls.CloseRm) → map_answer name_of a ≡ Ret Codes.Success
      → ((y : Xid) → (look new).held y ≡ (look old).held y) → ((t : ℕ) → (look new).scan t ≡ (look old).scan t)
      → TookRightly look tr l k a new
  on_line k a (inl e) answered held_now scans = subst (λ c. TookRightly look tr l c a new) (sym e) (record {
    right = answered;
    stands =
        record {
          branches = same_held (Then tr (Took l Calls.OpenRm (map_answer name_of a))) l.rm (look old).held (look new).held held_now
              (rm_stays look tr (Took l Calls.OpenRm (map_answer name_of a)) l.rm old
              (record {
                branches = record {
                  standing = λ b at. standing_none tr l Calls.OpenRm (map_answer name_of a) b refl;
                  vote = λ b at. refl;
                  retries = λ b at. refl;
                };
                scan_stays = refl;
              }) stand).branches;
          scan = scans 0 ∙ stand.scan;
        };
  })
  on_line k a (inr e) answered held_now scans = subst (λ c. TookRightly look tr l c a new) (sym e) (record {
    right = answered;
    stands =
        record {
          branches = same_held (Then tr (Took l Calls.CloseRm (map_answer name_of a))) l.rm (look old).held (look new).held held_now
              (rm_stays look tr (Took l Calls.CloseRm (map_answer name_of a)) l.rm old
              (record {
                branches = record {
                  standing = λ b at. standing_none tr l Calls.CloseRm (map_answer name_of a) b refl;
                  vote = λ b at. refl;
                  retries = λ b at. refl;
                };
                scan_stays = refl;
              }) stand).branches;
          scan = scans 0 ∙ stand.scan;
        };
  })

  -- xa_recover
  on_scan : (count : ℤ) (start end : Bool) (listed : List Xid) (a : Given.Answer Xid) → l.thread ≡ 0 → listed ≡ map xid_of_name (in_doubt tr l.rm)
      → a ≡ xids.page_answer (xids.xid_page ((look old).scan l.thread) count start listed)
      → ((y : Xid) → (look new).held y ≡ (look old).held y)
      → (look new).scan 0 ≡ scan_after ((look old).scan 0) start end (xids.xid_page ((look old).scan 0) count start listed)
      → TookRightly look tr l (Calls.Recover count start end) a new
  on_scan count start end listed a first same answered held_now scan_now = record {
    right = read;
    stands = record {
      branches = same_held (Then tr e) l.rm (look old).held (look new).held held_now quiet;
      scan = scan_now ∙ ap (λ s. scan_after s start end (xids.xid_page s count start listed)) stand.scan
          ∙ ap (scan_after (scan_by xid_of_name (scan tr l.rm)) start end) (same_page tr l.rm count start (scan_by xid_of_name (scan tr l.rm)) listed refl same)
          ∙ after_mapped xid_of_name (scan tr l.rm) start end page
          ∙ ap (scan_by xid_of_name) (sym moved);
    };
  }
    where
      page : Option (List Name)
      page = page_of name_cmp count (reads_from (scan tr l.rm) start) (in_doubt tr l.rm)

      read : map_answer name_of a ≡ scan_answer tr l.rm count start
      read = ap (map_answer name_of) (answered ∙ ap (λ t. xids.page_answer (xids.xid_page ((look old).scan t) count start listed)) first)
          ∙ same_answer tr kept l.rm count start ((look old).scan 0) listed stand.scan same

      e : Happening
      e = Took l (Calls.Recover count start end) (map_answer name_of a)

      quiet : BranchesStand (Then tr e) l.rm (look old).held
      quiet =
          branches_stay tr e l.rm (look old).held
          (record {
            standing = λ b at. standing_none tr l (Calls.Recover count start end) (map_answer name_of a) b refl;
            vote = λ b at. refl;
            retries = λ b at. refl;
          }) stand.branches

      own_line : line_eq l (line 0 l.rm) ≡ true
      own_line = ap (λ n. line_eq l (line n l.rm)) (sym first) ∙ line_eq-refl l

      moved : scan (Then tr e) l.rm ≡ scan_after (scan tr l.rm) start end page
      moved = rw own_line (ap (λ g. scan_after (scan tr l.rm) start end (page_in g)) read ∙ ap (scan_after (scan tr l.rm) start end) (page_again page))

-- ** any call

module _ {R : Type 0} (look : R → Look) (tr : Trace) (l : Line) (old new : R) (kept : IsKept tr) (over : BeginsOver (facts.origin tr))
    (stand : RmStands look tr l.rm old) where
  -- a call that waits, known to the history
  pub took_rightly : (call : Asking.Call Xid) (k : Call) (a : Given.Answer Xid) → CallHasXid call → known call ≡ Some k
      → facts.next_call tr l ≡ Some k → Applies look l.thread call a old new → TookRightly look tr l k a new
  took_rightly Calls.OpenRm k a has is next did =
      on_line look tr l old new kept stand k a (inl (sym (some_is _ _ is))) (ap (map_answer name_of) did.answers.answer) did.answers.held
      (λ t. did.answers.scans t ∙ no_scan ((look old).scan t) (t == l.thread))
  took_rightly Calls.CloseRm k a has is next did =
      on_line look tr l old new kept stand k a (inr (sym (some_is _ _ is))) (ap (map_answer name_of) did.answers.answer) did.answers.held
      (λ t. did.answers.scans t ∙ no_scan ((look old).scan t) (t == l.thread))
  took_rightly (Calls.Start x false) k a has is next did =
      on_branch look tr l old new kept stand Start x k a has is next did.answers.answer did.answers.held
      (λ t. did.answers.scans t ∙ no_scan ((look old).scan t) (t == l.thread))
  took_rightly (Calls.Start x true) k a has is next did =
      on_branch look tr l old new kept stand Kind.Join x k a has is next did.answers.answer did.answers.held
      (λ t. did.answers.scans t ∙ no_scan ((look old).scan t) (t == l.thread))
  took_rightly (Calls.End x fail) k a has is next did =
      on_branch look tr l old new kept stand (Kind.End fail) x k a has is next did.answers.answer did.answers.held
      (λ t. did.answers.scans t ∙ no_scan ((look old).scan t) (t == l.thread))
  took_rightly (Calls.Prepare x) k a has is next did =
      on_branch look tr l old new kept stand Kind.Prepare x k a has is next did.answers.answer did.answers.held
      (λ t. did.answers.scans t ∙ no_scan ((look old).scan t) (t == l.thread))
  took_rightly (Calls.Commit x false) k a has is next did =
      on_branch look tr l old new kept stand Kind.Commit x k a has is next did.answers.answer did.answers.held
      (λ t. did.answers.scans t ∙ no_scan ((look old).scan t) (t == l.thread))
  took_rightly (Calls.Commit x true) k a has is next did =
      on_branch look tr l old new kept stand Kind.OnePhase x k a has is next did.answers.answer did.answers.held
      (λ t. did.answers.scans t ∙ no_scan ((look old).scan t) (t == l.thread))
  took_rightly (Calls.Rollback x) k a has is next did =
      on_branch look tr l old new kept stand Kind.Rollback x k a has is next did.answers.answer did.answers.held
      (λ t. did.answers.scans t ∙ no_scan ((look old).scan t) (t == l.thread))
  took_rightly (Calls.Forget x) k a has is next did =
      on_branch look tr l old new kept stand Kind.Forget x k a has is next did.answers.answer did.answers.held
      (λ t. did.answers.scans t ∙ no_scan ((look old).scan t) (t == l.thread))
  took_rightly (Calls.Recover count start end) k a has is next did =
      let known_so : Calls.Recover count start end ≡ k = some_is _ _ is in
      let first : l.thread ≡ 0 = waits_home tr l (Calls.Recover count start end) kept (next ∙ ap Some (sym known_so)) in
      let same = same_in_doubt tr l.rm (look old).held kept over stand.branches (look old).in_doubt did.listed in
      subst (λ c. TookRightly look tr l c a new) known_so
      (on_scan look tr l old new kept stand count start end (look old).in_doubt a first same did.answers.answer did.answers.held
      (did.answers.scans 0 ∙ ap (λ n. if (0 == n) then scan_after ((look old).scan 0) start end
      (xids.xid_page ((look old).scan 0) count start (look old).in_doubt) else (look old).scan 0) first))
