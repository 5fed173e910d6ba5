-- Decisions, xa_commits in one phase, their answers, and lines that were lost, as they are seen of
-- requests that were done.
use Rattle.std.proofs.Common.{◌≡◌, ◌∙◌, ◌⊎◌, inl, inr, ℕ, ◌^◌, Bool, true, false, ◌&&◌, ◌==◌, List, [], ◌∷◌, Option, Some, None, Result, Ok, Err, ap, eqb-true, ltb-true, map, refl, subst, sym}
use Rattle.std.proofs.lemmas.Bool.{and_parts, false≢true, or_cases}
use Rattle.std.specs.List.{list_any}
use Rattle.std.specs.Option.{option_map}
use Rattle.std.specs.Prelude.{MatchBool, nat_lt}
use Rattle.xa_base.proofs.BranchKeys.{gtrid_eq-refl}
use Rattle.xa_base.proofs.BranchLemmas.{u64_pair-bytes}
use Rattle.xa_base.proofs.XidOrder.{xid_eq-same}
use Rattle.xa_base.specs.Answer.{answer_number}
use Rattle.xa_base.specs.Branch.{branch_of_pairs, branch_of_xid, gtrid_bytes, gtrid_eq, xid_of_branch}
use Rattle.xa_base.specs.Bytes.{u32_pair, u64_pair}
use Rattle.xa_base.specs.Call.{are_alike, kind_of, xid_in}
use Rattle.xa_base.specs.Xid.{Xid, xid_eq}
use Rattle.xa_base.specs.declared.answer.Answer as Given
use Rattle.xa_base.specs.declared.answer.Answer.TheVariants.{Ret}
use Rattle.xa_base.specs.declared.branch.Branch.{Branch}
use Rattle.xa_base.specs.declared.branch.Gtrid.{Gtrid}
use Rattle.xa_base.specs.declared.call.Call as Asking
use Rattle.xa_base.specs.declared.call.Call.TheVariants as Calls
use Rattle.xa_base.specs.declared.call.CallKind.{CallKind}
use Rattle.xa_base.specs.declared.call.CallKind.TheVariants as kinds
use Rattle.xa_base.specs.declared.code.Code.{Code}
use Rattle.xa_base.specs.declared.code.Code.TheVariants as codes
use Rattle.xa_base.specs.declared.refusal.Refusal.{Refusal}
use Rattle.xa_base.specs.declared.refusal.Refusal.TheVariants.{Memory}
use Rattle.xa_base.specs.declared.step.Outcome.{Outcome}
use Rattle.xa_base.specs.declared.step.Outcome.TheVariants as outcomes
use Rattle.xa_conduct.specs.Acting.{is_done}
use Rattle.xa_conduct.specs.Backing.{asks_at_once, says_committed, is_named_on, is_on, says_rolled_back, loses, tells_code}
use Rattle.xa_conduct.specs.Decided.{is_commit_of, is_rollback_of, is_same}
use Rattle.xa_conduct.specs.Plain.{is_gtrid}
use Rattle.xa_line.specs.Histories.{known}
use Rattle.xa_log.specs.Contract.{Moment}
use Rattle.xa_model.specs.Facts.InDoubt.{name_by}
use Rattle.xa_model.specs.Replies.Steps.{ours_of}
use Rattle.xa_model.specs.Trace.{Answer, Call, Happening, Happening.Decided, Happening.Issued, Line, line}
use Rattle.xa_monitor.specs.Seen.{Seen, Seen.Answered, Seen.Did, Seen.Lost}
use Rattle.xa_outcomes.specs.Outcomes.{IsSeenDecided}
use Rattle.xa_outcomes.specs.Transactions.{IsCommitHeard, IsCommitRefused, IsRollbackDecided}
use Rattle.xa_requests.specs.declared.request.CallName.{CallName}
use Rattle.xa_requests.specs.declared.request.Request.{Request}
use Rattle.xa_requests.specs.declared.request.Request.TheVariants as requests
use Rattle.xa_requests.specs.declared.response.RequestFault.TheVariants as faults
use Rattle.xa_requests.specs.declared.response.Response.{Response}
use Rattle.xa_requests.specs.declared.response.Response.TheVariants as responses
use Rattle.xa_server.specs.Calls.{PerformsAnswer, answer_reply, are_same, waits_for_other}
use Rattle.xa_server.specs.Performing.{Performs}
use Rattle.xa_server.specs.Replies.{response_of}
use Rattle.xa_server.specs.Standing.{LacksMemory, OnlyTells, StandsFor}
use Rattle.xa_server.specs.Telling.{Tells}
use Rattle.xa_server.specs.declared.server.Server.{Server}
use Rattle.xa_session.specs.Steps.{Hears}
use Rattle.xa_session.specs.Tracking.{did_all}
use Rattle.xa_session.specs.declared.session.answers.Unfit.{Unfit}
use Rattle.xa_session.specs.declared.session.answers.Unfit.TheVariants as Unfits
use Rattle.xa_truth.proofs.SeenRequests.{all_keep}
use Rattle.xa_truth.specs.Unknown.{IsIssuedAtOnce, IsLineLost}

-- ** replies

done_reply : {A : Type 0} (taken : Response) (r : Response) (result : Result A Refusal) → r ≡ response_of (λ _. taken) result → is_done r ≡ true → r ≡ taken
done_reply taken r (Ok x) told done = told
done_reply taken r (Err n) told done = absurd (false≢true (sym (ap is_done told) ∙ done))

heard_by : (taken : Response) (r : Response) (result : Result (Unit {0}) Unfit) → r ≡ answer_reply taken result → is_done r ≡ true → r ≡ taken
heard_by taken r (Ok x) told done = told
heard_by taken r (Err (Unfits.Refused n)) told done = absurd (false≢true (sym (ap is_done told) ∙ done))
heard_by taken r (Err Unfits.NothingWaits) told done = absurd (false≢true (sym (ap is_done told) ∙ done))
heard_by taken r (Err Unfits.NoSuchAnswer) told done = absurd (false≢true (sym (ap is_done told) ∙ done))
heard_by taken r (Err (Unfits.NoSuchState b)) told done = absurd (false≢true (sym (ap is_done told) ∙ done))

answer_told : {L : Type 0} (t r : ℕ) (name : CallName) (answer : Given.Answer Xid) (old new : Server L) (reply : Response)
    → PerformsAnswer t r name answer old reply new → is_done reply ≡ true → reply ≡ responses.Heard name.kind (answer_number answer)
answer_told t r name answer old new reply does done = by (waits_for_other old.session.lines t r name) does
  where
    taken : Response
    taken = responses.Heard name.kind (answer_number answer)

    not_done : (told : Response) → is_done told ≡ false → reply ≡ told → ⊥
    not_done told none e = false≢true (sym none ∙ (ap is_done (sym e) ∙ done))

    by : (other : Bool) → MatchBool other (OnlyTells (responses.Fault faults.OtherCall) old reply new)
        (StandsFor (Hears t r answer) (answer_reply (responses.Heard name.kind (answer_number answer))) old reply new ⊎ LacksMemory old reply new)
        → reply ≡ responses.Heard name.kind (answer_number answer)
    by true only = absurd (not_done (responses.Fault faults.OtherCall) refl only.0)
    by false (inl stands) = heard_by taken reply stands.result stands.told done
    by false (inr lacks) = absurd (not_done (responses.Refused Memory) refl lacks.0)

-- ** decisions

same_gtrid : (g h : Gtrid) → is_same g h ≡ true → g ≡ h
same_gtrid g h is =
    let parts = and_parts (g.incarnation == h.incarnation) (g.sequence == h.sequence) is in
    ap (λ (n : ℕ). let v : Gtrid = record { incarnation = n; sequence = g.sequence } in v) (eqb-true g.incarnation h.incarnation parts.0)
    ∙ ap (λ (n : ℕ). let v : Gtrid = record { incarnation = h.incarnation; sequence = n } in v) (eqb-true g.sequence h.sequence parts.1)

module _ (o : Outcome) (g : Gtrid) (Saw : Seen → Type 0) (did : (seen : Seen) (e : Happening) → Saw seen → Saw (Did seen e))
    (answered : (seen : Seen) (l : Line) (c : Call) (a : Answer) → Saw seen → Saw (Answered seen l c a))
    (lost : (seen : Seen) (l : Line) (c : Option Call) → Saw seen → Saw (Lost seen l c))
    (now : (seen : Seen) (h : Gtrid) → gtrid_eq h g ≡ true → Saw (Did seen (Decided h o))) where
  -- one of these was decided so
  one_decided : (gs : List Gtrid) (seen : Seen) → list_any (is_same g) gs ≡ true → Saw (did_all seen (map (λ h. Decided h o) gs))
  one_decided [] seen is = absurd (false≢true is)
  one_decided (h ∷ hs) seen is =
      elim (or_cases (is_same g h) (list_any (is_same g) hs) is) [
        | inl here ↦
            all_keep Saw did answered lost (map (λ h. Decided h o) hs) (Did seen (Decided h o))
            (now seen h (subst (λ z. gtrid_eq z g ≡ true) (same_gtrid g h here) (gtrid_eq-refl g)))
        | inr later ↦ one_decided hs (Did seen (Decided h o)) later
      ]

pub commit_did : (g : Gtrid) (seen : Seen) (e : Happening) → IsSeenDecided g seen → IsSeenDecided g (Did seen e)
commit_did g seen (Decided h outcomes.Commit) s = inr s
commit_did g seen _ s = s

pub rollback_did : (g : Gtrid) (seen : Seen) (e : Happening) → IsRollbackDecided g seen → IsRollbackDecided g (Did seen e)
rollback_did g seen (Decided h outcomes.Rollback) s = inr s
rollback_did g seen _ s = s

module _ {L : Type 0} (moment : L → Moment) (n : ℕ) where
  pub commit_seen : (g : Gtrid) (request : Request) (reply : Response) (seen next : Seen) (old new : Server L) → Performs moment request old reply new
      → is_done reply ≡ true → is_commit_of g request ≡ true → Tells n request reply seen next → IsSeenDecided g next
  commit_seen g (requests.Decide gs outcomes.Commit) reply seen next old new performs done is told =
      let e = done_reply responses.Decided reply performs.does.result performs.does.told done in
      subst (IsSeenDecided g) (sym (subst (λ (r : Response). Tells n (requests.Decide gs outcomes.Commit) r seen next) e told))
      (one_decided outcomes.Commit g (IsSeenDecided g) (commit_did g) (λ seen l c a s. s) (λ seen l c s. s) (λ seen h same. inl same) gs seen is)
  commit_seen g _ reply seen next old new performs done is told = absurd (false≢true is)

  pub rollback_seen : (g : Gtrid) (request : Request) (reply : Response) (seen next : Seen) (old new : Server L) → Performs moment request old reply new
      → is_done reply ≡ true → is_rollback_of g request ≡ true → Tells n request reply seen next → IsRollbackDecided g next
  rollback_seen g (requests.Decide gs outcomes.Rollback) reply seen next old new performs done is told =
      let e = done_reply responses.Decided reply performs.does.result performs.does.told done in
      subst (IsRollbackDecided g) (sym (subst (λ (r : Response). Tells n (requests.Decide gs outcomes.Rollback) r seen next) e told))
      (one_decided outcomes.Rollback g (IsRollbackDecided g) (rollback_did g) (λ seen l c a s. s) (λ seen l c s. s) (λ seen h same. inl same) gs seen is)
  rollback_seen g _ reply seen next old new performs done is told = absurd (false≢true is)

-- ** the branch that an identifier names

-- the identifier of the one names the other, which is the same if its numbers fit their types
abbrev pub IsNamed : Branch → Branch → Type 0
IsNamed b d = branch_of_xid (xid_of_branch b) ≡ Some d

abbrev first_of : Option (ℕ × ℕ) → ℕ
first_of None = 0
first_of (Some pair) = pair.0

abbrev second_of : Option (ℕ × ℕ) → ℕ
second_of None = 0
second_of (Some pair) = pair.1

pub named_gtrid : (b d : Branch) → IsNamed b d → is_gtrid b.gtrid ≡ true → d.gtrid ≡ b.gtrid
named_gtrid b d named fit =
    let parts = and_parts (nat_lt b.gtrid.incarnation (2 ^ 64)) (nat_lt b.gtrid.sequence (2 ^ 64)) fit in
    by (u64_pair (gtrid_bytes b.gtrid)) (u32_pair (xid_of_branch b).bqual)
    (u64_pair-bytes b.gtrid.incarnation b.gtrid.sequence (ltb-true _ _ parts.0) (ltb-true _ _ parts.1)) named
  where
    by : (p q : Option (ℕ × ℕ)) → p ≡ Some (b.gtrid.incarnation, b.gtrid.sequence) → branch_of_pairs p q ≡ Some d → d.gtrid ≡ b.gtrid
    by (Some (i, s)) (Some (t, r)) e is =
        let found : (let v : Branch = record { gtrid = record { incarnation = i; sequence = s }; thread = t; rm = r } in v) ≡ d = cc in
        let first : i ≡ b.gtrid.incarnation = ap first_of e in
        let second : s ≡ b.gtrid.sequence = ap second_of e in
        sym (ap (λ (v : Branch). v.gtrid) found)
        ∙ (ap (λ (n : ℕ). let v : Gtrid = record { incarnation = n; sequence = s } in v) first
        ∙ ap (λ (n : ℕ). let v : Gtrid = record { incarnation = b.gtrid.incarnation; sequence = n } in v) second)
    by (Some (i, s)) None e is = absurd (cc)
    by None q e is = absurd (cc)

-- the call is an xa_commit of the branch that the identifier of this one names
record IsCommitOf (b : Branch) (one_phase : Bool) (c : Call) : Type 0 where
  branch : Branch
  named : IsNamed b branch
  call : c ≡ Calls.Commit branch one_phase

known_commit : (b : Branch) (x : Xid) (one_phase : Bool) (c : Call) → x ≡ xid_of_branch b → known (Calls.Commit x one_phase) ≡ Some c → IsCommitOf b one_phase c
known_commit b x one_phase c is known_so = by (branch_of_xid x) refl known_so
  where
    by : (o : Option Branch) → branch_of_xid x ≡ o → option_map (λ (d : Branch). let v : Call = Calls.Commit d one_phase in v) (ours_of (name_by x o)) ≡ Some c
        → IsCommitOf b one_phase c
    by (Some d) e k = record { branch = d; named = ap branch_of_xid (sym is) ∙ e; call = sym (let same : (let v : Call = Calls.Commit d one_phase in v) ≡ c = cc in same) }
    by None e k = absurd (cc)

-- ** its answers

-- some xa_commit of it
abbrev IsSomeCommit : Branch → Call → Type 0
IsSomeCommit b c = (one_phase : Bool) × IsCommitOf b one_phase c

named_commit : (b : Branch) (x : Xid) (call : Asking.Call Xid) (c : Call) → x ≡ xid_of_branch b
    → (are_alike (kind_of call) kinds.Commit && are_same (xid_in call) (Some x)) ≡ true → known call ≡ Some c → IsSomeCommit b c
named_commit b x (Calls.Commit y one_phase) c is named known_so = (one_phase, known_commit b y one_phase c (xid_eq-same y x named ∙ is) known_so)
named_commit b x Calls.OpenRm c is named known_so = absurd (false≢true named)
named_commit b x Calls.CloseRm c is named known_so = absurd (false≢true named)
named_commit b x (Calls.Start y join) c is named known_so = absurd (false≢true named)
named_commit b x (Calls.End y fail) c is named known_so = absurd (false≢true named)
named_commit b x (Calls.Prepare y) c is named known_so = absurd (false≢true named)
named_commit b x (Calls.Rollback y) c is named known_so = absurd (false≢true named)
named_commit b x (Calls.Forget y) c is named known_so = absurd (false≢true named)
named_commit b x (Calls.Recover count start_scan end_scan) c is named known_so = absurd (false≢true named)

on_xid : (b : Branch) (t r : ℕ) (x : Xid) → is_on b t r x ≡ true → x ≡ xid_of_branch b
on_xid b t r x on =
    xid_eq-same x (xid_of_branch b) (and_parts (r == b.rm) (xid_eq x (xid_of_branch b)) (and_parts (t == b.thread) ((r == b.rm) && xid_eq x (xid_of_branch b)) on).1).1

to_commit : (b : Branch) (t r : ℕ) (kind : CallKind) (xid : Option Xid) (call : Asking.Call Xid) (c : Call) → kind ≡ kinds.Commit
    → is_named_on b t r xid ≡ true → (are_alike (kind_of call) kind && are_same (xid_in call) xid) ≡ true → known call ≡ Some c → IsSomeCommit b c
to_commit b t r kind None call c is on named known_so = absurd (false≢true on)
to_commit b t r kind (Some x) call c is on named known_so =
    named_commit b x call c (on_xid b t r x on) (subst (λ k. (are_alike (kind_of call) k && are_same (xid_in call) (Some x)) ≡ true) is named) known_so

-- the last that is seen is an answer to it, of a code that is so
record IsAnswered (b : Branch) (are_so : CallKind → Code → Bool) (next : Seen) : Type 0 where
  before : Seen
  line : Line
  call : Call
  code : Code
  one_phase : Bool
  commit : IsCommitOf b one_phase call
  so : are_so kinds.Commit code ≡ true
  is : next ≡ Answered before line call (Ret code)

module _ {L : Type 0} (moment : L → Moment) (n : ℕ) (b : Branch) (are_so : CallKind → Code → Bool)
    (kind_is : (k : CallKind) (code : Code) → are_so k code ≡ true → k ≡ kinds.Commit) where
  answer_seen : (request : Request) (reply : Response) (seen next : Seen) (old new : Server L) → Performs moment request old reply new
      → is_done reply ≡ true → tells_code are_so b request ≡ true → Tells n request reply seen next → IsAnswered b are_so next
  answer_seen (requests.Answer t r name (Ret code)) reply seen next old new performs done is told =
      let e = answer_told t r name (Ret code) old performs.mid reply performs.does done in
      let now = subst (λ (z : Response). Tells n (requests.Answer t r name (Ret code)) z seen next) e told in
      let parts = and_parts (are_so name.kind code) (is_named_on b t r name.xid) is in
      let kind = kind_is name.kind code parts.0 in
      let commit = to_commit b t r name.kind name.xid now.1.call now.0 kind parts.1 now.1.named now.1.is_known in
      record {
        before = seen;
        line = line t r;
        call = now.0;
        code = code;
        one_phase = commit.0;
        commit = commit.1;
        so = subst (λ k. are_so k code ≡ true) kind parts.0;
        is = now.2;
      }
  answer_seen _ reply seen next old new performs done is told = absurd (false≢true is)

commit_kind_is : (k : CallKind) (code : Code) → says_committed k code ≡ true → k ≡ kinds.Commit
commit_kind_is kinds.Commit code e = refl
commit_kind_is _ code e = absurd (false≢true e)

refused_kind_is : (k : CallKind) (code : Code) → says_rolled_back k code ≡ true → k ≡ kinds.Commit
refused_kind_is kinds.Commit code e = refl
refused_kind_is _ code e = absurd (false≢true e)

-- of a branch that the identifier of this one names, this was seen
abbrev pub SawNamed : Branch → (Gtrid → Seen → Type 0) → Seen → Type 0
SawNamed b Saw seen = (d : Branch) × (IsNamed b d × Saw d.gtrid seen)

heard_success : (g : Gtrid) (seen : Seen) (l : Line) (c : Call) (d : Branch) (one_phase : Bool) (code : Code) → d.gtrid ≡ g → c ≡ Calls.Commit d one_phase
    → says_committed kinds.Commit code ≡ true → IsCommitHeard g (Answered seen l c (Ret code))
heard_success g seen l c d one_phase codes.Success same is so =
    subst (λ z. IsCommitHeard g (Answered seen l z (Ret codes.Success))) (sym is) (inl (subst (λ h. gtrid_eq h g ≡ true) (sym same) (gtrid_eq-refl g)))
heard_success g seen l c d one_phase _ same is so = absurd (false≢true so)

heard_refusal : (g : Gtrid) (seen : Seen) (l : Line) (c : Call) (d : Branch) (one_phase : Bool) (code : Code) → d.gtrid ≡ g → c ≡ Calls.Commit d one_phase
    → says_rolled_back kinds.Commit code ≡ true → IsCommitRefused g (Answered seen l c (Ret code))
heard_refusal g seen l c d one_phase (codes.RolledBack why) same is so =
    subst (λ z. IsCommitRefused g (Answered seen l z (Ret (codes.RolledBack why)))) (sym is)
    (inl (subst (λ h. gtrid_eq h g ≡ true) (sym same) (gtrid_eq-refl g)))
heard_refusal g seen l c d one_phase _ same is so = absurd (false≢true so)

module _ {L : Type 0} (moment : L → Moment) (n : ℕ) (b : Branch) where
  pub success_seen : (request : Request) (reply : Response) (seen next : Seen) (old new : Server L) → Performs moment request old reply new
      → is_done reply ≡ true → tells_code says_committed b request ≡ true → Tells n request reply seen next → SawNamed b IsCommitHeard next
  success_seen request reply seen next old new performs done is told =
      let a = answer_seen moment n b says_committed commit_kind_is request reply seen next old new performs done is told in
      let d = a.commit.branch in (
        d,
        (
          a.commit.named,
          subst (IsCommitHeard d.gtrid) (sym a.is) (heard_success d.gtrid a.before a.line a.call d a.one_phase a.code refl a.commit.call a.so),
        ),
      )

  pub refusal_seen : (request : Request) (reply : Response) (seen next : Seen) (old new : Server L) → Performs moment request old reply new
      → is_done reply ≡ true → tells_code says_rolled_back b request ≡ true → Tells n request reply seen next → SawNamed b IsCommitRefused next
  refusal_seen request reply seen next old new performs done is told =
      let a = answer_seen moment n b says_rolled_back refused_kind_is request reply seen next old new performs done is told in
      let d = a.commit.branch in (
        d,
        (
          a.commit.named,
          subst (IsCommitRefused d.gtrid) (sym a.is) (heard_refusal d.gtrid a.before a.line a.call d a.one_phase a.code refl a.commit.call a.so),
        ),
      )

  -- ** one phase, and lines

  abbrev pub its_line : Line
  its_line = line b.thread b.rm

  same_line : (t r : ℕ) → (t == b.thread) ≡ true → (r == b.rm) ≡ true → line t r ≡ its_line
  same_line t r first second = ap (λ z. line z r) (eqb-true t b.thread first) ∙ ap (line b.thread) (eqb-true r b.rm second)

  pub issue_seen : (request : Request) (reply : Response) (seen next : Seen) (old new : Server L) → Performs moment request old reply new
      → is_done reply ≡ true → asks_at_once b request ≡ true → Tells n request reply seen next
      → SawNamed b (λ g s. IsIssuedAtOnce g its_line s) next
  issue_seen (requests.Issue t r (Calls.Commit x true)) reply seen next old new performs done is told =
      let call : Asking.Call Xid = Calls.Commit x true in
      let e = done_reply (responses.Issued call) reply performs.does.result performs.does.told done in
      let now = subst (λ (z : Response). Tells n (requests.Issue t r call) z seen next) e told in
      let parts = and_parts (t == b.thread) ((r == b.rm) && xid_eq x (xid_of_branch b)) is in
      let others = and_parts (r == b.rm) (xid_eq x (xid_of_branch b)) parts.1 in
      let commit = known_commit b x true now.0 (xid_eq-same x (xid_of_branch b) others.1) now.1 in
      let d = commit.branch in
      let issued : IsIssuedAtOnce d.gtrid its_line (Did seen (Issued (line t r) (Calls.Commit d true))) =
      inl (gtrid_eq-refl d.gtrid, same_line t r parts.0 others.0) in (
        d,
        (
          commit.named,
          subst (IsIssuedAtOnce d.gtrid its_line) (sym (now.2 ∙ ap (λ c. Did seen (Issued (line t r) c)) commit.call)) issued,
        ),
      )
  issue_seen _ reply seen next old new performs done is told = absurd (false≢true is)

  pub loss_seen : (request : Request) (reply : Response) (seen next : Seen) (old new : Server L) → Performs moment request old reply new
      → is_done reply ≡ true → loses b request ≡ true → Tells n request reply seen next → IsLineLost its_line next
  loss_seen (requests.CrashLine t r) reply seen next old new performs done is told =
      let e = done_reply responses.Crashed reply performs.does.result performs.does.told done in
      let now = subst (λ (z : Response). Tells n (requests.CrashLine t r) z seen next) e told in
      let parts = and_parts (t == b.thread) (r == b.rm) is in
      subst (IsLineLost its_line) (sym now.1) (inl (same_line t r parts.0 parts.1))
  loss_seen _ reply seen next old new performs done is told = absurd (false≢true is)

pub issue_did : (g : Gtrid) (l : Line) (seen : Seen) (e : Happening) → IsIssuedAtOnce g l seen → IsIssuedAtOnce g l (Did seen e)
issue_did g l seen (Issued m (Calls.Commit b true)) s = inr s
issue_did g l seen _ s = s
