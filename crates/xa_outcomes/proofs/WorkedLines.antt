-- The lines of two sessions that are worked out: what each asks for, and what a session that hears
-- them keeps track of.
use Rattle.std.proofs.Common.{◌≡◌, ◌∙◌, ℕ, Bool, true, false, List, [], ◌∷◌, ◌++◌, length, length-append, Some, None, refl, sym, ap, arith}
use Rattle.std.proofs.lemmas.Bool.{true≢false}
use Rattle.std.proofs.lemmas.List.{append-nil}
use Rattle.std.specs.Prelude.{codes, if◌then◌else◌, slice_get}
use Rattle.std.specs.Str.{is_utf8, chars}
use Rattle.std.specs.Fmt.{digits}
use lib.Utf8.{encode}
use Rattle.xa_base.specs.Branch.{xid_of_branch}
use Rattle.xa_base.specs.XidText.{bytes_of}
use Rattle.xa_base.specs.Xid.{Xid}
use Rattle.xa_base.specs.declared.answer.Answer.TheVariants.{Ret}
use Rattle.xa_base.specs.declared.call.Call as Waiting
use Rattle.xa_base.specs.declared.call.Call.TheVariants as Calls
use Rattle.xa_base.specs.declared.call.CallKind.{CallKind}
use Rattle.xa_base.specs.declared.call.CallKind.TheVariants as Kinds
use Rattle.xa_base.specs.declared.code.Code.TheVariants.{Success}
use Rattle.xa_base.specs.declared.step.Outcome.TheVariants as Outcomes
use Rattle.xa_files.specs.Numbers.{index_of}
use Rattle.xa_files.specs.Words.{code_named}
use Rattle.xa_line.specs.Histories.{known}
use Rattle.xa_model.proofs.Keys.{line_eq-refl}
use Rattle.xa_model.specs.Facts.{issued, next_call, taken}
use Rattle.xa_model.specs.Trace.{Answer, Branch, Call, Happening.Begun, Happening.Issued, Line, Origin, Trace, Trace.Then, line, line_eq, line_of}
use Rattle.xa_monitor.proofs.Taken.{same_lines}
use Rattle.xa_monitor.specs.Seen.{IsHistory, IsHistory.Does, IsHistory.Hears, IsHistory.Starts, Seen, Seen.Answered, Seen.Did, Seen.Start}
use Rattle.xa_outcomes.specs.WorkedSessions.{Spoken, at_one, at_two, first_gtrid, is_issued, lines_of_commit, lines_of_one, lines_of_two}
use Rattle.xa_requests.specs.Answers.{answer_request, bare_answer, branch_answer}
use Rattle.xa_requests.specs.Calls.{branch_call, call_in, issue_request}
use Rattle.xa_requests.specs.Decisions.{decide_request}
use Rattle.xa_requests.specs.Names.{branch_named, each_named, gtrid_named}
use Rattle.xa_requests.specs.Requests.{request_in, request_of}
use Rattle.xa_requests.specs.Words.{words_of}
use Rattle.xa_requests.specs.declared.request.CallName.{CallName}
use Rattle.xa_requests.specs.declared.request.Request.TheVariants as requests
use Rattle.xa_requests.specs.declared.response.Response.{Response}
use Rattle.xa_requests.specs.declared.response.Response.TheVariants as responses
use Rattle.xa_server.specs.Lines.{asked_in}
use Rattle.xa_server.specs.Telling.{HasName, Tells, is_log_fault}
use Rattle.xa_server.specs.Votes.{is_heard}

-- ** what each line asks for

-- the two lines ask for this call on this line, and tell XA_OK to it
pub record AskFor (spoken : Spoken) (l : Line) (c : Call) : Type 0 where
  pub call : Waiting.Call Xid
  pub name : CallName
  pub is_known : known call ≡ Some c
  pub issue_request_is : request_of spoken.issue ≡ Some (requests.Issue l.thread l.rm call)
  pub issue_asks : asked_in spoken.issue ≡ Some (requests.Issue l.thread l.rm call)
  pub answer_request_is : request_of spoken.answer ≡ Some (requests.Answer l.thread l.rm name (Ret Success))
  pub answer_asks : asked_in spoken.answer ≡ Some (requests.Answer l.thread l.rm name (Ret Success))

-- each of these, of the call in its place
abbrev pub AskForAll : List Spoken → Line → List Call → Type 0
AskForAll [] l [] = Unit
AskForAll (s ∷ ss) l (c ∷ cs) = AskFor s l c × AskForAll ss l cs
AskForAll ss l cs = ⊥

abbrev one : Branch
one = at_one first_gtrid

abbrev two : Branch
two = at_two first_gtrid

abbrev named : CallKind → Branch → CallName
named kind b = record { kind = kind; xid = Some (xid_of_branch b) }

abbrev bare : CallName
bare = record { kind = Kinds.OpenRm; xid = None }

pub one_asks : AskForAll lines_of_one (line_of one) (Calls.OpenRm ∷ Calls.Start one false ∷ Calls.End one false ∷ Calls.Prepare one ∷ [])
unfolding request_in words_of gtrid_named branch_named each_named answer_request bare_answer branch_answer issue_request call_in branch_call is_utf8 chars encode index_of digits code_named bytes_of
one_asks = (
  record {
    call = Calls.OpenRm;
    name = bare;
    is_known = refl;
    issue_request_is = refl;
    issue_asks = refl;
    answer_request_is = refl;
    answer_asks = refl;
  },
  (
    record {
      call = Calls.Start (xid_of_branch one) false;
      name = named Kinds.Start one;
      is_known = refl;
      issue_request_is = refl;
      issue_asks = refl;
      answer_request_is = refl;
      answer_asks = refl;
    },
    (
      record {
        call = Calls.End (xid_of_branch one) false;
        name = named Kinds.End one;
        is_known = refl;
        issue_request_is = refl;
        issue_asks = refl;
        answer_request_is = refl;
        answer_asks = refl;
      },
      (
        record {
          call = Calls.Prepare (xid_of_branch one);
          name = named Kinds.Prepare one;
          is_known = refl;
          issue_request_is = refl;
          issue_asks = refl;
          answer_request_is = refl;
          answer_asks = refl;
        },
        tt,
      ),
    ),
  ),
)

pub two_asks : AskForAll lines_of_two (line_of two) (Calls.OpenRm ∷ Calls.Start two false ∷ Calls.End two false ∷ Calls.Prepare two ∷ [])
unfolding request_in words_of gtrid_named branch_named each_named answer_request bare_answer branch_answer issue_request call_in branch_call is_utf8 chars encode index_of digits code_named bytes_of
two_asks = (
  record {
    call = Calls.OpenRm;
    name = bare;
    is_known = refl;
    issue_request_is = refl;
    issue_asks = refl;
    answer_request_is = refl;
    answer_asks = refl;
  },
  (
    record {
      call = Calls.Start (xid_of_branch two) false;
      name = named Kinds.Start two;
      is_known = refl;
      issue_request_is = refl;
      issue_asks = refl;
      answer_request_is = refl;
      answer_asks = refl;
    },
    (
      record {
        call = Calls.End (xid_of_branch two) false;
        name = named Kinds.End two;
        is_known = refl;
        issue_request_is = refl;
        issue_asks = refl;
        answer_request_is = refl;
        answer_asks = refl;
      },
      (
        record {
          call = Calls.Prepare (xid_of_branch two);
          name = named Kinds.Prepare two;
          is_known = refl;
          issue_request_is = refl;
          issue_asks = refl;
          answer_request_is = refl;
          answer_asks = refl;
        },
        tt,
      ),
    ),
  ),
)

pub commit_asks : AskForAll lines_of_commit (line_of one) (Calls.OpenRm ∷ Calls.Commit one false ∷ [])
unfolding request_in words_of gtrid_named branch_named each_named answer_request bare_answer branch_answer issue_request call_in branch_call is_utf8 chars encode index_of digits code_named bytes_of
commit_asks = (
  record {
    call = Calls.OpenRm;
    name = bare;
    is_known = refl;
    issue_request_is = refl;
    issue_asks = refl;
    answer_request_is = refl;
    answer_asks = refl;
  },
  (
    record {
      call = Calls.Commit (xid_of_branch one) false;
      name = named Kinds.Commit one;
      is_known = refl;
      issue_request_is = refl;
      issue_asks = refl;
      answer_request_is = refl;
      answer_asks = refl;
    },
    tt,
  ),
)

pub begin_asks : asked_in (codes "begin 0") ≡ Some (requests.Begin 0)
unfolding request_in words_of gtrid_named branch_named each_named answer_request bare_answer branch_answer issue_request call_in branch_call is_utf8 chars encode index_of digits code_named bytes_of
begin_asks = refl

pub begin_request_is : request_of (codes "begin 0") ≡ Some (requests.Begin 0)
unfolding request_in words_of gtrid_named branch_named each_named answer_request bare_answer branch_answer issue_request call_in branch_call is_utf8 chars encode index_of digits code_named bytes_of
begin_request_is = refl

pub decide_request_is : request_of (codes "decide 00000000000000010000000000000001 commit") ≡ Some (requests.Decide (first_gtrid ∷ []) Outcomes.Commit)
unfolding decide_request request_in words_of gtrid_named each_named bytes_of
decide_request_is = refl

-- ** lines on which nothing waits

-- by each history of what is seen all calls were made
abbrev pub NoneWaits : Origin → Seen → Type 0
NoneWaits o seen = (l : Line) (tr : Trace) → IsHistory o seen tr → length (issued tr l) ≡ length (taken tr l)

pub none_at_start : (o : Origin) → NoneWaits o Start
none_at_start o l _ (Starts held) = refl

pub none_begun : (o : Origin) (seen : Seen) (g : _) → NoneWaits o seen → NoneWaits o (Did seen (Begun g))
none_begun o seen g none l _ (Does _ tr _ i) = ap length (append-nil (issued tr l)) ∙ (none l tr i ∙ sym (ap length (append-nil (taken tr l))))

both_longer : {X Y : Type 0} (t : Bool) (xs : List X) (x : X) (ys : List Y) (y : Y) → length xs ≡ length ys
    → length (((xs ++ (if t then x ∷ [] else [])) ++ []) ++ []) ≡ length (((ys ++ []) ++ (if t then y ∷ [] else [])) ++ [])
both_longer true xs x ys y e = simp (append-nil, length-append) (omega (arith, e))
both_longer false xs x ys y e = simp (append-nil, length-append) (omega (arith, e))

module _ (o : Origin) (seen : Seen) (none : NoneWaits o seen) (l : Line) (c : Call) (a : Answer) where
  pub none_answered : NoneWaits o (Answered (Did seen (Issued l c)) l c a)
  none_answered m _ (Hears _ _ now _ _ _ (Does _ tr _ i) alone) =
      let s = same_lines (Then tr (Issued l c)) now alone in
      ap (λ xs. length ((xs ++ []) ++ [])) (s.calls m)
      ∙ (both_longer (line_eq l m) (issued tr m) c (taken tr m) (c, a) (none m tr i)
      ∙ sym (ap (λ xs. length ((xs ++ (if line_eq l m then (c, a) ∷ [] else [])) ++ [])) (s.taken_are m)))

  at_end : {X : Type 0} (xs : List X) (x : X) (n : ℕ) → n ≡ length xs → slice_get (xs ++ x ∷ []) n ≡ Some x
  at_end xs x n e = ap (slice_get (xs ++ x ∷ [])) e ∙ last xs x
    where
      last : {X : Type 0} (xs : List X) (x : X) → slice_get (xs ++ x ∷ []) (length xs) ≡ Some x
      last [] x = refl
      last (y ∷ xs) x = last xs x

  pub waits_first : (tr : Trace) → IsHistory o (Did seen (Issued l c)) tr → next_call tr l ≡ Some c
  waits_first _ (Does _ tr _ i) =
      ap (λ t. slice_get (issued tr l ++ (if t then c ∷ [] else [])) (length (taken tr l ++ []))) (line_eq-refl l)
      ∙ at_end (issued tr l) c (length (taken tr l ++ [])) (ap length (append-nil (taken tr l)) ∙ sym (none l tr i))

-- ** what a session keeps track of

pub no_fault_issued : (reply : Response) → is_issued reply ≡ true → is_log_fault reply ≡ false
no_fault_issued (responses.Issued call) e = refl
no_fault_issued _ e = absurd (true≢false (sym e))

pub no_fault_heard : (reply : Response) → is_heard reply ≡ true → is_log_fault reply ≡ false
no_fault_heard (responses.Heard kind number) e = refl
no_fault_heard _ e = absurd (true≢false (sym e))

-- a call that waits was issued so
pub issue_told : (n t r : ℕ) (call : Waiting.Call Xid) (c : Call) (reply : Response) (seen more : Seen) → known call ≡ Some c → is_issued reply ≡ true
    → Tells n (requests.Issue t r call) reply seen more → more ≡ Did seen (Issued (line t r) c)
issue_told n t r call c (responses.Issued told) seen more is waits (d, known_so, m) =
    let same : d ≡ c = let e : Some d ≡ Some c = sym known_so ∙ is in cc in m ∙ ap (λ z. Did seen (Issued (line t r) z)) same
issue_told n t r call c _ seen more is waits told = absurd (true≢false (sym waits))

-- an answer that is heard is one to some call of the name
pub record AnswerTold (t r : ℕ) (name : CallName) (seen more : Seen) : Type 0 where
  pub to : Call
  pub named_so : HasName name to
  pub is : more ≡ Answered seen (line t r) to (Ret Success)

pub answer_told : (n t r : ℕ) (name : CallName) (reply : Response) (seen more : Seen) → is_heard reply ≡ true
    → Tells n (requests.Answer t r name (Ret Success)) reply seen more → AnswerTold t r name seen more
answer_told n t r name (responses.Heard kind number) seen more hears (d, named_so, m) = record { to = d; named_so = named_so; is = m }
answer_told n t r name _ seen more hears told = absurd (true≢false (sym hears))

pub tells_issue : (n t r : ℕ) (call : Waiting.Call Xid) (c : Call) (reply : Response) (seen : Seen) → known call ≡ Some c → is_issued reply ≡ true
    → Tells n (requests.Issue t r call) reply seen (Did seen (Issued (line t r) c))
tells_issue n t r call c (responses.Issued told) seen is waits = (c, is, refl)
tells_issue n t r call c _ seen is waits = absurd (true≢false (sym waits))

pub tells_answer : (n t r : ℕ) (name : CallName) (c : Call) (reply : Response) (seen : Seen) → HasName name c → is_heard reply ≡ true
    → Tells n (requests.Answer t r name (Ret Success)) reply seen (Answered seen (line t r) c (Ret Success))
tells_answer n t r name c (responses.Heard kind number) seen named hears = (c, named, refl)
tells_answer n t r name c _ seen named hears = absurd (true≢false (sym hears))
