-- The identifiers in what a line asks for are identifiers.
use Rattle.std.proofs.Common.{◌≡◌, ◌∙◌, ℕ, ◌<◌, ◌-◌, ◌==◌, Bool, true, false, ℤ, List, [], ◌∷◌, ◌++◌, length, take, Option, Some, None, IfSome, refl, sym, subst, arith, w32, w64, if◌then◌else◌}
use Rattle.std.proofs.lemmas.List.Elements.{All-cons, All-nil}
use Rattle.std.specs.Int.{to_be_bytes}
use Rattle.std.specs.Prelude.{All, FitsSigned, codes, pos, option_and_then, slice_get}
use Rattle.std.specs.Str.{bytes_eq}
use Rattle.xa_base.proofs.CallLemmas.{with_is_made}
use Rattle.xa_base.specs.Branch.{xid_of_branch}
use Rattle.xa_base.specs.Call.{call_with, xid_in}
use Rattle.xa_base.specs.Xid.{Xid, IsXid}
use Rattle.xa_base.specs.declared.branch.Branch.{Branch}
use Rattle.xa_base.specs.declared.branch.Gtrid.{Gtrid}
use Rattle.xa_base.specs.declared.call.Call.{Call}
use Rattle.xa_base.specs.declared.call.CallKind.{CallKind}
use Rattle.xa_base.specs.declared.call.CallKind.TheVariants as kinds
use Rattle.xa_files.specs.Numbers.{index_of, integer_of}
use Rattle.xa_files.specs.Words.{call_named, code_named, outcome_named}
use Rattle.xa_requests.specs.Answers.{Answered, answer_behind, answer_request, bare_answer, branch_answer, page_answered, recover_answer}
use Rattle.xa_requests.specs.Calls.{bare_call, branch_call, call_behind, call_in, flags_in, issue_request, recover_call}
use Rattle.xa_requests.specs.Decisions.{begin_request, decide_request, only_gtrid, some_gtrids}
use Rattle.xa_requests.specs.Identifiers.{HasXids, ListsXids, RequestsHaveXids}
use Rattle.xa_requests.specs.Names.{branch_named, each_named, gtrid_named, xid_named}
use Rattle.xa_requests.specs.Recoveries.{bare_request, crash_request, line_in_words, only_index}
use Rattle.xa_requests.specs.Requests.{request_in, request_with}
use Rattle.xa_requests.specs.Verbs.{verb_named}
use Rattle.xa_requests.specs.Words.{Word, words_of}
use Rattle.xa_requests.specs.declared.request.Request.{Request}
use Rattle.xa_requests.specs.declared.request.Request.TheVariants as requests
use Rattle.xa_requests.specs.declared.verbs.Verb.{Verb}
use Rattle.xa_requests.specs.declared.verbs.Verb.TheVariants as verbs
use Rattle.xa_requests.proofs.SpellingLemmas.{append_bytes, number_bytes}
use Rattle.xa_requests.proofs.XidLemmas.{xid_if_named}

-- ** what is there only where something is

if_then : {A B : Type 0} (P : A → Type 0) (Q : B → Type 0) (o : Option A) (f : A → Option B) → IfSome o P → ((x : A) → P x → IfSome (f x) Q)
    → IfSome (option_and_then f o) Q
if_then P Q None f has next = tt
if_then P Q (Some x) f has next = next x has

any_then : {A B : Type 0} (Q : B → Type 0) (o : Option A) (f : A → Option B) → ((x : A) → IfSome (f x) Q) → IfSome (option_and_then f o) Q
any_then Q None f next = tt
any_then Q (Some x) f next = next x

if_choice : {B : Type 0} (Q : B → Type 0) (t : Bool) (o p : Option B) → IfSome o Q → IfSome p Q → IfSome (if t then o else p) Q
if_choice Q true o p first second = first
if_choice Q false o p first second = second

of_some : {A : Type 0} (P : A → Type 0) (o : Option A) (x : A) → IfSome o P → o ≡ Some x → P x
of_some P None x has e = absurd (cc)
of_some P (Some y) x has e = let same : y ≡ x = cc in subst P same has

from_some : {A : Type 0} (P : A → Type 0) (o : Option A) → ((x : A) → o ≡ Some x → P x) → IfSome o P
from_some P None has = tt
from_some P (Some x) has = has x refl

-- ** identifiers

seven_fits : FitsSigned w32 (pos 7)
seven_fits = omega arith

-- a branch has one, whatever its numbers
branch_is : (b : Branch) → IsXid (xid_of_branch b)
branch_is b = record {
  in_range = record {
    format = seven_fits;
    gtrid = append_bytes (to_be_bytes w64 b.gtrid.incarnation) (to_be_bytes w64 b.gtrid.sequence) (number_bytes 8 b.gtrid.incarnation)
        (number_bytes 8 b.gtrid.sequence);
    bqual = append_bytes (to_be_bytes w32 b.thread) (to_be_bytes w32 b.rm) (number_bytes 4 b.thread) (number_bytes 4 b.rm);
  };
  faultless = refl;
}

named_is : (word : Word) → IfSome (xid_named word) IsXid
named_is word = from_some IsXid (xid_named word) (λ x e. (xid_if_named word x e).0)

branch_named_is : (thread rm : ℕ) (word : Word) → IfSome (branch_named thread rm word) IsXid
unfolding branch_named
branch_named_is thread rm word = by (gtrid_named word)
  where
    by : (o : Option Gtrid) → IfSome (elim o [
      | Some gtrid ↦ Some (xid_of_branch (record { gtrid = gtrid; thread = thread; rm = rm }))
      | None ↦ xid_named word
    ]) IsXid
    by (Some gtrid) = branch_is (record { gtrid = gtrid; thread = thread; rm = rm })
    by None = named_is word

each_is : (words : List Word) → IfSome (each_named xid_named words) (All IsXid)
unfolding each_named
each_is [] = All-nil IsXid
each_is (word ∷ words) =
    if_then IsXid (All IsXid) (xid_named word) _ (named_is word)
    (λ x is. if_then (All IsXid) (All IsXid) (each_named xid_named words) (λ others. Some (x ∷ others)) (each_is words)
    (λ others are. All-cons IsXid x others is are))

-- ** calls

CallHas : Call Xid → Type 0
CallHas call = IfSome (xid_in call) IsXid

made_has : (kind : CallKind) (xid : Option Xid) (flags : ℕ) (count : Option ℤ) → IfSome xid IsXid → IfSome (call_with kind xid flags count) CallHas
unfolding CallHas
made_has kind xid flags count has =
    from_some CallHas (call_with kind xid flags count)
    (λ call e. subst (λ o. IfSome o IsXid) (sym (with_is_made kind xid flags count call e).xid) has)

bare_has : (kind : CallKind) (words : List Word) → IfSome (bare_call kind words) CallHas
bare_has kind words = any_then CallHas (flags_in words) _ (λ flags. made_has kind None flags None tt)

branch_has : (kind : CallKind) (thread rm : ℕ) (words : List Word) → IfSome (branch_call kind thread rm words) CallHas
unfolding branch_call
branch_has kind thread rm [] = tt
branch_has kind thread rm (branch ∷ words) =
    if_then IsXid CallHas (branch_named thread rm branch) _ (branch_named_is thread rm branch)
    (λ x is. any_then CallHas (flags_in words) (λ flags. call_with kind (Some x) flags None) (λ flags. made_has kind (Some x) flags None is))

recover_has : (words : List Word) → IfSome (recover_call words) CallHas
unfolding recover_call
recover_has [] = tt
recover_has (number ∷ words) =
    any_then CallHas (integer_of number) _
    (λ count. any_then CallHas (flags_in words) (λ flags. call_with kinds.Recover None flags (Some count))
    (λ flags. made_has kinds.Recover None flags (Some count) tt))

call_has : (kind : CallKind) (thread rm : ℕ) (words : List Word) → IfSome (call_behind kind thread rm words) CallHas
call_has kinds.OpenRm thread rm words = bare_has kinds.OpenRm words
call_has kinds.CloseRm thread rm words = bare_has kinds.CloseRm words
call_has kinds.Recover thread rm words = recover_has words
call_has kind thread rm words = branch_has kind thread rm words

calls_have : (thread rm : ℕ) (words : List Word) → IfSome (call_in thread rm words) CallHas
unfolding call_in
calls_have thread rm [] = tt
calls_have thread rm (name ∷ words) = any_then CallHas (call_named name) _ (λ kind. call_has kind thread rm words)

issue_has : (words : List Word) → IfSome (issue_request words) HasXids
unfolding issue_request CallHas
issue_has [] = tt
issue_has (t ∷ []) = tt
issue_has (t ∷ r ∷ words) =
    any_then HasXids (index_of t) _ (λ thread. any_then HasXids (index_of r) _ (λ rm.
    if_then CallHas HasXids (call_in thread rm words) (λ call. Some (requests.Issue thread rm call)) (calls_have thread rm words) (λ call has. has)))

-- ** answers

abbrev AnswerHas : Answered → Type 0
AnswerHas a = IfSome a.0.xid IsXid × ListsXids a.1

bare_answer_has : (kind : CallKind) (words : List Word) → IfSome (bare_answer kind words) AnswerHas
unfolding bare_answer
bare_answer_has kind [] = tt
bare_answer_has kind (number ∷ []) = any_then AnswerHas (code_named number) _ (λ code. (tt, tt))
bare_answer_has kind (number ∷ more ∷ words) = tt

branch_answer_has : (kind : CallKind) (thread rm : ℕ) (words : List Word) → IfSome (branch_answer kind thread rm words) AnswerHas
unfolding branch_answer
branch_answer_has kind thread rm [] = tt
branch_answer_has kind thread rm (branch ∷ []) = tt
branch_answer_has kind thread rm (branch ∷ number ∷ []) =
    if_then IsXid AnswerHas (branch_named thread rm branch) _ (branch_named_is thread rm branch)
    (λ x is. any_then AnswerHas (code_named number) _ (λ code. (is, tt)))
branch_answer_has kind thread rm (branch ∷ number ∷ more ∷ words) = tt

page_has : (words : List Word) → IfSome (page_answered words) AnswerHas
page_has words = if_then (All IsXid) AnswerHas (each_named xid_named words) _ (each_is words) (λ xids are. (tt, are))

recover_answer_has : (words : List Word) → IfSome (recover_answer words) AnswerHas
unfolding recover_answer
recover_answer_has [] = tt
recover_answer_has (number ∷ words) = by (index_of number)
  where
    by : (o : Option ℕ) → IfSome (elim o [
      | Some count ↦ if count == length words then page_answered words else None
      | None ↦ bare_answer kinds.Recover (number ∷ words)
    ]) AnswerHas
    by (Some count) = if_choice AnswerHas (count == length words) (page_answered words) None (page_has words) tt
    by None = bare_answer_has kinds.Recover (number ∷ words)

answer_has : (kind : CallKind) (thread rm : ℕ) (words : List Word) → IfSome (answer_behind kind thread rm words) AnswerHas
answer_has kinds.OpenRm thread rm words = bare_answer_has kinds.OpenRm words
answer_has kinds.CloseRm thread rm words = bare_answer_has kinds.CloseRm words
answer_has kinds.Recover thread rm words = recover_answer_has words
answer_has kind thread rm words = branch_answer_has kind thread rm words

answers_have : (words : List Word) → IfSome (answer_request words) HasXids
unfolding answer_request
answers_have [] = tt
answers_have (t ∷ []) = tt
answers_have (t ∷ r ∷ []) = tt
answers_have (t ∷ r ∷ name ∷ words) =
    any_then HasXids (index_of t) _ (λ thread. any_then HasXids (index_of r) _ (λ rm. any_then HasXids (call_named name) _ (λ kind.
    if_then AnswerHas HasXids (answer_behind kind thread rm words) (λ answered. Some (requests.Answer thread rm answered.0 answered.1))
    (answer_has kind thread rm words) (λ a has. has))))

-- ** other requests have none

begins_have : (words : List Word) → IfSome (begin_request words) HasXids
begins_have [] = tt
begins_have (t ∷ []) = any_then HasXids (index_of t) _ (λ thread. tt)
begins_have (t ∷ more ∷ words) = tt

decides_have : (words : List Word) → IfSome (decide_request words) HasXids
unfolding decide_request
decides_have words =
    any_then HasXids (some_gtrids (take (length words - 1) words)) _ (λ gtrids.
    any_then HasXids (option_and_then outcome_named (slice_get words (length words - 1))) _ (λ outcome. tt))

crashes_have : (words : List Word) → IfSome (crash_request words) HasXids
crashes_have [] = tt
crashes_have (part ∷ words) =
    if_choice HasXids (bytes_eq part (codes "line")) _ _ (any_then HasXids (line_in_words words) _ (λ line. tt))
    (if_choice HasXids (bytes_eq part (codes "rm")) _ None (any_then HasXids (only_index words) _ (λ rm. tt)) tt)

bare_have : (request : Request) (words : List Word) → HasXids request → IfSome (bare_request request words) HasXids
bare_have request [] has = has
bare_have request (word ∷ words) has = tt

-- ** all

with_verb : (verb : Verb) (words : List Word) → IfSome (request_with verb words) HasXids
with_verb verbs.Begin words = begins_have words
with_verb verbs.Issue words = issue_has words
with_verb verbs.Answer words = answers_have words
with_verb verbs.Decide words = decides_have words
with_verb verbs.Claim words = any_then HasXids (only_gtrid words) _ (λ g. tt)
with_verb verbs.Settle words = any_then HasXids (only_gtrid words) _ (λ g. tt)
with_verb verbs.Abandon words = any_then HasXids (only_gtrid words) _ (λ g. tt)
with_verb verbs.Done words = any_then HasXids (some_gtrids words) _ (λ gs. tt)
with_verb verbs.Resolve words = any_then HasXids (only_index words) _ (λ rm. tt)
with_verb verbs.ResolveOpen words = any_then HasXids (only_index words) _ (λ rm. tt)
with_verb verbs.Waiting words = any_then HasXids (line_in_words words) _ (λ line. tt)
with_verb verbs.Owed words = any_then HasXids (only_index words) _ (λ rm. tt)
with_verb verbs.Crash words = crashes_have words
with_verb verbs.Status words = bare_have requests.Status words tt
with_verb verbs.Quit words = bare_have requests.Quit words tt

in_words : (words : List Word) → IfSome (request_in words) HasXids
unfolding request_in
in_words [] = tt
in_words (word ∷ words) = any_then HasXids (verb_named word) _ (λ verb. with_verb verb words)

pub requests_have : RequestsHaveXids
requests_have line request e = of_some HasXids (request_in (words_of line)) request (in_words (words_of line)) e
