-- A reply that the history demands, computed: so each step has one.
use Rattle.std.proofs.Common.{◌≡◌, ℕ, ◌+◌, ◌==◌, List, [], ◌∷◌, length, Bool, true, false, ◌&&◌, refl, sym, ap, subst, arith}
use Rattle.std.specs.Prelude.{if◌then◌else◌, Option, Some, None, nat_lt, nat_le}
use Rattle.std.proofs.lemmas.Bool.{eq-eqb, eqb-true, ltb-true, leb-true, and_parts}
use Rattle.xa_base.specs.StateTable.{asks_of}
use Rattle.xa_base.specs.declared.code.Code.TheVariants as Codes
use Rattle.xa_base.specs.declared.step.Outcome.TheVariants as Outcome
use Rattle.xa_base.specs.declared.step.Side.TheVariants as Side
use Rattle.xa_model.specs.Replies.Allowed.{Takes, Takes.Takes_one, Takes.Takes_none, Hears, Hears.Hears_one, Hears.Hears_none, Restarts, Restarts.Restarts_as, failed_restarts, next_gtrid, IsValue, NeedsLog, MayLackMemory, Allowed, Allowed.By_rule, Allowed.As_value, Allowed.For_memory, Allowed.For_log, AllAllowed}
use Rattle.xa_model.specs.Facts.{incarnation, was_told, says_yes_in, doubt, log, rows_changed, heuristic_rows, heuristics_changed, next_call, next_answer, page, resolving_calls}
use Rattle.xa_model.specs.Facts.InDoubt.{scan_answer}
use Rattle.xa_model.specs.Protocol.{RightAnswer, call_code}
use Rattle.xa_model.specs.Replies.Rules.{must_refuse}
use Rattle.xa_base.specs.declared.reply.Reply.TheVariants as Replies
use Rattle.xa_base.specs.declared.step.Step.TheVariants as Steps
use Rattle.xa_model.specs.Replies.Steps.{Step, Refusal, Reply, happened}
use Rattle.xa_base.specs.declared.call.Call.TheVariants as Calls
use Rattle.xa_base.specs.Call.{map_call}
use Rattle.xa_base.specs.declared.answer.Answer.TheVariants.{Ret}
use Rattle.xa_model.specs.Trace.{Line, Name.Ours, Call, How, Answer, Happening.ResolvedOpen, Happening.Restarted, Row, Recorded, Trace, Trace.Then, line}

-- ** the value of a step

-- the answer of a resource manager
abbrev pub given : Trace → Line → Call → Answer
given tr l (Calls.Recover n start end) = scan_answer tr l.rm n start
given tr l c = Ret (call_code tr (asks_of c))

abbrev pub took : Trace → Line → Option Call → Reply
took tr l (Some c) = Replies.Took (map_call Ours c) (given tr l c)
took tr l None = Replies.Nothing

abbrev pub heard_now : Option (Call × Answer) → Reply
heard_now (Some p) = Replies.Heard (map_call Ours p.0) p.1
heard_now None = Replies.Nothing

abbrev pub value : Trace → Step → Reply
value tr (Steps.Begin t) = Replies.Begun (next_gtrid tr)
value tr (Steps.Issue t r a) = Replies.Issued
value tr (Steps.Take t r) = took tr (line t r) (next_call tr (line t r))
value tr (Steps.Hear t r) = heard_now (next_answer tr (line t r))
value tr (Steps.Vote r x v) = Replies.Noted
value tr (Steps.Busy r x n) = Replies.Noted
value tr (Steps.Heuristic r x how) = Replies.Noted
value tr (Steps.Decide g o) = Replies.Decided
value tr (Steps.Claim g) = Replies.Claimed
value tr (Steps.Settle g) = Replies.Decided
value tr (Steps.Abandon g) = Replies.Decided
value tr (Steps.Recover r n start end) = Replies.Issued
value tr (Steps.Resolve r) = Replies.Resolved (length (resolving_calls tr (page tr r)))
value tr (Steps.ResolveOpen r) = Replies.Resolved (length (resolving_calls (Then tr (ResolvedOpen r)) (page tr r)))
value tr (Steps.Done g) = Replies.Noted
value tr (Steps.Crash p) = Replies.Crashed
value tr (Steps.Restart (Side.Rm r)) = Replies.RmRestarted
value tr (Steps.Restart Side.Manager) = Replies.Restarted (incarnation tr + 1) (length (log tr)) (length (heuristic_rows tr))

given_right : (tr : Trace) (l : Line) (c : Call) → RightAnswer tr l c (given tr l c)
given_right tr l (Calls.Start b join) = refl
given_right tr l (Calls.End b fail) = refl
given_right tr l (Calls.Prepare b) = refl
given_right tr l (Calls.Commit b one_phase) = refl
given_right tr l (Calls.Rollback b) = refl
given_right tr l (Calls.Forget b) = refl
given_right tr l Calls.OpenRm = refl
given_right tr l Calls.CloseRm = refl
given_right tr l (Calls.Recover n start end) = refl

takes : (tr : Trace) (l : Line) (o : Option Call) → next_call tr l ≡ o → Takes tr l (took tr l o)
takes tr l (Some c) q = Takes_one c (given tr l c) q (given_right tr l c)
takes tr l None q = Takes_none q

hears : (tr : Trace) (l : Line) (o : Option (Call × Answer)) → next_answer tr l ≡ o → Hears tr l (heard_now o)
hears tr l (Some p) q = Hears_one p.0 p.1 q
hears tr l None q = Hears_none q

same_number : (n : ℕ) → (n == n) ≡ true
same_number n = grind (arith, eq-eqb)

-- a restart that finds as many rows as before finds those
restarts : (tr : Trace) → Restarts tr (Replies.Restarted (incarnation tr + 1) (length (log tr)) (length (heuristic_rows tr)))
restarts tr = Restarts_as (incarnation tr + 1) (length (log tr)) (length (heuristic_rows tr)) (omega arith) (omega arith)
    (ap (λ t. length {A = Row} (if t then log tr else rows_changed (doubt tr) (log tr))) (sym (same_number (length (log tr)))))
    (ap (λ t. length {A = Recorded} (if t then heuristic_rows tr else heuristics_changed (doubt tr) (heuristic_rows tr)))
    (sym (same_number (length (heuristic_rows tr)))))

pub value_is : (tr : Trace) (s : Step) → IsValue tr s (value tr s)
value_is tr (Steps.Take t r) = takes tr (line t r) (next_call tr (line t r)) refl
value_is tr (Steps.Hear t r) = hears tr (line t r) (next_answer tr (line t r)) refl
value_is tr (Steps.Restart Side.Manager) = restarts tr
value_is tr (Steps.Restart (Side.Rm r)) = refl
value_is tr _ = refl

-- ** the reply

abbrev pub reply_by : Option Refusal → Reply → Reply
reply_by (Some n) v = Replies.Refused n
reply_by None v = v

abbrev pub reply : Trace → Step → Reply
reply tr s = reply_by (must_refuse tr s) (value tr s)

allowed_by : (tr : Trace) (s : Step) (o : Option Refusal) → must_refuse tr s ≡ o → Allowed tr s (reply_by o (value tr s))
allowed_by tr s (Some n) q = By_rule n q refl
allowed_by tr s None q = As_value q (value_is tr s)

pub reply_allowed : (tr : Trace) (s : Step) → Allowed tr s (reply tr s)
reply_allowed tr s = allowed_by tr s (must_refuse tr s) refl

-- ** failures, and restarts that find another number of rows

abbrev pub none_forced : Option Refusal → Bool
none_forced None = true
none_forced (Some n) = false

abbrev pub is_heuristic : Option (Call × Answer) → Bool
is_heuristic (Some (c, Ret (Codes.Heuristic how))) = true
is_heuristic _ = false

abbrev pub may_fail : Trace → Step → Bool
may_fail tr (Steps.Decide g Outcome.Commit) = was_told tr (says_yes_in g)
may_fail tr (Steps.Settle g) = was_told tr (says_yes_in g)
may_fail tr (Steps.Hear t r) = is_heuristic (next_answer tr (line t r))
may_fail tr (Steps.Done g) = true
may_fail tr (Steps.Resolve r) = true
may_fail tr (Steps.ResolveOpen r) = true
may_fail tr (Steps.Restart Side.Manager) = true
may_fail tr _ = false

-- a Take may lack memory, as one of the steps that may
abbrev pub may_lack : Step → Bool
may_lack (Steps.Take t r) = true
may_lack _ = false

abbrev pub finds : Trace → (i d h : ℕ) → Bool
finds tr i d h =
    (nat_lt (incarnation tr) i && nat_le i (incarnation tr + 1 + failed_restarts tr))
    && ((d == length (log (Then tr (Restarted i d h)))) && (h == length (heuristic_rows (Then tr (Restarted i d h)))))

-- whether the reply is one of those that the history leaves open
abbrev pub is_open_reply : Trace → Step → Reply → Bool
is_open_reply tr s (Replies.Refused Refusal.LogFault) = none_forced (must_refuse tr s) && may_fail tr s
is_open_reply tr s (Replies.Refused Refusal.Memory) = none_forced (must_refuse tr s) && may_lack s
is_open_reply tr (Steps.Restart Side.Manager) (Replies.Restarted i d h) = none_forced (must_refuse tr (Steps.Restart Side.Manager)) && finds tr i d h
is_open_reply tr _ _ = false

not_forced : (o : Option Refusal) → none_forced o ≡ true → o ≡ None
not_forced None e = refl
not_forced (Some n) e = absurd (cc)

heuristic_next : (tr : Trace) (l : Line) (o : Option (Call × Answer)) → next_answer tr l ≡ o → is_heuristic o ≡ true
    → (c : Call) × (how : How) × (next_answer tr l ≡ Some (c, Ret (Codes.Heuristic how)))
heuristic_next tr l (Some (c, Ret (Codes.Heuristic how))) q e = (c, how, q)
heuristic_next tr l _ q e = absurd (cc)

uses_log : (tr : Trace) (s : Step) → may_fail tr s ≡ true → NeedsLog tr s
uses_log tr (Steps.Decide g Outcome.Commit) e = e
uses_log tr (Steps.Settle g) e = e
uses_log tr (Steps.Hear t r) e = heuristic_next tr (line t r) (next_answer tr (line t r)) refl e
uses_log tr (Steps.Done g) e = tt
uses_log tr (Steps.Resolve r) e = tt
uses_log tr (Steps.ResolveOpen r) e = tt
uses_log tr (Steps.Restart Side.Manager) e = tt
uses_log tr _ e = absurd (cc)

lacks_memory : (tr : Trace) (s : Step) → may_lack s ≡ true → MayLackMemory tr s
lacks_memory tr (Steps.Take t r) e = tt
lacks_memory tr _ e = absurd (cc)

found : (tr : Trace) (i d h : ℕ) → finds tr i d h ≡ true → Restarts tr (Replies.Restarted i d h)
found tr i d h e =
    let p = and_parts _ _ e in
    let q = and_parts _ _ p.1 in
    let n = and_parts _ _ p.0 in
    Restarts_as i d h (ltb-true (incarnation tr) i n.0) (leb-true i (incarnation tr + 1 + failed_restarts tr) n.1) (eqb-true _ _ q.0) (eqb-true _ _ q.1)

open_allowed : (tr : Trace) (s : Step) (r : Reply) → is_open_reply tr s r ≡ true → Allowed tr s r
open_allowed tr s (Replies.Refused Refusal.LogFault) e = let p = and_parts _ _ e in For_log (not_forced _ p.0) (uses_log tr s p.1) refl
open_allowed tr s (Replies.Refused Refusal.Memory) e = let p = and_parts _ _ e in For_memory (not_forced _ p.0) (lacks_memory tr s p.1) refl
open_allowed tr (Steps.Restart Side.Manager) (Replies.Restarted i d h) e = let p = and_parts _ _ e in As_value (not_forced _ p.0) (found tr i d h p.1)
open_allowed tr _ _ e = absurd (cc)

-- ** histories

-- the reply itself where it is open, else the computed one
abbrev pub checked : Trace → Step → Reply → Reply
checked tr s r = if is_open_reply tr s r then r else reply tr s

checked_allowed : (tr : Trace) (s : Step) (r : Reply) → Allowed tr s (checked tr s r)
checked_allowed tr s r = by_test (is_open_reply tr s r) refl
  where
    by_test : (t : Bool) → is_open_reply tr s r ≡ t → Allowed tr s (if t then r else reply tr s)
    by_test true q = open_allowed tr s r q
    by_test false q = reply_allowed tr s

-- the same steps with the replies that are computed for them
abbrev pub replayed : Trace → List (Step × Reply) → List (Step × Reply)
replayed tr [] = []
replayed tr (x ∷ xs) = (x.0, checked tr x.0 x.1) ∷ replayed (Then tr (happened x.0 x.1)) xs

first_same : (x y : Step × Reply) (xs ys : List (Step × Reply)) → x ∷ xs ≡ y ∷ ys → x.1 ≡ y.1
first_same x y xs ys q = let p : x ≡ y = cc in ap (λ (z : Step × Reply). z.1) p

rest_same : (x y : Step × Reply) (xs ys : List (Step × Reply)) → x ∷ xs ≡ y ∷ ys → xs ≡ ys
rest_same x y xs ys q = cc

-- a history that is replayed the same is one of demanded replies
pub computed : (tr : Trace) (xs : List (Step × Reply)) → replayed tr xs ≡ xs → AllAllowed tr xs
computed tr [] q = tt
computed tr (x ∷ xs) q = (
  subst (Allowed tr x.0) (first_same (x.0, checked tr x.0 x.1) x _ xs q) (checked_allowed tr x.0 x.1),
  computed (Then tr (happened x.0 x.1)) xs (rest_same (x.0, checked tr x.0 x.1) x _ xs q),
)
