-- What a driver tells is of branches that have identifiers.
use Rattle.std.proofs.Common.{◌≡◌, ◌∙◌, inl, inr, ℕ, zero, suc, ◌+◌, Bool, true, false, List, [], ◌∷◌, map, Option, Some, None, IfSome, option_map, refl, sym, ap, subst}
use Rattle.std.proofs.lemmas.List.Elements.{All-get_or}
use Rattle.std.proofs.lemmas.Option.{get_or_from_slice_get, slice_get-map, slice_get_within}
use Rattle.std.specs.Prelude.{MatchBool, if◌then◌else◌, slice_get}
use Rattle.xa_base.proofs.BranchLemmas.{numbers_fit}
use Rattle.xa_base.specs.Answer.{map_answer}
use Rattle.xa_base.specs.Branch.{branch_of_xid}
use Rattle.xa_base.specs.Call.{xid_in}
use Rattle.xa_base.specs.StateTable.{Kind, asks_of, commit_kind, start_kind}
use Rattle.xa_base.specs.Xid.{IsXid, Xid}
use Rattle.xa_base.specs.declared.answer.Answer.{Answer}
use Rattle.xa_base.specs.declared.answer.Answer.TheVariants.{Page, Ret}
use Rattle.xa_base.specs.declared.branch.Gtrid.{Gtrid}
use Rattle.xa_base.specs.declared.call.Call.{Call}
use Rattle.xa_base.specs.declared.call.Call.TheVariants as Calls
use Rattle.xa_base.specs.declared.step.Outcome.{Outcome}
use Rattle.xa_line.specs.Histories.{known}
use Rattle.xa_model.proofs.ProcessLemmas.Leaving.{branch_fits}
use Rattle.xa_model.specs.Facts.{fits}
use Rattle.xa_model.specs.Facts.InDoubt.{name_by}
use Rattle.xa_model.specs.Replies.History.{name_of}
use Rattle.xa_model.specs.Replies.Steps.{ours_of}
use Rattle.xa_model.specs.Trace.{Branch, Call as KnownCall, Happening.Decided, Happening.Done, Kind.End, Kind.Forget, Kind.Prepare, Kind.Rollback, Name, Name.Ours, line}
use Rattle.xa_requests.proofs.Identifiers.{requests_have}
use Rattle.xa_requests.specs.Identifiers.{HasXids, ListsXids}
use Rattle.xa_requests.specs.Requests.{request_of}
use Rattle.xa_requests.specs.declared.request.Request.{Request}
use Rattle.xa_requests.specs.declared.request.Request.TheVariants as requests
use Rattle.xa_requests.specs.declared.response.Response.{Response}
use Rattle.xa_requests.specs.declared.response.Response.TheVariants as responses
use Rattle.xa_session.specs.Tracking.{did_all}
use Rattle.xa_monitor.specs.Named.{AreOnBranches, IsNamedCall, IsNamedPage}
use Rattle.xa_monitor.specs.Seen.{Seen, Seen.Lost}
use Rattle.xa_server.specs.Branches.{CallsAreOnBranches}
use Rattle.xa_server.specs.Lines.{asked_in}
use Rattle.xa_server.specs.Telling.{Tells, TellsBy, TellsLost, is_log_fault}

-- ** identifiers

name_read : (x : Xid) (o : Option Branch) (b : Branch) → name_by x o ≡ Ours b → o ≡ Some b
name_read x (Some c) b e = let same : c ≡ b = cc in ap Some same
name_read x None b e = absurd (cc)

own_fits : (x : Xid) (b : Branch) → IsXid x → name_of x ≡ Ours b → fits b ≡ true
own_fits x b is e = branch_fits b (numbers_fit x b is (name_read x (branch_of_xid x) b e))

-- ** calls

abbrev branch_or : Branch → Option (Kind × Branch) → Branch
branch_or b None = b
branch_or b (Some (k, c)) = c

call_on : (f : Branch → KnownCall) (k : Kind) (x : Xid) (c : KnownCall) → ((b : Branch) → asks_of (f b) ≡ Some (k, b)) → IsXid x
    → option_map f (ours_of (name_of x)) ≡ Some c → IsNamedCall c
call_on f k x c asks is e = by (name_of x) refl e
  where
    by : (name : Name) → name_of x ≡ name → option_map f (ours_of name) ≡ Some c → IsNamedCall c
    by (Ours b) own h = λ j d asked.
        let same : f b ≡ c = cc h in
        subst (λ (y : Branch). fits y ≡ true) (ap (branch_or b) (sym (asks b) ∙ (ap asks_of same ∙ asked))) (own_fits x b is own)
    by _ own h = absurd (cc h)

call_named : (call : Call Xid) (c : KnownCall) → IfSome (xid_in call) IsXid → known call ≡ Some c → IsNamedCall c
call_named Calls.OpenRm c is e = λ k b asked. let same : Calls.OpenRm ≡ c = cc e in absurd (cc (same, asked))
call_named Calls.CloseRm c is e = λ k b asked. let same : Calls.CloseRm ≡ c = cc e in absurd (cc (same, asked))
call_named (Calls.Start x join) c is e = call_on (λ b. Calls.Start b join) (start_kind join) x c (λ b. refl) is e
call_named (Calls.End x fail) c is e = call_on (λ b. Calls.End b fail) (End fail) x c (λ b. refl) is e
call_named (Calls.Prepare x) c is e = call_on Calls.Prepare Prepare x c (λ b. refl) is e
call_named (Calls.Commit x one_phase) c is e = call_on (λ b. Calls.Commit b one_phase) (commit_kind one_phase) x c (λ b. refl) is e
call_named (Calls.Rollback x) c is e = call_on Calls.Rollback Rollback x c (λ b. refl) is e
call_named (Calls.Forget x) c is e = call_on Calls.Forget Forget x c (λ b. refl) is e
call_named (Calls.Recover n s end) c is e = λ k b asked. let same : Calls.Recover n s end ≡ c = cc e in absurd (cc (same, asked))

-- ** pages

page_named : (answer : Answer Xid) → ListsXids answer → IsNamedPage (map_answer name_of answer)
page_named (Ret code) are = tt
page_named (Page xids) are = λ b at. by b at.0 (slice_get xids at.0) refl (sym (slice_get-map name_of xids at.0) ∙ at.1)
  where
    by : (b : Branch) (i : ℕ) (o : Option Xid) → slice_get xids i ≡ o → option_map name_of o ≡ Some (Ours b) → fits b ≡ true
    by b i None at h = absurd (cc h)
    by b i (Some x) at h =
        let own : name_of x ≡ Ours b = cc h in
        own_fits x b (subst IsXid (get_or_from_slice_get xids i x x at) (All-get_or IsXid xids i x (slice_get_within xids i x at) are)) own

-- ** one request

all_decided : (outcome : Outcome) (gs : List Gtrid) (seen : Seen) → AreOnBranches seen → AreOnBranches (did_all seen (map (λ g. Decided g outcome) gs))
all_decided outcome [] seen on = on
all_decided outcome (g ∷ gs) seen on = all_decided outcome gs _ (on, tt)

all_done : (gs : List Gtrid) (seen : Seen) → AreOnBranches seen → AreOnBranches (did_all seen (map (λ g. Done g) gs))
all_done [] seen on = on
all_done (g ∷ gs) seen on = all_done gs _ (on, tt)

all_lost : (rm thread left : ℕ) (reply : Response) (seen more : Seen) → TellsLost rm thread left reply seen more → AreOnBranches seen
    → AreOnBranches more
all_lost rm thread zero reply seen more told on = subst AreOnBranches (sym told) on
all_lost rm thread (suc left) reply seen more (inl told) on = subst AreOnBranches (sym told.1) on
all_lost rm thread (suc left) reply seen more (inr told) on = all_lost rm (thread + 1) left reply (Lost seen (line thread rm) told.0) more told.1 on

told_on : (n : ℕ) (request : Request) (reply : Response) (seen more : Seen) → HasXids request → Tells n request reply seen more → AreOnBranches seen
    → AreOnBranches more
told_on n (requests.Begin t) (responses.Begun g) seen more has told on = subst AreOnBranches (sym told) (on, tt)
told_on n (requests.Issue t r call) (responses.Issued said) seen more has told on =
    subst AreOnBranches (sym told.2) (on, call_named call told.0 has told.1)
told_on n (requests.Answer t r name answer) (responses.Heard kind number) seen more has told on =
    subst AreOnBranches (sym told.2) (on, page_named answer has.1)
told_on n (requests.Decide gs outcome) responses.Decided seen more has told on = subst AreOnBranches (sym told) (all_decided outcome gs seen on)
told_on n (requests.Claim g) responses.Claimed seen more has told on = subst AreOnBranches (sym told) (on, tt)
told_on n (requests.Settle g) responses.Decided seen more has told on = subst AreOnBranches (sym told) (on, tt)
told_on n (requests.Abandon g) responses.Decided seen more has told on = subst AreOnBranches (sym told) (on, tt)
told_on n (requests.Done gs) responses.Noted seen more has told on = subst AreOnBranches (sym told) (all_done gs seen on)
told_on n (requests.Resolve r) (responses.Resolved count) seen more has told on = subst AreOnBranches (sym told) (on, tt)
told_on n (requests.ResolveOpen r) (responses.Resolved count) seen more has told on = subst AreOnBranches (sym told) (on, tt)
told_on n (requests.CrashLine t r) responses.Crashed seen more has told on = subst AreOnBranches (sym told.1) on
told_on n (requests.CrashRm r) reply seen more has told on = all_lost r 0 n reply seen more told on
told_on n request reply seen more has told on = subst AreOnBranches (sym told) on

-- ** all lines

line_on : (n : ℕ) (o : Option Request) (reply : Response) (seen more : Seen) → ((request : Request) → o ≡ Some request → HasXids request)
    → TellsBy n o reply seen more → AreOnBranches seen → AreOnBranches more
line_on n None reply seen more have told on = subst AreOnBranches (sym told) on
line_on n (Some request) reply seen more have told on = told_on n request reply seen more (have request refl) told on

asked_have : (t : Bool) (o : Option Request) (request : Request) → (o ≡ Some request → HasXids request)
    → (if t then o else None) ≡ Some request → HasXids request
asked_have true o request have e = have e
asked_have false o request have e = absurd (cc)

match_bool : {P Q R : Type 0} (t : Bool) → MatchBool t P Q → (P → R) → (Q → R) → R
match_bool true is when_true when_false = when_true is
match_bool false is when_true when_false = when_false is

pub calls_on_branches : CallsAreOnBranches
calls_on_branches n [] [] seen more told on = subst AreOnBranches (sym told) on
calls_on_branches n (line ∷ lines) (reply ∷ replies) seen more told on =
    match_bool (is_log_fault reply) told
    (λ same. subst AreOnBranches (sym same) on)
    (λ both. calls_on_branches n lines replies both.0 more both.2 (line_on n (asked_in line) reply seen both.0
    (λ request asked. asked_have _ (request_of line) request (requests_have line request) asked) both.1 on))
calls_on_branches n [] (reply ∷ replies) seen more told on = absurd told
calls_on_branches n (line ∷ lines) [] seen more told on = absurd told
