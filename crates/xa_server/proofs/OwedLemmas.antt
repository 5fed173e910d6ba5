-- What is owed.
use Rattle.std.proofs.Common.{◌≡◌, ◌⊎◌, inl, inr, ◌∙◌, ℕ, ◌+◌, zero, suc, Bool, true, false, ◌&&◌, List, [], ◌∷◌, Option, Some, None, IsSome, IsSomeAnd, refl, sym, ap, subst}
use Rattle.std.specs.Prelude.{MatchBool, Result, Ok, Err, OnErr, OnOk, nat_eq, nat_lt, unwrap_or}
use Rattle.std.proofs.lemmas.Bool.{lt-ltb}
use Rattle.xa_base.specs.Answer.{answer_number}
use Rattle.xa_base.specs.Branch.{branch_cmp}
use Rattle.xa_base.specs.Xid.{Xid}
use Rattle.xa_base.specs.declared.answer.Answer.{Answer}
use Rattle.xa_base.specs.declared.branch.Branch.{Branch}
use Rattle.xa_base.specs.declared.branch.Gtrid.{Gtrid}
use Rattle.xa_base.specs.declared.refusal.Refusal.{Refusal}
use Rattle.xa_log.specs.Content.{Content, with_bump}
use Rattle.xa_log.specs.Contract.{Makes}
use Rattle.xa_log.specs.KeySet.{contains, contains-empty}
use Rattle.xa_log.specs.KeySet.{empty as nobody}
use Rattle.xa_requests.specs.declared.request.CallName.{CallName}
use Rattle.xa_requests.specs.declared.request.Request.{Request}
use Rattle.xa_requests.specs.declared.request.Request.TheVariants as requests
use Rattle.xa_requests.specs.declared.response.RequestFault.TheVariants as faults
use Rattle.xa_requests.specs.declared.response.Response.{Response}
use Rattle.xa_requests.specs.declared.response.Response.TheVariants as responses
use Rattle.xa_server.proofs.OwedSteps.{OwesTheSame, abandoned_owes, begun_owes, claimed_owes, ended_owes, finished_owes, forgotten_owes, heard_owes, issued_owes, lost_owes, open_resolved_owes, resolved_owes, same_owes, settled_owes, unfinished_owes}
use Rattle.xa_server.specs.Calls.{answer_reply, waits_for_other}
use Rattle.xa_server.specs.Crashes.{LosesFrom}
use Rattle.xa_server.specs.Performing.{Does}
use Rattle.xa_server.specs.Releasing.{ReleasesAll, ended_by}
use Rattle.xa_server.specs.Replies.{greeting_over, response_of}
use Rattle.xa_server.specs.Rows.{OwesAllBut, OwesRowsOf, finished_by}
use Rattle.xa_server.specs.Standing.{LacksMemory, OnlyTells, StandsFor}
use Rattle.xa_server.specs.declared.server.Server.{Server}
use Rattle.xa_session.specs.Steps.{Hears}
use Rattle.xa_tm.specs.Book.{Book, Waiting}
use Rattle.xa_tm.specs.Calls.{book_in}
use Rattle.xa_tm.specs.Owed.{waits_for}
use Rattle.xa_tm.specs.Starting.{IsOld, book_at_start}

-- ** each request

module _ {L : Type 0} where
  lines_owe : (rm t left : ℕ) (reply : Response) (old new : Server L) → LosesFrom rm t left old reply new → OwesTheSame old.session new.session
  lines_owe rm t zero reply old new only = same_owes old.session new.session (ap (λ c. c.session) only.1)
  lines_owe rm t (suc left) reply old new (next, Ok x, loses, more) = λ q b.
      lines_owe rm (t + 1) left reply next new more q b ∙ lost_owes old.session next.session t rm (Ok x) loses.does q b
  lines_owe rm t (suc left) reply old new (next, Err n, loses, more) = λ q b.
      same_owes next.session new.session (ap (λ c. c.session) more.1) q b ∙ lost_owes old.session next.session t rm (Err n) loses.does q b

  releases_owe : (gs : List Gtrid) (mid new : Server L) → ReleasesAll gs mid new → OwesTheSame mid.session new.session
  releases_owe [] mid new same = same_owes mid.session new.session (ap (λ c. c.session) same)
  releases_owe (g ∷ gs) mid new (next, inl (forgets, rest), more) = λ rm b.
      releases_owe gs next new more rm b ∙ forgotten_owes mid.session next.session g forgets rm b
  releases_owe (g ∷ gs) mid new (next, inr (open_still, same), more) = λ rm b.
      releases_owe gs next new more rm b ∙ same_owes mid.session next.session (ap (λ c. c.session) same) rm b

  module _ (old new : Server L) (reply : Response) where
    done_tells : (gs : List Gtrid) (r : Result (Unit {0}) Refusal) → reply ≡ response_of (λ _. responses.Noted) r
        → OnOk r (OwesAllBut gs (book_in old.session.manager) (book_in new.session.manager)) → OnErr r (OwesTheSame old.session new.session)
        → OwesAllBut (finished_by (requests.Done gs) reply) (book_in old.session.manager) (book_in new.session.manager)
    done_tells gs (Ok x) told ok err =
        subst (λ r. OwesAllBut (finished_by (requests.Done gs) r) (book_in old.session.manager) (book_in new.session.manager)) (sym told) ok
    done_tells gs (Err n) told ok err =
        subst (λ r. OwesAllBut (finished_by (requests.Done gs) r) (book_in old.session.manager) (book_in new.session.manager)) (sym told) err

    looked_owes : new ≡ old → OwesTheSame old.session new.session
    looked_owes same = same_owes old.session new.session (ap (λ c. c.session) same)

    answer_owes : (t r : ℕ) (name : CallName) (answer : Answer Xid) (other : Bool)
        → MatchBool other (OnlyTells (responses.Fault faults.OtherCall) old reply new)
        (StandsFor (Hears t r answer) (answer_reply (responses.Heard name.kind (answer_number answer))) old reply new ⊎ LacksMemory old reply new)
        → OwesTheSame old.session new.session
    answer_owes t r name answer true h = looked_owes h.1
    answer_owes t r name answer false (inl h) = heard_owes old.session new.session t r answer h.result h.does
    answer_owes t r name answer false (inr h) = looked_owes h.1

    does_owe : (request : Request) → Does request old reply new
        → OwesAllBut (finished_by request reply) (book_in old.session.manager) (book_in new.session.manager)
    does_owe (requests.Begin t) h = begun_owes old.session new.session t h.result h.does
    does_owe (requests.Issue t r call) h = issued_owes old.session new.session t r call h.result h.does
    does_owe (requests.Answer t r name answer) h = answer_owes t r name answer (waits_for_other old.session.lines t r name) h
    does_owe (requests.Decide gs o) h = ended_owes old.session new.session gs o h.result h.does
    does_owe (requests.Claim g) h = claimed_owes old.session new.session g h.result h.does
    does_owe (requests.Settle g) h = settled_owes old.session new.session g h.result h.does
    does_owe (requests.Abandon g) h = abandoned_owes old.session new.session g h.result h.does
    does_owe (requests.Done gs) h =
        done_tells gs h.result h.told (finished_owes old.session new.session gs h.result h.does) (unfinished_owes old.session new.session gs h.result h.does)
    does_owe (requests.Resolve r) h = resolved_owes old.session new.session r h.result h.does
    does_owe (requests.ResolveOpen r) h = open_resolved_owes old.session new.session r h.result h.does
    does_owe (requests.Waiting t r) h = looked_owes h.1
    does_owe (requests.Owed r) h = looked_owes h.1
    does_owe (requests.CrashLine t r) h = lost_owes old.session new.session t r h.result h.does
    does_owe (requests.CrashRm r) h = lines_owe r 0 old.session.lines.threads reply old new h
    does_owe requests.Status h = looked_owes h.1
    does_owe requests.Quit h = looked_owes h.1

  -- and what is then forgotten changes nothing of it
  pub request_owes : (request : Request) (reply : Response) (old mid new : Server L) → Does request old reply mid → ReleasesAll (ended_by request reply) mid new
      → OwesAllBut (finished_by request reply) (book_in old.session.manager) (book_in new.session.manager)
  request_owes request reply old mid new does releases = λ rm b.
      releases_owe (ended_by request reply) mid new releases rm b ∙ does_owe old mid reply request does rm b

-- ** at the start

in_rows : (row : Option Waiting) (b : Branch) (early : Bool) → (IsSome row → early ≡ true)
    → (early && waits_for row b) ≡ contains (unwrap_or row nobody) b
in_rows None b true old = sym (contains-empty branch_cmp b)
in_rows None b false old = sym (contains-empty branch_cmp b)
in_rows (Some set) b early old = ap (λ t. t && contains set b) (old refl)

started_owes : (k : Book) (threads rms : ℕ) (c : Content) → k ≡ book_at_start threads rms (with_bump c) → IsOld k → OwesRowsOf k c
started_owes k threads rms c is old = λ rm b.
    ap (λ t. nat_eq b.rm rm && t)
    (in_rows (k.row b.gtrid) b (nat_lt b.gtrid.incarnation k.incarnation) (λ some. lt-ltb b.gtrid.incarnation k.incarnation (old.rows b.gtrid some))
    ∙ ap (λ (l : Book). contains (unwrap_or (l.row b.gtrid) nobody) b) is)

raised : (k : Book) (threads rms : ℕ) (c : Content) (new : Option Content) → new ≡ Some (with_bump c)
    → IsSomeAnd new (λ d. k ≡ book_at_start threads rms d) → k ≡ book_at_start threads rms (with_bump c)
raised k threads rms c new made is = subst (λ o. IsSomeAnd o (λ d. k ≡ book_at_start threads rms d)) made is

pub starts_owing : (k : Book) (threads rms : ℕ) (handed new : Option Content) → Makes with_bump handed new
    → IsSomeAnd new (λ d. k ≡ book_at_start threads rms d) → IsOld k → IsSomeAnd handed (OwesRowsOf k)
starts_owing k threads rms None new made is old = absurd made
starts_owing k threads rms (Some c) new made is old = started_owes k threads rms c (raised k threads rms c new made is) old

pub starts_greeting : (k : Book) (threads rms : ℕ) (handed new : Option Content) → Makes with_bump handed new
    → IsSomeAnd new (λ d. k ≡ book_at_start threads rms d)
    → IsSomeAnd handed (λ c. responses.Restarted k.incarnation k.rows k.records ≡ greeting_over c)
starts_greeting k threads rms None new made is = absurd made
starts_greeting k threads rms (Some c) new made is =
    ap (λ (l : Book). responses.Restarted l.incarnation l.rows l.records) (raised k threads rms c new made is)
