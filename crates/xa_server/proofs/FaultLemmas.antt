-- What is left where the log failed.
use Rattle.std.proofs.Common.{◌≡◌, ◌∙◌, inl, inr, Bool, true, [], ◌∷◌, Option, Some, None, refl, ap, subst}
use Rattle.std.specs.Prelude.{if◌then◌else◌, Result, Ok, Err, IfErr}
use Rattle.xa_base.specs.declared.refusal.Refusal.{Refusal}
use Rattle.xa_base.specs.declared.refusal.Refusal.TheVariants.{LogFault}
use Rattle.xa_base.specs.declared.step.Step.TheVariants as Steps
use Rattle.xa_server.specs.Faults.{FaultsLeaveAllOrNone}
use Rattle.xa_server.specs.Replies.{response_of}
use Rattle.xa_server.specs.declared.server.Server.{Server}
use Rattle.xa_log.specs.Content.{Content}
use Rattle.xa_log.specs.Contract.{Moment}
use Rattle.xa_model.specs.Trace.{Fault, Fault.InDecide, Fault.InDone, Happening.Failed}
use Rattle.xa_requests.specs.declared.request.Request.TheVariants as requests
use Rattle.xa_requests.specs.declared.response.Response.{Response}
use Rattle.xa_requests.specs.declared.response.Response.TheVariants as responses
use Rattle.xa_session.proofs.LogStarts.{left_tied, logs_have_all_or_none}
use Rattle.xa_session.proofs.Logging.{memory_is_no_fault}
use Rattle.xa_session.specs.Logging.{HasAllOrNone, HoldsItsBook, LeavesContent}
use Rattle.xa_session.specs.Session.{decide_all_refusal, done_all_refusal, refusal_at}
use Rattle.xa_tm.proofs.Log.Ties.{up_content}
use Rattle.xa_tm.specs.Book.{Book, Doubt, Doubt.Adds, Doubt.Drops, book_after, rows_for}
use Rattle.xa_tm.specs.BookAndLog.{IsTied}
use Rattle.xa_tm.specs.Calls.{FailsBy, book_in, written_by}
use Rattle.xa_tm.specs.InTurn.{rows_added}

pub fault_is_told : (n : Refusal) → (let r : Response = responses.Refused LogFault in r) ≡ responses.Refused n → n ≡ LogFault
fault_is_told n e = cc

module _ {L : Type 0} (moment : L → Moment) (near : Bool) (old mid new : Server L) (c : Content) (asked : Doubt) (f : Fault) where
  -- the book of the old session, and of the new one
  abbrev k : Book
  k = book_in old.session.manager

  abbrev l : Book
  l = book_in new.session.manager

  as_before : HoldsItsBook moment near new.session.manager → LeavesContent moment new.session.manager c → k.up ≡ true → l ≡ k → HasAllOrNone asked k.row c
  as_before holds leaves up same =
      let tied : IsTied near k (Some c) = subst (λ b. IsTied near b (Some c)) same (left_tied moment near new.session.manager c holds leaves) in
      inl (up_content near k (Some c) up tied).holds.rows

  in_doubt : HoldsItsBook moment near new.session.manager → LeavesContent moment new.session.manager c → k.up ≡ true → l ≡ book_after k asked (Failed f)
      → HasAllOrNone asked k.row c
  in_doubt holds leaves up failed =
      subst (λ d. HasAllOrNone d k.row c) (ap (λ (u : Bool). if u then asked else k.doubt) up)
      (subst (λ (b : Book). HasAllOrNone b.doubt b.row c) failed (logs_have_all_or_none moment near new.session.manager c holds leaves))

  pub fault_leaves : (why : Option Refusal) (taken : Response) (r : Result (Unit {0}) Refusal)
      → ((let told : Response = responses.Refused LogFault in told) ≡ taken → ⊥)
      → (let told : Response = responses.Refused LogFault in told) ≡ response_of (λ _. taken) r
      → ((n : Refusal) → why ≡ Some n → (r ≡ Err n) × (mid.session ≡ old.session))
      → (why ≡ None → IfErr r (FailsBy asked f k (book_in mid.session.manager)))
      → new ≡ mid → k.up ≡ true → HoldsItsBook moment near new.session.manager → LeavesContent moment new.session.manager c → HasAllOrNone asked k.row c
  fault_leaves why taken (Ok x) other told refused fails same up holds leaves = absurd (other told)
  fault_leaves why taken (Err n) other told refused fails same up holds leaves = by why refl
    where
      is : n ≡ LogFault
      is = fault_is_told n told

      failing : FailsBy asked f k (book_in mid.session.manager) n → HasAllOrNone asked k.row c
      failing (inl memory) = absurd (memory_is_no_fault n memory.0 is)
      failing (inr failed) = in_doubt holds leaves up (ap (λ (a : Server L). book_in a.session.manager) same ∙ failed.1)

      by : (o : Option Refusal) → why ≡ o → HasAllOrNone asked k.row c
      by None none = failing (fails none)
      by (Some m) some =
          as_before holds leaves up (ap (λ (a : Server L). book_in a.session.manager) same ∙ ap (λ s. book_in s.manager) (refused m some).1)

pub decided_is_no_refusal : (let r : Response = responses.Refused LogFault in r) ≡ responses.Decided → ⊥
decided_is_no_refusal e = cc

pub noted_is_no_refusal : (let r : Response = responses.Refused LogFault in r) ≡ responses.Noted → ⊥
noted_is_no_refusal e = cc

pub faults_leave_all_or_none : {L : Type 0} (moment : L → Moment) → FaultsLeaveAllOrNone moment
faults_leave_all_or_none moment near (requests.Decide gs o) old new c asks did order honest up holds leaves =
    let m = old.session in
    let kept = did.keeps.holds near order honest holds in
    fault_leaves moment near old did.mid new c (rows_added o (book_in m.manager) gs) (InDecide (written_by o (book_in m.manager) gs))
    (decide_all_refusal m o gs)
    responses.Decided did.does.result decided_is_no_refusal did.does.told did.does.does.rules.refused did.does.does.asks.fails did.releases up kept leaves
faults_leave_all_or_none moment near (requests.Settle g) old new c asks did order honest up holds leaves =
    let m = old.session in
    let kept = did.keeps.holds near order honest holds in
    fault_leaves moment near old did.mid new c (Adds (rows_for (book_in m.manager) (g ∷ []))) (InDecide (g ∷ [])) (refusal_at m (Steps.Settle g))
    responses.Decided did.does.result decided_is_no_refusal did.does.told did.does.does.rules.refused did.does.does.asks.fails did.releases up kept leaves
faults_leave_all_or_none moment near (requests.Done gs) old new c asks did order honest up holds leaves =
    let m = old.session in
    let kept = did.keeps.holds near order honest holds in
    fault_leaves moment near old did.mid new c (Drops gs) (InDone gs) (done_all_refusal m gs)
    responses.Noted did.does.result noted_is_no_refusal did.does.told did.does.does.rules.refused did.does.does.asks.fails did.releases up kept leaves
faults_leave_all_or_none moment near (requests.Begin t) old new c asks did order honest up holds leaves = absurd asks
faults_leave_all_or_none moment near (requests.Issue t r call) old new c asks did order honest up holds leaves = absurd asks
faults_leave_all_or_none moment near (requests.Answer t r name answer) old new c asks did order honest up holds leaves = absurd asks
faults_leave_all_or_none moment near (requests.Claim g) old new c asks did order honest up holds leaves = absurd asks
faults_leave_all_or_none moment near (requests.Abandon g) old new c asks did order honest up holds leaves = absurd asks
faults_leave_all_or_none moment near (requests.Resolve r) old new c asks did order honest up holds leaves = absurd asks
faults_leave_all_or_none moment near (requests.ResolveOpen r) old new c asks did order honest up holds leaves = absurd asks
faults_leave_all_or_none moment near (requests.Waiting t r) old new c asks did order honest up holds leaves = absurd asks
faults_leave_all_or_none moment near (requests.Owed r) old new c asks did order honest up holds leaves = absurd asks
faults_leave_all_or_none moment near (requests.CrashLine t r) old new c asks did order honest up holds leaves = absurd asks
faults_leave_all_or_none moment near (requests.CrashRm r) old new c asks did order honest up holds leaves = absurd asks
faults_leave_all_or_none moment near requests.Status old new c asks did order honest up holds leaves = absurd asks
faults_leave_all_or_none moment near requests.Quit old new c asks did order honest up holds leaves = absurd asks
