-- What isn't done changes nothing.
use Rattle.std.proofs.Common.{◌≡◌, ◌≢◌, ◌∙◌, ◌⊎◌, inl, inr, ℕ, Bool, true, false, Option, Some, None, refl, sym, ap, subst}
use Rattle.std.specs.Prelude.{MatchBool, Result, Ok, Err, IfErr, OnErr}
use Rattle.std.proofs.lemmas.Bool.{true≢false}
use Rattle.xa_base.specs.Answer.{answer_number}
use Rattle.xa_base.specs.Xid.{Xid}
use Rattle.xa_base.specs.declared.answer.Answer.{Answer}
use Rattle.xa_base.specs.declared.refusal.Refusal.{Refusal}
use Rattle.xa_base.specs.declared.refusal.Refusal.TheVariants as Refusals
use Rattle.xa_log.proofs.Parts.{on_err}
use Rattle.xa_server.specs.Calls.{PerformsAnswer, answer_reply, waits_for_other}
use Rattle.xa_session.specs.Steps.{Hears, Loses}
use Rattle.xa_server.specs.Performing.{ChangesNothing, Does, is_not_done, is_one_step}
use Rattle.xa_server.specs.Replies.{response_of}
use Rattle.xa_server.specs.Standing.{LacksMemory, OnlyTells, StandsFor}
use Rattle.xa_server.specs.declared.server.Server.{Server}
use Rattle.xa_requests.specs.declared.request.CallName.{CallName}
use Rattle.xa_requests.specs.declared.request.Request.{Request}
use Rattle.xa_requests.specs.declared.request.Request.TheVariants as requests
use Rattle.xa_requests.specs.declared.response.Response.{Response}
use Rattle.xa_requests.specs.declared.response.Response.TheVariants as responses
use Rattle.xa_requests.specs.declared.response.RequestFault.TheVariants as faults
use Rattle.xa_session.specs.Following.{StaysAs}
use Rattle.xa_session.specs.Session.{line_refusal}
use Rattle.xa_session.specs.declared.session.Session.{Session}
use Rattle.xa_session.specs.declared.session.answers.Unfit.{Unfit}
use Rattle.xa_session.specs.declared.session.answers.Unfit.TheVariants as Unfits
use Rattle.xa_session.proofs.Sessions.{stays_same as stays_itself}

pub stays_same : {L : Type 0} (old new : Session L) → new ≡ old → StaysAs old new
stays_same old new is = subst (λ s. StaysAs old s) (sym is) (stays_itself old)

same : {L : Type 0} (old new : Server L) → new ≡ old → ChangesNothing old new
same old new is = stays_same old.session new.session (ap (λ c. c.session) is)

no_log_fault : (n : Refusal) → is_not_done (responses.Refused n) ≡ true → n ≢ Refusals.LogFault
no_log_fault n undone is = true≢false (sym undone ∙ ap (λ m. is_not_done (responses.Refused m)) is)

module _ {L : Type 0} (old new : Server L) (reply : Response) where
  -- a step that is refused
  by_result : {A : Type 0} (taken : A → Response) (r : Result A Refusal) → ((x : A) → is_not_done (taken x) ≡ false)
      → IfErr r (λ n. n ≢ Refusals.LogFault → StaysAs old.session new.session) → reply ≡ response_of taken r
      → is_not_done reply ≡ true → ChangesNothing old new
  by_result taken (Ok x) done stays told undone = absurd (true≢false (sym undone ∙ ap is_not_done told ∙ done x))
  by_result taken (Err n) done stays told undone = stays (no_log_fault n (ap is_not_done (sym told) ∙ undone))

  -- an answer that isn't heard
  by_answer : (taken : Response) (r : Result (Unit {0}) Unfit) → is_not_done taken ≡ false
      → IfErr r (λ u. u ≢ Unfits.Refused Refusals.LogFault → StaysAs old.session new.session) → reply ≡ answer_reply taken r
      → is_not_done reply ≡ true → ChangesNothing old new
  by_answer taken (Ok x) done stays told undone = absurd (true≢false (sym undone ∙ ap is_not_done told ∙ done))
  by_answer taken (Err u) done stays told undone = stays (other u (ap is_not_done (sym told) ∙ undone))
    where
      other : (u : Unfit) → is_not_done (answer_reply taken (Err u)) ≡ true → u ≢ Unfits.Refused Refusals.LogFault
      other u undone is = true≢false (sym undone ∙ ap (λ v. is_not_done (answer_reply taken (Err v))) is)

-- where it stays on any refusal, it does so on one that isn't of the log
pub stays_unless : {A : Type 0} (r : Result A Refusal) (P : Type 0) → OnErr r P → IfErr r (λ n. n ≢ Refusals.LogFault → P)
stays_unless (Ok x) P h = tt
stays_unless (Err n) P h = λ other. h

of_memory : (p : Result (Unit {0}) Refusal) (P : Type 0) → IfErr p (λ n. (n ≡ Refusals.Memory) × P) → OnErr p P
of_memory (Ok x) P h = tt
of_memory (Err n) P h = h.1

-- a line that isn't lost
pub line_stays : {L : Type 0} (t r : ℕ) (old new : Session L) (q : Result (Unit {0}) Refusal) → Loses t r old new q → OnErr q (StaysAs old new)
line_stays t r old new q loses = by_rule (line_refusal old t r) refl
  where
    by_rule : (why : Option Refusal) → line_refusal old t r ≡ why → OnErr q (StaysAs old new)
    by_rule None is = of_memory q _ (loses.memory is)
    by_rule (Some n) is = on_err q _ (stays_same old new (loses.rules.refused n is).1)

module _ {L : Type 0} (old new : Server L) (reply : Response) (undone : is_not_done reply ≡ true) where
  answered : (t r : ℕ) (name : CallName) (answer : Answer Xid) → PerformsAnswer t r name answer old reply new → ChangesNothing old new
  answered t r name answer performs = by_first (waits_for_other old.session.lines t r name) performs
    where
      by_first : (b : Bool) → MatchBool b (OnlyTells (responses.Fault faults.OtherCall) old reply new)
          (StandsFor (Hears t r answer) (answer_reply (responses.Heard name.kind (answer_number answer))) old reply new ⊎ LacksMemory old reply new)
          → ChangesNothing old new
      by_first true h = same old new h.1
      by_first false (inl h) = by_answer old new reply (responses.Heard name.kind (answer_number answer)) h.result refl h.does.stays h.told undone
      by_first false (inr h) = same old new h.1

  pub not_done : (q : Request) → Does q old reply new → is_one_step q ≡ true → ChangesNothing old new
  not_done (requests.Begin t) h one = by_result old new reply responses.Begun h.result (λ x. refl) (stays_unless h.result _ h.does.quiet.stays) h.told undone
  not_done (requests.Issue t r call) h one =
      by_result old new reply (λ _. responses.Issued call) h.result (λ x. refl) (stays_unless h.result _ h.does.stays) h.told undone
  not_done (requests.Answer t r name answer) h one = answered t r name answer h
  not_done (requests.Decide gs o) h one = by_result old new reply (λ _. responses.Decided) h.result (λ x. refl) h.does.asks.stays h.told undone
  not_done (requests.Claim g) h one =
      by_result old new reply (λ _. responses.Claimed) h.result (λ x. refl) (stays_unless h.result _ h.does.quiet.stays) h.told undone
  not_done (requests.Settle g) h one = by_result old new reply (λ _. responses.Decided) h.result (λ x. refl) h.does.asks.stays h.told undone
  not_done (requests.Abandon g) h one =
      by_result old new reply (λ _. responses.Decided) h.result (λ x. refl) (stays_unless h.result _ h.does.quiet.stays) h.told undone
  not_done (requests.Done gs) h one = by_result old new reply (λ _. responses.Noted) h.result (λ x. refl) h.does.asks.stays h.told undone
  not_done (requests.Resolve r) h one = by_result old new reply responses.Resolved h.result (λ x. refl) (stays_unless h.result _ h.does.stays) h.told undone
  not_done (requests.ResolveOpen r) h one = by_result old new reply responses.Resolved h.result (λ x. refl) (stays_unless h.result _ h.does.stays) h.told undone
  not_done (requests.Waiting t r) h one = same old new h.1
  not_done (requests.Owed r) h one = same old new h.1
  not_done (requests.CrashLine t r) h one =
      by_result old new reply (λ _. responses.Crashed) h.result (λ x. refl) (stays_unless h.result _ (line_stays t r old.session new.session h.result h.does))
      h.told undone
  not_done (requests.CrashRm r) h one = absurd (true≢false (sym one))
  not_done requests.Status h one = same old new h.1
  not_done requests.Quit h one = same old new h.1
