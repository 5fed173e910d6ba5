-- Answers that a session hears.
use Rattle.std.proofs.Common.{◌≡◌, ◌⊎◌, inl, ℕ, false, sym, subst}
use Rattle.std.specs.Prelude.{MatchBool}
use Rattle.xa_base.specs.Answer.{answer_number}
use Rattle.xa_base.specs.Xid.{Xid}
use Rattle.xa_base.specs.declared.answer.Answer.{Answer}
use Rattle.xa_server.specs.Calls.{PerformsAnswer, answer_reply, waits_for_other}
use Rattle.xa_session.specs.Steps.{Hears}
use Rattle.xa_server.specs.Standing.{LacksMemory, OnlyTells, StandsFor}
use Rattle.xa_server.specs.declared.server.Server.{Server}
use Rattle.xa_requests.specs.declared.request.CallName.{CallName}
use Rattle.xa_requests.specs.declared.response.RequestFault.TheVariants as faults
use Rattle.xa_requests.specs.declared.response.Response.{Response}
use Rattle.xa_requests.specs.declared.response.Response.TheVariants as responses

-- an answer to the call that waits first, or to none, stands for the session's answer
pub hears_it : {L : Type 0} (t r : ℕ) (name : CallName) (answer : Answer Xid) (old new : Server L) (reply : Response)
    → waits_for_other old.session.lines t r name ≡ false
    → StandsFor (Hears t r answer) (answer_reply (responses.Heard name.kind (answer_number answer))) old reply new
    → PerformsAnswer t r name answer old reply new
hears_it t r name answer old new reply same stands =
    subst (λ b. MatchBool b (OnlyTells (responses.Fault faults.OtherCall) old reply new)
    (StandsFor (Hears t r answer) (answer_reply (responses.Heard name.kind (answer_number answer))) old reply new ⊎ LacksMemory old reply new)) (sym same)
    (inl stands)
