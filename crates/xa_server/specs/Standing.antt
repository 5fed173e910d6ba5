-- Which call of the session a reply stands for.
use Rattle.std.specs.Prelude.{◌≡◌, Result}
use Rattle.xa_base.specs.declared.refusal.Refusal.TheVariants.{Memory}
use Rattle.xa_server.specs.declared.server.Server.{Server}
use Rattle.xa_requests.specs.declared.response.Response.{Response}
use Rattle.xa_requests.specs.declared.response.Response.TheVariants as responses
use Rattle.xa_session.specs.declared.session.Session.{Session}

module _ {L A E : Type 0} where
  -- The session did this, with some result, which the reply tells. Nothing else changed.
  pub record StandsFor (Does : (old new : Session L) → Result A E → Type 0) (reply_to : Result A E → Response)
      (old : Server L) (reply : Response) (new : Server L) : Type 0 where
    pub result : Result A E
    pub does : Does old.session new.session result
    pub told : reply ≡ reply_to result
    pub rest : new ≡ record old { session = new.session }

-- nothing changed, and the reply is this
abbrev pub OnlyTells : {L : Type 0} → Response → (old : Server L) → (reply : Response) → (new : Server L) → Type 0
OnlyTells told old reply new = (reply ≡ told) × (new ≡ old)

-- memory was refused, and nothing changed
abbrev pub LacksMemory : {L : Type 0} → (old : Server L) → (reply : Response) → (new : Server L) → Type 0
LacksMemory old reply new = OnlyTells (responses.Refused Memory) old reply new
