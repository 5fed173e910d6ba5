use Rattle.std.proofs.Common.{◌∙◌, ap, refl}
use Rattle.xa_server.specs.Replies.{response_of}
use Rattle.xa_requests.specs.declared.response.Response.TheVariants as responses
use Rattle.xa_server.proofs.server.Server.issue.Goals as goal

pub returns-clause-performs : goal.returns-clause-performs
returns-clause-performs g c =
    let call = c.issue-issued in
    record {
      result = call.result;
      does = call.ensures.issues;
      told = c.reply_of.ensures ∙ ap (λ k. response_of (λ _. responses.Issued k) call.result) c.copy.ensures;
      rest = refl;
    }
