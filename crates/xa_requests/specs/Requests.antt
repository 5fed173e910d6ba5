-- What each line of the driver asks for.
use Rattle.std.specs.Prelude.{ℕ, List, [], ◌∷◌, Option, None}
use Rattle.xa_files.specs.Fields.{◌>>=◌}
use Rattle.xa_requests.specs.Answers.{answer_request}
use Rattle.xa_requests.specs.Calls.{issue_request}
use Rattle.xa_requests.specs.Decisions.{abandon_request, begin_request, claim_request, decide_request, done_request, settle_request}
use Rattle.xa_requests.specs.Recoveries.{bare_request, crash_request, owed_request, resolve_open_request, resolve_request, waiting_request}
use Rattle.xa_requests.specs.Verbs.{verb_named}
use Rattle.xa_requests.specs.Words.{Word, words_of}
use Rattle.xa_requests.specs.declared.request.Request.{Request}
use Rattle.xa_requests.specs.declared.request.Request.TheVariants as requests
use Rattle.xa_requests.specs.declared.verbs.Verb.{Verb}
use Rattle.xa_requests.specs.declared.verbs.Verb.TheVariants as verbs

-- a request of a kind, by the words after the first
abbrev pub request_with : Verb → List Word → Option Request
request_with verbs.Begin words = begin_request words
request_with verbs.Issue words = issue_request words
request_with verbs.Answer words = answer_request words
request_with verbs.Decide words = decide_request words
request_with verbs.Claim words = claim_request words
request_with verbs.Settle words = settle_request words
request_with verbs.Abandon words = abandon_request words
request_with verbs.Done words = done_request words
request_with verbs.Resolve words = resolve_request words
request_with verbs.ResolveOpen words = resolve_open_request words
request_with verbs.Waiting words = waiting_request words
request_with verbs.Owed words = owed_request words
request_with verbs.Crash words = crash_request words
request_with verbs.Status words = bare_request requests.Status words
request_with verbs.Quit words = bare_request requests.Quit words

-- a request, by its words
unfoldable pub request_in : List Word → Option Request
request_in [] = None
request_in (word ∷ words) = verb_named word >>= λ verb. request_with verb words

-- what a line asks for; none, if it is no request
abbrev pub request_of : List ℕ → Option Request
request_of line = request_in (words_of line)
