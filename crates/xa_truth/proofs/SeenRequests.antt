-- What lines asked for and had done was seen.
use Rattle.std.proofs.Common.{◌≡◌, ◌∙◌, ℕ, ◌+◌, zero, suc, Bool, true, false, List, [], ◌∷◌, Option, Some, None, inl, inr, map, refl, subst, sym}
use Rattle.std.proofs.lemmas.Bool.{false≢true, or_cases, or_parts}
use Rattle.std.proofs.lemmas.List.Folds.{list_any-append}
use Rattle.std.specs.List.{list_any}
use Rattle.std.specs.Prelude.{MatchBool, if◌then◌else◌}
use Rattle.xa_conduct.specs.Acting.{done_by, done_of, is_done}
use Rattle.xa_log.specs.Contract.{Moment}
use Rattle.xa_model.specs.Trace.{Answer, Call, Happening, Happening.Decided, Happening.Done, Line, line}
use Rattle.xa_monitor.specs.Seen.{Seen, Seen.Answered, Seen.Did, Seen.Lost}
use Rattle.xa_requests.specs.declared.request.Request.{Request}
use Rattle.xa_requests.specs.declared.request.Request.TheVariants as requests
use Rattle.xa_requests.specs.declared.response.Response.{Response}
use Rattle.xa_requests.specs.declared.response.Response.TheVariants as responses
use Rattle.xa_server.specs.Lines.{asked_in}
use Rattle.xa_server.specs.Performing.{Performs}
use Rattle.xa_server.specs.Serving.{HaveReplies, RepliesBy}
use Rattle.xa_server.specs.Telling.{HaveTold, Tells, TellsBy, TellsLost, is_log_fault}
use Rattle.xa_server.specs.declared.server.Server.{Server}
use Rattle.xa_session.specs.Tracking.{did_all}

-- it was done, and passes
done_parts : (p : Request → Bool) (request : Request) (v : Bool) → list_any p (if v then request ∷ [] else []) ≡ true
    → (v ≡ true) × (p request ≡ true)
done_parts p request true is = (refl, elim (or_cases (p request) false is) [ inl passes ↦ passes | inr none ↦ absurd (false≢true none) ])
done_parts p request false is = absurd (false≢true is)

-- what is seen stays so, as more is
module _ (Saw : Seen → Type 0) (did : (seen : Seen) (e : Happening) → Saw seen → Saw (Did seen e))
    (answered : (seen : Seen) (l : Line) (c : Call) (a : Answer) → Saw seen → Saw (Answered seen l c a))
    (lost : (seen : Seen) (l : Line) (c : Option Call) → Saw seen → Saw (Lost seen l c)) where
  pub all_keep : (es : List Happening) (seen : Seen) → Saw seen → Saw (did_all seen es)
  all_keep [] seen s = s
  all_keep (e ∷ es) seen s = all_keep es (Did seen e) (did seen e s)

  lost_keep : (rm thread left : ℕ) (reply : Response) (seen more : Seen) → TellsLost rm thread left reply seen more → Saw seen → Saw more
  lost_keep rm thread zero reply seen more told s = subst Saw (sym told) s
  lost_keep rm thread (suc left) reply seen more (inl told) s = subst Saw (sym told.1) s
  lost_keep rm thread (suc left) reply seen more (inr told) s =
      lost_keep rm (thread + 1) left reply (Lost seen (line thread rm) told.0) more told.1 (lost seen (line thread rm) told.0 s)

  tells_keep : (n : ℕ) (request : Request) (reply : Response) (seen more : Seen) → Tells n request reply seen more → Saw seen → Saw more
  tells_keep n (requests.Begin t) (responses.Begun g) seen more told s = subst Saw (sym told) (did seen _ s)
  tells_keep n (requests.Issue t r call) (responses.Issued said) seen more told s = subst Saw (sym told.2) (did seen _ s)
  tells_keep n (requests.Answer t r name answer) (responses.Heard kind number) seen more told s = subst Saw (sym told.2) (answered seen _ _ _ s)
  tells_keep n (requests.Decide gs outcome) responses.Decided seen more told s = subst Saw (sym told) (all_keep (map (λ g. Decided g outcome) gs) seen s)
  tells_keep n (requests.Claim g) responses.Claimed seen more told s = subst Saw (sym told) (did seen _ s)
  tells_keep n (requests.Settle g) responses.Decided seen more told s = subst Saw (sym told) (did seen _ s)
  tells_keep n (requests.Abandon g) responses.Decided seen more told s = subst Saw (sym told) (did seen _ s)
  tells_keep n (requests.Done gs) responses.Noted seen more told s = subst Saw (sym told) (all_keep (map (λ g. Done g) gs) seen s)
  tells_keep n (requests.Resolve r) (responses.Resolved count) seen more told s = subst Saw (sym told) (did seen _ s)
  tells_keep n (requests.ResolveOpen r) (responses.Resolved count) seen more told s = subst Saw (sym told) (did seen _ s)
  tells_keep n (requests.CrashLine t r) responses.Crashed seen more told s = subst Saw (sym told.1) (lost seen _ _ s)
  tells_keep n (requests.CrashRm r) reply seen more told s = lost_keep r 0 n reply seen more told s
  tells_keep n request reply seen more told s = subst Saw (sym told) s

  line_keeps : (n : ℕ) (asked : Option Request) (reply : Response) (seen more : Seen) → TellsBy n asked reply seen more → Saw seen → Saw more
  line_keeps n None reply seen more told s = subst Saw (sym told) s
  line_keeps n (Some request) reply seen more told s = tells_keep n request reply seen more told s

  -- what a line told, unless the log failed, and what those after it did
  told_on : (n : ℕ) (l : List ℕ) (ls : List (List ℕ)) (r : Response) (rs : List Response) (seen more : Seen) → is_log_fault r ≡ false
      → HaveTold n (l ∷ ls) (r ∷ rs) seen more → (next : Seen) × TellsBy n (asked_in l) r seen next × HaveTold n ls rs next more
  told_on n l ls r rs seen more fine told =
      subst (λ (b : Bool). MatchBool b (more ≡ seen) ((next : Seen) × TellsBy n (asked_in l) r seen next × HaveTold n ls rs next more)) fine told

  lines_keep : (n : ℕ) (ls : List (List ℕ)) (rs : List Response) (seen more : Seen) → list_any is_log_fault rs ≡ false → HaveTold n ls rs seen more
      → Saw seen → Saw more
  lines_keep n [] [] seen more fine told s = subst Saw (sym told) s
  lines_keep n (l ∷ ls) (r ∷ rs) seen more fine told s =
      let faults = or_parts (is_log_fault r) (list_any is_log_fault rs) fine in
      let here = told_on n l ls r rs seen more faults.0 told in
      lines_keep n ls rs here.0 more faults.1 here.2 (line_keeps n (asked_in l) r seen here.0 here.1 s)
  lines_keep n [] (r ∷ rs) seen more fine told s = absurd told
  lines_keep n (l ∷ ls) [] seen more fine told s = absurd told

  -- a request that passes and was done is seen
  module _ {L : Type 0} (moment : L → Moment) (n : ℕ) (p : Request → Bool)
      (here : (request : Request) (reply : Response) (seen next : Seen) (old new : Server L) → Performs moment request old reply new
      → is_done reply ≡ true → p request ≡ true → Tells n request reply seen next → Saw next) where
    one_seen : (asked : Option Request) (reply : Response) (seen next : Seen) (old new : Server L) → RepliesBy moment asked old reply new
        → list_any p (done_by asked reply) ≡ true → TellsBy n asked reply seen next → Saw next
    one_seen None reply seen next old new replies is told = absurd (false≢true is)
    one_seen (Some request) reply seen next old new replies is told =
        let parts = done_parts p request (is_done reply) is in here request reply seen next old new replies parts.0 parts.1 told

    pub lines_seen : (ls : List (List ℕ)) (rs : List Response) (old new : Server L) (seen more : Seen) → HaveReplies moment ls rs old new
        → list_any is_log_fault rs ≡ false → HaveTold n ls rs seen more → list_any p (done_of ls rs) ≡ true → Saw more
    lines_seen [] [] old new seen more have fine told is = absurd (false≢true is)
    lines_seen [] (r ∷ rs) old new seen more have fine told is = absurd have
    lines_seen (l ∷ ls) [] old new seen more have fine told is = absurd have
    lines_seen (l ∷ ls) (r ∷ rs) old new seen more have fine told is =
        let faults = or_parts (is_log_fault r) (list_any is_log_fault rs) fine in
        let one = told_on n l ls r rs seen more faults.0 told in
        elim (or_cases (list_any p (done_by (asked_in l) r)) (list_any p (done_of ls rs))
        (sym (list_any-append p (done_by (asked_in l) r) (done_of ls rs)) ∙ is)) [
          | inl now ↦ lines_keep n ls rs one.0 more faults.1 one.2 (one_seen (asked_in l) r seen one.0 old have.0 have.1 now one.1)
          | inr later ↦ lines_seen ls rs have.0 new one.0 more have.2 faults.1 one.2 later
        ]
