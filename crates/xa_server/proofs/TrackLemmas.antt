-- A server tracks what a driver tells.
use Rattle.std.proofs.Common.{◌≡◌, ◌∙◌, ◌⊎◌, inl, inr, ℕ, ◌+◌, zero, suc, Bool, true, false, ◌||◌, List, [], ◌∷◌, Option, Some, None, refl, sym, ap, subst}
use Rattle.std.specs.List.{list_any}
use Rattle.std.specs.Prelude.{MatchBool, Result, Ok, Err}
use Rattle.std.proofs.lemmas.Bool.{true≢false}
use Rattle.xa_base.specs.Answer.{answer_number}
use Rattle.xa_base.specs.Xid.{Xid}
use Rattle.xa_base.specs.declared.answer.Answer.{Answer}
use Rattle.xa_base.specs.declared.branch.Gtrid.{Gtrid}
use Rattle.xa_base.specs.declared.refusal.Refusal.TheVariants.{Memory}
use Rattle.xa_server.specs.Calls.{PerformsAnswer, answer_reply, waits_for_other}
use Rattle.xa_session.specs.Steps.{Abandons, Begins, Claims, Decides, Hears, Issues, Loses, Resolves, ResolvesOpen, Settles}
use Rattle.xa_server.specs.Crashes.{LosesFrom}
use Rattle.xa_server.specs.Lines.{asked_in}
use Rattle.xa_server.specs.Performing.{Does, Performs}
use Rattle.xa_server.specs.Releasing.{ReleasesAll}
use Rattle.xa_server.specs.Replies.{response_of}
use Rattle.xa_server.specs.Serving.{HaveReplies, RepliesBy}
use Rattle.xa_server.specs.Standing.{LacksMemory, OnlyTells, StandsFor}
use Rattle.xa_server.specs.Telling.{HaveTold, Tells, TellsBy, TellsLost, is_log_fault, is_refusal}
use Rattle.xa_server.specs.Tracking.{TracksReplies, TracksReply}
use Rattle.xa_server.specs.declared.server.Server.{Server}
use Rattle.xa_log.specs.Contract.{Moment}
use Rattle.xa_model.specs.Trace.{Origin, line}
use Rattle.xa_requests.specs.declared.request.CallName.{CallName}
use Rattle.xa_requests.specs.declared.request.Request.{Request}
use Rattle.xa_requests.specs.declared.request.Request.TheVariants as requests
use Rattle.xa_requests.specs.declared.response.RequestFault.TheVariants as faults
use Rattle.xa_requests.specs.declared.response.Response.{Response}
use Rattle.xa_requests.specs.declared.response.Response.TheVariants as responses
use Rattle.xa_session.specs.Session.{known_waiting}
use Rattle.xa_session.specs.Tracking.{KeepsTrack}
use Rattle.xa_session.specs.declared.session.Session.{Session}
use Rattle.xa_monitor.specs.Seen.{Seen, Seen.Lost}
use Rattle.xa_server.proofs.SessionTracks.{Goes, Laws, abandoned, answered, begun, claimed, decided, finished, issued, lost, not_lost, resolved, resolved_open, settled, unchanged}

module _ {L : Type 0} (laws : Laws L) (o : Origin) (moment : L → Moment) where
  module _ (seen : Seen) (old new : Server L) (keeps : KeepsTrack o seen old.session) where
    looked : new ≡ old → Goes o (λ more. more ≡ seen) old.session new.session
    looked same = unchanged laws o seen old.session new.session keeps (ap (λ c. c.session) same)

    -- a reply that stands for what the session does tells just that
    stands : {A E : Type 0} (Does : (old new : Session L) → Result A E → Type 0) (reply_to : Result A E → Response) (Told : Response → Seen → Type 0)
        (reply : Response) → StandsFor Does reply_to old reply new → is_log_fault reply ≡ false
        → ((result : Result A E) → Does old.session new.session result → is_log_fault (reply_to result) ≡ false
        → Goes o (Told (reply_to result)) old.session new.session)
        → Goes o (Told reply) old.session new.session
    stands Does reply_to Told reply for none goes =
        subst (λ r. Goes o (Told r) old.session new.session) (sym for.told)
        (goes for.result for.does (subst (λ r. is_log_fault r ≡ false) for.told none))

    heard : (n t r : ℕ) (name : CallName) (answer : Answer Xid) (reply : Response) → PerformsAnswer t r name answer old reply new
        → is_log_fault reply ≡ false → Goes o (Tells n (requests.Answer t r name answer) reply seen) old.session new.session
    heard n t r name answer reply performs none = by (waits_for_other old.session.lines t r name) refl performs
      where
        tells : Response → Seen → Type 0
        tells reply = Tells n (requests.Answer t r name answer) reply seen

        only : (told : Response) → OnlyTells told old reply new → Goes o (tells told) old.session new.session → Goes o (tells reply) old.session new.session
        only told tells_only goes = subst (λ r. Goes o (tells r) old.session new.session) (sym tells_only.0) goes

        by : (other : Bool) → waits_for_other old.session.lines t r name ≡ other
            → MatchBool other (OnlyTells (responses.Fault faults.OtherCall) old reply new)
            (StandsFor (Hears t r answer) (answer_reply (responses.Heard name.kind (answer_number answer))) old reply new ⊎ LacksMemory old reply new)
            → Goes o (tells reply) old.session new.session
        by true is fault = only (responses.Fault faults.OtherCall) fault (looked fault.1)
        by false is (inl for) = stands (Hears t r answer) (answer_reply (responses.Heard name.kind (answer_number answer))) tells reply for none
            (λ result does. answered laws o seen old.session new.session keeps n t r name answer (answer_number answer) result is does)
        by false is (inr lacks) = only (responses.Refused Memory) lacks (looked lacks.1)

  losts : (rm t left : ℕ) (reply : Response) (seen : Seen) (old new : Server L) → KeepsTrack o seen old.session
      → LosesFrom rm t left old reply new → Goes o (TellsLost rm t left reply seen) old.session new.session
  losts rm t zero reply seen old new keeps performs = looked seen old new keeps performs.1
  losts rm t (suc left) reply seen old new keeps (next, Ok x, loses, rest) =
      let first = known_waiting old.session.lines t rm in
      let tracked = laws.losses o seen (line t rm) first old.session next.session keeps loses.does.lost.follows in
      let goes = losts rm (t + 1) left reply (Lost seen (line t rm) first) next new tracked rest in
      record { more = goes.more; told = inr (first, goes.told); keeps = goes.keeps; threads = goes.threads ∙ ap (λ g. g.threads) loses.does.lost.lines }
  losts rm t (suc left) reply seen old new keeps (next, Err m, loses, rest) =
      let goes = not_lost laws o seen old.session next.session keeps left t rm m loses.does in
      record {
        more = seen;
        told = inl (ap is_refusal rest.0, refl);
        keeps = subst (λ c. KeepsTrack o seen c.session) (sym rest.1) (subst (λ s. KeepsTrack o s next.session) goes.told goes.keeps);
        threads = ap (λ c. c.session.lines.threads) rest.1 ∙ goes.threads;
      }

  performed : (request : Request) (reply : Response) (seen : Seen) (old new : Server L) → KeepsTrack o seen old.session → Does request old reply new
      → is_log_fault reply ≡ false → Goes o (Tells old.session.lines.threads request reply seen) old.session new.session
  performed (requests.Begin t) reply seen old new keeps does none = stands seen old new keeps (Begins t) (response_of responses.Begun)
      (λ reply. Tells old.session.lines.threads (requests.Begin t) reply seen) reply does none
      (λ result does none. begun laws o seen old.session new.session keeps old.session.lines.threads t result does)
  performed (requests.Issue t r call) reply seen old new keeps does none =
      stands seen old new keeps (Issues t r call) (response_of (λ _. responses.Issued call))
      (λ reply. Tells old.session.lines.threads (requests.Issue t r call) reply seen) reply does none
      (λ result does none. issued laws o seen old.session new.session keeps old.session.lines.threads t r call result does)
  performed (requests.Answer t r name answer) reply seen old new keeps does none =
      heard seen old new keeps old.session.lines.threads t r name answer reply does none
  performed (requests.Decide gs outcome) reply seen old new keeps does none =
      stands seen old new keeps (Decides gs outcome) (response_of (λ _. responses.Decided))
      (λ reply. Tells old.session.lines.threads (requests.Decide gs outcome) reply seen) reply does none
      (λ result does none. decided laws o seen old.session new.session keeps old.session.lines.threads gs outcome result does none)
  performed (requests.Claim g) reply seen old new keeps does none = stands seen old new keeps (Claims g) (response_of (λ _. responses.Claimed))
      (λ reply. Tells old.session.lines.threads (requests.Claim g) reply seen) reply does none
      (λ result does none. claimed laws o seen old.session new.session keeps old.session.lines.threads g result does)
  performed (requests.Settle g) reply seen old new keeps does none = stands seen old new keeps (Settles g) (response_of (λ _. responses.Decided))
      (λ reply. Tells old.session.lines.threads (requests.Settle g) reply seen) reply does none
      (λ result does none. settled laws o seen old.session new.session keeps old.session.lines.threads g result does none)
  performed (requests.Abandon g) reply seen old new keeps does none = stands seen old new keeps (Abandons g) (response_of (λ _. responses.Decided))
      (λ reply. Tells old.session.lines.threads (requests.Abandon g) reply seen) reply does none
      (λ result does none. abandoned laws o seen old.session new.session keeps old.session.lines.threads g result does)
  performed (requests.Done gs) reply seen old new keeps does none =
      subst (λ r. Goes o (Tells old.session.lines.threads (requests.Done gs) r seen) old.session new.session) (sym does.told)
      (finished laws o seen old.session new.session keeps old.session.lines.threads gs does.result does.does
      (subst (λ r. is_log_fault r ≡ false) does.told none))
  performed (requests.Resolve r) reply seen old new keeps does none = stands seen old new keeps (Resolves r) (response_of responses.Resolved)
      (λ reply. Tells old.session.lines.threads (requests.Resolve r) reply seen) reply does none
      (λ result does none. resolved laws o seen old.session new.session keeps old.session.lines.threads r result does)
  performed (requests.ResolveOpen r) reply seen old new keeps does none = stands seen old new keeps (ResolvesOpen r) (response_of responses.Resolved)
      (λ reply. Tells old.session.lines.threads (requests.ResolveOpen r) reply seen) reply does none
      (λ result does none. resolved_open laws o seen old.session new.session keeps old.session.lines.threads r result does)
  performed (requests.Waiting t r) reply seen old new keeps does none = looked seen old new keeps does.1
  performed (requests.Owed r) reply seen old new keeps does none = looked seen old new keeps does.1
  performed (requests.CrashLine t r) reply seen old new keeps does none = stands seen old new keeps (Loses t r) (response_of (λ _. responses.Crashed))
      (λ reply. Tells old.session.lines.threads (requests.CrashLine t r) reply seen) reply does none
      (λ result does none. lost laws o seen old.session new.session keeps old.session.lines.threads t r result does)
  performed (requests.CrashRm r) reply seen old new keeps does none = losts r 0 old.session.lines.threads reply seen old new keeps does
  performed requests.Status reply seen old new keeps does none = looked seen old new keeps does.1
  performed requests.Quit reply seen old new keeps does none = looked seen old new keeps does.1

  -- what is over is forgotten, and nothing more is seen
  forgot : (Told : Seen → Type 0) (gs : List Gtrid) (old mid new : Server L) → Goes o Told old.session mid.session → ReleasesAll gs mid new
      → Goes o Told old.session new.session
  forgot Told [] old mid new goes same = subst (λ c. Goes o Told old.session c.session) (sym same) goes
  forgot Told (g ∷ gs) old mid new goes (next, inl (forgets, rest), others) =
      let still : Goes o Told old.session next.session = record {
        more = goes.more;
        told = goes.told;
        keeps = laws.releases o goes.more mid.session next.session goes.keeps forgets.stands forgets.monitor;
        threads = ap (λ g. g.threads) forgets.lines ∙ goes.threads;
      } in
      forgot Told gs old next new still others
  forgot Told (g ∷ gs) old mid new goes (next, inr (open_still, same), others) =
      forgot Told gs old next new (subst (λ c. Goes o Told old.session c.session) (sym same) goes) others

  done_and_forgot : (request : Request) (reply : Response) (seen : Seen) (old new : Server L) → KeepsTrack o seen old.session
      → Performs moment request old reply new → is_log_fault reply ≡ false → Goes o (Tells old.session.lines.threads request reply seen) old.session new.session
  done_and_forgot request reply seen old new keeps does none =
      forgot (Tells old.session.lines.threads request reply seen) _ old does.mid new
      (performed request reply seen old does.mid keeps does.does none) does.releases

  pub reply_tracked : (seen : Seen) (request : Request) (reply : Response) (old new : Server L) → KeepsTrack o seen old.session
      → Performs moment request old reply new → is_log_fault reply ≡ false → TracksReply o request reply seen old new
  reply_tracked seen request reply old new keeps does none =
      let goes = done_and_forgot request reply seen old new keeps does none in
      record { more = goes.more; told = goes.told; keeps = goes.keeps; threads = goes.threads }

  -- ** all lines and their replies

  line_told : (asks : Option Request) (reply : Response) (seen : Seen) (old new : Server L) → KeepsTrack o seen old.session
      → RepliesBy moment asks old reply new → is_log_fault reply ≡ false → Goes o (TellsBy old.session.lines.threads asks reply seen) old.session new.session
  line_told None reply seen old new keeps does none = looked seen old new keeps does.1
  line_told (Some request) reply seen old new keeps does none = done_and_forgot request reply seen old new keeps does none

  no_fault_behind : (b c : Bool) → (b || c) ≡ false → b ≡ false → c ≡ false
  no_fault_behind true c e is = absurd (true≢false is)
  no_fault_behind false c e is = e

  fault_before : (b c : Bool) → (b || c) ≡ false → b ≡ true → ⊥
  fault_before true c e is = true≢false e
  fault_before false c e is = true≢false (sym is)

  pub replies_tracked : (lines : List (List ℕ)) (replies : List Response) (n : ℕ) (seen : Seen) (old new : Server L) → KeepsTrack o seen old.session
      → old.session.lines.threads ≡ n → HaveReplies moment lines replies old new → TracksReplies o n lines replies seen new
  replies_tracked [] [] n seen old new keeps threads have = record { more = seen; told = refl; last = old; keeps = keeps; to_end = λ none. sym have }
  replies_tracked [] (r ∷ rs) n seen old new keeps threads have = absurd have
  replies_tracked (l ∷ ls) [] n seen old new keeps threads have = absurd have
  replies_tracked (l ∷ ls) (r ∷ rs) n seen old new keeps threads (next, does, rest) =
      by (is_log_fault r) refl (λ mid kept same. replies_tracked ls rs n mid next new kept same rest)
    where
      goes_on : Seen → Type 0
      goes_on more = (mid : Seen) × TellsBy n (asked_in l) r seen mid × HaveTold n ls rs mid more

      by : (fails : Bool) → is_log_fault r ≡ fails
          → ((mid : Seen) → KeepsTrack o mid next.session → next.session.lines.threads ≡ n → TracksReplies o n ls rs mid new)
          → TracksReplies o n (l ∷ ls) (r ∷ rs) seen new
      by true is others = record {
        more = seen;
        told = subst (λ b. MatchBool b (seen ≡ seen) (goes_on seen)) (sym is) refl;
        last = old;
        keeps = keeps;
        to_end = λ none. absurd (fault_before (is_log_fault r) (list_any is_log_fault rs) none is);
      }
      by false is others =
          let goes = line_told (asked_in l) r seen old next keeps does is in
          let behind = others goes.more goes.keeps (goes.threads ∙ threads) in
          record {
            more = behind.more;
            told = subst (λ b. MatchBool b (behind.more ≡ seen) (goes_on behind.more)) (sym is)
                (goes.more, subst (λ k. TellsBy k (asked_in l) r seen goes.more) threads goes.told, behind.told);
            last = behind.last;
            keeps = behind.keeps;
            to_end = λ none. behind.to_end (no_fault_behind (is_log_fault r) (list_any is_log_fault rs) none is);
          }
