-- A session tracks what is told of each of its steps.
use Rattle.std.proofs.Common.{◌≡◌, ◌≢◌, ℕ, ℤ, false, List, [], ◌∷◌, map, Option, Some, None, refl, sym, ap, subst}
use Rattle.std.specs.Prelude.{All, Result, Ok, Err}
use Rattle.std.proofs.lemmas.Bool.{true≢false}
use Rattle.std.proofs.lemmas.List.Elements.{All-cons, All-map, All-nil}
use Rattle.xa_base.specs.Answer.{map_answer}
use Rattle.xa_base.specs.Xid.{Xid}
use Rattle.xa_base.specs.declared.answer.Answer.{Answer}
use Rattle.xa_base.specs.declared.branch.Gtrid.{Gtrid}
use Rattle.xa_base.specs.declared.call.Call.{Call}
use Rattle.xa_base.specs.declared.refusal.Refusal.{Refusal}
use Rattle.xa_base.specs.declared.refusal.Refusal.TheVariants.{LogFault}
use Rattle.xa_base.specs.declared.step.Outcome.{Outcome}
use Rattle.xa_base.specs.declared.step.Outcome.TheVariants as Outcomes
use Rattle.xa_server.proofs.KnownCalls.{known_first, known_issue, named_first}
use Rattle.xa_server.specs.Calls.{answer_reply, waits_for_other}
use Rattle.xa_session.specs.Steps.{Abandons, Begins, Claims, Decides, Finishes, Hears, Issues, Loses, Resolves, ResolvesOpen, Settles}
use Rattle.xa_server.specs.Replies.{response_of}
use Rattle.xa_server.specs.Telling.{Tells, is_log_fault}
use Rattle.xa_model.specs.Replies.History.{name_of}
use Rattle.xa_model.specs.Trace.{Happening, Happening.Begun, Happening.Claimed, Happening.Decided, Happening.Done, Happening.Issued, Happening.Resolved, Happening.ResolvedOpen, Origin, line}
use Rattle.xa_requests.specs.declared.request.CallName.{CallName}
use Rattle.xa_requests.specs.declared.request.Request.TheVariants as requests
use Rattle.xa_requests.specs.declared.response.Response.TheVariants as responses
use Rattle.xa_session.specs.Following.{Follows, FollowsAll, StaysAs}
use Rattle.xa_session.specs.Session.{known_waiting, line_refusal}
use Rattle.xa_session.specs.Tracking.{AnswersAreTracked, KeepsTrack, LossesAreTracked, RefusalsAreTracked, ReleasesAreTracked, StepsAreTracked, did_all}
use Rattle.xa_session.specs.declared.session.Session.{Session}
use Rattle.xa_session.specs.declared.session.answers.Unfit.{Unfit}
use Rattle.xa_session.specs.declared.session.answers.Unfit.TheVariants as Unfits
use Rattle.xa_monitor.specs.Seen.{IsManagers, Seen, Seen.Answered, Seen.Did, Seen.Lost}

-- what is proved of sessions
pub record Laws (L : Type 0) : Type 0 where
  pub steps : StepsAreTracked L
  pub answers : AnswersAreTracked L
  pub losses : LossesAreTracked L
  pub refusals : RefusalsAreTracked L
  pub releases : ReleasesAreTracked L

-- the session keeps track of what is told
pub record Goes {L : Type 0} (o : Origin) (Told : Seen → Type 0) (old new : Session L) : Type 0 where
  pub more : Seen
  pub told : Told more
  pub keeps : KeepsTrack o more new
  pub threads : new.lines.threads ≡ old.lines.threads

-- the log didn't fail
no_fault : (n : Refusal) → is_log_fault (responses.Refused n) ≡ false → n ≢ LogFault
no_fault n none is = true≢false (subst (λ n. is_log_fault (responses.Refused n) ≡ false) is none)

module _ {L : Type 0} (laws : Laws L) (o : Origin) (seen : Seen) (old new : Session L) (keeps : KeepsTrack o seen old) where
  stepped_all : (es : List Happening) → All IsManagers es → FollowsAll es old new → new.lines.threads ≡ old.lines.threads
      → Goes o (λ more. more ≡ did_all seen es) old new
  stepped_all es managers follows threads =
      record { more = did_all seen es; told = refl; keeps = laws.steps o seen es old new managers keeps follows; threads = threads }

  stepped : (e : Happening) → IsManagers e → Follows e old new → new.lines.threads ≡ old.lines.threads → Goes o (λ more. more ≡ Did seen e) old new
  stepped e managers follows threads = stepped_all (e ∷ []) (All-cons IsManagers e [] managers (All-nil IsManagers)) follows threads

  stayed : StaysAs old new → Goes o (λ more. more ≡ seen) old new
  stayed stays =
      record { more = seen; told = refl; keeps = laws.refusals o seen old new keeps stays; threads = ap (λ g. g.threads) stays.lines }

  pub unchanged : new ≡ old → Goes o (λ more. more ≡ seen) old new
  unchanged same = record { more = seen; told = refl; keeps = subst (KeepsTrack o seen) (sym same) keeps; threads = ap (λ s. s.lines.threads) same }

  module _ (n : ℕ) where
    pub begun : (t : ℕ) (result : Result Gtrid Refusal) → Begins t old new result
        → Goes o (Tells n (requests.Begin t) (response_of responses.Begun result) seen) old new
    begun t (Ok g) does = stepped (Begun g) tt does.begun.follows (ap (λ g. g.threads) does.quiet.lines)
    begun t (Err r) does = stayed does.quiet.stays

    pub issued : (t r : ℕ) (call : Call Xid) (result : Result (Unit {0}) Refusal) → Issues t r call old new result
        → Goes o (Tells n (requests.Issue t r call) (response_of (λ _. responses.Issued call) result) seen) old new
    issued t r call (Ok x) does =
        let known_so = known_issue old t r call does.rules.allowed in
        let goes = stepped (Issued (line t r) known_so.0) tt (does.issued known_so.0 known_so.1).follows (ap (λ g. g.threads) does.lines) in
        record { more = goes.more; told = (known_so.0, known_so.1, goes.told); keeps = goes.keeps; threads = goes.threads }
    issued t r call (Err m) does = stayed does.stays

    pub answered : (t r : ℕ) (name : CallName) (answer : Answer Xid) (k : ℤ) (result : Result (Unit {0}) Unfit)
        → waits_for_other old.lines t r name ≡ false → Hears t r answer old new result
        → is_log_fault (answer_reply (responses.Heard name.kind k) result) ≡ false
        → Goes o (Tells n (requests.Answer t r name answer) (answer_reply (responses.Heard name.kind k) result) seen) old new
    answered t r name answer k (Ok x) same does none =
        let first = known_first old t r answer does.allowed in
        let c = first.known_so.0 in
        let heard = does.heard c (first.call, first.waits, first.known_so.1) in
        record {
          more = Answered seen (line t r) c (map_answer name_of answer);
          told = (
            c,
            record {
              call = first.call;
              named = named_first old t r answer name first.call does.allowed first.waits same;
              is_known = first.known_so.1;
            },
            refl,
          );
          keeps = laws.answers o seen (line t r) c (map_answer name_of answer) old new heard.has keeps heard.follows;
          threads = ap (λ g. g.threads) does.lines;
        }
    answered t r name answer k (Err (Unfits.Refused m)) same does none = stayed (does.stays (λ is. no_fault m none (cc)))
    answered t r name answer k (Err Unfits.NothingWaits) same does none = stayed (does.stays (λ is. absurd (cc)))
    answered t r name answer k (Err Unfits.NoSuchAnswer) same does none = stayed (does.stays (λ is. absurd (cc)))
    answered t r name answer k (Err (Unfits.NoSuchState b)) same does none = stayed (does.stays (λ is. absurd (cc)))

    pub decided : (gs : List Gtrid) (outcome : Outcome) (result : Result (Unit {0}) Refusal) → Decides gs outcome old new result
        → is_log_fault (response_of (λ _. responses.Decided) result) ≡ false
        → Goes o (Tells n (requests.Decide gs outcome) (response_of (λ _. responses.Decided) result) seen) old new
    decided gs outcome (Ok x) does none =
        stepped_all (map (λ g. Decided g outcome) gs) (All-map IsManagers (λ g. Decided g outcome) gs (λ k d less. tt)) does.decided.follows
        (ap (λ g. g.threads) does.asks.lines)
    decided gs outcome (Err m) does none = stayed (does.asks.stays (no_fault m none))

    pub finished : (gs : List Gtrid) (result : Result (Unit {0}) Refusal) → Finishes gs old new result
        → is_log_fault (response_of (λ _. responses.Noted) result) ≡ false
        → Goes o (Tells n (requests.Done gs) (response_of (λ _. responses.Noted) result) seen) old new
    finished gs (Ok x) does none =
        stepped_all (map (λ g. Done g) gs) (All-map IsManagers (λ g. Done g) gs (λ k d less. tt)) does.done.follows
        (ap (λ g. g.threads) does.asks.lines)
    finished gs (Err m) does none = stayed (does.asks.stays (no_fault m none))

    pub settled : (g : Gtrid) (result : Result (Unit {0}) Refusal) → Settles g old new result
        → is_log_fault (response_of (λ _. responses.Decided) result) ≡ false
        → Goes o (Tells n (requests.Settle g) (response_of (λ _. responses.Decided) result) seen) old new
    settled g (Ok x) does none = stepped (Decided g Outcomes.Commit) tt does.decided.follows (ap (λ g. g.threads) does.asks.lines)
    settled g (Err m) does none = stayed (does.asks.stays (no_fault m none))

    pub claimed : (g : Gtrid) (result : Result (Unit {0}) Refusal) → Claims g old new result
        → Goes o (Tells n (requests.Claim g) (response_of (λ _. responses.Claimed) result) seen) old new
    claimed g (Ok x) does = stepped (Claimed g) tt does.claimed.follows (ap (λ g. g.threads) does.quiet.lines)
    claimed g (Err m) does = stayed does.quiet.stays

    pub abandoned : (g : Gtrid) (result : Result (Unit {0}) Refusal) → Abandons g old new result
        → Goes o (Tells n (requests.Abandon g) (response_of (λ _. responses.Decided) result) seen) old new
    abandoned g (Ok x) does = stepped (Decided g Outcomes.Rollback) tt does.decided.follows (ap (λ g. g.threads) does.quiet.lines)
    abandoned g (Err m) does = stayed does.quiet.stays

    pub resolved : (r : ℕ) (result : Result ℕ Refusal) → Resolves r old new result
        → Goes o (Tells n (requests.Resolve r) (response_of responses.Resolved result) seen) old new
    resolved r (Ok count) does = stepped (Resolved r) tt does.follows (ap (λ g. g.threads) does.lines.lines)
    resolved r (Err m) does = stayed does.stays

    pub resolved_open : (r : ℕ) (result : Result ℕ Refusal) → ResolvesOpen r old new result
        → Goes o (Tells n (requests.ResolveOpen r) (response_of responses.Resolved result) seen) old new
    resolved_open r (Ok count) does = stepped (ResolvedOpen r) tt does.resolved.follows (ap (λ g. g.threads) does.lines.lines)
    resolved_open r (Err m) does = stayed does.stays

    pub not_lost : (t r : ℕ) (m : Refusal) → Loses t r old new (Err m) → Goes o (λ more. more ≡ seen) old new
    not_lost t r m does = by (line_refusal old t r) refl
      where
        by : (why : Option Refusal) → line_refusal old t r ≡ why → Goes o (λ more. more ≡ seen) old new
        by (Some first) is = unchanged (does.rules.refused first is).1
        by None is = stayed (does.memory is).1

    pub lost : (t r : ℕ) (result : Result (Unit {0}) Refusal) → Loses t r old new result
        → Goes o (Tells n (requests.CrashLine t r) (response_of (λ _. responses.Crashed) result) seen) old new
    lost t r (Ok x) does =
        let first = known_waiting old.lines t r in
        record {
          more = Lost seen (line t r) first;
          told = (first, refl);
          keeps = laws.losses o seen (line t r) first old new keeps does.lost.follows;
          threads = ap (λ g. g.threads) does.lost.lines;
        }
    lost t r (Err m) does = not_lost t r m does
