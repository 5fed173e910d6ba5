-- A session tracks what is seen.
use Rattle.std.proofs.Common.{◌≡◌, ◌∙◌, ◌<◌, ◌&&◌, ℕ, suc, true, List, [], ◌∷◌, length, Option, ap, arith, refl, subst, sym}
use Rattle.std.specs.Prelude.{All, nat_lt}
use Rattle.std.proofs.lemmas.Bool.Decides.{nat_tests}
use Rattle.xa_line.specs.Grid.{HasLine, IsWhole, line_at, grid_has_line}
use Rattle.xa_line.specs.Histories.{LineStands}
use Rattle.xa_model.specs.Protocol.{IsRun}
use Rattle.xa_model.specs.Trace.{Answer, Branch, Call, Happening, Line, Origin, Trace, Trace.Then, line}
use Rattle.xa_monitor.proofs.Agreeing.{history_begins}
use Rattle.xa_monitor.proofs.Following.{by_did, still_followed}
use Rattle.xa_monitor.proofs.Names.{alone_ran}
use Rattle.xa_monitor.specs.Agreement.{WaitsAt}
use Rattle.xa_monitor.specs.Monitor.{AreStatesBy, Monitors, SaysTheSame, states_of}
use Rattle.xa_monitor.specs.declared.states.States.{States}
use Rattle.xa_monitor.specs.Seen.{HasAnswer, IsHistory, IsHistory.Does, IsHistory.Hears, IsHistory.Loses, IsHistory.LosesAnswer, IsHistory.Starts, IsManagers, KeepsRules, Seen, Seen.Answered, Seen.Did, Seen.Lost, Seen.Start}
use Rattle.xa_tm.specs.Begins.{BeginsWith}
use Rattle.xa_session.specs.Following.{AreRight, BookStands, FollowsAll, FollowsAnswer, FollowsLoss, StandsAtStart, StandsIn, StaysAs, then_all}
use Rattle.xa_session.specs.Session.{known_at}
use Rattle.xa_session.specs.Tracking.{KeepsTrack, Tracks, did_all}
use Rattle.xa_session.specs.declared.session.Session.{Session}
use Rattle.xa_session.proofs.Alone.{alone_stands}
use Rattle.xa_session.proofs.WaitingCalls.{call_waits}

-- ** a start

module _ {L : Type 0} (threads rms : ℕ) (s : Session L) (stands : StandsAtStart threads rms s) (o : Origin) (begins : BeginsWith threads rms s.manager o) where
  start_in : (tr : Trace) → IsHistory o Start tr → IsRun tr → StandsIn tr s
  start_in _ (Starts held) run =
      (stands (record o { held = held }) (record {
        threads_are = begins.threads_are;
        rms_are = begins.rms_are;
        incarnation = begins.incarnation;
        rows = begins.rows;
        records = begins.records;
      })).0 run

  pub start_tracked : KeepsTrack o Start s
  start_tracked = (tt, start_in, (stands o begins).1)

-- ** what the manager does in turn

-- a history of it goes back to one of what was seen before
history_back : (o : Origin) (seen : Seen) (es : List Happening) (now : Trace) → IsHistory o (did_all seen es) now
    → (before : Trace) × IsHistory o seen before × (now ≡ then_all before es)
history_back o seen [] now h = (now, h, refl)
history_back o seen (e ∷ es) now h =
    let later = history_back o (Did seen e) es now h in
    let first = last_did later.0 later.1 in
    (first.0, first.1, later.2 ∙ ap (λ tr. then_all tr es) first.2)
  where
    last_did : (tr : Trace) → IsHistory o (Did seen e) tr → (before : Trace) × IsHistory o seen before × (tr ≡ Then before e)
    last_did _ (Does _ tr _ h) = (tr, h, refl)

-- what is right after a history is right
run_back : (tr : Trace) (es : List Happening) → IsRun (then_all tr es) → IsRun tr
run_back tr [] run = run
run_back tr (e ∷ es) run = (run_back (Then tr e) es run).0

rules_kept : (o : Origin) (seen : Seen) (es : List Happening) → KeepsRules o seen → All IsManagers es
    → ((tr : Trace) → IsHistory o seen tr → IsRun tr → AreRight tr es) → KeepsRules o (did_all seen es)
rules_kept o seen [] keeps managers right = keeps
rules_kept o seen (e ∷ es) keeps managers right =
    rules_kept o (Did seen e) es (keeps, managers 0 e (arith_zero (length es)), λ tr h run. (right tr h run).0)
    (λ k d less. managers (suc k) d (omega (arith, less))) later
  where
    arith_zero : (n : ℕ) → 0 < suc n
    arith_zero n = omega arith

    later : (tr : Trace) → IsHistory o (Did seen e) tr → IsRun tr → AreRight tr es
    later _ (Does _ tr _ h) run = (right tr h run.0).1

monitors_all : (o : Origin) (seen : Seen) (f : Branch → States) (es : List Happening) → AreStatesBy o seen f → AreStatesBy o (did_all seen es) f
monitors_all o seen f [] followed = followed
monitors_all o seen f (e ∷ es) followed = monitors_all o (Did seen e) f es (by_did o seen f e followed)

-- ** what follows

module _ {L : Type 0} (o : Origin) (seen : Seen) (old new : Session L) (keeps : KeepsRules o seen) (tracks : Tracks o seen old)
    (monitors : Monitors o seen old.monitor) where
  step_in : (es : List Happening) → FollowsAll es old new → (tr : Trace) → IsHistory o (did_all seen es) tr → IsRun tr → StandsIn tr new
  step_in es follows tr history run =
      let at = history_back o seen es tr history in
      subst (λ w. StandsIn w new) (sym at.2) (follows.leads at.0 (tracks at.0 at.1 (run_back at.0 es (subst IsRun at.2 run)))).1

  pub step_tracked : (es : List Happening) → All IsManagers es → FollowsAll es old new → KeepsTrack o (did_all seen es) new
  step_tracked es managers follows = (
    rules_kept o seen es keeps managers (λ tr h run. (follows.leads tr (tracks tr h run)).0),
    step_in es follows,
    monitors_all o seen (states_of new.monitor) es
        (still_followed o seen (states_of old.monitor) (states_of new.monitor) follows.states monitors),
  )

  answer_in : (l : Line) (c : Call) (a : Answer) → FollowsAnswer l c a old new → (tr : Trace) → IsHistory o (Answered seen l c a) tr
      → IsRun tr → StandsIn tr new
  answer_in l c a follows _ (Hears _ tr now _ _ _ h alone) run =
      let stands = alone_stands old tr now alone (tracks tr h (alone_ran tr now alone run.0.0)) in
      ((follows.leads now stands).1 run.0.1.1).1

  pub answer_tracked : (l : Line) (c : Call) (a : Answer) → HasAnswer c a → FollowsAnswer l c a old new → KeepsTrack o (Answered seen l c a) new
  answer_tracked l c a has follows =
      ((keeps, has, λ tr h run. (follows.leads tr (tracks tr h run)).0), answer_in l c a follows, follows.states o seen monitors)

  loss_in : (l : Line) (c : Option Call) → FollowsLoss l c old new → (tr : Trace) → IsHistory o (Lost seen l c) tr → IsRun tr → StandsIn tr new
  loss_in l c follows _ (Loses _ tr _ _ h) run = (follows.leads tr (tracks tr h run.0)).1
  loss_in l _ follows _ (LosesAnswer _ tr now _ k a h alone) run =
      let stands = alone_stands old tr now alone (tracks tr h (alone_ran tr now alone run.0.0)) in
      (follows.leads now stands).2 k a refl run.0.1.1

  pub loss_tracked : (l : Line) (c : Option Call) → FollowsLoss l c old new → KeepsTrack o (Lost seen l c) new
  loss_tracked l c follows = ((keeps, λ tr h run. (follows.leads tr (tracks tr h run)).0), loss_in l c follows, follows.states o seen monitors)

  -- ** nothing

  -- where the session stands wherever it stood, and no branch is in other states
  pub still_tracked : ((tr : Trace) → StandsIn tr old → StandsIn tr new) → SaysTheSame old.monitor new.monitor → KeepsTrack o seen new
  still_tracked stands same = (
    keeps,
    λ tr h run. stands tr (tracks tr h run),
    still_followed o seen (states_of old.monitor) (states_of new.monitor) same monitors,
  )

-- ** the calls that wait

lt_so : (m n : ℕ) → m < n → nat_lt m n ≡ true
lt_so m n h = grind (arith, nat_tests)

pub calls_tracked : {L : Type 0} (o : Origin) (seen : Seen) (s : Session L) → KeepsTrack o seen s → (t r n : ℕ) → t < o.threads → r < o.rms
    → WaitsAt o seen (line t r) n (known_at s.lines t r n)
calls_tracked o seen s keeps t r n lt lr tr history run =
    let stands = keeps.1 tr history run in
    let begins = (history_begins o seen tr history).1 in
    let threads : s.lines.threads ≡ o.threads = stands.threads ∙ ap (λ (p : Origin). p.threads) begins in
    let rms : s.lines.rms ≡ o.rms = stands.rms ∙ ap (λ (p : Origin). p.rms) begins in
    let of_threads : t < s.lines.threads = subst (λ n. t < n) (sym threads) lt in
    let of_rms : r < s.lines.rms = subst (λ n. r < n) (sym rms) lr in
    let there : grid_has_line s.lines t r ≡ true = λ i. lt_so t s.lines.threads of_threads i && lt_so r s.lines.rms of_rms i in
    call_waits s tr t r n stands (of_threads, of_rms) there

-- it stands wherever it stood, if it stays as it was
stays_there : {L : Type 0} (old new : Session L) → StaysAs old new → (tr : Trace) → StandsIn tr old → StandsIn tr new
stays_there old new stays tr stands = record {
  run = stands.run;
  apart = stands.apart;
  threads = ap (λ g. g.threads) stays.lines ∙ stands.threads;
  rms = ap (λ g. g.rms) stays.lines ∙ stands.rms;
  whole = subst IsWhole (sym stays.lines) stands.whole;
  rms_up = stands.rms_up;
  book = subst (BookStands tr) (sym stays.book) stands.book;
  lines =
      λ t r has. subst (λ g. LineStands tr (line t r) (line_at g t r)) (sym stays.lines)
      (stands.lines t r (subst (λ g. HasLine g t r) stays.lines has));
}

pub refusal_tracked : {L : Type 0} (o : Origin) (seen : Seen) (old new : Session L) → KeepsTrack o seen old → StaysAs old new → KeepsTrack o seen new
refusal_tracked o seen old new keeps stays = still_tracked o seen old new keeps.0 keeps.1 keeps.2 (stays_there old new stays) stays.states
