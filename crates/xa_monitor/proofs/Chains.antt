-- Sessions one after another agree: behind each of them there is one right history of all, which leaves the branches where they stand.
use Rattle.std.proofs.Common.{◌≡◌, ◌⊎◌, ℕ, suc, List, [], ◌∷◌, ◌++◌, Bool, true, false, refl, sym, ap, ◌∙◌, subst}
use Rattle.std.specs.Prelude.{if◌then◌else◌, Option, Some, None}
use Rattle.xa_base.specs.StateTable.{asks_of, broken}
use Rattle.xa_base.specs.declared.answer.Answer.TheVariants.{Page, Ret}
use Rattle.xa_base.specs.declared.call.Call.TheVariants as Calls
use Rattle.xa_base.specs.declared.code.Code.TheVariants as Codes
use Rattle.xa_base.specs.declared.state.Standing.{Standing}
use Rattle.xa_base.specs.declared.state.Standing.TheVariants.{Prepared}
use Rattle.xa_model.specs.Facts.{lists_row}
use Rattle.xa_model.specs.Protocol.{IsRun}
use Rattle.xa_model.specs.Trace.{Answer, Branch, Call, Happening.Took, Line, Name, Origin, Trace, Trace.Then, line_eq}
use Rattle.xa_monitor.specs.Agreement.{IsLineOf, MayAllStand, MayAllStand.AsTold, MayAllStand.CutOff, MayAllStand.EndedAlone, MayAllStand.UnderWay, WaitsAt, WasDone, times, waiting_call_at}
use Rattle.xa_monitor.specs.Explained.{IsExplained}
use Rattle.xa_monitor.specs.Seen.{HasAnswer, IsHistory, IsHistory.Hears, Seen, Seen.Answered}
use Rattle.xa_monitor.specs.Sessions.{AfterSessions, AfterSessions.Between, AfterSessions.NoneYet, AfterSessions.OneMore, Finds, IsSession, Log, Log.LeftBy, WasFoundDecided}
use Rattle.xa_monitor.specs.Standings.{Comes, Explained, ExplainsAsked}
use Rattle.xa_monitor.proofs.UntoldCalls.{alone_calls, heard_calls, one_if, taken_calls}
use Rattle.xa_monitor.proofs.Names.{alone_ran}
use Rattle.xa_monitor.proofs.ReachedStandings.{IsReached, none_reached, explained, one_more, between}

-- ** all of them

pub reached : (log : Log) (f : Branch → Standing) (after : AfterSessions log f) → IsReached log f (λ b. WasFoundDecided b log f after)
reached _ _ (NoneYet i) = none_reached i
reached _ _ (OneMore log from to o seen fails done cut before found session may) =
    one_more log from to (λ b. WasFoundDecided b log from before) (reached log from before) o found seen fails session done cut may
reached _ _ (Between log from to d how before was final) =
    between log from to (λ b. WasFoundDecided b log from before) (reached log from before) d how was final

-- ** an answer that may as well not have been told

-- which call waits where on each line is known, or that none does
abbrev pub KnowsCalls : Origin → Seen → Type 0
KnowsCalls o seen = (l : Line) (n : ℕ) → IsLineOf o l → (c : Option Call) × WaitsAt o seen l n c

times_last : (done : List Line) (l m : Line) → times (done ++ l ∷ []) m ≡ one_if (line_eq l m) (times done m)
times_last [] l m = refl
times_last (d ∷ done) l m = by (line_eq d m) (line_eq l m) (times_last done l m)
  where
    by : (s t : Bool) → times (done ++ l ∷ []) m ≡ one_if t (times done m)
        → (if s then suc (times (done ++ l ∷ []) m) else times (done ++ l ∷ []) m) ≡ one_if t (if s then suc (times done m) else times done m)
    by true true e = ap suc e
    by true false e = ap suc e
    by false t e = e

module _ (o : Origin) (seen : Seen) (l : Line) (c : Call) (a : Answer) (here : IsLineOf o l) (has : HasAnswer c a)
    (waits : WaitsAt o seen l 0 (Some c)) (knows : KnowsCalls o seen) (explained : IsExplained o (Answered seen l c a)) where
  -- behind the answer the calls wait that waited before it, but for the first on its line
  calls_behind : (tr : Trace) → IsHistory o (Answered seen l c a) tr → IsRun tr
      → (old : Trace) × IsHistory o seen old × IsRun old × ((m : Line) (n : ℕ) → waiting_call_at tr m n ≡ waiting_call_at old m (one_if (line_eq l m) n))
  calls_behind _ (Hears _ old now _ _ _ i alone) run = (
    old,
    i,
    alone_ran old now alone run.0.0,
    λ m n. heard_calls (Then now (Took l c a)) l m c a n ∙ (taken_calls now l m c a n ∙ alone_calls old now m (one_if (line_eq l m) n) alone),
  )

  waits_before : (done : List Line) (m : Line) (d : Call) → IsLineOf o m → WaitsAt o (Answered seen l c a) m (times done m) (Some d)
      → WaitsAt o seen m (times (done ++ l ∷ []) m) (Some d)
  waits_before done m d is later =
      let there = knows m (times (done ++ l ∷ []) m) is in
      let old = calls_behind explained.history explained.is_history explained.runs in
      let same : there.0 ≡ Some d =
      sym (there.1 old.0 old.1 old.2)
      ∙ (ap (waiting_call_at old.0 m) (times_last done l m)
      ∙ (sym (old.3 m (times done m)) ∙ later explained.history explained.is_history explained.runs)) in
      λ tr i run. there.1 tr i run ∙ same

  -- by the answer the call was done
  was_done : (from to : Branch → Standing) → ((b : Branch) → Explained l c a b (from b) (to b)) → WasDone c from to
  was_done from to x = by a has x
    where
      unnamed : (c : Call) (names : List Name) → HasAnswer c (Page names) → asks_of c ≡ None
      unnamed (Calls.Recover n s e) names h = refl
      unnamed _ names h = absurd h

      by : (a : Answer) → HasAnswer c a → ((b : Branch) → Explained l c a b (from b) (to b)) → WasDone c from to
      by (Ret code) h x = (code, x)
      by (Page names) h x = (Codes.Success, λ b. subst (λ z. ExplainsAsked z Codes.Success b (from b) (to b)) (sym (unnamed c names h)) (x b).0)

  -- so where the branches may stand by what was told, they may by what was told before, with the call under way
  pub untold : (stood : Branch → Standing) (done cut : List Line) (f : Branch → Standing)
      → MayAllStand o (Answered seen l c a) (λ b. Comes (Answered seen l c a) b (stood b)) done cut f
      → MayAllStand o seen (λ b. Comes seen b (stood b)) (done ++ l ∷ []) cut f
  untold stood _ _ _ (AsTold f may) =
      UnderWay [] [] (λ b. (may b).0) f l c (AsTold (λ b. (may b).0) (λ b. (may b).1)) here refl waits (was_done (λ b. (may b).0) f (λ b. (may b).2))
  untold stood _ _ _ (UnderWay done cut from to m d may is uncut later was) =
      UnderWay (done ++ l ∷ []) cut from to m d (untold stood done cut from may) is uncut (waits_before done m d is later) was
  untold stood _ _ _ (CutOff done cut from to m may final) = CutOff (done ++ l ∷ []) cut from to m (untold stood done cut from may) final
  untold stood _ _ _ (EndedAlone done cut from to d how may was final) =
      EndedAlone (done ++ l ∷ []) cut from to d how (untold stood done cut from may) was final

-- A session whose last answer was told is one in which that call is under way. It found decided what it found decided.
pub record IsUntold (log : Log) (from to : Branch → Standing) (o : Origin) (seen : Seen) (before : AfterSessions log from) : Type 0 where
  pub after : AfterSessions (LeftBy o seen None) to
  pub decided : (b : Branch) → ((from b ≡ Prepared) × (lists_row o.rows b.gtrid ≡ true)) ⊎ WasFoundDecided b log from before
      → WasFoundDecided b (LeftBy o seen None) to after

pub one_untold : (log : Log) (from to : Branch → Standing) (o : Origin) (seen : Seen) (l : Line) (c : Call) (a : Answer) (done cut : List Line)
    (before : AfterSessions log from) → Finds log o → IsSession o (Answered seen l c a) None → IsLineOf o l → WaitsAt o seen l 0 (Some c) → KnowsCalls o seen
    → MayAllStand o (Answered seen l c a) (λ b. Comes (Answered seen l c a) b (broken (from b))) done cut to → IsUntold log from to o seen before
one_untold log from to o seen l c a done cut before found session here waits knows may = record {
  after = OneMore log from to o seen None (done ++ l ∷ []) cut before found
      (record { old = session.old; keeps = session.keeps.0; on_branches = session.on_branches.0; may_fail = tt })
      (untold o seen l c a here session.keeps.1 waits knows
      (explained log from to (λ b. WasFoundDecided b log from before) (reached log from before) o found (Answered seen l c a) None session done cut may)
      (λ b. broken (from b)) done cut to may);
  decided = λ b was. was;
}
