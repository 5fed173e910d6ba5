-- Another start of the same log, and a session that was left in a step.
use Rattle.std.proofs.Common.{◌≡◌, ◌<◌, ◌⊎◌, inl, inr, ℕ, List, Bool, true, false, refl, arith}
use Rattle.std.specs.Prelude.{if◌then◌else◌, Option, Some, None}
use Rattle.xa_base.specs.HeldBranch.{HeldBranch}
use Rattle.xa_base.specs.StateTable.{broken}
use Rattle.xa_base.specs.Xid.{Xid}
use Rattle.xa_base.specs.declared.state.Standing.{Standing}
use Rattle.xa_base.specs.declared.state.Standing.TheVariants.{Active, Committed, Completed, Forgotten, Idle, Lost, Prepared, ReadOnly, RollbackOnly, RolledBack, Unstarted}
use Rattle.xa_base.proofs.StateLemmas.{broken_twice}
use Rattle.xa_model.proofs.Invariant.{HasBegun, Inv, IsOlder, Old}
use Rattle.xa_model.proofs.Invariant.Now.{begun_or_older, older_closed}
use Rattle.xa_model.specs.Facts.{incarnation, origin, standing, started, up}
use Rattle.xa_model.specs.Promises.Processes.{AllAreNamed}
use Rattle.xa_model.specs.Protocol.{IsRun}
use Rattle.xa_model.specs.Trace.{Branch, Fault, Gtrid, Line, Origin, Trace}
use Rattle.xa_monitor.specs.Agreement.{MayAllStand, MayAllStand.AsTold, MayAllStand.CutOff, MayAllStand.EndedAlone, MayAllStand.UnderWay}
use Rattle.xa_monitor.specs.Seen.{IsHistory, IsHistory.Does, IsHistory.Hears, IsHistory.Loses, IsHistory.LosesAnswer, IsHistory.Starts, KeepsRules, Seen, Seen.Answered, Seen.Did, Seen.Lost, Seen.Start}
use Rattle.xa_monitor.specs.Sessions.{MayFail, failed_in}
use Rattle.xa_monitor.proofs.Books.{AsksIf, SameBooks}
use Rattle.xa_monitor.proofs.RunSteps.{unstarted_still}

-- ** standings

pub prepared_whole : (s : Standing) → broken s ≡ Prepared → s ≡ Prepared
prepared_whole Active e = absurd (cc)
prepared_whole Idle e = absurd (cc)
prepared_whole RollbackOnly e = absurd (cc)
prepared_whole s e = e

pub not_begun : (s : Standing) → (HasBegun s → ⊥) → s ≡ Unstarted
not_begun Unstarted n = refl
not_begun Active n = absurd (n tt)
not_begun Idle n = absurd (n tt)
not_begun Prepared n = absurd (n tt)
not_begun RollbackOnly n = absurd (n tt)
not_begun (Completed how) n = absurd (n tt)
not_begun Committed n = absurd (n tt)
not_begun RolledBack n = absurd (n tt)
not_begun Lost n = absurd (n tt)
not_begun ReadOnly n = absurd (n tt)
not_begun (Forgotten how) n = absurd (n tt)

not_old : (past : Trace) (g : Gtrid) → incarnation past < g.incarnation → Old past g → ⊥
not_old past g n (inl o) = omega arith
not_old past g n (inr o) = let i = o.0 in omega arith

pub none_begun : (past : Trace) (b : Branch) → Inv past → incarnation past < b.gtrid.incarnation → HasBegun (standing past b) → ⊥
none_begun past b inv n h = by_case (begun_or_older past b inv h)
  where
    by_case : (started past b ≡ true) ⊎ IsOlder past b → ⊥
    by_case (inl s) = not_old past b.gtrid n (inv.started_old b s)
    by_case (inr o) = not_old past b.gtrid n (older_closed past b inv o).old

-- ** another start of the same log

module _ (o : Origin) (held : ℕ → Xid → HeldBranch) where
  abbrev with_held : Origin
  with_held = record o { held = held }

  pub history_back : (seen : Seen) (tr : Trace) → IsHistory with_held seen tr → IsHistory o seen tr
  history_back _ _ (Starts h) = Starts h
  history_back _ _ (Does seen tr e i) = Does seen tr e (history_back seen tr i)
  history_back _ _ (Hears seen tr now l c a i alone) = Hears seen tr now l c a (history_back seen tr i) alone
  history_back _ _ (Loses seen tr l c i) = Loses seen tr l c (history_back seen tr i)
  history_back _ _ (LosesAnswer seen tr now l c a i alone) = LosesAnswer seen tr now l c a (history_back seen tr i) alone

  pub rules_back : (seen : Seen) → KeepsRules o seen → KeepsRules with_held seen
  rules_back Start k = tt
  rules_back (Did seen e) k = (rules_back seen k.0, k.1, λ tr i run. k.2 tr (history_back seen tr i) run)
  rules_back (Answered seen l c a) k = (rules_back seen k.0, k.1, λ tr i run. k.2 tr (history_back seen tr i) run)
  rules_back (Lost seen l c) k = (rules_back seen k.0, λ tr i run. k.1 tr (history_back seen tr i) run)

  pub stands_back : (seen : Seen) (Told New : Branch → Standing → Type 0) → ((b : Branch) (s : Standing) → Told b s → New b s)
      → (done cut : List Line) (f : Branch → Standing) → MayAllStand o seen Told done cut f → MayAllStand with_held seen New done cut f
  stands_back seen Told New same _ _ _ (AsTold f may) = AsTold f (λ b. same b (f b) (may b))
  stands_back seen Told New same _ _ _ (UnderWay done cut from to l c may has uncut waits was) =
      UnderWay done cut from to l c (stands_back seen Told New same done cut from may) has uncut (λ tr i run. waits tr (history_back seen tr i) run) was
  stands_back seen Told New same _ _ _ (CutOff done cut from to l may final) =
      CutOff done cut from to l (stands_back seen Told New same done cut from may) final
  stands_back seen Told New same _ _ _ (EndedAlone done cut from to d how may was final) =
      EndedAlone done cut from to d how (stands_back seen Told New same done cut from may) was final

-- ** a session that was left in a step

pub run_failed : (fails : Option Fault) (o : Origin) (seen : Seen) (now told : Trace) → MayFail o seen fails → IsHistory o seen told → IsRun told
    → SameBooks now told → IsRun now → IsRun (failed_in fails now)
run_failed None o seen now told may history told_runs same run = run
run_failed (Some f) o seen now told may history told_runs same run = (run, same.faults f may.0 (may.1 told history told_runs))

pub asks_if : (fails : Option Fault) (o : Origin) (seen : Seen) → MayFail o seen fails → AsksIf fails
asks_if None o seen may = tt
asks_if (Some f) o seen may = may.0

pub origin_failed : (fails : Option Fault) (tr : Trace) → origin (failed_in fails tr) ≡ origin tr
origin_failed None tr = refl
origin_failed (Some f) tr = refl

pub named_failed : (fails : Option Fault) (tr : Trace) → AllAreNamed tr → AllAreNamed (failed_in fails tr)
named_failed None tr named = named
named_failed (Some f) tr named = λ b unfit. let n = named b unfit in (unstarted_still (up tr) (standing tr b) n.0, n.1, n.2)

pub broken_failed : (fails : Option Fault) (tr : Trace) (b : Branch) → broken (standing (failed_in fails tr) b) ≡ broken (standing tr b)
broken_failed None tr b = refl
broken_failed (Some f) tr b = by (up tr)
  where
    by : (t : Bool) → broken (if t then broken (standing tr b) else standing tr b) ≡ broken (standing tr b)
    by true = broken_twice (standing tr b)
    by false = refl
