-- Two sessions of one log, worked out.
use Rattle.std.proofs.Common.{◌≡◌, ◌∙◌, inl, ℕ, Bool, true, false, List, [], Some, refl, sym, ap, arith}
use Rattle.std.specs.Prelude.{if◌then◌else◌}
use Rattle.xa_base.proofs.BranchKeys.{branch_eq-refl, branch_eq-true}
use Rattle.xa_base.specs.Branch.{branch_eq}
use Rattle.xa_base.specs.StateTable.{Kind, Kind.Commit as Commits, Kind.End as Ends, Kind.Prepare as Prepares, Kind.Start as Starts, broken}
use Rattle.xa_base.specs.declared.branch.Gtrid.{Gtrid}
use Rattle.xa_base.specs.declared.code.Code.TheVariants.{Success}
use Rattle.xa_base.specs.declared.state.Standing.{Standing}
use Rattle.xa_base.specs.declared.state.Standing.TheVariants.{Active, Committed, Completed, Idle, Prepared, Unstarted}
use Rattle.xa_base.specs.declared.vote.Vote.TheVariants.{Yes}
use Rattle.xa_log.specs.Contract.{Moment}
use Rattle.xa_model.specs.Trace.{Branch, Code, How}
use Rattle.xa_monitor.specs.Agreement.{MayAllStand.AsTold}
use Rattle.xa_monitor.specs.Standings.{Comes, Explains, ExplainsIf}
use Rattle.xa_server.specs.Sessions.{AreServed, AreServed.NoneYet, AreServed.Between, AreServed.OneMore, IsSessionLeft.AfterLine}
use Rattle.xa_server.specs.Transactions.{AreServedFor.NoneYet as NoneYetFor, AreServedFor.OneMore as OneMoreFor, MayStandFor.AsTold as AsToldFor}
use Rattle.xa_server.specs.declared.server.Server.{Server}
use Rattle.xa_outcomes.specs.WorkedSessions.{MayStandApart, TellThis, at_one, at_two, stand_at, told_second, votes_told}

module _ (g : Gtrid) where
  abbrev a : Branch
  a = at_one g

  abbrev b : Branch
  b = at_two g

  apart : (x : Branch) → branch_eq a x ≡ true → branch_eq b x ≡ true → ⊥
  apart x e f =
      let same : a ≡ b = branch_eq-true a x e ∙ sym (branch_eq-true b x f) in
      let no : 0 ≡ 1 = ap (λ (y : Branch). y.rm) same in omega (arith, no)

  -- ** one call

  on_one : (sa sb to : Standing) (k : Kind) (code : Code) → Explains sa k code to → (x : Branch)
      → ExplainsIf (branch_eq a x) (stand_at g sa sb x) k code (stand_at g to sb x)
  on_one sa sb to k code e x = by (branch_eq a x) (if branch_eq b x then sb else Unstarted)
    where
      by : (t : Bool) (rest : Standing) → ExplainsIf t (if t then sa else rest) k code (if t then to else rest)
      by true rest = e
      by false rest = refl

  on_two : (sa sb to : Standing) (k : Kind) (code : Code) → Explains sb k code to → (x : Branch)
      → ExplainsIf (branch_eq b x) (stand_at g sa sb x) k code (stand_at g sa to x)
  on_two sa sb to k code e x = by (branch_eq a x) (branch_eq b x) (apart x)
    where
      by : (t u : Bool) → (t ≡ true → u ≡ true → ⊥)
          → ExplainsIf u (if t then sa else (if u then sb else Unstarted)) k code (if t then sa else (if u then to else Unstarted))
      by true true both = absurd (both refl refl)
      by true false both = refl
      by false true both = e
      by false false both = refl

  starting : Explains Unstarted Starts Success Active
  starting = record { as_called = Unstarted; alone = inl refl; vote = Yes; retries = 0; answers = refl; moves = refl }

  ending : Explains Active (Ends false) Success Idle
  ending = record { as_called = Active; alone = inl refl; vote = Yes; retries = 0; answers = refl; moves = refl }

  preparing : Explains Idle Prepares Success Prepared
  preparing = record { as_called = Idle; alone = inl refl; vote = Yes; retries = 0; answers = refl; moves = refl }

  committing : Explains Prepared Commits Success Committed
  committing = record { as_called = Prepared; alone = inl refl; vote = Yes; retries = 0; answers = refl; moves = refl }

  -- ** the first session

  none : (x : Branch) → stand_at g Unstarted Unstarted x ≡ Unstarted
  none x = by (branch_eq a x) (branch_eq b x)
    where
      by : (t u : Bool) → (if t then Unstarted else (if u then Unstarted else Unstarted)) ≡ Unstarted
      by true u = refl
      by false true = refl
      by false false = refl

  abbrev now : (sa sb : Standing) → Branch → Standing
  now sa sb x = stand_at g sa sb x

  pub to_both : (x : Branch) → Comes (votes_told g) x Unstarted (now Prepared Prepared x)
  to_both x = (
    now Prepared Idle x,
    (
      now Prepared Active x,
      (
        now Prepared Unstarted x,
        (
          now Prepared Unstarted x,
          (
            now Idle Unstarted x,
            (
              now Active Unstarted x,
              (
                now Unstarted Unstarted x,
                (now Unstarted Unstarted x, none x, refl),
                on_one Unstarted Unstarted Active Starts Success starting x,
              ),
              on_one Active Unstarted Idle (Ends false) Success ending x,
            ),
            on_one Idle Unstarted Prepared Prepares Success preparing x,
          ),
          refl,
        ),
        on_two Prepared Unstarted Active Starts Success starting x,
      ),
      on_two Prepared Active Idle (Ends false) Success ending x,
    ),
    on_two Prepared Idle Prepared Prepares Success preparing x,
  )

  -- ** the second session

  commits : (x : Branch) → ExplainsIf (branch_eq a x) (broken (now Prepared Prepared x)) Commits Success (now Committed Prepared x)
  commits x = by (branch_eq a x) (branch_eq b x)
    where
      by : (t u : Bool)
          → ExplainsIf t (broken (if t then Prepared else (if u then Prepared else Unstarted))) Commits Success
          (if t then Committed else (if u then Prepared else Unstarted))
      by true u = committing
      by false true = refl
      by false false = refl

  comes_second : (x : Branch) → Comes (told_second g) x (broken (now Prepared Prepared x)) (now Committed Prepared x)
  comes_second x = (broken (now Prepared Prepared x), (broken (now Prepared Prepared x), refl, refl), commits x)

  -- ** both

  module _ {L : Type 0} (moment : L → Moment) (name : List ℕ) (last : Server L) (tell : TellThis moment name g last) where
    -- after the first session both stand prepared
    abbrev pub first_served : AreServed moment name (Some tell.first) (now Prepared Prepared)
    first_served =
        OneMore _ (λ x. Unstarted) (now Prepared Prepared) tell.handed tell.one (votes_told g) (votes_told g) tell.now tell.first [] [] NoneYet
        (record { left = tell.empty; was_left = tell.is_empty; holds = tell.holds }) tell.session tell.is_left tell.honest
        (AsTold (now Prepared Prepared) to_both)

    worked : MayStandApart moment name g last
    worked = record {
      served =
          OneMore (Some tell.first) (now Prepared Prepared) (now Committed Prepared) tell.next tell.two (told_second g) (told_second g)
          last last [] []
          first_served (record { left = tell.mid; was_left = tell.leaves_mid; holds = tell.holds_mid }) tell.second AfterLine tell.honest_last
          (AsTold (now Committed Prepared) (λ x. comes_second x));
      alone = λ left leaves.
          OneMoreFor tell.mid left (now Prepared Prepared) (now Committed Prepared) tell.next tell.two (told_second g) (told_second g)
          last last [] []
          (OneMoreFor tell.empty tell.mid (λ x. Unstarted) (now Prepared Prepared) tell.handed tell.one (votes_told g) (votes_told g) tell.now
          tell.first [] []
          (NoneYetFor tell.empty tell.is_empty) tell.holds tell.session tell.is_left tell.honest
          (AsToldFor (now Prepared Prepared) (λ x is. to_both x)) tell.leaves_mid)
          tell.holds_mid tell.second AfterLine tell.honest_last (AsToldFor (now Committed Prepared) (λ x is. comes_second x)) leaves;
      committed = ap (λ t. if t then Committed else (if branch_eq b a then Prepared else Unstarted)) (branch_eq-refl a);
      prepared = two_is (branch_eq a b) refl;
    }
      where
        two_is : (t : Bool) → branch_eq a b ≡ t → (if t then Committed else (if branch_eq b b then Prepared else Unstarted)) ≡ Prepared
        two_is true e = absurd (apart b e (branch_eq-refl b))
        two_is false e = ap (λ t. if t then Prepared else Unstarted) (branch_eq-refl b)

    -- or the database has ended the other by itself since
    ended : (how : How) → AreServed moment name (Some last) (now Committed (Completed how))
    ended how = Between (Some last) (now Committed Prepared) (now Committed (Completed how)) b how worked.served worked.prepared alone
      where
        alone : (x : Branch) → now Committed (Completed how) x ≡ (if branch_eq b x then Completed how else now Committed Prepared x)
        alone x = by (branch_eq a x) (branch_eq b x) (apart x)
          where
            by : (t u : Bool) → (t ≡ true → u ≡ true → ⊥)
                → (if t then Committed else (if u then Completed how else Unstarted))
                ≡ (if u then Completed how else (if t then Committed else (if u then Prepared else Unstarted)))
            by true true both = absurd (both refl refl)
            by true false both = refl
            by false true both = refl
            by false false both = refl

pub stand_apart : {L : Type 0} (moment : L → Moment) (name : List ℕ) (g : Gtrid) (last : Server L) → TellThis moment name g last
    → MayStandApart moment name g last
stand_apart moment name g last tell = worked g moment name last tell

pub ended_alone : {L : Type 0} (moment : L → Moment) (name : List ℕ) (g : Gtrid) (last : Server L) → TellThis moment name g last
    → (how : How) → AreServed moment name (Some last) (stand_at g Committed (Completed how))
ended_alone moment name g last tell how = ended g moment name last tell how
