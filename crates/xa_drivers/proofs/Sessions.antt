-- Sessions of faithful drivers are served sessions.
use Rattle.std.proofs.Common.{◌≡◌, subst, sym}
use Rattle.xa_base.specs.StateTable.{broken}
use Rattle.xa_drivers.specs.Deeds.{stands}
use Rattle.xa_drivers.specs.Faithful.{DriversSuffice}
use Rattle.xa_drivers.specs.Sessions.{AreDriven.Between, AreDriven.NoneYet, AreDriven.OneMore, AreDrivenFor.Between as BetweenFor, AreDrivenFor.NoneYet as NoneYetFor, AreDrivenFor.OneMore as OneMoreFor, DrivenAreServed, DrivenAreServedFor, DrivenSessionsGoOn, DriversSufficeFor, at_start}
use Rattle.xa_log.specs.Contract.{Moment}
use Rattle.xa_monitor.specs.Agreement.{MayAllStand}
use Rattle.xa_monitor.specs.Standings.{Comes}
use Rattle.xa_server.specs.LeftSessions.{SessionsGoOn, under}
use Rattle.xa_server.specs.Sessions.{AreServed.Between as BetweenServed, AreServed.NoneYet as NoneServed, AreServed.OneMore as OneServed}
use Rattle.xa_server.specs.Transactions.{AreServedFor.Between as BetweenServedFor, AreServedFor.NoneYet as NoneServedFor, AreServedFor.OneMore as OneServedFor, MayStandFor}

module _ {L : Type 0} (moment : L → Moment) where
  pub served : DriversSuffice → DrivenAreServed moment
  served suffice name _ _ NoneYet = NoneServed
  served suffice name _ _ (OneMore last from handed o told seen now left ds before has is is_left honest deeds obey) =
      let s = suffice o (at_start from) ds deeds.faithful obey in
      OneServed last from (stands (at_start from) ds) handed o told seen now left s.done s.cut (served suffice name last from before) has is is_left honest
      (subst (λ x. MayAllStand o x (λ b. Comes x b (broken (from b))) s.done s.cut (stands (at_start from) ds)) deeds.tell s.may)
  served suffice name last _ (Between _ from to d how before was final) =
      BetweenServed last from to d how (served suffice name last from before) was final

  pub go_on : DriversSuffice → SessionsGoOn moment → DrivenSessionsGoOn moment
  go_on suffice on name from to c d found more handed o told seen now left ds have decided has is is_left honest deeds obey there leaves =
      let s = suffice o (at_start (under name from)) ds deeds.faithful obey in
      on name from to c d found more handed o told seen now left s.done s.cut have decided has is is_left honest
      (subst (MayAllStand o seen (λ b. Comes seen b (broken (under name from b))) s.done s.cut)
      (let same : stands (at_start (under name from)) ds ≡ under name to = λ i b. (sym (there b)) i in same)
      (subst (λ x. MayAllStand o x (λ b. Comes x b (broken (under name from b))) s.done s.cut (stands (at_start (under name from)) ds)) deeds.tell s.may)) leaves

  pub served_for : DriversSufficeFor → DrivenAreServedFor moment
  served_for suffice name g _ _ (NoneYetFor c empty) = NoneServedFor c empty
  served_for suffice name g _ _ (OneMoreFor c d from handed o told seen now left ds before has is is_left honest deeds obey leaves) =
      let s = suffice g o (at_start from) ds deeds.faithful obey in
      OneServedFor c d from (stands (at_start from) ds) handed o told seen now left s.done s.cut (served_for suffice name g c from before) has is is_left honest
      (subst (λ x. MayStandFor g o x (λ b. Comes x b (broken (from b))) s.done s.cut (stands (at_start from) ds)) deeds.tell s.may) leaves
  served_for suffice name g c _ (BetweenFor _ from to d before turns others) =
      BetweenServedFor c from to d (served_for suffice name g c from before) turns others
