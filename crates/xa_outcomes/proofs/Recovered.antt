-- A recovery ends what it lists.
use Rattle.std.proofs.Common.{◌≡◌, ◌∙◌, ◌<◌, ◌≤◌, ◌⊎◌, inl, inr, ℕ, List, Option, Some, sym, subst}
use Rattle.std.proofs.lemmas.Bool.{cases_lt}
use Rattle.xa_base.specs.declared.state.Standing.{Standing}
use Rattle.xa_base.specs.declared.state.Standing.TheVariants.{Committed, Prepared, RolledBack}
use Rattle.xa_log.specs.Contract.{Moment}
use Rattle.xa_model.specs.Protocol.{Lists}
use Rattle.xa_model.specs.Trace.{Branch, How, Name, Name.Ours}
use Rattle.xa_outcomes.specs.Outcomes.{IsEndedAs}
use Rattle.xa_outcomes.specs.Recovered.{TellsEndsFound, ServedRecoveriesComplete, TellsOver}
use Rattle.xa_outcomes.specs.Served.{ToldHeuristicEndsStay, WasToldEndedAlone}
use Rattle.xa_server.specs.HeardEnds.{ServedEndsStay, WasToldEndServed}
use Rattle.xa_server.specs.Sessions.{AreServed, AreServed.Between, AreServed.NoneYet, AreServed.OneMore}
use Rattle.xa_server.specs.declared.server.Server.{Server}

module _ {L : Type 0} (moment : L → Moment) (name : List ℕ) where
  -- one of these sessions was told that it has ended
  abbrev WasOver : Branch → (last : Option (Server L)) (f : Branch → Standing) → AreServed moment name last f → Type 0
  WasOver b last f served =
      WasToldEndServed moment name b Committed last f served
      ⊎ (WasToldEndServed moment name b RolledBack last f served ⊎ ((how : How) × WasToldEndedAlone moment name b how last f served))

  was_over : (i rm : ℕ) (names : List Name) (last : Option (Server L)) (f : Branch → Standing) (served : AreServed moment name last f)
      → TellsEndsFound moment name i rm names last f served → (b : Branch) → b.gtrid.incarnation < i → Lists names (Ours b) → WasOver b last f served
  was_over i rm names _ _ NoneYet ends b older listed = absurd ends
  was_over i rm names _ _ (OneMore last from to handed o told seen now left done cut before handed_on is is_left honest may) ends b older listed =
      by (ends.1.ended b (subst (λ n. b.gtrid.incarnation < n) ends.0 older) listed)
    where
      by : TellsOver b told → WasOver b (Some left) to (OneMore last from to handed o told seen now left done cut before handed_on is is_left honest may)
      by (inl t) = inl (inl t)
      by (inr (inl t)) = inr (inl (inl t))
      by (inr (inr (how, t))) = inr (inr (how, inl t))
  was_over i rm names _ _ (Between last from to d how before was final) ends b older listed = was_over i rm names last from before ends b older listed

pub recoveries_complete : {L : Type 0} (moment : L → Moment) → ServedEndsStay moment → ToldHeuristicEndsStay moment → ServedRecoveriesComplete moment
recoveries_complete moment ends_stay alone_stay name last f c served i rm names left ends whole b at prepared = by (cases_lt b.gtrid.incarnation i)
  where
    not_over : WasOver moment name b (Some last) f served → ⊥
    not_over (inl t) = let e : Prepared ≡ Committed = sym prepared ∙ ends_stay name (Some last) f served b Committed t in absurd (cc)
    not_over (inr (inl t)) = let e : Prepared ≡ RolledBack = sym prepared ∙ ends_stay name (Some last) f served b RolledBack t in absurd (cc)
    not_over (inr (inr (how, t))) = subst (IsEndedAs how) prepared (alone_stay name last f c served b how left t)

    by : (b.gtrid.incarnation < i) ⊎ (i ≤ b.gtrid.incarnation) → i ≤ b.gtrid.incarnation
    by (inl older) = absurd (not_over (was_over moment name i rm names (Some last) f served ends b older (whole b at older prepared)))
    by (inr own) = own
