-- A branch stands where its own deeds leave it.
use Rattle.std.proofs.Common.{◌≡◌, ◌∙◌, Bool, true, false, Option, Some, None, refl, sym, ap}
use Rattle.std.specs.Prelude.{if◌then◌else◌}
use Rattle.xa_base.specs.Branch.{branch_eq}
use Rattle.xa_base.specs.StateTable.{Kind, asks_of, broken, completed, moved}
use Rattle.xa_base.specs.declared.answer.Answer.TheVariants.{Page, Ret}
use Rattle.xa_base.specs.declared.state.Standing.{Standing}
use Rattle.xa_drivers.specs.Deeds.{Deeds, Deeds.Did, Deeds.Ended, Deeds.Made, Deeds.Nothing, Deeds.Severed, Deeds.Told, Deeds.ToldLost, StandByOwnDeeds, asks_it, own, stands}
use Rattle.xa_model.specs.Facts.Standings.{moved_by}
use Rattle.xa_model.specs.Trace.{Branch, Call, Code, How, Line, line_eq, line_of}

module _ (from : Branch → Standing) (b : Branch) where
  abbrev now : Deeds → Standing
  now ds = stands from ds b

  made : (ds : Deeds) (l : Line) (c : Call) (a : Code) → now ds ≡ now (own b ds) → now (Made ds l c (Ret a)) ≡ now (own b (Made ds l c (Ret a)))
  made ds l c a e = by (asks_of c) refl
    where
      by : (q : Option (Kind × Branch)) → asks_of c ≡ q
          → moved_by q a b (now ds) ≡ now (if asks_it q b then Made (own b ds) l c (Ret a) else own b ds)
      by None is = e
      by (Some (k, d)) is = on (branch_eq d b) refl
        where
          on : (t : Bool) → branch_eq d b ≡ t
              → (if t then moved (now ds) k a else now ds) ≡ now (if t then Made (own b ds) l c (Ret a) else own b ds)
          on false i = e
          on true i =
              ap (λ f. moved f k a) e
              ∙ sym (ap (λ z. moved_by z a b (now (own b ds))) is ∙ ap (λ t. if t then moved (now (own b ds)) k a else now (own b ds)) i)

  severed : (ds : Deeds) (l : Line) → now ds ≡ now (own b ds) → now (Severed ds l) ≡ now (own b (Severed ds l))
  severed ds l e = on (line_eq l (line_of b)) refl
    where
      on : (t : Bool) → line_eq l (line_of b) ≡ t
          → (if t then broken (now ds) else now ds) ≡ now (if t then Severed (own b ds) l else own b ds)
      on false i = e
      on true i = ap broken e ∙ sym (ap (λ t. if t then broken (now (own b ds)) else now (own b ds)) i)

  ended : (ds : Deeds) (d : Branch) (how : How) → now ds ≡ now (own b ds) → now (Ended ds d how) ≡ now (own b (Ended ds d how))
  ended ds d how e = on (branch_eq d b) refl
    where
      on : (t : Bool) → branch_eq d b ≡ t
          → (if t then completed (now ds) how else now ds) ≡ now (if t then Ended (own b ds) d how else own b ds)
      on false i = e
      on true i = ap (λ f. completed f how) e ∙ sym (ap (λ t. if t then completed (now (own b ds)) how else now (own b ds)) i)

  by_own : (ds : Deeds) → now ds ≡ now (own b ds)
  by_own Nothing = refl
  by_own (Did ds e) = by_own ds
  by_own (Made ds l c (Ret a)) = made ds l c a (by_own ds)
  by_own (Made ds l c (Page names)) = by_own ds
  by_own (Severed ds l) = severed ds l (by_own ds)
  by_own (Ended ds d how) = ended ds d how (by_own ds)
  by_own (Told ds l c a) = by_own ds
  by_own (ToldLost ds l c) = by_own ds

pub stand_by_own : StandByOwnDeeds
stand_by_own from ds es b same = by_own from b ds ∙ (ap (λ xs. stands from xs b) same ∙ sym (by_own from b es))
