-- The transactions that the two have in common are kept by whatever happens in both.
use Rattle.std.proofs.Common.{◌≡◌, ℕ, ◌<◌, ◌+◌, [], Bool, true, false, not, ◌&&◌, ◌||◌, refl, ap, ◌∙◌, subst, arith}
use Rattle.std.specs.Prelude.{if◌then◌else◌}
use Rattle.xa_base.specs.Branch.{gtrid_eq}
use Rattle.xa_base.proofs.BranchKeys.{gtrid_eq-true}
use Rattle.xa_base.specs.declared.call.Call.TheVariants as Calls
use Rattle.xa_base.specs.declared.step.Part.TheVariants as Part
use Rattle.xa_model.specs.Facts.{up, incarnation, sequence, begun, decided_so, handed_over, claimed, live, page, page_after, lists_one_of}
use Rattle.xa_model.specs.Protocol.{Right}
use Rattle.xa_model.specs.Trace.{Gtrid, Outcome, Happening, Happening.Begun, Happening.Issued, Happening.ResolvedOpen, Happening.Claimed, Happening.Decided, Happening.Crashed, Happening.Failed, Happening.Restarted, Trace, Trace.Then, line}
use Rattle.xa_model.proofs.Invariant.{Inv}
use Rattle.xa_model.proofs.Invariant.Now.{live_begun}
use Rattle.xa_model.proofs.ProcessLemmas.Since.{IsLater, none_decided, none_handed}
use Rattle.xa_model.proofs.ProcessLemmas.SameParts.{SameDeals, or_more, live_of, given_up, breaks_is}

module _ (past : Trace) (inv : Inv past) where
  old_deals : (tr ur : Trace) → SameDeals past tr ur → (g : Gtrid) → begun ur g ≡ true
      → (decided_so Outcome.Commit past g ≡ false) × (decided_so Outcome.Rollback past g ≡ false) × (handed_over past g ≡ false)
  old_deals tr ur d g b = (
    none_decided past Outcome.Commit g inv (d.begun_later g b),
    none_decided past Outcome.Rollback g inv (d.begun_later g b),
    none_handed past g inv (d.begun_later g b),
  )

  pub live_is : (tr ur : Trace) → SameDeals past tr ur → (g : Gtrid) → live tr g ≡ live ur g
  live_is tr ur d g =
      (λ i. d.begun_is g i && not (d.decided_is Outcome.Commit g i || (d.decided_is Outcome.Rollback g i || d.handed_is g i)))
      ∙ live_of (begun ur g) (decided_so Outcome.Commit ur g) (decided_so Outcome.Commit past g) (decided_so Outcome.Rollback ur g)
      (decided_so Outcome.Rollback past g) (handed_over ur g) (handed_over past g) (old_deals tr ur d g)

  pub live_later : (tr ur : Trace) → SameDeals past tr ur → (g : Gtrid) → live ur g ≡ true → IsLater past g
  live_later tr ur d g l = d.begun_later g (live_begun ur g l)

  module _ (tr ur : Trace) (d : SameDeals past tr ur) where
    up_after : (e : Happening) → up (Then tr e) ≡ up (Then ur e)
    up_after (Crashed Part.Manager) = refl
    up_after (Failed f) = refl
    up_after (Restarted i n h) = refl
    up_after _ = d.up_is

    incarnation_after : (e : Happening) → incarnation (Then tr e) ≡ incarnation (Then ur e)
    incarnation_after (Restarted i n h) = refl
    incarnation_after _ = d.incarnation_is

    later_after : (e : Happening) → Right ur e → incarnation past < incarnation (Then ur e)
    later_after (Restarted i n h) r = let l = d.later in omega (arith, l, r.1)
    later_after _ r = d.later

    sequence_after : (e : Happening) → sequence (Then tr e) ≡ sequence (Then ur e)
    sequence_after (Begun g) = ap (λ n. n + 1) d.sequence_is
    sequence_after (Restarted i n h) = refl
    sequence_after _ = d.sequence_is

    begun_after : (e : Happening) (g : Gtrid) → begun (Then tr e) g ≡ begun (Then ur e) g
    begun_after (Begun h) g = ap (λ t. gtrid_eq h g || t) (d.begun_is g)
    begun_after (Crashed Part.Manager) g = refl
    begun_after (Failed f) g = refl
    begun_after (Restarted i n h) g = refl
    begun_after _ g = d.begun_is g

    begun_later_after : (e : Happening) (g : Gtrid) → Right ur e → begun (Then ur e) g ≡ true → IsLater past g
    begun_later_after (Begun h) g r b = by_test (gtrid_eq h g) refl b
      where
        by_test : (t : Bool) → gtrid_eq h g ≡ t → (t || begun ur g) ≡ true → IsLater past g
        by_test true s k =
            let same = gtrid_eq-true h g s in
            subst (IsLater past) same (let l = d.later in let i = r.1 in omega (arith, l, i))
        by_test false s k = d.begun_later g k
    begun_later_after (Crashed Part.Manager) g r b = absurd (cc)
    begun_later_after (Failed f) g r b = absurd (cc)
    begun_later_after (Restarted i n h) g r b = absurd (cc)
    begun_later_after _ g r b = d.begun_later g b

    claimed_after : (e : Happening) (g : Gtrid) → claimed (Then tr e) g ≡ claimed (Then ur e) g
    claimed_after (Claimed h) g = ap (λ t. gtrid_eq h g || t) (d.claimed_is g)
    claimed_after (Decided h o) g = ap (λ t. not (gtrid_eq h g) && t) (d.claimed_is g)
    claimed_after (Crashed Part.Manager) g = refl
    claimed_after (Failed f) g = refl
    claimed_after (Restarted i n h) g = refl
    claimed_after _ g = d.claimed_is g

    handed_after : (e : Happening) (g : Gtrid) → handed_over (Then tr e) g ≡ (handed_over (Then ur e) g || handed_over past g)
    handed_after (Issued l (Calls.Commit b true)) g = or_more (gtrid_eq b.gtrid g) _ _ _ (d.handed_is g)
    handed_after _ g = d.handed_is g

    decided_after : (e : Happening) (o : Outcome) (g : Gtrid) → decided_so o (Then tr e) g ≡ (decided_so o (Then ur e) g || decided_so o past g)
    decided_after (Decided h Outcome.Commit) Outcome.Commit g = or_more (gtrid_eq h g) _ _ _ (d.decided_is Outcome.Commit g)
    decided_after (Decided h Outcome.Rollback) Outcome.Rollback g = or_more (gtrid_eq h g) _ _ _ (d.decided_is Outcome.Rollback g)
    decided_after (ResolvedOpen r) Outcome.Rollback g =
        (λ i. (lists_one_of g (d.page_is r i) && (d.begun_is g i && not (d.claimed_is g i || (d.decided_is Outcome.Commit g i || d.handed_is g i))))
        || d.decided_is Outcome.Rollback g i)
        ∙ given_up (lists_one_of g (page ur r)) (begun ur g) (claimed ur g) (decided_so Outcome.Commit ur g) (decided_so Outcome.Commit past g)
        (handed_over ur g) (handed_over past g) (decided_so Outcome.Rollback ur g) (decided_so Outcome.Rollback past g)
        (λ b. let n = old_deals tr ur d g b in (n.0, n.2))
    decided_after _ Outcome.Commit g = d.decided_is Outcome.Commit g
    decided_after _ Outcome.Rollback g = d.decided_is Outcome.Rollback g

    page_event : (e : Happening) (r : ℕ) → page_after (page tr r) e r ≡ page_after (page ur r) e r
    page_event e r = ap (λ ns. page_after ns e r) (d.page_is r)

    page_is_after : (e : Happening) (r : ℕ) → page (Then tr e) r ≡ page (Then ur e) r
    page_is_after e r = λ i. if breaks_is tr ur e (line 0 r) d.up_is i then [] else page_event e r i

    pub deals_after : (e : Happening) → Right ur e → SameDeals past (Then tr e) (Then ur e)
    deals_after e r = record {
      later = later_after e r;
      up_is = up_after e;
      incarnation_is = incarnation_after e;
      sequence_is = sequence_after e;
      begun_is = begun_after e;
      begun_later = λ g b. begun_later_after e g r b;
      claimed_is = claimed_after e;
      decided_is = decided_after e;
      handed_is = handed_after e;
      page_is = page_is_after e;
    }
