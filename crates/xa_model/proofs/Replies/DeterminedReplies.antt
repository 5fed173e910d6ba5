-- A history determines the value of each step but a restart of the manager. And a transaction that was handed over has a
-- branch.
use Rattle.std.proofs.Common.{◌≡◌, true, refl, sym, ap, ◌∙◌, subst, ◌⊎◌}
use Rattle.std.specs.Prelude.{Some, None}
use mathlib.Core.Logic.{◌⊎◌.inl, ◌⊎◌.inr}
use Rattle.xa_base.specs.declared.call.Call.TheVariants as Calls
use Rattle.xa_base.specs.declared.step.Step.TheVariants as Steps
use Rattle.xa_base.specs.declared.reply.Reply.TheVariants as Replies
use Rattle.xa_base.specs.Call.{map_call}
use Rattle.xa_base.specs.declared.step.Side.TheVariants as Side
use Rattle.xa_model.specs.Replies.Allowed.{Takes, Takes.Takes_one, Takes.Takes_none, Hears, Hears.Hears_one, Hears.Hears_none, IsValue, IsDetermined}
use Rattle.xa_model.specs.Facts.{handed_over, started}
use Rattle.xa_model.specs.Protocol.{Right, RightAnswer, IsRun}
use Rattle.xa_model.specs.Replies.Steps.{Step, Reply}
use Rattle.xa_model.specs.Trace.{Gtrid, Branch, Line, Name.Ours, Call, Answer, Happening.Issued, Trace, Trace.From, Trace.Then, line}
use Rattle.xa_model.proofs.Invariant.Grows.{started_kept, handed_new}

same_answer : (tr : Trace) (l : Line) (c : Call) (a b : Answer) → RightAnswer tr l c a → RightAnswer tr l c b → a ≡ b
same_answer tr l Calls.OpenRm x y p q = p ∙ sym q
same_answer tr l _ x y p q = p ∙ sym q

same_taken : (tr : Trace) (l : Line) (q r : Reply) → Takes tr l q → Takes tr l r → q ≡ r
same_taken tr l q r (Takes_one c a h k) (Takes_one d b i j) =
    let both : Some c ≡ Some d = sym h ∙ i in
    let one : c ≡ d = cc in
    let same : a ≡ b = same_answer tr l c a b k (subst (λ x. RightAnswer tr l x b) (sym one) j) in
    λ i. Replies.Took (map_call Ours (one i)) (same i)
same_taken tr l q r (Takes_one c a h k) (Takes_none i) = absurd (let no : Some c ≡ None = sym h ∙ i in cc)
same_taken tr l q r (Takes_none h) (Takes_one c a i j) = absurd (let no : Some c ≡ None = sym i ∙ h in cc)
same_taken tr l q r (Takes_none h) (Takes_none i) = refl

same_heard : (tr : Trace) (l : Line) (q r : Reply) → Hears tr l q → Hears tr l r → q ≡ r
same_heard tr l q r (Hears_one c a h) (Hears_one d b i) =
    let both : Some (c, a) ≡ Some (d, b) = sym h ∙ i in
    let pair : (c, a) ≡ (d, b) = cc in
    ap (λ (p : Call × Answer). Replies.Heard (map_call Ours p.0) p.1) pair
same_heard tr l q r (Hears_one c a h) (Hears_none i) = absurd (let no : Some (c, a) ≡ None = sym h ∙ i in cc)
same_heard tr l q r (Hears_none h) (Hears_one c a i) = absurd (let no : Some (c, a) ≡ None = sym i ∙ h in cc)
same_heard tr l q r (Hears_none h) (Hears_none i) = refl

pub determined : (tr : Trace) (s : Step) (q r : Reply) → IsDetermined s → IsValue tr s q → IsValue tr s r → q ≡ r
determined tr (Steps.Take t n) q r d x y = same_taken tr (line t n) q r x y
determined tr (Steps.Hear t n) q r d x y = same_heard tr (line t n) q r x y
determined tr (Steps.Restart Side.Manager) q r d x y = absurd d
determined tr (Steps.Restart (Side.Rm n)) q r d x y = x ∙ sym y
determined tr _ q r d x y = x ∙ sym y

-- a transaction that was handed over has a branch
pub handed_some :
    (tr : Trace) (g : Gtrid) → IsRun tr → handed_over tr g ≡ true
    → (b : Branch) × (b.gtrid ≡ g) × (started tr b ≡ true)
handed_some (From o) g r h = absurd (cc)
handed_some (Then tr e) g r h = by_case (handed_new tr e g h) (λ k. handed_some tr g r.0 k)
  where
    by_case :
        (handed_over tr g ≡ true) ⊎ ((l : Line) × (b : Branch) × (e ≡ Issued l (Calls.Commit b true)) × (b.gtrid ≡ g))
        → (handed_over tr g ≡ true → (b : Branch) × (b.gtrid ≡ g) × (started tr b ≡ true))
        → (b : Branch) × (b.gtrid ≡ g) × (started (Then tr e) b ≡ true)
    by_case (inl k) f = let x = f k in (x.0, x.1, started_kept tr e x.0 x.2)
    by_case (inr (l, b, p, q)) f =
        let k : Right tr (Issued l (Calls.Commit b true)) = subst (Right tr) p r.1 in (b, q, started_kept tr e b k.1.may_be.1.0)
