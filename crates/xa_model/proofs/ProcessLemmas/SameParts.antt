-- What a history and that of its last process have in common, a part at a time.
use Rattle.std.proofs.Common.{◌≡◌, ℕ, ◌<◌, List, [], ◌∷◌, ◌++◌, Bool, true, false, not, ◌&&◌, ◌||◌, refl, ap, ◌∙◌}
use Rattle.std.specs.Prelude.{cond, filter, if◌then◌else◌}
use Rattle.std.proofs.lemmas.Bool.{or_left, or_right}
use Rattle.xa_base.proofs.BranchKeys.{branch_eq-refl}
use Rattle.xa_base.specs.StateTable.{Kind.Commit, Kind.Rollback, Kind.Forget, state_of, on}
use Rattle.xa_base.specs.declared.step.Part.TheVariants as Part
use Rattle.xa_model.specs.Facts.{up, incarnation, sequence, begun, decided_so, handed_over, claimed, live, started, branches, was_told, was_told_lately, has_branch, has_row, recorded, doubt, log, heuristic_rows, page, resolving_calls, issued, taken, heard, breaks, standing, vote, retries}
use Rattle.xa_model.specs.Promises.Processes.{SameRows, SameRecords}
use Rattle.xa_model.specs.Trace.{Gtrid, Branch, Line, Name, Name.Ours, Name.Foreign, Call, Answer, Outcome, Happening, Happening.Crashed, Happening.Failed, Trace}
use Rattle.xa_model.proofs.ProcessLemmas.Since.{IsLater}

-- ** the two

-- of transactions
pub record SameDeals (past tr ur : Trace) : Type 0 where
  pub later : incarnation past < incarnation ur
  pub up_is : up tr ≡ up ur
  pub incarnation_is : incarnation tr ≡ incarnation ur
  pub sequence_is : sequence tr ≡ sequence ur
  pub begun_is : (g : Gtrid) → begun tr g ≡ begun ur g
  pub begun_later : (g : Gtrid) → begun ur g ≡ true → IsLater past g
  pub claimed_is : (g : Gtrid) → claimed tr g ≡ claimed ur g
  pub decided_is : (o : Outcome) (g : Gtrid) → decided_so o tr g ≡ (decided_so o ur g || decided_so o past g)
  pub handed_is : (g : Gtrid) → handed_over tr g ≡ (handed_over ur g || handed_over past g)
  pub page_is : (r : ℕ) → page tr r ≡ page ur r

-- of branches and of what was said
pub record SameSayings (past tr ur : Trace) : Type 0 where
  pub started_is : (b : Branch) → started tr b ≡ (started ur b || started past b)
  pub branches_are : branches tr ≡ branches ur ++ branches past
  pub told_is : (test : Call → Answer → Bool) → was_told tr test ≡ (was_told ur test || was_told past test)
  pub lately_is : (test : Call → Answer → Bool) → was_told_lately tr test ≡ was_told_lately ur test

-- of the log
pub record SameLog (tr ur : Trace) : Type 0 where
  pub rows : SameRows (log ur) (log tr)
  pub records : SameRecords (heuristic_rows ur) (heuristic_rows tr)
  pub doubt_is : doubt tr ≡ doubt ur

-- of lines
pub record SameLines (tr ur : Trace) : Type 0 where
  pub issued_is : (l : Line) → issued tr l ≡ issued ur l
  pub taken_is : (l : Line) → taken tr l ≡ taken ur l
  pub heard_is : (l : Line) → heard tr l ≡ heard ur l

-- of resource managers
pub record SameBranches (tr ur : Trace) : Type 0 where
  pub states : (b : Branch) → state_of (standing ur b) ≡ state_of (standing tr b)
  pub votes : (b : Branch) → vote ur b ≡ vote tr b
  pub retries : (b : Branch) → retries ur b ≡ retries tr b

-- `ur` is what its last process sees of `tr`, which goes on with `past`
pub record Faces (past tr ur : Trace) : Type 0 where
  pub deals : SameDeals past tr ur
  pub sayings : SameSayings past tr ur
  pub logs : SameLog tr ur
  pub lines : SameLines tr ur
  pub held : SameBranches tr ur

-- ** truth values

pub or_more : (s x y p : Bool) → y ≡ (x || p) → (s || y) ≡ ((s || x) || p)
or_more true x y p e = refl
or_more false x y p e = e

pub or_false : (x y p : Bool) → y ≡ (x || p) → p ≡ false → y ≡ x
or_false true y p e q = e
or_false false y p e q = e ∙ q

pub live_of : (b c p d q h s : Bool) → (b ≡ true → (p ≡ false) × (q ≡ false) × (s ≡ false))
    → (b && not ((c || p) || ((d || q) || (h || s)))) ≡ (b && not (c || (d || h)))
live_of false c p d q h s n = refl
live_of true c p d q h s n = λ i. not (drop c p (n refl).0 i || (drop d q (n refl).1 i || drop h s (n refl).2 i))
  where
    drop : (x y : Bool) → y ≡ false → (x || y) ≡ x
    drop true y e = refl
    drop false y e = e

pub given_up : (l b c x p y q s t : Bool) → (b ≡ true → (p ≡ false) × (q ≡ false))
    → ((l && (b && not (c || ((x || p) || (y || q))))) || (s || t)) ≡ (((l && (b && not (c || (x || y)))) || s) || t)
given_up false b c x p y q s t n = refl
given_up true false c x p y q s t n = refl
given_up true true c x p y q s t n = ap (λ z. not (c || z) || (s || t)) (λ i. drop x p (n refl).0 i || drop y q (n refl).1 i) ∙ assoc (not (c || (x || y)))
  where
    drop : (x y : Bool) → y ≡ false → (x || y) ≡ x
    drop true y e = refl
    drop false y e = e

    assoc : (z : Bool) → (z || (s || t)) ≡ ((z || s) || t)
    assoc true = refl
    assoc false = refl

-- ** breaks

pub breaks_is : (tr ur : Trace) (e : Happening) (l : Line) → up tr ≡ up ur → breaks tr e l ≡ breaks ur e l
breaks_is tr ur (Failed f) l u = u
breaks_is tr ur (Crashed (Part.Line t r)) l u = refl
breaks_is tr ur (Crashed (Part.Rm r)) l u = refl
breaks_is tr ur (Crashed Part.Manager) l u = refl
breaks_is tr ur _ l u = refl

-- ** lists

filter_none : (p : Branch → Bool) (bs : List Branch) → ((b : Branch) → has_branch bs b ≡ true → p b ≡ false) → filter p bs ≡ []
filter_none p [] n = refl
filter_none p (b ∷ bs) n =
    let here : p b ≡ false = n b (or_left _ _ (branch_eq-refl b)) in
    let rest = filter_none p bs (λ c h. n c (or_right _ _ h)) in ap (λ t. cond t (b ∷ filter p bs) (filter p bs)) here ∙ rest

pub filter_first : (p q : Branch → Bool) (xs ys : List Branch) → ((b : Branch) → p b ≡ q b) → ((b : Branch) → has_branch ys b ≡ true → p b ≡ false)
    → filter p (xs ++ ys) ≡ filter q xs
filter_first p q [] ys e n = filter_none p ys n
filter_first p q (x ∷ xs) ys e n = let rest = filter_first p q xs ys e n in (λ i. cond (e x i) (x ∷ rest i) (rest i))

pub same_resolving : (tr ur : Trace) → ((g : Gtrid) → live tr g ≡ live ur g) → ((b : Branch) → recorded tr b ≡ recorded ur b)
    → ((g : Gtrid) → has_row tr g ≡ has_row ur g) → (names : List Name) → resolving_calls tr names ≡ resolving_calls ur names
same_resolving tr ur l h k [] = refl
same_resolving tr ur l h k (Ours b ∷ names) =
    let rest = same_resolving tr ur l h k names in
    (λ i. if l b.gtrid i then rest i else on (if h b i then Forget else if k b.gtrid i then Commit else Rollback) b ∷ rest i)
same_resolving tr ur l h k (Foreign x ∷ names) = same_resolving tr ur l h k names
