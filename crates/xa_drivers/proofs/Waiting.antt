-- What was made and isn't told yet waits on its line, in turn.
use Rattle.std.proofs.Common.{◌≡◌, ◌+◌, ◌∙◌, All, Bool, true, false, ℕ, zero, suc, length, List, [], ◌∷◌, ◌++◌, Option, Some, refl, sym, ap, subst}
use Rattle.std.proofs.lemmas.Bool.{or_parts}
use Rattle.std.proofs.lemmas.List.{append-nil}
use Rattle.std.proofs.lemmas.List.Elements.{All-head, All-tail}
use Rattle.std.specs.Prelude.{◌||◌, if◌then◌else◌, slice_get}
use Rattle.xa_drivers.specs.Faithful.{AreUnrelated, IsToldNext, IsToldNext.Before, IsToldNext.Newest, Untold, Untold.ALoss, Untold.AnAnswer, is_severed, line_on, made_on}
use Rattle.xa_model.specs.Facts.{issued, taken}
use Rattle.xa_model.specs.Trace.{Answer, Branch, Call, Happening, Happening.Begun, Happening.Claimed, Happening.Decided, Happening.Done, Happening.Issued, Happening.Nothing, Happening.Resolved, Happening.ResolvedOpen, Happening.Took, Line, Origin, Trace, Trace.Then, line_eq}
use Rattle.xa_monitor.proofs.Names.{alone_ran}
use Rattle.xa_monitor.proofs.UntoldCalls.{alone_calls, heard_calls, one_if, taken_calls}
use Rattle.xa_monitor.specs.Agreement.{WaitsAt, waiting_call_at}
use Rattle.xa_monitor.specs.Seen.{IsHistory.Does, IsHistory.Hears, IsHistory.Loses, IsHistory.LosesAnswer, IsManagers, Seen, Seen.Answered, Seen.Did, Seen.Lost, break_of}

-- ** calls that wait

longer : {X : Type 0} (xs ys : List X) (n : ℕ) (x : X) → slice_get xs n ≡ Some x → slice_get (xs ++ ys) n ≡ Some x
longer [] ys n x e = absurd (cc)
longer (y ∷ xs) ys zero x e = e
longer (y ∷ xs) ys (suc n) x e = longer xs ys n x e

-- what more is issued stands after what waits
more : (tr : Trace) (l : Line) (n : ℕ) (c : Call) (cs : List Call) → waiting_call_at tr l n ≡ Some c
    → slice_get (issued tr l ++ cs) (length (taken tr l ++ []) + n) ≡ Some c
more tr l n c cs e =
    ap (λ xs. slice_get (issued tr l ++ cs) (length xs + n)) (append-nil (taken tr l))
    ∙ longer (issued tr l) cs (length (taken tr l) + n) c e

done_more : (tr : Trace) (e : Happening) (l : Line) (n : ℕ) (c : Call) → IsManagers e → waiting_call_at tr l n ≡ Some c
    → waiting_call_at (Then tr e) l n ≡ Some c
done_more tr (Begun g) l n c is w = more tr l n c _ w
done_more tr (Issued m d) l n c is w = more tr l n c _ w
done_more tr (Resolved r) l n c is w = more tr l n c _ w
done_more tr (ResolvedOpen r) l n c is w = more tr l n c _ w
done_more tr (Claimed g) l n c is w = more tr l n c _ w
done_more tr (Decided g outcome) l n c is w = more tr l n c _ w
done_more tr (Done g) l n c is w = more tr l n c _ w
done_more tr Nothing l n c is w = more tr l n c _ w
done_more tr _ l n c is w = absurd is

broken_elsewhere : (tr : Trace) (l m : Line) (n : ℕ) → line_eq l m ≡ false → waiting_call_at (Then tr (break_of l)) m n ≡ waiting_call_at tr m n
broken_elsewhere tr l m n apart =
    ap (λ t. slice_get (if t then [] else issued tr m ++ []) (length (if t then [] else taken tr m ++ []) + n)) apart
    ∙ (ap (λ xs. slice_get xs (length (taken tr m ++ []) + n)) (append-nil (issued tr m))
    ∙ ap (λ xs. slice_get (issued tr m) (length xs + n)) (append-nil (taken tr m)))

-- ** by what was seen

pub waits_on : (o : Origin) (seen : Seen) (e : Happening) (l : Line) (n : ℕ) (c : Call) → IsManagers e → WaitsAt o seen l n (Some c)
    → WaitsAt o (Did seen e) l n (Some c)
waits_on o seen e l n c is waits _ (Does _ tr _ i) r = done_more tr e l n c is (waits tr i r.0)

pub waits_behind : (o : Origin) (seen : Seen) (l m : Line) (d : Call) (a : Answer) (n : ℕ) (c : Option Call)
    → WaitsAt o seen m (one_if (line_eq l m) n) c → WaitsAt o (Answered seen l d a) m n c
waits_behind o seen l m d a n c waits _ (Hears _ tr now _ _ _ i alone) r =
    heard_calls (Then now (Took l d a)) l m d a n
    ∙ (taken_calls now l m d a n ∙ (alone_calls tr now m (one_if (line_eq l m) n) alone ∙ waits tr i (alone_ran tr now alone r.0.0)))

pub waits_elsewhere : (o : Origin) (seen : Seen) (l m : Line) (d : Option Call) (n : ℕ) (c : Option Call) → line_eq l m ≡ false
    → WaitsAt o seen m n c → WaitsAt o (Lost seen l d) m n c
waits_elsewhere o seen l m d n c apart waits _ (Loses _ tr _ _ i) r = broken_elsewhere tr l m n apart ∙ waits tr i r.0
waits_elsewhere o seen l m _ n c apart waits _ (LosesAnswer _ tr now _ e a i alone) r =
    broken_elsewhere (Then now (Took l e a)) l m n apart
    ∙ (taken_calls now l m e a n
    ∙ (ap (λ t. waiting_call_at now m (one_if t n)) apart
    ∙ (alone_calls tr now m n alone ∙ waits tr i (alone_ran tr now alone r.0.0))))

-- ** all that isn't told

-- each call that was made waits there on its line, after those made before it, and its connection
-- wasn't gone
abbrev pub AllWait : (Line → ℕ → Call → Type 0) → List Untold → Type 0
AllWait W [] = Unit
AllWait W (AnAnswer l c a ∷ us) = AllWait W us × (is_severed us l ≡ false) × W l (made_on us l) c
AllWait W (ALoss l lost ∷ us) = AllWait W us

pub all_wait : (V W : Line → ℕ → Call → Type 0) → ((l : Line) (n : ℕ) (c : Call) → V l n c → W l n c) → (us : List Untold) → AllWait V us → AllWait W us
all_wait V W f [] all = tt
all_wait V W f (AnAnswer l c a ∷ us) all = (all_wait V W f us all.0, all.1, f l (made_on us l) c all.2)
all_wait V W f (ALoss l lost ∷ us) all = all_wait V W f us all

-- those on other lines do
elsewhere : (V W : Line → ℕ → Call → Type 0) (u : Untold)
    → ((m : Line) (n : ℕ) (c : Call) → line_eq (line_on u) m ≡ false → V m n c → W m n c) → (us : List Untold) → All (AreUnrelated u) us
    → AllWait V us → AllWait W us
elsewhere V W u f [] apart all = tt
elsewhere V W u f (AnAnswer l c a ∷ us) apart all =
    (elsewhere V W u f us (All-tail (AreUnrelated u) (AnAnswer l c a) us apart) all.0, all.1, f l (made_on us l) c (All-head (AreUnrelated u) (AnAnswer l c a) us apart).lines all.2)
elsewhere V W u f (ALoss l lost ∷ us) apart all = elsewhere V W u f us (All-tail (AreUnrelated u) (ALoss l lost) us apart) all

-- an answer is told next: so many calls are left on each line, and the same connections are gone
fewer : (l m : Line) (c : Call) (a : Answer) (us rest : List Untold) → IsToldNext (AnAnswer l c a) us rest → made_on us m ≡ one_if (line_eq l m) (made_on rest m)
fewer l m c a _ _ (Newest us apart) = refl
fewer l m c a _ _ (Before (AnAnswer k d x) us rest next) = by (line_eq k m) (line_eq l m) (fewer l m c a us rest next)
  where
    by : (t z : Bool) → made_on us m ≡ one_if z (made_on rest m)
        → (if t then suc (made_on us m) else made_on us m) ≡ one_if z (if t then suc (made_on rest m) else made_on rest m)
    by true true e = ap suc e
    by true false e = ap suc e
    by false true e = e
    by false false e = e
fewer l m c a _ _ (Before (ALoss k lost) us rest next) = fewer l m c a us rest next

gone_still : (l m : Line) (c : Call) (a : Answer) (us rest : List Untold) → IsToldNext (AnAnswer l c a) us rest → is_severed us m ≡ is_severed rest m
gone_still l m c a _ _ (Newest us apart) = refl
gone_still l m c a _ _ (Before (AnAnswer k d x) us rest next) = gone_still l m c a us rest next
gone_still l m c a _ _ (Before (ALoss k lost) us rest next) = ap (λ z. line_eq k m || z) (gone_still l m c a us rest next)

-- so each moves up on its line
abbrev pub MovedUp : Line → (Line → ℕ → Call → Type 0) → Line → ℕ → Call → Type 0
MovedUp l W m n c = W m (one_if (line_eq l m) n) c

pub told_wait : (W : Line → ℕ → Call → Type 0) (l : Line) (c : Call) (a : Answer) (us rest : List Untold) → IsToldNext (AnAnswer l c a) us rest
    → AllWait W us → AllWait (MovedUp l W) rest
told_wait W l c a _ _ (Newest us apart) all =
    elsewhere W (MovedUp l W) (AnAnswer l c a) (λ m n d off w. subst (λ t. W m (one_if t n) d) (sym off) w) us apart all.0
told_wait W l c a _ _ (Before (AnAnswer m d x) us rest next) all =
    (told_wait W l c a us rest next all.0, sym (gone_still l m c a us rest next) ∙ all.1, subst (λ n. W m n d) (fewer l m c a us rest next) all.2)
told_wait W l c a _ _ (Before (ALoss m lost) us rest next) all = told_wait W l c a us rest next all

-- a loss is told next: nothing that was made on the line is left
kept : (l m : Line) (lost : Branch → Bool) (us rest : List Untold) → IsToldNext (ALoss l lost) us rest → made_on us m ≡ made_on rest m
kept l m lost _ _ (Newest us apart) = refl
kept l m lost _ _ (Before (AnAnswer k d x) us rest next) = ap (λ z. if line_eq k m then suc z else z) (kept l m lost us rest next)
kept l m lost _ _ (Before (ALoss k other) us rest next) = kept l m lost us rest next

was_gone : (l m : Line) (lost : Branch → Bool) (us rest : List Untold) → IsToldNext (ALoss l lost) us rest → is_severed us m ≡ false
    → (line_eq l m ≡ false) × (is_severed rest m ≡ false)
was_gone l m lost _ _ (Newest us apart) e = or_parts (line_eq l m) (is_severed us m) e
was_gone l m lost _ _ (Before (AnAnswer k d x) us rest next) e = was_gone l m lost us rest next e
was_gone l m lost _ _ (Before (ALoss k other) us rest next) e =
    let p = or_parts (line_eq k m) (is_severed us m) e in
    let q = was_gone l m lost us rest next p.1 in
    (q.0, ap (λ z. z || is_severed rest m) p.0 ∙ q.1)

abbrev pub Elsewhere : Line → (Line → ℕ → Call → Type 0) → Line → ℕ → Call → Type 0
Elsewhere l W m n c = (line_eq l m ≡ false) × W m n c

pub lost_wait : (W : Line → ℕ → Call → Type 0) (l : Line) (lost : Branch → Bool) (us rest : List Untold) → IsToldNext (ALoss l lost) us rest
    → AllWait W us → AllWait (Elsewhere l W) rest
lost_wait W l lost _ _ (Newest us apart) all = elsewhere W (Elsewhere l W) (ALoss l lost) (λ m n d off w. (off, w)) us apart all
lost_wait W l lost _ _ (Before (AnAnswer m d x) us rest next) all =
    let gone = was_gone l m lost us rest next all.1 in
    (lost_wait W l lost us rest next all.0, gone.1, (gone.0, subst (λ n. W m n d) (kept l m lost us rest next) all.2))
lost_wait W l lost _ _ (Before (ALoss m other) us rest next) all = lost_wait W l lost us rest next all
