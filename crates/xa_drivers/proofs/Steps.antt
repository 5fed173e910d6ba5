-- What happened to one branch: a step by an answer or by a loss that isn't told yet, or by its
-- database alone. Steps that are apart may be taken in the other order.
use Rattle.std.proofs.Common.{◌≡◌, ◌≢◌, ◌∙◌, ◌⊎◌, inl, inr, Bool, true, false, List, Option, Some, None, refl, sym, ap, subst}
use Rattle.std.proofs.lemmas.Bool.{or_parts, true≢false}
use Rattle.std.specs.Prelude.{◌||◌, if◌then◌else◌}
use Rattle.xa_base.proofs.BranchKeys.{branch_eq-refl, branch_eq-true}
use Rattle.xa_base.specs.Branch.{branch_eq}
use Rattle.xa_base.specs.Standing.{is_in_doubt}
use Rattle.xa_base.specs.StateTable.{Kind, Kind.Commit, Kind.Start, after_commit, asks_of, broken, moved}
use Rattle.xa_base.specs.declared.answer.Answer.TheVariants.{Page, Ret}
use Rattle.xa_base.specs.declared.code.Code.TheVariants as Codes
use Rattle.xa_base.specs.declared.state.Standing.{Standing}
use Rattle.xa_base.specs.declared.state.Standing.TheVariants.{Active, Committed, Completed, Forgotten, Idle, Lost, Prepared, ReadOnly, RollbackOnly, RolledBack, Unstarted}
use Rattle.xa_drivers.specs.Deeds.{asks_it}
use Rattle.xa_drivers.specs.Faithful.{AreUnrelated, AsksOf, IsAbout, Untold, Untold.ALoss, Untold.AnAnswer, begins_branch, is_open_branch, line_on}
use Rattle.xa_model.proofs.Keys.{line_eq-refl, line_eq-true}
use Rattle.xa_model.specs.Protocol.{Lists}
use Rattle.xa_model.specs.Trace.{Branch, Call, Code, How, Line, Name, Name.Ours, line_eq, line_of}
use Rattle.xa_monitor.specs.Standings.{Explains, ExplainsAsked, ExplainsIf}

-- ** steps of one branch

-- a branch that is open is called on its own line, and begun there
abbrev pub OwnLine : Option (Kind × Branch) → Line → Branch → Standing → Type 0
OwnLine None l b f = Unit
OwnLine (Some (k, d)) l b f = d ≡ b → (begins_branch k || is_open_branch f) ≡ true → l ≡ line_of b

-- the branch came from the one standing to the other by what was asked and answered so
abbrev pub StepByAnswer : Option (Kind × Branch) → Line → Code → Branch → (from to : Standing) → Type 0
StepByAnswer q l a b f g = ExplainsAsked q a b f g × OwnLine q l b f

-- the same by what was done
abbrev pub StepBy : Untold → Branch → (from to : Standing) → Type 0
StepBy (AnAnswer l c (Ret a)) b f g = StepByAnswer (asks_of c) l a b f g
StepBy (AnAnswer l c (Page names)) b f g = (g ≡ f) × (Lists names (Ours b) → (b.rm ≡ l.rm) × (is_in_doubt f ≡ true))
StepBy (ALoss l lost) b f g =
    (g ≡ (if line_eq l (line_of b) then broken f else f)) × (line_eq l (line_of b) ≡ true → lost b ≡ false → broken f ≡ f)

-- its database ended this branch, and no other
abbrev pub StepAlone : (d : Branch) (how : How) → Branch → (from to : Standing) → Type 0
StepAlone d how b f g = (branch_eq d b ≡ true → f ≡ Prepared) × (g ≡ (if branch_eq d b then Completed how else f))

-- ** what a break leaves

pub broken_shut : (f : Standing) → is_open_branch f ≡ false → broken f ≡ f
broken_shut Active e = absurd (true≢false e)
broken_shut Idle e = absurd (true≢false e)
broken_shut RollbackOnly e = absurd (true≢false e)
broken_shut f e = refl

shut_of : (f : Standing) → broken f ≡ f → is_open_branch f ≡ false
shut_of Active e = absurd (cc)
shut_of Idle e = absurd (cc)
shut_of RollbackOnly e = absurd (cc)
shut_of f e = refl

shut_broken : (f : Standing) → is_open_branch (broken f) ≡ false
shut_broken Active = refl
shut_broken Idle = refl
shut_broken RollbackOnly = refl
shut_broken Unstarted = refl
shut_broken Prepared = refl
shut_broken (Completed how) = refl
shut_broken Committed = refl
shut_broken RolledBack = refl
shut_broken Lost = refl
shut_broken ReadOnly = refl
shut_broken (Forgotten how) = refl

broken_twice : (f : Standing) → broken (broken f) ≡ broken f
broken_twice f = broken_shut (broken f) (shut_broken f)

in_doubt_shut : (f : Standing) → is_in_doubt f ≡ true → broken f ≡ f
in_doubt_shut Active e = absurd (true≢false (sym e))
in_doubt_shut Idle e = absurd (true≢false (sym e))
in_doubt_shut RollbackOnly e = absurd (true≢false (sym e))
in_doubt_shut f e = refl

in_doubt_broken : (f : Standing) → is_in_doubt (broken f) ≡ true → is_in_doubt f ≡ true
in_doubt_broken Active e = absurd (true≢false (sym e))
in_doubt_broken Idle e = absurd (true≢false (sym e))
in_doubt_broken RollbackOnly e = absurd (true≢false (sym e))
in_doubt_broken f e = e

or_true : (x y : Bool) → y ≡ true → (x || y) ≡ true
or_true true y e = refl
or_true false y e = e

-- no call but an xa_start opens a branch
commit_shut : (a : Code) → is_open_branch (after_commit a) ≡ false
commit_shut Codes.Success = refl
commit_shut _ = refl

moved_shut : (f : Standing) (k : Kind) (a : Code) → (begins_branch k || is_open_branch f) ≡ false → is_open_branch (moved f k a) ≡ false
moved_shut f Start a e = absurd (true≢false e)
moved_shut Active k a e = absurd (true≢false (or_parts (begins_branch k) true e).1)
moved_shut Idle k a e = absurd (true≢false (or_parts (begins_branch k) true e).1)
moved_shut RollbackOnly k a e = absurd (true≢false (or_parts (begins_branch k) true e).1)
moved_shut Prepared Commit a e = commit_shut a
moved_shut f k a e = refl

explained_shut : (f g : Standing) (k : Kind) (a : Code) → Explains f k a g → (begins_branch k || is_open_branch f) ≡ false → is_open_branch g ≡ false
explained_shut f g k a x e = subst (λ z. is_open_branch z ≡ false) (sym x.moves) (by x.alone)
  where
    by : (x.as_called ≡ f) ⊎ ((f ≡ Prepared) × ((how : How) × (x.as_called ≡ Completed how))) → is_open_branch (moved x.as_called k a) ≡ false
    by (inl s) = moved_shut x.as_called k a (ap (λ z. begins_branch k || is_open_branch z) s ∙ e)
    by (inr (p, (how, s))) =
        moved_shut x.as_called k a
        (ap (λ z. begins_branch k || is_open_branch z) s ∙ (ap (λ z. begins_branch k || is_open_branch z) (sym p) ∙ e))

-- ** two steps in the other order

-- what isn't about a branch leaves it
left_by_answer : (q : Option (Kind × Branch)) (l : Line) (a : Code) (b : Branch) (f g : Standing) → StepByAnswer q l a b f g → (AsksOf q b → ⊥) → g ≡ f
left_by_answer None l a b f g s never = s.0
left_by_answer (Some (k, d)) l a b f g s never = by (branch_eq d b) refl s.0
  where
    by : (t : Bool) → branch_eq d b ≡ t → ExplainsIf t f k a g → g ≡ f
    by true e x = absurd (never (branch_eq-true d b e))
    by false e x = x

left : (u : Untold) (b : Branch) (f g : Standing) → StepBy u b f g → (IsAbout u b → ⊥) → g ≡ f
left (AnAnswer l c (Ret a)) b f g s never = left_by_answer (asks_of c) l a b f g s never
left (AnAnswer l c (Page names)) b f g s never = s.0
left (ALoss l lost) b f g s never = by (line_eq l (line_of b)) refl s.0
  where
    shut : (t : Bool) → lost b ≡ t → line_eq l (line_of b) ≡ true → broken f ≡ f
    shut true e on = absurd (never e)
    shut false e on = s.1 on e

    by : (t : Bool) → line_eq l (line_of b) ≡ t → g ≡ (if t then broken f else f) → g ≡ f
    by true e x = x ∙ shut (lost b) refl e
    by false e x = x

-- and may be done with it, if it isn't open and lies on the line that is lost
stay_by_answer : (q : Option (Kind × Branch)) (l : Line) (a : Code) (b : Branch) (f : Standing) → (AsksOf q b → ⊥) → StepByAnswer q l a b f f
stay_by_answer None l a b f never = (refl, tt)
stay_by_answer (Some (k, d)) l a b f never = (by (branch_eq d b) refl, λ is opens. absurd (never is))
  where
    by : (t : Bool) → branch_eq d b ≡ t → ExplainsIf t f k a f
    by true e = absurd (never (branch_eq-true d b e))
    by false e = refl

abbrev IsShutOn : Untold → Branch → Standing → Type 0
IsShutOn (AnAnswer l c a) b f = Unit
IsShutOn (ALoss l lost) b f = line_eq l (line_of b) ≡ true → broken f ≡ f

stay : (u : Untold) (b : Branch) (f : Standing) → (IsAbout u b → ⊥) → IsShutOn u b f → StepBy u b f f
stay (AnAnswer l c (Ret a)) b f never shut = stay_by_answer (asks_of c) l a b f never
stay (AnAnswer l c (Page names)) b f never shut = (refl, λ lists. absurd (never lists))
stay (ALoss l lost) b f never shut = (by (line_eq l (line_of b)) refl, λ on e. shut on)
  where
    by : (t : Bool) → line_eq l (line_of b) ≡ t → f ≡ (if t then broken f else f)
    by true e = sym (shut e)
    by false e = refl

-- the one comes first, and the branch to where both lead
abbrev Swapped : (u v : Untold) → Branch → (from to : Standing) → Type 0
Swapped u v b f h = (m : Standing) × StepBy u b f m × StepBy v b m h

apart_lines : (l m n : Line) → line_eq l m ≡ false → line_eq m n ≡ true → l ≡ n → ⊥
apart_lines l m n apart on same =
    true≢false (sym (line_eq-refl l) ∙ (ap (λ z. line_eq l z) (same ∙ sym (line_eq-true m n on)) ∙ apart))

-- an answer before what is older
swap_answer : (q : Option (Kind × Branch)) (l : Line) (c : Call) (a : Code) (v : Untold) → asks_of c ≡ q → AreUnrelated (AnAnswer l c (Ret a)) v
    → (b : Branch) (f g h : Standing) → StepBy v b f g → StepByAnswer q l a b g h
    → (m : Standing) × StepByAnswer q l a b f m × StepBy v b m h
swap_answer None l c a v asks apart b f g h s t = (f, (refl, tt), subst (StepBy v b f) (sym t.0) s)
swap_answer (Some (k, d)) l c a v asks apart b f g h s t = by (branch_eq d b) refl t.0
  where
    none : d ≡ b → IsAbout v b → ⊥
    none is = apart.branches b (subst (λ z. AsksOf z b) (sym asks) is)

    shut : (v : Untold) → line_eq l (line_on v) ≡ false → StepBy v b f g → (IsAbout v b → ⊥) → d ≡ b → Explains f k a h → IsShutOn v b h
    shut (AnAnswer m o p) off s never is x = tt
    shut (ALoss m lost) off s never is x = λ on. broken_shut h (explained_shut f h k a x (opens on (begins_branch k || is_open_branch f) refl))
      where
        opens : line_eq m (line_of b) ≡ true → (t : Bool) → (begins_branch k || is_open_branch f) ≡ t → (begins_branch k || is_open_branch f) ≡ false
        opens on true e =
            absurd (apart_lines l m (line_of b) off on
            (t.1 is (ap (λ z. begins_branch k || is_open_branch z) (left (ALoss m lost) b f g s never) ∙ e)))
        opens on false e = e

    by : (z : Bool) → branch_eq d b ≡ z → ExplainsIf z g k a h
        → (m : Standing) × StepByAnswer (Some (k, d)) l a b f m × StepBy v b m h
    by true e x =
        let is : d ≡ b = branch_eq-true d b e in
        let same : g ≡ f = left v b f g s (none is) in
        let y : Explains f k a h = subst (λ z. Explains z k a h) same x in (
          h,
          (subst (λ z. ExplainsIf z f k a h) (sym e) y, subst (OwnLine (Some (k, d)) l b) same t.1),
          stay v b h (none is) (shut v apart.lines s (none is) is y),
        )
    by false e x = (f, (subst (λ z. ExplainsIf z f k a f) (sym e) refl, λ is o. absurd (true≢false (sym (subst (λ z. branch_eq d z ≡ true) is (branch_eq-refl d)) ∙ e))), subst (StepBy v b f) (sym x) s)

-- a loss before what is older
swap_loss : (l : Line) (lost : Branch → Bool) (v : Untold) → AreUnrelated (ALoss l lost) v → (b : Branch) (f g h : Standing) → StepBy v b f g
    → StepBy (ALoss l lost) b g h → Swapped (ALoss l lost) v b f h
swap_loss l lost v apart b f g h s t = by (line_eq l (line_of b)) refl t.0
  where
    -- what is older and on another line leaves a branch of this line shut, if that is shut after
    -- it
    shut_by : (q : Option (Kind × Branch)) (m : Line) (a : Code) → m ≢ line_of b → StepByAnswer q m a b f g → broken g ≡ g → broken f ≡ f
    shut_by None m a off x e = subst (λ z. broken z ≡ z) x.0 e
    shut_by (Some (k, d)) m a off x e = on (branch_eq d b) refl x.0
      where
        on : (z : Bool) → branch_eq d b ≡ z → ExplainsIf z f k a g → broken f ≡ f
        on false i y = subst (λ z. broken z ≡ z) y e
        on true i y = broken_shut f (opens (is_open_branch f) refl)
          where
            opens : (z : Bool) → is_open_branch f ≡ z → is_open_branch f ≡ false
            opens false j = j
            opens true j = absurd (off (x.1 (branch_eq-true d b i) (or_true (begins_branch k) (is_open_branch f) j)))

    shut : (v : Untold) → line_eq l (line_on v) ≡ false → line_eq l (line_of b) ≡ true → StepBy v b f g → broken g ≡ g → broken f ≡ f
    shut (AnAnswer m c (Ret a)) off on x e =
        shut_by (asks_of c) m a
        (λ same. true≢false (sym on ∙ (ap (line_eq l) (sym same) ∙ off))) x e
    shut (AnAnswer m c (Page names)) off on x e = subst (λ z. broken z ≡ z) x.0 e
    shut (ALoss m other) off on x e = subst (λ z. broken z ≡ z) (x.0 ∙ ap (λ z. if z then broken f else f) (elsewhere (line_eq m (line_of b)) refl)) e
      where
        elsewhere : (z : Bool) → line_eq m (line_of b) ≡ z → line_eq m (line_of b) ≡ false
        elsewhere true i = absurd (apart_lines l m (line_of b) off i (line_eq-true l (line_of b) on))
        elsewhere false i = i

    by : (z : Bool) → line_eq l (line_of b) ≡ z → h ≡ (if z then broken g else g) → Swapped (ALoss l lost) v b f h
    by false e x =
        (f, (ap (λ z. if z then broken f else f) (sym e), λ on. absurd (true≢false (sym on ∙ e))), subst (StepBy v b f) (sym x) s)
    by true e x = on (lost b) refl
      where
        on : (z : Bool) → lost b ≡ z → Swapped (ALoss l lost) v b f h
        on true i =
            let never : IsAbout v b → ⊥ = apart.branches b i in
            let same : h ≡ broken f = x ∙ ap broken (left v b f g s never) in (
              broken f,
              (ap (λ z. if z then broken f else f) (sym e), λ o j. absurd (true≢false (sym i ∙ j))),
              subst (StepBy v b (broken f)) (sym same) (stay v b (broken f) never (twice v)),
            )
          where
            twice : (v : Untold) → IsShutOn v b (broken f)
            twice (AnAnswer m c a) = tt
            twice (ALoss m other) = λ o. broken_twice f
        on false i =
            let behind : broken g ≡ g = t.1 e i in
            let before : broken f ≡ f = shut v apart.lines e s behind in
            (f, (sym before ∙ ap (λ z. if z then broken f else f) (sym e), λ o j. before), subst (StepBy v b f) (sym (x ∙ behind)) s)

-- a page before what is older
page_swap : (l : Line) (c : Call) (names : List Name) (v : Untold) → AreUnrelated (AnAnswer l c (Page names)) v → (b : Branch) (f g h : Standing)
    → StepBy v b f g → StepBy (AnAnswer l c (Page names)) b g h → Swapped (AnAnswer l c (Page names)) v b f h
page_swap l c names v apart b f g h s t = (
  f,
  (refl, λ lists. let x = t.1 lists in (x.0, subst (λ z. is_in_doubt z ≡ true) (left v b f g s (apart.branches b lists)) x.1)),
  subst (StepBy v b f) (sym t.0) s,
)

pub swap : (u v : Untold) → AreUnrelated u v → (b : Branch) (f g h : Standing) → StepBy v b f g → StepBy u b g h → Swapped u v b f h
swap (AnAnswer l c (Ret a)) v apart b f g h s t = swap_answer (asks_of c) l c a v refl apart b f g h s t
swap (AnAnswer l c (Page names)) v apart b f g h s t = page_swap l c names v apart b f g h s t
swap (ALoss l lost) v apart b f g h s t = swap_loss l lost v apart b f g h s t

-- ** a branch that its database ended

alone_elsewhere : (d : Branch) (how : How) (b : Branch) (f g : Standing) → StepAlone d how b f g → branch_eq d b ≡ false → g ≡ f
alone_elsewhere d how b f g s e = s.1 ∙ ap (λ z. if z then Completed how else f) e

alone_here : (d : Branch) (how : How) (b : Branch) (f g : Standing) → StepAlone d how b f g → branch_eq d b ≡ true → g ≡ Completed how
alone_here d how b f g s e = s.1 ∙ ap (λ z. if z then Completed how else f) e

-- the call that is answered asks something of this branch
abbrev pub names_it : Untold → Branch → Bool
names_it (AnAnswer l c (Ret a)) d = asks_it (asks_of c) d
names_it u d = false

-- then that the database ended it before is a part of the answer
absorb_answer : (q : Option (Kind × Branch)) (l : Line) (a : Code) (d : Branch) (how : How) → asks_it q d ≡ true → (b : Branch) (f g h : Standing)
    → StepAlone d how b f g → StepByAnswer q l a b g h → StepByAnswer q l a b f h
absorb_answer None l a d how names b f g h s t = absurd (true≢false (sym names))
absorb_answer (Some (k, e)) l a d how names b f g h s t = by (branch_eq d b) refl
  where
    by : (z : Bool) → branch_eq d b ≡ z → StepByAnswer (Some (k, e)) l a b f h
    by false i = let same : g ≡ f = alone_elsewhere d how b f g s i in subst (λ z. StepByAnswer (Some (k, e)) l a b z h) same t
    by true i = (subst (λ z. ExplainsIf z f k a h) (sym on) explains, λ is o. t.1 is (ap (λ z. begins_branch k || is_open_branch z) ended ∙ (ap (λ z. begins_branch k || is_open_branch z) (sym was) ∙ o)))
      where
        was : f ≡ Prepared
        was = s.0 i

        ended : g ≡ Completed how
        ended = alone_here d how b f g s i

        on : branch_eq e b ≡ true
        on = subst (λ z. branch_eq e z ≡ true) (branch_eq-true d b i) names

        x : Explains g k a h
        x = subst (λ z. ExplainsIf z g k a h) on t.0

        as_called : (x.as_called ≡ g) ⊎ ((g ≡ Prepared) × ((w : How) × (x.as_called ≡ Completed w)))
            → (x.as_called ≡ f) ⊎ ((f ≡ Prepared) × ((w : How) × (x.as_called ≡ Completed w)))
        as_called (inl same) = inr (was, (how, same ∙ ended))
        as_called (inr (prepared, rest)) = absurd (let never : Completed how ≡ Prepared = sym ended ∙ prepared in cc)

        explains : Explains f k a h
        explains = record { as_called = x.as_called; alone = as_called x.alone; vote = x.vote; retries = x.retries; answers = x.answers; moves = x.moves }

pub absorb : (u : Untold) (d : Branch) (how : How) → names_it u d ≡ true → (b : Branch) (f g h : Standing) → StepAlone d how b f g
    → StepBy u b g h → StepBy u b f h
absorb (AnAnswer l c (Ret a)) d how names b f g h s t = absorb_answer (asks_of c) l a d how names b f g h s t
absorb (AnAnswer l c (Page xs)) d how names b f g h s t = absurd (true≢false (sym names))
absorb (ALoss l lost) d how names b f g h s t = absurd (true≢false (sym names))

-- else the two may change places
abbrev BehindIt : Untold → (d : Branch) (how : How) → Branch → (from to : Standing) → Type 0
BehindIt u d how b f h = (m : Standing) × StepBy u b f m × StepAlone d how b m h

by_itself : (d : Branch) (how : How) (b : Branch) (f g h : Standing) → StepAlone d how b f g → h ≡ g → StepAlone d how b f h
by_itself d how b f g h s e = subst (λ z. StepAlone d how b f z) (sym e) s

moved_along : (u : Untold) (d : Branch) (how : How) (b : Branch) (f g h : Standing) → StepAlone d how b f g → StepBy u b g h
    → branch_eq d b ≡ false → BehindIt u d how b f h
moved_along u d how b f g h s t i =
    (h, subst (λ z. StepBy u b z h) (alone_elsewhere d how b f g s i) t, (λ e. absurd (true≢false (sym e ∙ i)), ap (λ z. if z then Completed how else h) (sym i)))

behind_answer : (q : Option (Kind × Branch)) (l : Line) (a : Code) (d : Branch) (how : How) → asks_it q d ≡ false → (b : Branch) (f g h : Standing)
    → branch_eq d b ≡ true → StepByAnswer q l a b g h → (h ≡ g) × StepByAnswer q l a b f f
behind_answer None l a d how names b f g h i t = (t.0, (refl, tt))
behind_answer (Some (k, e)) l a d how names b f g h i t =
    (subst (λ z. ExplainsIf z g k a h) off t.0, (subst (λ z. ExplainsIf z f k a f) (sym off) refl, λ is o. absurd (true≢false (sym (subst (λ z. branch_eq e z ≡ true) is (branch_eq-refl e)) ∙ off))))
  where
    off : branch_eq e b ≡ false
    off = subst (λ z. branch_eq e z ≡ false) (branch_eq-true d b i) names

behind_loss : (l : Line) (lost : Branch → Bool) (b : Branch) (f g h : Standing) (how : How) → f ≡ Prepared → g ≡ Completed how
    → StepBy (ALoss l lost) b g h → (h ≡ g) × StepBy (ALoss l lost) b f f
behind_loss l lost b f g h how was ended t =
    (t.0 ∙ same (line_eq l (line_of b)) g shut_after, (sym (same (line_eq l (line_of b)) f shut), λ o j. shut))
  where
    shut : broken f ≡ f
    shut = ap broken was ∙ sym was

    shut_after : broken g ≡ g
    shut_after = ap broken ended ∙ sym ended

    same : (z : Bool) (f : Standing) → broken f ≡ f → (if z then broken f else f) ≡ f
    same true f e = e
    same false f e = refl

pub behind : (u : Untold) (d : Branch) (how : How) → names_it u d ≡ false → (b : Branch) (f g h : Standing) → StepAlone d how b f g
    → StepBy u b g h → BehindIt u d how b f h
behind u d how names b f g h s t = by (branch_eq d b) refl
  where
    at : (u : Untold) → names_it u d ≡ false → StepBy u b g h → branch_eq d b ≡ true → (h ≡ g) × StepBy u b f f
    at (AnAnswer l c (Ret a)) names t i = behind_answer (asks_of c) l a d how names b f g h i t
    at (AnAnswer l c (Page xs)) names t i = (t.0, (refl, λ lists. ((t.1 lists).0, ap is_in_doubt (s.0 i))))
    at (ALoss l lost) names t i = behind_loss l lost b f g h how (s.0 i) (alone_here d how b f g s i) t

    by : (z : Bool) → branch_eq d b ≡ z → BehindIt u d how b f h
    by false i = moved_along u d how b f g h s t i
    by true i = let x = at u names t i in (f, x.1, by_itself d how b f g h s x.0)
