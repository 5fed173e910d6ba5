-- The rows of a break and of a page, and the states that an older incarnation left.
use Rattle.std.proofs.Common.{◌≡◌, true, ◌||◌, ◌⊎◌, refl, sym, ap, ◌∙◌, subst}
use Rattle.std.proofs.lemmas.Bool.{or_cases, or_left, or_right}
use Rattle.std.specs.Prelude.{◌↔◌}
use mathlib.Core.Logic.{◌⊎◌.inl, ◌⊎◌.inr}
use Rattle.xa_base.specs.Standing.{is_in_doubt}
use Rattle.xa_base.specs.StateTable.{State, State.S0, State.S1, State.S2, State.S3, State.S4, State.S5, broken, state_of}
use Rattle.xa_base.specs.declared.code.How.{How}
use Rattle.xa_base.specs.declared.code.How.TheVariants as Hows
use Rattle.xa_base.specs.declared.state.Standing.{Standing}
use Rattle.xa_base.specs.declared.state.Standing.TheVariants.{Active, Idle, Prepared, RollbackOnly, Completed}
use Rattle.xa_monitor.specs.Rows.{any_end, break_row, found_states, page_row}
use Rattle.xa_monitor.specs.States.{LeadsInto, LeadsOnto, has, has_end}
use Rattle.xa_monitor.specs.declared.states.States.{States}

-- ** a break, and a page

broken_away : (f : Standing) → (state_of f ≡ S3 → ⊥) → ((how : How) → state_of f ≡ S5 how → ⊥) → state_of (broken f) ≡ S0
broken_away Prepared n m = absurd (n refl)
broken_away (Completed how) n m = absurd (m how refl)
broken_away _ n m = refl

-- a state that a break ends
ends_by_break : (z : State) → ((z ≡ S3) → ⊥) → ((how : How) → z ≡ S5 how → ⊥) → (f : Standing) → state_of f ≡ z
    → (g : Standing) × (g ≡ broken f) × (state_of g ≡ S0)
ends_by_break z n m f p = (broken f, refl, broken_away f (λ e. n (sym p ∙ e)) (λ how e. m how (sym p ∙ e)))

stays_prepared : (f : Standing) → state_of f ≡ S3 → state_of (broken f) ≡ S3
stays_prepared Prepared p = refl
stays_prepared _ p = absurd (cc)

stays_ended : (how : How) (f : Standing) → state_of f ≡ S5 how → state_of (broken f) ≡ S5 how
stays_ended how (Completed h) p = p
stays_ended how _ p = absurd (cc)

abbrev BreaksFrom : States → Type 0
BreaksFrom s = (z : State) × (has s z ≡ true) × ((f : Standing) → state_of f ≡ z → (g : Standing) × (g ≡ broken f) × (state_of g ≡ S0))

broken_into : (s : States) (f : Standing) → has s (state_of f) ≡ true → has (break_row s) (state_of (broken f)) ≡ true
broken_into s Active h = or_right s.s0 _ (or_left s.s1 (s.s2 || s.s4) h)
broken_into s Idle h = or_right s.s0 _ (or_right s.s1 _ (or_left s.s2 s.s4 h))
broken_into s RollbackOnly h = or_right s.s0 _ (or_right s.s1 _ (or_right s.s2 s.s4 h))
broken_into s Prepared h = h
broken_into s (Completed how) h = h
broken_into s _ h = or_left s.s0 (s.s1 || (s.s2 || s.s4)) h

pub off_into : (s after : States) → after ≡ break_row s → LeadsInto s (λ f g. g ≡ broken f) after
off_into s after e f g h same = ap (λ z. has z (state_of g)) e ∙ (ap (λ z. has (break_row s) (state_of z)) same ∙ broken_into s f h)

break_onto : (s : States) → LeadsOnto s (λ f g. g ≡ broken f) (break_row s)
break_onto s S0 h = by0 (or_cases s.s0 (s.s1 || (s.s2 || s.s4)) h)
  where
    by2 : (s.s2 ≡ true) ⊎ (s.s4 ≡ true) → BreaksFrom s
    by2 (inl h) = (S2, h, ends_by_break S2 (λ z. let no : ⊥ = cc in no) (λ how z. let no : ⊥ = cc in no))
    by2 (inr h) = (S4, h, ends_by_break S4 (λ z. let no : ⊥ = cc in no) (λ how z. let no : ⊥ = cc in no))

    by1 : (s.s1 ≡ true) ⊎ ((s.s2 || s.s4) ≡ true) → BreaksFrom s
    by1 (inl h) = (S1, h, ends_by_break S1 (λ z. let no : ⊥ = cc in no) (λ how z. let no : ⊥ = cc in no))
    by1 (inr h) = by2 (or_cases s.s2 s.s4 h)

    by0 : (s.s0 ≡ true) ⊎ ((s.s1 || (s.s2 || s.s4)) ≡ true) → BreaksFrom s
    by0 (inl h) = (S0, h, ends_by_break S0 (λ z. let no : ⊥ = cc in no) (λ how z. let no : ⊥ = cc in no))
    by0 (inr h) = by1 (or_cases s.s1 (s.s2 || s.s4) h)
break_onto s S3 h = (S3, h, λ f p. (broken f, refl, stays_prepared f p))
break_onto s (S5 how) h = (S5 how, h, λ f p. (broken f, refl, stays_ended how f p))
break_onto s _ h = absurd (cc)

pub off_onto : (s after : States) → after ≡ break_row s → LeadsOnto s (λ f g. g ≡ broken f) after
off_onto s after e t h = break_onto s t (sym (ap (λ z. has z t) e) ∙ h)

listed_prepared : (f : Standing) → state_of f ≡ S3 → is_in_doubt f ≡ true
listed_prepared Prepared p = refl
listed_prepared _ p = absurd (cc)

listed_ended : (how : How) (f : Standing) → state_of f ≡ S5 how → is_in_doubt f ≡ true
listed_ended how (Completed h) p = refl
listed_ended how _ p = absurd (cc)

pub in_doubt_onto : (s : States) → LeadsOnto s (λ f g. (g ≡ f) × (is_in_doubt f ≡ true)) (page_row s)
in_doubt_onto s S3 h = (S3, h, λ f p. (f, (refl, listed_prepared f p), p))
in_doubt_onto s (S5 how) h = (S5 how, h, λ f p. (f, (refl, listed_ended how f p), p))
in_doubt_onto s _ h = absurd (cc)

pub page_onto : (s after : States) → after ≡ page_row s → LeadsOnto s (λ f g. (g ≡ f) × (is_in_doubt f ≡ true)) after
page_onto s after e = subst (LeadsOnto s (λ f g. (g ≡ f) × (is_in_doubt f ≡ true))) (sym e) (in_doubt_onto s)

in_doubt_there : (s : States) (f : Standing) → has s (state_of f) ≡ true → is_in_doubt f ≡ true → has (page_row s) (state_of f) ≡ true
in_doubt_there s Prepared h d = h
in_doubt_there s (Completed how) h d = h
in_doubt_there s _ h d = absurd (cc)

pub page_into : (s after : States) → after ≡ page_row s → LeadsInto s (λ f g. (g ≡ f) × (is_in_doubt f ≡ true)) after
page_into s after e f g h step = ap (λ z. has z (state_of g)) e ∙ (ap (λ z. has (page_row s) (state_of z)) step.0 ∙ in_doubt_there s f h step.1)

-- ** what an older incarnation left

pub any_there : (how : How) → has_end any_end how ≡ true
any_there Hows.Com = refl
any_there Hows.Rb = refl
any_there Hows.Mix = refl
any_there Hows.Haz = refl

pub found_iff : (f : Standing) → has found_states (state_of f) ≡ true ↔ (broken f ≡ f)
found_iff Active = (λ h. let no : ⊥ = cc in absurd no, λ e. let no : ⊥ = cc in absurd no)
found_iff Idle = (λ h. let no : ⊥ = cc in absurd no, λ e. let no : ⊥ = cc in absurd no)
found_iff RollbackOnly = (λ h. let no : ⊥ = cc in absurd no, λ e. let no : ⊥ = cc in absurd no)
found_iff Prepared = (λ h. refl, λ e. refl)
found_iff (Completed how) = (λ h. refl, λ e. any_there how)
found_iff _ = (λ h. refl, λ e. refl)
