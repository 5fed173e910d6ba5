-- Sets of states.
use Rattle.std.proofs.Common.{◌≡◌, Bool, true, false, ◌||◌, ◌⊎◌, refl, sym, ◌∙◌}
use Rattle.std.proofs.lemmas.Bool.{or_cases, or_left, or_right}
use Rattle.std.specs.Prelude.{IsTrue, ◌↔◌, not}
use mathlib.Core.Logic.{◌⊎◌.inl, ◌⊎◌.inr}
use Rattle.xa_base.specs.StateTable.{Kind, Kind.Start, State, State.S0, State.S1, State.S2, State.S3, State.S4, State.S5, moved, state_of}
use Rattle.xa_base.specs.declared.code.Code.{Code}
use Rattle.xa_base.specs.declared.code.How.{How}
use Rattle.xa_base.specs.declared.code.How.TheVariants as Hows
use Rattle.xa_base.specs.declared.state.Standing.{Standing}
use Rattle.xa_base.specs.declared.state.Standing.TheVariants.{Unstarted, Active, Idle, Prepared, RollbackOnly, Completed, Committed, RolledBack as RolledBackThere, Lost, ReadOnly as ReadOnlyThere, Forgotten}
use Rattle.xa_monitor.specs.Rows.{found_by_call, is_some_end, is_some_state, no_end, none, only_end}
use Rattle.xa_monitor.specs.States.{has, has_end}
use Rattle.xa_monitor.specs.declared.states.HeuristicEnds.{HeuristicEnds}
use Rattle.xa_monitor.specs.declared.states.States.{States}

-- ** states and standings

-- a standing in each state
abbrev pub there : State → Standing
there S0 = Unstarted
there S1 = Active
there S2 = Idle
there S3 = Prepared
there S4 = RollbackOnly
there (S5 how) = Completed how

-- where a call leads depends on the state alone
pub moves_by_state : (f : Standing) (k : Kind) (a : Code) → state_of (moved f k a) ≡ state_of (moved (there (state_of f)) k a)
moves_by_state Active k a = refl
moves_by_state Idle k a = refl
moves_by_state Prepared k a = refl
moves_by_state RollbackOnly k a = refl
moves_by_state (Completed how) k a = refl
moves_by_state Unstarted k a = refl
moves_by_state Committed Start a = refl
moves_by_state Committed _ a = refl
moves_by_state RolledBackThere Start a = refl
moves_by_state RolledBackThere _ a = refl
moves_by_state Lost Start a = refl
moves_by_state Lost _ a = refl
moves_by_state ReadOnlyThere Start a = refl
moves_by_state ReadOnlyThere _ a = refl
moves_by_state (Forgotten how) Start a = refl
moves_by_state (Forgotten how) _ a = refl

-- ** sets of states

pub none_ended : (how : How) → has_end no_end how ≡ true → ⊥
none_ended Hows.Com e = let no : ⊥ = cc in no
none_ended Hows.Rb e = let no : ⊥ = cc in no
none_ended Hows.Mix e = let no : ⊥ = cc in no
none_ended Hows.Haz e = let no : ⊥ = cc in no

pub none_there : (t : State) → has none t ≡ true → ⊥
none_there (S5 how) e = none_ended how e
none_there _ e = let no : ⊥ = cc in no

pub only_that : (how : How) (e : HeuristicEnds) → has_end (only_end how e) how ≡ has_end e how
only_that Hows.Com e = refl
only_that Hows.Rb e = refl
only_that Hows.Mix e = refl
only_that Hows.Haz e = refl

-- no other one
pub no_other : (how t : How) (e : HeuristicEnds) → has_end (only_end how e) t ≡ true → t ≡ how
no_other Hows.Com Hows.Com e h = refl
no_other Hows.Rb Hows.Rb e h = refl
no_other Hows.Mix Hows.Mix e h = refl
no_other Hows.Haz Hows.Haz e h = refl
no_other Hows.Com _ e h = absurd (cc)
no_other Hows.Rb _ e h = absurd (cc)
no_other Hows.Mix _ e h = absurd (cc)
no_other Hows.Haz _ e h = absurd (cc)

pub some_end : (how : How) (e : HeuristicEnds) → has_end e how ≡ true → is_some_end e ≡ true
some_end Hows.Com e h = or_left e.heurcom (e.heurrb || (e.heurmix || e.heurhaz)) h
some_end Hows.Rb e h = or_right e.heurcom (e.heurrb || (e.heurmix || e.heurhaz)) (or_left e.heurrb (e.heurmix || e.heurhaz) h)
some_end Hows.Mix e h = or_right e.heurcom _ (or_right e.heurrb _ (or_left e.heurmix e.heurhaz h))
some_end Hows.Haz e h = or_right e.heurcom _ (or_right e.heurrb _ (or_right e.heurmix e.heurhaz h))

pub which_end : (e : HeuristicEnds) → is_some_end e ≡ true → (how : How) × (has_end e how ≡ true)
which_end e h = by_com (or_cases _ _ h)
  where
    by_mix : (e.heurmix ≡ true) ⊎ (e.heurhaz ≡ true) → (how : How) × (has_end e how ≡ true)
    by_mix (inl h) = (Hows.Mix, h)
    by_mix (inr h) = (Hows.Haz, h)

    by_rb : (e.heurrb ≡ true) ⊎ ((e.heurmix || e.heurhaz) ≡ true) → (how : How) × (has_end e how ≡ true)
    by_rb (inl h) = (Hows.Rb, h)
    by_rb (inr h) = by_mix (or_cases _ _ h)

    by_com : (e.heurcom ≡ true) ⊎ ((e.heurrb || (e.heurmix || e.heurhaz)) ≡ true) → (how : How) × (has_end e how ≡ true)
    by_com (inl h) = (Hows.Com, h)
    by_com (inr h) = by_rb (or_cases _ _ h)

-- ** what a call may find

pub found_same : (s : States) (t : State) → has s t ≡ true → has (found_by_call s) t ≡ true
found_same s (S5 Hows.Com) h = or_left _ _ h
found_same s (S5 Hows.Rb) h = or_left _ _ h
found_same s (S5 Hows.Mix) h = or_left _ _ h
found_same s (S5 Hows.Haz) h = or_left _ _ h
found_same s _ h = h

pub found_ended : (s : States) (how : How) → s.s3 ≡ true → has (found_by_call s) (S5 how) ≡ true
found_ended s Hows.Com h = or_right _ _ h
found_ended s Hows.Rb h = or_right _ _ h
found_ended s Hows.Mix h = or_right _ _ h
found_ended s Hows.Haz h = or_right _ _ h

-- it was there, or ended just before
pub found_how : (s : States) (t : State) → has (found_by_call s) t ≡ true
    → (has s t ≡ true) ⊎ ((s.s3 ≡ true) × ((how : How) × (t ≡ S5 how)))
found_how s (S5 how) h = by_end how h
  where
    by_or : (how : How) (a : Bool) → a ≡ has_end s.s5 how → (a || s.s3) ≡ true
        → (has_end s.s5 how ≡ true) ⊎ ((s.s3 ≡ true) × ((h : How) × (S5 how ≡ S5 h)))
    by_or how true e h = inl (sym e)
    by_or how false e h = inr (h, (how, refl))

    by_end : (how : How) → has (found_by_call s) (S5 how) ≡ true
        → (has_end s.s5 how ≡ true) ⊎ ((s.s3 ≡ true) × ((h : How) × (S5 how ≡ S5 h)))
    by_end Hows.Com h = by_or Hows.Com s.s5.heurcom refl h
    by_end Hows.Rb h = by_or Hows.Rb s.s5.heurrb refl h
    by_end Hows.Mix h = by_or Hows.Mix s.s5.heurmix refl h
    by_end Hows.Haz h = by_or Hows.Haz s.s5.heurhaz refl h
found_how s _ h = inl h

-- ** no state

pub is_some : (s : States) (t : State) → has s t ≡ true → is_some_state s ≡ true
is_some s S0 h = or_left s.s0 _ h
is_some s S1 h = or_right s.s0 _ (or_left s.s1 _ h)
is_some s S2 h = or_right s.s0 _ (or_right s.s1 _ (or_left s.s2 _ h))
is_some s S3 h = or_right s.s0 _ (or_right s.s1 _ (or_right s.s2 _ (or_left s.s3 _ h)))
is_some s S4 h = or_right s.s0 _ (or_right s.s1 _ (or_right s.s2 _ (or_right s.s3 _ (or_left s.s4 (is_some_end s.s5) h))))
is_some s (S5 how) h =
    or_right s.s0 _ (or_right s.s1 _ (or_right s.s2 _ (or_right s.s3 _ (or_right s.s4 (is_some_end s.s5) (some_end how s.s5 h)))))

pub no_state : (s : States) → is_some_state s ≡ false → (t : State) → has s t ≡ false
no_state s e t = by_value (has s t) refl
  where
    by_value : (b : Bool) → has s t ≡ b → has s t ≡ false
    by_value true h = absurd (let a : is_some_state s ≡ true = is_some s t h in let no : ⊥ = cc in no)
    by_value false h = h

pub some_state : (s : States) → is_some_state s ≡ true → (t : State) × (has s t ≡ true)
some_state s e = by0 (or_cases s.s0 _ e)
  where
    by5 : (s.s4 ≡ true) ⊎ (is_some_end s.s5 ≡ true) → (t : State) × (has s t ≡ true)
    by5 (inl h) = (S4, h)
    by5 (inr h) = let e = which_end s.s5 h in (S5 e.0, e.1)

    by3 : (s.s3 ≡ true) ⊎ ((s.s4 || is_some_end s.s5) ≡ true) → (t : State) × (has s t ≡ true)
    by3 (inl h) = (S3, h)
    by3 (inr h) = by5 (or_cases s.s4 _ h)

    by2 : (s.s2 ≡ true) ⊎ ((s.s3 || (s.s4 || is_some_end s.s5)) ≡ true) → (t : State) × (has s t ≡ true)
    by2 (inl h) = (S2, h)
    by2 (inr h) = by3 (or_cases s.s3 _ h)

    by1 : (s.s1 ≡ true) ⊎ ((s.s2 || (s.s3 || (s.s4 || is_some_end s.s5))) ≡ true) → (t : State) × (has s t ≡ true)
    by1 (inl h) = (S1, h)
    by1 (inr h) = by2 (or_cases s.s2 _ h)

    by0 : (s.s0 ≡ true) ⊎ ((s.s1 || (s.s2 || (s.s3 || (s.s4 || is_some_end s.s5)))) ≡ true) → (t : State) × (has s t ≡ true)
    by0 (inl h) = (S0, h)
    by0 (inr h) = by1 (or_cases s.s1 _ h)

pub empty_iff : (s : States) (b : Bool) → b ≡ is_some_state s → IsTrue (not b) ↔ ((t : State) → has s t ≡ false)
empty_iff s true e = (λ i. absurd (cc), λ none. let t = some_state s (sym e) in absurd (let h = none t.0 in let k = t.1 in let no : ⊥ = cc in no))
empty_iff s false e = (λ i. no_state s (sym e), λ none. refl)

-- where there is one, there is this
pub not_empty : (s : States) (b : Bool) → IsTrue b ↔ ((t : State) → has s t ≡ false) → b ≡ false → (t : State) × (has s t ≡ true)
not_empty s b iff e = by (is_some_state s) refl
  where
    by : (u : Bool) → is_some_state s ≡ u → (t : State) × (has s t ≡ true)
    by true h = some_state s h
    by false h = let yes : b ≡ true = iff.1 (no_state s h) in let no : true ≡ false = sym yes ∙ e in absurd (let never : ⊥ = cc in never)
