-- The row of a call that was answered in any way, or wasn't done.
use Rattle.std.proofs.Common.{◌≡◌, ℕ, zero, suc, Bool, true, false, ◌||◌, ◌⊎◌, refl, sym, ap, ◌∙◌}
use Rattle.std.proofs.lemmas.Bool.{or_cases, or_left, or_right}
use Rattle.std.specs.Prelude.{Option, Some, None}
use mathlib.Core.Logic.{◌⊎◌.inl, ◌⊎◌.inr}
use Rattle.xa_base.specs.StateTable.{Kind, Kind.Start, Kind.Join, Kind.End, Kind.Prepare, Kind.Commit, Kind.OnePhase, Kind.Rollback, Kind.Forget, State, State.S0, State.S1, State.S2, State.S3, State.S4, State.S5, answer, moved, state_of}
use Rattle.xa_base.specs.declared.code.Code.{Code}
use Rattle.xa_base.specs.declared.code.Code.TheVariants.{DuplicateXid, Heuristic, Protocol, RolledBack, Success}
use Rattle.xa_base.specs.declared.code.Code.TheVariants as Codes
use Rattle.xa_base.specs.declared.code.How.{How}
use Rattle.xa_base.specs.declared.code.RbCode.TheVariants as Rb
use Rattle.xa_base.specs.declared.state.Standing.{Standing}
use Rattle.xa_base.specs.declared.vote.Vote.{Vote}
use Rattle.xa_base.specs.declared.vote.Vote.TheVariants.{Yes, ReadOnly, No}
use Rattle.xa_monitor.specs.Rows.{any_row, any_row_if, found_by_call, is_some_end, only_end, row}
use Rattle.xa_monitor.specs.States.{AskedOrNot, LeadsInto, LeadsOnto, has, has_end}
use Rattle.xa_monitor.specs.declared.states.States.{States}
use Rattle.xa_monitor.proofs.RowLemmas.StateSets.{there, only_that, some_end, found_same}
use Rattle.xa_monitor.proofs.RowLemmas.CallRows.{was_found, asked_onto}

into_any : (k : Kind) (s : State) (v : Vote) (n : ℕ) (m : States) → has (found_by_call m) s ≡ true
    → has (any_row k m) (state_of (moved (there s) k (answer k s v n))) ≡ true
into_any Start S0 v n m h = or_right m.s1 m.s0 h
into_any Start S1 v n m h = or_left m.s1 m.s0 h
into_any Start _ v n m h = h
into_any Join S0 v n m h = h
into_any Join _ v n m h = h
into_any (End false) S0 v n m h = h
into_any (End false) S1 v n m h = or_right m.s2 m.s1 h
into_any (End false) S2 v n m h = or_left m.s2 m.s1 h
into_any (End false) _ v n m h = h
into_any (End true) S0 v n m h = h
into_any (End true) S1 v n m h = or_right m.s4 m.s1 h
into_any (End true) S4 v n m h = or_left m.s4 m.s1 h
into_any (End true) _ v n m h = h
into_any Prepare S0 v n m h = or_left m.s0 m.s2 h
into_any Prepare S2 Yes n m h = or_right m.s3 m.s2 h
into_any Prepare S2 ReadOnly n m h = or_right m.s0 m.s2 h
into_any Prepare S2 (No code) n m h = or_right m.s0 m.s2 h
into_any Prepare S3 v n m h = or_left m.s3 m.s2 h
into_any Prepare _ v n m h = h
into_any Commit S0 v n m h = or_left m.s0 m.s3 h
into_any Commit S3 v zero m h = or_right m.s0 m.s3 h
into_any Commit S3 v (suc n) m h = h
into_any Commit _ v n m h = h
into_any OnePhase S0 v n m h = or_left m.s0 m.s2 h
into_any OnePhase S2 Yes n m h = or_right m.s0 m.s2 h
into_any OnePhase S2 ReadOnly n m h = or_right m.s0 m.s2 h
into_any OnePhase S2 (No code) n m h = or_right m.s0 m.s2 h
into_any OnePhase _ v n m h = h
into_any Rollback S0 v n m h = or_left m.s0 (m.s2 || (m.s3 || m.s4)) h
into_any Rollback S2 v n m h = or_right m.s0 (m.s2 || (m.s3 || m.s4)) (or_left m.s2 (m.s3 || m.s4) h)
into_any Rollback S3 v n m h = or_right m.s0 (m.s2 || (m.s3 || m.s4)) (or_right m.s2 (m.s3 || m.s4) (or_left m.s3 m.s4 h))
into_any Rollback S4 v n m h = or_right m.s0 (m.s2 || (m.s3 || m.s4)) (or_right m.s2 (m.s3 || m.s4) (or_right m.s3 m.s4 h))
into_any Rollback _ v n m h = h
into_any Forget S0 v n m h = or_left m.s0 (is_some_end (found_by_call m).s5) h
into_any Forget (S5 how) v n m h = or_right m.s0 (is_some_end (found_by_call m).s5) (some_end how (found_by_call m).s5 h)
into_any Forget _ v n m h = h

any_same : (k : Kind) (t : State) (m : States) → has m t ≡ true → has (any_row k m) t ≡ true
any_same Start S1 m h = or_left m.s1 m.s0 h
any_same Start (S5 how) m h = found_same m (S5 how) h
any_same Start _ m h = h
any_same Join t m h = found_same m t h
any_same (End false) S2 m h = or_left m.s2 m.s1 h
any_same (End false) (S5 how) m h = found_same m (S5 how) h
any_same (End false) _ m h = h
any_same (End true) S4 m h = or_left m.s4 m.s1 h
any_same (End true) (S5 how) m h = found_same m (S5 how) h
any_same (End true) _ m h = h
any_same Prepare S0 m h = or_left m.s0 m.s2 h
any_same Prepare S3 m h = or_left m.s3 m.s2 h
any_same Prepare (S5 how) m h = found_same m (S5 how) h
any_same Prepare _ m h = h
any_same Commit S0 m h = or_left m.s0 m.s3 h
any_same Commit (S5 how) m h = found_same m (S5 how) h
any_same Commit _ m h = h
any_same OnePhase S0 m h = or_left m.s0 m.s2 h
any_same OnePhase (S5 how) m h = found_same m (S5 how) h
any_same OnePhase _ m h = h
any_same Rollback S0 m h = or_left m.s0 (m.s2 || (m.s3 || m.s4)) h
any_same Rollback (S5 how) m h = found_same m (S5 how) h
any_same Rollback _ m h = h
any_same Forget S0 m h = or_left m.s0 (is_some_end (found_by_call m).s5) h
any_same Forget _ m h = h

-- it was there, or some answer leads there
abbrev HereOrLed : Kind → State → States → Type 0
HereOrLed k t m = (has m t ≡ true) ⊎ ((a : Code) × (has (row k a (found_by_call m)) t ≡ true))

or_led : (k : Kind) (t : State) (m : States) (b : Bool) (a : Code) → (has m t || b) ≡ true
    → (b ≡ true → has (row k a (found_by_call m)) t ≡ true) → HereOrLed k t m
or_led k t m b a h led = by_part (or_cases (has m t) b h)
  where
    by_part : (has m t ≡ true) ⊎ (b ≡ true) → HereOrLed k t m
    by_part (inl e) = inl e
    by_part (inr e) = inr (a, led e)

kept_end : (k : Kind) (how : How) (m : States) → has_end (found_by_call m).s5 how ≡ true
    → has_end (only_end how (found_by_call m).s5) how ≡ true
kept_end k how m h = only_that how (found_by_call m).s5 ∙ h

rolled_back_any : (m : States) → (m.s0 ≡ true) ⊎ ((m.s2 || (m.s3 || m.s4)) ≡ true) → HereOrLed Rollback S0 m
rolled_back_any m (inl h) = inl h
rolled_back_any m (inr h) = by_first (or_cases m.s2 (m.s3 || m.s4) h)
  where
    by_second : (m.s3 ≡ true) ⊎ (m.s4 ≡ true) → HereOrLed Rollback S0 m
    by_second (inl h) = inr (Success, or_right m.s2 m.s3 h)
    by_second (inr h) = inr (RolledBack Rb.Rollback, h)

    by_first : (m.s2 ≡ true) ⊎ ((m.s3 || m.s4) ≡ true) → HereOrLed Rollback S0 m
    by_first (inl h) = inr (Success, or_left m.s2 m.s3 h)
    by_first (inr h) = by_second (or_cases m.s3 m.s4 h)

any_led : (k : Kind) (t : State) (m : States) → has (any_row k m) t ≡ true → HereOrLed k t m
any_led Start S1 m h = or_led Start S1 m m.s0 Success h (λ e. e)
any_led Start (S5 how) m h = inr (DuplicateXid, h)
any_led Start _ m h = inl h
any_led Join (S5 how) m h = inr (Protocol, h)
any_led Join _ m h = inl h
any_led (End false) S2 m h = or_led (End false) S2 m m.s1 Success h (λ e. e)
any_led (End false) (S5 how) m h = inr (Protocol, h)
any_led (End false) _ m h = inl h
any_led (End true) S4 m h = or_led (End true) S4 m m.s1 (RolledBack Rb.Rollback) h (λ e. e)
any_led (End true) (S5 how) m h = inr (Protocol, h)
any_led (End true) _ m h = inl h
any_led Prepare S0 m h = or_led Prepare S0 m m.s2 Codes.ReadOnly h (λ e. e)
any_led Prepare S3 m h = or_led Prepare S3 m m.s2 Success h (λ e. e)
any_led Prepare (S5 how) m h = inr (Protocol, h)
any_led Prepare _ m h = inl h
any_led Commit S0 m h = or_led Commit S0 m m.s3 Success h (λ e. e)
any_led Commit (S5 how) m h = inr (Heuristic how, kept_end Commit how m h)
any_led Commit _ m h = inl h
any_led OnePhase S0 m h = or_led OnePhase S0 m m.s2 Success h (λ e. e)
any_led OnePhase (S5 how) m h = inr (Heuristic how, kept_end OnePhase how m h)
any_led OnePhase _ m h = inl h
any_led Rollback S0 m h = rolled_back_any m (or_cases m.s0 (m.s2 || (m.s3 || m.s4)) h)
any_led Rollback (S5 how) m h = inr (Heuristic how, kept_end Rollback how m h)
any_led Rollback _ m h = inl h
any_led Forget S0 m h = or_led Forget S0 m (is_some_end (found_by_call m).s5) Success h (λ e. e)
any_led Forget _ m h = inl h

pub into_any_if : {X : Type 0} (asks : Option (Kind × X)) (s after : States) → after ≡ any_row_if asks s → LeadsInto s (AskedOrNot asks) after
into_any_if (Some (k, x)) s after e f g h (inl same) =
    ap (λ z. has z (state_of g)) e ∙ (ap (λ z. has (any_row k s) (state_of z)) same ∙ any_same k (state_of f) s h)
into_any_if (Some (k, x)) s after e f g h (inr (a, y)) =
    let c = was_found k a s f g h y in
    ap (λ z. has z (state_of g)) e ∙ (ap (has (any_row k s)) c.leads ∙ into_any k c.state c.vote c.retries s c.was)
into_any_if None s after e f g h (inl same) = ap (λ z. has z (state_of g)) e ∙ (ap (λ z. has s (state_of z)) same ∙ h)
into_any_if None s after e f g h (inr (a, same)) = ap (λ z. has z (state_of g)) e ∙ (ap (λ z. has s (state_of z)) same ∙ h)

any_onto : {X : Type 0} (x : X) (k : Kind) (s : States) (t : State) → HereOrLed k t s
    → (z : State) × (has s z ≡ true) × ((f : Standing) → state_of f ≡ z → (g : Standing) × AskedOrNot (Some (k, x)) f g × (state_of g ≡ t))
any_onto x k s t (inl h) = (t, h, λ f p. (f, inl refl, p))
any_onto x k s t (inr (a, h)) =
    let y = asked_onto x k a s t h in
    (y.0, y.1, λ f p. let z = y.2 f p in (z.0, inr (a, z.1), z.2))

pub onto_any_if : {X : Type 0} (asks : Option (Kind × X)) (s after : States) → after ≡ any_row_if asks s → LeadsOnto s (AskedOrNot asks) after
onto_any_if (Some (k, x)) s after e t h = any_onto x k s t (any_led k t s (sym (ap (λ z. has z t) e) ∙ h))
onto_any_if None s after e t h = (t, sym (ap (λ z. has z t) e) ∙ h, λ f p. (f, inl refl, p))
