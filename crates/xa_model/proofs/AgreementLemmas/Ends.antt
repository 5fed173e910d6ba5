-- A branch ends at most once, and stays as it ended.
use Rattle.std.proofs.Common.{◌≡◌, ◌≤◌, List, [], ◌∷◌, ◌++◌, length, refl, sym, ◌∙◌, subst, arith}
use Rattle.xa_model.specs.Trace.{Branch, Happening, Trace, Trace.From, Trace.Then}
use Rattle.xa_base.specs.declared.state.Standing.{Standing}
use Rattle.xa_base.specs.declared.state.Standing.TheVariants.{Unstarted, Active, Idle, Prepared, RollbackOnly, Completed, Committed, RolledBack, Lost, ReadOnly, Forgotten}
use Rattle.xa_model.specs.Facts.{standing}
use Rattle.xa_model.specs.Protocol.{AllRight}
use Rattle.xa_model.proofs.Invariant.{IsEnded}
use Rattle.xa_model.proofs.Invariant.Moves.{Move, Move.Stays, Move.Starts, Move.Completes, Move.Rolls_back, CanRollBack, Move.Ends, Move.Fails, Move.Prepares, Move.Only_reads, Move.Refuses, Move.In_one_phase, Move.Commits as Commits_now, Move.Forgets, Move.Loses_active, Move.Loses_idle, Move.Loses_rollback_only}
use Rattle.xa_model.proofs.Invariant.Now.{step_move}
use Rattle.xa_model.proofs.Invariant.OneMore.{ended_kept}
use Rattle.xa_model.proofs.Invariant.Preservation.{always}
use Rattle.xa_model.specs.Promises.Agreement.{followed_by, end_in, ends, IsFinal}

-- ** ends

-- a branch that was at work or not yet started has no end, and another has at most one
abbrev EndsFit : Standing → List Standing → Type 0
EndsFit Unstarted fs = length fs ≡ 0
EndsFit Active fs = length fs ≡ 0
EndsFit Idle fs = length fs ≡ 0
EndsFit Prepared fs = length fs ≡ 0
EndsFit RollbackOnly fs = length fs ≡ 0
EndsFit _ fs = length fs ≤ 1

ends_stay : (f : Standing) (fs : List Standing) → EndsFit f fs → EndsFit f (end_in f f ++ fs)
ends_stay Unstarted fs h = h
ends_stay Active fs h = h
ends_stay Idle fs h = h
ends_stay Prepared fs h = h
ends_stay RollbackOnly fs h = h
ends_stay (Completed how) fs h = h
ends_stay Committed fs h = h
ends_stay RolledBack fs h = h
ends_stay Lost fs h = h
ends_stay ReadOnly fs h = h
ends_stay (Forgotten how) fs h = h

one_end : (f : Standing) (fs : List Standing) → length fs ≡ 0 → length (f ∷ fs) ≤ 1
one_end f fs h = omega arith

rolled_back_ends : (f : Standing) (fs : List Standing) → CanRollBack f → EndsFit f fs → EndsFit RolledBack (end_in f RolledBack ++ fs)
rolled_back_ends Idle fs c h = one_end RolledBack fs h
rolled_back_ends Prepared fs c h = one_end RolledBack fs h
rolled_back_ends RollbackOnly fs c h = one_end RolledBack fs h
rolled_back_ends _ fs c h = absurd c

ends_move : (tr : Trace) (b : Branch) (f g : Standing) (fs : List Standing) → Move tr b f g → EndsFit f fs → EndsFit g (end_in f g ++ fs)
ends_move tr b f g fs (Stays x) h = ends_stay x fs h
ends_move tr b f g fs (Starts s) h = h
ends_move tr b f g fs Ends h = h
ends_move tr b f g fs Fails h = h
ends_move tr b f g fs Prepares h = h
ends_move tr b f g fs Only_reads h = one_end ReadOnly fs h
ends_move tr b f g fs Refuses h = one_end RolledBack fs h
ends_move tr b f g fs (In_one_phase p) h = one_end Committed fs h
ends_move tr b f g fs (Commits_now p) h = one_end Committed fs h
ends_move tr b f g fs (Rolls_back x c p q) h = rolled_back_ends x fs c h
ends_move tr b f g fs (Completes how) h = one_end (Completed how) fs h
ends_move tr b f g fs (Forgets how p) h = h
ends_move tr b f g fs Loses_active h = one_end Lost fs h
ends_move tr b f g fs Loses_idle h = one_end Lost fs h
ends_move tr b f g fs Loses_rollback_only h = one_end Lost fs h

ends_fit : (tr : Trace) (b : Branch) → AllRight tr → EndsFit (standing tr b) (ends tr b)
ends_fit (From o) b r = subst (λ f. EndsFit f []) (sym (r.clear b)) refl
ends_fit (Then tr e) b r = ends_move tr b _ _ (ends tr b) (step_move tr e b (always tr r.0) r.1) (ends_fit tr b r.0)

at_most_one : (f : Standing) (fs : List Standing) → EndsFit f fs → length fs ≤ 1
at_most_one Unstarted fs h = omega arith
at_most_one Active fs h = omega arith
at_most_one Idle fs h = omega arith
at_most_one Prepared fs h = omega arith
at_most_one RollbackOnly fs h = omega arith
at_most_one (Completed how) fs h = h
at_most_one Committed fs h = h
at_most_one RolledBack fs h = h
at_most_one Lost fs h = h
at_most_one ReadOnly fs h = h
at_most_one (Forgotten how) fs h = h

pub ends_once : (tr : Trace) (b : Branch) → AllRight tr → length (ends tr b) ≤ 1
ends_once tr b r = at_most_one (standing tr b) (ends tr b) (ends_fit tr b r)

-- ** runs

-- each beginning of a right run is right
pub right_before : (tr : Trace) (es : List Happening) → AllRight (followed_by tr es) → AllRight tr
right_before tr [] r = r
right_before tr (e ∷ es) r = (right_before (Then tr e) es r).0

is_ended : (f : Standing) → IsFinal f → IsEnded f
is_ended Committed h = tt
is_ended RolledBack h = tt
is_ended Lost h = tt
is_ended ReadOnly h = tt
is_ended (Forgotten how) h = tt
is_ended _ h = absurd h

-- a final standing stays
pub final : (tr : Trace) (es : List Happening) (b : Branch) → AllRight (followed_by tr es) → IsFinal (standing tr b)
    → standing (followed_by tr es) b ≡ standing tr b
final tr [] b r h = refl
final tr (e ∷ es) b r h =
    let r' = right_before (Then tr e) es r in
    let q = ended_kept tr e b (standing tr b) (always tr r'.0) r'.1 (is_ended (standing tr b) h) refl in
    final (Then tr e) es b r (subst IsFinal (sym q) h) ∙ q
