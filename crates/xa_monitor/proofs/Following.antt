-- How the states of branches follow what was seen.
use Rattle.std.proofs.Common.{◌≡◌, ℕ, Bool, true, false, ◌&&◌, ◌<◌, refl, sym, ap, ◌∙◌, subst}
use Rattle.std.specs.Prelude.{if◌then◌else◌, nat_lt, Option, Some, None}
use Rattle.std.proofs.lemmas.Bool.{and_parts, lt-ltb, ltb-true}
use mathlib.Core.Logic.{◌⊎◌.inl, ◌⊎◌.inr}
use Rattle.xa_base.specs.StateTable.{State, State.S0, State.S3, State.S5, broken, state_of}
use Rattle.xa_base.specs.declared.state.Standing.{Standing}
use Rattle.xa_base.specs.declared.state.Standing.TheVariants.{Unstarted, Active, Idle, Prepared, RollbackOnly, Completed}
use Rattle.xa_model.specs.Facts.{fits}
use Rattle.xa_model.specs.Trace.{Answer, Branch, Call, Happening, Line, Origin, line_eq, line_of}
use Rattle.xa_monitor.proofs.RowLemmas.BreakRows.{any_there, off_into, off_onto}
use Rattle.xa_monitor.proofs.RowLemmas.StateSets.{none_ended}
use Rattle.xa_monitor.specs.Entries.{off_line_at, states_before}
use Rattle.xa_monitor.specs.Monitor.{AllExplain, AreStatesBy, CanExplain, IsUnexplained, LeadsExactly}
use Rattle.xa_monitor.specs.Rows.{break_row, found_states, unstarted_states}
use Rattle.xa_monitor.specs.Seen.{Seen, Seen.Answered, Seen.Did, Seen.Lost as Seen_Lost, Seen.Start}
use Rattle.xa_monitor.specs.Standings.{Explained, MayBeDone, MayBeFound, MayStand}
use Rattle.xa_monitor.specs.States.{has}
use Rattle.xa_monitor.specs.declared.states.States.{States}

-- ** the start

found_into : (f : Standing) → broken f ≡ f → has found_states (state_of f) ≡ true
found_into Active e = absurd (cc)
found_into Idle e = absurd (cc)
found_into RollbackOnly e = absurd (cc)
found_into Prepared e = refl
found_into (Completed how) e = any_there how
found_into _ e = refl

before_into : (i : ℕ) (o : Origin) (b : Branch) (f : Standing) → o.incarnation ≡ i → MayBeFound o b f → has (states_before i b) (state_of f) ≡ true
before_into i o b f same (inl e) = by_test (fits b && nat_lt b.gtrid.incarnation i)
  where
    by_test : (t : Bool) → has (if t then found_states else unstarted_states) (state_of f) ≡ true
    by_test true = ap (λ z. has found_states (state_of z)) e
    by_test false = ap (λ z. has unstarted_states (state_of z)) e
before_into i o b f same (inr (fit, low, e)) =
    ap (λ t. has (if t && nat_lt b.gtrid.incarnation i then found_states else unstarted_states) (state_of f)) fit
    ∙ (ap (λ t. has (if t then found_states else unstarted_states) (state_of f))
    (lt-ltb b.gtrid.incarnation i (subst (λ z. b.gtrid.incarnation < z) same low)) ∙ found_into f e)

found_onto : (o : Origin) (b : Branch) → fits b ≡ true → b.gtrid.incarnation < o.incarnation → (s : State) → has found_states s ≡ true
    → (f : Standing) × MayBeFound o b f × (state_of f ≡ s)
found_onto o b fit low S0 h = (Unstarted, inl refl, refl)
found_onto o b fit low S3 h = (Prepared, inr (fit, low, refl), refl)
found_onto o b fit low (S5 how) h = (Completed how, inr (fit, low, refl), refl)
found_onto o b fit low _ h = absurd (cc)

unstarted_onto : (o : Origin) (b : Branch) (s : State) → has unstarted_states s ≡ true → (f : Standing) × MayBeFound o b f × (state_of f ≡ s)
unstarted_onto o b S0 h = (Unstarted, inl refl, refl)
unstarted_onto o b (S5 how) h = absurd (none_ended how h)
unstarted_onto o b _ h = absurd (cc)

before_onto : (i : ℕ) (o : Origin) (b : Branch) (s : State) → o.incarnation ≡ i → has (states_before i b) s ≡ true
    → (f : Standing) × MayBeFound o b f × (state_of f ≡ s)
before_onto i o b s same h = by_test (fits b && nat_lt b.gtrid.incarnation i) refl h
  where
    by_test : (t : Bool) → (fits b && nat_lt b.gtrid.incarnation i) ≡ t → has (if t then found_states else unstarted_states) s ≡ true
        → (f : Standing) × MayBeFound o b f × (state_of f ≡ s)
    by_test true e h =
        let both = and_parts (fits b) (nat_lt b.gtrid.incarnation i) e in
        found_onto o b both.0 (subst (λ z. b.gtrid.incarnation < z) (sym same) (ltb-true b.gtrid.incarnation i both.1)) s h
    by_test false e h = unstarted_onto o b s h

some_before : (i : ℕ) (b : Branch) → has (states_before i b) S0 ≡ true
some_before i b = by_test (fits b && nat_lt b.gtrid.incarnation i)
  where
    by_test : (t : Bool) → has (if t then found_states else unstarted_states) S0 ≡ true
    by_test true = refl
    by_test false = refl

pub by_start : (i : ℕ) (o : Origin) → o.incarnation ≡ i → (states : Branch → States) → ((b : Branch) → states b ≡ states_before i b)
    → AreStatesBy o Start states
by_start i o same states e = record {
  into = λ b f may. ap (λ z. has z (state_of f)) (e b) ∙ before_into i o b f same may;
  onto = λ b s h. before_onto i o b s same (sym (ap (λ z. has z s) (e b)) ∙ h);
  some = λ b. (S0, ap (λ z. has z S0) (e b) ∙ some_before i b);
}

-- ** what the manager did, an answer, and a line that is lost

pub by_did : (o : Origin) (seen : Seen) (states : Branch → States) (e : Happening) → AreStatesBy o seen states → AreStatesBy o (Did seen e) states
by_did o seen states e f = record { into = f.into; onto = f.onto; some = f.some }

pub by_answer : (o : Origin) (seen : Seen) (l : Line) (c : Call) (a : Answer) (before after : Branch → States) → LeadsExactly before (Explained l c a) after
    → ((b : Branch) → CanExplain before l c a b) → AreStatesBy o seen before → AreStatesBy o (Answered seen l c a) after
by_answer o seen l c a before after leads can f = record {
  into = λ b g may. leads.into b may.0 g (f.into b may.0 may.1) may.2;
  onto = λ b t h.
      let s = leads.onto b t h in
      let w = f.onto b s.0 s.1 in
      let g = s.2 w.0 w.2 in
      (g.0, (w.0, w.1, g.1), g.2);
  some = λ b. let x = can b in (state_of x.to, leads.into b x.from x.to x.among x.leads);
}

-- where the states are the same, what was followed still is, and what explains an answer still does
pub still_followed : (o : Origin) (seen : Seen) (before after : Branch → States) → ((b : Branch) → after b ≡ before b) → AreStatesBy o seen before
    → AreStatesBy o seen after
still_followed o seen before after e f = record {
  into = λ b g may. ap (λ z. has z (state_of g)) (e b) ∙ f.into b g may;
  onto = λ b s h. f.onto b s (sym (ap (λ z. has z s) (e b)) ∙ h);
  some = λ b. let s = f.some b in (s.0, ap (λ z. has z s.0) (e b) ∙ s.1);
}

pub still_explain : (before after : Branch → States) → ((b : Branch) → after b ≡ before b) → (l : Line) (c : Call) (a : Answer) → AllExplain before l c a
    → AllExplain after l c a
still_explain before after e l c a all b some =
    let x = all b (some.0, sym (ap (λ z. has z some.0) (e b)) ∙ some.1) in
    record { from = x.from; to = x.to; among = ap (λ z. has z (state_of x.from)) (e b) ∙ x.among; leads = x.leads }

-- an answer that is followed once room was made for it
pub heard_in_room : (before mid after : Branch → States) → ((b : Branch) → mid b ≡ before b) → (l : Line) (c : Call) (a : Answer) → AllExplain before l c a
    → (AllExplain mid l c a → (o : Origin) (seen : Seen) → AreStatesBy o seen mid → AreStatesBy o (Answered seen l c a) after)
    → (o : Origin) (seen : Seen) → AreStatesBy o seen before → AreStatesBy o (Answered seen l c a) after
heard_in_room before mid after e l c a all follow o seen f = follow (still_explain before mid e l c a all) o seen (still_followed o seen before mid e f)

-- where no state explains the answer, no standing does
pub no_standing : (o : Origin) (seen : Seen) (l : Line) (c : Call) (a : Answer) (states : Branch → States) (b : Branch)
    → (CanExplain states l c a b → ⊥) → AreStatesBy o seen states → IsUnexplained o (Answered seen l c a) b
no_standing o seen l c a states b never f g may =
    never (record { from = may.0; to = g; among = f.into b may.0 may.1; leads = may.2 })

pub by_loss : (o : Origin) (seen : Seen) (l : Line) (c : Option Call) (before mid after : Branch → States)
    → LeadsExactly before (MayBeDone c) mid → ((b : Branch) → after b ≡ off_line_at l b (mid b))
    → AreStatesBy o seen before → AreStatesBy o (Seen_Lost seen l c) after
by_loss o seen l c before mid after leads e f = record {
  into = λ b g may.
      let there = leads.into b may.0 may.2.0 (f.into b may.0 may.1) may.2.1 in
      ap (λ z. has z (state_of g)) (e b) ∙ (ap (λ z. has (off_line_at l b (mid b)) (state_of z)) may.2.2
      ∙ broken_there (line_eq l (line_of b)) (mid b) may.2.0 there);
  onto = λ b t h.
      let m = came_by (line_eq l (line_of b)) (mid b) t (sym (ap (λ z. has z t) (e b)) ∙ h) in
      let s = leads.onto b m.0 m.1 in
      let w = f.onto b s.0 s.1 in
      let g = s.2 w.0 w.2 in
      ((if line_eq l (line_of b) then broken g.0 else g.0), (w.0, w.1, (g.0, g.1, refl)), m.2 g.0 g.2);
  some = λ b.
      let s = f.some b in
      let w = f.onto b s.0 s.1 in
      let there = leads.into b w.0 w.0 (ap (has (before b)) w.2 ∙ s.1) (stays c b w.0) in
      let end : Standing = if line_eq l (line_of b) then broken w.0 else w.0 in
      (state_of end, ap (λ z. has z (state_of end)) (e b) ∙ broken_there (line_eq l (line_of b)) (mid b) w.0 there);
}
  where
    stays : (c : Option Call) (b : Branch) (g : Standing) → MayBeDone c b g g
    stays None b g = refl
    stays (Some c) b g = inl refl

    broken_there : (t : Bool) (m : States) (f : Standing) → has m (state_of f) ≡ true
        → has (if t then break_row m else m) (state_of (if t then broken f else f)) ≡ true
    broken_there true m f h = off_into m (break_row m) refl f (broken f) h refl
    broken_there false m f h = h

    came_by : (q : Bool) (m : States) (t : State) → has (if q then break_row m else m) t ≡ true
        → (s : State) × (has m s ≡ true) × ((f : Standing) → state_of f ≡ s → state_of (if q then broken f else f) ≡ t)
    came_by true m t h =
        let s = off_onto m (break_row m) refl t h in
        (s.0, s.1, λ f p. let g = s.2 f p in sym (ap state_of g.1) ∙ g.2)
    came_by false m t h = (t, h, λ f p. p)

-- each branch may stand where a state of it is
pub somewhere : (o : Origin) (seen : Seen) (states : Branch → States) → AreStatesBy o seen states → (b : Branch) → (s : Standing) × MayStand o seen b s
somewhere o seen states f b = let s = f.some b in let w = f.onto b s.0 s.1 in (w.0, w.1)
