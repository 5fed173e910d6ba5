-- Events in turn.
use Rattle.std.proofs.Common.{◌≡◌, ℕ, ◌+◌, ◌<◌, Bool, true, false, ◌||◌, cond, MatchBool, Some, None, List, [], ◌∷◌, ◌++◌, length, refl, sym, subst}
use Rattle.std.proofs.Common.{get_or, drop, Option, ◌∙◌, ap, append_assoc, append-nil}
use Rattle.std.proofs.lemmas.List.{drop_more}
use Rattle.std.specs.Option.{option_to_list}
use Rattle.xa_base.specs.Xid.{Xid}
use Rattle.xa_base.specs.declared.branch.Gtrid.{Gtrid}
use Rattle.xa_base.specs.declared.reply.Event.{Event}
use Rattle.xa_base.specs.declared.reply.Reply.{Reply}
use Rattle.xa_base.specs.declared.step.Step.TheVariants as steps
use Rattle.xa_scenario_file.specs.declared.entry.Entry.{Entry}
use Rattle.xa_scenario.specs.Plays.{AreAnswered, IsAnswered, IsDrain, IsPlay, MakesEvents, PerformsSteps, events_after, begins_one, gtrid_answered, gtrid_begun, gtrids_begun, moves, trace_after}

-- From this trace on, events that P asks for at the end make the whole one that P asks for from the
-- start.
abbrev pub GoesOn : (List Event → Type 0) → List Event → List Event → Type 0
GoesOn P start trace = (others : List Event) → P others → AreAnswered trace others → PerformsSteps P start (trace_after trace others)

pub starts : (P : List Event → Type 0) (trace : List Event) → GoesOn P trace trace
starts P trace others wanted answered = record { events = others; wanted = wanted; answered = answered; leads = refl }

-- a pair that moves something, and then the rest of a drain
pub drain_goes_on : (thread rm : ℕ) (start trace mid new : List Event) (took heard : Reply Xid)
    → IsAnswered trace took → mid ≡ events_after trace (record { step = steps.Take thread rm; reply = took })
    → IsAnswered mid heard → new ≡ events_after mid (record { step = steps.Hear thread rm; reply = heard })
    → (moves took || moves heard) ≡ true → GoesOn (IsDrain thread rm) start trace → GoesOn (IsDrain thread rm) start new
drain_goes_on thread rm start trace mid new took heard first second third fourth moved whole others wanted answered =
    let a : Event = record { step = steps.Take thread rm; reply = took } in
    let b : Event = record { step = steps.Hear thread rm; reply = heard } in
    rw (fourth, second) (whole (a ∷ b ∷ others) (refl, refl, rw moved wanted) (first, (rw second at third, rw (fourth, second) at answered)))

-- a pair that moves nothing
pub drain_ends : (thread rm : ℕ) (start trace mid new : List Event) (took heard : Reply Xid)
    → IsAnswered trace took → mid ≡ events_after trace (record { step = steps.Take thread rm; reply = took })
    → IsAnswered mid heard → new ≡ events_after mid (record { step = steps.Hear thread rm; reply = heard })
    → (moves took || moves heard) ≡ false → GoesOn (IsDrain thread rm) start trace → PerformsSteps (IsDrain thread rm) start new
drain_ends thread rm start trace mid new took heard first second third fourth still whole =
    let a : Event = record { step = steps.Take thread rm; reply = took } in
    let b : Event = record { step = steps.Hear thread rm; reply = heard } in
    rw (fourth, second) (whole (a ∷ b ∷ []) (refl, refl, rw still refl) (first, (rw second at third, tt)))

-- three events in turn
pub three : (P : List Event → Type 0) (a b d : Event) (old one two new : List Event)
    → IsAnswered old a.reply → one ≡ events_after old a → IsAnswered one b.reply → two ≡ events_after one b → IsAnswered two d.reply → new ≡ events_after two d
    → P (a ∷ b ∷ d ∷ []) → PerformsSteps P old new
three P a b d old one two new first second third fourth fifth sixth wanted = record {
  events = a ∷ b ∷ d ∷ [];
  wanted = wanted;
  answered = (first, (rw second at third, (rw (fourth, second) at fifth, tt)));
  leads = rw (sixth, fourth, second) refl;
}

-- what else the events have
pub performs_also : {P Q : List Event → Type 0} {old new : List Event} → ((events : List Event) → P events → Q events) → PerformsSteps P old new
    → PerformsSteps Q old new
performs_also more h = record { events = h.events; wanted = more h.events h.wanted; answered = h.answered; leads = h.leads }

names_none_after : (thread rm : ℕ) (moved : Bool) (rest : List Event) → (IsDrain thread rm rest → gtrids_begun rest ≡ [])
    → MatchBool moved (IsDrain thread rm rest) (rest ≡ []) → gtrids_begun rest ≡ []
names_none_after thread rm true rest by h = by h
names_none_after thread rm false rest by h = rw h refl

-- a drain begins no transaction
pub drain_names_none : (thread rm : ℕ) (events : List Event) → IsDrain thread rm events → gtrids_begun events ≡ []
drain_names_none thread rm [] h = absurd h
drain_names_none thread rm (a ∷ []) h = absurd h
drain_names_none thread rm (a ∷ b ∷ rest) h =
    let others = names_none_after thread rm (moves a.reply || moves b.reply) rest (drain_names_none thread rm rest) h.2 in
    rw (h.0, h.1) others

-- From this trace on, a play of these entries makes, with the events before it, a play of all
-- entries from the start.
abbrev pub PlaysOn : (first : List Gtrid) → (all : List Entry) → (start : List Event) → (gtrids : List Gtrid) → List Entry → (trace : List Event) → Type 0
PlaysOn first all start gtrids entries trace = (others : List Event) → IsPlay gtrids entries others → AreAnswered trace others
    → PerformsSteps (λ steps. IsPlay first all steps × (gtrids ++ gtrids_begun others ≡ first ++ gtrids_begun steps)) start (trace_after trace others)

pub plays_on : (gtrids : List Gtrid) (entries : List Entry) (trace : List Event) → PlaysOn gtrids entries trace gtrids entries trace
plays_on gtrids entries trace others wanted answered = record { events = others; wanted = (wanted, refl); answered = answered; leads = refl }

trace_after-append : (trace here others : List Event) → trace_after trace (here ++ others) ≡ trace_after (trace_after trace here) others
trace_after-append trace [] others = refl
trace_after-append trace (e ∷ here) others = trace_after-append (events_after trace e) here others

answered_both : (trace here others : List Event) → AreAnswered trace here → AreAnswered (trace_after trace here) others → AreAnswered trace (here ++ others)
answered_both trace [] others first second = second
answered_both trace (e ∷ here) others first second = (first.0, answered_both (events_after trace e) here others first.1 second)

begun_by : (o : Option Gtrid) (event : Event) (others : List Event) → gtrid_begun event ≡ o
    → gtrids_begun (event ∷ others) ≡ option_to_list o ++ gtrids_begun others
begun_by (Some g) event others is = rw is refl
begun_by None event others is = rw is refl

gtrids_of-append : (here others : List Event) → gtrids_begun (here ++ others) ≡ gtrids_begun here ++ gtrids_begun others
gtrids_of-append [] others = refl
gtrids_of-append (e ∷ here) others =
    begun_by (gtrid_begun e) e (here ++ others) refl ∙ ap (λ gs. option_to_list (gtrid_begun e) ++ gs) (gtrids_of-append here others)
    ∙ sym (append_assoc (option_to_list (gtrid_begun e)) (gtrids_begun here) (gtrids_begun others))
    ∙ ap (λ gs. gs ++ gtrids_begun others) (sym (begun_by (gtrid_begun e) e here refl))

-- an entry that was played, and then those after it
play_goes_on : (first : List Gtrid) (all : List Entry) (gtrids began grown : List Gtrid) (entry : Entry) (entries : List Entry) (start trace new : List Event)
    → grown ≡ gtrids ++ began → PerformsSteps (λ here. MakesEvents gtrids entry here × (gtrids_begun here ≡ began)) trace new
    → PlaysOn first all start gtrids (entry ∷ entries) trace → PlaysOn first all start grown entries new
play_goes_on first all gtrids began grown entry entries start trace new more played whole others wanted answered =
    let here = played.events in
    let next : IsPlay (gtrids ++ gtrids_begun here) entries others = rw (played.wanted.1, ← more) wanted in
    let same : grown ++ gtrids_begun others ≡ gtrids ++ gtrids_begun (here ++ others) =
    ap (λ gs. gs ++ gtrids_begun others) (more ∙ ap (λ gs. gtrids ++ gs) (sym played.wanted.1))
    ∙ append_assoc gtrids (gtrids_begun here) (gtrids_begun others) ∙ ap (λ gs. gtrids ++ gs) (sym (gtrids_of-append here others)) in
    let both =
    whole (here ++ others) (here, (others, refl, played.wanted.0, next)) (answered_both trace here others played.answered (rw played.leads answered)) in
    rw (← played.leads, ← trace_after-append trace here others) (performs_also (λ steps h. (h.0, same ∙ h.1)) both)

-- no entry is left
pub play_ends : (first : List Gtrid) (all : List Entry) (start : List Event) (gtrids : List Gtrid) (trace : List Event)
    → PlaysOn first all start gtrids [] trace → PerformsSteps (λ steps. IsPlay first all steps × (gtrids ≡ first ++ gtrids_begun steps)) start trace
play_ends first all start gtrids trace whole = performs_also (λ steps h. (h.0, sym (append-nil gtrids) ∙ h.1)) (whole [] refl tt)

-- one turn of a loop over the entries
pub play_turn : (first : List Gtrid) (all : List Entry) (gtrids seen began grown : List Gtrid) (entries : List Entry) (i : ℕ) (d : Entry)
    (start trace new : List Event)
    → i < length entries → seen ≡ gtrids → grown ≡ gtrids ++ began
    → PerformsSteps (λ here. MakesEvents seen (get_or entries i d) here × (gtrids_begun here ≡ began)) trace new
    → PlaysOn first all start gtrids (drop i entries) trace → PlaysOn first all start grown (drop (i + 1) entries) new
play_turn first all gtrids seen began grown entries i d start trace new within same more played whole =
    let at_gtrids = subst (λ gs. PerformsSteps (λ here. MakesEvents gs (get_or entries i d) here × (gtrids_begun here ≡ began)) trace new) same played in
    let at_entries = subst (λ es. PlaysOn first all start gtrids es trace) (drop_more entries i d within) whole in
    play_goes_on first all gtrids began grown (get_or entries i d) (drop (i + 1) entries) start trace new more at_gtrids at_entries

-- one event
pub one : (P : List Event → Type 0) (a : Event) (old new : List Event) → IsAnswered old a.reply → new ≡ events_after old a → P (a ∷ [])
    → PerformsSteps P old new
one P a old new answered added wanted = record {
  events = a ∷ [];
  wanted = wanted;
  answered = (answered, tt);
  leads = sym added;
}

-- what the name of one event stands for, if it is a begin
pub begun_one : (event : Event) (is_begin : Bool) → begins_one event.step ≡ is_begin
    → gtrids_begun (event ∷ []) ≡ option_to_list (cond is_begin (Some (gtrid_answered event.reply)) None)
begun_one event true is = rw is refl
begun_one event false is = rw is refl
