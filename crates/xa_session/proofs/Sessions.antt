-- What a step leaves of a session.
use Rattle.std.proofs.Common.{◌≡◌, ℕ, ◌+◌, ◌-◌, ◌<◌, ◌≤◌, inl, inr, Bool, true, false, not, ◌&&◌, List, [], ◌∷◌, length, Option, Some, None, refl, sym, ap, ◌∙◌, subst, arith}
use mathlib.Core.HLevel.{is_prop→PathP}
use native.Mathlib.Nat.{ℕ_set}
use Rattle.std.specs.Prelude.{if◌then◌else◌, nat_le, Result, Ok, Err, OnOk, IfErr}
use Rattle.std.proofs.lemmas.Bool.Decides.{nat_tests}
use Rattle.xa_base.specs.declared.branch.Gtrid.{Gtrid}
use Rattle.xa_base.specs.declared.refusal.Refusal.{Refusal}
use Rattle.xa_base.specs.declared.refusal.Refusal.TheVariants.{Limit, LogFault}
use Rattle.xa_line.specs.Grid.{new_grid}
use Rattle.xa_line.specs.Traffic.{Traffic}
use Rattle.xa_line.proofs.GridLaws.{line_at-new_grid}
use Rattle.xa_model.specs.Replies.Guards.{refusal_of}
use Rattle.xa_model.specs.Replies.Steps.{Step}
use Rattle.xa_model.proofs.Replies.Guards.{forced_of}
use Rattle.xa_model.specs.Trace.{Fault, Happening, Happening.Failed}
use Rattle.xa_tm.specs.Book.{after, after_all, Book, book_after, Doubt}
use Rattle.xa_monitor.specs.Monitor.{states_of}
use Rattle.xa_tm.specs.Calls.{FailsBy, book_in, log_in}
use Rattle.xa_tm.specs.Refusing.{service_refusal_in, view_in}
use Rattle.xa_tm.specs.declared.manager.Manager.{Manager}
use Rattle.xa_session.specs.Following.{StaysAs}
use Rattle.xa_session.specs.Headroom.{HasHeadroom, MayHappen, first_headroom}
use Rattle.xa_session.specs.Sizes.{HasItsLines}
use Rattle.xa_session.specs.Session.{AllHeard, IsReady, begin_refusal, has_room_for, is_over, lines_seen, refusal_at, refusal_of_all}
use Rattle.xa_session.specs.declared.session.Session.{Session}
use Rattle.xa_session.proofs.Headroom.{MayHappenInTurn, headroom_kept, headroom_kept_by_all}
use Rattle.xa_session.proofs.Refusals.{not_over}

left : (m n : ℕ) → n < m → m - n ≡ (m - (n + 1)) + 1
left m n few = omega (arith, few)

one_more : (m n : ℕ) → n < m → n + 1 ≤ m
one_more m n few = omega (arith, few)

all_left : (m n k : ℕ) → n ≤ m → k ≤ m - n → m - n ≡ (m - (n + k)) + k
all_left m n k few fits = omega (arith, few, fits)

all_fit : (m n k : ℕ) → n ≤ m → k ≤ m - n → n + k ≤ m
all_fit m n k few fits = omega (arith, few, fits)

pub all_new : (threads rms : ℕ) → AllHeard (new_grid threads rms)
all_new threads rms t r has = ap (λ (l : Traffic). l.answers.waiting) (line_at-new_grid threads rms t r)

-- what a refusal brings, it brings whatever follows from that
pub on_err : {A : Type 0} (r : Result A Refusal) (P Q : Refusal → Type 0) → ((n : Refusal) → P n → Q n) → IfErr r P → IfErr r Q
on_err (Ok x) P Q f h = tt
on_err (Err n) P Q f h = f n h

-- ** room

room_parts : (over fits : Bool) → (not over && fits) ≡ true → (over ≡ false) × (fits ≡ true)
room_parts false true e = (refl, refl)
room_parts false false e = absurd (cc)
room_parts true fits e = absurd (cc)

-- if there is room for some, it isn't over
pub room_free : {L : Type 0} (s : Session L) (n : ℕ) → has_room_for s n ≡ true → is_over s ≡ false
room_free s n e = (room_parts (is_over s) (nat_le n (first_headroom - s.happenings)) e).0

room_fits : {L : Type 0} (s : Session L) (n : ℕ) → has_room_for s n ≡ true → n ≤ first_headroom - s.happenings
room_fits s n e = fits n (first_headroom - s.happenings) (room_parts (is_over s) (nat_le n (first_headroom - s.happenings)) e).1
  where
    fits : (a b : ℕ) → nat_le a b ≡ true → a ≤ b
    fits a b e = grind (arith, nat_tests, e)

-- if it isn't over, there is room for one
pub room_for_one : {L : Type 0} (s : Session L) → is_over s ≡ false → has_room_for s 1 ≡ true
room_for_one s free = by (nat_le 1 (first_headroom - s.happenings)) refl
  where
    by : (t : Bool) → nat_le 1 (first_headroom - s.happenings) ≡ t → (not (is_over s) && t) ≡ true
    by true e = ap (λ over. not over && true) free
    by false e = let less = not_over first_headroom s.happenings free in absurd (none first_headroom s.happenings less e)
      where
        none : (m n : ℕ) → n < m → nat_le 1 (m - n) ≡ false → ⊥
        none m n less e = grind (arith, nat_tests, e, less)

-- ** steps

-- a happening more
pub step_leaves : {L : Type 0} (old new : Session L) (asked : Doubt) (e : Happening) → IsReady old → old.happenings < first_headroom
    → MayHappen (book_in old.manager) e → new.happenings ≡ old.happenings + 1
    → book_in new.manager ≡ book_after (book_in old.manager) asked e → AllHeard new.lines → IsReady new
step_leaves old new asked e ready few may count is heard = record {
  few = subst (λ n. n ≤ first_headroom) (sym count) (one_more first_headroom old.happenings few);
  headroom =
      subst (λ n. HasHeadroom (first_headroom - n) (book_in new.manager)) (sym count)
      (subst (HasHeadroom (first_headroom - (old.happenings + 1))) (sym is)
      (headroom_kept (first_headroom - (old.happenings + 1)) (book_in old.manager)
      (subst (λ m. HasHeadroom m (book_in old.manager)) (left first_headroom old.happenings few) ready.headroom) asked e may));
  heard = heard;
}

-- as many happenings more as there is room for
pub steps_leave : {L : Type 0} (old new : Session L) (es : List Happening) → IsReady old → has_room_for old (length es) ≡ true
    → MayHappenInTurn (book_in old.manager) es → new.happenings ≡ old.happenings + length es
    → book_in new.manager ≡ after_all (book_in old.manager) es → AllHeard new.lines → IsReady new
steps_leave old new es ready room may count is heard =
    let fits = room_fits old (length es) room in record {
      few = subst (λ n. n ≤ first_headroom) (sym count) (all_fit first_headroom old.happenings (length es) ready.few fits);
      headroom =
          subst (λ n. HasHeadroom (first_headroom - n) (book_in new.manager)) (sym count)
          (subst (HasHeadroom (first_headroom - (old.happenings + length es))) (sym is)
          (headroom_kept_by_all (first_headroom - (old.happenings + length es)) es (book_in old.manager) may
          (subst (λ m. HasHeadroom m (book_in old.manager)) (all_left first_headroom old.happenings (length es) ready.few fits) ready.headroom)));
      heard = heard;
    }

-- nothing happened
pub same_leaves : {L : Type 0} (old new : Session L) → IsReady old → new.happenings ≡ old.happenings
    → book_in new.manager ≡ book_in old.manager → new.lines ≡ old.lines → IsReady new
same_leaves old new ready count is lines = record {
  few = subst (λ n. n ≤ first_headroom) (sym count) ready.few;
  headroom =
      subst (λ n. HasHeadroom (first_headroom - n) (book_in new.manager)) (sym count)
      (subst (HasHeadroom (first_headroom - old.happenings)) (sym is) ready.headroom);
  heard = subst AllHeard (sym lines) ready.heard;
}

-- if it isn't over, one more may happen
pub has_few : {L : Type 0} (s : Session L) → is_over s ≡ false → s.happenings < first_headroom
has_few s e = not_over first_headroom s.happenings e

-- if it isn't over, it refuses as the table says
pub refusal_is : {L : Type 0} (s : Session L) (step : Step) → is_over s ≡ false
    → refusal_at s step ≡ refusal_of (view_in (book_in s.manager)) (lines_seen s) step
refusal_is s step e = ap (λ t. if t then Some Limit else refusal_of (view_in (book_in s.manager)) (lines_seen s) step) e

pub begin_refusal_is : {L : Type 0} (s : Session L) (t : ℕ) → is_over s ≡ false → begin_refusal s t ≡ service_refusal_in (book_in s.manager) t
begin_refusal_is s t e = ap (λ b. if b then Some Limit else service_refusal_in (book_in s.manager) t) e

-- no rule is that the log failed
pub never_the_log : {L : Type 0} (s : Session L) (step : Step) → refusal_at s step ≡ Some LogFault → ⊥
never_the_log s step e = by (is_over s) e
  where
    by : (t : Bool) → (if t then Some Limit else refusal_of (view_in (book_in s.manager)) (lines_seen s) step) ≡ Some LogFault → ⊥
    by true e = absurd (cc)
    by false e = forced_of (view_in (book_in s.manager)) (lines_seen s) step LogFault e

-- and so of several, if there is room for them
pub refusal_of_all_is : {L : Type 0} (s : Session L) (of_manager : Book → List Gtrid → Option Refusal) (gs : List Gtrid)
    → has_room_for s (length gs) ≡ true → refusal_of_all s of_manager gs ≡ of_manager (book_in s.manager) gs
refusal_of_all_is s of_manager gs e = ap (λ t. if t then of_manager (book_in s.manager) gs else Some Limit) e

-- ** a call that a rule refuses, or else leaves the book, leaves the book
pub refused_or : (o : Option Refusal) (k l : Book) → ((n : Refusal) → o ≡ Some n → k ≡ l) → (o ≡ None → k ≡ l) → k ≡ l
refused_or (Some n) k l some none = some n refl
refused_or None k l some none = none refl

-- ** what stays as it was

pub stays_same : {L : Type 0} (s : Session L) → StaysAs s s
stays_same s = record { book = refl; log = refl; lines = refl; happenings = refl; states = λ b. refl }

-- what only its manager was asked, which left its book and its log
pub stays_by : {L : Type 0} (s new : Session L) → new.lines ≡ s.lines → new.happenings ≡ s.happenings → new.monitor ≡ s.monitor
    → book_in new.manager ≡ book_in s.manager → log_in new.manager ≡ log_in s.manager → StaysAs s new
stays_by s new lines happenings monitor book log =
    record { book = book; log = log; lines = lines; happenings = happenings; states = λ b. ap (λ m. states_of m b) monitor }

-- two sessions of the same parts are the same
pub same_session : {L : Type 0} (a b : Session L) → a.manager ≡ b.manager → a.lines ≡ b.lines → a.monitor ≡ b.monitor → a.happenings ≡ b.happenings → a ≡ b
same_session a b manager lines monitor count = λ i. record {
  manager = manager i;
  lines = lines i;
  monitor = monitor i;
  happenings = count i;
  sized = is_prop→PathP (λ j. HasItsLines (book_in (manager j)) (lines j)) (λ j p q k. (ℕ_set _ _ p.0 q.0 k, ℕ_set _ _ p.1 q.1 k)) a.sized b.sized i;
}

-- ** sizes

-- no happening changes the book's size
pub sized_by : {L : Type 0} (s : Session L) (k : Book) → k ≡ book_in s.manager → HasItsLines k s.lines
sized_by s k same = (ap (λ (k : Book). k.threads) same ∙ s.sized.0, ap (λ (k : Book). k.rms) same ∙ s.sized.1)

pub sized_after : {L : Type 0} (s : Session L) (k : Book) (asked : Doubt) (e : Happening) → k ≡ book_after (book_in s.manager) asked e → HasItsLines k s.lines
sized_after s k asked e same = (ap (λ (k : Book). k.threads) same ∙ s.sized.0, ap (λ (k : Book). k.rms) same ∙ s.sized.1)

-- nor do several in turn
size_after_all : (es : List Happening) (k : Book) → ((after_all k es).threads ≡ k.threads) × ((after_all k es).rms ≡ k.rms)
size_after_all [] k = (refl, refl)
size_after_all (e ∷ es) k = size_after_all es (after k e)

-- nor a call that fails
pub sized_by_failure : {L : Type 0} (s : Session L) (k : Book) (asked : Doubt) (f : Fault) (q : Refusal) → FailsBy asked f (book_in s.manager) k q
    → HasItsLines k s.lines
sized_by_failure s k asked f q (inl memory) = sized_by s k memory.1
sized_by_failure s k asked f q (inr fell) = sized_after s k asked (Failed f) fell.1

-- nor a call of the manager that may ask the log, however that ends
pub sized_by_call : {L : Type 0} (s : Session L) (m : Manager L) (why : Option Refusal) (asked : Doubt) (f : Fault) (es : List Happening)
    (reply : Result (Unit {0}) Refusal) → ((n : Refusal) → why ≡ Some n → (reply ≡ Err n) × (m ≡ s.manager))
    → OnOk reply (book_in m ≡ after_all (book_in s.manager) es)
    → (why ≡ None → IfErr reply (FailsBy asked f (book_in s.manager) (book_in m))) → HasItsLines (book_in m) s.lines
sized_by_call s m why asked f es (Ok u) refused is fails =
    let size = size_after_all es (book_in s.manager) in
    (ap (λ (k : Book). k.threads) is ∙ size.0 ∙ s.sized.0, ap (λ (k : Book). k.rms) is ∙ size.1 ∙ s.sized.1)
sized_by_call s m why asked f es (Err q) refused is fails = by why refl
  where
    by : (o : Option Refusal) → why ≡ o → HasItsLines (book_in m) s.lines
    by (Some n) some = sized_by s (book_in m) (ap book_in (refused n some).1)
    by None none = sized_by_failure s (book_in m) asked f q (fails none)
