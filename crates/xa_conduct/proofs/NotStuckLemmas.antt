-- Which moves are taken, and that one is.
use Rattle.std.proofs.Common.{◌≡◌, ◌∙◌, ◌+◌, ◌*◌, ◌==◌, ◌&&◌, ◌||◌, ◌⊎◌, ℕ, zero, suc, not, ◌<◌, ◌≤◌, Bool, true, false, List, [], ◌∷◌, ap, ap₂, arith, drop, eq-eqb, get_or, inl, inr, length, ne_eqb, refl, subst, sym, add-one}
use Rattle.std.proofs.Math.Seq.{drop-cons}
use Rattle.std.proofs.lemmas.Bool.{and_from, and_parts, cases_Bool, cases_eq, false≢true, true≢false}
use Rattle.std.proofs.lemmas.Bool.Decides.{nat_tests}
use Rattle.std.proofs.lemmas.Option.{slice_get_past, slice_get_read}
use Rattle.std.proofs.lemmas.List.Sums.{sum_by-append, sum_by-le}
use Rattle.std.specs.List.{list_all, list_any, sum_by}
use Rattle.std.specs.Prelude.{if◌then◌else◌, nat_le}
use Rattle.xa_base.specs.declared.code.Code.{Code}
use Rattle.xa_base.specs.declared.code.Code.TheVariants as codes
use Rattle.xa_base.specs.declared.code.How.TheVariants as hows
use Rattle.xa_conduct.proofs.ProgressLemmas.{one_at_most}
use Rattle.xa_conduct.proofs.RestLemmas.{not_true}
use Rattle.xa_conduct.proofs.TurnLemmas.{four_at_most, turns_step}
use Rattle.xa_conduct.specs.Meaning.{takes}
use Rattle.xa_conduct.specs.NotStuck.{IsToBeMoved, IsToBeTold, TransactionsAreNotStuck, all_lost, are_answers, calls_of, is_at_rest, is_in_table, is_ready, is_so_of, is_undecided, may_be_undone, may_roll_back, reply_if}
use Rattle.xa_conduct.specs.Over.{has_calls, is_decided, is_all_answered}
use Rattle.xa_conduct.specs.OverInTime.{TransactionsAreOver}
use Rattle.xa_conduct.specs.Places.{is_asked, steps_at}
use Rattle.xa_conduct.specs.Progress.{branch_steps, steps_of, steps_to}
use Rattle.xa_conduct.specs.Turns.{Turns, Turns.NoLine, Turns.OneMore}
use Rattle.xa_conduct.specs.declared.notes.Reply.TheVariants as replies
use Rattle.xa_conduct.specs.declared.part.Part.{Part}
use Rattle.xa_conduct.specs.declared.place.Place.{Place}
use Rattle.xa_conduct.specs.declared.place.Place.TheVariants.{Working, Preparing, AtOnce, Prepared, Committing, RollingBack, Undoing, Refusing, Forgetting, Over, Owed}
use Rattle.xa_conduct.specs.declared.report.Report.{Report}
use Rattle.xa_conduct.specs.declared.report.Report.TheVariants as reports
use Rattle.xa_conduct.specs.declared.transaction.Standing.{Standing}
use Rattle.xa_conduct.specs.declared.transaction.Standing.TheVariants as standings
use Rattle.xa_conduct.specs.declared.transaction.Transaction.{Transaction}

-- ** the table

-- what is taken as an answer is what the table has
pub table_taken : (place : Place) (report : Report) → takes place report ≡ is_in_table place report
table_taken place reports.Lost = refl
table_taken Preparing (reports.Code codes.Success) = refl
table_taken Preparing (reports.Code _) = refl
table_taken AtOnce (reports.Code codes.Success) = refl
table_taken AtOnce (reports.Code _) = refl
table_taken Committing (reports.Code codes.Success) = refl
table_taken Committing (reports.Code _) = refl
table_taken RollingBack (reports.Code codes.Success) = refl
table_taken RollingBack (reports.Code _) = refl
table_taken Undoing (reports.Code (codes.Heuristic hows.Rb)) = refl
table_taken Undoing (reports.Code _) = refl
table_taken Refusing (reports.Code (codes.Heuristic hows.Rb)) = refl
table_taken Refusing (reports.Code _) = refl
table_taken Forgetting (reports.Code codes.Success) = refl
table_taken Forgetting (reports.Code _) = refl
table_taken _ (reports.Code code) = refl

-- ** answers in turn

calls_asked : (part : Part) (parts : List Part) → is_asked part.place ≡ true → calls_of (part ∷ parts) ≡ part.place ∷ calls_of parts
calls_asked part parts asked = ap (λ (b : Bool). if b then part.place ∷ calls_of parts else calls_of parts) asked

calls_idle : (part : Part) (parts : List Part) → is_asked part.place ≡ false → calls_of (part ∷ parts) ≡ calls_of parts
calls_idle part parts idle = ap (λ (b : Bool). if b then part.place ∷ calls_of parts else calls_of parts) idle

-- the parts from here on, and those behind the first of them
parts_next : (parts : List Part) (k : ℕ) (d : Part) → k < length parts → drop k parts ≡ get_or parts k d ∷ drop (k + 1) parts
parts_next parts k d within =
    drop-cons parts k d within ∙ ap (λ (n : ℕ). get_or parts k d ∷ drop n parts) (sym (add-one k))

reports_next : (told : List Report) (at : ℕ) (e : Report) → at < length told → drop at told ≡ get_or told at e ∷ drop (at + 1) told
reports_next told at e within =
    drop-cons told at e within ∙ ap (λ (n : ℕ). get_or told at e ∷ drop n told) (sym (add-one at))

calls_next : (parts : List Part) (k : ℕ) (d : Part) → k < length parts → is_asked (get_or parts k d).place ≡ true
    → calls_of (drop k parts) ≡ (get_or parts k d).place ∷ calls_of (drop (k + 1) parts)
calls_next parts k d within asked =
    ap calls_of (parts_next parts k d within) ∙ calls_asked (get_or parts k d) (drop (k + 1) parts) asked

pub answers_skip : (parts : List Part) (left : List Report) (k : ℕ) (d : Part) → k < length parts → is_asked (get_or parts k d).place ≡ false
    → are_answers (calls_of (drop k parts)) left ≡ are_answers (calls_of (drop (k + 1) parts)) left
answers_skip parts left k d within idle =
    ap (λ (ps : List Part). are_answers (calls_of ps) left) (parts_next parts k d within)
    ∙ ap (λ (cs : List Place). are_answers cs left) (calls_idle (get_or parts k d) (drop (k + 1) parts) idle)

pub answers_next : (parts : List Part) (told : List Report) (k at : ℕ) (d : Part) (e : Report) → k < length parts → at < length told
    → is_asked (get_or parts k d).place ≡ true
    → are_answers (calls_of (drop k parts)) (drop at told)
    ≡ (is_in_table (get_or parts k d).place (get_or told at e) && are_answers (calls_of (drop (k + 1) parts)) (drop (at + 1) told))
answers_next parts told k at d e within inside asked =
    ap₂ are_answers (calls_next parts k d within asked) (reports_next told at e inside)

pub answers_short : (parts : List Part) (k : ℕ) (d : Part) (left : List Report) → k < length parts → is_asked (get_or parts k d).place ≡ true → left ≡ []
    → are_answers (calls_of (drop k parts)) left ≡ false
answers_short parts k d left within asked none = ap₂ are_answers (calls_next parts k d within asked) none

drop_out : {X : Type 0} (xs : List X) (k : ℕ) → length xs ≤ k → drop k xs ≡ []
drop_out [] zero past = refl
drop_out [] (suc k) past = refl
drop_out (x ∷ xs) zero past = absurd (omega (arith, past))
drop_out (x ∷ xs) (suc k) past = drop_out xs k (omega (arith, past))

pub answers_out : (parts : List Part) (told : List Report) (k at : ℕ) (d : Part) → k < length parts → is_asked (get_or parts k d).place ≡ true
    → length told ≤ at → are_answers (calls_of (drop k parts)) (drop at told) ≡ false
answers_out parts told k at d within asked out = answers_short parts k d (drop at told) within asked (drop_out told at out)

none_left : (told : List Report) (at : ℕ) → at ≤ length told → (at == length told) ≡ are_answers [] (drop at told)
none_left told at within =
    elim (cases_eq at (length told)) [
      | inl same ↦ eq-eqb at (length told) same ∙ sym (ap (are_answers []) (drop_out told at (omega (arith, same))))
      | inr apart ↦
          ne_eqb at (length told) apart
          ∙ sym (ap (are_answers []) (reports_next told at reports.Lost (omega (arith, within, apart))))
    ]

pub answers_end : (parts : List Part) (told : List Report) (k at : ℕ) → length parts ≤ k → at ≤ length told
    → (at == length told) ≡ are_answers (calls_of (drop k parts)) (drop at told)
answers_end parts told k at past within =
    none_left told at within ∙ sym (ap (λ (ps : List Part). are_answers (calls_of ps) (drop at told)) (drop_out parts k past))

first_some : (place : Place) (calls : List Place) (told : List Report) → are_answers (place ∷ calls) told ≡ true → 0 < length told
first_some place calls [] answers = absurd (false≢true answers)
first_some place calls (report ∷ told) answers = omega arith

-- calls have answers
pub answers_some : (parts : List Part) (told : List Report) → list_any (λ (part : Part). is_asked part.place) parts ≡ true
    → are_answers (calls_of parts) told ≡ true → 0 < length told
answers_some [] told asked answers = absurd (false≢true asked)
answers_some (part ∷ parts) told asked answers =
    elim (cases_Bool (is_asked part.place)) [
      | inl here ↦ first_some part.place (calls_of parts) told (sym (ap (λ (cs : List Place). are_answers cs told) (calls_asked part parts here)) ∙ answers)
      | inr idle ↦
          answers_some parts told (sym (ap (λ (b : Bool). b || list_any (λ (p : Part). is_asked p.place) parts) idle) ∙ asked)
          (sym (ap (λ (cs : List Place). are_answers cs told) (calls_idle part parts idle)) ∙ answers)
    ]

-- ** replies

pub reply_taken : (ts : List Transaction) (i : ℕ) (from : Transaction) (p : Transaction → Bool) → i < length ts → from ≡ get_or ts i from
    → p from ≡ true → replies.Thread i ≡ reply_if ts i p
reply_taken ts i from p within at is =
    sym (ap (λ (b : Bool). if b then replies.Thread i else replies.NotNow)
    (ap (is_so_of p) (slice_get_read ts (length ts) i from refl within at) ∙ is))

pub reply_refused : (ts : List Transaction) (i : ℕ) (from : Transaction) (p : Transaction → Bool) → i < length ts → from ≡ get_or ts i from
    → p from ≡ false → replies.NotNow ≡ reply_if ts i p
reply_refused ts i from p within at is =
    sym (ap (λ (b : Bool). if b then replies.Thread i else replies.NotNow)
    (ap (is_so_of p) (slice_get_read ts (length ts) i from refl within at) ∙ is))

pub reply_none : (ts : List Transaction) (i : ℕ) (p : Transaction → Bool) → length ts ≤ i → replies.NotNow ≡ reply_if ts i p
reply_none ts i p past =
    sym (ap (λ (b : Bool). if b then replies.Thread i else replies.NotNow) (ap (is_so_of p) (slice_get_past ts i past)))

-- ** it isn't stuck

lost_answers : (parts : List Part) → are_answers (calls_of parts) (all_lost (calls_of parts)) ≡ true
lost_answers [] = refl
lost_answers (part ∷ parts) =
    elim (cases_Bool (is_asked part.place)) [
      | inl asked ↦
          subst (λ (cs : List Place). are_answers cs (all_lost cs) ≡ true) (sym (calls_asked part parts asked))
          (and_from _ _ asked (lost_answers parts))
      | inr idle ↦
          subst (λ (cs : List Place). are_answers cs (all_lost cs) ≡ true) (sym (calls_idle part parts idle)) (lost_answers parts)
    ]

idle_undone : (place : Place) → is_asked place ≡ false → may_be_undone place ≡ true
idle_undone Working idle = refl
idle_undone Preparing idle = refl
idle_undone AtOnce idle = absurd (true≢false idle)
idle_undone Prepared idle = refl
idle_undone Committing idle = absurd (true≢false idle)
idle_undone RollingBack idle = absurd (true≢false idle)
idle_undone Undoing idle = absurd (true≢false idle)
idle_undone Refusing idle = absurd (true≢false idle)
idle_undone Forgetting idle = absurd (true≢false idle)
idle_undone Over idle = refl
idle_undone Owed idle = refl

none_asked : (x y : Bool) → (x || y) ≡ false → (x ≡ false) × (y ≡ false)
none_asked true y is = absurd (true≢false is)
none_asked false y is = (refl, is)

all_undone : (parts : List Part) → list_any (λ (part : Part). is_asked part.place) parts ≡ false
    → list_all (λ (part : Part). may_be_undone part.place) parts ≡ true
all_undone [] idle = refl
all_undone (part ∷ parts) idle =
    let both = none_asked (is_asked part.place) (list_any (λ (p : Part). is_asked p.place) parts) idle in
    and_from _ _ (idle_undone part.place both.0) (all_undone parts both.1)

one_most : (n : ℕ) → n ≤ 1 → nat_le n 1 ≡ true
one_most n few = grind (arith, nat_tests)

decided_over : (t : Transaction) → is_decided t.standing ≡ true → has_calls t ≡ false → is_all_answered t ≡ true
decided_over t decided idle = and_from _ _ decided (ap not idle)

open_moved : (t : Transaction) → not t.has_moved ≡ true → t.standing ≡ standings.Open → has_calls t ≡ false → IsToBeMoved t
open_moved t unmoved stands idle =
    let back : may_roll_back t ≡ true = and_from _ _ unmoved (and_from _ _ (ap is_undecided stands) (all_undone t.parts.items idle)) in
    record { rolls_back = back; commits = λ few works. and_from _ _ back (and_from _ _ (one_most (length t.parts.items) few) works) }

by_standing : (t : Transaction) (s : Standing) → t.standing ≡ s → is_at_rest t ≡ true → (t.standing ≡ standings.Idle → ⊥) → has_calls t ≡ false
    → (is_all_answered t ≡ true) ⊎ (IsToBeTold t ⊎ IsToBeMoved t)
by_standing t standings.Idle stands rest begun idle = absurd (begun stands)
by_standing t standings.Open stands rest begun idle = inr (inr (open_moved t (and_parts _ _ rest).0 stands idle))
by_standing t standings.Ready stands rest begun idle =
    absurd (false≢true (sym (ap (λ (s : Standing). not (is_ready s)) stands) ∙ (and_parts (not t.has_moved) (not (is_ready t.standing)) rest).1))
by_standing t standings.Committed stands rest begun idle = inl (decided_over t (ap is_decided stands) idle)
by_standing t (standings.RolledBack why) stands rest begun idle = inl (decided_over t (ap is_decided stands) idle)
by_standing t standings.Unknown stands rest begun idle = inl (decided_over t (ap is_decided stands) idle)

pub not_stuck : TransactionsAreNotStuck
not_stuck t rest begun =
    elim (cases_Bool (has_calls t)) [
      | inl calls ↦ inr (inl (record {
        calls = calls;
        taken = λ told answers. and_from _ _ calls (and_from _ _ answers (and_parts (not t.has_moved) (not (is_ready t.standing)) rest).0);
        some = lost_answers t.parts.items;
      }))
      | inr idle ↦ by_standing t t.standing refl rest begun idle
    ]

-- ** it is over in time

-- and at rest, as it was
turns_rest : (i : ℕ) (d : Transaction) (n : ℕ) (first last : List Transaction) → i < length first → Turns i d n first last
    → is_at_rest (get_or first i d) ≡ true → is_at_rest (get_or last i d) ≡ true
turns_rest i d _ _ _ within (NoLine ts) rest = rest
turns_rest i d _ _ _ within (OneMore n first old new text before on start same) rest =
    on.rests i d (turns_step i d n first old within before).0 (turns_rest i d n first old within before rest)

standing_made : (s : Standing) → 1 ≤ steps_to s → is_ready s ≡ false → is_decided s ≡ true
standing_made standings.Idle made apart = absurd (omega (arith, made))
standing_made standings.Open made apart = absurd (omega (arith, made))
standing_made standings.Ready made apart = absurd (true≢false apart)
standing_made standings.Committed made apart = refl
standing_made (standings.RolledBack why) made apart = refl
standing_made standings.Unknown made apart = refl

four_made : (place : Place) → 4 ≤ steps_at place → is_asked place ≡ false
four_made Working made = refl
four_made Preparing made = absurd (omega (arith, made))
four_made AtOnce made = absurd (omega (arith, made))
four_made Prepared made = refl
four_made Committing made = absurd (omega (arith, made))
four_made RollingBack made = absurd (omega (arith, made))
four_made Undoing made = absurd (omega (arith, made))
four_made Refusing made = absurd (omega (arith, made))
four_made Forgetting made = absurd (omega (arith, made))
four_made Over made = refl
four_made Owed made = refl

most_made : (parts : List Part) → branch_steps parts ≤ length parts * 4
most_made parts = sum_by-le steps_of 4 parts (λ k e inside. four_at_most (get_or parts k e).place)

all_made : (parts : List Part) → length parts * 4 ≤ branch_steps parts → list_any (λ (part : Part). is_asked part.place) parts ≡ false
all_made [] made = refl
all_made (part ∷ parts) made =
    let most : sum_by steps_of parts ≤ length parts * 4 = most_made parts in
    let here : steps_at part.place ≤ 4 = four_at_most part.place in
    let split : branch_steps (part ∷ parts) ≡ (0 + steps_at part.place) + sum_by steps_of parts = sum_by-append steps_of (part ∷ []) parts in
    let many : suc (length parts) * 4 ≤ branch_steps (part ∷ parts) = made in
    let whole : suc (length parts) * 4 ≤ (0 + steps_at part.place) + sum_by steps_of parts =
    subst (λ (n : ℕ). suc (length parts) * 4 ≤ n) split many in
    let rest : length parts * 4 ≤ sum_by steps_of parts = omega (arith, whole, here) in
    let first : 4 ≤ steps_at part.place = omega (arith, whole, most) in
    ap₂ (λ (a b : Bool). a || b) (four_made part.place first) (all_made parts rest)

pub over_in_time : TransactionsAreOver
over_in_time i d n first last within new turns rest many =
    let goes = (turns_step i d n first last within turns).1 in
    let now = get_or last i d in
    let rests : is_at_rest now ≡ true = turns_rest i d n first last within turns rest in
    let most = most_made now.parts.items in
    let one = one_at_most now.standing in
    let made = goes.made in
    let ready : is_ready now.standing ≡ false = not_true (is_ready now.standing) (and_parts (not now.has_moved) (not (is_ready now.standing)) rests).1 in
    decided_over now (standing_made now.standing (omega (arith, made, most, one, many)) ready) (all_made now.parts.items (omega (arith, made, most, one, many)))
