-- What is refused by a book that is short of some transactions.
use Rattle.std.proofs.Common.{◌≡◌, ◌==◌, Bool, true, false, not, ◌&&◌, ◌||◌, Option, Some, None, is_some, refl, sym, ap, ◌∙◌}
use Rattle.std.specs.Prelude.{if◌then◌else◌, nat_lt}
use Rattle.std.specs.List.{list_any}
use Rattle.std.specs.Cmp.{both_ways}
use Rattle.xa_base.specs.declared.call.Call.TheVariants as Calls
use Rattle.xa_base.specs.declared.refusal.Refusal.{Refusal}
use Rattle.xa_base.specs.declared.refusal.Refusal.TheVariants as Refusals
use Rattle.xa_base.specs.declared.step.Step.TheVariants as Steps
use Rattle.xa_base.specs.Branch.{branch_cmp}
use Rattle.xa_base.specs.declared.branch.Branch.{Branch}
use Rattle.xa_base.specs.declared.branch.Gtrid.{Gtrid}
use Rattle.xa_log.specs.KeySet.{KeySet, contains, items}
use Rattle.xa_model.specs.Replies.Guards.{refusal_of}
use Rattle.xa_model.specs.Replies.Steps.{Step}
use Rattle.xa_model.specs.Trace.{Line, Name.Ours, line, line_eq, line_of}
use Rattle.xa_tm.specs.Book.{Book, TransactionNotes, Notes, Waiting}
use Rattle.xa_tm.specs.Refusing.{at_rest, is_settled_lately_in, is_unfinished, outlived_in, refusal_in, row_settled_in, view_in, waits_for_none}
use Rattle.xa_tm.specs.Release.{names_one_of, unknown_in}
use Rattle.xa_tm.specs.Starting.{no_notes}
use Rattle.xa_tm.proofs.History.Members.{passes_among, witness}
use Rattle.xa_tm.proofs.Release.Sets.{among_set, some_alike}
use Rattle.xa_tm.proofs.Release.ShortBooks.{IsShortOf, full, kept_by, row_kept}

module _ {gone : Gtrid → Bool} {k : Book} {ts : Gtrid → TransactionNotes} {noted : Branch → Notes} {all : KeySet branch_cmp}
    (short : IsShortOf gone k ts noted all) where
  -- ** refusals of a step that names none of those that are gone

  abbrev noted_as : (g : Gtrid) → gone g ≡ false → k.transaction g ≡ ts g
  noted_as g kept = sym (short.same_transaction g kept)

  abbrev branch_noted_as : (b : Branch) → gone b.gtrid ≡ false → k.notes b ≡ noted b
  branch_noted_as b kept = sym (short.same_notes b kept)

  -- a branch that is left on a line is not gone
  left_one : (l : Line) (b : Branch) → contains all b ≡ true → is_unfinished (full short) l b ≡ true
      → (contains k.known b ≡ true) × (is_unfinished k l b ≡ true)
  left_one l b is left = (
    short.same_known b ∙ ap (λ t. t && not (gone b.gtrid)) is ∙ ap not kept,
    ap (λ (x : Notes). line_eq (line_of b) l && (x.on_line && not x.finished)) (branch_noted_as b kept) ∙ left,
  )
    where
      done : (x y f : Bool) → (x && (y && not f)) ≡ true → f ≡ true → ⊥
      done true true true e is = absurd (cc)
      done true true false e is = absurd (cc)
      done true false f e is = absurd (cc)
      done false y f e is = absurd (cc)

      kept : gone b.gtrid ≡ false
      kept = kept_by short b.gtrid (λ e. done (line_eq (line_of b) l) (noted b).on_line (noted b).finished left (short.finished b e is))

  -- and what is known is known to the whole
  known_one : (b : Branch) → contains k.known b ≡ true → (contains all b ≡ true) × (gone b.gtrid ≡ false)
  known_one b is = by (contains all b) (gone b.gtrid) (sym (short.same_known b) ∙ is)
    where
      by : (s t : Bool) → (s && not t) ≡ true → (s ≡ true) × (t ≡ false)
      by true true e = absurd (cc)
      by true false e = (refl, refl)
      by false t e = absurd (cc)

  unfinished_alike : (l : Line) → list_any (is_unfinished k l) (items k.known) ≡ list_any (is_unfinished (full short) l) (items all)
  unfinished_alike l = both_ways _ _
      (λ e.
      let w = witness (is_unfinished k l) (items k.known) e in
      let found = known_one w.one (sym (among_set w.one k.known) ∙ w.among) in
      passes_among (is_unfinished (full short) l) w.one (items all)
      (ap (λ (x : Notes). line_eq (line_of w.one) l && (x.on_line && not x.finished)) (short.same_notes w.one found.1) ∙ w.passes)
      (among_set w.one all ∙ found.0))
      (λ e.
      let w = witness (is_unfinished (full short) l) (items all) e in
      let found = left_one l w.one (sym (among_set w.one all) ∙ w.among) w.passes in
      passes_among (is_unfinished k l) w.one (items k.known) found.1 (among_set w.one k.known ∙ found.0))

  -- the participants of a row are not gone
  waits_alike : (g : Gtrid) (o : Option Waiting) → k.row g ≡ o → waits_for_none k o ≡ waits_for_none (full short) o
  waits_alike g None is = refl
  waits_alike g (Some set) is = some_alike (is_settled_lately_in k) (is_settled_lately_in (full short)) (items set) (λ q e.
      let kept = ap gone (short.own g set q is (sym (among_set q set) ∙ e)) ∙ row_kept short g set is in
      ap (λ (x : Notes). is_some (k.recorded q) || x.acknowledged_lately) (branch_noted_as q kept))

  settled_alike : (g : Gtrid) → gone g ≡ false → row_settled_in k g ≡ row_settled_in (full short) g
  settled_alike g kept =
      ap (λ (d : TransactionNotes). if d.begun then d.unsettled == 0 else waits_for_none k (k.row g)) (noted_as g kept)
      ∙ ap (λ (t : Bool). if (ts g).begun then (ts g).unsettled == 0 else t) (waits_alike g (k.row g) refl)

  -- the book with the same notes of each transaction and each branch
  abbrev noting : TransactionNotes → Notes → Book
  noting d x = record k { transaction = λ g. d; notes = λ b. x }

  pub others_alike : (s : Step) → names_one_of gone s ≡ false → refusal_in k s ≡ refusal_in (full short) s
  others_alike (Steps.Issue t r Calls.CloseRm) n =
      ap (λ u. refusal_of (record (view_in k) { has_unfinished = λ l. u }) at_rest (Steps.Issue t r Calls.CloseRm)) (unfinished_alike (line t r))
  others_alike (Steps.Issue t r (Calls.Start (Ours b) join)) n =
      λ i. refusal_in (noting (noted_as b.gtrid n i) (branch_noted_as b n i)) (Steps.Issue t r (Calls.Start (Ours b) join))
  others_alike (Steps.Issue t r (Calls.End (Ours b) fail)) n =
      λ i. refusal_in (noting (noted_as b.gtrid n i) no_notes) (Steps.Issue t r (Calls.End (Ours b) fail))
  others_alike (Steps.Issue t r (Calls.Prepare (Ours b))) n =
      λ i. refusal_in (noting (noted_as b.gtrid n i) no_notes) (Steps.Issue t r (Calls.Prepare (Ours b)))
  others_alike (Steps.Issue t r (Calls.Commit (Ours b) true)) n =
      λ i. refusal_in (noting (noted_as b.gtrid n i) (branch_noted_as b n i)) (Steps.Issue t r (Calls.Commit (Ours b) true))
  others_alike (Steps.Issue t r (Calls.Commit (Ours b) false)) n =
      λ i. refusal_in (noting (noted_as b.gtrid n i) no_notes) (Steps.Issue t r (Calls.Commit (Ours b) false))
  others_alike (Steps.Issue t r (Calls.Rollback (Ours b))) n =
      λ i. refusal_in (noting (noted_as b.gtrid n i) (branch_noted_as b n i)) (Steps.Issue t r (Calls.Rollback (Ours b)))
  others_alike (Steps.Issue t r (Calls.Forget (Ours b))) n =
      λ i. refusal_in (noting (noted_as b.gtrid n i) no_notes) (Steps.Issue t r (Calls.Forget (Ours b)))
  others_alike (Steps.Decide g o) n = λ i. refusal_in (noting (noted_as g n i) no_notes) (Steps.Decide g o)
  others_alike (Steps.Claim g) n = λ i. refusal_in (noting (noted_as g n i) no_notes) (Steps.Claim g)
  others_alike (Steps.Settle g) n = λ i. refusal_in (noting (noted_as g n i) no_notes) (Steps.Settle g)
  others_alike (Steps.Abandon g) n = λ i. refusal_in (noting (noted_as g n i) no_notes) (Steps.Abandon g)
  others_alike (Steps.Done g) n =
      λ i. refusal_of (record (view_in (noting (noted_as g n i) no_notes)) { row_settled = λ h. settled_alike g n i }) at_rest (Steps.Done g)
  others_alike _ n = refl

  -- ** refusals of a step that names one of those that are gone

  not_outlived : (g : Gtrid) → gone g ≡ true → outlived_in k g ≡ false
  not_outlived g is =
      ap (λ (o : Option Waiting). nat_lt g.incarnation k.incarnation && is_some o) (short.no_row g is) ∙ none (nat_lt g.incarnation k.incarnation)
    where
      none : (t : Bool) → (t && false) ≡ false
      none true = refl
      none false = refl

  is_unknown : (g : Gtrid) → gone g ≡ true → not (k.transaction g).begun ≡ true
  is_unknown g is = ap not (short.unbegun g is)

  is_unknown_row : (g : Gtrid) → gone g ≡ true → not ((k.transaction g).begun || outlived_in k g) ≡ true
  is_unknown_row g is = ap (λ t. not (t || outlived_in k g)) (short.unbegun g is) ∙ ap not (not_outlived g is)

  -- such a step is refused so
  unknown_so : (there unknown : Bool) (rest : Option Refusal) → unknown ≡ true
      → (if there then (if not k.up then Some Refusals.ManagerDown else (if unknown then Some Refusals.UnknownTransaction else rest)) else Some Refusals.Limit)
      ≡ Some (if not there then Refusals.Limit else (if k.up then Refusals.UnknownTransaction else Refusals.ManagerDown))
  unknown_so there unknown rest is = by there k.up unknown is
    where
      by : (t u f : Bool) → f ≡ true
          → (if t then (if not u then Some Refusals.ManagerDown else (if f then Some Refusals.UnknownTransaction else rest)) else Some Refusals.Limit)
          ≡ Some (if not t then Refusals.Limit else (if u then Refusals.UnknownTransaction else Refusals.ManagerDown))
      by false u f is = refl
      by true false f is = refl
      by true true true is = refl
      by true true false is = absurd (cc)

  pub gone_refused : (s : Step) → names_one_of gone s ≡ true → refusal_in k s ≡ Some (unknown_in k s)
  gone_refused (Steps.Issue t r (Calls.Start (Ours b) join)) n = unknown_so _ _ _ (is_unknown b.gtrid n)
  gone_refused (Steps.Issue t r (Calls.End (Ours b) fail)) n = unknown_so _ _ _ (is_unknown b.gtrid n)
  gone_refused (Steps.Issue t r (Calls.Prepare (Ours b))) n = unknown_so _ _ _ (is_unknown b.gtrid n)
  gone_refused (Steps.Issue t r (Calls.Commit (Ours b) true)) n = unknown_so _ _ _ (is_unknown b.gtrid n)
  gone_refused (Steps.Issue t r (Calls.Commit (Ours b) false)) n = unknown_so _ _ _ (is_unknown_row b.gtrid n)
  gone_refused (Steps.Issue t r (Calls.Rollback (Ours b))) n = unknown_so _ _ _ (is_unknown b.gtrid n)
  gone_refused (Steps.Issue t r (Calls.Forget (Ours b))) n = unknown_so _ _ _ (is_unknown b.gtrid n)
  gone_refused (Steps.Decide g o) n = unknown_so true _ _ (is_unknown g n)
  gone_refused (Steps.Claim g) n = unknown_so true _ _ (is_unknown g n)
  gone_refused (Steps.Settle g) n = unknown_so true _ _ (is_unknown g n)
  gone_refused (Steps.Abandon g) n = unknown_so true _ _ (is_unknown g n)
  gone_refused (Steps.Done g) n = unknown_so true _ _ (is_unknown_row g n)
  gone_refused _ n = absurd (cc)

  pub refuses_no_more : (s : Step) → refusal_in k s ≡ None → refusal_in (full short) s ≡ None
  refuses_no_more s none = by (names_one_of gone s) refl
    where
      never : Some (unknown_in k s) ≡ None → ⊥
      never e = absurd (cc)

      by : (t : Bool) → names_one_of gone s ≡ t → refusal_in (full short) s ≡ None
      by true n = absurd (never (sym (gone_refused s n) ∙ none))
      by false n = sym (others_alike s n) ∙ none
