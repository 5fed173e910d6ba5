-- One happening changes the notes of a transaction that is kept as in the whole book.
use Rattle.std.proofs.Common.{◌≡◌, ℕ, ◌+◌, ◌-◌, Bool, true, false, not, ◌&&◌, ◌||◌, Option, Some, None, is_some, refl, sym, ap, ◌∙◌}
use Rattle.std.specs.Prelude.{if◌then◌else◌}
use Rattle.xa_base.specs.declared.call.Call.TheVariants as Calls
use Rattle.xa_base.specs.declared.step.Outcome.TheVariants as Outcome
use Rattle.xa_base.specs.declared.step.Part.TheVariants as Part
use Rattle.xa_base.specs.Branch.{branch_cmp, gtrid_eq}
use Rattle.xa_base.specs.declared.branch.Branch.{Branch}
use Rattle.xa_base.specs.declared.branch.Gtrid.{Gtrid}
use Rattle.xa_base.specs.declared.code.How.{How}
use Rattle.xa_base.proofs.BranchOrder.{branches_total, exact_branches}
use Rattle.xa_base.proofs.BranchKeys.{gtrid_eq-true}
use Rattle.xa_log.specs.KeySet.{KeySet, contains, same_set}
use Rattle.xa_model.specs.Facts.{record_of, says_yes_in}
use Rattle.xa_model.specs.Trace.{Answer, Call, Happening, Happening.Issued, Happening.Heard, Happening.Decided, Happening.Crashed, Happening.Restarted}
use Rattle.xa_tm.specs.Book.{Book, TransactionNotes, Doubt, Doubt.Records, Notes, Waiting, transaction_after, doubt_of, is_unsettled_in, lacks_vote_in, recorded_after, records_after, records_with, row_after, rows_after, voted_yes, with_answer, with_branch}
use Rattle.xa_tm.specs.Counts.{is_counted, settler, voter}
use Rattle.xa_tm.specs.Release.{MayFollow}
use Rattle.xa_tm.proofs.Release.Sets.{set_filtered}
use Rattle.xa_tm.proofs.Release.ShortBooks.{IsShortOf, full, begun_kept}

module _ {gone : Gtrid → Bool} {k : Book} {ts : Gtrid → TransactionNotes} {noted : Branch → Notes} {all : KeySet branch_cmp}
    (short : IsShortOf gone k ts noted all) where
  -- of branches whose transaction is not gone both books count the same
  counts_same : (p q : Branch → Bool) (g : Gtrid) → gone g ≡ false → ((b : Branch) → gone b.gtrid ≡ false → p b ≡ q b) → (o : Option Branch)
      → is_counted p g o ≡ is_counted q g o
  counts_same p q g kept same None = refl
  counts_same p q g kept same (Some b) = by (gtrid_eq b.gtrid g) refl
    where
      by : (t : Bool) → gtrid_eq b.gtrid g ≡ t → (t && p b) ≡ (t && q b)
      by true is = same b (ap gone (gtrid_eq-true b.gtrid g is) ∙ kept)
      by false is = refl

  lacks_same : (b : Branch) → gone b.gtrid ≡ false → lacks_vote_in (full short) b ≡ lacks_vote_in k b
  lacks_same b kept = ap (λ (x : Notes). x.started && not (x.said_yes || x.said_read_only)) (short.same_notes b kept)

  unsettled_same : (b : Branch) → gone b.gtrid ≡ false → is_unsettled_in (full short) b ≡ is_unsettled_in k b
  unsettled_same b kept =
      ap (λ (x : Notes). x.started && not (is_some (k.recorded b) || (x.said_read_only || x.acknowledged))) (short.same_notes b kept)

  answer_same : (c : Call) (a : Answer) (g : Gtrid) (d : TransactionNotes) → gone g ≡ false → with_answer (full short) c a g d ≡ with_answer k c a g d
  answer_same c a g d kept = λ i. record d {
    has_yes = says_yes_in g c a || d.has_yes;
    unvoted = if counts_same (lacks_vote_in (full short)) (lacks_vote_in k) g kept lacks_same (voter c a) i then d.unvoted - 1 else d.unvoted;
    unsettled = if counts_same (is_unsettled_in (full short)) (is_unsettled_in k) g kept unsettled_same (settler c a) i then d.unsettled - 1 else d.unsettled;
  }

  branch_same : (b : Branch) (g : Gtrid) (d : TransactionNotes) → gone b.gtrid ≡ false → with_branch (full short) b g d ≡ with_branch k b g d
  branch_same b g d kept = ap
      (λ (x : Notes). record d {
        branches = if gtrid_eq b.gtrid g then d.branches + 1 else d.branches;
        unvoted = if gtrid_eq b.gtrid g && not (x.said_yes || x.said_read_only) then d.unvoted + 1 else d.unvoted;
        unsettled =
            if gtrid_eq b.gtrid g && not (is_some (k.recorded b) || (x.said_read_only || x.acknowledged)) then d.unsettled + 1
            else d.unsettled;
      })
      (short.same_notes b kept)

  pub transaction_same : (e : Happening) → MayFollow k e → (g : Gtrid) (d : TransactionNotes) → gone g ≡ false
      → transaction_after (full short) e g d ≡ transaction_after k e g d
  transaction_same (Issued l (Calls.Start b false)) may g d kept = branch_same b g d (begun_kept short b.gtrid may)
  transaction_same (Issued l (Calls.Start b true)) may g d kept = branch_same b g d (begun_kept short b.gtrid may)
  transaction_same (Heard l c a) may g d kept = answer_same c a g d kept
  transaction_same (Issued l (Calls.Commit b true)) may g d kept = refl
  transaction_same (Decided h Outcome.Commit) may g d kept = refl
  transaction_same (Decided h Outcome.Rollback) may g d kept = refl
  transaction_same (Crashed Part.Manager) may g d kept = refl
  transaction_same _ may g d kept = refl

  -- what a decision writes
  voters_same : (g : Gtrid) → gone g ≡ false → voted_yes (full short) g ≡ voted_yes k g
  voters_same g kept = same_set branches_total exact_branches _ _ (λ q.
      set_filtered (λ b. gtrid_eq b.gtrid g && (noted b).said_yes) q all ∙ by q (gtrid_eq q.gtrid g) refl
      ∙ sym (set_filtered (λ b. gtrid_eq b.gtrid g && (k.notes b).said_yes) q k.known))
    where
      known_same : (q : Branch) → gone q.gtrid ≡ false → contains all q ≡ contains k.known q
      known_same q e = plain (contains all q) (gone q.gtrid) e ∙ sym (short.same_known q)
        where
          plain : (s t : Bool) → t ≡ false → s ≡ (s && not t)
          plain true false is = refl
          plain false t is = refl
          plain true true is = absurd (cc)

      by : (q : Branch) (t : Bool) → gtrid_eq q.gtrid g ≡ t
          → ((t && (noted q).said_yes) && contains all q) ≡ ((t && (k.notes q).said_yes) && contains k.known q)
      by q true e =
          let in_it = ap gone (gtrid_eq-true q.gtrid g e) ∙ kept in
          ap (λ (x : Notes). x.said_yes && contains all q) (short.same_notes q in_it) ∙ ap (λ t. (k.notes q).said_yes && t) (known_same q in_it)
      by q false e = refl

  yes_same : (g : Gtrid) → gone g ≡ false → (ts g).has_yes ≡ (k.transaction g).has_yes
  yes_same g kept = ap (λ (d : TransactionNotes). d.has_yes) (short.same_transaction g kept)

  pub row_same : (e : Happening) → MayFollow k e → (g : Gtrid) (row : Option Waiting) → row_after (full short) e g row ≡ row_after k e g row
  row_same (Decided h Outcome.Commit) may g row =
      let kept = begun_kept short h may in
      ap (λ (t : Bool). if t then (if gtrid_eq h g then Some (voted_yes (full short) h) else row) else row) (yes_same h kept)
      ∙ ap (λ w. if (k.transaction h).has_yes then (if gtrid_eq h g then Some w else row) else row) (voters_same h kept)
  row_same (Decided h Outcome.Rollback) may g row = refl
  row_same _ may g row = refl

  pub rows_same : (e : Happening) → MayFollow k e → (n : ℕ) → rows_after (full short) e n ≡ rows_after k e n
  rows_same (Decided h Outcome.Commit) may n = ap (λ (t : Bool). if t then n + 1 else n) (yes_same h (begun_kept short h may))
  rows_same (Decided h Outcome.Rollback) may n = refl
  rows_same _ may n = refl

  pub records_same : (e : Happening) (n : ℕ) → records_after (full short) e n ≡ records_after k e n
  records_same (Heard l c a) n = by (doubt_of (record_of c a))
    where
      by : (d : Doubt) → records_with (full short) d n ≡ records_with k d n
      by (Records c how) = refl
      by _ = refl
  records_same _ n = refl

  pub recorded_same : (e : Happening) (b : Branch) (o : Option How) → recorded_after (full short) e b o ≡ recorded_after k e b o
  recorded_same (Heard l c a) b o = refl
  recorded_same (Restarted i d n) b o = refl
  recorded_same _ b o = refl
