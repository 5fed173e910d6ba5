-- A book is short of the same transactions after one happening more.
use Rattle.std.proofs.Common.{◌≡◌, ℕ, ◌+◌, Bool, true, false, not, ◌&&◌, ◌||◌, Option, Some, None, refl, sym, ap, ◌∙◌, subst, arith}
use Rattle.std.specs.Prelude.{if◌then◌else◌, nat_eq, nat_le, nat_lt}
use Rattle.std.specs.Ordering.{eq_by_cmp}
use Rattle.std.proofs.lemmas.Bool.{true≢false, or_right, and_parts}
use Rattle.std.proofs.lemmas.Bool.Decides.{nat_tests}
use Rattle.std.proofs.Math.Bool.{and-false}
use Rattle.xa_base.specs.declared.call.Call.TheVariants as Calls
use Rattle.xa_base.specs.declared.step.Outcome.TheVariants as Outcome
use Rattle.xa_base.specs.declared.step.Part.TheVariants as Part
use Rattle.xa_base.specs.Branch.{branch_cmp, gtrid_eq}
use Rattle.xa_base.specs.declared.branch.Branch.{Branch}
use Rattle.xa_base.specs.declared.branch.Gtrid.{Gtrid}
use Rattle.xa_base.proofs.BranchOrder.{branches_total, exact_branches}
use Rattle.xa_base.proofs.BranchKeys.{gtrid_eq-true}
use Rattle.xa_base.proofs.Orders.{equal_is}
use Rattle.xa_log.specs.KeySet.{KeySet, contains, contains-insert, insert}
use Rattle.xa_model.specs.Facts.{finishes}
use Rattle.xa_model.specs.Trace.{Happening, Happening.Begun, Happening.Issued, Happening.Heard, Happening.Decided, Happening.Done, Happening.Crashed, Happening.Failed, Happening.ResolvedOpen, Happening.Restarted}
use Rattle.xa_tm.specs.Book.{Book, TransactionNotes, Doubt, Notes, Waiting, book_after, transaction_after, incarnation_after, known_after, notes_after, row_after, sequence_after, voted_yes}
use Rattle.xa_tm.specs.Release.{MayFollow, was_given}
use Rattle.xa_tm.proofs.History.OneMore.{book_is}
use Rattle.xa_tm.proofs.Release.Sets.{set_filtered}
use Rattle.xa_tm.proofs.Release.ShortBooks.{is_over, is_live, IsShortOf, full, begun_kept}
use Rattle.xa_tm.proofs.Release.SameChanges.{transaction_same, row_same, rows_same, records_same, recorded_same}

more_committed : (b t c r h : Bool) → (b && not (c || (r || h))) ≡ false → (b && not ((t || c) || (r || h))) ≡ false
more_committed false t c r h e = refl
more_committed true true c r h e = refl
more_committed true false c r h e = e

more_rolled_back : (b t c r h : Bool) → (b && not (c || (r || h))) ≡ false → (b && not (c || ((t || r) || h))) ≡ false
more_rolled_back false t c r h e = refl
more_rolled_back true t true r h e = refl
more_rolled_back true true false r h e = refl
more_rolled_back true false false r h e = e

more_handed_over : (b t c r h : Bool) → (b && not (c || (r || h))) ≡ false → (b && not (c || (r || (t || h)))) ≡ false
more_handed_over false t c r h e = refl
more_handed_over true t true r h e = refl
more_handed_over true t false true h e = refl
more_handed_over true true false false h e = refl
more_handed_over true false false false h e = e

module _ {gone : Gtrid → Bool} {k : Book} {ts : Gtrid → TransactionNotes} {noted : Branch → Notes} {all : KeySet branch_cmp}
    (short : IsShortOf gone k ts noted all) where
  -- the number of a transaction that begins is new
  not_given : (g : Gtrid) → g ≡ record { incarnation = k.incarnation; sequence = k.sequence + 1 } → gone g ≡ true → ⊥
  not_given g new is = true≢false (sym (short.given g is) ∙ ap (was_given k) new ∙ next_new k.incarnation k.sequence)
    where
      next_new : (i s : ℕ) → (nat_lt i i || (nat_eq i i && nat_le (s + 1) s)) ≡ false
      next_new i s = grind (arith, and-false)

  unbegun_after : (e : Happening) → MayFollow k e → (g : Gtrid) → gone g ≡ true → (transaction_after k e g (k.transaction g)).begun ≡ false
  unbegun_after (Begun h) may g is = by (gtrid_eq h g) refl
    where
      by : (t : Bool) → gtrid_eq h g ≡ t → (t || (k.transaction g).begun) ≡ false
      by true e = absurd (not_given h may (ap gone (gtrid_eq-true h g e) ∙ is))
      by false e = short.unbegun g is
  unbegun_after (Crashed Part.Manager) may g is = refl
  unbegun_after (Failed f) may g is = refl
  unbegun_after (Restarted i d n) may g is = refl
  unbegun_after (Issued l (Calls.Start b false)) may g is = short.unbegun g is
  unbegun_after (Issued l (Calls.Start b true)) may g is = short.unbegun g is
  unbegun_after (Issued l (Calls.Commit b true)) may g is = short.unbegun g is
  unbegun_after (Decided h Outcome.Commit) may g is = short.unbegun g is
  unbegun_after (Decided h Outcome.Rollback) may g is = short.unbegun g is
  unbegun_after _ may g is = short.unbegun g is

  abbrev given_by : (i s : ℕ) → Gtrid → Bool
  given_by i s g = nat_lt g.incarnation i || (nat_eq g.incarnation i && nat_le g.sequence s)

  given_still : (i s : ℕ) (g : Gtrid) → given_by i s g ≡ true → given_by i (s + 1) g ≡ true
  given_still i s g is = by (nat_lt g.incarnation i) (nat_eq g.incarnation i) (nat_le g.sequence s) (nat_le g.sequence (s + 1)) (λ e. more g.sequence s e) is
    where
      more : (n m : ℕ) → nat_le n m ≡ true → nat_le n (m + 1) ≡ true
      more n m e = grind (arith, nat_tests, e)

      by : (l q t u : Bool) → (t ≡ true → u ≡ true) → (l || (q && t)) ≡ true → (l || (q && u)) ≡ true
      by true q t u later is = refl
      by false true t u later is = later is
      by false false t u later is = absurd (cc)

  given_after : (e : Happening) → MayFollow k e → (g : Gtrid) → gone g ≡ true
      → given_by (incarnation_after e k.incarnation) (sequence_after e k.sequence) g ≡ true
  given_after (Begun h) may g is = given_still k.incarnation k.sequence g (short.given g is)
  given_after (Restarted i d n) may g is = absurd may
  given_after _ may g is = short.given g is

  no_row_after : (e : Happening) → MayFollow k e → (g : Gtrid) → gone g ≡ true → row_after k e g (k.row g) ≡ None
  no_row_after (Decided h Outcome.Commit) may g is = by (k.transaction h).has_yes (gtrid_eq h g) refl
    where
      by : (y t : Bool) → gtrid_eq h g ≡ t → (if y then (if t then Some (voted_yes k h) else k.row g) else k.row g) ≡ None
      by true true e = absurd (true≢false (sym (ap gone (gtrid_eq-true h g e) ∙ is) ∙ begun_kept short h may))
      by true false e = short.no_row g is
      by false t e = short.no_row g is
  no_row_after (Decided h Outcome.Rollback) may g is = short.no_row g is
  no_row_after (Done h) may g is = by (gtrid_eq h g)
    where
      by : (t : Bool) → (if t then None else k.row g) ≡ None
      by true = refl
      by false = short.no_row g is
  no_row_after (Restarted i d n) may g is = absurd may
  no_row_after _ may g is = short.no_row g is

  -- a decision writes branches of its transaction
  own_voters : (g : Gtrid) (q : Branch) → contains (voted_yes k g) q ≡ true → q.gtrid ≡ g
  own_voters g q is =
      let passes = and_parts (gtrid_eq q.gtrid g && (k.notes q).said_yes) (contains k.known q)
      (sym (set_filtered (λ b. gtrid_eq b.gtrid g && (k.notes b).said_yes) q k.known) ∙ is) in
      gtrid_eq-true q.gtrid g (and_parts (gtrid_eq q.gtrid g) (k.notes q).said_yes passes.0).0

  own_after : (e : Happening) → MayFollow k e → (g : Gtrid) (set : Waiting) (q : Branch)
      → row_after k e g (k.row g) ≡ Some set → contains set q ≡ true → q.gtrid ≡ g
  own_after (Decided h Outcome.Commit) may g set q is among = by (k.transaction h).has_yes (gtrid_eq h g) refl is
    where
      holds : Option Waiting → Type 0
      holds (Some w) = contains w q ≡ true
      holds None = Unit

      there : (w : Waiting) → Some w ≡ Some set → contains w q ≡ true
      there w e = subst holds (sym e) among

      by : (y t : Bool) → gtrid_eq h g ≡ t → (if y then (if t then Some (voted_yes k h) else k.row g) else k.row g) ≡ Some set → q.gtrid ≡ g
      by true true e row = own_voters h q (there (voted_yes k h) row) ∙ gtrid_eq-true h g e
      by true false e row = short.own g set q row among
      by false t e row = short.own g set q row among
  own_after (Decided h Outcome.Rollback) may g set q is among = short.own g set q is among
  own_after (Done h) may g set q is among = by (gtrid_eq h g) is
    where
      by : (t : Bool) → (if t then None else k.row g) ≡ Some set → q.gtrid ≡ g
      by true row = absurd (cc)
      by false row = short.own g set q row among
  own_after (Restarted i d n) may g set q is among = absurd may
  own_after _ may g set q is among = short.own g set q is among

  not_live_after : (e : Happening) → MayFollow k e → (g : Gtrid) → gone g ≡ true → is_live (transaction_after (full short) e g (ts g)) ≡ false
  not_live_after (Begun h) may g is = by (gtrid_eq h g) refl
    where
      by : (t : Bool) → gtrid_eq h g ≡ t → ((t || (ts g).begun) && not (is_over (ts g))) ≡ false
      by true e = absurd (not_given h may (ap gone (gtrid_eq-true h g e) ∙ is))
      by false e = short.not_live g is
  not_live_after (Decided h Outcome.Commit) may g is =
      more_committed (ts g).begun _ (ts g).committed (ts g).rolled_back (ts g).handed_over (short.not_live g is)
  not_live_after (Decided h Outcome.Rollback) may g is =
      more_rolled_back (ts g).begun _ (ts g).committed (ts g).rolled_back (ts g).handed_over (short.not_live g is)
  not_live_after (ResolvedOpen r) may g is = more_rolled_back (ts g).begun _ (ts g).committed (ts g).rolled_back (ts g).handed_over (short.not_live g is)
  not_live_after (Issued l (Calls.Commit b true)) may g is =
      more_handed_over (ts g).begun _ (ts g).committed (ts g).rolled_back (ts g).handed_over (short.not_live g is)
  not_live_after (Issued l (Calls.Start b false)) may g is = short.not_live g is
  not_live_after (Issued l (Calls.Start b true)) may g is = short.not_live g is
  not_live_after (Crashed Part.Manager) may g is = refl
  not_live_after (Failed f) may g is = refl
  not_live_after (Restarted i d n) may g is = refl
  not_live_after _ may g is = short.not_live g is

  notes_finished : (u : Bool) (e : Happening) (b : Branch) (n : Notes) → n.finished ≡ true → (notes_after u e b n).finished ≡ true
  notes_finished u (Issued l (Calls.Start c false)) b n is = is
  notes_finished u (Issued l (Calls.Start c true)) b n is = is
  notes_finished u (Heard l c a) b n is = or_right (finishes b c a) n.finished is
  notes_finished u (Crashed p) b n is = is
  notes_finished u (Failed f) b n is = is
  notes_finished u (Restarted i d h) b n is = is
  notes_finished u _ b n is = is

  -- what starts is not gone
  started_known : (b q : Branch) (s : KeySet branch_cmp) → gone b.gtrid ≡ false → gone q.gtrid ≡ true → contains (insert s b) q ≡ true → contains s q ≡ true
  started_known b q s kept is e = by (eq_by_cmp branch_cmp q b) refl (sym (contains-insert branches_total s b q) ∙ e)
    where
      by : (t : Bool) → eq_by_cmp branch_cmp q b ≡ t → (t || contains s q) ≡ true → contains s q ≡ true
      by true same some = absurd (true≢false (sym is ∙ ap (λ (x : Branch). gone x.gtrid) (exact_branches q b (equal_is _ same)) ∙ kept))
      by false other some = some

  known_before : (e : Happening) → MayFollow k e → (q : Branch) → gone q.gtrid ≡ true → contains (known_after e all) q ≡ true → contains all q ≡ true
  known_before (Issued l (Calls.Start b false)) may q is e = started_known b q all (begun_kept short b.gtrid may) is e
  known_before (Issued l (Calls.Start b true)) may q is e = started_known b q all (begun_kept short b.gtrid may) is e
  known_before _ may q is e = e

  insert_same : (b q : Branch) → gone b.gtrid ≡ false → contains (insert k.known b) q ≡ (contains (insert all b) q && not (gone q.gtrid))
  insert_same b q kept =
      contains-insert branches_total k.known b q ∙ by (eq_by_cmp branch_cmp q b) refl
      ∙ ap (λ t. t && not (gone q.gtrid)) (sym (contains-insert branches_total all b q))
    where
      by : (t : Bool) → eq_by_cmp branch_cmp q b ≡ t → (t || contains k.known q) ≡ ((t || contains all q) && not (gone q.gtrid))
      by true same = sym (ap not (ap (λ (x : Branch). gone x.gtrid) (exact_branches q b (equal_is _ same)) ∙ kept))
      by false other = short.same_known q

  known_same_after : (e : Happening) → MayFollow k e → (q : Branch)
      → contains (known_after e k.known) q ≡ (contains (known_after e all) q && not (gone q.gtrid))
  known_same_after (Issued l (Calls.Start b false)) may q = insert_same b q (begun_kept short b.gtrid may)
  known_same_after (Issued l (Calls.Start b true)) may q = insert_same b q (begun_kept short b.gtrid may)
  known_same_after _ may q = short.same_known q

  pub short_after : (asked : Doubt) (e : Happening) → MayFollow k e
      → IsShortOf gone (book_after k asked e) (λ g. transaction_after (full short) e g (ts g)) (λ b. notes_after k.up e b (noted b)) (known_after e all)
  short_after asked e may = record {
    same_transaction = λ g kept. ap (transaction_after (full short) e g) (short.same_transaction g kept)
        ∙ transaction_same short e may g (k.transaction g) kept;
    same_notes = λ b kept. ap (notes_after k.up e b) (short.same_notes b kept);
    same_known = known_same_after e may;
    own = own_after e may;
    unbegun = unbegun_after e may;
    given = given_after e may;
    no_row = no_row_after e may;
    not_live = not_live_after e may;
    finished = λ b is known. notes_finished k.up e b (noted b) (short.finished b is (known_before e may b is known));
  }

  pub same_after : (asked : Doubt) (e : Happening) → MayFollow k e
      → book_after (full short) asked e
      ≡ record (book_after k asked e) {
        transaction = λ g. transaction_after (full short) e g (ts g);
        notes = λ b. notes_after k.up e b (noted b);
        known = known_after e all;
      }
  same_after asked e may = book_is _ _ refl refl refl refl refl refl refl (λ g. refl) (λ b. refl) refl (λ r. refl)
      (λ g. row_same short e may g (k.row g)) (rows_same short e may k.rows) (λ b. recorded_same short e b (k.recorded b)) (records_same short e k.records) refl
