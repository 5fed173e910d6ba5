-- A book that is short of some transactions, and the whole book.
use Rattle.std.proofs.Common.{◌≡◌, List, [], ◌∷◌, Bool, true, false, not, ◌&&◌, ◌||◌, Some, None, is_some, refl, sym, ap, ◌∙◌}
use Rattle.std.specs.Prelude.{if◌then◌else◌}
use Rattle.std.proofs.lemmas.Bool.{true≢false}
use Rattle.xa_base.specs.Branch.{branch_cmp}
use Rattle.xa_base.specs.StateTable.{on}
use Rattle.xa_base.specs.declared.branch.Branch.{Branch}
use Rattle.xa_base.specs.declared.branch.Gtrid.{Gtrid}
use Rattle.xa_log.specs.KeySet.{KeySet, contains}
use Rattle.xa_model.specs.Trace.{Name, Name.Ours, Name.Foreign}
use Rattle.xa_tm.specs.Book.{Book, TransactionNotes, Notes, Waiting}
use Rattle.xa_tm.specs.Refusing.{live_in, resolving_calls_in, resolving_kind_in}
use Rattle.xa_tm.specs.Release.{RowsAreOwn, was_given}

-- ** what is noted of a transaction

abbrev pub is_over : TransactionNotes → Bool
is_over d = d.committed || (d.rolled_back || d.handed_over)

abbrev pub is_live : TransactionNotes → Bool
is_live d = d.begun && not (is_over d)

-- ** one book and its whole

-- the same as `HasReleased`, of the parts in which the whole book differs
pub record IsShortOf (gone : Gtrid → Bool) (k : Book) (ts : Gtrid → TransactionNotes) (noted : Branch → Notes) (all : KeySet branch_cmp) : Type 0 where
  pub same_transaction : (g : Gtrid) → gone g ≡ false → ts g ≡ k.transaction g
  pub same_notes : (b : Branch) → gone b.gtrid ≡ false → noted b ≡ k.notes b
  pub same_known : (b : Branch) → contains k.known b ≡ (contains all b && not (gone b.gtrid))
  pub own : RowsAreOwn k
  pub unbegun : (g : Gtrid) → gone g ≡ true → (k.transaction g).begun ≡ false
  pub given : (g : Gtrid) → gone g ≡ true → was_given k g ≡ true
  pub no_row : (g : Gtrid) → gone g ≡ true → k.row g ≡ None
  pub not_live : (g : Gtrid) → gone g ≡ true → is_live (ts g) ≡ false
  pub finished : (b : Branch) → gone b.gtrid ≡ true → contains all b ≡ true → (noted b).finished ≡ true

module _ {gone : Gtrid → Bool} {k : Book} {ts : Gtrid → TransactionNotes} {noted : Branch → Notes} {all : KeySet branch_cmp}
    (short : IsShortOf gone k ts noted all) where
  abbrev pub full : Book
  full = record k { transaction = ts; notes = noted; known = all }

  pub kept_by : (g : Gtrid) → (gone g ≡ true → ⊥) → gone g ≡ false
  kept_by g never = by (gone g) refl
    where
      by : (t : Bool) → gone g ≡ t → t ≡ false
      by true e = absurd (never e)
      by false e = refl

  -- what is begun is not gone
  pub begun_kept : (g : Gtrid) → (k.transaction g).begun ≡ true → gone g ≡ false
  begun_kept g is = kept_by g (λ e. true≢false (sym is ∙ short.unbegun g e))

  -- nor is what has a row
  pub row_kept : (g : Gtrid) (set : Waiting) → k.row g ≡ Some set → gone g ≡ false
  row_kept g set is = kept_by g (λ e. true≢false (ap is_some (sym is ∙ short.no_row g e)))

  live_same : (g : Gtrid) → live_in k g ≡ live_in full g
  live_same g = by (gone g) refl
    where
      by : (t : Bool) → gone g ≡ t → live_in k g ≡ live_in full g
      by true e = ap (λ u. u && not (is_over (k.transaction g))) (short.unbegun g e) ∙ sym (short.not_live g e)
      by false e = ap is_live (sym (short.same_transaction g e))

  pub calls_same : (ns : List Name) → resolving_calls_in k ns ≡ resolving_calls_in full ns
  calls_same [] = refl
  calls_same (Foreign x ∷ ns) = calls_same ns
  calls_same (Ours b ∷ ns) = by (live_in k b.gtrid) (live_in full b.gtrid) (live_same b.gtrid) (calls_same ns)
    where
      by : (s t : Bool) → s ≡ t → resolving_calls_in k ns ≡ resolving_calls_in full ns
          → (if s then resolving_calls_in k ns else on (resolving_kind_in k b) b ∷ resolving_calls_in k ns)
          ≡ (if t then resolving_calls_in full ns else on (resolving_kind_in full b) b ∷ resolving_calls_in full ns)
      by true true e rest = rest
      by false false e rest = ap (λ cs. on (resolving_kind_in k b) b ∷ cs) rest
      by true false e rest = absurd (cc)
      by false true e rest = absurd (cc)
