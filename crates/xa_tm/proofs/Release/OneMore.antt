-- A book is short of one transaction more after that is released.
use Rattle.std.proofs.Common.{◌≡◌, Bool, true, false, not, ◌&&◌, ◌||◌, None, refl, sym, ap, ◌∙◌, subst}
use Rattle.std.specs.Prelude.{if◌then◌else◌}
use Rattle.xa_base.specs.Branch.{branch_cmp, gtrid_eq}
use Rattle.xa_base.specs.declared.branch.Branch.{Branch}
use Rattle.xa_base.specs.declared.branch.Gtrid.{Gtrid}
use Rattle.xa_base.proofs.BranchKeys.{gtrid_eq-true}
use Rattle.xa_log.specs.KeySet.{KeySet, contains}
use Rattle.xa_tm.specs.Book.{Book, TransactionNotes, Notes}
use Rattle.xa_tm.specs.Release.{IsOver, book_without, was_given}
use Rattle.xa_tm.specs.Starting.{no_notes, no_transaction_notes}
use Rattle.xa_tm.proofs.Release.Sets.{set_filtered}
use Rattle.xa_tm.proofs.Release.ShortBooks.{is_live, IsShortOf}

module _ {gone : Gtrid → Bool} {k : Book} {ts : Gtrid → TransactionNotes} {noted : Branch → Notes} {all : KeySet branch_cmp}
    (short : IsShortOf gone k ts noted all) where
  module _ (g : Gtrid) (done : IsOver k g) where
    abbrev more_gone : Gtrid → Bool
    more_gone h = gtrid_eq g h || gone h

    neither : (h : Gtrid) → more_gone h ≡ false → (gtrid_eq g h ≡ false) × (gone h ≡ false)
    neither h e = by (gtrid_eq g h) (gone h) e
      where
        by : (s t : Bool) → (s || t) ≡ false → (s ≡ false) × (t ≡ false)
        by false false e = (refl, refl)
        by true t e = absurd (cc)
        by false true e = absurd (cc)

    -- what is so of this one and of those that were gone before
    each_gone : (P : Gtrid → Type 0) → P g → ((h : Gtrid) → gone h ≡ true → P h) → (h : Gtrid) → more_gone h ≡ true → P h
    each_gone P here before h e = by (gtrid_eq g h) refl e
      where
        by : (t : Bool) → gtrid_eq g h ≡ t → (t || gone h) ≡ true → P h
        by true is some = subst P (gtrid_eq-true g h is) here
        by false is some = before h some

    blank : (h : Gtrid) → gtrid_eq g h ≡ false → (book_without g k).transaction h ≡ k.transaction h
    blank h e = ap (λ (t : Bool). if t then no_transaction_notes else k.transaction h) e

    blank_notes : (b : Branch) → gtrid_eq g b.gtrid ≡ false → (book_without g k).notes b ≡ k.notes b
    blank_notes b e = ap (λ (t : Bool). if t then no_notes else k.notes b) e

    -- this one may have been gone before
    not_live_here : is_live (ts g) ≡ false
    not_live_here = by (gone g) refl
      where
        by : (t : Bool) → gone g ≡ t → is_live (ts g) ≡ false
        by true e = short.not_live g e
        by false e = ap is_live (short.same_transaction g e) ∙ done.not_live

    finished_here : (b : Branch) → g ≡ b.gtrid → contains all b ≡ true → (noted b).finished ≡ true
    finished_here b same known = by (gone b.gtrid) refl
      where
        by : (t : Bool) → gone b.gtrid ≡ t → (noted b).finished ≡ true
        by true e = short.finished b e known
        by false e =
            ap (λ (x : Notes). x.finished) (short.same_notes b e)
            ∙ done.branches.finished b (sym same) (short.same_known b ∙ ap (λ t. t && not (gone b.gtrid)) known ∙ ap not e)

    each_finished : (b : Branch) → more_gone b.gtrid ≡ true → contains all b ≡ true → (noted b).finished ≡ true
    each_finished b e known = go (gtrid_eq g b.gtrid) refl e
      where
        go : (t : Bool) → gtrid_eq g b.gtrid ≡ t → (t || gone b.gtrid) ≡ true → (noted b).finished ≡ true
        go true is some = finished_here b (gtrid_eq-true g b.gtrid is) known
        go false is some = short.finished b some known

    each_unbegun : (h : Gtrid) → more_gone h ≡ true → ((book_without g k).transaction h).begun ≡ false
    each_unbegun h e = go (gtrid_eq g h) e
      where
        go : (t : Bool) → (t || gone h) ≡ true → (if t then no_transaction_notes else k.transaction h).begun ≡ false
        go true some = refl
        go false some = short.unbegun h some

    turned : (s a t : Bool) → (not s && (a && not t)) ≡ (a && not (s || t))
    turned true true t = refl
    turned true false t = refl
    turned false a t = refl

    pub short_more : IsShortOf more_gone (book_without g k) ts noted all
    short_more = record {
      same_transaction = λ h e. let n = neither h e in short.same_transaction h n.1 ∙ sym (blank h n.0);
      same_notes = λ b e. let n = neither b.gtrid e in short.same_notes b n.1 ∙ sym (blank_notes b n.0);
      same_known = λ b. set_filtered (λ c. not (gtrid_eq g c.gtrid)) b k.known ∙ ap (λ t. not (gtrid_eq g b.gtrid) && t) (short.same_known b)
          ∙ turned (gtrid_eq g b.gtrid) (contains all b) (gone b.gtrid);
      own = short.own;
      unbegun = each_unbegun;
      given = each_gone (λ h. was_given k h ≡ true) done.given short.given;
      no_row = each_gone (λ h. k.row h ≡ None) done.no_row short.no_row;
      not_live = each_gone (λ h. is_live (ts h) ≡ false) not_live_here short.not_live;
      finished = each_finished;
    }
