-- From what the map of branches has at each name to what the book says.
use Rattle.std.proofs.Common.{◌≡◌, Bool, true, false, ◌||◌, refl, sym, ap, ◌∙◌, subst}
use Rattle.std.specs.Prelude.{if◌then◌else◌}
use Rattle.xa_base.specs.Branch.{branch_eq}
use Rattle.xa_base.specs.declared.branch.Branch.{Branch}
use Rattle.xa_base.proofs.BranchKeys.{branch_eq-true, branch_eq-refl}
use Rattle.xa_tm.specs.Book.{Notes, notes_started}
use Rattle.xa_tm.specs.LedgerBook.{notes_of}
use Rattle.xa_tm.specs.declared.notes.BranchNotes.{BranchNotes}

pub notes_is : (m n : Notes) → m.started ≡ n.started → m.on_line ≡ n.on_line → m.start_answered ≡ n.start_answered → m.said_yes ≡ n.said_yes
    → m.said_read_only ≡ n.said_read_only → m.acknowledged ≡ n.acknowledged → m.acknowledged_lately ≡ n.acknowledged_lately → m.finished ≡ n.finished → m ≡ n
notes_is m n s o a y r c l f =
    λ i. record {
      started = s i;
      on_line = o i;
      start_answered = a i;
      said_yes = y i;
      said_read_only = r i;
      acknowledged = c i;
      acknowledged_lately = l i;
      finished = f i;
    }

-- one branch is written: what this makes of it, and that the others stay
pub one_note : (after : Branch → Notes → Notes) (old mid new : Branch → BranchNotes) (b : Branch) (n : BranchNotes)
    → ((q : Branch) → mid q ≡ old q) → ((q : Branch) → new q ≡ (if branch_eq b q then n else mid q))
    → (branch_eq b b ≡ true → notes_of n ≡ after b (notes_of (old b)))
    → ((q : Branch) → branch_eq b q ≡ false → notes_of (old q) ≡ after q (notes_of (old q)))
    → (q : Branch) → notes_of (new q) ≡ after q (notes_of (old q))
one_note after old mid new b n same h here away q = ap notes_of (h q) ∙ by (branch_eq b q) refl
  where
    by : (t : Bool) → branch_eq b q ≡ t → notes_of (if t then n else mid q) ≡ after q (notes_of (old q))
    by true e = subst (λ p. notes_of n ≡ after p (notes_of (old p))) (branch_eq-true b q e) (here (branch_eq-refl b))
    by false e = ap notes_of (same q) ∙ away q e

pub start_notes : (old mid new : Branch → BranchNotes) (b : Branch) (n : BranchNotes) → n ≡ old b
    → ((q : Branch) → mid q ≡ old q) → ((q : Branch) → new q ≡ (if branch_eq b q then record n { is_started = true; is_on_line = true } else mid q))
    → (q : Branch) → notes_of (new q) ≡ notes_started b q (notes_of (old q))
start_notes old mid new b n is same h = one_note (notes_started b) old mid new b (record n { is_started = true; is_on_line = true }) same h
    (λ self. notes_is _ _ (sym (ap (λ t. t || (old b).is_started) self)) (sym (ap (λ t. t || (old b).is_on_line) self))
    (ap (λ (x : BranchNotes). x.start_is_answered) is) (ap (λ (x : BranchNotes). x.said_yes) is) (ap (λ (x : BranchNotes). x.said_read_only) is)
    (ap (λ (x : BranchNotes). x.is_acknowledged) is) (ap (λ (x : BranchNotes). x.is_acknowledged_lately) is) (ap (λ (x : BranchNotes). x.is_finished) is))
    (λ q e. notes_is _ _ (sym (ap (λ t. t || (old q).is_started) e)) (sym (ap (λ t. t || (old q).is_on_line) e)) refl refl refl refl refl refl)

-- records stay
pub same_records : (old mid new : Branch → BranchNotes) (b : Branch) (n : BranchNotes) → ((q : Branch) → mid q ≡ old q)
    → ((q : Branch) → new q ≡ (if branch_eq b q then n else mid q))
    → n.recorded ≡ (old b).recorded → (q : Branch) → (new q).recorded ≡ (old q).recorded
same_records old mid new b n same h is q = ap (λ (x : BranchNotes). x.recorded) (h q) ∙ by (branch_eq b q) refl
  where
    by : (t : Bool) → branch_eq b q ≡ t → (if t then n else mid q).recorded ≡ (old q).recorded
    by true e = is ∙ ap (λ p. (old p).recorded) (branch_eq-true b q e)
    by false e = ap (λ (x : BranchNotes). x.recorded) (same q)
