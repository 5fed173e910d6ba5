-- A mirror that has the rows of a log is a mirror of it, also if it lacks one of a transaction of
-- which no branch is committed.
use Rattle.std.proofs.Common.{inl, ◌≡◌, ◌∙◌, Bool, true, false, None, refl, sym, ap, subst}
use Rattle.std.proofs.lemmas.Bool.{true≢false}
use Rattle.std.specs.FinMap.{empty, get, get-empty, get-remove, remove}
use Rattle.std.specs.Prelude.{cond, is_some}
use Rattle.xa_base.proofs.BranchKeys.{gtrid_eq-true}
use Rattle.xa_base.proofs.BranchOrder.{gtrids_total}
use Rattle.xa_base.specs.Branch.{branch_cmp, gtrid_eq}
use Rattle.xa_mirror.specs.Mirrors.{CopiesAreMirrors, CopiesMayLackARow, IsMirrorFor, NoneIsCommitted}
use Rattle.xa_model.specs.Trace.{Branch, How}

-- it has no records
no_record : (b : Branch) → is_some (get {X = How} (empty {R = branch_cmp}) b) ≡ true → ⊥
no_record b e = true≢false (sym e ∙ ap is_some (get-empty {X = How} branch_cmp b))

pub copies : CopiesAreMirrors
copies f c n later g = record {
  later = later;
  missing = λ has lacks. absurd (true≢false (sym has ∙ lacks));
  more = λ gone has. absurd (true≢false (sym has ∙ gone));
  same = λ has there. refl;
  records = λ b q has. absurd (no_record b has);
}

pub lacking_copies : CopiesMayLackARow
lacking_copies f c n g later none h = by (gtrid_eq h g) refl
  where
    there : get (remove c.decisions g) h ≡ cond (gtrid_eq h g) None (get c.decisions h)
    there = get-remove gtrids_total c.decisions g h

    by : (t : Bool) → gtrid_eq h g ≡ t → IsMirrorFor h f c (record { decisions = remove c.decisions g; heuristics = empty; incarnation = n })
    by true e =
        let gone : get (remove c.decisions g) h ≡ None = there ∙ ap (λ t. cond t None (get c.decisions h)) e in
        record {
          later = later;
          missing = λ has lacks. inl (subst (λ k. NoneIsCommitted k f) (sym (gtrid_eq-true h g e)) none);
          more = λ left has. absurd (true≢false (sym has ∙ ap is_some gone));
          same = λ has here. absurd (true≢false (sym here ∙ ap is_some gone));
          records = λ b q has. absurd (no_record b has);
        }
    by false e =
        let kept : get (remove c.decisions g) h ≡ get c.decisions h = there ∙ ap (λ t. cond t None (get c.decisions h)) e in
        record {
          later = later;
          missing = λ has lacks. absurd (true≢false (sym has ∙ (ap is_some (sym kept) ∙ lacks)));
          more = λ left has. absurd (true≢false (sym has ∙ (ap is_some kept ∙ left)));
          same = λ has here. kept;
          records = λ b q has. absurd (no_record b has);
        }
