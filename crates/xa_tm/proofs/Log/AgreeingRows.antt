-- Rows and ends that agree are the same.
use Rattle.std.proofs.Common.{◌≡◌, ℕ, map, ◌⊎◌, inl, inr, List, [], ◌∷◌, Bool, true, false, not, ◌&&◌, ◌||◌, cond, is_eq, Option, Some, None, is_some, refl, sym, ap, ◌∙◌, Ordering, Equal}
use Rattle.std.specs.Prelude.{if◌then◌else◌, nat_eq}
use Rattle.std.specs.Global.{Vec}
use Rattle.std.specs.BTreeMap.{BTreeMap, get as tree_get}
use Rattle.std.specs.Map.{lookup}
use Rattle.std.specs.List.{list_all}
use Rattle.std.specs.Option.{option_map}
use Rattle.std.proofs.lemmas.Bool.{and_parts, true≢false}
use Rattle.std.proofs.lemmas.Bool.Decides.{eqb_tells}
use Rattle.xa_base.specs.Branch.{gtrid_cmp, branch_cmp, gtrid_eq}
use Rattle.xa_base.specs.declared.branch.Branch.{Branch}
use Rattle.xa_base.specs.declared.branch.Gtrid.{Gtrid}
use Rattle.xa_base.specs.declared.code.How.{How}
use Rattle.xa_base.specs.declared.code.How.TheVariants.{Haz, Com, Rb, Mix}
use Rattle.xa_base.proofs.BranchKeys.{gtrid_eq-true}
use Rattle.xa_base.proofs.Orders.{equal_is}
use Rattle.xa_log.specs.KeySet.{from_list}
use Rattle.xa_log.specs.declared.decision.Decision.{Decision}
use Rattle.xa_model.specs.Facts.{has_gtrid}
use Rattle.xa_tm.specs.Book.{Waiting, row_among, row_without}
use Rattle.xa_tm.specs.LedgerBook.{notes_at, decided_row, gtrids_of, waiting_of}
use Rattle.xa_tm.specs.Swaps.{decided_agrees, dropped_agrees, how_eq, is_how, kept_row, names_just, same_how, same_row}
use Rattle.xa_tm.specs.declared.notes.BranchNotes.{BranchNotes}
use Rattle.xa_tm.proofs.Maps.BranchSets.{sets_are}
use Rattle.xa_tm.proofs.Several.Contents.{without_none, without_some}

-- ** what agrees

names_is : (row : Option (Vec Branch)) (bs : List Branch) → names_just row bs ≡ true → option_map waiting_of row ≡ Some (from_list bs)
names_is (Some v) bs e = ap (λ s. Some s) (sets_are v.items bs e)
names_is None bs e = absurd (cc)

pub no_row : (row : Option (Vec Branch)) → not (is_some row) ≡ true → option_map waiting_of row ≡ None
no_row (Some v) e = absurd (cc)
no_row None e = refl

a_row : (row : Option (Vec Branch)) → is_some row ≡ true → (w : Waiting) × (option_map waiting_of row ≡ Some w)
a_row (Some v) e = (waiting_of v, refl)
a_row None e = absurd (cc)

pub rows_same : (own read : Option (Vec Branch)) → same_row own read ≡ true → option_map waiting_of read ≡ option_map waiting_of own
rows_same own (Some v) e = sym (names_is own v.items e)
rows_same own None e = sym (no_row own e)

how_is : (a b : How) → how_eq a b ≡ true → a ≡ b
how_is Haz Haz e = refl
how_is Com Com e = refl
how_is Rb Rb e = refl
how_is Mix Mix e = refl
how_is _ _ e = absurd (cc)

pub end_is : (read : Option How) (how : How) → is_how read how ≡ true → read ≡ Some how
end_is (Some h) how e = ap (λ x. Some x) (how_is h how e)
end_is None how e = absurd (cc)

pub no_end : (own : Option How) → not (is_some own) ≡ true → own ≡ None
no_end (Some h) e = absurd (cc)
no_end None e = refl

pub ends_same : (own read : Option How) → same_how own read ≡ true → read ≡ own
ends_same own (Some h) e = sym (end_is own h e)
ends_same own None e = sym (no_end own e)

pub nat_is : (a b : ℕ) → nat_eq a b ≡ true → a ≡ b
nat_is a b e = elim (eqb_tells a b) [ inl w ↦ w.1 | inr w ↦ absurd (true≢false (sym e ∙ w.0)) ]

-- ** of several rows

pub decided_is : (ds : List Decision) (own read : Option (Vec Branch)) (q : Gtrid) → decided_agrees ds read q (same_row own read) ≡ true
    → option_map waiting_of read ≡ row_among (map decided_row ds) q (option_map waiting_of own)
decided_is [] own read q e = rows_same own read e
decided_is (d ∷ ds) own read q e = by (gtrid_eq d.gtrid q) e (decided_is ds own read q)
  where
    by : (t : Bool) → (if t then names_just read d.participants.items else decided_agrees ds read q (same_row own read)) ≡ true
        → (decided_agrees ds read q (same_row own read) ≡ true → option_map waiting_of read ≡ row_among (map decided_row ds) q (option_map waiting_of own))
        → option_map waiting_of read
        ≡ (if t then Some (waiting_of d.participants) else row_among (map decided_row ds) q (option_map waiting_of own))
    by true e rest = names_is read d.participants.items e
    by false e rest = rest e

pub dropped_is : (gs : List Gtrid) (own read : Option (Vec Branch)) (q : Gtrid) → dropped_agrees gs read q (same_row own read) ≡ true
    → option_map waiting_of read ≡ row_without gs q (option_map waiting_of own)
dropped_is gs own read q e = by (has_gtrid gs q) refl e
  where
    by : (t : Bool) → has_gtrid gs q ≡ t → (if t then not (is_some read) else same_row own read) ≡ true
        → option_map waiting_of read ≡ row_without gs q (option_map waiting_of own)
    by true is e = no_row read e ∙ sym (without_some gs q (option_map waiting_of own) is)
    by false is e = rows_same own read e ∙ sym (without_none gs q (option_map waiting_of own) is)

pub some_kept : (row : Option (Vec Branch)) → is_some row ≡ true → is_some (option_map waiting_of row) ≡ true
some_kept (Some v) e = refl
some_kept None e = absurd (cc)

pub named_all : (p : Gtrid → Bool) (gs : List Gtrid) (q : Gtrid) → has_gtrid gs q ≡ true → list_all p gs ≡ true → p q ≡ true
named_all p [] q e all = absurd (cc)
named_all p (g ∷ gs) q e all =
    let parts = and_parts (p g) (list_all p gs) all in by (gtrid_eq g q) refl e parts.0 (λ is. named_all p gs q is parts.1)
  where
    by : (t : Bool) → gtrid_eq g q ≡ t → (t || has_gtrid gs q) ≡ true → p g ≡ true → (has_gtrid gs q ≡ true → p q ≡ true) → p q ≡ true
    by true same e passes rest = ap p (sym (gtrid_eq-true g q same)) ∙ passes
    by false other e passes rest = rest e

pub decided_all : (p : Gtrid → Bool) (ds : List Decision) (q : Gtrid) → has_gtrid (gtrids_of ds) q ≡ true
    → list_all (λ (d : Decision). p d.gtrid) ds ≡ true → p q ≡ true
decided_all p ds q e all = named_all p (gtrids_of ds) q e (of_names ds ∙ all)
  where
    of_names : (ds : List Decision) → list_all p (gtrids_of ds) ≡ list_all (λ (d : Decision). p d.gtrid) ds
    of_names [] = refl
    of_names (d ∷ ds) = ap (λ t. p d.gtrid && t) (of_names ds)

-- a test that all entries pass
pub all_at : {K X : Type 0} (R : K → K → Ordering) → ((a b : K) → R a b ≡ Equal → a ≡ b) → (p : K → Bool) (q : K) (es : List (K × X))
    → list_all (λ (e : K × X). p e.0) es ≡ true → (lookup (λ x. is_eq (R q x)) es ≡ None) ⊎ (p q ≡ true)
all_at R exact p q [] all = inl refl
all_at {K = K} {X = X} R exact p q (e ∷ es) all =
    let parts = and_parts (p e.0) (list_all (λ (e : K × X). p e.0) es) all in
    by (is_eq (R q e.0)) refl parts.0 (all_at R exact p q es parts.1)
  where
    by : (t : Bool) → is_eq (R q e.0) ≡ t → p e.0 ≡ true → (lookup (λ x. is_eq (R q x)) es ≡ None) ⊎ (p q ≡ true)
        → (lookup (λ x. is_eq (R q x)) (e ∷ es) ≡ None) ⊎ (p q ≡ true)
    by true same passes rest = inr (ap p (exact q e.0 (equal_is _ same)) ∙ passes)
    by false other passes (inl none) = inl (ap (λ t. cond t (Some e.1) (lookup (λ x. is_eq (R q x)) es)) other ∙ none)
    by false other passes (inr is) = inr is

pub unkept : (m : BTreeMap Gtrid (Option (Vec Branch))) (q : Gtrid) → tree_get gtrid_cmp m q ≡ None → kept_row m q ≡ None
unkept m q none = rw none

pub unnoted : (m : BTreeMap Branch BranchNotes) (q : Branch) → tree_get branch_cmp m q ≡ None → (notes_at m q).recorded ≡ None
unnoted m q none = rw none
