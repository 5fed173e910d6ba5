-- What is noted of every branch is changed.
use Rattle.std.proofs.Common.{◌≡◌, List, [], ◌∷◌, map, Bool, true, false, not, cond, Option, Some, None, refl, sym, ap, ◌∙◌, subst}
use Rattle.std.specs.Prelude.{unwrap_or}
use Rattle.std.specs.Option.{option_map}
use Rattle.std.specs.BTreeMap.{BTreeMap, is_at, IsOrdered}
use Rattle.std.specs.Map.{lookup}
use Rattle.std.specs.Map.Calls.{RetainsPairs}
use Rattle.std.proofs.Math.Bool.{and-false}
use Rattle.xa_base.specs.Branch.{branch_cmp}
use Rattle.xa_base.specs.declared.branch.Branch.{Branch}
use Rattle.xa_base.proofs.BranchOrder.{exact_branches}
use Rattle.xa_base.specs.declared.step.Part.{Part}
use Rattle.xa_base.proofs.Orders.{equal_is}
use Rattle.xa_model.specs.Trace.{Happening.Crashed, line_of}
use Rattle.xa_tm.specs.Book.{breaks_in}
use Rattle.xa_tm.specs.LedgerBook.{no_branch, notes_at, known_in, off_line}
use Rattle.xa_tm.specs.declared.notes.BranchNotes.{BranchNotes}
use Rattle.xa_tm.proofs.Maps.StartedBranches.{known_same}

-- each entry is kept, and changed by its key
pub retained : {F K X : Type 0} (T : F → K → X → Bool → X → F → Type 0) (g : K → X → X) (f : F)
    → ((k : K) (v : X) (b : Bool) (w : X) (f' : F) → T f k v b w f' → (b ≡ true) × (w ≡ g k v) × (f' ≡ f))
    → (es kept : List (K × X)) → RetainsPairs T f es kept → kept ≡ map (λ e. (e.0, g e.0 e.1)) es
retained T g f law [] kept r = r
retained T g f law (e ∷ es) kept r =
    let call = law e.0 e.1 r.0 r.1 r.2 r.4 in
    let rest = retained T g f law es r.3 (subst (λ h. RetainsPairs T h es r.3) call.2 r.5) in
    r.6 ∙ ap (λ b. cond b ((e.0, r.1) ∷ r.3) r.3) call.0 ∙ ap (λ w. (e.0, w) ∷ r.3) call.1 ∙ ap (λ es'. (e.0, g e.0 e.1) ∷ es') rest

found : (g : Branch → BranchNotes → BranchNotes) (q : Branch) (es : List (Branch × BranchNotes))
    → lookup (is_at (branch_cmp q)) (map (λ (e : Branch × BranchNotes). (e.0, g e.0 e.1)) es) ≡ option_map (g q) (lookup (is_at (branch_cmp q)) es)
found g q [] = refl
found g q (e ∷ es) = by (is_at (branch_cmp q) e.0) refl (found g q es)
  where
    by : (t : Bool) → is_at (branch_cmp q) e.0 ≡ t
        → lookup (is_at (branch_cmp q)) (map (λ (e : Branch × BranchNotes). (e.0, g e.0 e.1)) es) ≡ option_map (g q) (lookup (is_at (branch_cmp q)) es)
        → cond t (Some (g e.0 e.1)) (lookup (is_at (branch_cmp q)) (map (λ (e : Branch × BranchNotes). (e.0, g e.0 e.1)) es))
        ≡ option_map (g q) (cond t (Some e.1) (lookup (is_at (branch_cmp q)) es))
    by true is rest = ap (λ k. Some (g k e.1)) (sym (exact_branches q e.0 (equal_is _ is)))
    by false is rest = rest

-- a change of all entries that leaves what nothing is noted of is a change of all branches
pub all_changed : (g : Branch → BranchNotes → BranchNotes) → ((q : Branch) → g q no_branch ≡ no_branch) → (m n : BTreeMap Branch BranchNotes)
    → n.entries ≡ map (λ (e : Branch × BranchNotes). (e.0, g e.0 e.1)) m.entries → (q : Branch) → notes_at n q ≡ g q (notes_at m q)
all_changed g none m n is q =
    ap (λ es. unwrap_or (lookup (is_at (branch_cmp q)) es) no_branch) is ∙ ap (λ o. unwrap_or o no_branch) (found g q m.entries)
    ∙ by (lookup (is_at (branch_cmp q)) m.entries)
  where
    by : (o : Option BranchNotes) → unwrap_or (option_map (g q) o) no_branch ≡ g q (unwrap_or o no_branch)
    by None = sym (none q)
    by (Some v) = refl

-- the known branches stay
pub known_changed : (g : Branch → BranchNotes → BranchNotes) → ((q : Branch) → g q no_branch ≡ no_branch)
    → ((q : Branch) (v : BranchNotes) → (g q v).is_started ≡ v.is_started)
    → (m n : BTreeMap Branch BranchNotes) → IsOrdered branch_cmp m → IsOrdered branch_cmp n
    → n.entries ≡ map (λ (e : Branch × BranchNotes). (e.0, g e.0 e.1)) m.entries → known_in n ≡ known_in m
known_changed g none keeps m n up rise is =
    known_same m n up rise (λ q. ap (λ (x : BranchNotes). x.is_started) (all_changed g none m n is q) ∙ keeps q (notes_at m q))

-- ** lines break

pub off_line_new : (p : Part) (q : Branch) → off_line p q no_branch ≡ no_branch
off_line_new p q = ap (λ t. record no_branch { is_on_line = t }) (and-false (not (breaks_in true (Crashed p) (line_of q))))
