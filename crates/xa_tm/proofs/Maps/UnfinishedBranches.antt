-- Branches of a line that are left to finish, by the map of branches and by the set of those that
-- are known.
use Rattle.std.proofs.Common.{◌≡◌, ℕ, List, [], ◌∷◌, filter, Bool, true, false, not, ◌&&◌, ◌||◌, cond, refl, sym, ap, ◌∙◌}
use Rattle.std.specs.Prelude.{nat_eq}
use Rattle.std.specs.BTreeMap.{IsOrdered}
use Rattle.std.specs.List.{list_any}
use Rattle.std.specs.Map.{keys_of}
use Rattle.xa_base.specs.Branch.{branch_cmp}
use Rattle.xa_model.specs.Trace.{line}
use Rattle.xa_base.specs.declared.branch.Branch.{Branch}
use Rattle.xa_log.specs.KeySet.{items}
use Rattle.xa_tm.specs.LedgerBook.{notes_at, as_book, started_keys}
use Rattle.xa_tm.specs.Refusing.{is_unfinished}
use Rattle.xa_tm.specs.declared.ledger.Ledger.{Ledger}
use Rattle.xa_tm.specs.declared.notes.BranchNotes.{BranchNotes}
use Rattle.xa_tm.proofs.Maps.StartedBranches.{any_kept}
use Rattle.xa_tm.proofs.History.Members.{any_within, set_any}

-- an entry of the map that is left
abbrev pub is_left : (thread rm : ℕ) → Branch × BranchNotes → Bool
is_left t r e = e.1.is_started && (nat_eq e.0.thread t && (nat_eq e.0.rm r && (e.1.is_on_line && not e.1.is_finished)))

pub some_left : (p : Branch × BranchNotes → Bool) (es : List (Branch × BranchNotes)) → list_any p es ≡ list_any (λ _. true) (keys_of (filter p es))
some_left p [] = refl
some_left p (e ∷ es) = by (p e) (some_left p es)
  where
    by : (t : Bool) → list_any p es ≡ list_any (λ _. true) (keys_of (filter p es))
        → (t || list_any p es) ≡ list_any (λ _. true) (keys_of (cond t (e ∷ filter p es) (filter p es)))
    by true rest = refl
    by false rest = rest

shuffled : (s t r o f : Bool) → (s && (t && (r && (o && f)))) ≡ (((t && r) && (o && f)) && s)
shuffled false t r o f = none ((t && r) && (o && f))
  where
    none : (x : Bool) → false ≡ (x && false)
    none true = refl
    none false = refl
shuffled true false r o f = refl
shuffled true true false o f = refl
shuffled true true true false f = refl
shuffled true true true true false = refl
shuffled true true true true true = refl

-- an entry's branch has what the entry says
entry_at : (k : Ledger) (t r : ℕ) → IsOrdered branch_cmp k.branches
    → list_any (is_left t r) k.branches.entries ≡ list_any (is_unfinished (as_book k) (line t r)) (started_keys k.branches.entries)
entry_at k t r up = some_left (is_left t r) k.branches.entries
    ∙ any_within (is_unfinished (as_book k) (line t r)) (keys_of (filter (is_left t r) k.branches.entries)) (started_keys k.branches.entries) (λ q.
    any_kept (is_left t r) q refl k.branches.entries up
    ∙ shuffled (notes_at k.branches q).is_started (nat_eq q.thread t) (nat_eq q.rm r) (notes_at k.branches q).is_on_line
    (not (notes_at k.branches q).is_finished)
    ∙ ap (λ x. is_unfinished (as_book k) (line t r) q && x) (sym (any_kept (λ e. e.1.is_started) q refl k.branches.entries up)))

pub unfinished_is : (k : Ledger) (t r : ℕ) → IsOrdered branch_cmp k.branches
    → list_any (is_left t r) k.branches.entries ≡ list_any (is_unfinished (as_book k) (line t r)) (items (as_book k).known)
unfinished_is k t r up = entry_at k t r up ∙ set_any (is_unfinished (as_book k) (line t r)) (started_keys k.branches.entries)
