-- The text of the rows of a log is that of its content.
use Rattle.std.proofs.Common.{◌≡◌, ◌∙◌, T, ℕ, Bool, true, false, ◌&&◌, List, [], ◌∷◌, ◌++◌, length, map, drop, take, Option, Some, None, Result, Ok, Err, IfOk, IfErr, IsSomeAnd, OnOk, OnErr, refl, sym, ap, subst, arith}
use Rattle.std.specs.FinMap.{entries, entries_sorted, get-entries, is_sorted, keys}
use Rattle.std.specs.FinMap.Entries.{below_all}
use Rattle.std.specs.Io.KnownBytes.{Appends}
use Rattle.std.specs.List.{AllByRecursion, flat_map}
use Rattle.std.proofs.Math.Seq.{drop-append_seam, take-append_seam}
use Rattle.std.proofs.lemmas.Result.{on_ok_weaker}
use Rattle.xa_base.proofs.BranchOrder.{exact_gtrids, gtrids_total}
use Rattle.xa_base.proofs.BranchKeys.{gtrid_eq-refl}
use Rattle.xa_base.specs.Branch.{branch_cmp, gtrid_cmp, gtrid_eq}
use Rattle.xa_base.specs.declared.branch.Branch.{Branch}
use Rattle.xa_base.specs.declared.branch.Gtrid.{Gtrid}
use Rattle.xa_base.specs.declared.code.How.{How}
use Rattle.xa_base.proofs.Lists.{all_append, all_map}
use Rattle.xa_base.proofs.Orders.{less_differs, all_among}
use Rattle.xa_files.specs.Outputs.{AppendsBeginning}
use Rattle.xa_files.specs.declared.fault.RunFault.{RunFault}
use Rattle.xa_files.specs.declared.fault.RunFault.TheVariants.{Output}
use Rattle.xa_listing.specs.Asks.{decision_asks, ends_asked, hint, log_asks, or_nothing, rows_asks}
use Rattle.xa_listing.specs.Lines.{heuristic_lines, is_of_transaction, own_count, row_lines, rows_text}
use Rattle.xa_listing.specs.Texts.{count_line, log_text}
use Rattle.xa_log.specs.Content.{AreOwn, Content, all_listed}
use Rattle.xa_log.specs.KeySet.{KeySet, contains-items, items}
use Rattle.xa_log.specs.declared.log_fault.LogFault.{LogFault}
use Rattle.xa_log.specs.declared.log_rows.LogRows.{LogRows}
use Rattle.xa_log.proofs.Rising.{all_entries, less}

abbrev Row : Type 0
Row = Gtrid × KeySet branch_cmp

-- ** the branches of a transaction stand before those of others

first_count : (g : Gtrid) (xs ys : List Branch) → AllByRecursion (λ b. is_of_transaction g b ≡ true) xs → AllByRecursion (λ b. is_of_transaction g b ≡ false) ys
    → own_count g (xs ++ ys) ≡ length xs
first_count g [] [] own others = refl
first_count g [] (y ∷ ys) own others = rw (others.0) refl
first_count g (x ∷ xs) ys own others = rw (own.0) (omega (arith, first_count g xs ys own.1 others))

-- ** the rows of a map of which each has branches of its own

abbrev IsOwn : Row → Type 0
IsOwn row = AllByRecursion (λ (b : Branch). b.gtrid ≡ row.0) (items row.1)

parts : (a b : Bool) → T (a && b) → T a × T b
parts true b p = (tt, p)
parts false b p = absurd p

own_first : (row : Row) → IsOwn row → AllByRecursion (λ b. is_of_transaction row.0 b ≡ true) (items row.1)
own_first row own = all_map _ _ (λ (b : Branch) (is : b.gtrid ≡ row.0). ap (λ g. gtrid_eq g row.0) is ∙ gtrid_eq-refl row.0) (items row.1) own

others_after : (g : Gtrid) (rows : List Row) → T (below_all gtrid_cmp g rows) → AllByRecursion IsOwn rows
    → AllByRecursion (λ b. is_of_transaction g b ≡ false) (all_listed rows)
others_after g [] below own = tt
others_after g (row ∷ rows) below own =
    let p = parts _ _ below in
    all_append _ (items row.1) (all_listed rows)
    (all_map _ _ (λ (b : Branch) (is : b.gtrid ≡ row.0). ap (λ k. gtrid_eq k g) is ∙ less_differs g row.0 (less _ p.0)) (items row.1) own.0)
    (others_after g rows p.1 own.1)

rows_texts : (text : Gtrid → List Branch → List ℕ) (rows : List Row) → T (is_sorted gtrid_cmp rows) → AllByRecursion IsOwn rows
    → row_lines text (map (λ row. row.0) rows) (all_listed rows) ≡ flat_map (λ row. text row.0 (items row.1)) rows
rows_texts text [] up own = refl
rows_texts text (row ∷ rows) up own =
    let p = parts _ _ up in
    let all = items row.1 ++ all_listed rows in
    let gs = map (λ (r : Row). r.0) rows in
    let count : own_count row.0 all ≡ length (items row.1) =
    first_count row.0 (items row.1) (all_listed rows) (own_first row own.0) (others_after row.0 rows p.0 own.1) in
    ap (λ n. text row.0 (take n all) ++ row_lines text gs (drop n all)) count
    ∙ ap (λ bs. text row.0 bs ++ row_lines text gs (drop (length (items row.1)) all)) (take-append_seam (items row.1) (all_listed rows))
    ∙ ap (λ bs. text row.0 (items row.1) ++ row_lines text gs bs) (drop-append_seam (items row.1) (all_listed rows))
    ∙ ap (λ rest. text row.0 (items row.1) ++ rest) (rows_texts text rows p.1 own.1)

-- ** the rows of a log are so

own_rows : (c : Content) → AreOwn c → AllByRecursion IsOwn (entries c.decisions)
own_rows c own =
    all_entries gtrids_total exact_gtrids IsOwn (entries c.decisions) (entries_sorted c.decisions) (λ g set is.
    all_among _ (items set) (λ b there. own g set b (get-entries c.decisions g ∙ is) (contains-items set b ∙ there)))

-- the text of the rows that a log lists
pub text_of_rows : (c : Content) (decisions : List Gtrid) (participants : List Branch) (heuristics : List (Branch × How)) → AreOwn c
    → decisions ≡ keys c.decisions → participants ≡ all_listed (entries c.decisions) → heuristics ≡ entries c.heuristics
    → rows_text decisions participants heuristics ≡ log_text c
text_of_rows c decisions participants heuristics own decided waited ended =
    ap (λ gs. rows_text gs participants heuristics) decided ∙ ap (λ bs. rows_text (keys c.decisions) bs heuristics) waited
    ∙ ap (λ hs. rows_text (keys c.decisions) (all_listed (entries c.decisions)) hs) ended
    ∙ ap (λ text. text ++ heuristic_lines (entries c.heuristics)) (rows_texts (λ g branches. count_line g (length branches)) (entries c.decisions) (entries_sorted c.decisions) (own_rows c own))

-- and so is what they ask of an operator
pub asks_of_rows : (manager : List ℕ) (c : Content) (decisions : List Gtrid) (participants : List Branch) (heuristics : List (Branch × How)) → AreOwn c
    → decisions ≡ keys c.decisions → participants ≡ all_listed (entries c.decisions) → heuristics ≡ entries c.heuristics
    → rows_asks manager decisions participants heuristics ≡ log_asks manager c
asks_of_rows manager c decisions participants heuristics own decided waited ended =
    ap (λ gs. rows_asks manager gs participants heuristics) decided ∙ ap (λ bs. rows_asks manager (keys c.decisions) bs heuristics) waited
    ∙ ap (λ hs. rows_asks manager (keys c.decisions) (all_listed (entries c.decisions)) hs) ended
    ∙ ap (λ text. or_nothing (text ++ ends_asked (keys c.decisions) (entries c.heuristics) ++ hint (all_listed (entries c.decisions))))
    (rows_texts (decision_asks manager) (entries c.decisions) (entries_sorted c.decisions) (own_rows c own))

module _ (of_log : Content → List ℕ) where
  -- and so of an answer of the log
  pub told : (of_rows : List Gtrid → List Branch → List (Branch × How) → List ℕ)
      → ((c : Content) (decisions : List Gtrid) (participants : List Branch) (heuristics : List (Branch × How)) → AreOwn c → decisions ≡ keys c.decisions
      → participants ≡ all_listed (entries c.decisions) → heuristics ≡ entries c.heuristics → of_rows decisions participants heuristics ≡ of_log c)
      → (content : Option Content) (answer : Result LogRows LogFault) (rows : LogRows) (text : List ℕ) → answer ≡ Ok rows
      → ((c : Content) → content ≡ Some c → AreOwn c)
      → IfOk answer (λ (r : LogRows). IsSomeAnd content (λ c. r.decisions.items ≡ keys c.decisions))
      → IfOk answer (λ (r : LogRows). IsSomeAnd content (λ c. r.participants.items ≡ all_listed (entries c.decisions)))
      → IfOk answer (λ (r : LogRows). IsSomeAnd content (λ c. r.heuristics.items ≡ entries c.heuristics))
      → text ≡ of_rows rows.decisions.items rows.participants.items rows.heuristics.items
      → IsSomeAnd content (λ c. text ≡ of_log c)
  told of_rows same_text (Some c) (Ok answer) rows text is own decided waited ended spelled =
      let same : answer ≡ rows = cc in
      spelled ∙ ap (λ (r : LogRows). of_rows r.decisions.items r.participants.items r.heuristics.items) (sym same)
      ∙ same_text c answer.decisions.items answer.participants.items answer.heuristics.items (own c refl) decided waited ended
  told of_rows same_text None (Ok answer) rows text is own decided waited ended spelled = absurd decided
  told of_rows same_text content (Err fault) rows text is own decided waited ended spelled = absurd (cc)

  pub prints : (content : Option Content) (old new : Option (List ℕ)) (text : List ℕ) (written : Result (Unit {0}) RunFault)
      → IsSomeAnd content (λ c. text ≡ of_log c) → OnOk written (Appends old new text)
      → OnOk written (IsSomeAnd content (λ c. Appends old new (of_log c)))
  prints (Some c) old new text written is whole = on_ok_weaker written (λ appends. subst (Appends old new) is appends) whole
  prints None old new text written is whole = absurd is

  pub begins : (content : Option Content) (old new : Option (List ℕ)) (text : List ℕ) (written : Result (Unit {0}) RunFault)
      → IsSomeAnd content (λ c. text ≡ of_log c) → OnErr written (AppendsBeginning old new text)
      → IfErr written (λ e. e ≡ Output → IsSomeAnd content (λ c. AppendsBeginning old new (of_log c)))
  begins (Some c) old new text (Ok done) is begun = tt
  begins (Some c) old new text (Err e) is begun = λ _. subst (AppendsBeginning old new) is begun
  begins None old new text written is begun = absurd is
