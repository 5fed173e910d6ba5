-- The book of a start.
use Rattle.std.proofs.Common.{◌≡◌, ℕ, ◌<◌, ◌≤◌, ◌+◌, List, [], ◌∷◌, length, drop, get_or, Bool, true, false, ◌&&◌, Option, Some, None, refl, sym, ap, ◌∙◌, arith, map, ◌-◌, cond, IsSomeAnd, subst}
use Rattle.std.specs.Prelude.{if◌then◌else◌, ◌^◌}
use Rattle.std.specs.List.{list_all}
use Rattle.std.specs.List.Sorted.{IsStrictlySortedBy}
use Rattle.std.specs.FinMap.{find, entries, entries_sorted, get-entries, keys, len-entries}
use Rattle.std.proofs.lemmas.Bool.{and_parts, true≢false}
use Rattle.std.proofs.lemmas.List.{length-map, drop_more, drop_all}
use Rattle.std.specs.Option.{option_or}
use Rattle.std.proofs.Math.Bool.{and-false}
use Rattle.xa_base.specs.Branch.{gtrid_cmp, gtrid_eq, branch_eq, branch_cmp}
use Rattle.xa_base.specs.declared.branch.Branch.{Branch}
use Rattle.xa_base.specs.declared.branch.Gtrid.{Gtrid}
use Rattle.xa_base.specs.declared.code.How.{How}
use Rattle.xa_base.proofs.Orders.{branch_swap, gtrid_swap}
use Rattle.xa_log.specs.Content.{AreOwn, Content, all_listed, with_bump, last_number, unchanged}
use Rattle.xa_log.specs.Contract.{Makes}
use Rattle.xa_log.specs.KeySet.{KeySet, from_list, items}
use Rattle.xa_model.specs.Facts.{how_in}
use Rattle.xa_tm.specs.Book.{Book, Waiting, row_in}
use Rattle.xa_tm.specs.LedgerBook.{IsSound, numbered_by, as_book, no_branch, transaction_at}
use Rattle.xa_tm.specs.declared.ledger.Ledger.{Ledger}
use Rattle.xa_tm.specs.declared.notes.BranchNotes.{BranchNotes}
use Rattle.xa_tm.proofs.Maps.Transactions.{transaction_is}
use Rattle.xa_log.specs.Starting.{fits_before}
use Rattle.xa_tm.specs.Starting.{IsOld, StartsAreHistories, StartsHaveContent, ended_among, loaded, run_of, start_book, book_at_start}
use Rattle.xa_tm.specs.BookAndLog.{IsTied}
use Rattle.xa_tm.proofs.History.OneMore.{book_is}
use Rattle.xa_log.proofs.Rising.{risen}
use Rattle.xa_tm.proofs.History.LoadedRows.{loaded_old, ended_old, before_incarnation, fits_row, ended_is, OwnAll, own_all, items_again, loaded_is}

-- of three the first that is there
three : {X : Type 0} (x : Option X) (e : Bool) (w r : Option X) (v : X) → w ≡ Some v
    → option_or (option_or x (if e then w else None)) r ≡ option_or x (if e then w else r)
three (Some a) e w r v is = refl
three None true w r v is = ap (λ o. option_or o r) is ∙ sym is
three None false w r v is = refl

none_or : {X : Type 0} (x : Option X) → option_or None x ≡ x
none_or x = refl

-- one row more is loaded
pub row_more : (gs : List Gtrid) (i : ℕ) (g : Gtrid) (rest own later : List Branch) (old new : Gtrid → Option Waiting) (all : Gtrid → Option Waiting)
    → i < length gs → get_or gs i g ≡ g
    → own ≡ run_of g rest → later ≡ drop (length own) rest
    → ((q : Gtrid) → new q ≡ (if gtrid_eq g q then Some (from_list own) else old q))
    → ((q : Gtrid) → option_or (loaded (drop i gs) rest q) (old q) ≡ all q)
    → (q : Gtrid) → option_or (loaded (drop (i + 1) gs) later q) (new q) ≡ all q
row_more gs i g rest own later old new all low there run cut at before q =
    ap (option_or (loaded (drop (i + 1) gs) later q)) (at q)
    ∙ sym (three (loaded (drop (i + 1) gs) later q) (gtrid_eq g q) (Some (from_list own)) (old q) (from_list own) refl)
    ∙ (λ j. option_or (option_or (loaded (drop (i + 1) gs) (moved j) q) (if gtrid_eq g q then Some (from_list (run j)) else None)) (old q))
    ∙ sym (ap (λ xs. option_or (loaded xs rest q) (old q)) (drop_more gs i g low ∙ ap (λ x. x ∷ drop (i + 1) gs) there))
    ∙ before q
  where
    moved : later ≡ drop (length (run_of g rest)) rest
    moved = cut ∙ ap (λ xs. drop (length xs) rest) run

pub rows_end : (gs : List Gtrid) (i : ℕ) (rest : List Branch) (row all : Gtrid → Option Waiting) → length gs ≤ i
    → ((q : Gtrid) → option_or (loaded (drop i gs) rest q) (row q) ≡ all q) → (q : Gtrid) → row q ≡ all q
rows_end gs i rest row all high before q = sym (ap (λ xs. option_or (loaded xs rest q) (row q)) (drop_all i gs high)) ∙ before q

pub ends_end : (xs : List (Branch × How)) (i : ℕ) (old all : Branch → Option How) → length xs ≤ i
    → ((q : Branch) → option_or (ended_among (drop i xs) q) (old q) ≡ all q) → (q : Branch) → old q ≡ all q
ends_end xs i old all high before q = sym (ap (λ ys. option_or (ended_among ys q) (old q)) (drop_all i xs high)) ∙ before q

-- the book of a history's start
pub starts : StartsAreHistories
starts o c has = book_is _ _ refl refl refl has.incarnation refl refl refl (λ g. refl) (λ b. refl) refl (λ r. refl)
    has.rows has.row_number has.records has.record_number refl

-- ** an end is noted

module _ (ends : List (Branch × How)) (i : ℕ) (d : Branch × How) (old new : Branch → BranchNotes) (all : Branch → Option How)
    (at : (q : Branch) → new q ≡ (if branch_eq (get_or ends i d).0 q then record no_branch { recorded = Some (get_or ends i d).1 } else old q)) where
  recorded_new : (q : Branch) → (new q).recorded ≡ (if branch_eq (get_or ends i d).0 q then Some (get_or ends i d).1 else (old q).recorded)
  recorded_new q = ap (λ (n : BranchNotes). n.recorded) (at q) ∙ by (branch_eq (get_or ends i d).0 q)
    where
      by : (t : Bool) → (if t then record no_branch { recorded = Some (get_or ends i d).1 } else old q).recorded
          ≡ (if t then Some (get_or ends i d).1 else (old q).recorded)
      by true = refl
      by false = refl

  pub records_more : i < length ends
      → ((q : Branch) → option_or (ended_among (drop i ends) q) (old q).recorded ≡ all q)
      → (q : Branch) → option_or (ended_among (drop (i + 1) ends) q) (new q).recorded ≡ all q
  records_more low before q =
      ap (option_or (ended_among (drop (i + 1) ends) q)) (recorded_new q)
      ∙ sym (three (ended_among (drop (i + 1) ends) q) (branch_eq (get_or ends i d).0 q) (Some (get_or ends i d).1) (old q).recorded (get_or ends i d).1 refl)
      ∙ sym (ap (λ ys. option_or (ended_among ys q) (old q).recorded) (drop_more ends i d low))
      ∙ before q

  pub only_recorded : ((q : Branch) → old q ≡ record no_branch { recorded = (old q).recorded }) → (q : Branch)
      → new q ≡ record no_branch { recorded = (new q).recorded }
  only_recorded before q =
      at q ∙ by (branch_eq (get_or ends i d).0 q) (before q) ∙ ap (λ (n : BranchNotes). record no_branch { recorded = n.recorded }) (sym (at q))
    where
      by : (t : Bool) → old q ≡ record no_branch { recorded = (old q).recorded }
          → (if t then record no_branch { recorded = Some (get_or ends i d).1 } else old q)
          ≡ record no_branch { recorded = (if t then record no_branch { recorded = Some (get_or ends i d).1 } else old q).recorded }
      by true h = refl
      by false h = h

-- ** the incarnation is put in

none_numbered : (u : Bool) (i s : ℕ) (g : Gtrid) → s ≡ 0 → numbered_by u i s g ≡ false
none_numbered u i s g e = grind (arith, and-false)

pub in_incarnation : (l : Ledger) (i t r : ℕ) (row : Gtrid → Option Waiting) (rows : ℕ) (how : Branch → Option How) (records : ℕ)
    → as_book l ≡ start_book t r 0 row rows how records → as_book (record l { incarnation = i }) ≡ start_book t r i row rows how records
in_incarnation l i t r row rows how records e = book_is _ _
    (ap (λ (k : Book). k.threads) e) (ap (λ (k : Book). k.rms) e) (ap (λ (k : Book). k.up) e) refl (ap (λ (k : Book). k.sequence) e)
    (ap (λ (k : Book). k.begins) e) (ap (λ (k : Book). k.failed_restarts) e)
    (λ g. let none = none_numbered l.is_up i l.sequence g (ap (λ (k : Book). k.sequence) e) in
    transaction_is _ _ (ap (λ b. b && (transaction_at l.transactions g).is_begun) none)
    (ap (λ (k : Book). (k.transaction g).committed) e) (ap (λ (k : Book). (k.transaction g).rolled_back) e)
    (ap (λ (k : Book). (k.transaction g).handed_over) e)
    (ap (λ b. b && ((transaction_at l.transactions g).is_begun && (transaction_at l.transactions g).is_claimed)) none)
    (ap (λ (k : Book). (k.transaction g).has_yes) e) (ap (λ (k : Book). (k.transaction g).branches) e) (ap (λ (k : Book). (k.transaction g).unvoted) e)
    (ap (λ (k : Book). (k.transaction g).unsettled) e))
    (λ b. ap (λ (k : Book). k.notes b) e) (ap (λ (k : Book). k.known) e) (λ m. ap (λ (k : Book). k.page m) e)
    (λ g. ap (λ (k : Book). k.row g) e) (ap (λ (k : Book). k.rows) e) (λ b. ap (λ (k : Book). k.recorded b) e)
    (ap (λ (k : Book). k.records) e) (ap (λ (k : Book). k.doubt) e)

-- ** the whole

module _ (t r i : ℕ) (gs : List Gtrid) (bs : List Branch) (hs : List (Branch × How)) where
  abbrev read_book : Book
  read_book = start_book t r i (loaded gs bs) (length gs) (ended_among hs) (length hs)

  pub started_as : (c : Content) → i ≡ c.incarnation + 1 → gs ≡ keys c.decisions → bs ≡ all_listed (entries c.decisions) → hs ≡ entries c.heuristics → AreOwn c
      → start_book t r i (loaded gs bs) (length gs) (ended_among hs) (length hs) ≡ book_at_start t r (with_bump c)
  started_as c up rows parts ends own = book_is _ _ refl refl refl up refl refl refl (λ g. refl) (λ b. refl) refl (λ m. refl)
      (λ g. (λ j. loaded (rows j) (parts j) g) ∙ loaded_is (entries c.decisions) sorted all g ∙ sym (get-entries c.decisions g))
      (ap length rows ∙ length-map (entries c.decisions) (λ (e : Gtrid × KeySet branch_cmp). e.0) ∙ sym (len-entries c.decisions))
      (λ b. ap (λ xs. ended_among xs b) ends ∙ ended_is (entries c.heuristics)
      (risen branch_cmp (entries c.heuristics) (entries_sorted c.heuristics)) b ∙ sym (get-entries c.heuristics b))
      (ap length ends ∙ sym (len-entries c.heuristics)) refl
    where
      sorted : IsStrictlySortedBy gtrid_cmp (map (λ (e : Gtrid × KeySet branch_cmp). e.0) (entries c.decisions))
      sorted = risen gtrid_cmp (entries c.decisions) (entries_sorted c.decisions)

      all : OwnAll (entries c.decisions)
      all = own_all (entries c.decisions) sorted (λ g set b is has. own g set b (get-entries c.decisions g ∙ is) has)

  pub started_over : (old mid new : Option Content) → IsSomeAnd old (λ c. gs ≡ keys c.decisions)
      → IsSomeAnd old (λ c. bs ≡ all_listed (entries c.decisions)) → IsSomeAnd old (λ c. hs ≡ entries c.heuristics)
      → Makes unchanged old mid → Makes with_bump mid new → IsSomeAnd mid (λ c. i ≡ c.incarnation + 1) → ((c : Content) → old ≡ Some c → AreOwn c)
      → IsSomeAnd new (λ c. start_book t r i (loaded gs bs) (length gs) (ended_among hs) (length hs) ≡ book_at_start t r c)
  started_over None mid new rows parts ends kept made up own = absurd rows
  started_over (Some c) mid new rows parts ends kept made up own =
      subst (λ m. Makes with_bump m new → IsSomeAnd m (λ c. i ≡ c.incarnation + 1)
      → IsSomeAnd new (λ c. start_book t r i (loaded gs bs) (length gs) (ended_among hs) (length hs) ≡ book_at_start t r c)) (sym kept)
      (λ does next. subst (λ n. IsSomeAnd n (λ c. start_book t r i (loaded gs bs) (length gs) (ended_among hs) (length hs) ≡ book_at_start t r c))
      (sym does) (started_as c next rows parts ends (own c refl))) made up

  pub raised_over : (old mid new : Option Content) → Makes unchanged old mid → Makes with_bump mid new → Makes with_bump old new
  raised_over None mid new kept made = kept
  raised_over (Some c) mid new kept made = subst (λ m. Makes with_bump m new) kept made

  pub start_sound : length gs < 2 ^ 64 - 1 → length hs < 2 ^ 64 - 1 → i ≤ last_number → list_all (fits_before i) gs ≡ true
      → IsSound (start_book t r i (loaded gs bs) (length gs) (ended_among hs) (length hs))
  start_sound some few most fit = record {
    begins = omega arith;
    restarts = omega arith;
    rows = some;
    records = few;
    fits = most;
    fits_begins = omega arith;
    branches = λ g. omega arith;
    unvoted = λ g. omega arith;
    unsettled = λ g. omega arith;
    rows_fit = λ g h. fits_row i g (loaded_old i gs bs g fit h) most;
    no_row = λ g b c. absurd (true≢false (sym b));
  }

  pub start_old : (list_all (fits_before i) gs && list_all (λ (e : Branch × How). fits_before i e.0.gtrid) hs) ≡ true
      → IsOld (start_book t r i (loaded gs bs) (length gs) (ended_among hs) (length hs))
  start_old fit =
      let parts = and_parts _ _ fit in record {
        rows = λ g h. before_incarnation i g (loaded_old i gs bs g parts.0 h);
        records = λ b h. before_incarnation i b.gtrid (ended_old i hs b parts.1 h);
      }

pub start_tied : (near : Bool) (t r : ℕ) (k : Book) (new : Option Content) → IsSomeAnd new (λ c. k ≡ book_at_start t r c) → IsTied near k new
start_tied near t r k None is = absurd is
start_tied near t r k (Some c) is = subst (λ b. IsTied near b (Some c)) (sym is) (record {
  holds = record { rows = λ g. refl; row_number = refl; records = λ b. refl; record_number = refl };
  incarnation = refl;
})

-- ** a start with a log's rows

row_found : (es : List (Gtrid × KeySet branch_cmp)) (g : Gtrid)
    → row_in (map (λ (e : Gtrid × KeySet branch_cmp). record { gtrid = e.0; participants = items e.1 }) es) g ≡ find gtrid_cmp g es
row_found [] g = refl
row_found (e ∷ es) g =
    (λ i. if gtrid_eq e.0 g then Some (items_again e.1 i) else row_found es g i) ∙ by (gtrid_eq e.0 g)
    ∙ ap (λ t. cond t (Some e.1) (find gtrid_cmp g es)) (sym (gtrid_swap e.0 g))
  where
    by : (t : Bool) → (if t then Some e.1 else find gtrid_cmp g es) ≡ cond t (Some e.1) (find gtrid_cmp g es)
    by true = refl
    by false = refl

pub end_found : (es : List (Branch × How)) (b : Branch) → how_in (map (λ (e : Branch × How). record { branch = e.0; how = e.1 }) es) b ≡ find branch_cmp b es
end_found [] b = refl
end_found (e ∷ es) b =
    (λ i. if branch_eq e.0 b then Some e.1 else end_found es b i) ∙ by (branch_eq e.0 b)
    ∙ ap (λ t. cond t (Some e.1) (find branch_cmp b es)) (sym (branch_swap e.0 b))
  where
    by : (t : Bool) → (if t then Some e.1 else find branch_cmp b es) ≡ cond t (Some e.1) (find branch_cmp b es)
    by true = refl
    by false = refl

pub has_content : StartsHaveContent
has_content o c same rows ends = record {
  incarnation = same;
  rows = λ g. ap (λ xs. row_in xs g) rows ∙ row_found (entries c.decisions) g ∙ sym (get-entries c.decisions g);
  row_number =
      ap length rows ∙ length-map (entries c.decisions) (λ (e : Gtrid × KeySet branch_cmp). record { gtrid = e.0; participants = items e.1 })
      ∙ sym (len-entries c.decisions);
  records = λ b. ap (λ xs. how_in xs b) ends ∙ end_found (entries c.heuristics) b ∙ sym (get-entries c.heuristics b);
  record_number =
      ap length ends ∙ length-map (entries c.heuristics) (λ (e : Branch × How). record { branch = e.0; how = e.1 }) ∙ sym (len-entries c.heuristics);
}
