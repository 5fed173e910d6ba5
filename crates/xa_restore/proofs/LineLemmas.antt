-- The lines of a log behind its names: the first, those of the decisions, and the last.
use Rattle.std.proofs.Common.{◌≡◌, ℕ, ◌+◌, ◌-◌, ◌<◌, ◌≤◌, inl, inr, zero, List, [], ◌∷◌, ◌++◌, length, map, take, drop, get_or, suc, ap, refl, subst, sym, ◌∙◌, arith}
use Rattle.std.specs.Borrow.{Bor}
use Rattle.std.specs.Option.{option_map}
use Rattle.std.specs.List.{AllByRecursion}
use Rattle.std.specs.Prelude.{codes, ◌⊎◌, Option, Some, None, IfSome, IsSomeAnd, slice_get}
use Rattle.std.proofs.lemmas.List.{map-append, take-map, take_all, take_more}
use Rattle.std.proofs.lemmas.List.Elements.{All-from_recursion}
use Rattle.xa_log.specs.declared.decision.Decision.{Decision}
use Rattle.xa_names.specs.Lines.{line_renamed}
use Rattle.xa_base.specs.declared.branch.Branch.{Branch}
use Rattle.xa_base.specs.declared.branch.Gtrid.{Gtrid}
use Rattle.xa_restore.specs.LogLines.{AreLogLinesOf, AreRowsOf, IsRow, Rise, RiseBehind, StandsBehind, decision_row_line, incarnation_line, last_behind, stated}
use Rattle.xa_restore.specs.LogFaults.{IsFirstWrong, IsLogFault, IsNoIncarnation, IsRowFault, IsWrongRow, LacksEnd}
use Rattle.xa_restore.specs.declared.faults.LineFault.{LineFault}
use Rattle.xa_restore.specs.declared.faults.LineFault.TheVariants as Faults
use Rattle.xa_restore.specs.declared.faults.RestoreFault.{RestoreFault}
use Rattle.xa_restore.specs.declared.faults.RestoreFault.TheVariants.{Line, Memory}
use Rattle.xa_restore.proofs.DecisionLemmas.{as_many, at_place}
use Rattle.xa_restore.proofs.HeadingLemmas.{texts}

map_texts : (f : List ℕ → List ℕ) (lines : List (Bor (List ℕ))) → map f (texts lines) ≡ map (λ line. f line.now) lines
map_texts f [] = refl
map_texts f (line ∷ lines) = ap (λ rest. f line.now ∷ rest) (map_texts f lines)

-- lines, but for the last, and that
but_the_last : (lines : List (Bor (List ℕ))) (d : Bor (List ℕ)) → 0 < length lines
    → lines ≡ take (length lines - 1) lines ++ get_or lines (length lines - 1) d ∷ []
but_the_last lines d some =
    let short : length lines - 1 < length lines = omega arith in
    sym (take_all ((length lines - 1) + 1) lines (omega arith)) ∙ take_more lines (length lines - 1) d short

-- the lines behind the first
module _ (line : Bor (List ℕ)) (lines : List (Bor (List ℕ))) (d e : Bor (List ℕ)) (name : List ℕ) (n : ℕ) (decisions : List Decision) where
  whole_is : 0 < length lines → line.now ≡ incarnation_line n → (get_or lines (length lines - 1) e).now ≡ codes "end"
      → texts (line ∷ lines) ≡ incarnation_line n ∷ texts (take (length lines - 1) lines) ++ codes "end" ∷ []
  whole_is some first last =
      ap (λ l. l ∷ texts lines) first
      ∙ ap (λ ls. incarnation_line n ∷ ls) (ap texts (but_the_last lines e some)
      ∙ map-append (λ line. line.now) (take (length lines - 1) lines) (get_or lines (length lines - 1) e ∷ [])
      ∙ ap (λ l. texts (take (length lines - 1) lines) ++ l ∷ []) last)

pub lines_are : (lines : List (Bor (List ℕ))) (d e : Bor (List ℕ)) (name : List ℕ) (n : ℕ) (decisions : List Decision) → 1 < length lines
    → (get_or lines 0 d).now ≡ incarnation_line n → (get_or lines (length lines - 1) e).now ≡ codes "end"
    → map (λ line. line_renamed name line.now) (take ((length lines - 1) - 1) (drop 1 lines)) ≡ map decision_row_line decisions
    → AreLogLinesOf name (texts lines) n decisions
lines_are [] d e name n decisions some first last meant = absurd (omega arith)
lines_are (line ∷ lines) d e name n decisions some first last meant =
    let more : 0 < length lines = omega arith in
    let last_place : length (line ∷ lines) - 1 ≡ suc (length lines - 1) = omega arith in
    let rows_count : (length (line ∷ lines) - 1) - 1 ≡ length lines - 1 = omega arith in
    let LastIs : ℕ → Type 0 = λ i. (get_or (line ∷ lines) i e).now ≡ codes "end" in
    let HaveMeant : ℕ → Type 0 = λ i. map (λ line. line_renamed name line.now) (take i lines) ≡ map decision_row_line decisions in
    record {
      rows = texts (take (length lines - 1) lines);
      whole = whole_is line lines d e name n decisions more first (subst LastIs last_place last);
      meant = map_texts (line_renamed name) (take (length lines - 1) lines) ∙ subst HaveMeant rows_count meant;
    }

-- and if they are those of a log, what stands in which of them
ends_in : (lines : List (Bor (List ℕ))) (rows : List (List ℕ)) (text : List ℕ) → texts lines ≡ rows ++ text ∷ []
    → (0 < length lines) × ((e : Bor (List ℕ)) → (get_or lines (length lines - 1) e).now ≡ text) × (texts (take (length lines - 1) lines) ≡ rows)
ends_in [] [] text is = absurd (cc)
ends_in [] (row ∷ rows) text is = absurd (cc)
ends_in (line ∷ []) [] text is = let same : line.now ≡ text = cc in (omega arith, (λ e. same), refl)
ends_in (line ∷ other ∷ lines) [] text is = absurd (cc)
ends_in (line ∷ lines) (row ∷ rows) text is =
    let first : line.now ≡ row = cc in
    let others : texts lines ≡ rows ++ text ∷ [] = cc in
    let there = ends_in lines rows text others in
    let some : 0 < length lines = there.0 in
    let place : suc (length lines - 1) ≡ length (line ∷ lines) - 1 = omega arith in
    let LastIs : ℕ → Type 0 = λ i. (e : Bor (List ℕ)) → (get_or (line ∷ lines) i e).now ≡ text in
    let RowsAre : ℕ → Type 0 = λ i. texts (take i (line ∷ lines)) ≡ row ∷ rows in
    (omega arith, subst LastIs place there.1, subst RowsAre place (ap (λ l. l ∷ texts (take (length lines - 1) lines)) first ∙ ap (λ ls. row ∷ ls) there.2))

pub record Stand (lines : List (Bor (List ℕ))) (name : List ℕ) (n : ℕ) (decisions : List Decision) : Type 0 where
  pub some : 1 < length lines
  pub first : (d : Bor (List ℕ)) → (get_or lines 0 d).now ≡ incarnation_line n
  pub last : (e : Bor (List ℕ)) → (get_or lines (length lines - 1) e).now ≡ codes "end"
  pub rows : map (λ line. line_renamed name line.now) (take ((length lines - 1) - 1) (drop 1 lines)) ≡ map decision_row_line decisions

pub stand : (lines : List (Bor (List ℕ))) (name : List ℕ) (n : ℕ) (decisions : List Decision) → AreLogLinesOf name (texts lines) n decisions
    → Stand lines name n decisions
stand [] name n decisions are = let never = are.whole in absurd (cc)
stand (line ∷ lines) name n decisions are =
    let whole = are.whole in
    let first : line.now ≡ incarnation_line n = cc in
    let others : texts lines ≡ are.rows ++ codes "end" ∷ [] = cc in
    let there = ends_in lines are.rows (codes "end") others in
    let some : 0 < length lines = there.0 in
    let place : suc (length lines - 1) ≡ length (line ∷ lines) - 1 = omega arith in
    let count : length lines - 1 ≡ (length (line ∷ lines) - 1) - 1 = omega arith in
    let LastIs : ℕ → Type 0 = λ i. (e : Bor (List ℕ)) → (get_or (line ∷ lines) i e).now ≡ codes "end" in
    let AreMeant : ℕ → Type 0 = λ i. map (λ line. line_renamed name line.now) (take i lines) ≡ map decision_row_line decisions in
    record {
      some = omega arith;
      first = λ d. first;
      last = subst LastIs place there.1;
      rows = subst AreMeant count (sym (map_texts (line_renamed name) (take (length lines - 1) lines)) ∙ ap (map (line_renamed name)) there.2 ∙ are.meant);
    }

-- ** decisions whose transactions rise

last_more : (last : Option Gtrid) (d : Decision) (ds : List Decision)
    → option_map (λ e. e.gtrid) (slice_get (d ∷ ds) (length ds)) ≡ last_behind last (d ∷ ds)
last_more last d [] = refl
last_more last d (e ∷ ds) = last_more (Some d.gtrid) e ds

pub last_is : (ds : List Decision) → option_map (λ d. d.gtrid) (slice_get ds (length ds - 1)) ≡ last_behind None ds
last_is [] = refl
last_is (d ∷ ds) =
    let place : length ds ≡ length (d ∷ ds) - 1 = omega arith in
    subst (λ i. option_map (λ e. e.gtrid) (slice_get (d ∷ ds) i) ≡ last_behind None (d ∷ ds)) place (last_more None d ds)

rise_on : (last : Option Gtrid) (ds : List Decision) (d : Decision) → RiseBehind last ds → StandsBehind (last_behind last ds) d.gtrid
    → RiseBehind last (ds ++ d ∷ [])
rise_on last [] d up behind = (behind, tt)
rise_on last (e ∷ ds) d up behind = (up.0, rise_on (Some e.gtrid) ds d up.1 behind)

-- one more, behind the last
pub rise_more : (ds more : List Decision) (d : Decision) (last : Option Gtrid) → Rise ds → last ≡ last_behind None ds → StandsBehind last d.gtrid
    → more ≡ ds ++ d ∷ [] → Rise more
rise_more ds more d last up last_is behind is =
    subst Rise (sym is) (rise_on None ds d up (subst (λ l. StandsBehind l d.gtrid) last_is behind))

-- ** the decision that a line is to state

last_stated : Option Gtrid → List (Gtrid × List Branch) → Option Gtrid
last_stated last [] = last
last_stated last (s ∷ ss) = last_stated (Some s.0) ss

last_by : (last : Option Gtrid) (ds : List Decision) → last_stated last (map stated ds) ≡ last_behind last ds
unfolding last_stated
last_by last [] = refl
last_by last (d ∷ ds) = last_by (Some d.gtrid) ds

same_last : (ds es : List Decision) → map stated ds ≡ map stated es → last_behind None es ≡ last_behind None ds
same_last ds es same = sym (last_by None es) ∙ ap (last_stated None) (sym same) ∙ last_by None ds

rise_at : (last : Option Gtrid) (ds : List Decision) (i : ℕ) (d : Decision) → RiseBehind last ds → i < length ds
    → StandsBehind (last_behind last (take i ds)) (get_or ds i d).gtrid
rise_at last [] i d up short = absurd (omega arith)
rise_at last (e ∷ ds) zero d up short = up.0
rise_at last (e ∷ ds) (suc i) d up short = rise_at (Some e.gtrid) ds i d up.1 (omega arith)

-- a line states this decision, behind those that the earlier lines stated
pub record IsNextRow (n : ℕ) (ds earlier : List Decision) (i : ℕ) (line : List ℕ) : Type 0 where
  pub row : Decision
  pub is : IsRow row
  pub started : row.gtrid.incarnation ≤ n
  pub behind : StandsBehind (last_behind None earlier) row.gtrid
  pub line_is : line ≡ decision_row_line row
  pub more : take (i + 1) (map stated ds) ≡ take i (map stated ds) ++ stated row ∷ []

pub next_row : {X : Type 0} (f : X → List ℕ) (n : ℕ) (lines : List X) (ds earlier : List Decision) (i : ℕ) (line : X) → AreRowsOf n ds
    → map f lines ≡ map decision_row_line ds → map stated earlier ≡ take i (map stated ds) → i < length lines
    → IsNextRow n ds earlier i (f (get_or lines i line))
next_row f n lines [] earlier i line rows same got short = let many = as_many f decision_row_line lines [] same in absurd (omega arith)
next_row f n lines (d ∷ ds) earlier i line rows same got short =
    let all = d ∷ ds in
    let here = at_place f decision_row_line lines all i line d same short in
    let Behind : Option Gtrid → Type 0 = λ last. StandsBehind last (get_or all i d).gtrid in
    record {
      row = get_or all i d;
      is = All-from_recursion IsRow all rows.rows i d here.0;
      started = All-from_recursion (λ (e : Decision). e.gtrid.incarnation ≤ n) all rows.started i d here.0;
      behind = subst Behind (same_last earlier (take i all) (got ∙ take-map stated i all)) (rise_at None all i d rows.rise here.0);
      line_is = here.1;
      more = take-map stated (i + 1) all ∙ ap (map stated) (take_more all i d here.0) ∙ map-append stated (take i all) (get_or all i d ∷ [])
          ∙ ap (λ ss. ss ++ stated (get_or all i d) ∷ []) (sym (take-map stated i all));
    }

pub no_fault : (found : Option LineFault) (fault : LineFault) (row : Decision) (g : Gtrid) (last : Option Gtrid) (n : ℕ) → found ≡ Some fault
    → row.gtrid ≡ g → IfSome found (λ f. (f ≡ Faults.Later) ⊎ (f ≡ Faults.Order)) → (found ≡ Some Faults.Later → n < g.incarnation)
    → (found ≡ Some Faults.Order → ¬ StandsBehind last g) → row.gtrid.incarnation ≤ n → StandsBehind last row.gtrid → ⊥
no_fault found fault row g last n is same kind later order started behind =
    let either = rw is at kind in
    elim either [
      | inl e ↦ let over = later (is ∙ ap Some e) in let at = ap (λ (h : Gtrid). h.incarnation) same in omega arith
      | inr e ↦ order (is ∙ ap Some e) (subst (StandsBehind last) same behind)
    ]

pub rows_more : (ds earlier more : List Decision) (i : ℕ) (line : List ℕ) (n : ℕ) (d : Decision) (next : IsNextRow n ds earlier i line)
    → map stated earlier ≡ take i (map stated ds) → stated d ≡ stated next.row → more ≡ earlier ++ d ∷ [] → map stated more ≡ take (i + 1) (map stated ds)
rows_more ds earlier more i line n d next got same pushed =
    ap (map stated) pushed ∙ map-append stated earlier (d ∷ []) ∙ ap (λ ss. ss ++ stated d ∷ []) got ∙ ap (λ s. take i (map stated ds) ++ s ∷ []) same
    ∙ sym next.more

-- ** the first line that is wrong

text_at : (lines : List (Bor (List ℕ))) (i : ℕ) (line : Bor (List ℕ)) → i < length lines
    → slice_get (texts lines) i ≡ Some (get_or lines i line).now
text_at [] i line short = absurd (omega arith)
text_at (l ∷ lines) zero line short = refl
text_at (l ∷ lines) (suc i) line short = text_at lines i line (omega arith)

pub first_wrong : (name : List ℕ) (n : ℕ) (lines : List (Bor (List ℕ))) (before : List Decision) (i : ℕ) (line : Bor (List ℕ)) (fault : LineFault)
    → map (λ line. line_renamed name line.now) (take i lines) ≡ map decision_row_line before
    → AllByRecursion (λ d. d.gtrid.incarnation ≤ n) before → Rise before → i < length lines
    → IsWrongRow name n fault before (get_or lines i line).now → IsRowFault name n (texts lines) (Line (i + 2) fault)
first_wrong name n lines before i line fault right started rise short wrong =
    let place : i ≡ (i + 2) - 2 = omega arith in
    let RightTo : ℕ → Type 0 = λ at. map (line_renamed name) (take at (texts lines)) ≡ map decision_row_line before in
    let WrongAt : ℕ → Type 0 = λ at. IsSomeAnd (slice_get (texts lines) at) (IsWrongRow name n fault before) in
    let texts_right = ap (map (line_renamed name)) (take-map (λ (l : Bor (List ℕ)). l.now) i lines) ∙ map_texts (line_renamed name) (take i lines) ∙ right in (
      omega arith,
      record {
        before = before;
        right = subst RightTo place texts_right;
        started = started;
        rise = rise;
        wrong = subst WrongAt place (subst (λ found. IsSomeAnd found (IsWrongRow name n fault before)) (sym (text_at lines i line short)) wrong);
      },
    )

-- and how it is wrong, if it is a decision's
pub wrong_row : (name : List ℕ) (n : ℕ) (before : List Decision) (line : List ℕ) (d : Decision) (found : Option LineFault) (fault : LineFault)
    (last : Option Gtrid) → line_renamed name line ≡ decision_row_line d → found ≡ Some fault
    → IfSome found (λ f. (f ≡ Faults.Later) ⊎ (f ≡ Faults.Order)) → (found ≡ Some Faults.Later → n < d.gtrid.incarnation)
    → (found ≡ Some Faults.Order → ¬ StandsBehind last d.gtrid) → last ≡ last_behind None before → IsWrongRow name n fault before line
wrong_row name n before line d found fault last is found_is kind later order last_is =
    let Wrong : LineFault → Type 0 = λ f. IsWrongRow name n f before line in
    let either = rw found_is at kind in
    elim either [
      | inl e ↦ subst Wrong (sym e) (d, is, later (found_is ∙ ap Some e))
      | inr e ↦ subst Wrong (sym e) (d, is, subst (λ l. ¬ StandsBehind l d.gtrid) last_is (order (found_is ∙ ap Some e)))
    ]

-- a place among the first of some lines is the same place among all of them
at_front : (P : List ℕ → Type 0) (k : ℕ) (rows : List (List ℕ)) (i : ℕ) → IsSomeAnd (slice_get (take k rows) i) P
    → IsSomeAnd (slice_get rows i) P × (take i (take k rows) ≡ take i rows)
at_front P zero [] i some = absurd some
at_front P zero (row ∷ rows) i some = absurd some
at_front P (suc k) [] i some = absurd some
at_front P (suc k) (row ∷ rows) zero some = (some, refl)
at_front P (suc k) (row ∷ rows) (suc i) some = let there = at_front P k rows i some in (there.0, ap (λ rest. row ∷ rest) there.1)

wrong_in_all : (name : List ℕ) (n k : ℕ) (rows : List (List ℕ)) (i : ℕ) (fault : LineFault) → IsFirstWrong name n (take k rows) i fault
    → IsFirstWrong name n rows i fault
wrong_in_all name n k rows i fault is =
    let there = at_front (IsWrongRow name n fault is.before) k rows i is.wrong in
    record {
      before = is.before;
      right = ap (map (line_renamed name)) (sym there.1) ∙ is.right;
      started = is.started;
      rise = is.rise;
      wrong = there.0;
    }

never_wrong : (found : Option (List ℕ)) → IsSomeAnd found (λ line. ⊥) → ⊥
never_wrong None some = some
never_wrong (Some line) some = some

-- the fault of a log's rows is one of the log
rows_fault : (name : List ℕ) (n k : ℕ) (all : List (List ℕ)) (fault : RestoreFault) → slice_get all 0 ≡ Some (incarnation_line n)
    → IsRowFault name n (take k (drop 1 all)) fault → IsLogFault name all fault
rows_fault name n k all Memory first is = tt
rows_fault name n k all (Line number Faults.Name) first is = absurd (never_wrong _ is.1.wrong)
rows_fault name n k all (Line number Faults.Rm) first is = absurd (never_wrong _ is.1.wrong)
rows_fault name n k all (Line number Faults.Incarnation) first is = absurd (never_wrong _ is.1.wrong)
rows_fault name n k all (Line number Faults.Decision) first is = (n, first, (is.0, wrong_in_all name n k (drop 1 all) (number - 2) Faults.Decision is.1))
rows_fault name n k all (Line number Faults.Order) first is = (n, first, (is.0, wrong_in_all name n k (drop 1 all) (number - 2) Faults.Order is.1))
rows_fault name n k all (Line number Faults.Later) first is = (n, first, (is.0, wrong_in_all name n k (drop 1 all) (number - 2) Faults.Later is.1))
rows_fault name n k all (Line number Faults.End) first is = absurd (never_wrong _ is.1.wrong)

rows_texts : (k : ℕ) (lines : List (Bor (List ℕ))) → texts (take k (drop 1 lines)) ≡ take k (drop 1 (texts lines))
rows_texts k [] = sym (take-map (λ (l : Bor (List ℕ)). l.now) k [])
rows_texts k (line ∷ lines) = sym (take-map (λ (l : Bor (List ℕ)). l.now) k lines)

pub log_fault : (name : List ℕ) (n k : ℕ) (lines : List (Bor (List ℕ))) (first : Bor (List ℕ)) (fault : RestoreFault) → 0 < length lines
    → (get_or lines 0 first).now ≡ incarnation_line n → IsRowFault name n (texts (take k (drop 1 lines))) fault → IsLogFault name (texts lines) fault
log_fault name n k lines first fault some is wrong =
    rows_fault name n k (texts lines) fault (text_at lines 0 first some ∙ ap Some is)
    (subst (λ rows. IsRowFault name n rows fault) (rows_texts k lines) wrong)

pub no_incarnation : (name : List ℕ) (lines : List (Bor (List ℕ))) (first : Bor (List ℕ)) → 0 < length lines
    → IsNoIncarnation (get_or lines 0 first).now → IsLogFault name (texts lines) (Line 1 Faults.Incarnation)
no_incarnation name lines first some is = (refl, subst (λ found. IsSomeAnd found IsNoIncarnation) (sym (text_at lines 0 first some)) is)

-- where `end` is the last line, there are two lines at least, and that is the last of them
pub end_is : (lines : List (Bor (List ℕ))) (first : List ℕ) (rows : List (List ℕ)) → texts lines ≡ first ∷ rows ++ codes "end" ∷ []
    → (1 < length lines) × ((e : Bor (List ℕ)) → (get_or lines (length lines - 1) e).now ≡ codes "end")
end_is [] first rows is = absurd (cc)
end_is (line ∷ lines) first rows is =
    let others : texts lines ≡ rows ++ codes "end" ∷ [] = cc in
    let there = ends_in lines rows (codes "end") others in
    let some : 0 < length lines = there.0 in
    let place : suc (length lines - 1) ≡ length (line ∷ lines) - 1 = omega arith in
    let LastIs : ℕ → Type 0 = λ i. (e : Bor (List ℕ)) → (get_or (line ∷ lines) i e).now ≡ codes "end" in
    (omega arith, subst LastIs place there.1)
