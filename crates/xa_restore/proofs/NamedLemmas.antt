-- The lines behind those of the names.
use Rattle.std.proofs.Common.{◌≡◌, ◌∙◌, ℕ, ◌+◌, ◌-◌, ◌<◌, ◌≤◌, ◌⊎◌, List, [], ◌∷◌, ◌++◌, length, drop, Option, Some, None, unwrap_or, inl, inr, ap, refl, subst, sym, arith}
use Rattle.std.proofs.lemmas.List.{drop-map, drop_at, length-append, length-drop, length-map, take_all}
use Rattle.std.specs.Borrow.{Bor}
use Rattle.std.specs.Slice.{IsGetRangeResult}
use Rattle.xa_log.specs.declared.decision.Decision.{Decision}
use Rattle.xa_restore.specs.Headings.{IsHeadingOf, name_lines, rm_lines, rm_lines_from}
use Rattle.xa_restore.specs.LogLines.{AreLogLinesOf}
use Rattle.xa_restore.specs.Faults.{fault_behind}
use Rattle.xa_restore.specs.LogFaults.{IsLogFault}
use Rattle.xa_restore.specs.NamedLogs.{AreNamedLinesOf, IsFaultBehindNames}
use Rattle.xa_restore.specs.declared.faults.RestoreFault.{RestoreFault}
use Rattle.xa_restore.proofs.HeadingLemmas.{texts}

rm_lines_count : (number : ℕ) (rms : List (List ℕ)) → length (rm_lines_from number rms) ≡ length rms
rm_lines_count number [] = refl
rm_lines_count number (rm ∷ rms) = let more = rm_lines_count (number + 1) rms in omega (arith, more)

module _ (lines : List (Bor (List ℕ))) (name : List ℕ) (rms : List (Bor (List ℕ))) (is : IsHeadingOf name (texts rms) (texts lines)) where
  abbrev pub count : ℕ
  count = length (name_lines name) + length rms

  names_count : length (name_lines name ++ rm_lines (texts rms)) ≡ count
  names_count =
      let all = length-append (name_lines name) (rm_lines (texts rms)) in
      let rm_count = rm_lines_count 0 (texts rms) ∙ length-map rms (λ rm. rm.now) in
      omega (arith, all, rm_count)

  texts_left : texts (drop count lines) ≡ is.rest
  texts_left =
      sym (drop-map (λ line. line.now) count lines) ∙ ap (drop count) is.begins
      ∙ drop_at (name_lines name ++ rm_lines (texts rms)) is.rest count names_count

  named_lines : (n : ℕ) (ds : List Decision) → AreLogLinesOf name (texts (drop count lines)) n ds → AreNamedLinesOf name (texts rms) n ds (texts lines)
  named_lines n ds log = record {
    rest = is.rest;
    begins = is.begins;
    log = subst (λ rest. AreLogLinesOf name rest n ds) texts_left log;
  }

  names_fit : count ≤ length lines
  names_fit =
      let whole = sym (length-map lines (λ line. line.now)) ∙ ap length is.begins in
      let split = length-append (name_lines name ++ rm_lines (texts rms)) is.rest in
      let names = names_count in
      omega (arith, whole, split, names)

  no_rest : (length lines < count) ⊎ (length lines < length lines) → ⊥
  no_rest (inl short) = let fit = names_fit in omega (arith, short, fit)
  no_rest (inr short) = omega (arith, short)

  -- the lines from there on
  rest_got : (got : Option (Bor (List (Bor (List ℕ))))) (none : Bor (List (Bor (List ℕ)))) → IsGetRangeResult lines count (length lines) got
      → (unwrap_or got none).now ≡ drop count lines
  rest_got (Some rest) none is =
      let left = length-drop count lines in
      is.0.2 ∙ take_all (length lines - count) (drop count lines) (omega (arith, left))
  rest_got None none is = absurd (no_rest is.0)

  pub named_from : (got : Option (Bor (List (Bor (List ℕ))))) (none rest : Bor (List (Bor (List ℕ)))) → IsGetRangeResult lines count (length lines) got
      → rest ≡ unwrap_or got none → (n : ℕ) (ds : List Decision) → AreLogLinesOf name (texts rest.now) n ds
      → AreNamedLinesOf name (texts rms) n ds (texts lines)
  named_from got none rest is rest_is n ds log =
      named_lines n ds (subst (λ ls. AreLogLinesOf name (texts ls) n ds) (ap (λ (r : Bor (List (Bor (List ℕ)))). r.now) rest_is ∙ rest_got got none is) log)

  pub fault_from : (got : Option (Bor (List (Bor (List ℕ))))) (none rest : Bor (List (Bor (List ℕ)))) → IsGetRangeResult lines count (length lines) got
      → rest ≡ unwrap_or got none → (own fault : RestoreFault) → IsLogFault name (texts rest.now) own → fault ≡ fault_behind own count
      → IsFaultBehindNames (texts lines) fault
  fault_from got none rest from rest_is own fault wrong told = record {
    name = name;
    rms = texts rms;
    rest = is.rest;
    begins = is.begins;
    own = own;
    is = subst (λ ls. IsLogFault name ls own)
        (ap (λ (r : Bor (List (Bor (List ℕ)))). texts r.now) rest_is ∙ ap texts (rest_got got none from) ∙ texts_left) wrong;
    told = told ∙ ap (λ k. fault_behind own (length (name_lines name) + k)) (sym (length-map rms (λ rm. rm.now)));
  }
