use Rattle.std.proofs.Common.{◌≡◌, ◌∙◌, ℕ, ◌≤◌, ◌<◌, ◌^◌, List, ap, sym, subst, arith, drop}
use Rattle.std.proofs.lemmas.Bool.{true≢false}
use Rattle.std.proofs.lemmas.Fmt.{parse-decimal}
use Rattle.std.specs.Borrow.{Bor}
use Rattle.std.specs.Fmt.{decimal}
use Rattle.std.specs.Option.{MatchOption}
use Rattle.std.specs.Prelude.{codes, Option, Some, None, Result, Ok, is_ok, unwrap_or}
use Rattle.std.specs.Result.{result_ok}
use Rattle.std.specs.Str.Parse.{ParsesUnsigned}
use Rattle.std.specs.Str.Pattern.{FindsTextPrefix, StripsPrefix}
use Rattle.xa_restore.specs.LogLines.{incarnation_line}
use Rattle.xa_restore.specs.declared.log_lines.TheConstants.{MOST_STARTS}
use Rattle.xa_restore.proofs.log_lines.read_incarnation.Goals as goal

abbrev before_number : List ℕ
before_number = codes "incarnation "

-- what stands behind the word of an incarnation's line
abbrev IsStripped : Option (Bor (List ℕ)) → ℕ → Type 0
IsStripped r n = MatchOption r ⊥ (λ x. x.now ≡ decimal n)

stripped : (r : Option (Bor (List ℕ))) (line : List ℕ) (n : ℕ)
    → MatchOption r (FindsTextPrefix before_number line None) (λ x. StripsPrefix (FindsTextPrefix before_number) line x.now)
    → line ≡ incarnation_line n → IsStripped r n
stripped None line n lacks is = lacks (decimal n) is
stripped (Some x) line n (k, finds, rest, more) is = rest ∙ ap (λ j. drop j line) finds.0 ∙ ap (drop 12) is

small : (n : ℕ) → n ≤ 1000000 → n < 2 ^ 64
small n few = omega arith

parsed : {E : Type 0} (word : List ℕ) (r : Result ℕ E) (n : ℕ) → n ≤ MOST_STARTS → word ≡ decimal n → ParsesUnsigned 64 10 word r → r ≡ Ok n
parsed word r n few is reads = parse-decimal 64 n word r (small n few) (small n few) is reads

same_number : {E : Type 0} (r : Result ℕ E) (m n : ℕ) → r ≡ Ok m → r ≡ Ok n → m ≡ n
same_number r m n one other = ap (λ s. unwrap_or (result_ok s) m) (sym one ∙ other)

pub returns-in_default-clause-found : goal.returns-in_default-clause-found
returns-in_default-clause-found c = λ n few is.
    let h = stripped c.strip_prefix.result c.args.line.now n c.strip_prefix.ensures.cases is in
    let none : IsStripped None n = subst (λ r. IsStripped r n) c.in_default.is h in absurd none

pub returns-in_default-parse-clause-found : goal.returns-in_default-parse-clause-found
returns-in_default-parse-clause-found c = λ n few is.
    let h = stripped c.strip_prefix.result c.args.line.now n c.strip_prefix.ensures.cases is in
    let word : IsStripped (Some c.in-Some.word) n = subst (λ r. IsStripped r n) c.in-Some.is h in
    let read = parsed c.in-Some.word.now c.parse.result n few word c.parse.ensures.value.0 in
    absurd (true≢false (ap is_ok (sym read ∙ c.in_default-parse.is)))

pub returns-then-incarnation-gt-MOST_STARTS-clause-found :
    goal.returns-then-incarnation-gt-MOST_STARTS-clause-found
returns-then-incarnation-gt-MOST_STARTS-clause-found c = λ n few is.
    let h = stripped c.strip_prefix.result c.args.line.now n c.strip_prefix.ensures.cases is in
    let word : IsStripped (Some c.in-Some.word) n = subst (λ r. IsStripped r n) c.in-Some.is h in
    let read = parsed c.in-Some.word.now c.parse.result n few word c.parse.ensures.value.0 in
    let same : c.in-Ok.incarnation ≡ n = same_number c.parse.result c.in-Ok.incarnation n c.in-Ok.is read in
    let over : MOST_STARTS < c.in-Ok.incarnation = c.if-incarnation-gt-MOST_STARTS.true in
    absurd (omega arith)

pub returns-then-is_written-clause-found : goal.returns-then-is_written-clause-found
returns-then-is_written-clause-found c = λ n few is.
    let h = stripped c.strip_prefix.result c.args.line.now n c.strip_prefix.ensures.cases is in
    let word : IsStripped (Some c.in-Some.word) n = subst (λ r. IsStripped r n) c.in-Some.is h in
    let read = parsed c.in-Some.word.now c.parse.result n few word c.parse.ensures.value.0 in
    ap Some (same_number c.parse.result c.in-Ok.incarnation n c.in-Ok.is read)

pub returns-clause-found : goal.returns-clause-found
returns-clause-found c = λ n few is.
    let h = stripped c.strip_prefix.result c.args.line.now n c.strip_prefix.ensures.cases is in
    let word : IsStripped (Some c.in-Some.word) n = subst (λ r. IsStripped r n) c.in-Some.is h in
    let read = parsed c.in-Some.word.now c.parse.result n few word c.parse.ensures.value.0 in
    let same : c.in-Ok.incarnation ≡ n = same_number c.parse.result c.in-Ok.incarnation n c.in-Ok.is read in
    let yes = c.is_written.ensures.1 (is ∙ ap incarnation_line (sym same) ∙ sym c.in_ok-written.ensures.ok) in
    absurd (true≢false (sym yes ∙ c.if-is_written.false))
