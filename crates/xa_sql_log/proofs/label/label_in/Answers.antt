use Rattle.std.proofs.Common.{◌≢◌, ◌∙◌, ◌++◌, ℕ, List, None, Some, ap, sym, subst, codes, IfNone}
use Rattle.std.proofs.lemmas.Bool.Decides.{Decides-eqb}
use Rattle.std.proofs.lemmas.Slice.Eq.{strip_prefix_is, strip_suffix_is}
use Rattle.xa_sql_log.proofs.LabelLemmas.{between, none_between}
use Rattle.xa_sql_log.specs.Labels.{labelled}
use Rattle.xa_sql_log.proofs.label.label_in.Goals as goal

pub returns-in_err-strip_prefix-clause-none : goal.returns-in_err-strip_prefix-clause-none
returns-in_err-strip_prefix-clause-none c =
    let never = strip_prefix_is Decides-eqb c.args.sql.now c.as_bytes.result.now None c.in_err-strip_prefix.ensures.cases in
    subst (λ r. IfNone r ((label : List ℕ) → c.args.sql.now ≢ labelled label)) (sym c.from_residual.ensures)
    (λ label is. never (label ++ codes " */)") (is ∙ ap (λ (t : List ℕ). t ++ (label ++ codes " */)")) (sym c.as_bytes.ensures.value)))

pub returns-clause-found : goal.returns-clause-found
returns-clause-found c =
    let begins = strip_prefix_is Decides-eqb c.args.sql.now c.as_bytes.result.now (Some c.in_ok-strip_prefix.field-0) c.in_ok-strip_prefix.ensures.cases in
    let ends = strip_suffix_is Decides-eqb c.in_ok-strip_prefix.field-0.now c.as_bytes-2.result.now c.strip_suffix.result c.strip_suffix.ensures.cases in
    rw (c.as_bytes.ensures.value, c.as_bytes-2.ensures.value) at
    (between c.args.sql.now c.as_bytes.result.now c.in_ok-strip_prefix.field-0.now c.as_bytes-2.result.now begins c.strip_suffix.result ends)

pub returns-clause-none : goal.returns-clause-none
returns-clause-none c =
    let begins = strip_prefix_is Decides-eqb c.args.sql.now c.as_bytes.result.now (Some c.in_ok-strip_prefix.field-0) c.in_ok-strip_prefix.ensures.cases in
    let ends = strip_suffix_is Decides-eqb c.in_ok-strip_prefix.field-0.now c.as_bytes-2.result.now c.strip_suffix.result c.strip_suffix.ensures.cases in
    rw (c.as_bytes.ensures.value, c.as_bytes-2.ensures.value) at
    (none_between c.args.sql.now c.as_bytes.result.now c.in_ok-strip_prefix.field-0.now c.as_bytes-2.result.now begins c.strip_suffix.result ends)
