use Rattle.std.proofs.Common.{◌≡◌, subst, sym, Ok, Err, Result, IfErr, inl}
use Rattle.std.proofs.lemmas.Result.{err_from_is_err_and}
use Rattle.xa_commands.proofs.service.serve_named.Goals as goal

if_err : {A E : Type 0} (r : Result A E) (P Q : E → Type 0) → ((e : E) → P e → Q e) → IfErr r P → IfErr r Q
if_err (Ok x) P Q gives h = tt
if_err (Err e) P Q gives h = gives e h

err_is : {A E : Type 0} (r : Result A E) (e : E) (P : E → Type 0) → r ≡ Err e → P e → IfErr r P
err_is r e P is h = subst (λ r. IfErr r P) (sym is) h

pub returns-in_err-introduce-clause-broken : goal.returns-in_err-introduce-clause-broken
returns-in_err-introduce-clause-broken g c = λ asked.
    let p = err_from_is_err_and c.from_residual.result c.from_residual.ensures.1 in
    err_is c.from_residual.result p.0 _ p.1 (inl c.in_err-introduce.ensures.begun)
