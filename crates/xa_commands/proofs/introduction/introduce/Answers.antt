use Rattle.std.proofs.Common.{◌∙◌, ℕ, List, [], Option, refl, subst}
use Rattle.std.proofs.KnownBytes.{Appends-nil}
use Rattle.std.proofs.lemmas.Result.{err_from_is_err_and}
use Rattle.std.specs.Io.KnownBytes.{Appends}
use Rattle.xa_files.specs.Outputs.{AppendsBeginning}
use Rattle.xa_commands.proofs.introduction.introduce.Goals as goal

nothing_begun : (old : Option (List ℕ)) (bs : List ℕ) → AppendsBeginning old old bs
nothing_begun old bs = (bs, record { written = []; whole = refl; appends = Appends-nil old })

pub returns-in_err-text-clause-begun : goal.returns-in_err-text-clause-begun
returns-in_err-text-clause-begun g c =
    let p = err_from_is_err_and c.from_residual.result c.from_residual.ensures.1 in
    rw p.1 (nothing_begun _ _)

pub returns-in_err-write_text-clause-begun : goal.returns-in_err-write_text-clause-begun
returns-in_err-write_text-clause-begun g c =
    let p = err_from_is_err_and c.from_residual-in_err-write_text.result c.from_residual-in_err-write_text.ensures.1 in
    let contents = g.W.Write.contents in
    rw p.1 (subst (AppendsBeginning (contents c.args.out.now) (contents c.write_text.new.out)) (c.as_bytes.ensures.value ∙ c.in_ok-text.ensures)
    c.in_err-write_text.ensures.begun)

pub returns-clause-told : goal.returns-clause-told
returns-clause-told g c =
    let contents = g.W.Write.contents in
    subst (Appends (contents c.args.out.now) (contents c.write_text.new.out)) (c.as_bytes.ensures.value ∙ c.in_ok-text.ensures)
    c.in_ok-write_text.ensures.whole
