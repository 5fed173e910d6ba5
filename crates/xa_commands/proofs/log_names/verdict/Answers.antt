use Rattle.std.proofs.Common.{◌∙◌, ap, Ok, Err, Result, OnOk}
use Rattle.xa_commands.proofs.NameLemmas.{may_not, may_open, texts_of}
use Rattle.xa_commands.proofs.log_names.verdict.Goals as goal

both_on : {A E : Type 0} (r : Result A E) (P Q R : Type 0) → (P → Q → R) → OnOk r P → OnOk r Q → OnOk r R
both_on (Ok x) P Q R gives p q = gives p q
both_on (Err e) P Q R gives p q = tt

pub returns-clause-opened : goal.returns-clause-opened
returns-clause-opened c =
    let told = c.check_names.ensures in
    both_on c.check_names.result _ _ _
    (may_open c.args.kept.now c.args.given.now _ _ (ap texts_of c.deref.ensures.value ∙ c.in_ok-kept.ensures)
    (ap texts_of c.deref-2.ensures.value ∙ c.in_ok-given.ensures))
    told.agree told.both

pub returns-clause-refused : goal.returns-clause-refused
returns-clause-refused c =
    let told = c.check_names.ensures in
    may_not c.args.kept.now c.args.given.now _ _ (ap texts_of c.deref.ensures.value ∙ c.in_ok-kept.ensures)
    (ap texts_of c.deref-2.ensures.value ∙ c.in_ok-given.ensures) c.check_names.result told.manager told.rm told.unnamed told.unkept
