use Rattle.std.proofs.Common.{◌≡◌, ◌∙◌, List, ap, arith, false, subst, sym}
use Rattle.std.proofs.lemmas.List.{take_all}
use Rattle.std.specs.List.{find, list_any}
use Rattle.xa_conduct.proofs.ToldLemmas.{find_here, find_none}
use Rattle.xa_conduct.specs.Texts.{is_told, verb_of}
use Rattle.xa_conduct.specs.declared.part.Part.{Part}
use Rattle.xa_conduct.proofs.transaction.Transaction.first_verb.Goals as goal

pub returns-then-is_asked : goal.returns-then-is_asked
returns-then-is_asked c =
    let parts = c.as_slice-part-items.result.now in
    c.verb.ensures
    ∙ ap verb_of
    (sym (find_here is_told parts c.loop-part.part-index _ (omega arith) c.loop-part.invariant (sym c.is_asked.ensures ∙ c.if-is_asked.true)))
    ∙ ap (λ (ps : List Part). verb_of (find is_told ps)) c.as_slice-part-items.ensures.value

pub returns : goal.returns
returns c =
    let parts = c.as_slice-part-items.result.now in
    ap verb_of
    (sym (find_none is_told parts
    (subst (λ (ps : List Part). list_any is_told ps ≡ false) (take_all c.loop-part.part-index parts (omega arith)) c.loop-part.invariant)))
    ∙ ap (λ (ps : List Part). verb_of (find is_told ps)) c.as_slice-part-items.ensures.value
