use Rattle.std.proofs.Common.{◌≡◌, None, Some, rules, ap, sym, ◌∙◌, subst}
use Rattle.std.specs.HashMap as hashed
use Rattle.xa_base.specs.HeldBranch.{HeldBranch, answer_of, called, code_by, held_by}
use Rattle.xa_base.specs.Standing.{is_in_doubt}
use Rattle.xa_base.specs.Xid.{Xid, xid_eq}
use Rattle.xa_base.specs.declared.code.Code.TheVariants as Codes
use Rattle.xa_rm.proofs.CallLemmas.{asks_named, called_not_found, changed_there, not_at_once, unchanged_there}
use Rattle.xa_rm.proofs.TableLemmas.{held_after_put, index_after_new}
use Rattle.xa_rm.specs.Branches.{branch_or_new, held_at}
use Rattle.xa_rm.proofs.branches.Branches.apply_new.Goals as goal

pub invariant_of-self : goal.invariant_of-self
invariant_of-self c = record {
  indexed =
      let asked = asks_named c.args.call.now c.args.xid.now c.requires.named in
      let after = c.apply-code.ensures.held asked.0 c.args.xid.now asked.1 in
      let clear = ap (λ (b : HeldBranch). is_in_doubt b.standing) after ∙ not_at_once c.args.thread asked.0 in
      index_after_new c.args.self.now.table c.insert.new.self c.args.self.now.index c.of.result c.apply-code.new.self c.insert.result
      c.args.self.now.indexed (subst (λ (k : Xid). hashed.get xid_eq c.args.self.now.table k ≡ None) (sym c.of.ensures) c.requires.absent)
      clear c.insert.ensures.updates c.insert.ensures.err;
}

pub returns-in_err-insert-clause-not_found : goal.returns-in_err-insert-clause-not_found
returns-in_err-insert-clause-not_found c = λ none.
    let asked = asks_named c.args.call.now c.args.xid.now c.requires.named in
    let new = ap branch_or_new (sym c.requires.absent) in
    let answered = c.apply-code.ensures.answer asked.0 c.args.xid.now asked.1 ∙ ap (λ (b : HeldBranch). answer_of b asked.0) new in
    let not_found : c.apply-code.result ≡ Codes.NotAnXid = answered ∙ sym (ap (code_by (held_at c.args.self.now.table)) asked.1) ∙ none in
    let no : ⊥ = search rules in
    absurd no

pub returns-in_ok-insert-clause-answer : goal.returns-in_ok-insert-clause-answer
returns-in_ok-insert-clause-answer c =
    let asked = asks_named c.args.call.now c.args.xid.now c.requires.named in
    let new = ap branch_or_new (sym c.requires.absent) in
    c.apply-code.ensures.answer asked.0 c.args.xid.now asked.1 ∙ ap (λ (b : HeldBranch). answer_of b asked.0) new
    ∙ sym (ap (code_by (held_at c.args.self.now.table)) asked.1)

pub returns-in_ok-insert-clause-held : goal.returns-in_ok-insert-clause-held
returns-in_ok-insert-clause-held c = λ x.
    let asked = asks_named c.args.call.now c.args.xid.now c.requires.named in
    let new = ap branch_or_new (sym c.requires.absent) in
    let after = c.apply-code.ensures.held asked.0 c.args.xid.now asked.1 ∙ ap (called c.args.thread asked.0) new in
    let put = subst (λ (k : Xid). hashed.Updates xid_eq c.args.self.now.table c.insert.new.self k (Some c.apply-code.new.self))
    c.of.ensures c.in_ok-insert.ensures.updates in
    held_after_put c.args.self.now.table c.insert.new.self c.args.xid.now c.apply-code.new.self put x
    ∙ changed_there (held_at c.args.self.now.table) (called c.args.thread asked.0) c.args.xid.now _ after x
    ∙ sym (ap (λ asks. held_by c.args.thread asks x (held_at c.args.self.now.table x)) asked.1)

pub returns-else-ne-clause-held : goal.returns-else-ne-clause-held
returns-else-ne-clause-held c = λ x.
    let asked = asks_named c.args.call.now c.args.xid.now c.requires.named in
    let new = ap branch_or_new (sym c.requires.absent) in
    let answered = c.apply-code.ensures.answer asked.0 c.args.xid.now asked.1 ∙ ap (λ (b : HeldBranch). answer_of b asked.0) new in
    let not_found : c.apply-code.result ≡ Codes.NotAnXid = search rules in
    let same = called_not_found c.args.thread asked.0 (held_at c.args.self.now.table c.args.xid.now) (sym answered ∙ not_found) in
    unchanged_there (held_at c.args.self.now.table) (called c.args.thread asked.0) c.args.xid.now (sym same) x
    ∙ sym (ap (λ asks. held_by c.args.thread asks x (held_at c.args.self.now.table x)) asked.1)
