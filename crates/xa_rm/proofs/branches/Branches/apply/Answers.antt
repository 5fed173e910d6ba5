use Rattle.std.proofs.Common.{◌≡◌, Some, IsSome, refl, ap, sym, ◌∙◌, subst}
use Rattle.std.specs.HashMap as hashed
use Rattle.std.specs.Option.{option_copied}
use Rattle.std.proofs.lemmas.Result.{IfOk-weaker, on_err_weaker, on_ok_weaker}
use Rattle.xa_base.specs.HeldBranch.{HeldBranch, answer_of, called, code_by, held_by}
use Rattle.xa_base.specs.Standing.{is_in_doubt}
use Rattle.xa_base.specs.Xid.{Xid, xid_eq}
use Rattle.xa_base.specs.declared.code.Code.TheVariants as Codes
use Rattle.xa_rm.proofs.CallLemmas.{asks_named, called_not_found, changed_there, unchanged_there}
use Rattle.xa_rm.proofs.TableLemmas.{held_after_put, index_after_put, never_err}
use Rattle.xa_rm.specs.Branches.{branch_or_new, held_at}
use Rattle.xa_rm.specs.TableEntries.{held_branch}
use Rattle.xa_rm.proofs.branches.Branches.apply.Goals as goal

pub invariant_of-self : goal.invariant_of-self
invariant_of-self c = record {
  indexed =
      let put = subst (λ (k : Xid). hashed.Updates xid_eq c.args.self.now.table (c.get_mut.follows.lender c.apply_held.new.held) k (Some c.apply_held.new.held))
      c.of.ensures ((c.get_mut.follows.holds c.apply_held.new.held).3 (subst IsSome c.in-Some-get_mut.ensures.value refl)) in
      index_after_put c.args.self.now.table (c.get_mut.follows.lender c.apply_held.new.held) c.args.self.now.index c.apply_held.new.index
      c.in-Some.xid.now c.apply_held.new.held (is_in_doubt c.apply_held.new.held.standing)
      c.args.self.now.indexed put c.apply_held.ensures.index refl;
}

pub returns-in-Some-get_mut-clause-answer : goal.returns-in-Some-get_mut-clause-answer
returns-in-Some-get_mut-clause-answer c =
    let asked = asks_named c.args.call.now c.in-Some.xid.now (sym c.xid.ensures ∙ ap option_copied c.in-Some.is) in
    let at = ap branch_or_new c.in-Some-get_mut.ensures.value ∙ ap (held_at c.args.self.now.table) c.of.ensures in
    IfOk-weaker c.apply_held.result _ _
    (λ code answered.
    answered asked.0 c.in-Some.xid.now asked.1 ∙ ap (λ (b : HeldBranch). answer_of b asked.0) at
    ∙ sym (ap (code_by (held_at c.args.self.now.table)) asked.1)) c.apply_held.ensures.answer

pub returns-in-Some-get_mut-clause-held : goal.returns-in-Some-get_mut-clause-held
returns-in-Some-get_mut-clause-held c =
    let put = subst (λ (k : Xid). hashed.Updates xid_eq c.args.self.now.table (c.get_mut.follows.lender c.apply_held.new.held) k (Some c.apply_held.new.held))
    c.of.ensures ((c.get_mut.follows.holds c.apply_held.new.held).3 (subst IsSome c.in-Some-get_mut.ensures.value refl)) in
    let asked = asks_named c.args.call.now c.in-Some.xid.now (sym c.xid.ensures ∙ ap option_copied c.in-Some.is) in
    let at = ap branch_or_new c.in-Some-get_mut.ensures.value ∙ ap (held_at c.args.self.now.table) c.of.ensures in
    on_ok_weaker c.apply_held.result
    (λ held x.
    held_after_put c.args.self.now.table (c.get_mut.follows.lender c.apply_held.new.held) c.in-Some.xid.now c.apply_held.new.held put x
    ∙ changed_there (held_at c.args.self.now.table) (called c.args.thread asked.0) c.in-Some.xid.now _
    (held asked.0 c.in-Some.xid.now asked.1 ∙ ap (called c.args.thread asked.0) at) x
    ∙ sym (ap (λ asks. held_by c.args.thread asks x (held_at c.args.self.now.table x)) asked.1)) c.apply_held.ensures.held

pub returns-in-Some-get_mut-clause-err : goal.returns-in-Some-get_mut-clause-err
returns-in-Some-get_mut-clause-err c =
    let put = subst (λ (k : Xid). hashed.Updates xid_eq c.args.self.now.table (c.get_mut.follows.lender c.apply_held.new.held) k (Some c.apply_held.new.held))
    c.of.ensures ((c.get_mut.follows.holds c.apply_held.new.held).3 (subst IsSome c.in-Some-get_mut.ensures.value refl)) in
    let at = ap branch_or_new c.in-Some-get_mut.ensures.value ∙ ap (held_at c.args.self.now.table) c.of.ensures in
    on_err_weaker c.apply_held.result
    (λ same x.
    held_after_put c.args.self.now.table (c.get_mut.follows.lender c.apply_held.new.held) c.in-Some.xid.now c.apply_held.new.held put x
    ∙ changed_there (held_at c.args.self.now.table) (λ b. b) c.in-Some.xid.now _ (ap held_branch same ∙ at) x
    ∙ sym (unchanged_there (held_at c.args.self.now.table) (λ b. b) c.in-Some.xid.now refl x)) c.apply_held.ensures.err

pub returns-in-Some-get_mut-clause-not_found : goal.returns-in-Some-get_mut-clause-not_found
returns-in-Some-get_mut-clause-not_found c = λ none.
    let asked = asks_named c.args.call.now c.in-Some.xid.now (sym c.xid.ensures ∙ ap option_copied c.in-Some.is) in
    let at = ap branch_or_new c.in-Some-get_mut.ensures.value ∙ ap (held_at c.args.self.now.table) c.of.ensures in
    let answered : answer_of (held_branch c.in-Some-get_mut.held.now) asked.0 ≡ Codes.NotAnXid =
    ap (λ (b : HeldBranch). answer_of b asked.0) at ∙ sym (ap (code_by (held_at c.args.self.now.table)) asked.1) ∙ none in
    let same = called_not_found c.args.thread asked.0 (held_branch c.in-Some-get_mut.held.now) answered in
    never_err c.apply_held.result
    (on_err_weaker c.apply_held.result
    (λ goes. goes asked.0 c.in-Some.xid.now asked.1 (ap (λ (b : HeldBranch). is_in_doubt b.standing) same)) c.apply_held.ensures.goes_in_doubt)
