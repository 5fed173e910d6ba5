use Rattle.std.proofs.Common.{◌∙◌, ◌++◌, ap, sym}
use Rattle.std.specs.Prelude.{codes, string_bytes}
use Rattle.xa_conduct.proofs.ToldLemmas.{adds_both}
use Rattle.xa_conduct.specs.Texts.{standing_with_reason, why_text}
use Rattle.xa_conduct.specs.declared.transaction.Standing.{Standing}
use Rattle.xa_conduct.proofs.writing.add_standing.Goals as goal

pub returns-in_ok-add_why-in-RolledBack : goal.returns-in_ok-add_why-in-RolledBack
returns-in_ok-add_why-in-RolledBack c =
    let begun = string_bytes c.args.text.now in
    adds_both begun (string_bytes c.push_str-in-RolledBack.new.self) (string_bytes c.add_why.new.text) (codes "rolled-back") (why_text c.in-RolledBack.why)
    c.in_ok-push_str-in-RolledBack.ensures.bytes c.in_ok-add_why-in-RolledBack.ensures
    ∙ ap (λ (standing : Standing). begun ++ standing_with_reason standing) (sym c.in-RolledBack.is)
