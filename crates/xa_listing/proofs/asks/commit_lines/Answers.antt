use Rattle.std.proofs.Common.{◌≡◌, ◌∙◌, List, ℕ, ◌++◌, codes, ap}
use Rattle.xa_base.specs.Branch.{xid_of_branch}
use Rattle.xa_listing.specs.Asks.{place_line, statement_line}
use Rattle.xa_listing.specs.Statements.{mariadb_commit, postgresql_commit}
use Rattle.xa_listing.proofs.asks.commit_lines.Goals as goal

three_lines : {t u p x y : List ℕ} (a b d : List ℕ) → p ≡ a → x ≡ b → y ≡ d → u ≡ p ++ x → t ≡ u ++ y → t ≡ a ++ b ++ d
three_lines {p = p} {x = x} {y = y} a b d first second third front is =
    is ∙ ap (λ v. v ++ y) (front ∙ ap (λ v. v ++ x) first ∙ ap (λ v. a ++ v) second) ∙ ap (λ v. a ++ b ++ v) third

pub returns-clause-text : goal.returns-clause-text
returns-clause-text c =
    let branch = c.args.branch.now in
    let manager = c.args.manager.now in
    let postgresql = c.as_str.ensures.value ∙ c.in_ok-postgresql.ensures.text ∙ ap (postgresql_commit manager) c.xid-xid.ensures in
    let mariadb = c.as_str-3.ensures.value ∙ c.in_ok-mariadb.ensures.text ∙ ap (mariadb_commit manager) c.xid-xid.ensures in
    three_lines (place_line branch) (statement_line (codes "PostgreSQL") (postgresql_commit manager (xid_of_branch branch)))
    (statement_line (codes "MariaDB") (mariadb_commit manager (xid_of_branch branch))) c.in_ok-text.ensures.text
    (c.as_str-2.ensures.value ∙ c.in_ok-statement_line.ensures.text ∙ ap (statement_line (codes "PostgreSQL")) postgresql)
    (c.as_str-4.ensures.value ∙ c.in_ok-statement_line-2.ensures.text ∙ ap (statement_line (codes "MariaDB")) mariadb)
    c.in_ok-push_str.ensures.bytes c.in_ok-push_str-2.ensures.bytes
