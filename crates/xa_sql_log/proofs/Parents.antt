-- What a comparison of keys says of rows, and that the foreign key gives each participant its decision.
use Rattle.std.proofs.Common.{◌≡◌, ℕ, pos, List, [], ◌∷◌, true, false, ◌&&◌, ◌||◌, refl, sym, ap, subst, subst₂, ◌∙◌, is_eq, nat_cmp, int_cmp}
use Rattle.std.specs.Cmp.{both_ways, tied_itself, int_cmp_total, nat_cmp_total}
use Rattle.std.specs.FinMap.{int_cmp-IsAntisymmetric, nat_cmp-IsAntisymmetric}
use Rattle.std.specs.List.{AllByRecursion, list_any}
use Rattle.std.proofs.lemmas.Bool.{and_parts}
use Rattle.xa_base.specs.Branch.{gtrid_eq}
use Rattle.sqlite.specs.declared.types.Value.{Value}
use Rattle.sqlite.specs.declared.types.Value.TheVariants.{Int}
use Rattle.sqlite.specs.Order.{Row, column}
use Rattle.sqlite.specs.Tree.{Trees}
use Rattle.sqlite.specs.Collation.TheVariants.{Binary}
use Rattle.sqlite_schema.specs.Rules.{agree, equal, has_null, Refers}
use Rattle.sqlite_schema.specs.declared.schema.Among.TheVariants.{All}
use Rattle.sqlite_value.specs.declared.keys.Order.{Order}
use Rattle.sqlite_rules.proofs.ListLemmas.{all_has, all_from, some_has, some_from}
use Rattle.sqlite_tied.specs.Compute.{everything}
use Rattle.xa_base.specs.declared.branch.Gtrid.{Gtrid}
use Rattle.xa_base.proofs.BranchOrder.{exact_gtrids}
use Rattle.sqlite_sql.specs.Ops.{is_null}
use Rattle.xa_sql_log.specs.Tables.{log_schema}
use Rattle.xa_sql_log.specs.Rows.{gtrid_of_row, IsDecisionRow, IsParticipantRow, HasDecision}
use Rattle.xa_sql_log.proofs.Contents.{both_parts, is_itself}
use Rattle.xa_sql_log.proofs.Values.{alike_numbers}
use Rattle.xa_base.proofs.Orders.{equal_is}

abbrev pub plain_order : Order
plain_order = record { digits = 0 }

abbrev pub key_places : List ℕ
key_places = 1 ∷ 2 ∷ []

-- the row has the numbers of the transaction in its first two columns
abbrev pub Carries : Row → Gtrid → Type 0
Carries r g = (column r 1 ≡ Int (pos g.incarnation)) × (column r 2 ≡ Int (pos g.sequence))

pub decision_carries : (r : Row) → IsDecisionRow r → Carries r (gtrid_of_row r)
decision_carries r is = subst (λ x. Carries x (gtrid_of_row x)) (sym is.2) (refl, refl)

pub participant_carries : (r : Row) → IsParticipantRow r → Carries r (gtrid_of_row r)
participant_carries r is = subst (λ x. Carries x (gtrid_of_row x)) (sym is.2) (refl, refl)

alike : (a b : ℕ) → equal Binary (Int (pos a)) (Int (pos b)) ≡ is_eq (nat_cmp a b)
alike a b = alike_numbers (pos a) (pos b) ∙ both_ways _ _
    (λ h. let same : pos a ≡ pos b = int_cmp-IsAntisymmetric (pos a) (pos b) (equal_is _ h) in let n : a ≡ b = cc in subst
    (λ x. is_eq (nat_cmp a x) ≡ true) n (ap is_eq (tied_itself nat_cmp_total a)))
    (λ h. let n : a ≡ b = nat_cmp-IsAntisymmetric a b (equal_is _ h) in subst (λ x. is_eq (int_cmp (pos a) (pos x)) ≡ true) n
    (ap is_eq (tied_itself int_cmp_total (pos a))))

alike_in : (v w : Value) (a b : ℕ) → v ≡ Int (pos a) → w ≡ Int (pos b) → equal Binary v w ≡ is_eq (nat_cmp a b)
alike_in v w a b p q = subst₂ (λ x y. equal Binary x y ≡ is_eq (nat_cmp a b)) (sym p) (sym q) (alike a b)

-- keys agree where they are of one transaction
pub agree_is : (r s : Row) (g h : Gtrid) → Carries r g → Carries s h → agree plain_order key_places r key_places s ≡ gtrid_eq g h
unfolding everything
agree_is r s g h p q =
    ap (λ b. b && (equal Binary (column r 2) (column s 2) && true)) (alike_in (column r 1) (column s 1) g.incarnation h.incarnation p.0 q.0)
    ∙ ap (λ b. is_eq (nat_cmp g.incarnation h.incarnation) && (b && true)) (alike_in (column r 2) (column s 2) g.sequence h.sequence p.1 q.1)
    ∙ both_parts _ _

own_parent : (db : Trees) → AllByRecursion IsDecisionRow (db 1) → (r : Row) → Carries r (gtrid_of_row r)
    → (has_null key_places r || list_any (λ p. agree plain_order key_places p key_places r) (db 1)) ≡ true → HasDecision (db 1) r
own_parent db decisions r carries h =
    let present : has_null key_places r ≡ false = subst₂ (λ v w. (is_null v || (is_null w || false)) ≡ false) (sym carries.0) (sym carries.1) refl in
    let some = some_has _ (db 1) (rw present at h) in
    let same =
    sym (agree_is some.0 r (gtrid_of_row some.0) (gtrid_of_row r) (decision_carries some.0 (all_has _ (db 1) some.0 decisions some.1)) carries) ∙ some.2 in
    let one : gtrid_of_row some.0 ≡ gtrid_of_row r = exact_gtrids (gtrid_of_row some.0) (gtrid_of_row r) (equal_is _ same) in
    some_from _ (db 1) some.0 some.1 (subst (λ g. gtrid_eq g (gtrid_of_row some.0) ≡ true) one (is_itself (gtrid_of_row some.0)))

-- Where each foreign key holds, each participant has its decision.
pub parents_held : (db : Trees) → AllByRecursion IsDecisionRow (db 1) → AllByRecursion IsParticipantRow (db 5)
    → Refers All log_schema db → AllByRecursion (HasDecision (db 1)) (db 5)
unfolding everything
parents_held db decisions participants refers = all_from _ (db 5) (λ r h.
    own_parent db decisions r (participant_carries r (all_has _ (db 5) r participants h)) (and_parts _ _ (all_has _ (db 5) r refers.1.1.1.0 h)).0)
