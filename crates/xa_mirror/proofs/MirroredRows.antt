-- A start over a log that was made of a mirror: where the branches of a transaction stand goes on
-- by what it has of the transaction.
use Rattle.std.proofs.Common.{◌⊎◌, ◌≡◌, ◌≤◌, inl, inr, List, [], ◌∷◌, Bool, true, false, Option, Some, None, refl, sym, ap, ◌∙◌, subst, arith}
use Rattle.std.proofs.lemmas.Bool.{true≢false}
use Rattle.std.specs.FinMap.{get}
use Rattle.std.specs.List.{list_any}
use Rattle.std.specs.Ordering.{eq_by_cmp}
use Rattle.std.specs.Prelude.{◌||◌, if◌then◌else◌, is_some, unwrap_or}
use Rattle.xa_base.proofs.BranchKeys.{branch_eq-refl, branch_eq-true}
use Rattle.xa_base.proofs.BranchOrder.{branches_total}
use Rattle.xa_base.proofs.Orders.{branch_swap}
use Rattle.xa_base.specs.Branch.{branch_cmp, branch_eq, gtrid_eq}
use Rattle.xa_base.specs.StateTable.{broken}
use Rattle.xa_base.specs.declared.state.Standing.{Standing}
use Rattle.xa_base.specs.declared.state.Standing.TheVariants.{Active, Committed, Completed, Forgotten, Idle, Lost, Prepared, ReadOnly, RollbackOnly, RolledBack, Unstarted}
use Rattle.xa_log.specs.Content.{Content, participants_of}
use Rattle.xa_log.specs.KeySet.{contains, contains-from_list, from_list}
use Rattle.xa_log.specs.KeySet.{empty as nobody}
use Rattle.xa_mirror.specs.Mirrors.{AllAreOver, IsCommitOver, IsMirrorFor, NoneIsCommitted}
use Rattle.xa_model.specs.Facts.{has_branch, has_record, lists_row, participants_in}
use Rattle.xa_model.specs.Trace.{Branch, Gtrid, Origin, Row}
use Rattle.xa_server.proofs.LeftLogs.{raised_once, start_of}
use Rattle.xa_server.proofs.OlderBranches.{HasNoRow, HasNoRow.All_over, HasNoRow.None_committed, HasNoRow.Only_one, IsKept, IsPast}
use Rattle.xa_server.proofs.OwnBranches.{Commits, NeverCommits, Stands}
use Rattle.xa_server.proofs.OwnSessions.{StartsStand}
use Rattle.xa_session.specs.Tracking.{IsRaisedFrom}
use Rattle.xa_tm.proofs.History.OneMore.{lists_is}
use Rattle.xa_tm.proofs.History.RecordsAfter.{has_record_is}
use Rattle.xa_tm.specs.Book.{Waiting, row_in}
use Rattle.xa_tm.specs.Laws.{StartRowsAreApart}
use Rattle.xa_tm.specs.Starting.{StartsHaveContent}

-- ** standings

over_kept : (f : Standing) → IsCommitOver f → IsKept (broken f)
over_kept Unstarted h = tt
over_kept Committed h = tt
over_kept ReadOnly h = tt
over_kept (Completed how) h = tt
over_kept (Forgotten how) h = tt
over_kept _ h = absurd h

over_past : (f : Standing) → IsCommitOver f → IsPast (broken f)
over_past Unstarted h = tt
over_past Committed h = tt
over_past ReadOnly h = tt
over_past (Completed how) h = tt
over_past (Forgotten how) h = tt
over_past _ h = absurd h

over_if : (f : Standing) → IsKept (broken f) → IsPast (broken f) → IsCommitOver f
over_if Unstarted k p = tt
over_if Active k p = absurd k
over_if Idle k p = absurd k
over_if RollbackOnly k p = absurd k
over_if Prepared k p = absurd p
over_if RolledBack k p = absurd k
over_if Lost k p = absurd k
over_if Committed k p = tt
over_if ReadOnly k p = tt
over_if (Completed how) k p = tt
over_if (Forgotten how) k p = tt

unstarted_over : (f : Standing) → broken f ≡ Unstarted → IsCommitOver f
unstarted_over f e = over_if f (subst IsKept (sym e) tt) (subst IsPast (sym e) tt)

committed_over : (f : Standing) → broken f ≡ Committed → IsCommitOver f
committed_over f e = over_if f (subst IsKept (sym e) tt) (subst IsPast (sym e) tt)

past_not_prepared : (f : Standing) → IsPast f → f ≡ Prepared → ⊥
past_not_prepared f p e = subst IsPast e p

-- what was open is lost, and so no branch is committed by it
pub committed_before : (f : Standing) → broken f ≡ Committed → f ≡ Committed
committed_before Active e = cc
committed_before Idle e = cc
committed_before RollbackOnly e = cc
committed_before f e = e

-- ** rows of a start

any_is : (ps : List Branch) (b : Branch) → list_any (eq_by_cmp branch_cmp b) ps ≡ has_branch ps b
any_is [] b = refl
any_is (p ∷ ps) b = (λ i. branch_swap p b i || any_is ps b i)

waits_in : Option Waiting → Branch → Bool
waits_in None b = false
waits_in (Some set) b = contains set b

waits_is : (xs : List Row) (g : Gtrid) (b : Branch) → has_branch (participants_in xs g) b ≡ waits_in (row_in xs g) b
unfolding waits_in
waits_is [] g b = refl
waits_is (x ∷ xs) g b = by (gtrid_eq x.gtrid g) (waits_is xs g b)
  where
    by : (t : Bool) → has_branch (participants_in xs g) b ≡ waits_in (row_in xs g) b
        → has_branch (if t then x.participants else participants_in xs g) b ≡ waits_in (if t then Some (from_list x.participants) else row_in xs g) b
    by true rest = sym (contains-from_list branches_total x.participants b ∙ any_is x.participants b)
    by false rest = rest

module _ (c : Content) (next : Origin) (from_c : IsRaisedFrom c next) where
  row_at_start : (g : Gtrid) → row_in next.rows g ≡ get c.decisions g
  row_at_start g = from_c.has.rows g ∙ ap (λ m. get m g) from_c.rows

  pub row_in_log : (g : Gtrid) → lists_row next.rows g ≡ is_some (get c.decisions g)
  row_in_log g = lists_is next.rows g ∙ ap is_some (row_at_start g)

  waits_in_log : (g : Gtrid) (b : Branch) → has_branch (participants_in next.rows g) b ≡ waits_in (get c.decisions g) b
  waits_in_log g b = waits_is next.rows g b ∙ ap (λ r. waits_in r b) (row_at_start g)

  record_in_log : (b : Branch) → has_record next.heuristic_rows b ≡ is_some (get c.heuristics b)
  record_in_log b = has_record_is next.heuristic_rows b ∙ (ap is_some (from_c.has.records b) ∙ ap (λ m. is_some (get m b)) from_c.records)

-- without a row, if one of its branches is committed
pub all_over : (g : Gtrid) (f : Branch → Standing) (b : Branch) → HasNoRow (λ c. broken (f c)) g → b.gtrid ≡ g → broken (f b) ≡ Committed → AllAreOver g f
all_over g f b (None_committed none) q e = absurd (none b q e)
all_over g f b (All_over over) q e = λ c r. over_if (f c) (over c r).0 (over c r).1
all_over g f b (Only_one d others) q e = λ c r. by c r (branch_eq c d) refl
  where
    apart : (c : Branch) → branch_eq c d ≡ false → c ≡ d → ⊥
    apart c p same = true≢false (sym (ap (λ x. branch_eq x d) same ∙ branch_eq-refl d) ∙ p)

    begun : (t : Bool) → branch_eq b d ≡ t → b ≡ d
    begun true p = branch_eq-true b d p
    begun false p = absurd (let x : Unstarted ≡ Committed = sym (others b q (apart b p)) ∙ e in cc)

    by : (c : Branch) → c.gtrid ≡ g → (t : Bool) → branch_eq c d ≡ t → IsCommitOver (f c)
    by c r true p = committed_over (f c) (ap (λ x. broken (f x)) (branch_eq-true c d p ∙ sym (begun (branch_eq b d) refl)) ∙ e)
    by c r false p = unstarted_over (f c) (others c r (apart c p))

-- and so if it is to commit
pub decided_over : (g : Gtrid) (f : Branch → Standing) (o : Origin) → lists_row o.rows g ≡ false → Commits g o (λ c. broken (f c)) → AllAreOver g f
decided_over g f o none (inl row) = absurd (true≢false (sym row ∙ none))
decided_over g f o none (inr over) = λ b q. over_if (f b) (over.1 b q).0 (over.1 b q).1

-- with a row, if all that it waits for are over
over_unless : (f : Standing) → IsKept (broken f) → (f ≡ Prepared → IsCommitOver f) → IsCommitOver f
over_unless Unstarted k n = tt
over_unless Active k n = absurd k
over_unless Idle k n = absurd k
over_unless RollbackOnly k n = absurd k
over_unless Prepared k n = n refl
over_unless RolledBack k n = absurd k
over_unless Lost k n = absurd k
over_unless Committed k n = tt
over_unless ReadOnly k n = tt
over_unless (Completed how) k n = tt
over_unless (Forgotten how) k n = tt

waits_at : (x : Option Waiting) (b : Branch) → waits_in x b ≡ true → contains (unwrap_or x nobody) b ≡ true
unfolding waits_in
waits_at (Some set) b e = e
waits_at None b e = absurd (true≢false (sym e))

pub participants_over : (g : Gtrid) (c : Content) (f : Branch → Standing) (next : Origin) → IsRaisedFrom c next → Stands g next (λ b. broken (f b))
    → is_some (get c.decisions g) ≡ true → ((b : Branch) → contains (participants_of c g) b ≡ true → IsCommitOver (f b)) → AllAreOver g f
participants_over g c f next from_c stands row over b q =
    over_unless (f b) (stands.kept has b q)
    (λ p. over b (waits_at (get c.decisions g) b (sym (waits_in_log c next from_c g b) ∙ stands.covers has b q (ap broken p))))
  where
    has : lists_row next.rows g ≡ true
    has = row_in_log c next from_c g ∙ row

-- ** a start over the mirror

module _ (content : StartsHaveContent) (apart : StartRowsAreApart) (g : Gtrid) (c d : Content) (f : Branch → Standing) (mirror : IsMirrorFor g f c d)
    (before : StartsStand g c f) (next : Origin) (from_d : IsRaisedFrom d next) where
  -- a start over the log that was lost
  abbrev lost : Origin
  lost = start_of c

  from_c : IsRaisedFrom c lost
  from_c = raised_once content apart c

  stood : Stands g lost (λ b. broken (f b))
  stood = before lost from_c

  has_row : Bool
  has_row = is_some (get c.decisions g)

  later : lost.incarnation ≤ next.incarnation
  later = let i = from_d.has.incarnation in let r = from_d.raised in let l = mirror.later in omega (arith, i, r, l)

  -- by whether the log that was lost had a row
  kept : is_some (get d.decisions g) ≡ true → (t : Bool) → is_some (get c.decisions g) ≡ t → (b : Branch) → b.gtrid ≡ g → IsKept (broken (f b))
  kept row true has b q = stood.kept (row_in_log c lost from_c g ∙ has) b q
  kept row false none b q = over_kept (f b) (mirror.more none row b q)

  covers : is_some (get d.decisions g) ≡ true → (t : Bool) → is_some (get c.decisions g) ≡ t → (b : Branch) → b.gtrid ≡ g → broken (f b) ≡ Prepared
      → has_branch (participants_in next.rows g) b ≡ true
  covers row true has b q e =
      waits_in_log d next from_d g b
      ∙ (ap (λ r. waits_in r b) (mirror.same has row)
      ∙ (sym (waits_in_log c lost from_c g b) ∙ stood.covers (row_in_log c lost from_c g ∙ has) b q e))
  covers row false none b q e = absurd (past_not_prepared (broken (f b)) (over_past (f b) (mirror.more none row b q)) e)

  no_row : is_some (get d.decisions g) ≡ false → (t : Bool) → is_some (get c.decisions g) ≡ t → HasNoRow (λ b. broken (f b)) g
  no_row gone true has = by (mirror.missing has gone)
    where
      by : NoneIsCommitted g f ⊎ AllAreOver g f → HasNoRow (λ b. broken (f b)) g
      by (inl none) = None_committed (λ b q e. none b q (committed_before (f b) e))
      by (inr over) = All_over (λ b q. (over_kept (f b) (over b q), over_past (f b) (over b q)))
  no_row gone false none = stood.no_row (row_in_log c lost from_c g ∙ none)

  pub mirror_stands : Stands g next (λ b. broken (f b))
  mirror_stands = record {
    named = stood.named;
    young = λ young b q. stood.young (let l = later in omega (arith, l, young)) b q;
    records = λ b q has. stood.records b q
        (record_in_log c lost from_c b ∙ mirror.records b q (sym (record_in_log d next from_d b) ∙ has));
    kept = λ row b q. kept (sym (row_in_log d next from_d g) ∙ row) (is_some (get c.decisions g)) refl b q;
    covers = λ row b q e. covers (sym (row_in_log d next from_d g) ∙ row) (is_some (get c.decisions g)) refl b q e;
    no_row = λ none. no_row (sym (row_in_log d next from_d g) ∙ none) (is_some (get c.decisions g)) refl;
  }

  -- what was left decided, where the log that was lost had no row any more
  pub mirror_commits : is_some (get c.decisions g) ≡ false → Commits g lost (λ b. broken (f b)) → Commits g next (λ b. broken (f b))
  mirror_commits none (inl row) = absurd (true≢false (sym row ∙ (row_in_log c lost from_c g ∙ none)))
  mirror_commits none (inr over) = inr (let l = later in let o = over.0 in omega (arith, l, o), over.1)

  pub mirror_row_commits : is_some (get d.decisions g) ≡ true → Commits g next (λ b. broken (f b))
  mirror_row_commits row = inl (row_in_log d next from_d g ∙ row)

  pub mirror_never : is_some (get d.decisions g) ≡ false → NeverCommits g lost (λ b. broken (f b)) → NeverCommits g next (λ b. broken (f b))
  mirror_never none never = record {
    earlier = let l = later in let e = never.earlier in omega (arith, l, e);
    no_row = row_in_log d next from_d g ∙ none;
    none = never.none;
  }

-- what is left undecided, with none of its branches committed
pub left_never : (g : Gtrid) (d : Content) (to : Branch → Standing) (next : Origin) → IsRaisedFrom d next → is_some (get d.decisions g) ≡ false
    → g.incarnation ≤ d.incarnation → NoneIsCommitted g to → NeverCommits g next (λ b. broken (to b))
left_never g d to next from_d none old uncommitted = record {
  earlier = let i = from_d.has.incarnation in let r = from_d.raised in omega (arith, i, r, old);
  no_row = row_in_log d next from_d g ∙ none;
  none = λ b q e. uncommitted b q (committed_before (to b) e);
}
