-- A whole recovery of a process that found branches: what the processes before it left prepared is ended too.
use Rattle.std.proofs.Common.{◌≡◌, ◌<◌, ◌⊎◌, ℕ, zero, suc, List, [], ◌∷◌, ◌++◌, map, length, Bool, true, false, ◌&&◌, refl, sym, ap, ◌∙◌, subst, arith}
use Rattle.std.specs.Prelude.{cond, filter, if◌then◌else◌, slice_index_or, Contains, Option, Some, None}
use mathlib.Core.Logic.{◌⊎◌.inl, ◌⊎◌.inr}
use Rattle.std.proofs.lemmas.Bool.{and_parts, eq-eqb}
use Rattle.xa_base.specs.Branch.{IsBranch, branch_of_xid, xid_of_branch}
use Rattle.xa_base.specs.HeldBranch.{new_branch}
use Rattle.xa_base.specs.Standing.{is_in_doubt}
use Rattle.xa_base.specs.StateTable.{State, State.S1, State.S2, State.S4, state_of, broken}
use Rattle.xa_base.specs.Xid.{Xid}
use Rattle.xa_base.specs.declared.state.Standing.{Standing}
use Rattle.xa_base.specs.declared.state.Standing.TheVariants.{Unstarted, Active, Idle, Prepared, RollbackOnly}
use Rattle.xa_model.specs.Facts.{branches, fits, held_of, origin, recorded, standing, started}
use Rattle.xa_model.specs.Facts.InDoubt.{in_doubt, is_in_doubt_at, is_still_in_doubt, name_by, name_of, xid_of_name}
use Rattle.xa_model.specs.Promises.Processes.{ListsFound, Resumes, gone, joined}
use Rattle.xa_model.specs.Promises.Recovery.{IsRecovered, MayComplete, recovery}
use Rattle.xa_model.specs.Protocol.{AllRight, IsRun, OldOrigin}
use Rattle.xa_model.specs.Replies.Allowed.{AllAllowed, with_steps}
use Rattle.xa_base.specs.declared.reply.Event.{Event}
use Rattle.xa_model.specs.Replies.History.{AreAllowed, history, read}
use Rattle.xa_model.specs.Replies.Steps.{Reply, Step, happened}
use Rattle.xa_model.specs.Trace.{Answer, Branch, Call, Name, Name.Foreign, Name.Ours, Origin, Trace, Trace.From, Trace.Then}
use Rattle.xa_model.proofs.Invariant.{HasBegun}
use Rattle.xa_model.proofs.Invariant.Moves.{Move, Move.Stays, Move.Starts, Move.Completes, Move.Rolls_back, Move.Ends, Move.Fails, Move.Prepares, Move.Only_reads, Move.Refuses, Move.In_one_phase, Move.Commits, Move.Forgets, Move.Loses_active, Move.Loses_idle, Move.Loses_rollback_only}
use Rattle.xa_model.proofs.Invariant.Now.{step_move}
use Rattle.xa_model.proofs.Invariant.Preservation.{always, begun_is_started, never_found, run_always}
use Rattle.xa_model.proofs.Invariant.PreservedTransactions.{not_started_before}
use Rattle.xa_model.proofs.Invariant.PreservedRows.{started_listed}
use Rattle.xa_model.proofs.NameLemmas.OwnNames.{foreign_name, own_name}
use Rattle.xa_model.proofs.ProcessLemmas.SameParts.{Faces}
use Rattle.xa_model.proofs.ProcessLemmas.Facing.{record_is}
use Rattle.xa_model.proofs.ProcessLemmas.Joining.{gone_right, joined_faces}
use Rattle.xa_model.proofs.ProcessLemmas.Leaving.{fits_branch}
use Rattle.xa_model.proofs.ProcessLemmas.SameStates.{prepared_by_state}
use Rattle.xa_model.proofs.RecoveryLemmas.Pages.{Each, each_append, each_in_order}
use Rattle.xa_model.proofs.RecoveryLemmas.WholeRecovery.{In}
use Rattle.xa_model.proofs.RecoveryLemmas.RecoveredStart.{HasXid, each_in, has_in, in_behind, in_filtered, in_mapped, in_order_has}
use Rattle.xa_model.proofs.RecoveryLemmas.RecoveryCalls.{not_recorded, recovered_by}
use Rattle.xa_model.proofs.Replies.Replies.{allowed_right}

-- ** lists

pub in_contains : (xs : List Xid) (x : Xid) → Contains xs x → In xs x
in_contains xs x h = at_place xs h.0 h.1 h.2
  where
    at_place : (xs : List Xid) (i : ℕ) → i < length xs → slice_index_or xs i x ≡ x → In xs x
    at_place [] i lt e = absurd (omega arith)
    at_place (y ∷ ys) zero lt e = inl e
    at_place (y ∷ ys) (suc i) lt e = inr (at_place ys i (omega arith) e)

in_front : (xs ys : List Name) (n : Name) → In xs n → In (xs ++ ys) n
in_front [] ys n i = absurd i
in_front (x ∷ xs) ys n (inl e) = inl e
in_front (x ∷ xs) ys n (inr i) = inr (in_front xs ys n i)

in_kept : (test : Name → Bool) (ns : List Name) (n : Name) → In ns n → test n ≡ true → In (filter test ns) n
in_kept test [] n i t = absurd i
in_kept test (x ∷ ns) n i t = by_test (test x) refl i (λ k. in_kept test ns n k t)
  where
    clash : {u : Bool} → u ≡ true → u ≡ false → ⊥
    clash p q = cc

    by_test : (u : Bool) → test x ≡ u → (x ≡ n) ⊎ In ns n → (In ns n → In (filter test ns) n) → In (cond u (x ∷ filter test ns) (filter test ns)) n
    by_test true q (inl e) f = inl e
    by_test true q (inr k) f = inr (f k)
    by_test false q (inl e) f = absurd (clash (ap test e ∙ t) q)
    by_test false q (inr k) f = f k

in_named : (xs : List Xid) (x : Xid) (n : Name) → name_of x ≡ n → In xs x → In (map name_of xs) n
in_named [] x n e i = absurd i
in_named (y ∷ xs) x n e (inl q) = inl (ap name_of q ∙ e)
in_named (y ∷ xs) x n e (inr i) = inr (in_named xs x n e i)

-- ** what is in doubt of what was found

-- none of these is at work
abbrev IsRest : State → Type 0
IsRest S1 = ⊥
IsRest S2 = ⊥
IsRest S4 = ⊥
IsRest _ = Unit

rest_broken : (x : Standing) → IsRest (state_of (broken x))
rest_broken Active = tt
rest_broken _ = tt

still_by_rest : (f : Standing) → IsRest (state_of f) → broken f ≡ f
still_by_rest Active h = absurd h
still_by_rest Idle h = absurd h
still_by_rest RollbackOnly h = absurd h
still_by_rest _ h = refl

pub still_by_state : (f x : Standing) → state_of f ≡ state_of (broken x) → broken f ≡ f
still_by_state f x e = still_by_rest f (subst IsRest (sym e) (rest_broken x))

-- no branch that the start found comes into doubt
no_new_doubt : (t : Trace) (b : Branch) (f g : Standing) → Move t b f g → started t b ≡ false → broken f ≡ f
    → (broken g ≡ g) × (is_in_doubt g ≡ true → is_in_doubt f ≡ true)
no_new_doubt t b f g (Stays x) n h = (h, λ k. k)
no_new_doubt t b f g (Starts s) n h = absurd (cc)
no_new_doubt t b f g Ends n h = absurd (cc)
no_new_doubt t b f g Fails n h = absurd (cc)
no_new_doubt t b f g Prepares n h = absurd (cc)
no_new_doubt t b f g Only_reads n h = absurd (cc)
no_new_doubt t b f g Refuses n h = absurd (cc)
no_new_doubt t b f g (In_one_phase p) n h = absurd (cc)
no_new_doubt t b f g (Commits p) n h = (refl, λ k. refl)
no_new_doubt t b f g (Rolls_back x c p q) n h = (refl, λ k. absurd (cc))
no_new_doubt t b f g (Completes how) n h = (refl, λ k. refl)
no_new_doubt t b f g (Forgets how p) n h = (refl, λ k. refl)
no_new_doubt t b f g Loses_active n h = absurd (cc)
no_new_doubt t b f g Loses_idle n h = absurd (cc)
no_new_doubt t b f g Loses_rollback_only n h = absurd (cc)

pub found_doubtful : (t : Trace) (b : Branch) → IsRun t → broken (held_of (origin t) b).standing ≡ (held_of (origin t) b).standing → started t b ≡ false
    → (broken (standing t b) ≡ standing t b) × (is_in_doubt (standing t b) ≡ true → is_in_doubt (held_of (origin t) b).standing ≡ true)
found_doubtful (From o) b r h n = (h, λ k. k)
found_doubtful (Then t e) b r h n =
    let m = not_started_before t e b n in
    let was = found_doubtful t b r.0 h m in
    let now = no_new_doubt t b _ _ (step_move t e b (run_always t r.0) r.1) m was.0 in
    (now.0, λ k. was.1 (now.1 k))

-- ** names

-- a name is known for what it is
abbrev pub IsNamed : Name → Type 0
IsNamed (Ours b) = IsBranch b
IsNamed (Foreign x) = branch_of_xid x ≡ None

module _ (t : Trace) (run : IsRun t) (numbers : (b : Branch) → started t b ≡ true → IsBranch b) where
  pub doubtful_fits : (b : Branch) → is_in_doubt (standing t b) ≡ true → IsBranch b
  doubtful_fits b h = by_tests (started t b) refl (fits b) refl
    where
      unheld : fits b ≡ false → (held_of (origin t) b).standing ≡ Unstarted
      unheld e = ap (λ u. (if u then (origin t).held b.rm (xid_of_branch b) else new_branch).standing) e

      none : standing t b ≡ Unstarted → ⊥
      none u = let k = sym (ap is_in_doubt u) ∙ h in cc

      by_tests : (s : Bool) → started t b ≡ s → (u : Bool) → fits b ≡ u → IsBranch b
      by_tests true p u q = numbers b p
      by_tests false p true q = fits_branch b q
      by_tests false p false q = absurd (none (never_found t b run (unheld q) p))

  named_by : (r : ℕ) (x : Xid) (o : Option Branch) → branch_of_xid x ≡ o → is_still_in_doubt t r (name_by x o) ≡ true → IsNamed (name_by x o)
  named_by r x (Some b) e h = doubtful_fits b (and_parts _ _ h).1
  named_by r x None e h = e

  found_named : (r : ℕ) (xs : List Xid) → Each IsNamed (filter (is_still_in_doubt t r) (map name_of xs))
  found_named r [] = tt
  found_named r (x ∷ xs) = by_test (is_still_in_doubt t r (name_of x)) refl (found_named r xs)
    where
      by_test : (u : Bool) → is_still_in_doubt t r (name_of x) ≡ u → Each IsNamed (filter (is_still_in_doubt t r) (map name_of xs))
          → Each IsNamed (cond u (name_of x ∷ filter (is_still_in_doubt t r) (map name_of xs)) (filter (is_still_in_doubt t r) (map name_of xs)))
      by_test true q k = (named_by r x (branch_of_xid x) refl q, k)
      by_test false q k = k

  own_named : (r : ℕ) (bs : List Branch) → Each IsNamed (map (λ b. Ours b) (filter (is_in_doubt_at t r) bs))
  own_named r [] = tt
  own_named r (b ∷ bs) = by_test (is_in_doubt_at t r b) refl (own_named r bs)
    where
      by_test : (u : Bool) → is_in_doubt_at t r b ≡ u → Each IsNamed (map (λ c. Ours c) (filter (is_in_doubt_at t r) bs))
          → Each IsNamed (map (λ c. Ours c) (cond u (b ∷ filter (is_in_doubt_at t r) bs) (filter (is_in_doubt_at t r) bs)))
      by_test true q k = (doubtful_fits b (and_parts _ _ q).1, k)
      by_test false q k = k

  pub all_named : (r : ℕ) → Each IsNamed (in_doubt t r)
  all_named r = each_in_order IsNamed _ (each_append IsNamed _ _ (found_named r ((origin t).in_doubt r)) (own_named r (branches t)))

  listed_itself : (r : ℕ) (b : Branch) → IsBranch b → HasXid (in_doubt t r) (xid_of_branch b) → In (in_doubt t r) (Ours b)
  listed_itself r b fit h = as_itself h.0 h.1 h.2 (each_in IsNamed (in_doubt t r) h.0 (all_named r) h.1)
    where
      foreign_own : {c : Branch} {y : Xid} → Ours c ≡ Foreign y → ⊥
      foreign_own e = cc

      as_itself : (n : Name) → In (in_doubt t r) n → xid_of_name n ≡ xid_of_branch b → IsNamed n → In (in_doubt t r) (Ours b)
      as_itself (Ours c) i e k = subst (In (in_doubt t r)) (sym (own_name c k) ∙ (ap name_of e ∙ own_name b fit)) i
      as_itself (Foreign x) i e k = absurd (foreign_own (sym (own_name b fit) ∙ (ap name_of (sym e) ∙ foreign_name x k)))

  -- what is in doubt there is listed
  pub doubtful_listed : (r : ℕ) (b : Branch) → ListsFound (origin t) → broken (held_of (origin t) b).standing ≡ (held_of (origin t) b).standing
      → b.rm ≡ r → is_in_doubt (standing t b) ≡ true → In (in_doubt t r) (Ours b)
  doubtful_listed r b lists still q doubt = by_test (started t b) refl
    where
      fit : IsBranch b
      fit = doubtful_fits b doubt

      passes : is_in_doubt_at t r b ≡ true
      passes = let here = eq-eqb b.rm r q in (λ i. here i && doubt i)

      by_test : (u : Bool) → started t b ≡ u → In (in_doubt t r) (Ours b)
      by_test true p =
          listed_itself r b fit (in_order_has _ (Ours b) (in_behind (filter (is_still_in_doubt t r) (map name_of ((origin t).in_doubt r))) _ (Ours b)
          (in_mapped _ b (in_filtered (is_in_doubt_at t r) (branches t) b (has_in (branches t) b (started_listed t b p)) passes))))
      by_test false p =
          let there = lists b ((found_doubtful t b run still p).1 doubt) in
          let found = in_contains ((origin t).in_doubt r) (xid_of_branch b) (subst (λ k. Contains ((origin t).in_doubt k) (xid_of_branch b)) q there) in
          listed_itself r b fit (in_order_has _ (Ours b) (in_front _ _ (Ours b)
          (in_kept (is_still_in_doubt t r) _ (Ours b) (in_named ((origin t).in_doubt r) (xid_of_branch b) (Ours b) (own_name b fit) found) passes)))

-- ** the next process

pub origin_after : (t : Trace) (xs : List (Step × Reply)) → origin (with_steps t xs) ≡ origin t
origin_after t [] = refl
origin_after t (x ∷ xs) = origin_after (Then t (happened x.0 x.1)) xs

pub run_all : (t : Trace) (xs : List (Step × Reply)) → IsRun t → AllAllowed t xs → IsRun (with_steps t xs)
run_all t [] r d = r
run_all t (x ∷ xs) r d = run_all (Then t (happened x.0 x.1)) xs (r, allowed_right t x.0 x.1 d.0) d.1

facing_recovers : (past tr ur : Trace) (r count : ℕ) (names : List Name) (answers : List (Call × Answer)) → AllRight past → AllRight tr
    → Faces past tr ur → IsRun ur → ListsFound (origin ur)
    → ((b : Branch) → broken (held_of (origin ur) b).standing ≡ (held_of (origin ur) b).standing)
    → MayComplete ur r count answers → AllAllowed ur (recovery r count names answers) → IsRecovered (with_steps ur (recovery r count names answers)) r
facing_recovers past tr ur r count names answers a w f run lists still m d =
    recovered_by ur r count names answers (λ b q s. unrecorded b s)
    (λ b q s. doubtful_listed ur run m.numbers r b lists (still b) q (ap is_in_doubt s)) m d
  where
    unrecorded : (b : Branch) → standing ur b ≡ Prepared → recorded ur b ≡ false
    unrecorded b s =
        let p = prepared_by_state (standing tr b) (sym (f.held.states b) ∙ ap state_of s) in
        sym (record_is past (always past a) tr ur f.deals f.logs b)
        ∙ not_recorded tr b (always tr w) (begun_is_started tr b w (subst HasBegun (sym p) tt)) p

pub next_recovers : (past : Trace) (o : Origin) (events : List Event) (r count : ℕ) (names : List Name) (answers : List (Call × Answer)) → AllRight past
    → Resumes past o → OldOrigin o → ListsFound o → AreAllowed o events → MayComplete (history o events) r count answers
    → AllAllowed (history o events) (recovery r count names answers)
    → IsRecovered (with_steps (history o events) (recovery r count names answers)) r
next_recovers past o events r count names answers a resumes old lists allowed m d =
    let both = joined_faces past o events a resumes allowed in
    let is = origin_after (From o) (map read events) in
    facing_recovers (gone past) (joined past o events) (history o events) r count names answers (gone_right past a) both.0 both.1
    (run_all (From o) (map read events) old allowed)
    (subst ListsFound (sym is) lists)
    (subst (λ x. (b : Branch) → broken (held_of x b).standing ≡ (held_of x b).standing) (sym is)
    (λ b. still_by_state (held_of o b).standing (standing past b) (resumes.states b))) m d
