-- The participants of a transaction stay branches of it, and the numbers of all rows fit.
use Rattle.std.proofs.Common.{◌≡◌, inl, inr, List, [], ◌∷◌, true, false, ◌||◌, ◌+◌, cond, Some, None, is_some, unwrap_or, ℕ, Result, Ok, Err, OnOk, OnErr, sym, ap, subst, ◌∙◌}
use Rattle.std.specs.Ordering.{eq_by_cmp}
use Rattle.std.specs.List.{AllByRecursion, list_any}
use Rattle.std.specs.FinMap.{get, contains_key, get-insert, get-remove, get-empty}
use Rattle.xa_log.specs.KeySet.{KeySet, contains, from_list}
use Rattle.xa_log.specs.KeySet.{contains-from_list}
use Rattle.std.proofs.lemmas.Bool.{cases_Bool, true≢false}
use Rattle.xa_base.specs.declared.branch.Gtrid.{Gtrid}
use Rattle.xa_base.specs.declared.branch.Branch.{Branch}
use Rattle.xa_base.specs.declared.code.How.{How}
use Rattle.xa_base.specs.Branch.{gtrid_cmp, branch_cmp}
use Rattle.xa_base.proofs.BranchOrder.{gtrids_total, exact_gtrids, branches_total, exact_branches}
use Rattle.xa_log.specs.Content.{Content, AreOwn, with_bump, with_commit, with_decision, without_decision, with_heuristic, with_heuristic_record, nothing}
use Rattle.xa_log.specs.Contract.{AllFit, Changes, FitsRow, faults_after}
use Rattle.xa_log.specs.Memory.{IsInOrder, content_held, memory_moment}
use Rattle.xa_log.specs.declared.log_fault.LogFault.{LogFault}
use Rattle.xa_log.specs.declared.mem_log.MemLog.{MemLog}
use Rattle.xa_base.proofs.Orders.{equal_is}

own_nothing : AreOwn nothing
own_nothing g set b is has = let no : None ≡ Some set = sym (get-empty gtrid_cmp g) ∙ is in absurd (cc)

one_of : (list : List Branch) (g : Gtrid) (b : Branch) → AllByRecursion (λ (x : Branch). x.gtrid ≡ g) list
    → list_any (eq_by_cmp branch_cmp b) list ≡ true → b.gtrid ≡ g
one_of [] g b all has = absurd (cc)
one_of (x ∷ xs) g b all has = elim (cases_Bool (eq_by_cmp branch_cmp b x)) [
  | inl same ↦ ap (λ (y : Branch). y.gtrid) (exact_branches b x (equal_is _ same)) ∙ all.0
  | inr other ↦ one_of xs g b all.1 (sym (ap (λ t. t || list_any (eq_by_cmp branch_cmp b) xs) other) ∙ has)
]

own_with : (c : Content) (g : Gtrid) (list : List Branch) → AllByRecursion (λ (b : Branch). b.gtrid ≡ g) list → AreOwn c
    → AreOwn (with_decision g (from_list list) c)
own_with c g list all own q set b is has = elim (cases_Bool (eq_by_cmp gtrid_cmp q g)) [
  | inl same ↦ (
      let set_is : Some (from_list list) ≡ Some set =
      sym (ap (λ t. cond t (Some (from_list list)) (get c.decisions q)) same) ∙ sym (get-insert gtrids_total c.decisions g (from_list list) q) ∙ is in
      let inside : list_any (eq_by_cmp branch_cmp b) list ≡ true =
      sym (contains-from_list branches_total list b) ∙ ap (λ o. contains (unwrap_or o set) b) set_is ∙ has in
      one_of list g b all inside ∙ sym (exact_gtrids q g (equal_is _ same)))
  | inr other ↦ own q set b (sym (ap (λ t. cond t (Some (from_list list)) (get c.decisions q)) other)
      ∙ sym (get-insert gtrids_total c.decisions g (from_list list) q) ∙ is) has
]

own_committed : (c : Content) (g : Gtrid) (list : List Branch) → AllByRecursion (λ (b : Branch). b.gtrid ≡ g) list → AreOwn c
    → AreOwn (with_commit g (from_list list) c)
own_committed c g list all own = elim (contains_key c.decisions g) as (λ t. AreOwn (cond t c (with_decision g (from_list list) c))) [
  | true ↦ own
  | false ↦ own_with c g list all own
]

own_without : (c : Content) (g : Gtrid) → AreOwn c → AreOwn (without_decision g c)
own_without c g own q set b is has = elim (cases_Bool (eq_by_cmp gtrid_cmp q g)) [
  | inl same ↦ (let no : None ≡ Some set = sym (ap (λ t. cond t None (get c.decisions q)) same) ∙ sym (get-remove gtrids_total c.decisions g q)
      ∙ is in absurd (cc))
  | inr other ↦ own q set b (sym (ap (λ t. cond t None (get c.decisions q)) other) ∙ sym (get-remove gtrids_total c.decisions g q) ∙ is) has
]

-- ** the numbers of the rows fit

fits_nothing : AllFit nothing
fits_nothing = record {
  decisions = λ g h. absurd (true≢false (sym h ∙ ap is_some (get-empty gtrid_cmp g)));
  heuristics = λ b h. absurd (true≢false (sym h ∙ ap is_some (get-empty branch_cmp b)));
}

fits_with : (c : Content) (g : Gtrid) (set : KeySet branch_cmp) → FitsRow g → AllFit c → AllFit (with_decision g set c)
fits_with c g set own fits = record {
  decisions = λ q h. elim (cases_Bool (eq_by_cmp gtrid_cmp q g)) [
    | inl same ↦ subst FitsRow (sym (exact_gtrids q g (equal_is _ same))) own
    | inr other ↦ fits.decisions q (sym (ap (λ t. is_some (cond t (Some set) (get c.decisions q))) other)
        ∙ ap is_some (sym (get-insert gtrids_total c.decisions g set q)) ∙ h)
  ];
  heuristics = fits.heuristics;
}

fits_committed : (c : Content) (g : Gtrid) (set : KeySet branch_cmp) → FitsRow g → AllFit c → AllFit (with_commit g set c)
fits_committed c g set own fits = elim (contains_key c.decisions g) as (λ t. AllFit (cond t c (with_decision g set c))) [
  | true ↦ fits
  | false ↦ fits_with c g set own fits
]

fits_without : (c : Content) (g : Gtrid) → AllFit c → AllFit (without_decision g c)
fits_without c g fits = record {
  decisions = λ q h. elim (cases_Bool (eq_by_cmp gtrid_cmp q g)) [
    | inl same ↦ absurd (true≢false (sym h ∙ ap is_some (get-remove gtrids_total c.decisions g q) ∙ ap (λ t. is_some (cond t None (get c.decisions q))) same))
    | inr other ↦ fits.decisions q (sym (ap (λ t. is_some (cond t None (get c.decisions q))) other)
        ∙ ap is_some (sym (get-remove gtrids_total c.decisions g q)) ∙ h)
  ];
  heuristics = fits.heuristics;
}

fits_with_heuristic : (c : Content) (b : Branch) (how : How) → FitsRow b.gtrid → AllFit c → AllFit (with_heuristic b how c)
fits_with_heuristic c b how own fits = record {
  decisions = fits.decisions;
  heuristics = λ q h. elim (cases_Bool (eq_by_cmp branch_cmp q b)) [
    | inl same ↦ subst (λ (x : Branch). FitsRow x.gtrid) (sym (exact_branches q b (equal_is _ same))) own
    | inr other ↦ fits.heuristics q (sym (ap (λ t. is_some (cond t (Some how) (get c.heuristics q))) other)
        ∙ ap is_some (sym (get-insert branches_total c.heuristics b how q)) ∙ h)
  ];
}

fits_recorded : (c : Content) (b : Branch) (how : How) → FitsRow b.gtrid → AllFit c → AllFit (with_heuristic_record b how c)
fits_recorded c b how own fits = elim (contains_key c.heuristics b) as (λ t. AllFit (cond t c (with_heuristic b how c))) [
  | true ↦ fits
  | false ↦ fits_with_heuristic c b how own fits
]

-- ** the calls leave what is in order

pub order_nothing : IsInOrder nothing
order_nothing = record { own = own_nothing; fits = fits_nothing }

pub order_without : (c : Content) (g : Gtrid) → IsInOrder c → IsInOrder (without_decision g c)
order_without c g order = record { own = own_without c g order.own; fits = fits_without c g order.fits }

pub order_after_commit : {A E : Type 0} (result : Result A E) (old new : Content) (g : Gtrid) (list : List Branch) → FitsRow g
    → AllByRecursion (λ (b : Branch). b.gtrid ≡ g) list
    → OnOk result (new ≡ with_commit g (from_list list) old) → OnErr result (new ≡ old) → IsInOrder old → IsInOrder new
order_after_commit (Ok x) old new g list fits all ok err order =
    subst IsInOrder (sym ok) (record { own = own_committed old g list all order.own; fits = fits_committed old g (from_list list) fits order.fits })
order_after_commit (Err e) old new g list fits all ok err order = subst IsInOrder (sym err) order

-- no participants change
own_recorded : (c : Content) (b : Branch) (how : How) → AreOwn c → AreOwn (with_heuristic_record b how c)
own_recorded c b how own = elim (contains_key c.heuristics b) as (λ t. AreOwn (cond t c (with_heuristic b how c))) [ true ↦ own | false ↦ own ]

pub order_after_note : {A E : Type 0} (result : Result A E) (old new : Content) (b : Branch) (how : How) → FitsRow b.gtrid
    → OnOk result (new ≡ with_heuristic_record b how old) → OnErr result (new ≡ old) → IsInOrder old → IsInOrder new
order_after_note (Ok x) old new b how fits ok err order =
    subst IsInOrder (sym ok) (record { own = own_recorded old b how order.own; fits = fits_recorded old b how fits order.fits })
order_after_note (Err e) old new b how fits ok err order = subst IsInOrder (sym err) order

pub order_after_raise : {A E : Type 0} (result : Result A E) (old new : MemLog)
    → OnOk result (new ≡ record old { incarnation = old.incarnation + 1 }) → OnErr result (new ≡ old)
    → IsInOrder (content_held old) → IsInOrder (content_held new)
order_after_raise (Ok x) old new ok err order =
    subst (λ l. IsInOrder (content_held l)) (sym ok)
    (record { own = order.own; fits = record { decisions = order.fits.decisions; heuristics = order.fits.heuristics } })
order_after_raise (Err e) old new ok err order = subst (λ l. IsInOrder (content_held l)) (sym err) order

-- ** a call that made its change, or failed and made none

pub held_changes : {A : Type 0} (change : Content → Content) (old new : Content) (n m : ℕ) (r : Result A LogFault)
    → OnOk r (new ≡ change old) → OnErr r (new ≡ old)
    → (IsInOrder old → IsInOrder new) → m ≡ faults_after r n → Changes change (memory_moment old n) (memory_moment new m) r
held_changes change old new n m (Ok x) ok err order faults = record {
  ok = λ was clean. ap Some ok;
  err = λ was. tt;
  crash = λ was clean c is. inr (is ∙ ok);
  order = order;
  honest = λ clean. clean;
  faults = faults;
}
held_changes change old new n m (Err e) ok err order faults = record {
  ok = λ was clean. tt;
  err = λ was. inr (inl (ap Some err));
  crash = λ was clean c is. inl (is ∙ err);
  order = order;
  honest = λ clean. clean;
  faults = faults;
}

pub bump_held : (old new : MemLog) (n m : ℕ) (answer r : Result ℕ LogFault) → r ≡ answer
    → OnOk answer (new ≡ record old { incarnation = old.incarnation + 1 }) → OnErr answer (new ≡ old)
    → m ≡ faults_after r n → Changes with_bump (memory_moment (content_held old) n) (memory_moment (content_held new) m) r
bump_held old new n m (Ok x) r same ok err faults = subst (Changes with_bump (memory_moment (content_held old) n) (memory_moment (content_held new) m))
    (sym same)
    (held_changes with_bump (content_held old) (content_held new) n m (Ok x) (ap content_held ok) tt
    (order_after_raise {A = ℕ} {E = LogFault} (Ok x) old new ok tt) (faults ∙ ap (λ a. faults_after a n) same))
bump_held old new n m (Err e) r same ok err faults = subst (Changes with_bump (memory_moment (content_held old) n) (memory_moment (content_held new) m))
    (sym same)
    (held_changes with_bump (content_held old) (content_held new) n m (Err e) tt (ap content_held err)
    (order_after_raise {A = ℕ} {E = LogFault} (Err e) old new tt err) (faults ∙ ap (λ a. faults_after a n) same))
