-- What backs the place of a branch, and the outcome of a transaction.
use Rattle.std.proofs.Common.{◌≡◌, ◌∙◌, ◌∷◌, ◌++◌, ap, ℕ, ◌<◌, Bool, true, false, ◌&&◌, ◌||◌, List, [], Option, Some, None, get_or, length, take, drop, refl, inl, inr, subst, sym, eq-eqb, lit<}
use Rattle.std.proofs.Math.ListN.{set}
use Rattle.std.proofs.lemmas.Bool.{and_from, and_parts, cases_Bool, false≢true, or_cases, or_left, or_right, true≢false}
use Rattle.std.proofs.lemmas.List.Elements.{All-append, All-drop, All-push, All-set, All-take, All-weaker}
use Rattle.std.specs.List.{list_any}
use Rattle.std.specs.Prelude.{All}
use Rattle.xa_base.proofs.XidOrder.{xid_eq-refl}
use Rattle.xa_base.specs.Branch.{xid_of_branch}
use Rattle.xa_base.specs.Xid.{Xid}
use Rattle.xa_base.specs.declared.branch.Branch.{Branch}
use Rattle.xa_base.specs.declared.branch.Gtrid.{Gtrid}
use Rattle.xa_base.specs.declared.call.CallKind.{CallKind}
use Rattle.xa_base.specs.declared.code.Code.{Code}
use Rattle.xa_base.specs.declared.code.Code.TheVariants as codes
use Rattle.xa_base.specs.declared.code.How.TheVariants as hows
use Rattle.xa_requests.specs.declared.request.Request.{Request}
use Rattle.xa_requests.specs.declared.request.Request.TheVariants as requests
use Rattle.xa_conduct.specs.Backing.{AreBacked, KeepAllBacked, IsBacked, IsToldSo, KeepsBacked, KeepsResting, OutcomeRests, RestOn, TransactionRests, WasAtOnce, asks_at_once, asks_commit, asks_forget, asks_prepare, asks_rollback, branch_at_rm, is_backed, says_committed, is_end, is_later, is_on, says_rolled_back, is_yes_vote, loses, standing_once_heard, tells_code, was_asked}
use Rattle.xa_conduct.specs.Decided.{AsksNoLess, is_commit_of, is_rollback_of, is_same}
use Rattle.xa_conduct.specs.Meaning.{kind_at, step_at}
use Rattle.xa_conduct.specs.Places.{is_asked, steps_at}
use Rattle.xa_conduct.specs.declared.meaning.Heard.{Heard}
use Rattle.xa_conduct.specs.declared.meaning.Heard.TheVariants as heards
use Rattle.xa_conduct.specs.declared.meaning.Step.{Step}
use Rattle.xa_conduct.specs.declared.part.Part.{Part}
use Rattle.xa_conduct.specs.declared.place.Place.{Place}
use Rattle.xa_conduct.specs.declared.place.Place.TheVariants.{Working, Preparing, AtOnce, Prepared, Committing, RollingBack, Undoing, Refusing, Forgetting, Over, Owed}
use Rattle.xa_conduct.specs.declared.report.Report.{Report}
use Rattle.xa_conduct.specs.declared.report.Report.TheVariants as reports
use Rattle.xa_conduct.specs.declared.transaction.Standing.{Standing}
use Rattle.xa_conduct.specs.declared.transaction.Standing.TheVariants as standings
use Rattle.xa_conduct.specs.declared.transaction.Transaction.{Transaction}

-- ** what names itself

pub on_itself : (b : Branch) → is_on b b.thread b.rm (xid_of_branch b) ≡ true
on_itself b =
    and_from _ _ (eq-eqb b.thread b.thread refl) (and_from _ _ (eq-eqb b.rm b.rm refl) (xid_eq-refl (xid_of_branch b)))

pub on_named : (b : Branch) (x : Xid) → x ≡ xid_of_branch b → is_on b b.thread b.rm x ≡ true
on_named b x is = ap (is_on b b.thread b.rm) is ∙ on_itself b

pub loses_itself : (b : Branch) → loses b (requests.CrashLine b.thread b.rm) ≡ true
loses_itself b = and_from _ _ (eq-eqb b.thread b.thread refl) (eq-eqb b.rm b.rm refl)

pub same_itself : (g : Gtrid) → is_same g g ≡ true
same_itself g = and_from _ _ (eq-eqb g.incarnation g.incarnation refl) (eq-eqb g.sequence g.sequence refl)

-- ** more that was asked

pub asked_more : (past old new : List Request) → AsksNoLess old new → (p : Request → Bool) → was_asked past old p ≡ true → was_asked past new p ≡ true
asked_more past old new no_less p asked =
    elim (or_cases (list_any p past) (list_any p old) asked) [
      | inl before ↦ or_left (list_any p past) (list_any p new) before
      | inr here ↦ or_right (list_any p past) (list_any p new) (no_less p here)
    ]

pub asked_now : (past plan : List Request) (p : Request → Bool) → list_any p plan ≡ true → was_asked past plan p ≡ true
asked_now past plan p here = or_right (list_any p past) (list_any p plan) here

module _ (asked more : (Request → Bool) → Bool) (keeps : (p : Request → Bool) → asked p ≡ true → more p ≡ true) where
  both : (p q : Request → Bool) → (asked p && asked q) ≡ true → (more p && more q) ≡ true
  both p q are =
      let parts = and_parts (asked p) (asked q) are in and_from (more p) (more q) (keeps p parts.0) (keeps q parts.1)

  either : (p q : Request → Bool) → (asked p || asked q) ≡ true → (more p || more q) ≡ true
  either p q is =
      elim (or_cases (asked p) (asked q) is) [
        | inl one ↦ or_left (more p) (more q) (keeps p one)
        | inr other ↦ or_right (more p) (more q) (keeps q other)
      ]

  pub backed_more : (b : Branch) (place : Place) → is_backed asked b place ≡ true → is_backed more b place ≡ true
  backed_more b Working backed = refl
  backed_more b Preparing backed = keeps (asks_prepare b) backed
  backed_more b AtOnce backed = keeps (asks_at_once b) backed
  backed_more b Prepared backed = keeps (tells_code is_yes_vote b) backed
  backed_more b Committing backed = both (is_commit_of b.gtrid) (asks_commit b) backed
  backed_more b RollingBack backed = both (is_rollback_of b.gtrid) (asks_rollback b) backed
  backed_more b Undoing backed = both (is_rollback_of b.gtrid) (asks_rollback b) backed
  backed_more b Refusing backed = both (is_rollback_of b.gtrid) (asks_prepare b) backed
  backed_more b Forgetting backed = keeps (asks_forget b) backed
  backed_more b Over backed = keeps (tells_code is_end b) backed
  backed_more b Owed backed = either (loses b) (tells_code is_later b) backed

  at_once_more : (g : Gtrid) (t : ℕ) (then : Branch → Request → Bool) → WasAtOnce asked g t then → WasAtOnce more g t then
  at_once_more g t then was = record {
    rm = was.rm;
    issued = keeps (asks_at_once (branch_at_rm g t was.rm)) was.issued;
    heard = keeps (then (branch_at_rm g t was.rm)) was.heard;
  }

  pub outcome_more : (g : Gtrid) (t : ℕ) (standing : Standing) → OutcomeRests asked g t standing → OutcomeRests more g t standing
  outcome_more g t standings.Idle rests = tt
  outcome_more g t standings.Open rests = tt
  outcome_more g t standings.Ready rests = tt
  outcome_more g t standings.Committed rests =
      elim rests [ inl decided ↦ inl (keeps (is_commit_of g) decided) | inr was ↦ inr (at_once_more g t (tells_code says_committed) was) ]
  outcome_more g t (standings.RolledBack why) rests =
      elim rests [ inl decided ↦ inl (keeps (is_rollback_of g) decided) | inr was ↦ inr (at_once_more g t (tells_code says_rolled_back) was) ]
  outcome_more g t standings.Unknown rests = at_once_more g t loses rests

  pub parts_more : (g : Gtrid) (t : ℕ) (parts : List Part) → All (IsBacked asked g t) parts → All (IsBacked more g t) parts
  parts_more g t parts backed =
      All-weaker (IsBacked asked g t) (IsBacked more g t) (λ part. backed_more (branch_at_rm g t part.rm) part.place) parts backed

  pub rest_more : (g : Gtrid) (t : ℕ) (standing : Standing) (parts : List Part) → RestOn asked g t standing parts → RestOn more g t standing parts
  rest_more g t standing parts rest = record {
    outcome = outcome_more g t standing rest.outcome;
    parts = parts_more g t parts rest.parts;
  }

  pub rests_more : (t : Transaction) → TransactionRests asked t → TransactionRests more t
  rests_more t rests = rest_more t.gtrid t.thread t.standing t.parts.items rests

  pub all_rest_more : (ts : List Transaction) → All (TransactionRests asked) ts → All (TransactionRests more) ts
  all_rest_more ts rest = All-weaker (TransactionRests asked) (TransactionRests more) rests_more ts rest

-- ** what was heard

module _ (asked : (Request → Bool) → Bool) (b : Branch) where
  -- where a report takes a branch, what was told then backs
  pub step_backed : (place : Place) (report : Report) → is_asked place ≡ true → IsToldSo asked b place (step_at place report).code
      → ((step_at place report).place ≡ Forgetting → asked (asks_forget b) ≡ true) → is_backed asked b (step_at place report).place ≡ true
  step_backed Preparing (reports.Code codes.Success) is told forgets = told is_yes_vote refl
  step_backed Preparing (reports.Code codes.ReadOnly) is told forgets = told is_end refl
  step_backed Preparing (reports.Code (codes.RolledBack why)) is told forgets = told is_end refl
  step_backed Preparing _ is told forgets = or_left (asked (loses b)) (asked (tells_code is_later b)) told
  step_backed AtOnce (reports.Code codes.Success) is told forgets = told is_end refl
  step_backed AtOnce (reports.Code (codes.RolledBack why)) is told forgets = told is_end refl
  step_backed AtOnce (reports.Code codes.RmError) is told forgets = told is_end refl
  step_backed AtOnce _ is told forgets = or_left (asked (loses b)) (asked (tells_code is_later b)) told
  step_backed Committing (reports.Code codes.Success) is told forgets = told is_end refl
  step_backed Committing (reports.Code codes.Retry) is told forgets = or_right (asked (loses b)) (asked (tells_code is_later b)) (told is_later refl)
  step_backed Committing (reports.Code (codes.Heuristic how)) is told forgets = forgets refl
  step_backed Committing (reports.Code (codes.RolledBack why)) is told forgets = forgets refl
  step_backed Committing (reports.Code codes.RmError) is told forgets = forgets refl
  step_backed Committing (reports.Code codes.NotAnXid) is told forgets = forgets refl
  step_backed Committing _ is told forgets = or_left (asked (loses b)) (asked (tells_code is_later b)) told
  step_backed RollingBack (reports.Code codes.Success) is told forgets = told is_end refl
  step_backed RollingBack (reports.Code (codes.RolledBack why)) is told forgets = told is_end refl
  step_backed RollingBack (reports.Code (codes.Heuristic how)) is told forgets = forgets refl
  step_backed RollingBack (reports.Code codes.NotAnXid) is told forgets = forgets refl
  step_backed RollingBack _ is told forgets = or_left (asked (loses b)) (asked (tells_code is_later b)) told
  step_backed Undoing (reports.Code codes.Success) is told forgets = told is_end refl
  step_backed Undoing (reports.Code (codes.RolledBack why)) is told forgets = told is_end refl
  step_backed Undoing (reports.Code codes.NotAnXid) is told forgets = told is_end refl
  step_backed Undoing (reports.Code (codes.Heuristic hows.Rb)) is told forgets = told is_end refl
  step_backed Undoing _ is told forgets = or_left (asked (loses b)) (asked (tells_code is_later b)) told
  step_backed Refusing (reports.Code codes.Success) is told forgets = told is_end refl
  step_backed Refusing (reports.Code (codes.RolledBack why)) is told forgets = told is_end refl
  step_backed Refusing (reports.Code codes.NotAnXid) is told forgets = told is_end refl
  step_backed Refusing (reports.Code (codes.Heuristic hows.Rb)) is told forgets = told is_end refl
  step_backed Refusing _ is told forgets = or_left (asked (loses b)) (asked (tells_code is_later b)) told
  step_backed Forgetting (reports.Code codes.Success) is told forgets = told is_end refl
  step_backed Forgetting (reports.Code codes.NotAnXid) is told forgets = told is_end refl
  step_backed Forgetting (reports.Code codes.RmError) is told forgets = told is_end refl
  step_backed Forgetting _ is told forgets = or_left (asked (loses b)) (asked (tells_code is_later b)) told
  step_backed Working report is told forgets = absurd (false≢true is)
  step_backed Prepared report is told forgets = absurd (false≢true is)
  step_backed Over report is told forgets = absurd (false≢true is)
  step_backed Owed report is told forgets = absurd (false≢true is)

module _ (asked : (Request → Bool) → Bool) (g : Gtrid) (t rm : ℕ) (standing : Standing) where
  -- and how the transaction then stands rests on it
  pub outcome_heard : (place : Place) (report : Report) → is_backed asked (branch_at_rm g t rm) place ≡ true
      → IsToldSo asked (branch_at_rm g t rm) place (step_at place report).code → OutcomeRests asked g t standing
      → OutcomeRests asked g t (standing_once_heard standing (step_at place report).heard rm)
  outcome_heard AtOnce (reports.Code codes.Success) backed told rests = inr (record { rm = rm; issued = backed; heard = told says_committed refl })
  outcome_heard AtOnce (reports.Code (codes.RolledBack why)) backed told rests =
      inr (record { rm = rm; issued = backed; heard = told says_rolled_back refl })
  outcome_heard AtOnce (reports.Code codes.RmError) backed told rests = inr (record { rm = rm; issued = backed; heard = told says_rolled_back refl })
  outcome_heard AtOnce _ backed told rests = record { rm = rm; issued = backed; heard = told }
  outcome_heard Preparing (reports.Code codes.Success) backed told rests = rests
  outcome_heard Preparing (reports.Code (codes.RolledBack why)) backed told rests = rests
  outcome_heard Preparing _ backed told rests = rests
  outcome_heard Committing (reports.Code codes.Success) backed told rests = rests
  outcome_heard Committing (reports.Code (codes.RolledBack why)) backed told rests = rests
  outcome_heard Committing _ backed told rests = rests
  outcome_heard RollingBack (reports.Code codes.Success) backed told rests = rests
  outcome_heard RollingBack (reports.Code (codes.RolledBack why)) backed told rests = rests
  outcome_heard RollingBack _ backed told rests = rests
  outcome_heard Undoing (reports.Code codes.Success) backed told rests = rests
  outcome_heard Undoing (reports.Code (codes.Heuristic hows.Rb)) backed told rests = rests
  outcome_heard Undoing _ backed told rests = rests
  outcome_heard Refusing (reports.Code codes.Success) backed told rests = rests
  outcome_heard Refusing (reports.Code (codes.Heuristic hows.Rb)) backed told rests = rests
  outcome_heard Refusing _ backed told rests = rests
  outcome_heard Forgetting (reports.Code codes.Success) backed told rests = rests
  outcome_heard Forgetting (reports.Code (codes.RolledBack why)) backed told rests = rests
  outcome_heard Forgetting _ backed told rests = rests
  outcome_heard Working report backed told rests = rests
  outcome_heard Prepared report backed told rests = rests
  outcome_heard Over report backed told rests = rests
  outcome_heard Owed report backed told rests = rests

-- ** one branch after another

-- one of them goes on, and more was asked for
pub part_moved : (past old new : List Request) (g : Gtrid) (t : ℕ) (parts : List Part) (i : ℕ) (d to : Part) → i < length parts
    → to.rm ≡ (get_or parts i d).rm → AsksNoLess old new
    → KeepsBacked old new (branch_at_rm g t (get_or parts i d).rm) (get_or parts i d).place to.place
    → AreBacked (was_asked past old) g t parts → AreBacked (was_asked past new) g t (set parts i to)
part_moved past old new g t parts i d to within same more keeps backed =
    All-set (IsBacked (was_asked past new) g t) parts i to
    (subst (λ (rm : ℕ). is_backed (was_asked past new) (branch_at_rm g t rm) to.place ≡ true) (sym same) (keeps past (backed i d within)))
    (parts_more (was_asked past old) (was_asked past new) (asked_more past old new more) g t parts backed)

-- as they went on before
pub branches_moved : (begun old new : List Request) (g : Gtrid) (t : ℕ) (first parts : List Part) (i : ℕ) (d to : Part) → i < length parts
    → to.rm ≡ (get_or parts i d).rm → AsksNoLess old new
    → KeepsBacked old new (branch_at_rm g t (get_or parts i d).rm) (get_or parts i d).place to.place
    → KeepAllBacked begun old g t first parts → KeepAllBacked begun new g t first (set parts i to)
branches_moved begun old new g t first parts i d to within same more keeps kept = λ past backed.
    part_moved past old new g t parts i d to within same more keeps (kept past backed)

-- ** one report

-- nothing follows for a branch that waits for none
pub no_step : (place : Place) (report : Report) → is_asked place ≡ false → step_at place report ≡ record { code = None; place = place; heard = heards.Nothing }
no_step Working report is = refl
no_step Prepared report is = refl
no_step Over report is = refl
no_step Owed report is = refl
no_step Preparing report is = absurd (true≢false is)
no_step AtOnce report is = absurd (true≢false is)
no_step Committing report is = absurd (true≢false is)
no_step RollingBack report is = absurd (true≢false is)
no_step Undoing report is = absurd (true≢false is)
no_step Refusing report is = absurd (true≢false is)
no_step Forgetting report is = absurd (true≢false is)

-- a branch that waits for one is closer to its end then
pub step_closer : (place : Place) (report : Report) → is_asked place ≡ true → steps_at place < steps_at (step_at place report).place
step_closer Preparing (reports.Code codes.Success) is = lit< tt
step_closer Preparing (reports.Code codes.ReadOnly) is = lit< tt
step_closer Preparing (reports.Code (codes.RolledBack why)) is = lit< tt
step_closer Preparing _ is = lit< tt
step_closer AtOnce (reports.Code codes.Success) is = lit< tt
step_closer AtOnce (reports.Code (codes.RolledBack why)) is = lit< tt
step_closer AtOnce (reports.Code codes.RmError) is = lit< tt
step_closer AtOnce _ is = lit< tt
step_closer Committing (reports.Code codes.Success) is = lit< tt
step_closer Committing (reports.Code (codes.Heuristic how)) is = lit< tt
step_closer Committing (reports.Code (codes.RolledBack why)) is = lit< tt
step_closer Committing _ is = lit< tt
step_closer RollingBack (reports.Code codes.Success) is = lit< tt
step_closer RollingBack (reports.Code (codes.Heuristic how)) is = lit< tt
step_closer RollingBack (reports.Code (codes.RolledBack why)) is = lit< tt
step_closer RollingBack _ is = lit< tt
step_closer Undoing (reports.Code codes.Success) is = lit< tt
step_closer Undoing (reports.Code (codes.RolledBack why)) is = lit< tt
step_closer Undoing (reports.Code (codes.Heuristic hows.Rb)) is = lit< tt
step_closer Undoing _ is = lit< tt
step_closer Refusing (reports.Code codes.Success) is = lit< tt
step_closer Refusing (reports.Code (codes.RolledBack why)) is = lit< tt
step_closer Refusing (reports.Code (codes.Heuristic hows.Rb)) is = lit< tt
step_closer Refusing _ is = lit< tt
step_closer Forgetting (reports.Code codes.Success) is = lit< tt
step_closer Forgetting _ is = lit< tt
step_closer Working report is = absurd (false≢true is)
step_closer Prepared report is = absurd (false≢true is)
step_closer Over report is = absurd (false≢true is)
step_closer Owed report is = absurd (false≢true is)

told_more : (asked more : (Request → Bool) → Bool) → ((p : Request → Bool) → asked p ≡ true → more p ≡ true) → (b : Branch) (place : Place)
    (code : Option Code) → IsToldSo asked b place code → IsToldSo more b place code
told_more asked more keeps b place None told = keeps (loses b) told
told_more asked more keeps b place (Some code) told = λ are_so so. keeps (tells_code are_so b) (told are_so so)

pub told_kept : (old new : List Request) (b : Branch) (place : Place) (code : Option Code) → AsksNoLess old new
    → IsToldSo (was_asked [] old) b place code → IsToldSo (was_asked [] new) b place code
told_kept old new b place code more told = told_more (was_asked [] old) (was_asked [] new) (asked_more [] old new more) b place code told

pub told_at : (plan : List Request) (b : Branch) (kind : CallKind) (place : Place) (code : Code) → kind ≡ kind_at place
    → ((are_so : CallKind → Code → Bool) → are_so kind code ≡ true → list_any (tells_code are_so b) plan ≡ true)
    → IsToldSo (was_asked [] plan) b place (Some code)
told_at plan b kind place code is told = λ are_so so. told are_so (subst (λ (k : CallKind). are_so k code ≡ true) (sym is) so)

-- where a report took a branch, what was planned backs
pub heard_backed : (past plan : List Request) (b : Branch) (place : Place) (report : Report) (step : Step) → step ≡ step_at place report
    → is_asked place ≡ true → IsToldSo (was_asked [] plan) b place step.code → (step.place ≡ Forgetting → list_any (asks_forget b) plan ≡ true)
    → is_backed (was_asked past plan) b step.place ≡ true
heard_backed past plan b place report step is asked told forgets =
    let P : Step → Type 0 =
    λ (s : Step). IsToldSo (was_asked [] plan) b place s.code → (s.place ≡ Forgetting → list_any (asks_forget b) plan ≡ true)
    → is_backed (was_asked past plan) b s.place ≡ true in
    subst P (sym is)
    (λ t f. backed_more (was_asked [] plan) (was_asked past plan) (asked_now past plan) b (step_at place report).place
    (step_backed (was_asked [] plan) b place report asked t f))
    told forgets

-- and how the transaction stands then rests on it
pub outcome_moved : (past old new : List Request) (g : Gtrid) (t rm : ℕ) (standing : Standing) (heard : Heard) (place : Place) (report : Report)
    → AsksNoLess old new → is_backed (was_asked past old) (branch_at_rm g t rm) place ≡ true
    → IsToldSo (was_asked [] new) (branch_at_rm g t rm) place (step_at place report).code → heard ≡ (step_at place report).heard
    → OutcomeRests (was_asked past old) g t standing → OutcomeRests (was_asked past new) g t (standing_once_heard standing heard rm)
outcome_moved past old new g t rm standing heard place report more backed told is rests =
    let b = branch_at_rm g t rm in
    let keeps = asked_more past old new more in
    subst (λ (h : Heard). OutcomeRests (was_asked past new) g t (standing_once_heard standing h rm)) (sym is)
    (outcome_heard (was_asked past new) g t rm standing place report (backed_more (was_asked past old) (was_asked past new) keeps b place backed)
    (told_more (was_asked [] new) (was_asked past new) (asked_now past new) b place (step_at place report).code told)
    (outcome_more (was_asked past old) (was_asked past new) keeps g t standing rests))

-- also where the branch waited for no call
outcome_went : (past old new : List Request) (g : Gtrid) (t rm : ℕ) (standing : Standing) (heard : Heard) (place : Place) (report : Report)
    → AsksNoLess old new → is_backed (was_asked past old) (branch_at_rm g t rm) place ≡ true
    → (is_asked place ≡ true → IsToldSo (was_asked [] new) (branch_at_rm g t rm) place (step_at place report).code)
    → heard ≡ (step_at place report).heard → OutcomeRests (was_asked past old) g t standing
    → OutcomeRests (was_asked past new) g t (standing_once_heard standing heard rm)
outcome_went past old new g t rm standing heard place report more backed told is rests =
    elim (cases_Bool (is_asked place)) [
      | inl asked ↦ outcome_moved past old new g t rm standing heard place report more backed (told asked) is rests
      | inr idle ↦ subst (λ (h : Heard). OutcomeRests (was_asked past new) g t (standing_once_heard standing h rm))
          (sym (is ∙ ap (λ (s : Step). s.heard) (no_step place report idle)))
          (outcome_more (was_asked past old) (was_asked past new) (asked_more past old new more) g t standing rests)
    ]

-- ** the branches of a transaction

pub rest_kept : (past old new : List Request) (g : Gtrid) (t : ℕ) (standing : Standing) (parts : List Part) → AsksNoLess old new
    → RestOn (was_asked past old) g t standing parts → RestOn (was_asked past new) g t standing parts
rest_kept past old new g t standing parts more rest =
    rest_more (was_asked past old) (was_asked past new) (asked_more past old new more) g t standing parts rest

-- under other names of the same
pub rest_as : (asked : (Request → Bool) → Bool) (g h : Gtrid) (t u : ℕ) (standing other : Standing) (parts now : List Part) → h ≡ g → u ≡ t
    → other ≡ standing → now ≡ parts → RestOn asked g t standing parts → RestOn asked h u other now
rest_as asked g h t u standing other parts now same_g same_t same_s same_p rest =
    subst (λ (x : Gtrid). RestOn asked x u other now) (sym same_g)
    (subst (λ (x : ℕ). RestOn asked g x other now) (sym same_t)
    (subst (λ (x : Standing). RestOn asked g t x now) (sym same_s) (subst (RestOn asked g t standing) (sym same_p) rest)))

pub outcome_kept : (past old new : List Request) (g : Gtrid) (t : ℕ) (standing : Standing) → AsksNoLess old new
    → OutcomeRests (was_asked past old) g t standing → OutcomeRests (was_asked past new) g t standing
outcome_kept past old new g t standing more rests =
    outcome_more (was_asked past old) (was_asked past new) (asked_more past old new more) g t standing rests

pub parts_kept : (past old new : List Request) (g : Gtrid) (t : ℕ) (parts : List Part) → AsksNoLess old new → AreBacked (was_asked past old) g t parts
    → AreBacked (was_asked past new) g t parts
parts_kept past old new g t parts more backed = parts_more (was_asked past old) (was_asked past new) (asked_more past old new more) g t parts backed

-- all of them went on, and were written back
pub rest_each : (past old new : List Request) (g : Gtrid) (t : ℕ) (standing : Standing) (parts lent now : List Part) (len : ℕ) → AsksNoLess old new
    → lent ≡ parts → KeepAllBacked old new g t lent now → OutcomeRests (was_asked past new) g t standing → AreBacked (was_asked past old) g t parts
    → RestOn (was_asked past new) g t standing (take len (now ++ drop (length now) parts))
rest_each past old new g t standing parts lent now len more is keeps outcome backed =
    let P : Part → Type 0 = IsBacked (was_asked past new) g t in
    let went : All P now = keeps past (subst (AreBacked (was_asked past old) g t) (sym is) backed) in
    let rest : All P parts = parts_more (was_asked past old) (was_asked past new) (asked_more past old new more) g t parts backed in
    record {
      outcome = outcome;
      parts =
          All-take P len (now ++ drop (length now) parts) (All-append P now (drop (length now) parts) went (All-drop P (length now) parts rest));
    }

-- one branch more, at which work goes on
pub rest_joined : (asked : (Request → Bool) → Bool) (g : Gtrid) (t : ℕ) (standing : Standing) (parts now : List Part) (part : Part)
    → now ≡ parts ++ part ∷ [] → part.place ≡ Working → RestOn asked g t standing parts → RestOn asked g t standing now
rest_joined asked g t standing parts now part is works rest =
    let begun : IsBacked asked g t part = subst (λ (p : Place). is_backed asked (branch_at_rm g t part.rm) p ≡ true) (sym works) refl in
    record {
      outcome = rest.outcome;
      parts = subst (AreBacked asked g t) (sym is) (All-push (IsBacked asked g t) parts part rest.parts begun);
    }

-- one went on
pub rest_one : (past old new : List Request) (g : Gtrid) (t : ℕ) (standing : Standing) (parts : List Part) (i : ℕ) (from to : Part)
    → i < length parts → from ≡ get_or parts i from → to.rm ≡ from.rm → AsksNoLess old new
    → KeepsBacked old new (branch_at_rm g t from.rm) from.place to.place → RestOn (was_asked past old) g t standing parts
    → RestOn (was_asked past new) g t standing (set parts i to)
rest_one past old new g t standing parts i from to within at same more keeps rest =
    let here : IsBacked (was_asked past old) g t from = subst (IsBacked (was_asked past old) g t) (sym at) (rest.parts i from within) in
    record {
      outcome = outcome_kept past old new g t standing more rest.outcome;
      parts =
          All-set (IsBacked (was_asked past new) g t) parts i to
          (subst (λ (rm : ℕ). is_backed (was_asked past new) (branch_at_rm g t rm) to.place ≡ true) (sym same) (keeps past here))
          (parts_more (was_asked past old) (was_asked past new) (asked_more past old new more) g t parts rest.parts);
    }

-- one was heard
pub rest_heard : (past old new : List Request) (g : Gtrid) (t : ℕ) (standing after : Standing) (parts now : List Part) (i : ℕ) (from to : Part)
    (report : Report) (heard : Heard) → i < length parts → from ≡ get_or parts i from → now ≡ set parts i to → to.rm ≡ from.rm
    → AsksNoLess old new → KeepsBacked old new (branch_at_rm g t from.rm) from.place to.place
    → (is_asked from.place ≡ true → IsToldSo (was_asked [] new) (branch_at_rm g t from.rm) from.place (step_at from.place report).code)
    → heard ≡ (step_at from.place report).heard → after ≡ standing_once_heard standing heard from.rm
    → RestOn (was_asked past old) g t standing parts → RestOn (was_asked past new) g t after now
rest_heard past old new g t standing after parts now i from to report heard within at is same more keeps told hears stands rest =
    let here : IsBacked (was_asked past old) g t from = subst (IsBacked (was_asked past old) g t) (sym at) (rest.parts i from within) in
    record {
      outcome =
          subst (OutcomeRests (was_asked past new) g t) (sym stands)
          (outcome_went past old new g t from.rm standing heard from.place report more here told hears rest.outcome);
      parts =
          subst (AreBacked (was_asked past new) g t) (sym is)
          (All-set (IsBacked (was_asked past new) g t) parts i to
          (subst (λ (rm : ℕ). is_backed (was_asked past new) (branch_at_rm g t rm) to.place ≡ true) (sym same) (keeps past here))
          (parts_more (was_asked past old) (was_asked past new) (asked_more past old new more) g t parts rest.parts));
    }

-- ** one transaction after another

-- one of them goes on, and more was asked for
pub rest_moved : (past old new : List Request) (ts : List Transaction) (i : ℕ) (from to : Transaction) → i < length ts → from ≡ get_or ts i from
    → AsksNoLess old new → KeepsResting old new from to → All (TransactionRests (was_asked past old)) ts → All (TransactionRests (was_asked past new)) (set ts i to)
rest_moved past old new ts i from to within at more keeps rest =
    let here : TransactionRests (was_asked past old) from = subst (TransactionRests (was_asked past old)) (sym at) (rest i from within) in
    All-set (TransactionRests (was_asked past new)) ts i to (keeps past here)
    (all_rest_more (was_asked past old) (was_asked past new) (asked_more past old new more) ts rest)

-- more was asked for
pub rest_more_asked : (past old new : List Request) (ts : List Transaction) → AsksNoLess old new → All (TransactionRests (was_asked past old)) ts
    → All (TransactionRests (was_asked past new)) ts
rest_more_asked past old new ts more rest = all_rest_more (was_asked past old) (was_asked past new) (asked_more past old new more) ts rest

-- nothing has happened in one
pub rest_begun : (asked : (Request → Bool) → Bool) (ts : List Transaction) (i : ℕ) (to : Transaction) → TransactionRests asked to → All (TransactionRests asked) ts
    → All (TransactionRests asked) (set ts i to)
rest_begun asked ts i to begun rest = All-set (TransactionRests asked) ts i to begun rest

-- one is as it was
pub rest_same : (asked : (Request → Bool) → Bool) (ts : List Transaction) (i : ℕ) (same : Transaction) → i < length ts → same ≡ get_or ts i same
    → All (TransactionRests asked) ts → All (TransactionRests asked) (set ts i same)
rest_same asked ts i same within at rest = All-set (TransactionRests asked) ts i same (subst (TransactionRests asked) (sym at) (rest i same within)) rest

-- one more
pub rest_pushed : (asked : (Request → Bool) → Bool) (ts us : List Transaction) (to : Transaction) → us ≡ ts ++ to ∷ [] → TransactionRests asked to
    → All (TransactionRests asked) ts → All (TransactionRests asked) us
rest_pushed asked ts us to is begun rest = subst (All (TransactionRests asked)) (sym is) (All-push (TransactionRests asked) ts to rest begun)
