-- What each step of a session does to what is owed.
use Rattle.std.proofs.Common.{◌≡◌, inl, inr, ◌∙◌, ℕ, Bool, true, false, not, ◌&&◌, ◌||◌, List, [], ◌∷◌, map, Option, Some, None, length, refl, sym, ap, arith}
use Rattle.std.specs.Prelude.{Result, Ok, Err, IfErr, IfOk, OnErr, OnOk, if◌then◌else◌, nat_eq, nat_lt}
use Rattle.std.proofs.lemmas.Bool.{and_parts, eqb-true, le-ltb}
use Rattle.xa_base.proofs.BranchKeys.{gtrid_eq-true}
use Rattle.xa_base.specs.Answer.{map_answer}
use Rattle.xa_base.specs.Branch.{gtrid_eq}
use Rattle.xa_base.specs.Call.{map_call}
use Rattle.xa_base.specs.Xid.{Xid}
use Rattle.xa_base.specs.declared.answer.Answer.{Answer}
use Rattle.xa_base.specs.declared.branch.Branch.{Branch}
use Rattle.xa_base.specs.declared.branch.Gtrid.{Gtrid}
use Rattle.xa_base.specs.declared.call.Call.{Call}
use Rattle.xa_base.specs.declared.refusal.Refusal.{Refusal}
use Rattle.xa_base.specs.declared.refusal.Refusal.TheVariants.{Limit, Memory}
use Rattle.xa_base.specs.declared.step.Outcome.{Outcome}
use Rattle.xa_base.specs.declared.step.Outcome.TheVariants as Outcomes
use Rattle.xa_base.specs.declared.step.Step.TheVariants as Steps
use Rattle.xa_model.specs.Facts.{record_of}
use Rattle.xa_model.specs.Replies.History.{name_of}
use Rattle.xa_model.specs.Replies.Steps.{accepted}
use Rattle.xa_model.specs.Trace.{Call as KnownCall, Fault, Fault.InDecide, Fault.InDone, Fault.InHear, Happening.Decided, Happening.Done, Happening.Issued, line}
use Rattle.xa_server.proofs.KnownCalls.{known_first, known_issue, or_none}
use Rattle.xa_model.proofs.Replies.Guards.{peel}
use Rattle.xa_session.proofs.Refusals.{begun_if_decided, begun_if_settled, if_there}
use Rattle.xa_session.specs.Answering.{HearsAs, IsFirst, IsFoundLater}
use Rattle.xa_session.specs.Following.{StaysAs}
use Rattle.xa_session.specs.Session.{decide_all_refusal, done_all_refusal, has_room_for, issue_refusal, line_refusal, refusal_at, unfit}
use Rattle.xa_session.specs.Steps.{Abandons, Begins, Claims, Decides, Finishes, Forgets, HappenInTurn, Happens, Hears, Issues, Loses, Resolves, ResolvesOpen, Settles}
use Rattle.xa_session.specs.declared.session.Session.{Session}
use Rattle.xa_session.specs.declared.session.answers.Unfit.{Unfit}
use Rattle.xa_tm.specs.Book.{Book, Doubt, Doubt.Adds, Doubt.Drops, Waiting, after, after_all, doubt_of, rows_for, voted_yes}
use Rattle.xa_tm.specs.Calls.{FailsBy, book_in, written_by}
use Rattle.xa_tm.specs.LedgerBook.{numbered_by, transaction_at}
use Rattle.xa_tm.specs.Refusing.{refusal_in, refusal_in_turn}
use Rattle.xa_tm.specs.Owed.{owes, waits_for}
use Rattle.xa_server.specs.Rows.{OwesAllBut, is_gtrid_among}

nothing : (s t : Bool) → (s && (t && false)) ≡ false
nothing true true = refl
nothing true false = refl
nothing false t = refl

never : (s x : Bool) → (s && (false && x)) ≡ false
never true x = refl
never false x = refl

-- ** what is decided owes nothing: it is of this incarnation

-- what was begun is of the manager's incarnation
abbrev AllCurrent : Book → Type 0
AllCurrent k = (g : Gtrid) → (k.transaction g).begun ≡ true → g.incarnation ≡ k.incarnation

current : {L : Type 0} (s : Session L) → AllCurrent (book_in s.manager)
current s g begun =
    let k = s.manager.ledger in
    let numbered = (and_parts (numbered_by k.is_up k.incarnation k.sequence g) (transaction_at k.transactions g).is_begun begun).0 in
    eqb-true g.incarnation k.incarnation (and_parts (nat_eq g.incarnation k.incarnation) _ (and_parts k.is_up _ numbered).1).0

decided_owes : (k : Book) (g : Gtrid) (rm : ℕ) (b : Branch) → g.incarnation ≡ k.incarnation
    → owes (after k (Decided g Outcomes.Commit)) rm b ≡ owes k rm b
decided_owes k g rm b current = by (k.transaction g).has_yes (gtrid_eq g b.gtrid) refl
  where
    late : gtrid_eq g b.gtrid ≡ true → nat_lt b.gtrid.incarnation k.incarnation ≡ false
    late same =
        let is : b.gtrid.incarnation ≡ k.incarnation = sym (ap (λ h. h.incarnation) (gtrid_eq-true g b.gtrid same)) ∙ current in
        le-ltb b.gtrid.incarnation k.incarnation (omega (arith, is))

    gone : (row : Option Waiting) → nat_lt b.gtrid.incarnation k.incarnation ≡ false
        → (nat_eq b.rm rm && (nat_lt b.gtrid.incarnation k.incarnation && waits_for row b)) ≡ false
    gone row late = ap (λ t. nat_eq b.rm rm && (t && waits_for row b)) late ∙ never (nat_eq b.rm rm) (waits_for row b)

    by : (y t : Bool) → gtrid_eq g b.gtrid ≡ t
        → (nat_eq b.rm rm && (nat_lt b.gtrid.incarnation k.incarnation
        && waits_for (if y then (if t then Some (voted_yes k g) else k.row b.gtrid) else k.row b.gtrid) b)) ≡ owes k rm b
    by true true e = gone (Some (voted_yes k g)) (late e) ∙ sym (gone (k.row b.gtrid) (late e))
    by true false e = refl
    by false t e = refl

still_current : (k : Book) (g : Gtrid) (o : Outcome) → AllCurrent k → AllCurrent (after k (Decided g o))
still_current k g Outcomes.Commit all h begun = all h begun
still_current k g Outcomes.Rollback all h begun = all h begun

one_decided_owes : (o : Outcome) (k : Book) (g : Gtrid) (rm : ℕ) (b : Branch) → g.incarnation ≡ k.incarnation
    → owes (after k (Decided g o)) rm b ≡ owes k rm b
one_decided_owes Outcomes.Commit k g rm b current = decided_owes k g rm b current
one_decided_owes Outcomes.Rollback k g rm b current = refl

all_decided_owes : (o : Outcome) (gs : List Gtrid) (k : Book) → AllCurrent k
    → refusal_in_turn (λ g. Steps.Decide g o) (λ g. Decided g o) k gs ≡ None → OwesAllBut [] k (after_all k (map (λ g. Decided g o) gs))
all_decided_owes o [] k all none rm b = refl
all_decided_owes o (g ∷ gs) k all none rm b =
    let parts = or_none (refusal_in k (Steps.Decide g o)) _ none in
    all_decided_owes o gs (after k (Decided g o)) (still_current k g o all) parts.1 rm b
    ∙ one_decided_owes o k g rm b (all g (begun_if_decided k g o parts.0))

-- ** what is done is owed no more

done_owes : (k : Book) (g : Gtrid) (rm : ℕ) (b : Branch) → owes (after k (Done g)) rm b ≡ (not (gtrid_eq g b.gtrid) && owes k rm b)
done_owes k g rm b = by (gtrid_eq g b.gtrid)
  where
    by : (t : Bool) → (nat_eq b.rm rm && (nat_lt b.gtrid.incarnation k.incarnation && waits_for (if t then None else k.row b.gtrid) b))
        ≡ (not t && owes k rm b)
    by true = nothing (nat_eq b.rm rm) (nat_lt b.gtrid.incarnation k.incarnation)
    by false = refl

all_done_owes : (gs : List Gtrid) (k : Book) → OwesAllBut gs k (after_all k (map (λ g. Done g) gs))
all_done_owes [] k rm b = refl
all_done_owes (g ∷ gs) k rm b =
    all_done_owes gs (after k (Done g)) rm b ∙ ap (λ t. not (is_gtrid_among gs b.gtrid) && t) (done_owes k g rm b)
    ∙ both (is_gtrid_among gs b.gtrid) (gtrid_eq g b.gtrid) (owes k rm b)
  where
    both : (s t x : Bool) → (not s && (not t && x)) ≡ (not (t || s) && x)
    both true true x = refl
    both true false x = refl
    both false true x = refl
    both false false x = refl

-- ** each step of a session

module _ {L : Type 0} (s t : Session L) where
  -- as much is owed as was
  abbrev pub OwesTheSame : Type 0
  OwesTheSame = OwesAllBut [] (book_in s.manager) (book_in t.manager)

  pub same_owes : t ≡ s → OwesTheSame
  same_owes is = λ rm b. ap (λ x. owes (book_in x.manager) rm b) is

  stays_owes : StaysAs s t → OwesTheSame
  stays_owes stays = λ rm b. ap (λ k. owes k rm b) stays.book

  err_owes : {A E : Type 0} (r : Result A E) → OnErr r (StaysAs s t) → OnErr r OwesTheSame
  err_owes (Ok x) stays = tt
  err_owes (Err n) stays = stays_owes stays

  by_result : {A E : Type 0} {P : A → Type 0} (r : Result A E) → IfOk r P → ((x : A) → P x → OwesTheSame) → OnErr r OwesTheSame → OwesTheSame
  by_result (Ok x) ok f err = f x ok
  by_result (Err n) ok f err = err

  failed_owes : (asked : Doubt) (f : Fault) (n : Refusal) → FailsBy asked f (book_in s.manager) (book_in t.manager) n → OwesTheSame
  failed_owes asked f n (inl lacks) = λ rm b. ap (λ k. owes k rm b) lacks.1
  failed_owes asked f n (inr faulty) = λ rm b. ap (λ k. owes k rm b) faulty.1

  -- a step that no rule refuses fails so
  unless_refused : {A : Type 0} (why : Option Refusal) (asked : Doubt) (f : Fault) (r : Result A Refusal)
      → ((n : Refusal) → why ≡ Some n → (r ≡ Err n) × (t ≡ s))
      → (why ≡ None → IfErr r (FailsBy asked f (book_in s.manager) (book_in t.manager))) → OnErr r OwesTheSame
  unless_refused why asked f (Ok x) refused fails = tt
  unless_refused why asked f (Err n) refused fails = by why refl
    where
      by : (w : Option Refusal) → why ≡ w → OwesTheSame
      by None is = failed_owes asked f n (fails is)
      by (Some m) is = same_owes (refused m is).1

  pub begun_owes : (thread : ℕ) (r : Result Gtrid Refusal) → Begins thread s t r → OwesTheSame
  begun_owes thread r does = by_result r does.begun (λ g happens rm b. ap (λ k. owes k rm b) happens.book) (err_owes r does.quiet.stays)

  pub claimed_owes : (g : Gtrid) (r : Result (Unit {0}) Refusal) → Claims g s t r → OwesTheSame
  claimed_owes g r does = by_result r does.claimed (λ x happens rm b. ap (λ k. owes k rm b) happens.book) (err_owes r does.quiet.stays)

  pub abandoned_owes : (g : Gtrid) (r : Result (Unit {0}) Refusal) → Abandons g s t r → OwesTheSame
  abandoned_owes g r does = by_result r does.decided (λ x happens rm b. ap (λ k. owes k rm b) happens.book) (err_owes r does.quiet.stays)

  pub ended_owes : (gs : List Gtrid) (o : Outcome) (r : Result (Unit {0}) Refusal) → Decides gs o s t r → OwesTheSame
  ended_owes gs o r does =
      by_allowed r does.rules.allowed does.decided
      (unless_refused (decide_all_refusal s o gs) (Adds (rows_for (book_in s.manager) (written_by o (book_in s.manager) gs)))
      (InDecide (written_by o (book_in s.manager) gs)) r does.rules.refused does.asks.fails)
    where
      by_allowed : (q : Result (Unit {0}) Refusal) → OnOk q (decide_all_refusal s o gs ≡ None) → OnOk q (HappenInTurn (map (λ g. Decided g o) gs) s t)
          → OnErr q OwesTheSame → OwesTheSame
      by_allowed (Ok x) none happens err = λ rm b.
          ap (λ k. owes k rm b) happens.book ∙ all_decided_owes o gs (book_in s.manager) (current s) (if_there (has_room_for s (length gs)) _ Limit none) rm b
      by_allowed (Err n) none happens err = err

  pub settled_owes : (g : Gtrid) (r : Result (Unit {0}) Refusal) → Settles g s t r → OwesTheSame
  settled_owes g r does =
      by_allowed r does.rules.allowed does.decided
      (unless_refused (refusal_at s (Steps.Settle g)) (Adds (rows_for (book_in s.manager) (g ∷ []))) (InDecide (g ∷ [])) r does.rules.refused does.asks.fails)
    where
      by_allowed : (q : Result (Unit {0}) Refusal) → OnOk q (refusal_at s (Steps.Settle g) ≡ None) → OnOk q (Happens (Decided g Outcomes.Commit) s t)
          → OnErr q OwesTheSame → OwesTheSame
      by_allowed (Ok x) none happens err = λ rm b.
          ap (λ k. owes k rm b) happens.book
          ∙ decided_owes (book_in s.manager) g rm b (current s g (begun_if_settled (book_in s.manager) g (peel _ _ _ none).1))
      by_allowed (Err n) none happens err = err

  pub finished_owes : (gs : List Gtrid) (r : Result (Unit {0}) Refusal) → Finishes gs s t r
      → OnOk r (OwesAllBut gs (book_in s.manager) (book_in t.manager))
  finished_owes gs (Ok x) does = λ rm b. ap (λ k. owes k rm b) does.done.book ∙ all_done_owes gs (book_in s.manager) rm b
  finished_owes gs (Err n) does = tt

  pub unfinished_owes : (gs : List Gtrid) (r : Result (Unit {0}) Refusal) → Finishes gs s t r → OnErr r OwesTheSame
  unfinished_owes gs r does = unless_refused (done_all_refusal s gs) (Drops gs) (InDone gs) r does.rules.refused does.asks.fails

  pub issued_owes : (thread rm : ℕ) (call : Call Xid) (r : Result (Unit {0}) Refusal) → Issues thread rm call s t r → OwesTheSame
  issued_owes thread rm call r does = by r does.rules.allowed does.issued (err_owes r does.stays)
    where
      by : (q : Result (Unit {0}) Refusal) → OnOk q (issue_refusal s thread rm call ≡ None)
          → OnOk q ((c : KnownCall) → accepted (map_call name_of call) ≡ Some c → Happens (Issued (line thread rm) c) s t)
          → OnErr q OwesTheSame → OwesTheSame
      by (Ok x) none issued err = let known = known_issue s thread rm call none in λ rm b. ap (λ k. owes k rm b) (issued known.0 known.1).book
      by (Err n) none issued err = err

  pub heard_owes : (thread rm : ℕ) (answer : Answer Xid) (r : Result (Unit {0}) Unfit) → Hears thread rm answer s t r → OwesTheSame
  heard_owes thread rm answer r does = by_rule (unfit s thread rm answer) refl
    where
      first : unfit s thread rm answer ≡ None → (c : KnownCall) × IsFirst s thread rm c
      first none = let is = known_first s thread rm answer none in (is.known_so.0, (is.call, is.waits, is.known_so.1))

      unheard : unfit s thread rm answer ≡ None → (u : Unfit) → r ≡ Err u → IsFoundLater u → OwesTheSame
      unheard none u is (inl (n, same)) =
          failed_owes (doubt_of (record_of (first none).0 (map_answer name_of answer))) (InHear (line thread rm)) n
          (does.fails n (is ∙ ap (λ v. Err v) same) none (first none).0 (first none).1)
      unheard none u is (inr (b, same)) = same_owes (does.unexplained b (is ∙ ap (λ v. Err v) same)).1

      by : unfit s thread rm answer ≡ None → (q : Result (Unit {0}) Unfit) → r ≡ q
          → OnOk q ((c : KnownCall) → IsFirst s thread rm c → HearsAs thread rm c (map_answer name_of answer) s t) → IfErr q IsFoundLater → OwesTheSame
      by none (Ok x) is heard later = λ rm b. ap (λ k. owes k rm b) (heard (first none).0 (first none).1).book
      by none (Err u) is heard later = unheard none u is later

      by_rule : (why : Option Unfit) → unfit s thread rm answer ≡ why → OwesTheSame
      by_rule None none = by none r refl does.heard (does.only none)
      by_rule (Some u) is = same_owes (does.refused u is).1

  pub lost_owes : (thread rm : ℕ) (r : Result (Unit {0}) Refusal) → Loses thread rm s t r → OwesTheSame
  lost_owes thread rm r does = by_result r does.lost (λ x lost rm b. ap (λ k. owes k rm b) lost.book) (err r (line_refusal s thread rm) refl does.memory)
    where
      err : (q : Result (Unit {0}) Refusal) (why : Option Refusal) → line_refusal s thread rm ≡ why
          → (line_refusal s thread rm ≡ None → IfErr q (λ n. (n ≡ Memory) × StaysAs s t)) → OnErr q OwesTheSame
      err (Ok x) why is memory = tt
      err (Err n) None is memory = stays_owes (memory is).1
      err (Err n) (Some m) is memory = same_owes (does.rules.refused m is).1

  pub resolved_owes : (rm : ℕ) (r : Result ℕ Refusal) → Resolves rm s t r → OwesTheSame
  resolved_owes rm r does = λ q b. ap (λ m. owes (book_in m) q b) does.manager

  pub open_resolved_owes : (rm : ℕ) (r : Result ℕ Refusal) → ResolvesOpen rm s t r → OwesTheSame
  open_resolved_owes rm r does = by_result r does.resolved (λ x happens q b. ap (λ k. owes k q b) happens.book) (err_owes r does.stays)

  pub forgotten_owes : (g : Gtrid) → Forgets g s t → OwesTheSame
  forgotten_owes g does = λ rm b. ap (λ k. owes k rm b) does.book
