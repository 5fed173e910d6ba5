-- Rows of what is committed.
use Rattle.std.proofs.Common.{subst, Option, Some, None, ◌≡◌, ◌∙◌, ◌⊎◌, inl, inr, Bool, true, false, ◌||◌, List, [], ◌∷◌, length, map, ap, refl, sym}
use Rattle.std.proofs.lemmas.Bool.{true≢false, not-false}
use Rattle.std.specs.Option.{option_or}
use Rattle.std.specs.Prelude.{if◌then◌else◌, Result, Ok, Err, OnOk}
use Rattle.xa_base.proofs.BranchKeys.{gtrid_eq-true}
use Rattle.xa_base.specs.Branch.{gtrid_eq}
use Rattle.xa_base.specs.declared.branch.Gtrid.{Gtrid}
use Rattle.xa_base.specs.declared.step.Outcome.{Outcome}
use Rattle.xa_base.specs.declared.step.Outcome.TheVariants as Outcomes
use Rattle.xa_base.specs.declared.step.Step.TheVariants as Steps
use Rattle.xa_base.specs.declared.refusal.Refusal.{Refusal}
use Rattle.xa_base.specs.declared.refusal.Refusal.TheVariants.{Limit}
use Rattle.xa_server.specs.Rows.{HasRow, LogsRows, committed_by, is_gtrid_among}
use Rattle.xa_log.specs.Content.{Content}
use Rattle.xa_log.specs.Contract.{Moment}
use Rattle.xa_model.specs.Trace.{Happening, Happening.Decided}
use Rattle.xa_model.proofs.Replies.Guards.{peel}
use Rattle.xa_server.specs.Replies.{response_of}
use Rattle.xa_requests.specs.declared.request.Request.TheVariants as requests
use Rattle.xa_requests.specs.declared.response.Response.{Response}
use Rattle.xa_requests.specs.declared.response.Response.TheVariants as responses
use Rattle.xa_session.specs.Logging.{KeepsLog}
use Rattle.xa_session.proofs.Refusals.{if_there}
use Rattle.xa_session.specs.Session.{decide_all_refusal, has_room_for, refusal_at}
use Rattle.xa_session.specs.declared.session.Session.{Session}
use Rattle.xa_tm.specs.Book.{Book, Waiting, after, after_all, voted_yes}
use Rattle.xa_tm.specs.BookAndLog.{IsTied, TiedBy}
use Rattle.xa_tm.specs.Calls.{book_in, log_in}
use Rattle.xa_tm.specs.Refusing.{refusal_in, refusal_in_turn}

-- ** decisions to commit

abbrev pub commits : List Gtrid → List Happening
commits gs = map (λ g. Decided g Outcomes.Commit) gs

-- what may be decided is of a manager that is up
up_if_decided : (k : Book) (g : Gtrid) (o : Outcome) → refusal_in k (Steps.Decide g o) ≡ None → k.up ≡ true
up_if_decided k g o none = not-false _ (peel _ _ _ none).0

up_if_settled : (k : Book) (g : Gtrid) → refusal_in k (Steps.Settle g) ≡ None → k.up ≡ true
up_if_settled k g none = not-false _ (peel _ _ _ none).0

-- what is decided later leaves a row
row_kept : (gs : List Gtrid) (k : Book) (g : Gtrid) (set : Waiting) → voted_yes k g ≡ set → k.row g ≡ Some set
    → (after_all k (commits gs)).row g ≡ Some set
row_kept [] k g set votes row = row
row_kept (h ∷ hs) k g set votes row =
    row_kept hs (after k (Decided h Outcomes.Commit)) g set votes (by (k.transaction h).has_yes (gtrid_eq h g) refl)
  where
    by : (y t : Bool) → gtrid_eq h g ≡ t → (if y then (if t then Some (voted_yes k h) else k.row g) else k.row g) ≡ Some set
    by true true e = ap (λ q. Some (voted_yes k q)) (gtrid_eq-true h g e) ∙ ap (λ x. Some x) votes
    by true false e = row
    by false t e = row

-- the row of each that is decided to commit is in the book, where a branch of it voted so
row_added : (gs : List Gtrid) (k : Book) (g : Gtrid) → is_gtrid_among gs g ≡ true → (k.transaction g).has_yes ≡ true
    → (after_all k (commits gs)).row g ≡ Some (voted_yes k g)
row_added [] k g among voted = absurd (cc)
row_added (h ∷ hs) k g among voted =
    by (gtrid_eq h g) refl among (λ row. row_kept hs (after k (Decided h Outcomes.Commit)) g (voted_yes k g) refl row)
    (λ later. row_added hs (after k (Decided h Outcomes.Commit)) g later voted)
  where
    wanted : Type 0
    wanted = (after_all k (commits (h ∷ hs))).row g ≡ Some (voted_yes k g)

    yes : gtrid_eq h g ≡ true → (k.transaction h).has_yes ≡ true
    yes e = ap (λ q. (k.transaction q).has_yes) (gtrid_eq-true h g e) ∙ voted

    by : (t : Bool) → gtrid_eq h g ≡ t → (t || is_gtrid_among hs g) ≡ true
        → ((after k (Decided h Outcomes.Commit)).row g ≡ Some (voted_yes k g) → wanted) → (is_gtrid_among hs g ≡ true → wanted) → wanted
    by true e among now later = now
        (ap (λ y. if y then (if gtrid_eq h g then Some (voted_yes k h) else k.row g) else k.row g) (yes e)
        ∙ ap (λ t. if t then Some (voted_yes k h) else k.row g) e ∙ ap (λ q. Some (voted_yes k q)) (gtrid_eq-true h g e))
    by false e among now later = later among

-- decisions leave the manager up
still_up : (gs : List Gtrid) (k : Book) → (after_all k (commits gs)).up ≡ k.up
still_up [] k = refl
still_up (h ∷ hs) k = still_up hs (after k (Decided h Outcomes.Commit))

-- the rows are in a log that holds what the book then says
pub row_written : (k l : Book) (near : Bool) (log : Option Content) (gs : List Gtrid) (g : Gtrid) → k.up ≡ true → is_gtrid_among gs g ≡ true
    → (k.transaction g).has_yes ≡ true → l ≡ after_all k (commits gs) → IsTied near l log → HasRow log g (voted_yes k g)
row_written k l near log gs g up among voted is tied = in_log log
    (subst (λ u. TiedBy u near (after_all k (commits gs)) log) (still_up gs k ∙ up) (subst (λ b. IsTied near b log) is tied))
  where
    in_log : (log : Option Content) → TiedBy true near (after_all k (commits gs)) log → HasRow log g (voted_yes k g)
    in_log None h = absurd h
    in_log (Some c) h = h.holds.rows g ∙ row_added gs k g among voted

-- what is told to be decided is so, by a manager that was up, and its rows are in the log
pub told_rows : {L : Type 0} (moment : L → Moment) (s t : Session L) (gs : List Gtrid) (reply : Response) (r : Result (Unit {0}) Refusal)
    → reply ≡ response_of (λ _. responses.Decided) r → OnOk r ((gs ≡ []) ⊎ ((book_in s.manager).up ≡ true))
    → OnOk r (book_in t.manager ≡ after_all (book_in s.manager) (commits gs)) → KeepsLog moment s.manager t.manager → LogsRows moment gs s reply t
told_rows moment s t gs reply r replied up book keeps = λ near g among told order honest holds voted.
    by r (sym replied ∙ told) up book near g among voted (keeps.holds near order honest holds).tied
  where
    by : (r : Result (Unit {0}) Refusal) → response_of (λ _. responses.Decided) r ≡ responses.Decided
        → OnOk r ((gs ≡ []) ⊎ ((book_in s.manager).up ≡ true)) → OnOk r (book_in t.manager ≡ after_all (book_in s.manager) (commits gs))
        → (near : Bool) (g : Gtrid) → is_gtrid_among gs g ≡ true → ((book_in s.manager).transaction g).has_yes ≡ true
        → IsTied near (book_in t.manager) (moment (log_in t.manager)).content
        → HasRow (moment (log_in t.manager)).content g (voted_yes (book_in s.manager) g)
    by (Ok x) told (inl none) book near g among voted tied = absurd (true≢false (sym among ∙ ap (λ hs. is_gtrid_among hs g) none))
    by (Ok x) told (inr up) book near g among voted tied =
        row_written (book_in s.manager) (book_in t.manager) near (moment (log_in t.manager)).content gs g up among voted book tied
    by (Err n) told up book near g among voted tied = absurd (cc)

-- of a request to decide, the rows of what it commits are in the log
pub decided_rows : {L : Type 0} (moment : L → Moment) (s t : Session L) (gs : List Gtrid) (o : Outcome) (reply : Response)
    → (o ≡ Outcomes.Commit → LogsRows moment gs s reply t) → LogsRows moment (committed_by (requests.Decide gs o)) s reply t
decided_rows moment s t gs Outcomes.Commit reply rows = rows refl
decided_rows moment s t gs Outcomes.Rollback reply rows = λ near g among. absurd (cc)

-- where several may be decided, the manager is up, or there are none
decided_up : (k : Book) (gs : List Gtrid) (o : Outcome) → refusal_in_turn (λ g. Steps.Decide g o) (λ g. Decided g o) k gs ≡ None
    → (gs ≡ []) ⊎ (k.up ≡ true)
decided_up k [] o none = inl refl
decided_up k (g ∷ gs) o none = inr (up_if_decided k g o (first (refusal_in k (Steps.Decide g o)) none))
  where
    first : (first : Option Refusal) → option_or first (refusal_in_turn (λ g. Steps.Decide g o) (λ g. Decided g o) (after k (Decided g o)) gs) ≡ None
        → first ≡ None
    first None e = refl
    first (Some n) e = absurd (cc)

pub decide_up : {L : Type 0} (s : Session L) (gs : List Gtrid) (o : Outcome) (r : Result (Unit {0}) Refusal) → OnOk r (decide_all_refusal s o gs ≡ None)
    → OnOk r ((gs ≡ []) ⊎ ((book_in s.manager).up ≡ true))
decide_up s gs o (Ok x) none = decided_up (book_in s.manager) gs o (if_there (has_room_for s (length gs)) _ Limit none)
decide_up s gs o (Err n) none = tt

pub settled_up : {L : Type 0} (s : Session L) (g : Gtrid) (r : Result (Unit {0}) Refusal) → OnOk r (refusal_at s (Steps.Settle g) ≡ None)
    → OnOk r ((g ∷ [] ≡ []) ⊎ ((book_in s.manager).up ≡ true))
settled_up s g (Ok x) none = inr (up_if_settled (book_in s.manager) g (peel _ _ _ none).1)
settled_up s g (Err n) none = tt
