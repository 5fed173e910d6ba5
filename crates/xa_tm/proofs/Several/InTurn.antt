-- Decisions that are prepared or noted one after another.
use Rattle.std.proofs.Common.{◌≡◌, ℕ, ◌+◌, ◌<◌, ◌≤◌, List, [], ◌∷◌, ◌++◌, length, map, take, drop, get_or, Bool, true, false, ◌&&◌, cond, None, is_some, refl, sym, ap, ◌∙◌, subst}
use Rattle.std.specs.BTreeMap.{get}
use Rattle.std.specs.Prelude.{if◌then◌else◌, Some, IsSome, OnOk, Result, Ok, Err}
use Rattle.std.proofs.lemmas.List.{drop_all, drop_more, take_all, take_more}
use Rattle.std.proofs.lemmas.List.Elements.{filter-append}
use Rattle.std.proofs.lemmas.Bool.{or_from}
use Rattle.xa_base.specs.Branch.{gtrid_cmp, gtrid_eq}
use Rattle.xa_base.specs.declared.branch.Gtrid.{Gtrid}
use Rattle.xa_base.specs.declared.step.Outcome.{Outcome}
use Rattle.xa_base.specs.declared.step.Outcome.TheVariants as Outcomes
use Rattle.xa_log.specs.declared.decision.Decision.{Decision}
use Rattle.xa_model.specs.Facts.Distinct.{EachOnce}
use Rattle.xa_model.specs.Trace.{Happening.Decided, Happening.Done}
use Rattle.xa_tm.specs.Book.{Book, TransactionNotes, after, after_all, rows_for, transaction_after, voted_row}
use Rattle.xa_tm.specs.Calls.{IsOpenIn, written_by}
use Rattle.xa_tm.specs.LedgerBook.{HasKept, HasRoomForDecisions, HaveRoom, MakesRoomForDecisions, as_book, decided_by, decided_row}
use Rattle.xa_tm.specs.Outcomes.{is_commit}
use Rattle.xa_tm.specs.declared.ledger.Ledger.{Ledger}
use Rattle.xa_tm.proofs.Maps.ResolveOpen.{room_kept}
use Rattle.xa_tm.proofs.Several.Lists.{once_among, other_of}
use Rattle.xa_tm.proofs.Several.Room.{room_joined}

-- ** what is prepared

rows_joined : (k : Book) (gs hs : List Gtrid) → rows_for k (gs ++ hs) ≡ rows_for k gs ++ rows_for k hs
rows_joined k [] hs = refl
rows_joined k (g ∷ gs) hs = ap (λ l. voted_row k g ∷ l) (rows_joined k gs hs)

module _ (k : Book) (o : Outcome) (gs : List Gtrid) (i : ℕ) (d : Gtrid) (low : i < length gs) where
  written_more : written_by o k (take (i + 1) gs) ≡ written_by o k (take i gs) ++ written_by o k (get_or gs i d ∷ [])
  written_more = ap (written_by o k) (take_more gs i d low)
      ∙ filter-append (λ g. is_commit (Some o) && (k.transaction g).has_yes) (take i gs) (get_or gs i d ∷ [])

  pub room_prepared : (mid now : Ledger) → as_book mid ≡ k → HasRoomForDecisions (take i gs) (written_by o k (take i gs)) mid
      → MakesRoomForDecisions (get_or gs i d ∷ []) (written_by o (as_book mid) (get_or gs i d ∷ [])) mid now
      → HasRoomForDecisions (take (i + 1) gs) (written_by o k (take (i + 1) gs)) now
  room_prepared mid now same before made = record {
    transactions = subst (HaveRoom now.transactions) (sym (take_more gs i d low))
        (room_joined now.transactions (take i gs) (get_or gs i d ∷ []) (room_kept mid.transactions now.transactions (take i gs) made.kept before.transactions)
        made.room.transactions);
    rows = subst (HaveRoom now.rows) (sym written_more)
        (room_joined now.rows (written_by o k (take i gs)) (written_by o k (get_or gs i d ∷ []))
        (room_kept mid.rows now.rows (written_by o k (take i gs)) made.rows_kept before.rows)
        (subst (λ b. HaveRoom now.rows (written_by o b (get_or gs i d ∷ []))) same made.room.rows));
  }

  pub rows_prepared : (mid : Book) (was now : List Decision) → mid ≡ k → map decided_row was ≡ rows_for k (written_by o k (take i gs))
      → map decided_row now ≡ map decided_row was ++ rows_for mid (written_by o mid (get_or gs i d ∷ []))
      → map decided_row now ≡ rows_for k (written_by o k (take (i + 1) gs))
  rows_prepared mid was now same before more =
      more ∙ ap (λ b. map decided_row was ++ rows_for b (written_by o b (get_or gs i d ∷ []))) same
      ∙ ap (λ l. l ++ rows_for k (written_by o k (get_or gs i d ∷ []))) before
      ∙ sym (ap (rows_for k) written_more ∙ rows_joined k (written_by o k (take i gs)) (written_by o k (get_or gs i d ∷ [])))

pub all_prepared : (k : Book) (o : Outcome) (gs : List Gtrid) (i : ℕ) (now : Ledger) → length gs ≤ i
    → HasRoomForDecisions (take i gs) (written_by o k (take i gs)) now → HasRoomForDecisions gs (written_by o k gs) now
all_prepared k o gs i now past room = subst (λ l. HasRoomForDecisions l (written_by o k l) now) (take_all i gs past) room

pub all_rows : (k : Book) (o : Outcome) (gs : List Gtrid) (i : ℕ) (ds : List Decision) → length gs ≤ i
    → map decided_row ds ≡ rows_for k (written_by o k (take i gs)) → map decided_row ds ≡ rows_for k (written_by o k gs)
all_rows k o gs i ds past rows = rows ∙ ap (λ l. rows_for k (written_by o k l)) (take_all i gs past)

-- room for one
module _ (g : Gtrid) where
  pub room_of_one : {E : Type 0} (r : Result (Unit {0}) E) (y : Bool) (was mid now : Ledger) → y ≡ true → IsSome (get gtrid_cmp mid.transactions g)
      → HasKept was.transactions mid.transactions → mid ≡ record was { transactions = mid.transactions } → now ≡ record mid { rows = now.rows }
      → OnOk r (HaveRoom now.rows (g ∷ [])) → HasKept mid.rows now.rows
      → OnOk r (MakesRoomForDecisions (g ∷ []) (cond y (g ∷ []) []) was now)
  room_of_one (Err e) y was mid now is room kept others same row rows_kept = tt
  room_of_one (Ok x) y was mid now is room kept others same row rows_kept = record {
    room = record {
      transactions = (subst (λ (m : Ledger). IsSome (get gtrid_cmp m.transactions g)) (sym same) room, tt);
      rows = subst (λ t. HaveRoom now.rows (cond t (g ∷ []) [])) (sym is) row;
    };
    kept = subst (λ (m : Ledger). HasKept was.transactions m.transactions) (sym same) kept;
    rows_kept = subst (λ (m : Ledger). HasKept m.rows now.rows) others rows_kept;
  }

  pub rooms_of_one : (y : Bool) (was mid : Ledger) → y ≡ false → IsSome (get gtrid_cmp mid.transactions g)
      → HasKept was.transactions mid.transactions → mid ≡ record was { transactions = mid.transactions }
      → MakesRoomForDecisions (g ∷ []) (cond y (g ∷ []) []) was mid
  rooms_of_one y was mid is room kept others = record {
    room = record { transactions = (room, tt); rows = subst (λ t. HaveRoom mid.rows (cond t (g ∷ []) [])) (sym is) tt };
    kept = kept;
    rows_kept = subst (λ (m : Ledger). HasKept was.rows m.rows) (sym others) (λ q has. has);
  }

-- ** what is noted

after_any : (k l : Book) (o : Outcome) (g q : Gtrid) (d : TransactionNotes) → transaction_after k (Decided g o) q d ≡ transaction_after l (Decided g o) q d
after_any k l Outcomes.Commit g q d = refl
after_any k l Outcomes.Rollback g q d = refl

module _ (gs : List Gtrid) (i : ℕ) (d : Gtrid) (low : i < length gs) where
  open_other : (k l : Book) (o : Outcome) (h : Gtrid) → gtrid_eq (get_or gs i d) h ≡ false
      → l ≡ record k { transaction = λ q. transaction_after k (Decided (get_or gs i d) o) q (k.transaction q) } → IsOpenIn k h → IsOpenIn l h
  open_other k l Outcomes.Commit h other is free = subst (λ b. IsOpenIn b h) (sym is) (record {
    up = free.up;
    begun = free.begun;
    uncommitted = or_from _ _ other free.uncommitted;
    not_rolled_back = free.not_rolled_back;
  })
  open_other k l Outcomes.Rollback h other is free = subst (λ b. IsOpenIn b h) (sym is) (record {
    up = free.up;
    begun = free.begun;
    uncommitted = free.uncommitted;
    not_rolled_back = or_from _ _ other free.not_rolled_back;
  })

  pub first_open : (k : Book) → EachOnce (IsOpenIn k) (drop i gs) → IsOpenIn k (get_or gs i d)
  first_open k free = (subst (EachOnce (IsOpenIn k)) (drop_more gs i d low) free).0

  pub others_open : (k l : Book) (o : Outcome)
      → l ≡ record k { transaction = λ q. transaction_after k (Decided (get_or gs i d) o) q (k.transaction q) }
      → EachOnce (IsOpenIn k) (drop i gs) → EachOnce (IsOpenIn l) (drop (i + 1) gs)
  others_open k l o is free =
      let all = subst (EachOnce (IsOpenIn k)) (drop_more gs i d low) free in
      once_among (IsOpenIn k) (IsOpenIn l) (drop (i + 1) gs)
      (λ h named was. open_other k l o h (other_of (drop (i + 1) gs) (get_or gs i d) h all.1 named) is was) all.2

  pub noted_more : (k mid now : Book) (o : Outcome)
      → now ≡ record mid { transaction = λ q. transaction_after mid (Decided (get_or gs i d) o) q (mid.transaction q) }
      → (q : Gtrid) → decided_by k o (drop (i + 1) gs) q (now.transaction q) ≡ decided_by k o (drop i gs) q (mid.transaction q)
  noted_more k mid now o is q =
      ap (decided_by k o (drop (i + 1) gs) q) (ap (λ (b : Book). b.transaction q) is ∙ after_any mid k o (get_or gs i d) q (mid.transaction q))
      ∙ sym (ap (λ l. decided_by k o l q (mid.transaction q)) (drop_more gs i d low))

  -- ** rows that leave

  pub first_kept : (k : Book) → EachOnce (λ g. is_some (k.row g) ≡ true) (drop i gs) → is_some (k.row (get_or gs i d)) ≡ true
  first_kept k kept = (subst (EachOnce (λ g. is_some (k.row g) ≡ true)) (drop_more gs i d low) kept).0

  pub others_kept : (k l : Book) → l ≡ after k (Done (get_or gs i d)) → EachOnce (λ g. is_some (k.row g) ≡ true) (drop i gs)
      → EachOnce (λ g. is_some (l.row g) ≡ true) (drop (i + 1) gs)
  others_kept k l is kept =
      let all = subst (EachOnce (λ g. is_some (k.row g) ≡ true)) (drop_more gs i d low) kept in
      once_among (λ g. is_some (k.row g) ≡ true) (λ g. is_some (l.row g) ≡ true) (drop (i + 1) gs)
      (λ h named was. ap is_some (ap (λ (b : Book). b.row h) is
      ∙ ap (λ (t : Bool). if t then None else k.row h) (other_of (drop (i + 1) gs) (get_or gs i d) h all.1 named)) ∙ was) all.2

  pub done_more : (k l : Book) → l ≡ after k (Done (get_or gs i d))
      → after_all l (map (λ (g : Gtrid). Done g) (drop (i + 1) gs)) ≡ after_all k (map (λ (g : Gtrid). Done g) (drop i gs))
  done_more k l is =
      ap (λ b. after_all b (map (λ (g : Gtrid). Done g) (drop (i + 1) gs))) is
      ∙ sym (ap (λ xs. after_all k (map (λ (g : Gtrid). Done g) xs)) (drop_more gs i d low))

pub noted_all : (k : Book) (o : Outcome) (gs : List Gtrid) (i : ℕ) (q : Gtrid) (n : TransactionNotes) → length gs ≤ i → decided_by k o (drop i gs) q n ≡ n
noted_all k o gs i q n past = ap (λ l. decided_by k o l q n) (drop_all i gs past)

pub done_all : (k : Book) (gs : List Gtrid) (i : ℕ) → length gs ≤ i → after_all k (map (λ (g : Gtrid). Done g) (drop i gs)) ≡ k
done_all k gs i past = ap (λ l. after_all k (map (λ (g : Gtrid). Done g) l)) (drop_all i gs past)
