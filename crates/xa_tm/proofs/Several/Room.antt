-- Rows of several transactions, put or dropped one after another.
use Rattle.std.proofs.Common.{◌≡◌, ℕ, ◌+◌, ◌<◌, ◌≤◌, List, [], ◌∷◌, ◌++◌, length, drop, get_or, map, Option, Some, None, IsSome, refl, sym, ap, ◌∙◌, subst}
use Rattle.std.specs.Prelude.{if◌then◌else◌}
use Rattle.std.proofs.lemmas.List.{drop_all, drop_more}
use Rattle.std.specs.BTreeMap.{BTreeMap, get}
use Rattle.xa_base.specs.Branch.{gtrid_cmp, gtrid_eq}
use Rattle.xa_base.specs.declared.branch.Gtrid.{Gtrid}
use Rattle.xa_log.specs.declared.decision.Decision.{Decision}
use Rattle.xa_tm.specs.Book.{Waiting, row_among, row_without}
use Rattle.xa_tm.specs.LedgerBook.{HasKept, HaveRoom, decided_row, gtrids_of}
use Rattle.xa_tm.proofs.Maps.ResolveOpen.{room_kept}
use Rattle.xa_tm.proofs.Several.Contents.{without_first}

-- ** room

pub decided_room_more : {X : Type 0} (ds : List Decision) (i : ℕ) (d : Decision) (mid now : BTreeMap Gtrid X) → i < length ds → d ≡ get_or ds i d
    → HasKept mid now → IsSome (get gtrid_cmp now d.gtrid)
    → ((m : BTreeMap Gtrid X) → HasKept mid m → HaveRoom m (gtrids_of (drop i ds)) → HaveRoom m (gtrids_of ds))
    → (m : BTreeMap Gtrid X) → HasKept now m → HaveRoom m (gtrids_of (drop (i + 1) ds)) → HaveRoom m (gtrids_of ds)
decided_room_more ds i d mid now low at kept room before m keep rest =
    before m (λ q has. keep q (kept q has))
    (subst (λ l. HaveRoom m (gtrids_of l)) (sym (drop_more ds i d low))
    (subst (λ (x : Decision). IsSome (get gtrid_cmp m x.gtrid)) at (keep d.gtrid room), rest))

pub decided_room_all : {X : Type 0} (m : BTreeMap Gtrid X) (ds : List Decision) (i : ℕ) → length ds ≤ i → HaveRoom m (gtrids_of (drop i ds))
decided_room_all m ds i past = subst (λ l. HaveRoom m (gtrids_of l)) (sym (drop_all i ds past)) tt

pub room_rest : {X : Type 0} (mid now : BTreeMap Gtrid X) (gs : List Gtrid) (i : ℕ) (d : Gtrid) → i < length gs → HasKept mid now → HaveRoom mid (drop i gs)
    → HaveRoom now (drop (i + 1) gs)
room_rest mid now gs i d low kept room = room_kept mid now (drop (i + 1) gs) kept (subst (HaveRoom mid) (drop_more gs i d low) room).1

pub room_joined : {X : Type 0} (m : BTreeMap Gtrid X) (gs hs : List Gtrid) → HaveRoom m gs → HaveRoom m hs → HaveRoom m (gs ++ hs)
room_joined m [] hs left right = right
room_joined m (g ∷ gs) hs left right = (left.0, room_joined m gs hs left.1 right)

pub room_left : {X : Type 0} (m : BTreeMap Gtrid X) (gs hs : List Gtrid) → HaveRoom m (gs ++ hs) → HaveRoom m gs
room_left m [] hs room = tt
room_left m (g ∷ gs) hs room = (room.0, room_left m gs hs room.1)

pub room_last : {X : Type 0} (m : BTreeMap Gtrid X) (gs : List Gtrid) (h : Gtrid) → HaveRoom m (gs ++ h ∷ []) → IsSome (get gtrid_cmp m h)
room_last m [] h room = room.0
room_last m (g ∷ gs) h room = room_last m gs h room.1

-- ** rows that leave

pub dropped_more : (gs : List Gtrid) (i : ℕ) (d q : Gtrid) (now was : Option Waiting) → i < length gs
    → now ≡ (if gtrid_eq (get_or gs i d) q then None else was) → row_without (drop (i + 1) gs) q now ≡ row_without (drop i gs) q was
dropped_more gs i d q now was low at =
    ap (row_without (drop (i + 1) gs) q) at ∙ without_first (get_or gs i d) (drop (i + 1) gs) q was
    ∙ sym (ap (λ l. row_without l q was) (drop_more gs i d low))

pub dropped_all : (gs : List Gtrid) (i : ℕ) (q : Gtrid) (r : Option Waiting) → length gs ≤ i → row_without (drop i gs) q r ≡ r
dropped_all gs i q r past = ap (λ l. row_without l q r) (drop_all i gs past)

-- ** rows that are put, the last first

among_joined : (xs ys : List (Gtrid × Waiting)) (q : Gtrid) (r : Option Waiting) → row_among (xs ++ ys) q r ≡ row_among xs q (row_among ys q r)
among_joined [] ys q r = refl
among_joined (x ∷ xs) ys q r = ap (λ s. if gtrid_eq x.0 q then Some x.1 else s) (among_joined xs ys q r)

rows_joined : (ds es : List Decision) → map decided_row (ds ++ es) ≡ map decided_row ds ++ map decided_row es
rows_joined [] es = refl
rows_joined (d ∷ ds) es = ap (λ l. decided_row d ∷ l) (rows_joined ds es)

gtrids_joined : (ds es : List Decision) → gtrids_of (ds ++ es) ≡ gtrids_of ds ++ gtrids_of es
gtrids_joined [] es = refl
gtrids_joined (d ∷ ds) es = ap (λ l. d.gtrid ∷ l) (gtrids_joined ds es)

-- the last of some decisions
module _ (front : List Decision) (d : Decision) (all : List Decision) (is : all ≡ front ++ d ∷ []) where
  pub last_room : {X : Type 0} (m : BTreeMap Gtrid X) → HaveRoom m (gtrids_of all) → IsSome (get gtrid_cmp m d.gtrid)
  last_room m room = room_last m (gtrids_of front) d.gtrid (subst (HaveRoom m) (ap gtrids_of is ∙ gtrids_joined front (d ∷ [])) room)

  pub front_room : {X : Type 0} (m n : BTreeMap Gtrid X) → HasKept m n → HaveRoom m (gtrids_of all) → HaveRoom n (gtrids_of front)
  front_room m n kept room =
      room_kept m n (gtrids_of front) kept
      (room_left m (gtrids_of front) (d.gtrid ∷ []) (subst (HaveRoom m) (ap gtrids_of is ∙ gtrids_joined front (d ∷ [])) room))

  pub put_last : (q : Gtrid) (now was : Option Waiting) → now ≡ row_among (decided_row d ∷ []) q was
      → row_among (map decided_row front) q now ≡ row_among (map decided_row all) q was
  put_last q now was at =
      ap (row_among (map decided_row front) q) at ∙ sym (among_joined (map decided_row front) (decided_row d ∷ []) q was)
      ∙ sym (ap (λ l. row_among l q was) (ap (map decided_row) is ∙ rows_joined front (d ∷ [])))
