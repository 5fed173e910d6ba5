-- What a start finds in the log, and what is left of it.
use Rattle.std.proofs.Common.{◌≡◌, ◌∙◌, ◌⊎◌, ◌+◌, ◌<◌, ◌≤◌, inl, inr, Bool, true, false, Some, IsSomeAnd, refl, ap, subst, arith}
use Rattle.std.specs.FinMap.{get}
use Rattle.xa_log.specs.Content.{Content, with_bump}
use Rattle.xa_log.specs.Contract.{Moment}
use Rattle.xa_tm.proofs.Several.Contents.{changed_at, of_same}
use Rattle.xa_tm.proofs.Log.Leaves.{left_up}
use Rattle.xa_tm.specs.Book.{Book, row_with}
use Rattle.xa_tm.specs.BookAndLog.{HoldsBook, IsChangeOf, IsTied, SameRowsAndRecords, TiedBy, changed_by}
use Rattle.xa_tm.specs.Calls.{book_in, log_in}
use Rattle.xa_tm.specs.Starting.{book_at_start}
use Rattle.xa_tm.specs.declared.manager.Manager.{Manager}
use Rattle.xa_session.specs.Logging.{HasAllOrNone, HoldsItsBook, LaterSessionsAreNewer, LeavesContent, LogsHaveAllOrNone, RowsAreHandedOn, StartsBehind}
use Rattle.xa_session.proofs.Logging.{IsDurable}

-- the book that a manager starts with is what its log has, and what a crash leaves of that
pub start_holds : {L : Type 0} (moment : L → Moment) (near : Bool) (m : Manager L) → IsDurable moment → (book_in m).up ≡ true
    → (moment (log_in m)).is_in_order → IsTied near (book_in m) (moment (log_in m)).content → HoldsItsBook moment near m
start_holds moment near m durable up order tied = record {
  tied = tied;
  left = left_up near (book_in m) (moment (log_in m)).content (moment (log_in m)).may_leave up tied (λ c d. durable (log_in m) c d order);
}

-- ** what is left

-- it is of the book's incarnation, or of a later one
reached : (k : Book) (c : Content) → IsTied true k (Some c) → k.incarnation ≤ c.incarnation
reached k c tied = by k.up tied
  where
    by : (u : Bool) → TiedBy u true k (Some c) → k.incarnation ≤ c.incarnation
    by true tied = let same : c.incarnation ≡ k.incarnation = tied.incarnation in let least : k.incarnation ≤ c.incarnation = omega arith in least
    by false tied = ((tied c refl).incarnation refl).least

all_or_none : (near : Bool) (k : Book) (c : Content) → IsTied near k (Some c) → HasAllOrNone k.doubt k.row c
all_or_none near k c tied = by k.up tied
  where
    rows : (before : Content) → HoldsBook k before → SameRowsAndRecords c before ⊎ (IsChangeOf k.row k.doubt × SameRowsAndRecords c (changed_by k.doubt before))
        → HasAllOrNone k.doubt k.row c
    rows before h (inl same) = inl (λ g. ap (λ m. get m g) same.decisions ∙ h.rows g)
    rows before h (inr made) = inr (λ g. ap (λ m. get m g) made.1.decisions
        ∙ changed_at k.doubt before (of_same k.row (λ q. get before.decisions q) k.doubt h.rows made.0) g ∙ ap (row_with k.doubt g) (h.rows g))

    by : (u : Bool) → TiedBy u near k (Some c) → HasAllOrNone k.doubt k.row c
    by true tied = inl tied.holds.rows
    by false tied = let held = (tied c refl).holds in rows held.0 held.1 held.2

module _ {L : Type 0} (moment : L → Moment) where
  pub left_tied : (near : Bool) (m : Manager L) (c : Content) → HoldsItsBook moment near m → LeavesContent moment m c → IsTied near (book_in m) (Some c)
  left_tied near m c holds (inl is) = subst (IsTied near (book_in m)) is holds.tied
  left_tied near m c holds (inr may) = holds.left c may

  pub logs_have_all_or_none : LogsHaveAllOrNone moment
  logs_have_all_or_none near m c holds leaves = all_or_none near (book_in m) c (left_tied near m c holds leaves)

  -- the book of the next session
  next_book : (last next : Manager L) (handed : L) (c : Content) (starts : StartsBehind moment last handed next c) → (moment handed).is_in_order
      → (moment (log_in next)).is_honest → book_in next ≡ book_at_start starts.threads starts.rms (with_bump c)
  next_book last next handed c starts order honest =
      let made : (moment (log_in next)).content ≡ Some (with_bump c) =
      subst (λ o. IsSomeAnd o (λ b. (moment (log_in next)).content ≡ Some (with_bump b))) starts.content (starts.over.raised order honest) in
      subst (λ o. IsSomeAnd o (λ b. book_in next ≡ book_at_start starts.threads starts.rms b)) made (starts.over.book order honest)

  pub later_sessions_are_newer : LaterSessionsAreNewer moment
  later_sessions_are_newer last next handed c holds starts order honest =
      let least = reached (book_in last) c (left_tied true last c holds starts.left) in
      let is : (book_in next).incarnation ≡ c.incarnation + 1 = ap (λ (k : Book). k.incarnation) (next_book last next handed c starts order honest) in
      let newer : (book_in last).incarnation < (book_in next).incarnation = omega (arith, least, is) in
      newer

  pub rows_are_handed_on : RowsAreHandedOn moment
  rows_are_handed_on last next handed c starts order honest g = ap (λ (k : Book). k.row g) (next_book last next handed c starts order honest)
