-- A session that releases a transaction.
use Rattle.std.proofs.Common.{◌≡◌, ◌-◌, Bool, true, false, refl, sym, subst}
use Rattle.xa_base.specs.declared.branch.Gtrid.{Gtrid}
use Rattle.xa_model.specs.Trace.{Trace}
use Rattle.xa_tm.specs.Book.{Book}
use Rattle.xa_log.specs.Contract.{Moment}
use Rattle.xa_tm.specs.Calls.{book_in, log_in}
use Rattle.xa_tm.specs.Release.{IsOver, book_without}
use Rattle.xa_tm.specs.declared.manager.Manager.{Manager}
use Rattle.xa_session.specs.Following.{BookStands, StandsIn}
use Rattle.xa_session.specs.Headroom.{HasHeadroom, first_headroom}
use Rattle.xa_session.specs.Session.{IsReady}
use Rattle.xa_session.specs.Sizes.{HasItsLines}
use Rattle.xa_session.specs.declared.session.Session.{Session}
use Rattle.xa_session.proofs.Books.{book_left}
use Rattle.xa_session.proofs.Headroom.{releases_keep_headroom}
use Rattle.xa_session.proofs.Logging.{kept_as, quiet_keeps, same_released}
use Rattle.xa_session.specs.Logging.{KeepsLog}

module _ {L : Type 0} (s : Session L) (m : Manager L) (sized : HasItsLines (book_in m) s.lines) (g : Gtrid) (done : Bool)
    (over : done ≡ true → IsOver (book_in s.manager) g)
    (released : done ≡ true → book_in m ≡ book_without g (book_in s.manager)) (same : done ≡ false → m ≡ s.manager) where
  -- what is so of the book, and stays so without a transaction that is over, is so of the new one
  stays : (P : Book → Type 0) → (IsOver (book_in s.manager) g → P (book_in s.manager) → P (book_without g (book_in s.manager))) → P (book_in s.manager)
      → P (book_in m)
  stays P less was = by done refl
    where
      by : (t : Bool) → done ≡ t → P (book_in m)
      by true is = subst P (sym (released is)) (less (over is) was)
      by false is = subst (λ n. P (book_in n)) (sym (same is)) was

  pub release_ready : IsReady s → IsReady (record s { manager = m; sized = sized })
  release_ready ready = record {
    few = ready.few;
    headroom =
        stays (HasHeadroom (first_headroom - s.happenings))
        (λ gone head. releases_keep_headroom (first_headroom - s.happenings) (book_in s.manager) g gone head) ready.headroom;
    heard = ready.heard;
  }

  pub release_stands : (tr : Trace) → StandsIn tr s → StandsIn tr (record s { manager = m; sized = sized })
  release_stands tr stands = record {
    run = stands.run;
    apart = stands.apart;
    threads = stands.threads;
    rms = stands.rms;
    whole = stands.whole;
    rms_up = stands.rms_up;
    book = stays (BookStands tr) (λ gone book. book_left tr (book_in s.manager) book g gone) stands.book;
    lines = stands.lines;
  }

-- and the log
pub release_keeps : {L : Type 0} (moment : L → Moment) (old new : Manager L) (g : Gtrid) (over : Bool)
    → (over ≡ true → book_in new ≡ book_without g (book_in old)) → (over ≡ false → new ≡ old)
    → log_in new ≡ log_in old → KeepsLog moment old new
release_keeps moment old new g true released same log =
    quiet_keeps moment old new log (same_released (book_in old) (book_in new) g (released refl))
release_keeps moment old new g false released same log = kept_as moment old new (same refl)
