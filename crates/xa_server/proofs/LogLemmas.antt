-- What becomes of the log.
use Rattle.std.proofs.Common.{◌≡◌, inl, inr, ℕ, ◌+◌, zero, suc, List, [], ◌∷◌, Option, Some, None, ap}
use Rattle.std.specs.Prelude.{Result, Ok, Err}
use Rattle.xa_base.specs.declared.branch.Gtrid.{Gtrid}
use Rattle.xa_base.specs.declared.refusal.Refusal.{Refusal}
use Rattle.xa_log.specs.Contract.{Moment}
use Rattle.xa_requests.specs.declared.request.Request.{Request}
use Rattle.xa_requests.specs.declared.response.Response.{Response}
use Rattle.xa_server.proofs.UnchangedLemmas.{line_stays}
use Rattle.xa_server.specs.Crashes.{LosesFrom, LosesOne}
use Rattle.xa_server.specs.Lines.{asked_in}
use Rattle.xa_server.specs.Releasing.{ReleasesAll}
use Rattle.xa_server.specs.Serving.{HaveReplies, RepliesBy}
use Rattle.xa_server.specs.declared.server.Server.{Server}
use Rattle.xa_session.proofs.Logging.{both_keep, kept_as, quiet_keeps, same_book, same_lost, same_released}
use Rattle.xa_session.specs.Logging.{KeepsLog}
use Rattle.xa_tm.specs.Calls.{book_in}

module _ {L : Type 0} (moment : L → Moment) where
  abbrev pub Keeps : (old new : Server L) → Type 0
  Keeps old new = KeepsLog moment old.session.manager new.session.manager

  both : (a b c : Server L) → Keeps a b → Keeps b c → Keeps a c
  both a b c first second = both_keep moment a.session.manager b.session.manager c.session.manager first second

  -- nothing is done
  pub same_keeps : (old new : Server L) → new ≡ old → Keeps old new
  same_keeps old new is = kept_as moment old.session.manager new.session.manager (ap (λ c. c.session.manager) is)

  -- transactions are forgotten
  pub releases_keep : (gs : List Gtrid) (old new : Server L) → ReleasesAll gs old new → Keeps old new
  releases_keep [] old new same = same_keeps old new same
  releases_keep (g ∷ gs) old new (next, inl (forgets, rest), more) =
      both old next new
      (quiet_keeps moment old.session.manager next.session.manager forgets.log
      (same_released (book_in old.session.manager) (book_in next.session.manager) g forgets.book))
      (releases_keep gs next new more)
  releases_keep (g ∷ gs) old new (next, inr (open_still, same), more) = both old next new (same_keeps old next same) (releases_keep gs next new more)

  -- lines are lost
  line_keeps : (t rm : ℕ) (old : Server L) (result : Result (Unit {0}) Refusal) (new : Server L) → LosesOne t rm old result new → Keeps old new
  line_keeps t rm old (Ok x) new loses =
      quiet_keeps moment old.session.manager new.session.manager loses.does.log
      (same_lost (book_in old.session.manager) (book_in new.session.manager) t rm loses.does.lost.book)
  line_keeps t rm old (Err n) new loses =
      quiet_keeps moment old.session.manager new.session.manager loses.does.log
      (same_book (book_in old.session.manager) (book_in new.session.manager) (line_stays t rm old.session new.session (Err n) loses.does).book)

  pub lines_keep : (rm t left : ℕ) (reply : Response) (old new : Server L) → LosesFrom rm t left old reply new → Keeps old new
  lines_keep rm t zero reply old new only = same_keeps old new only.1
  lines_keep rm t (suc left) reply old new (next, Ok x, loses, more) =
      both old next new (line_keeps t rm old (Ok x) next loses) (lines_keep rm (t + 1) left reply next new more)
  lines_keep rm t (suc left) reply old new (next, Err n, loses, more) = both old next new (line_keeps t rm old (Err n) next loses) (same_keeps next new more.1)

  -- ** lines and their replies

  reply_keeps : (request : Option Request) (old : Server L) (reply : Response) (new : Server L) → RepliesBy moment request old reply new
      → Keeps old new
  reply_keeps None old reply new only = same_keeps old new only.1
  reply_keeps (Some request) old reply new performs = performs.keeps

  pub replies_keep : (lines : List (List ℕ)) (replies : List Response) (old new : Server L) → HaveReplies moment lines replies old new → Keeps old new
  replies_keep [] [] old new same = same_keeps old new same
  replies_keep [] (r ∷ rs) old new have = absurd have
  replies_keep (l ∷ ls) [] old new have = absurd have
  replies_keep (l ∷ ls) (r ∷ rs) old new (next, replies, more) =
      both old next new (reply_keeps (asked_in l) old r next replies) (replies_keep ls rs next new more)
