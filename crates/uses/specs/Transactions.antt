-- Two drivers are served, one after the other, over one log, and each transaction agrees by its
-- own branches, whatever becomes of another's.
use Rattle.std.specs.Prelude.{◌≡◌, ◌≢◌, ◌<◌, ℕ, false, if◌then◌else◌, List, Option, Some}
use Rattle.std.specs.List.{list_any}
use Rattle.xa_base.specs.Branch.{branch_eq}
use Rattle.xa_base.specs.StateTable.{broken}
use Rattle.xa_base.specs.declared.branch.Gtrid.{Gtrid}
use Rattle.xa_base.specs.declared.state.Standing.{Standing}
use Rattle.xa_base.specs.declared.state.Standing.TheVariants.{Unstarted}
use Rattle.xa_log.specs.Content.{Content}
use Rattle.xa_model.specs.Trace.{Branch, Line, Origin}
use Rattle.xa_monitor.specs.Seen.{Seen, Seen.Start}
use Rattle.xa_monitor.specs.Standings.{Comes}
use Rattle.xa_requests.specs.declared.response.Response.{Response}
use Rattle.xa_server.specs.Serving.{replies_given, requests_done}
use Rattle.xa_server.specs.Telling.{HaveTold, is_log_fault}
use Rattle.xa_server.specs.Transactions.{IsAlike, MayStandFor}
use Rattle.uses.specs.Sessions.{IsReplied}

-- One branch now stands so, however it stood before, and no other moved: somebody ended it by hand,
-- against the log too, or its database forgot it.
abbrev pub IsTroubleOf : Branch → Standing → (from to : Branch → Standing) → Type 0
IsTroubleOf d now from to = (b : Branch) → to b ≡ (if branch_eq d b then now else from b)

-- Two drivers were replied so, one after the other, over one log. From their starts, these lines
-- and their replies tell what is seen. Between the two there was trouble with a branch of another
-- transaction. Wherever the branches of this one may then stand, at databases that obey the table
-- as far as these go: they are alike, and the log that is left decides of those that are prepared.
pub record AgreeApart (log : Option Content) (one_lines two_lines : List (List ℕ)) (one_replies two_replies : List Response) : Type 0 where
  pub one : Origin
  pub two : Origin
  pub one_seen : Seen
  pub two_seen : Seen
  pub later : one.incarnation < two.incarnation
  pub one_told : HaveTold one.threads one_lines one_replies Start one_seen
  pub two_told : HaveTold two.threads two_lines two_replies Start two_seen
  pub apart :
      (this : Gtrid) (troubled : Branch) (now : Standing) (one_done one_cut two_done two_cut : List Line) (from amid to : Branch → Standing)
      (c : Content) → troubled.gtrid ≢ this → MayStandFor this one one_seen (λ b. Comes one_seen b Unstarted) one_done one_cut from
      → IsTroubleOf troubled now from amid → MayStandFor this two two_seen (λ b. Comes two_seen b (broken (amid b))) two_done two_cut to
      → log ≡ Some c → IsAlike this to c

-- The same if the log failed in neither session.
pub record AreServedApartFrom (log : Option Content) (first second first_written second_written : List ℕ) : Type 0 where
  pub one : IsReplied first first_written
  pub two : IsReplied second second_written
  pub served :
      list_any is_log_fault (replies_given one.turns) ≡ false → list_any is_log_fault (replies_given two.turns) ≡ false
      → AgreeApart log (requests_done one.turns) (requests_done two.turns) (replies_given one.turns) (replies_given two.turns)
