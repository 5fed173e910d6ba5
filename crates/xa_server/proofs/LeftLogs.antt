-- What the log that is left says.
use Rattle.std.proofs.Common.{◌≡◌, ◌<◌, ◌+◌, [], refl, sym, ap, ◌∙◌, arith}
use Rattle.std.specs.FinMap.{get}
use Rattle.std.specs.Prelude.{is_some}
use Rattle.xa_base.specs.HeldBranch.{new_branch}
use Rattle.xa_base.specs.Scan.{Scan.NotOpen}
use Rattle.xa_base.specs.declared.state.Standing.{Standing}
use Rattle.xa_server.specs.Sessions.{CommitStandsInLog, LogDecides}
use Rattle.xa_log.specs.Content.{Content, with_bump}
use Rattle.xa_base.specs.declared.branch.Gtrid.{Gtrid}
use Rattle.xa_model.specs.Facts.{lists_row}
use Rattle.xa_model.specs.Trace.{Branch, Origin}
use Rattle.xa_session.specs.Tracking.{IsRaisedFrom}
use Rattle.xa_monitor.specs.Sessions.{CommitStands as Commit_stands, RowsDecide}
use Rattle.xa_tm.proofs.History.OneMore.{lists_is}
use Rattle.xa_tm.specs.Laws.{StartRowsAreApart}
use Rattle.xa_tm.specs.Starting.{HasContent, StartsHaveContent, records_from, rows_from}

-- a start over a content
abbrev pub start_of : Content → Origin
start_of c = record {
  threads = 0;
  rms = 0;
  incarnation = c.incarnation + 1;
  rows = rows_from c;
  heuristic_rows = records_from c;
  held = λ r x. new_branch;
  in_doubt = λ r. [];
  scans = λ r. NotOpen;
}

module _ (have_content : StartsHaveContent) (are_apart : StartRowsAreApart) (c : Content) where
  has_it : HasContent (start_of c) (with_bump c)
  has_it = have_content (start_of c) (with_bump c) refl refl refl

  pub raised_once : IsRaisedFrom c (start_of c)
  raised_once = record {
    found = with_bump c;
    has = has_it;
    rows = refl;
    records = refl;
    raised = let more : c.incarnation < c.incarnation + 1 = omega arith in more;
    apart = are_apart c;
  }

  pub listed : (g : Gtrid) → lists_row (start_of c).rows g ≡ is_some (get c.decisions g)
  listed g = lists_is (start_of c).rows g ∙ ap is_some (has_it.rows g)

  pub log_decides : (f : Branch → Standing) → RowsDecide f (start_of c) → LogDecides f c
  log_decides f rows = record {
    committed = λ b d same committed prepared. sym (listed b.gtrid) ∙ rows.committed b d same committed prepared;
    undone = λ b u. sym (listed b.gtrid) ∙ rows.undone b u;
  }

  pub commit_stands : (f : Branch → Standing) (b : Branch) → Commit_stands f (start_of c) b → CommitStandsInLog f c b
  commit_stands f b stands = record {
    commits = stands.commits;
    row_stays = λ prepared. sym (listed b.gtrid) ∙ stands.row_stays prepared;
  }
