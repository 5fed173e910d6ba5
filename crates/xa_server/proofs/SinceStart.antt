-- What is told since the start is tracked.
use Rattle.std.proofs.Common.{◌≡◌, ℕ, Bool, true, false, List, inl, refl, subst}
use Rattle.std.specs.Prelude.{if◌then◌else◌}
use Rattle.xa_base.specs.HeldBranch.{new_branch}
use Rattle.xa_base.specs.declared.state.Standing.TheVariants.{Unstarted}
use Rattle.xa_log.specs.Contract.{Moment}
use Rattle.xa_model.specs.Facts.{fits}
use Rattle.xa_model.specs.Protocol.{OldOrigin}
use Rattle.xa_model.specs.Trace.{Origin}
use Rattle.xa_monitor.specs.Explained.{HasOnlyOlderRows}
use Rattle.xa_monitor.specs.Seen.{Seen.Start}
use Rattle.xa_requests.specs.declared.response.Response.{Response}
use Rattle.xa_server.specs.Serving.{HaveReplies}
use Rattle.xa_server.specs.Telling.{HaveTold}
use Rattle.xa_server.specs.Tracking.{SessionsAreTracked, TracksReplies}
use Rattle.xa_server.specs.declared.server.Server.{Server}
use Rattle.xa_session.specs.Following.{StandsAtStart}
use Rattle.xa_session.specs.Tracking.{StartsAreTracked}
use Rattle.xa_tm.specs.Begins.{BeginsWith}

either : (t : Bool) → (if t then new_branch else new_branch).standing ≡ Unstarted
either true = refl
either false = refl

pub since_start : {L : Type 0} (moment : L → Moment) → StartsAreTracked L → SessionsAreTracked moment → (threads rms : ℕ)
    (lines : List (List ℕ)) (replies : List Response) (old new : Server L) → StandsAtStart threads rms old.session
    → HaveReplies moment lines replies old new → (o : Origin) → BeginsWith threads rms old.session.manager o → HasOnlyOlderRows o
    → TracksReplies o o.threads lines replies Start new
since_start moment starts sessions threads rms lines replies old new stands have o begins is_old =
    let tracks = sessions o Start lines replies old new (starts threads rms old.session stands o begins) have in
    -- nothing is held at the resource managers of this start
    let none : Origin = record o { held = λ r x. new_branch } in
    let old_none : OldOrigin none = record { rows_old = is_old.rows_old; record_old = is_old.record_old; held_old = λ b. inl (either (fits b)) } in
    let begins_none : BeginsWith threads rms old.session.manager none = record {
      threads_are = begins.threads_are;
      rms_are = begins.rms_are;
      incarnation = begins.incarnation;
      rows = begins.rows;
      records = begins.records;
    } in
    let there = (stands none begins_none).0 old_none in
    record {
      more = tracks.more;
      told = subst (λ n. HaveTold n lines replies Start tracks.more) there.threads tracks.told;
      last = tracks.last;
      keeps = tracks.keeps;
      to_end = tracks.to_end;
    }
