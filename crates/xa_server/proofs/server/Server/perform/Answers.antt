use Rattle.std.proofs.Common.{subst, sym}
use Rattle.xa_server.proofs.ReleaseLemmas.{all_is_same, is_forgotten, log_stays}
use Rattle.xa_server.proofs.LogLemmas.{releases_keep}
use Rattle.xa_server.proofs.OwedLemmas.{request_owes}
use Rattle.xa_server.specs.Performing.{ChangesNothing}
use Rattle.xa_server.specs.Releasing.{ReleasesAll, ended_by}
use Rattle.xa_server.specs.Rows.{HasRow}
use Rattle.xa_session.proofs.Logging.{both_keep}
use Rattle.xa_tm.specs.Book.{voted_yes}
use Rattle.xa_tm.specs.Calls.{book_in}
use Rattle.xa_server.proofs.server.Server.perform.Goals as goal

pub returns-clause-performs : goal.returns-clause-performs
returns-clause-performs g c =
    let moment = g.L.DecisionLog.moment in
    let mid = c.act-reply.new.self in
    record {
      mid = mid;
      does = c.act-reply.ensures.does;
      releases = c.release_ended.ensures.releases;
      keeps = both_keep moment c.args.self.now.session.manager mid.session.manager c.release_ended.new.self.session.manager c.act-reply.ensures.keeps
          (releases_keep moment (ended_by c.args.request.now c.act-reply.result) mid c.release_ended.new.self c.release_ended.ensures.releases);
    }

pub returns-clause-unchanged : goal.returns-clause-unchanged
returns-clause-unchanged g c = λ one undone.
    subst (ChangesNothing c.args.self.now)
    (sym (all_is_same c.args.request.now c.act-reply.result c.act-reply.new.self c.release_ended.new.self one undone c.release_ended.ensures.releases))
    (c.act-reply.ensures.unchanged one undone)

pub returns-clause-owed : goal.returns-clause-owed
returns-clause-owed g c =
    request_owes c.args.request.now c.act-reply.result c.args.self.now c.act-reply.new.self c.release_ended.new.self c.act-reply.ensures.does
    c.release_ended.ensures.releases

pub returns-clause-forgotten : goal.returns-clause-forgotten
returns-clause-forgotten g c = λ h ends over.
    is_forgotten h c.act-reply.new.self c.release_ended.new.self
    (subst (λ gs. ReleasesAll gs c.act-reply.new.self c.release_ended.new.self) ends c.release_ended.ensures.releases) over

pub returns-clause-rows : goal.returns-clause-rows
returns-clause-rows g c =
    let same = log_stays (ended_by c.args.request.now c.act-reply.result) c.act-reply.new.self c.release_ended.new.self c.release_ended.ensures.releases in
    let moment = g.L.DecisionLog.moment in
    let k = book_in c.args.self.now.session.manager in
    λ near h among told order honest tied voted.
    subst (λ log. HasRow (moment log).content h (voted_yes k h)) (sym same)
    (c.act-reply.ensures.rows near h among told order (subst (λ log. (moment log).is_honest) same honest) tied voted)
