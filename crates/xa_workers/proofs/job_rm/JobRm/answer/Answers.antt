use Rattle.std.proofs.Common.{rules}
use Rattle.xa_workers.specs.Jobs.{is_xid_of}
use Rattle.xa_workers.proofs.OwnBranches.{only_answered}
use Rattle.xa_workers.proofs.job_rm.JobRm.answer.Goals as goal

pub invariant_of-self : goal.invariant_of-self
invariant_of-self g c =
    record {
      only = only_answered g.J.Run.is_own (is_xid_of c.args.jobs.now c.args.incarnation) c.args.self.now.number c.args.self.now.rm c.apply.new.self
          c.args.thread c.args.call.now c.apply.result c.requires.own c.args.self.now.only
          (c.names_own.ensures (search rules)) c.apply.ensures.ok c.apply.ensures.err;
    }
