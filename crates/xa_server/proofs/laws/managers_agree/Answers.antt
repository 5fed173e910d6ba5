use Rattle.xa_server.proofs.LeftSessions.{apart_under}
use Rattle.xa_server.specs.LeftSessions.{under}
use Rattle.xa_server.proofs.laws.managers_agree.Goals as goal

pub returns : goal.returns
returns g c =
    let names = c.names_part_identifiers.ensures in
    let apart = apart_under names.read names.own c.renaming_goes_back.ensures names.apart in
    record {
      left = λ F m n x y found others differ one other. record {
        one = (c.left_sessions_agree.ensures.agree m F x found one).agree;
        other = (c.left_sessions_agree.ensures.agree n F y others other).agree;
        apart = apart m n differ;
      };
      served = λ F m n p q differ one other. record {
        one = c.served_sessions_agree.ensures.agree m p (under m F) one;
        other = c.served_sessions_agree.ensures.agree n q (under n F) other;
        apart = apart m n differ;
      };
    }
