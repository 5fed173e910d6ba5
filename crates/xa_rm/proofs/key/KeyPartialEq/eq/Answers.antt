use Rattle.std.proofs.Common.{◌≡◌, ◌∙◌, subst}
use Rattle.xa_base.specs.Xid.{Xid, xid_eq, xid_ties}
use Rattle.xa_rm.proofs.key.KeyPartialEq.eq.Goals as goal

pub returns : goal.returns
returns c =
    subst (λ (x : Xid). c.eq.result ≡ xid_eq x c.args.other.now) c.self.view_is
    (subst (λ (y : Xid). c.eq.result ≡ xid_eq c.self.inside.xid y) c.other.view_is (c.eq.ensures ∙ xid_ties c.self.inside.xid c.other.inside.xid))
