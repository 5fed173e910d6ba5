use Rattle.std.proofs.Common.{◌≡◌, ◌∷◌, ap, subst}
use Rattle.xa_model.specs.Promises.Commitment.{phase_of}
use Rattle.xa_model.specs.Promises.Agreement.{IsCommitment, AsLogged}
use Rattle.xa_model.specs.Facts.{standing}
use Rattle.xa_model.specs.Protocol.{AllRight}
use Rattle.xa_model.proofs.AgreementLemmas.Alike.{are_alike, held, as_logged, doubt_is_down}
use Rattle.xa_model.proofs.AgreementLemmas.Ends.{ends_once, final}
use Rattle.xa_model.proofs.AgreementLemmas.Prefix.{prefix, closes_last}
use Rattle.xa_model.proofs.AgreementLemmas.Simulation.{commitment}
use Rattle.xa_model.proofs.headline.agreement.Goals as goal

pub returns-clause-prefix : goal.returns-clause-prefix
returns-clause-prefix c tr l r = prefix tr l r

pub returns-clause-nothing_after_close : goal.returns-clause-nothing_after_close
returns-clause-nothing_after_close c tr l r = closes_last tr l r

pub returns-clause-ends_once : goal.returns-clause-ends_once
returns-clause-ends_once c tr b r = ends_once tr b r

pub returns-clause-stays_ended : goal.returns-clause-stays_ended
returns-clause-stays_ended c tr e whole b r m f = subst (λ x. AllRight x → standing x b ≡ standing tr b) m.1 (λ h. final tr (e ∷ m.0) b h f) r

pub returns-clause-alike : goal.returns-clause-alike
returns-clause-alike c tr r = are_alike tr r

pub returns-clause-at_first : goal.returns-clause-at_first
returns-clause-at_first c o b r = ap phase_of (r.clear b)

pub returns-clause-commitment : goal.returns-clause-commitment
returns-clause-commitment c tr e whole r m = subst (λ x. AllRight x → IsCommitment tr e x) m.1 (λ h. commitment tr e m.0 h) r

pub returns-clause-heuristics : goal.returns-clause-heuristics
returns-clause-heuristics c tr r = held tr r

pub returns-clause-logged : goal.returns-clause-logged
returns-clause-logged c tr e whole r m = subst (λ x. AllRight x → AsLogged tr e x) m.1 (λ h. as_logged tr e m.0 h) r

pub returns-clause-doubt : goal.returns-clause-doubt
returns-clause-doubt c tr r = doubt_is_down tr r
