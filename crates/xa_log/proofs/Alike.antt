-- Two contents whose parts are the same are the same.
use Rattle.std.proofs.Common.{◌≡◌}
use Rattle.xa_log.specs.Content.{Content}

pub same_content : (a b : Content) → a.decisions ≡ b.decisions → a.heuristics ≡ b.heuristics → a.incarnation ≡ b.incarnation → a ≡ b
same_content a b p q r i = record { decisions = p i; heuristics = q i; incarnation = r i }
