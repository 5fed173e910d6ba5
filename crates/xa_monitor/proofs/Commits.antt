-- A branch that stood prepared in a right history, beside a row of its transaction, commits in the rest of it, or its database ends it by itself.
use Rattle.std.proofs.Common.{◌≡◌, true}
use Rattle.std.proofs.lemmas.Bool.{or_right}
use Rattle.xa_base.specs.StateTable.{broken}
use Rattle.xa_base.specs.declared.state.Standing.{Standing}
use Rattle.xa_base.specs.declared.state.Standing.TheVariants.{Active, Idle, RollbackOnly, Prepared, Committed, Completed, Forgotten}
use Rattle.xa_model.proofs.Invariant.{HasBegun}
use Rattle.xa_model.proofs.Invariant.Moves.{Move, Move.Commits, Move.Completes, Move.Forgets, Move.Rolls_back, Move.Stays}
use Rattle.xa_model.proofs.Invariant.Now.{step_move}
use Rattle.xa_model.proofs.Invariant.Preservation.{always, begun_is_started}
use Rattle.xa_model.proofs.Invariant.Rows.{rowed_kept}
use Rattle.xa_model.specs.Facts.{adds_row, doubt, ever, had_row, standing, started}
use Rattle.xa_model.specs.Protocol.{AllRight}
use Rattle.xa_model.specs.Trace.{Branch, Happening, Trace, Trace.From, Trace.Then}
use Rattle.xa_monitor.specs.Across.{continued_by}
use Rattle.xa_monitor.specs.Sessions.{IsCommitting}

-- ** standings

pub committing_begun : (s : Standing) → IsCommitting s → HasBegun s
committing_begun Prepared h = tt
committing_begun Committed h = tt
committing_begun (Completed how) h = tt
committing_begun (Forgotten how) h = tt
committing_begun _ h = absurd h

pub whole_commits : (s : Standing) → IsCommitting (broken s) → IsCommitting s
whole_commits Active h = absurd h
whole_commits Idle h = absurd h
whole_commits RollbackOnly h = absurd h
whole_commits s h = h

pub broken_commits : (s : Standing) → IsCommitting s → IsCommitting (broken s)
broken_commits Active h = absurd h
broken_commits Idle h = absurd h
broken_commits RollbackOnly h = absurd h
broken_commits s h = h

-- ** one happening more

moves_on : (tr : Trace) (b : Branch) (f g : Standing) → Move tr b f g → started tr b ≡ true → ever tr b.gtrid ≡ true → IsCommitting f → IsCommitting g
moves_on tr b f g (Stays x) s e h = h
moves_on tr b f g (Commits p) s e h = tt
moves_on tr b f g (Completes how) s e h = tt
moves_on tr b f g (Forgets how r) s e h = tt
moves_on tr b f g (Rolls_back Prepared c p rest) s e h = absurd (rest s e)
moves_on tr b f g (Rolls_back Idle c p rest) s e h = absurd h
moves_on tr b f g (Rolls_back RollbackOnly c p rest) s e h = absurd h
moves_on tr b f g (Rolls_back _ c p rest) s e h = absurd c
moves_on tr b f g _ s e h = absurd h

-- the branch is to commit, and its transaction had a row
pub record HasCommit (tr : Trace) (b : Branch) : Type 0 where
  pub commits : IsCommitting (standing tr b)
  pub had : had_row tr b.gtrid ≡ true

pub one_more_commits : (tr : Trace) (e : Happening) (b : Branch) → AllRight (Then tr e) → HasCommit tr b → HasCommit (Then tr e) b
one_more_commits tr e b right has = record {
  commits = moves_on tr b (standing tr b) (standing (Then tr e) b) (step_move tr e b (always tr right.0) right.1)
      (begun_is_started tr b right.0 (committing_begun (standing tr b) has.commits)) (or_right (adds_row (doubt tr) b.gtrid) (had_row tr b.gtrid) has.had)
      has.commits;
  had = rowed_kept tr e b.gtrid has.had;
}

-- ** all that happened behind it

pub behind_commits : (past tr : Trace) (b : Branch) → AllRight (continued_by past tr) → HasCommit past b → HasCommit (continued_by past tr) b
behind_commits past (From o) b right has = has
behind_commits past (Then tr e) b right has = one_more_commits (continued_by past tr) e b right (behind_commits past tr b right.0 has)
