-- A log that is found after a crash of its store.
use Rattle.std.proofs.Common.{◌≡◌, refl, sym, subst}
use Rattle.std.specs.Prelude.{IsSomeAnd}
use Rattle.sqlite.specs.Held.{Held, state}
use Rattle.sqlite.specs.State.{HasCleanDisk, IsLive, Opens, State}
use Rattle.sqlite.specs.Store.{Ghosts}
use Rattle.xa_sql_log.proofs.Closing.{ready_content}
use Rattle.xa_sql_log.specs.OpenedDatabase.{IsFoundLog}
use Rattle.xa_sql_log.specs.Rows.{content_of}
use Rattle.xa_sql_log.specs.Sql.{IsLasting, IsReadyWith, MayLeave, content_in}

module _ {S : Type 0} (g : Ghosts S) (was passed again : Held S) (same : passed ≡ was) where
  -- what a crash may leave of a log in order is found as a log
  pub found_log : IsLasting (state g was) → (HasCleanDisk (state g again) → HasCleanDisk (state g passed))
      → (HasCleanDisk (state g again) → Opens (state g again) × IsLive (state g again))
      → (HasCleanDisk (state g again) → (state g passed).may_leave (state g again).now.trees)
      → HasCleanDisk (state g again) → IsFoundLog (state g again)
  found_log lasts honest opens left clean =
      let lasted : IsLasting (state g passed) = subst (λ h. IsLasting (state g h)) (sym same) lasts in
      record { opens = (opens clean).0; live = (opens clean).1; log = lasted.leaves (honest clean) (state g again).now.trees (left clean) }

  -- and its content is one of what the crash may leave
  pub content_left : (new : State) → (state g passed).may_leave (state g again).now.trees
      → IsReadyWith (content_of (state g again).now.trees) new → IsSomeAnd (content_in new) (MayLeave (state g was))
  content_left new left ready =
      subst (λ o. IsSomeAnd o (MayLeave (state g was))) (sym (ready_content (content_of (state g again).now.trees) new ready))
      ((state g again).now.trees, subst (λ h. (state g h).may_leave (state g again).now.trees) same left, refl)
