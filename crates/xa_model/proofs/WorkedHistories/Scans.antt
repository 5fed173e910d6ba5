-- Worked recovery scans: each page is the demanded one, and the fates and the log at the end are as told.
use Rattle.std.proofs.Common.{◌≡◌, pos, negsuc, List, [], ◌∷◌, ◌++◌, true, false, refl}
use Rattle.xa_base.specs.declared.code.Code.TheVariants as Codes
use Rattle.xa_base.specs.declared.state.Fate.TheVariants as Fates
use Rattle.xa_base.specs.declared.step.Outcome.TheVariants as Outcome
use Rattle.xa_base.specs.declared.step.Part.TheVariants as Part
use Rattle.xa_model.specs.Replies.Allowed.{with_steps, AllAllowed}
use Rattle.xa_model.specs.Facts.{log, fate}
use Rattle.xa_base.specs.declared.reply.Reply.TheVariants as Replies
use Rattle.xa_base.specs.declared.step.Step.TheVariants as Steps
use Rattle.xa_model.specs.Replies.Steps.{Step, Reply}
use Rattle.xa_base.specs.declared.call.Call.TheVariants as Calls
use Rattle.xa_base.specs.declared.answer.Answer.TheVariants.{Ret, Page}
use Rattle.xa_model.specs.Trace.{Name.Ours, Name.Foreign, Trace.From}
use Rattle.xa_model.proofs.Replies.ComputedReplies.{computed}
use Rattle.xa_model.proofs.WorkedHistories.{fresh, gtrid, own, row, foreign, with_foreign, once, answered, called, worked, ready, scanned}

-- Five branches in doubt, in three pages. All are live, so recovery calls for none. A scan that is over lists nothing.
unfoldable pub scan_pages : List (Step × Reply)
scan_pages =
    called 0 0 Calls.OpenRm (Ret Codes.Success)
    ++ once (Steps.Begin 0) (Replies.Begun (gtrid 1 1))
    ++ worked 0 0 (own 1 0 0)
    ++ called 0 0 (Calls.Prepare (own 1 0 0)) (Ret Codes.Success)
    ++ once (Steps.Begin 0) (Replies.Begun (gtrid 1 2))
    ++ worked 0 0 (own 2 0 0)
    ++ called 0 0 (Calls.Prepare (own 2 0 0)) (Ret Codes.Success)
    ++ once (Steps.Begin 0) (Replies.Begun (gtrid 1 3))
    ++ worked 0 0 (own 3 0 0)
    ++ called 0 0 (Calls.Prepare (own 3 0 0)) (Ret Codes.Success)
    ++ once (Steps.Begin 0) (Replies.Begun (gtrid 1 4))
    ++ worked 0 0 (own 4 0 0)
    ++ called 0 0 (Calls.Prepare (own 4 0 0)) (Ret Codes.Success)
    ++ once (Steps.Begin 0) (Replies.Begun (gtrid 1 5))
    ++ worked 0 0 (own 5 0 0)
    ++ called 0 0 (Calls.Prepare (own 5 0 0)) (Ret Codes.Success)
    ++ scanned 0 (pos 2) true false (Page (Ours (own 1 0 0) ∷ Ours (own 2 0 0) ∷ []))
    ++ once (Steps.Resolve 0) (Replies.Resolved 0)
    ++ scanned 0 (pos 2) false false (Page (Ours (own 3 0 0) ∷ Ours (own 4 0 0) ∷ []))
    ++ scanned 0 (pos 2) false true (Page (Ours (own 5 0 0) ∷ []))
    ++ scanned 0 (pos 2) false false (Ret Codes.Invalid)
    ++ scanned 0 (pos 0) true true (Page [])
    ++ scanned 0 (negsuc 0) true false (Ret Codes.Invalid)

scan_pages-allowed : AllAllowed (From (fresh 1 1)) scan_pages
unfolding scan_pages
scan_pages-allowed = computed (From (fresh 1 1)) scan_pages refl

scan_pages-fates : (fate (with_steps (From (fresh 1 1)) scan_pages) (own 1 0 0) ≡ Fates.Prepared)
    × (fate (with_steps (From (fresh 1 1)) scan_pages) (own 2 0 0) ≡ Fates.Prepared)
    × (fate (with_steps (From (fresh 1 1)) scan_pages) (own 3 0 0) ≡ Fates.Prepared)
    × (fate (with_steps (From (fresh 1 1)) scan_pages) (own 4 0 0) ≡ Fates.Prepared)
    × (fate (with_steps (From (fresh 1 1)) scan_pages) (own 5 0 0) ≡ Fates.Prepared)
unfolding scan_pages
scan_pages-fates = (refl, refl, refl, refl, refl)

scan_pages-log : log (with_steps (From (fresh 1 1)) scan_pages) ≡ []
unfolding scan_pages
scan_pages-log = refl

-- A scan goes on behind the last identifier listed, whatever came or went before it.
unfoldable pub index : List (Step × Reply)
index =
    once (Steps.Begin 0) (Replies.Begun (gtrid 1 1))
    ++ called 0 0 Calls.OpenRm (Ret Codes.Success)
    ++ worked 0 0 (own 1 0 0)
    ++ once (Steps.Begin 0) (Replies.Begun (gtrid 1 2))
    ++ worked 0 0 (own 2 0 0)
    ++ once (Steps.Begin 0) (Replies.Begun (gtrid 1 3))
    ++ worked 0 0 (own 3 0 0)
    ++ once (Steps.Begin 0) (Replies.Begun (gtrid 1 4))
    ++ worked 0 0 (own 4 0 0)
    ++ called 0 0 (Calls.Prepare (own 2 0 0)) (Ret Codes.Success)
    ++ called 0 0 (Calls.Prepare (own 3 0 0)) (Ret Codes.Success)
    ++ called 0 0 (Calls.Prepare (own 4 0 0)) (Ret Codes.Success)
    ++ scanned 0 (pos 1) true false (Page (Ours (own 2 0 0) ∷ []))
    ++ called 0 0 (Calls.Prepare (own 1 0 0)) (Ret Codes.Success)
    ++ once (Steps.Decide (gtrid 1 2) Outcome.Commit) Replies.Decided
    ++ called 0 0 (Calls.Commit (own 2 0 0) false) (Ret Codes.Success)
    ++ scanned 0 (pos 8) false false (Page (Ours (own 3 0 0) ∷ Ours (own 4 0 0) ∷ []))
    ++ scanned 0 (pos 8) true true (Page (Ours (own 1 0 0) ∷ Ours (own 3 0 0) ∷ Ours (own 4 0 0) ∷ []))

index-allowed : AllAllowed (From (fresh 1 1)) index
unfolding index
index-allowed = computed (From (fresh 1 1)) index refl

index-fates : (fate (with_steps (From (fresh 1 1)) index) (own 1 0 0) ≡ Fates.Prepared)
    × (fate (with_steps (From (fresh 1 1)) index) (own 2 0 0) ≡ Fates.Committed)
    × (fate (with_steps (From (fresh 1 1)) index) (own 3 0 0) ≡ Fates.Prepared) × (fate (with_steps (From (fresh 1 1)) index) (own 4 0 0) ≡ Fates.Prepared)
unfolding index
index-fates = (refl, refl, refl, refl)

index-log : log (with_steps (From (fresh 1 1)) index) ≡ (row (gtrid 1 2) (own 2 0 0 ∷ []) ∷ [])
unfolding index
index-log = refl

-- A scan that is not over is closed by a break of its line.
unfoldable pub scan_broken : List (Step × Reply)
scan_broken =
    once (Steps.Begin 0) (Replies.Begun (gtrid 1 1))
    ++ ready 0 (own 1 0 0)
    ++ called 0 0 (Calls.Prepare (own 1 0 0)) (Ret Codes.Success)
    ++ scanned 0 (pos 1) true false (Page (Ours (own 1 0 0) ∷ []))
    ++ scanned 0 (pos 1) false false (Page [])
    ++ once (Steps.Crash (Part.Line 0 0)) Replies.Crashed
    ++ called 0 0 Calls.OpenRm (Ret Codes.Success)
    ++ scanned 0 (pos 1) false false (Ret Codes.Invalid)

scan_broken-allowed : AllAllowed (From (fresh 1 1)) scan_broken
unfolding scan_broken
scan_broken-allowed = computed (From (fresh 1 1)) scan_broken refl

scan_broken-fates : fate (with_steps (From (fresh 1 1)) scan_broken) (own 1 0 0) ≡ Fates.Prepared
unfolding scan_broken
scan_broken-fates = refl

scan_broken-log : log (with_steps (From (fresh 1 1)) scan_broken) ≡ []
unfolding scan_broken
scan_broken-log = refl

-- Identifiers of other managers are listed in order beside those of this one, and left alone.
unfoldable pub foreign_beside_own : List (Step × Reply)
foreign_beside_own =
    once (Steps.Begin 0) (Replies.Begun (gtrid 1 1))
    ++ ready 0 (own 1 0 0)
    ++ called 0 0 (Calls.Prepare (own 1 0 0)) (Ret Codes.Success)
    ++ once (Steps.Decide (gtrid 1 1) Outcome.Rollback) Replies.Decided
    ++ scanned 0 (pos 8) true true (Page (Foreign (foreign (negsuc 1) (9 ∷ [])) ∷ Foreign (foreign (pos 1) (2 ∷ [])) ∷ Foreign (foreign (pos 1) (2 ∷ 1 ∷ []))
    ∷ Ours (own 1 0 0) ∷ Foreign (foreign (pos 8) (2 ∷ [])) ∷ []))
    ++ once (Steps.Resolve 0) (Replies.Resolved 1)
    ++ answered 0 0 (Calls.Rollback (own 1 0 0)) (Ret Codes.Success)
    ++ scanned 0 (pos 8) true true (Page (Foreign (foreign (negsuc 1) (9 ∷ [])) ∷ Foreign (foreign (pos 1) (2 ∷ [])) ∷ Foreign (foreign (pos 1) (2 ∷ 1 ∷ []))
    ∷ Foreign (foreign (pos 8) (2 ∷ [])) ∷ []))

foreign_beside_own-allowed : AllAllowed (From (with_foreign)) foreign_beside_own
unfolding foreign_beside_own
foreign_beside_own-allowed = computed (From (with_foreign)) foreign_beside_own refl

foreign_beside_own-fates : fate (with_steps (From (with_foreign)) foreign_beside_own) (own 1 0 0) ≡ Fates.RolledBack
unfolding foreign_beside_own
foreign_beside_own-fates = refl

foreign_beside_own-log : log (with_steps (From (with_foreign)) foreign_beside_own) ≡ []
unfolding foreign_beside_own
foreign_beside_own-log = refl
