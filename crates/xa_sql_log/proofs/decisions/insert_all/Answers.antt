use Rattle.std.proofs.Common.{◌≡◌, ◌⊎◌, IsSomeAnd, OnErr, None, false, inl, inr, refl, subst, arith, rules}
use Rattle.xa_base.specs.Branch.{branch_cmp}
use Rattle.xa_log.specs.KeySet.{KeySet, from_list}
use Rattle.sqlite.specs.Held.{state}
use Rattle.sqlite.specs.State.{HasCleanDisk}
use Rattle.sqlite.proofs.Callers.{survives_begin}
use Rattle.sqlite.proofs.StateLemmas.{survives_then}
use Rattle.sqlite.proofs.InsideLemmas.{keeps_then}
use Rattle.std.specs.FinMap.{contains_key}
use Rattle.xa_log.specs.Content.{Content, with_commit}
use Rattle.xa_log.specs.Contract.{Makes}
use Rattle.xa_sql_log.specs.Sql.{MayChange, content_in}
use Rattle.xa_log.proofs.Parts.{on_err}
use Rattle.xa_sql_log.proofs.States.{opened_clean, did_makes}
use Rattle.xa_sql_log.proofs.Inside.{survives_none, undone_after, tried, begun, written_all, committed_all, failed_all, commits_all, none_before, undone_content}
use Rattle.xa_sql_log.proofs.decisions.insert_all.Goals as goal

pub returns-in_err-insert_decision-clause-changes : goal.returns-in_err-insert_decision-clause-changes
returns-in_err-insert_decision-clause-changes g c =
    let old = c.args.conn.now in
    let mid = c.insert_decision.new.tx.conn.now in
    let end = c.drop-tx.new.self.0 in
    let change = with_commit c.args.g (from_list c.args.participants.now) in
    let same : end ≡ c.conn-1.given.0 = search rules in
    let begins = c.transaction-tx.ensures.begun in
    let early : HasCleanDisk (state g.S.Store end) → HasCleanDisk (state g.S.Store mid) = λ clean. omega (arith, c.drop-tx.ensures.survives.clean) in
    let whole =
    survives_none (state g.S.Store old) (state g.S.Store mid) (state g.S.Store end)
    (survives_begin g.S.Store old (state g.S.Store mid) _ (rw begins at c.insert_decision.ensures.survives)) c.drop-tx.ensures.survives in
    subst (λ h. MayChange change (state g.S.Store old) (state g.S.Store h)) same
    (tried (state g.S.Store old) (state g.S.Store end) (opened_clean _ _ (g.met.S.Store.shut_if_dirty end.store)) (λ _. ⊥) whole change
    (λ order clean. inl (undone_after (state g.S.Store old) (state g.S.Store mid) (state g.S.Store end)
    (rw begins at (c.insert_decision.ensures.kept (early clean))) (c.drop-tx.ensures.undone clean)))
    (λ order clean db none. absurd none))

pub returns-in_err-insert_participants-clause-changes : goal.returns-in_err-insert_participants-clause-changes
returns-in_err-insert_participants-clause-changes g c =
    let old = c.args.conn.now in
    let first = c.insert_decision.new.tx.conn.now in
    let mid = c.insert_participants.new.tx.conn.now in
    let end = c.drop-tx-in_err-insert_participants.new.self.0 in
    let set : KeySet branch_cmp = from_list c.args.participants.now in
    let change = with_commit c.args.g set in
    let same : end ≡ c.conn-in_err-insert_participants-1.given.0 = search rules in
    let begins = c.transaction-tx.ensures.begun in
    let back : HasCleanDisk (state g.S.Store mid) → HasCleanDisk (state g.S.Store first) =
    λ clean. omega (arith, c.insert_participants.ensures.survives.clean) in
    let early : HasCleanDisk (state g.S.Store end) → HasCleanDisk (state g.S.Store mid) =
    λ clean. omega (arith, c.drop-tx-in_err-insert_participants.ensures.survives.clean) in
    let inside =
    survives_none (state g.S.Store old) (state g.S.Store first) (state g.S.Store mid)
    (survives_begin g.S.Store old (state g.S.Store first) _ (rw begins at c.insert_decision.ensures.survives)) c.insert_participants.ensures.survives in
    let keeps =
    λ (clean : HasCleanDisk (state g.S.Store mid)). keeps_then (begun (state g.S.Store old)) (state g.S.Store first)
    (state g.S.Store mid) (rw begins at (c.insert_decision.ensures.kept (back clean))) (c.insert_participants.ensures.kept clean) in
    let whole = survives_none (state g.S.Store old) (state g.S.Store mid) (state g.S.Store end) inside c.drop-tx-in_err-insert_participants.ensures.survives in
    subst (λ h. MayChange change (state g.S.Store old) (state g.S.Store h)) same
    (tried (state g.S.Store old) (state g.S.Store end) (opened_clean _ _ (g.met.S.Store.shut_if_dirty end.store)) (λ _. ⊥) whole change
    (λ order clean. inl (undone_after (state g.S.Store old) (state g.S.Store mid) (state g.S.Store end) (keeps (early clean))
    (c.drop-tx-in_err-insert_participants.ensures.undone clean)))
    (λ order clean db none. absurd none))

pub returns-in_err-of_store-clause-changes : goal.returns-in_err-of_store-clause-changes
returns-in_err-of_store-clause-changes g c =
    let old = c.args.conn.now in
    let first = c.insert_decision.new.tx.conn.now in
    let mid = c.insert_participants.new.tx.conn.now in
    let end = c.commit.new.self.0 in
    let set : KeySet branch_cmp = from_list c.args.participants.now in
    let change = with_commit c.args.g set in
    let same : end ≡ c.conn-2-1.given.0 = search rules in
    let begins = c.transaction-tx.ensures.begun in
    let back : HasCleanDisk (state g.S.Store mid) → HasCleanDisk (state g.S.Store first) =
    λ clean. omega (arith, c.insert_participants.ensures.survives.clean) in
    let early : HasCleanDisk (state g.S.Store end) → HasCleanDisk (state g.S.Store mid) = λ clean. omega (arith, c.commit.ensures.survives.clean) in
    let inside =
    survives_none (state g.S.Store old) (state g.S.Store first) (state g.S.Store mid)
    (survives_begin g.S.Store old (state g.S.Store first) _ (rw begins at c.insert_decision.ensures.survives)) c.insert_participants.ensures.survives in
    let keeps =
    λ (clean : HasCleanDisk (state g.S.Store mid)). keeps_then (begun (state g.S.Store old)) (state g.S.Store first)
    (state g.S.Store mid) (rw begins at (c.insert_decision.ensures.kept (back clean))) (c.insert_participants.ensures.kept clean) in
    let written =
    written_all c.args.g set (state g.S.Store old) (state g.S.Store mid) (state g.S.Store end) (state g.S.Store first) back
    (λ clean. rw begins at (c.in_ok-insert_decision.ensures.live clean))
    (λ log clean. rw begins at (c.in_ok-insert_decision.ensures.absent (rw begins log) (rw begins refl) clean))
    (λ may clean. rw begins at (c.in_ok-insert_decision.ensures.written (rw begins may) clean)) c.in_ok-insert_participants.ensures.written in
    let whole =
    survives_then (state g.S.Store old) (state g.S.Store mid) (state g.S.Store end) _ _ (λ db. db ≡ (state g.S.Store mid).now.trees)
    (λ _ db none. absurd none) (λ _ db is. is) inside c.commit.ensures.survives in
    subst (λ h. MayChange change (state g.S.Store old) (state g.S.Store h)) same
    (tried (state g.S.Store old) (state g.S.Store end) (opened_clean _ _ (g.met.S.Store.shut_if_dirty end.store))
    (λ db. db ≡ (state g.S.Store mid).now.trees) whole change
    (λ order clean. inl (failed_all c.args.g set (state g.S.Store old) (state g.S.Store mid) (state g.S.Store end) c.in_err-of_store.ensures.err.1.0
    (keeps (early clean)) (written order (early clean)) (rw c.in_err-of_store.ensures.err.1.1 at (c.commit.ensures.err clean))))
    (λ order clean. commits_all c.args.g set (state g.S.Store old) (state g.S.Store mid) (state g.S.Store end) (written order (early clean))))

pub returns-clause-changes : goal.returns-clause-changes
returns-clause-changes g c =
    let old = c.args.conn.now in
    let first = c.insert_decision.new.tx.conn.now in
    let mid = c.insert_participants.new.tx.conn.now in
    let end = c.commit.new.self.0 in
    let set : KeySet branch_cmp = from_list c.args.participants.now in
    let change = with_commit c.args.g set in
    let same : end ≡ c.conn-2-1.given.0 = search rules in
    let begins = c.transaction-tx.ensures.begun in
    let back : HasCleanDisk (state g.S.Store mid) → HasCleanDisk (state g.S.Store first) =
    λ clean. omega (arith, c.insert_participants.ensures.survives.clean) in
    let early : HasCleanDisk (state g.S.Store end) → HasCleanDisk (state g.S.Store mid) = λ clean. omega (arith, c.commit.ensures.survives.clean) in
    let inside =
    survives_none (state g.S.Store old) (state g.S.Store first) (state g.S.Store mid)
    (survives_begin g.S.Store old (state g.S.Store first) _ (rw begins at c.insert_decision.ensures.survives)) c.insert_participants.ensures.survives in
    let keeps =
    λ (clean : HasCleanDisk (state g.S.Store mid)). keeps_then (begun (state g.S.Store old)) (state g.S.Store first)
    (state g.S.Store mid) (rw begins at (c.insert_decision.ensures.kept (back clean))) (c.insert_participants.ensures.kept clean) in
    let written =
    written_all c.args.g set (state g.S.Store old) (state g.S.Store mid) (state g.S.Store end) (state g.S.Store first) back
    (λ clean. rw begins at (c.in_ok-insert_decision.ensures.live clean))
    (λ log clean. rw begins at (c.in_ok-insert_decision.ensures.absent (rw begins log) (rw begins refl) clean))
    (λ may clean. rw begins at (c.in_ok-insert_decision.ensures.written (rw begins may) clean)) c.in_ok-insert_participants.ensures.written in
    let whole =
    survives_then (state g.S.Store old) (state g.S.Store mid) (state g.S.Store end) _ _ (λ db. db ≡ (state g.S.Store mid).now.trees)
    (λ _ db none. absurd none) (λ _ db is. is) inside c.commit.ensures.survives in
    subst (λ h. MayChange change (state g.S.Store old) (state g.S.Store h)) same
    (tried (state g.S.Store old) (state g.S.Store end) (opened_clean _ _ (g.met.S.Store.shut_if_dirty end.store))
    (λ db. db ≡ (state g.S.Store mid).now.trees) whole change
    (λ order clean. inr (committed_all c.args.g set (state g.S.Store old) (state g.S.Store mid) (state g.S.Store end) (written order (early clean))
    (rw c.in_ok-of_store.ensures.ok at (c.commit.ensures.ok clean)).1))
    (λ order clean. commits_all c.args.g set (state g.S.Store old) (state g.S.Store mid) (state g.S.Store end) (written order (early clean))))

pub returns-clause-ok : goal.returns-clause-ok
returns-clause-ok g c order =
    let old = c.args.conn.now in
    let first = c.insert_decision.new.tx.conn.now in
    let mid = c.insert_participants.new.tx.conn.now in
    let end = c.commit.new.self.0 in
    let set : KeySet branch_cmp = from_list c.args.participants.now in
    let change = with_commit c.args.g set in
    let same : end ≡ c.conn-2-1.given.0 = search rules in
    let begins = c.transaction-tx.ensures.begun in
    let back : HasCleanDisk (state g.S.Store mid) → HasCleanDisk (state g.S.Store first) =
    λ clean. omega (arith, c.insert_participants.ensures.survives.clean) in
    let early : HasCleanDisk (state g.S.Store end) → HasCleanDisk (state g.S.Store mid) = λ clean. omega (arith, c.commit.ensures.survives.clean) in
    let inside =
    survives_none (state g.S.Store old) (state g.S.Store first) (state g.S.Store mid)
    (survives_begin g.S.Store old (state g.S.Store first) _ (rw begins at c.insert_decision.ensures.survives)) c.insert_participants.ensures.survives in
    let keeps =
    λ (clean : HasCleanDisk (state g.S.Store mid)). keeps_then (begun (state g.S.Store old)) (state g.S.Store first)
    (state g.S.Store mid) (rw begins at (c.insert_decision.ensures.kept (back clean))) (c.insert_participants.ensures.kept clean) in
    let written =
    written_all c.args.g set (state g.S.Store old) (state g.S.Store mid) (state g.S.Store end) (state g.S.Store first) back
    (λ clean. rw begins at (c.in_ok-insert_decision.ensures.live clean))
    (λ log clean. rw begins at (c.in_ok-insert_decision.ensures.absent (rw begins log) (rw begins refl) clean))
    (λ may clean. rw begins at (c.in_ok-insert_decision.ensures.written (rw begins may) clean)) c.in_ok-insert_participants.ensures.written in
    subst (λ h. HasCleanDisk (state g.S.Store h) → Makes change (content_in (state g.S.Store old)) (content_in (state g.S.Store h))) same
    (λ clean. did_makes change (state g.S.Store old) (state g.S.Store end)
    (committed_all c.args.g set (state g.S.Store old) (state g.S.Store mid) (state g.S.Store end) (written order (early clean))
    (rw c.in_ok-of_store.ensures.ok at (c.commit.ensures.ok clean)).1))

pub returns-clause-absent : goal.returns-clause-absent
returns-clause-absent g c order =
    let old = c.args.conn.now in
    let first = c.insert_decision.new.tx.conn.now in
    let mid = c.insert_participants.new.tx.conn.now in
    let end = c.commit.new.self.0 in
    let set : KeySet branch_cmp = from_list c.args.participants.now in
    let same : end ≡ c.conn-2-1.given.0 = search rules in
    let begins = c.transaction-tx.ensures.begun in
    let back : HasCleanDisk (state g.S.Store mid) → HasCleanDisk (state g.S.Store first) =
    λ clean. omega (arith, c.insert_participants.ensures.survives.clean) in
    let early : HasCleanDisk (state g.S.Store end) → HasCleanDisk (state g.S.Store mid) = λ clean. omega (arith, c.commit.ensures.survives.clean) in
    let written =
    written_all c.args.g set (state g.S.Store old) (state g.S.Store mid) (state g.S.Store end) (state g.S.Store first) back
    (λ clean. rw begins at (c.in_ok-insert_decision.ensures.live clean))
    (λ log clean. rw begins at (c.in_ok-insert_decision.ensures.absent (rw begins log) (rw begins refl) clean))
    (λ may clean. rw begins at (c.in_ok-insert_decision.ensures.written (rw begins may) clean)) c.in_ok-insert_participants.ensures.written in
    subst (λ h. HasCleanDisk (state g.S.Store h) → IsSomeAnd (content_in (state g.S.Store old))
    (λ (x : Content). false ≡ contains_key x.decisions c.args.g)) same
    (λ clean. none_before c.args.g set (state g.S.Store old) (state g.S.Store mid) (state g.S.Store end) (written order (early clean)))

pub returns-in_err-insert_decision-clause-kept : goal.returns-in_err-insert_decision-clause-kept
returns-in_err-insert_decision-clause-kept g c order =
    let old = c.args.conn.now in
    let mid = c.insert_decision.new.tx.conn.now in
    let end = c.drop-tx.new.self.0 in
    let same : end ≡ c.conn-1.given.0 = search rules in
    let begins = c.transaction-tx.ensures.begun in
    let early : HasCleanDisk (state g.S.Store end) → HasCleanDisk (state g.S.Store mid) = λ clean. omega (arith, c.drop-tx.ensures.survives.clean) in
    subst (λ h. HasCleanDisk (state g.S.Store h)
    → OnErr c.from_residual.result ((content_in (state g.S.Store h) ≡ None) ⊎ (content_in (state g.S.Store h) ≡ content_in (state g.S.Store old)))) same
    (λ clean. on_err _ _ (undone_content (state g.S.Store old) (state g.S.Store end) (opened_clean _ _ (g.met.S.Store.shut_if_dirty end.store))
    (undone_after (state g.S.Store old) (state g.S.Store mid) (state g.S.Store end)
    (rw begins at (c.insert_decision.ensures.kept (early clean))) (c.drop-tx.ensures.undone clean)) order))

pub returns-in_err-insert_participants-clause-kept : goal.returns-in_err-insert_participants-clause-kept
returns-in_err-insert_participants-clause-kept g c order =
    let old = c.args.conn.now in
    let first = c.insert_decision.new.tx.conn.now in
    let mid = c.insert_participants.new.tx.conn.now in
    let end = c.drop-tx-in_err-insert_participants.new.self.0 in
    let same : end ≡ c.conn-in_err-insert_participants-1.given.0 = search rules in
    let begins = c.transaction-tx.ensures.begun in
    let back : HasCleanDisk (state g.S.Store mid) → HasCleanDisk (state g.S.Store first) =
    λ clean. omega (arith, c.insert_participants.ensures.survives.clean) in
    let early : HasCleanDisk (state g.S.Store end) → HasCleanDisk (state g.S.Store mid) =
    λ clean. omega (arith, c.drop-tx-in_err-insert_participants.ensures.survives.clean) in
    let keeps =
    λ (clean : HasCleanDisk (state g.S.Store mid)). keeps_then (begun (state g.S.Store old)) (state g.S.Store first)
    (state g.S.Store mid) (rw begins at (c.insert_decision.ensures.kept (back clean))) (c.insert_participants.ensures.kept clean) in
    subst (λ h. HasCleanDisk (state g.S.Store h)
    → OnErr c.from_residual-in_err-insert_participants.result ((content_in (state g.S.Store h) ≡ None)
    ⊎ (content_in (state g.S.Store h) ≡ content_in (state g.S.Store old)))) same
    (λ clean. on_err _ _ (undone_content (state g.S.Store old) (state g.S.Store end) (opened_clean _ _ (g.met.S.Store.shut_if_dirty end.store))
    (undone_after (state g.S.Store old) (state g.S.Store mid) (state g.S.Store end) (keeps (early clean))
    (c.drop-tx-in_err-insert_participants.ensures.undone clean)) order))

pub returns-in_err-of_store-clause-kept : goal.returns-in_err-of_store-clause-kept
returns-in_err-of_store-clause-kept g c order =
    let old = c.args.conn.now in
    let first = c.insert_decision.new.tx.conn.now in
    let mid = c.insert_participants.new.tx.conn.now in
    let end = c.commit.new.self.0 in
    let set : KeySet branch_cmp = from_list c.args.participants.now in
    let same : end ≡ c.conn-2-1.given.0 = search rules in
    let begins = c.transaction-tx.ensures.begun in
    let back : HasCleanDisk (state g.S.Store mid) → HasCleanDisk (state g.S.Store first) =
    λ clean. omega (arith, c.insert_participants.ensures.survives.clean) in
    let early : HasCleanDisk (state g.S.Store end) → HasCleanDisk (state g.S.Store mid) = λ clean. omega (arith, c.commit.ensures.survives.clean) in
    let keeps =
    λ (clean : HasCleanDisk (state g.S.Store mid)). keeps_then (begun (state g.S.Store old)) (state g.S.Store first)
    (state g.S.Store mid) (rw begins at (c.insert_decision.ensures.kept (back clean))) (c.insert_participants.ensures.kept clean) in
    let written =
    written_all c.args.g set (state g.S.Store old) (state g.S.Store mid) (state g.S.Store end) (state g.S.Store first) back
    (λ clean. rw begins at (c.in_ok-insert_decision.ensures.live clean))
    (λ log clean. rw begins at (c.in_ok-insert_decision.ensures.absent (rw begins log) (rw begins refl) clean))
    (λ may clean. rw begins at (c.in_ok-insert_decision.ensures.written (rw begins may) clean)) c.in_ok-insert_participants.ensures.written in
    subst (λ h. HasCleanDisk (state g.S.Store h)
    → OnErr c.from_residual-in_err-of_store.result ((content_in (state g.S.Store h) ≡ None)
    ⊎ (content_in (state g.S.Store h) ≡ content_in (state g.S.Store old)))) same
    (λ clean. on_err _ _ (undone_content (state g.S.Store old) (state g.S.Store end) (opened_clean _ _ (g.met.S.Store.shut_if_dirty end.store))
    (failed_all c.args.g set (state g.S.Store old) (state g.S.Store mid) (state g.S.Store end) c.in_err-of_store.ensures.err.1.0
    (keeps (early clean)) (written order (early clean)) (rw c.in_err-of_store.ensures.err.1.1 at (c.commit.ensures.err clean))) order))
