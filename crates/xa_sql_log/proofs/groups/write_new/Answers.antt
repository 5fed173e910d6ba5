use Rattle.std.proofs.Common.{◌≡◌, inl, inr, IsSomeAnd, OnErr, subst, arith, rules}
use Rattle.sqlite.specs.Held.{state}
use Rattle.sqlite.specs.State.{HasCleanDisk}
use Rattle.sqlite.proofs.Callers.{survives_begin}
use Rattle.sqlite.proofs.StateLemmas.{survives_then}
use Rattle.xa_log.specs.Content.{logged_each, with_commits}
use Rattle.xa_log.specs.Contract.{IsShutOrSame, Makes}
use Rattle.xa_log.proofs.Parts.{on_err}
use Rattle.xa_sql_log.specs.Sql.{IsOrderly, MayChange, content_in}
use Rattle.xa_sql_log.proofs.GroupedRows.{may_begin, told_before}
use Rattle.xa_sql_log.proofs.Inside.{made_committed, made_commits, made_failed, survives_none, tried, undone_after, undone_content}
use Rattle.xa_sql_log.proofs.States.{did_makes, opened_clean}
use Rattle.xa_sql_log.proofs.groups.write_new.Goals as goal

pub returns-in_err-insert_new-clause-changes : goal.returns-in_err-insert_new-clause-changes
returns-in_err-insert_new-clause-changes g c there =
    let old = c.args.conn.now in
    let mid = c.insert_new.new.tx.conn.now in
    let end = c.drop-tx.new.self.0 in
    let change = with_commits c.args.decisions.now in
    let same : end ≡ c.conn-1.given.0 = search rules in
    let begins = c.transaction-tx.ensures.begun in
    let early : HasCleanDisk (state g.S.Store end) → HasCleanDisk (state g.S.Store mid) = λ clean. omega (arith, c.drop-tx.ensures.survives.clean) in
    let whole =
    survives_none (state g.S.Store old) (state g.S.Store mid) (state g.S.Store end)
    (survives_begin g.S.Store old (state g.S.Store mid) _ (rw begins at c.insert_new.ensures.survives)) c.drop-tx.ensures.survives in
    subst (λ h. MayChange change (state g.S.Store old) (state g.S.Store h)) same
    (tried (state g.S.Store old) (state g.S.Store end) (opened_clean _ _ (g.met.S.Store.shut_if_dirty end.store)) (λ _. ⊥) whole change
    (λ order clean. inl (undone_after (state g.S.Store old) (state g.S.Store mid) (state g.S.Store end)
    (rw begins at (c.insert_new.ensures.kept (early clean))) (c.drop-tx.ensures.undone clean)))
    (λ order clean db none. absurd none))

pub returns-in_err-of_store-clause-changes : goal.returns-in_err-of_store-clause-changes
returns-in_err-of_store-clause-changes g c there =
    let ds = c.args.decisions.now in
    let old = c.args.conn.now in
    let mid = c.insert_new.new.tx.conn.now in
    let end = c.commit.new.self.0 in
    let change = with_commits ds in
    let same : end ≡ c.conn-2-1.given.0 = search rules in
    let begins = c.transaction-tx.ensures.begun in
    let early : HasCleanDisk (state g.S.Store end) → HasCleanDisk (state g.S.Store mid) = λ clean. omega (arith, c.commit.ensures.survives.clean) in
    let inside = survives_begin g.S.Store old (state g.S.Store mid) _ (rw begins at c.insert_new.ensures.survives) in
    let written =
    λ (order : IsOrderly (state g.S.Store old)) (clean : HasCleanDisk (state g.S.Store mid)).
    rw begins at (c.in_ok-insert_new.ensures.written clean
    (rw begins (may_begin ds (state g.S.Store old) (state g.S.Store mid) (state g.S.Store end) c.args.answers.now there order))) in
    let whole =
    survives_then (state g.S.Store old) (state g.S.Store mid) (state g.S.Store end) _ _ (λ db. db ≡ (state g.S.Store mid).now.trees)
    (λ _ db none. absurd none) (λ _ db is. is) inside c.commit.ensures.survives in
    subst (λ h. MayChange change (state g.S.Store old) (state g.S.Store h)) same
    (tried (state g.S.Store old) (state g.S.Store end) (opened_clean _ _ (g.met.S.Store.shut_if_dirty end.store))
    (λ db. db ≡ (state g.S.Store mid).now.trees) whole change
    (λ order clean. inl (made_failed change (state g.S.Store old) (state g.S.Store mid) (state g.S.Store end) c.in_err-of_store.ensures.err.1.0
    (rw begins at (c.insert_new.ensures.kept (early clean))) (written order (early clean)).made
    (rw c.in_err-of_store.ensures.err.1.1 at (c.commit.ensures.err clean))))
    (λ order clean. made_commits change (state g.S.Store old) (state g.S.Store mid) (state g.S.Store end) (written order (early clean)).made))

pub returns-clause-changes : goal.returns-clause-changes
returns-clause-changes g c there =
    let ds = c.args.decisions.now in
    let old = c.args.conn.now in
    let mid = c.insert_new.new.tx.conn.now in
    let end = c.commit.new.self.0 in
    let change = with_commits ds in
    let same : end ≡ c.conn-2-1.given.0 = search rules in
    let begins = c.transaction-tx.ensures.begun in
    let early : HasCleanDisk (state g.S.Store end) → HasCleanDisk (state g.S.Store mid) = λ clean. omega (arith, c.commit.ensures.survives.clean) in
    let inside = survives_begin g.S.Store old (state g.S.Store mid) _ (rw begins at c.insert_new.ensures.survives) in
    let written =
    λ (order : IsOrderly (state g.S.Store old)) (clean : HasCleanDisk (state g.S.Store mid)).
    rw begins at (c.in_ok-insert_new.ensures.written clean
    (rw begins (may_begin ds (state g.S.Store old) (state g.S.Store mid) (state g.S.Store end) c.args.answers.now there order))) in
    let whole =
    survives_then (state g.S.Store old) (state g.S.Store mid) (state g.S.Store end) _ _ (λ db. db ≡ (state g.S.Store mid).now.trees)
    (λ _ db none. absurd none) (λ _ db is. is) inside c.commit.ensures.survives in
    subst (λ h. MayChange change (state g.S.Store old) (state g.S.Store h)) same
    (tried (state g.S.Store old) (state g.S.Store end) (opened_clean _ _ (g.met.S.Store.shut_if_dirty end.store))
    (λ db. db ≡ (state g.S.Store mid).now.trees) whole change
    (λ order clean. inr (made_committed change (state g.S.Store old) (state g.S.Store mid) (state g.S.Store end) (written order (early clean)).made
    (rw c.in_ok-of_store.ensures.ok at (c.commit.ensures.ok clean)).1))
    (λ order clean. made_commits change (state g.S.Store old) (state g.S.Store mid) (state g.S.Store end) (written order (early clean)).made))

pub returns-clause-ok : goal.returns-clause-ok
returns-clause-ok g c there order =
    let ds = c.args.decisions.now in
    let old = c.args.conn.now in
    let mid = c.insert_new.new.tx.conn.now in
    let end = c.commit.new.self.0 in
    let change = with_commits ds in
    let same : end ≡ c.conn-2-1.given.0 = search rules in
    let begins = c.transaction-tx.ensures.begun in
    let early : HasCleanDisk (state g.S.Store end) → HasCleanDisk (state g.S.Store mid) = λ clean. omega (arith, c.commit.ensures.survives.clean) in
    let written =
    λ (clean : HasCleanDisk (state g.S.Store mid)).
    rw begins at (c.in_ok-insert_new.ensures.written clean
    (rw begins (may_begin ds (state g.S.Store old) (state g.S.Store mid) (state g.S.Store end) c.args.answers.now there order))) in
    subst (λ h. HasCleanDisk (state g.S.Store h) → Makes change (content_in (state g.S.Store old)) (content_in (state g.S.Store h))) same
    (λ clean. did_makes change (state g.S.Store old) (state g.S.Store end)
    (made_committed change (state g.S.Store old) (state g.S.Store mid) (state g.S.Store end) (written (early clean)).made
    (rw c.in_ok-of_store.ensures.ok at (c.commit.ensures.ok clean)).1))

pub returns-clause-told : goal.returns-clause-told
returns-clause-told g c there order =
    let ds = c.args.decisions.now in
    let answers = c.args.answers.now in
    let old = c.args.conn.now in
    let mid = c.insert_new.new.tx.conn.now in
    let end = c.commit.new.self.0 in
    let same : end ≡ c.conn-2-1.given.0 = search rules in
    let begins = c.transaction-tx.ensures.begun in
    let early : HasCleanDisk (state g.S.Store end) → HasCleanDisk (state g.S.Store mid) = λ clean. omega (arith, c.commit.ensures.survives.clean) in
    let written =
    λ (clean : HasCleanDisk (state g.S.Store mid)).
    rw begins at (c.in_ok-insert_new.ensures.written clean
    (rw begins (may_begin ds (state g.S.Store old) (state g.S.Store mid) (state g.S.Store end) answers there order))) in
    subst (λ h. HasCleanDisk (state g.S.Store h) → IsSomeAnd (content_in (state g.S.Store old)) (λ x. answers ≡ logged_each ds x)) same
    (λ clean. told_before ds answers (state g.S.Store old) (state g.S.Store mid) (written (early clean)))

pub returns-in_err-insert_new-clause-kept : goal.returns-in_err-insert_new-clause-kept
returns-in_err-insert_new-clause-kept g c there order =
    let old = c.args.conn.now in
    let mid = c.insert_new.new.tx.conn.now in
    let end = c.drop-tx.new.self.0 in
    let same : end ≡ c.conn-1.given.0 = search rules in
    let begins = c.transaction-tx.ensures.begun in
    let early : HasCleanDisk (state g.S.Store end) → HasCleanDisk (state g.S.Store mid) = λ clean. omega (arith, c.drop-tx.ensures.survives.clean) in
    subst (λ h. HasCleanDisk (state g.S.Store h)
    → OnErr c.from_residual.result (IsShutOrSame (content_in (state g.S.Store old)) (content_in (state g.S.Store h)))) same
    (λ clean. on_err _ _ (undone_content (state g.S.Store old) (state g.S.Store end) (opened_clean _ _ (g.met.S.Store.shut_if_dirty end.store))
    (undone_after (state g.S.Store old) (state g.S.Store mid) (state g.S.Store end)
    (rw begins at (c.insert_new.ensures.kept (early clean))) (c.drop-tx.ensures.undone clean)) order))

pub returns-in_err-of_store-clause-kept : goal.returns-in_err-of_store-clause-kept
returns-in_err-of_store-clause-kept g c there order =
    let ds = c.args.decisions.now in
    let old = c.args.conn.now in
    let mid = c.insert_new.new.tx.conn.now in
    let end = c.commit.new.self.0 in
    let same : end ≡ c.conn-2-1.given.0 = search rules in
    let begins = c.transaction-tx.ensures.begun in
    let early : HasCleanDisk (state g.S.Store end) → HasCleanDisk (state g.S.Store mid) = λ clean. omega (arith, c.commit.ensures.survives.clean) in
    let written =
    λ (clean : HasCleanDisk (state g.S.Store mid)).
    rw begins at (c.in_ok-insert_new.ensures.written clean
    (rw begins (may_begin ds (state g.S.Store old) (state g.S.Store mid) (state g.S.Store end) c.args.answers.now there order))) in
    subst (λ h. HasCleanDisk (state g.S.Store h)
    → OnErr c.from_residual-in_err-of_store.result (IsShutOrSame (content_in (state g.S.Store old)) (content_in (state g.S.Store h)))) same
    (λ clean. on_err _ _ (undone_content (state g.S.Store old) (state g.S.Store end) (opened_clean _ _ (g.met.S.Store.shut_if_dirty end.store))
    (made_failed (with_commits ds) (state g.S.Store old) (state g.S.Store mid) (state g.S.Store end) c.in_err-of_store.ensures.err.1.0
    (rw begins at (c.insert_new.ensures.kept (early clean))) (written (early clean)).made
    (rw c.in_err-of_store.ensures.err.1.1 at (c.commit.ensures.err clean))) order))
