use Rattle.std.proofs.Common.{inl}
use Rattle.xa_log.proofs.Parts.{if_ok, on_any_ok}
use Rattle.sqlite.proofs.Callers.{memory_is_clean}
use Rattle.xa_sql_log.proofs.sql_log.opening.SqlLog+MemStore.open_in_memory.Goals as goal

pub returns-clause-empty : goal.returns-clause-empty
returns-clause-empty c =
    if_ok c.adopt_or_close.result _ _
    (λ log taken. (taken (memory_is_clean log.conn)).made c.in_ok-conn.ensures.empty.2)
    c.adopt_or_close.ensures.taken

pub returns-clause-honest : goal.returns-clause-honest
returns-clause-honest c = on_any_ok c.adopt_or_close.result _ (λ log. memory_is_clean log.conn)

pub returns-clause-order : goal.returns-clause-order
returns-clause-order c =
    if_ok c.adopt_or_close.result _ _ (λ log lasts. lasts (λ _. inl c.in_ok-conn.ensures.empty.2)) c.adopt_or_close.ensures.order
