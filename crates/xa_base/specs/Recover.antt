-- What a resource manager has in doubt, and what it answers to xa_recover.
use Rattle.std.specs.Prelude.{◌≡◌, ℤ, Bool, true, List, Option, Some, None, Contains, ◌↔◌}
use Rattle.std.specs.List.Sorted.{IsStrictlySortedBy}
use Rattle.xa_base.specs.HeldBranch.{HeldBranch}
use Rattle.xa_base.specs.Scan.{Scan, reads_from, page_of}
use Rattle.xa_base.specs.Standing.{is_in_doubt}
use Rattle.xa_base.specs.Xid.{Xid, xid_cmp}
use Rattle.xa_base.specs.declared.answer.Answer.{Answer}
use Rattle.xa_base.specs.declared.answer.Answer.TheVariants.{Ret, Page}
use Rattle.xa_base.specs.declared.code.Code.TheVariants.{Invalid}

-- the identifiers in doubt, each once and in order: exactly those whose branch is prepared or
-- heuristically completed
pub record IsInDoubtList (held : Xid → HeldBranch) (xids : List Xid) : Type 0 where
  pub in_order : IsStrictlySortedBy xid_cmp xids
  pub listed : (x : Xid) → Contains xids x ↔ (is_in_doubt (held x).standing ≡ true)

-- the page that a thread's scan gives of what is in doubt
abbrev pub xid_page : Scan Xid → (count : ℤ) → (start : Bool) → List Xid → Option (List Xid)
xid_page scan count start in_doubt = page_of xid_cmp count (reads_from scan start) in_doubt

-- the answer: the page, or XAER_INVAL if there is none
abbrev pub page_answer : {X : Type 0} → Option (List X) → Answer X
page_answer (Some page) = Page page
page_answer None = Ret Invalid
