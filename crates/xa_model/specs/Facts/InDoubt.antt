-- What a resource manager has in doubt, and the page that the first thread's scan gives next (XA, chapter 5, xa_recover).
use Rattle.std.specs.Prelude.{ℕ, ℤ, List, [], ◌∷◌, ◌++◌, map, filter, Bool, true, ◌&&◌, nat_eq, if◌then◌else◌, Option, Some, None}
use Rattle.std.specs.BTreeSet.{insert_key}
use Rattle.std.specs.declared.cmp.Ordering.{Ordering}
use Rattle.std.specs.Ordering.{on}
use Rattle.xa_base.specs.Branch.{branch_of_xid, xid_of_branch}
use Rattle.xa_base.specs.Recover.{page_answer}
use Rattle.xa_base.specs.Scan.{Scan, Scan.NotOpen, reads_from, page_of, scan_after}
use Rattle.xa_base.specs.Standing.{is_in_doubt}
use Rattle.xa_base.specs.Xid.{Xid, xid_cmp}
use Rattle.xa_model.specs.Facts.{origin, breaks, branches, standing}
use Rattle.xa_base.specs.declared.call.Call.TheVariants as Calls
use Rattle.xa_base.specs.declared.answer.Answer.TheVariants.{Ret, Page}
use Rattle.xa_model.specs.Trace.{Branch, Name, Name.Ours, Name.Foreign, Answer, Happening, Happening.Took, Trace, Trace.From, Trace.Then, line, line_eq}

-- ** in doubt

-- the identifier that a name stands for
abbrev pub xid_of_name : Name → Xid
xid_of_name (Ours b) = xid_of_branch b
xid_of_name (Foreign x) = x

-- a name, by the branch of this manager that the identifier names
abbrev pub name_by : Xid → Option Branch → Name
name_by x (Some b) = Ours b
name_by x None = Foreign x

-- the name that an identifier is read as
abbrev pub name_of : Xid → Name
name_of x = name_by x (branch_of_xid x)

-- the order of names is that of identifiers
abbrev pub name_cmp : Name → Name → Ordering
name_cmp = on xid_of_name xid_cmp

-- names in their order, each once
abbrev pub in_order : List Name → List Name
in_order [] = []
in_order (x ∷ xs) = insert_key name_cmp (in_order xs) x

-- a branch at this resource manager that is prepared or heuristically completed
abbrev pub is_in_doubt_at : Trace → (rm : ℕ) → Branch → Bool
is_in_doubt_at tr r b = nat_eq b.rm r && is_in_doubt (standing tr b)

-- what was in doubt at the start and still is: other managers' identifiers stay
abbrev pub is_still_in_doubt : Trace → (rm : ℕ) → Name → Bool
is_still_in_doubt tr r (Ours b) = is_in_doubt_at tr r b
is_still_in_doubt tr r (Foreign x) = true

-- all that is in doubt at a resource manager, in order: of what the start found there, and of the branches started since
abbrev pub in_doubt : Trace → (rm : ℕ) → List Name
in_doubt tr r = in_order
    (filter (is_still_in_doubt tr r) (map name_of ((origin tr).in_doubt r)) ++ map (λ b. Ours b) (filter (is_in_doubt_at tr r) (branches tr)))

-- ** the first thread's scan

-- the page of an answer, if it is one
abbrev pub page_in : Answer → Option (List Name)
page_in (Page names) = Some names
page_in (Ret code) = None

-- a page moves the scan, another answer leaves it
abbrev pub scan_moved : Scan Name → Happening → (rm : ℕ) → Scan Name
scan_moved scan (Took l (Calls.Recover n start end) a) r = if line_eq l (line 0 r) then scan_after scan start end (page_in a) else scan
scan_moved scan _ r = scan

-- where it stands: a break of its line closes it
abbrev pub scan : Trace → (rm : ℕ) → Scan Name
scan (From o) r = o.scans r
scan (Then tr e) r = if breaks tr e (line 0 r) then NotOpen else scan_moved (scan tr r) e r

-- ** the answer

-- the answer to an xa_recover of so many
abbrev pub scan_answer : Trace → (rm : ℕ) → (count : ℤ) → (start : Bool) → Answer
scan_answer tr r count start = page_answer (page_of name_cmp count (reads_from (scan tr r) start) (in_doubt tr r))
