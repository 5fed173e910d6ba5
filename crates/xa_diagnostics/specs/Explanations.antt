-- What is told of a file that is refused.
use Rattle.std.specs.Prelude.{◌≡◌, ℕ, List, [], ◌++◌, codes, Option, Some, None}
use Rattle.std.specs.Fmt.{decimal}
use Rattle.xa_files.specs.declared.fault.RunFault.{RunFault}
use Rattle.xa_files.specs.declared.fault.RunFault.TheVariants.{NotToml, Header, Step, Job, Log, Memory, Work, Output}

-- where the fault of a file lies
abbrev pub place_text : RunFault → List ℕ
place_text NotToml = codes "not TOML"
place_text Header = codes "header"
place_text (Step n) = codes "step " ++ decimal n
place_text (Job n) = codes "job " ++ decimal n
place_text Log = []
place_text Memory = []
place_text Work = []
place_text Output = []

-- a number, as editors take it after a path
abbrev pub number_text : Option ℕ → List ℕ
number_text None = []
number_text (Some n) = codes ":" ++ decimal n

-- a line and a column, likewise
unfoldable pub numbers_text : (line column : Option ℕ) → List ℕ
numbers_text line column = number_text line ++ number_text column

-- where a fault lies, and its reason
unfoldable pub reason_text : RunFault → List ℕ → List ℕ
reason_text fault reason = place_text fault ++ codes ": " ++ reason

-- what is told of a fault of the file at a path: the path, perhaps a line, where the fault lies,
-- and then a reason
abbrev pub located_fault_text : (path : List ℕ) → RunFault → (line column : Option ℕ) → (reason : List ℕ) → List ℕ
located_fault_text path fault line column reason = path ++ numbers_text line column ++ codes ": " ++ reason_text fault reason

-- What is told of the file at a path tells of this fault first, for some reason.
pub record ReportsFirst (path : List ℕ) (fault : RunFault) (told : List ℕ) : Type 0 where
  pub line : Option ℕ
  pub column : Option ℕ
  pub reason : List ℕ
  pub is : told ≡ located_fault_text path fault line column reason
