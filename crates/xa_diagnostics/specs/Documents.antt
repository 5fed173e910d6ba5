-- What a file is read as.
use Rattle.std.specs.Prelude.{ℕ, if◌then◌else◌, List, codes, not, ◌&&◌, Result, Ok, Err}
use Rattle.toml.specs.Data.{Members}
use Rattle.xa_files.specs.Documents.{document_of}
use Rattle.xa_files.specs.Fields.{holds}
use Rattle.xa_files.specs.declared.fault.RunFault.{RunFault}
use Rattle.xa_diagnostics.specs.declared.document.FileKind.{FileKind}
use Rattle.xa_diagnostics.specs.declared.document.FileKind.TheVariants.{Scenario, Jobs}

-- a document: jobs, if it has the key of jobs at its top, and not that of steps
abbrev pub kind_in : Members → FileKind
kind_in document = if holds (codes "job") document && not (holds (codes "step") document) then Jobs else Scenario

-- a text that is no document is read as a scenario
abbrev pub kind_read : Result Members RunFault → FileKind
kind_read (Ok document) = kind_in document
kind_read (Err fault) = Scenario

abbrev pub file_kind_of : List ℕ → FileKind
file_kind_of text = kind_read (document_of text)
