-- What an open finds where no log has been made yet, and in files that hold a database.
use Rattle.std.proofs.Common.{◌≡◌, ◌≤◌, inl, inr, subst, arith}
use Rattle.sqlite.specs.Files.{Finds, HoldsDatabase, IsEmpty, file_state, image_of}
use Rattle.sqlite.specs.Held.{Held}
use Rattle.sqlite.specs.Recovery.{Image}
use Rattle.sqlite.specs.State.{State}
use Rattle.sqlite.specs.Tree.{Trees}
use Rattle.sqlite_disk.specs.declared.Disk.{Ghosts}
use Rattle.sqlite_disk.specs.declared.Files.{Files}
use Rattle.sqlite_pool.proofs.ProbeLemmas.{not_blank}
use Rattle.sqlite_pool.specs.Stored.{reserved}
use Rattle.sqlite_store.specs.declared.store.FileStore.{FileStore}
use Rattle.xa_sql_log.specs.FoundFiles.{FindsLogIn, IsUnmade}

-- files that hold a database aren't without one
pub holds_none : (image : Image) (db : Trees) → HoldsDatabase image db → ¬ IsUnmade image
holds_none image db held unmade =
    let large : 504 ≤ held.0 = (let few : reserved held.0 ≤ 8 = grind arith in omega (arith, held.1.0)) in
    not_blank held.0 image held.2.pages held.2.found large held.2.ours.file.sound 1024 (omega arith) unmade

pub finds_new : (image : Image) (s : State) → IsUnmade image → IsEmpty s.committed.trees → FindsLogIn image s
finds_new image s unmade empty = record { holds = λ db held. absurd (holds_none image db held unmade); reads = inr (unmade, empty) }

pub finds_old : {D : Type 0} {g : Ghosts D} (image : Image) (files : Files D) (conn : Held (FileStore D g)) → image_of g files ≡ image → Finds files conn
    → FindsLogIn image (file_state conn)
finds_old image files conn same found = subst (λ i. FindsLogIn i (file_state conn)) same (record { holds = found.holds; reads = inl found.reads })
