-- What the faults of readings and of runs have to do with one another.
use Rattle.std.proofs.Common.{◌≡◌, ◌∙◌, ◌⊎◌, inl, inr, Result, Err, refl, sym}
use Rattle.xa_files.specs.Reading.{Fails, SaysOfReading}
use Rattle.xa_files.specs.declared.fault.RunFault.{RunFault}
use Rattle.xa_files.specs.declared.fault.RunFault.TheVariants.{NotToml, Header, Step, Job, Log, Memory, Work, Output}

-- a fault of the reading, which is none of the log, the work or the output
pub explained : {Y : Type 0} (fault : RunFault) (read : Result Y RunFault) → ¬ (read ≡ Err Log) → ¬ (read ≡ Err Work) → ¬ (read ≡ Err Output)
    → Fails fault read → SaysOfReading fault read
explained NotToml read log work output is = is
explained Header read log work output is = is
explained (Step n) read log work output is = is
explained (Job n) read log work output is = is
explained Log read log work output is = absurd (log is)
explained Memory read log work output is = tt
explained Work read log work output is = absurd (work is)
explained Output read log work output is = absurd (output is)

same_fault : {Y : Type 0} (a b : RunFault) (read : Result Y RunFault) → read ≡ Err a → read ≡ Err b → a ≡ b
same_fault {Y} a b read first second = let e : ◌≡◌ {A = Result Y RunFault} (Err a) (Err b) = sym first ∙ second in cc

-- a reader's fault is that of the text, or want of memory
pub ends_with : {Y : Type 0} (found fault : RunFault) (read : Result Y RunFault) → Fails found read → read ≡ Err fault → (found ≡ fault) ⊎ (found ≡ Memory)
ends_with NotToml fault read is known = inl (same_fault NotToml fault read is known)
ends_with Header fault read is known = inl (same_fault Header fault read is known)
ends_with (Step n) fault read is known = inl (same_fault (Step n) fault read is known)
ends_with (Job n) fault read is known = inl (same_fault (Job n) fault read is known)
ends_with Log fault read is known = inl (same_fault Log fault read is known)
ends_with Memory fault read is known = inr refl
ends_with Work fault read is known = inl (same_fault Work fault read is known)
ends_with Output fault read is known = inl (same_fault Output fault read is known)
