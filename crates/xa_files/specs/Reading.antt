-- What reading a file gives, a value or the first fault; and what the fault of a run tells of it.
use Rattle.std.specs.Prelude.{◌≡◌, ◌⊎◌, Result, Ok, Err, IsErrAnd, IsOk}
use Rattle.xa_files.specs.declared.fault.RunFault.{RunFault}
use Rattle.xa_files.specs.declared.fault.RunFault.TheVariants.{Log, Memory, Work, Output}

-- what follows, if there is no fault
infixl 10 ◌>>=◌
abbrev pub ◌>>=◌ : {A B : Type 0} → Result A RunFault → (A → Result B RunFault) → Result B RunFault
(Ok x) >>= f = f x
(Err e) >>= f = Err e

-- A fault is that which reading gives, or want of memory.
abbrev pub Fails : {Y : Type 0} → RunFault → Result Y RunFault → Type 0
Fails Memory read = Unit {0}
Fails fault read = read ≡ Err fault

-- What a function returned, seen by `view`, is what reading gives, unless memory ran out.
abbrev pub Gives : {X Y : Type 0} → (X → Y) → Result X RunFault → Result Y RunFault → Type 0
Gives view (Ok x) read = read ≡ Ok (view x)
Gives view (Err e) read = Fails e read

-- What a fault tells of the reading of the text: want of memory tells nothing; a fault of the log,
-- of the work or of the output that it was read; and each other fault is the text's own.
abbrev pub SaysOfReading : {Y : Type 0} → RunFault → Result Y RunFault → Type 0
SaysOfReading Memory read = Unit {0}
SaysOfReading Log read = IsOk read
SaysOfReading Work read = IsOk read
SaysOfReading Output read = IsOk read
SaysOfReading fault read = read ≡ Err fault

-- A run of a text with this fault ends with it, unless memory ran out.
abbrev pub EndsWith : RunFault → Result (Unit {0}) RunFault → Type 0
EndsWith fault result = IsErrAnd result (λ e. (e ≡ fault) ⊎ (e ≡ Memory))
