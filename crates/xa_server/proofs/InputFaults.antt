-- Which faults aren't that of the input.
use Rattle.std.proofs.Common.{◌≡◌, ◌⊎◌, inl, inr, ap}
use Rattle.std.specs.Prelude.{Result, Err}
use Rattle.xa_server.specs.declared.serving.ServeFault.{ServeFault}
use Rattle.xa_server.specs.declared.serving.ServeFault.TheVariants.{Input, Memory, Output}

-- a fault that is handed on is the one that came
pub came_as_input : {A : Type 0} (result : Result A ServeFault) (told came : ServeFault) → result ≡ Err Input → result ≡ Err told → told ≡ came
    → came ≡ Input
came_as_input result told came is so same = cc

pub came_so : {A B : Type 0} (result : Result A ServeFault) (told came : ServeFault) → result ≡ Err Input → result ≡ Err told → told ≡ came
    → (let from : Result B ServeFault = Err came in from) ≡ Err Input
came_so result told came is so same = ap (λ fault. Err fault) (came_as_input result told came is so same)

pub not_output : (fault : ServeFault) → fault ≡ Output → fault ≡ Input → ⊥
not_output fault is so = cc

pub not_memory : (fault : ServeFault) → fault ≡ Memory → fault ≡ Input → ⊥
not_memory fault is so = cc

pub not_of_writing : (fault : ServeFault) → (fault ≡ Memory) ⊎ (fault ≡ Output) → fault ≡ Input → ⊥
not_of_writing fault (inl is) so = not_memory fault is so
not_of_writing fault (inr is) so = not_output fault is so
