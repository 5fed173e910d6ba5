-- How the names of resource managers that a log keeps are changed by hand.
use Rattle.std.specs.Prelude.{ℕ, if◌then◌else◌, List, [], ◌∷◌, ◌++◌, map}
use Rattle.std.specs.Str.{bytes_eq}
use Rattle.xa_commands.specs.declared.rm_names.NameChange.{NameChange}
use Rattle.xa_commands.specs.declared.rm_names.NameChange.TheVariants.{Add, Rename}

abbrev pub new_name : NameChange → List ℕ
new_name (Add name) = name.now
new_name (Rename old new) = new.now

-- the one is the other one now, and all others stay
abbrev pub other_if : (old new : List ℕ) → List ℕ → List ℕ
other_if old new name = if bytes_eq name old then new else name

-- one more stands after the others, or one has another name
abbrev pub names_changed : NameChange → List (List ℕ) → List (List ℕ)
names_changed (Add name) names = names ++ name.now ∷ []
names_changed (Rename old new) names = map (other_if old.now new.now) names
