use Rattle.std.proofs.Common.{◌≡◌, ◌++◌, map, take}
use Rattle.std.specs.String.{string_bytes}
use Rattle.xa_commands.specs.Names.{spaced}
use Rattle.xa_commands.proofs.log_names.push_words.Given as goal

abbrev pub invariant-loop-word : goal.invariant-loop-word
invariant-loop-word l = string_bytes l.text ≡ string_bytes l.fn.text ++ spaced (map (λ word. word.now) (take l.word-index l.words))
