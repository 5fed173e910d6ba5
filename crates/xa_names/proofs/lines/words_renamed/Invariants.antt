use Rattle.std.proofs.Common.{◌≡◌, map, take, string_bytes}
use Rattle.xa_names.specs.Lines.{word_renamed}
use Rattle.xa_names.proofs.lines.words_renamed.Given as goal

abbrev pub invariant-loop-word : goal.invariant-loop-word
invariant-loop-word l = map string_bytes l.texts.items ≡ map (λ word. word_renamed l.name word.now) (take l.word-index l.words)
