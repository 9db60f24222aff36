use Rattle.std.proofs.Common.{◌≡◌, ◌++◌, drop, map}
use Rattle.std.specs.Prelude.{string_bytes}
use Rattle.iso_cli.proofs.arguments.texts.Given as goal

-- the texts so far, and then those of the rest
abbrev pub invariant-loop-word : goal.invariant-loop-word
invariant-loop-word l = map (λ text. text.now) l.texts.items ++ map string_bytes (drop l.word-index l.words) ≡ map string_bytes l.words
