use Rattle.std.proofs.Common.{◌≡◌, ◌++◌, drop, not}
use Rattle.std.specs.Prelude.{filter}
use Rattle.iso_explain.specs.Hints.{is_blank}
use Rattle.iso_explain.proofs.hinting.without_blanks.Given as goal

-- what was kept, and then what is kept of the rest
abbrev pub invariant-loop-byte : goal.invariant-loop-byte
invariant-loop-byte l = l.text.items ++ filter (λ x. not (is_blank x)) (drop l.byte-index l.bytes) ≡ filter (λ x. not (is_blank x)) l.bytes
