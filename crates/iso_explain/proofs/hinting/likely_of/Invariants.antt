use Rattle.std.proofs.Common.{◌≡◌, ◌++◌, drop}
use Rattle.std.specs.Prelude.{filter}
use Rattle.iso_explain.specs.Hints.{is_likely}
use Rattle.iso_explain.proofs.hinting.likely_of.Given as goal

-- those that were found, and then those of the rest
abbrev pub invariant-loop-hint : goal.invariant-loop-hint
invariant-loop-hint l = l.found.items ++ filter (is_likely l.table l.bytes) (drop l.hint-index l.hints) ≡ filter (is_likely l.table l.bytes) l.hints
