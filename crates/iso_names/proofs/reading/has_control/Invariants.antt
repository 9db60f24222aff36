use Rattle.std.proofs.Common.{◌≡◌, length, drop}
use Rattle.std.specs.List.{list_any}
use Rattle.std.specs.Str.{chars}
use Rattle.std.specs.Char.{is_control}
use Rattle.iso_names.proofs.reading.has_control.Given as goal

-- the characters so far are none
abbrev pub invariant-loop-c : goal.invariant-loop-c
invariant-loop-c l = list_any is_control (drop (length l.yielded) (chars l.text)) ≡ list_any is_control (chars l.text)
