use Rattle.std.proofs.Common.{◌≡◌, ◌+◌, ◌-◌, ◌≤◌, length, take}
use Rattle.std.specs.List.{slice_split}
use Rattle.iso_input.specs.Digits.{after}
use Rattle.iso_input.specs.Dump.{is_newline, rows, dump_bytes}
use Rattle.iso_input.proofs.dump.append_dump.Given as goal

-- the bytes of the lines so far, and then those of the rest
abbrev pub invariant-lines : goal.invariant-lines
invariant-lines l = record {
  read : after l.initial.out.items (dump_bytes l.text) ≡ after l.out.items (rows l.line (length l.out.items - length l.initial.out.items) (slice_split is_newline l.rest));
  kept : take (length l.initial.out.items) l.out.items ≡ l.initial.out.items;
  lines : l.line + length l.rest ≤ length l.text + 1;
}

abbrev pub decreases-lines : goal.decreases-lines
decreases-lines l = length l.rest
