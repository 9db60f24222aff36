use Rattle.std.proofs.Common.{◌≡◌, ◌≤◌, ◌*◌, take, sum_by}
use Rattle.iso_table.specs.Sizes.{place_bytes}
use Rattle.iso_table.proofs.sizes.places_bytes.Given as goal

-- 131,074 is 2 * 65,535 + 4: two bytes a character of the most that a u16 counts, and a length of 4
abbrev pub invariant-loop-place : goal.invariant-loop-place
invariant-loop-place l = record {
  exact : l.bytes ≡ sum_by place_bytes (take l.place-index l.places);
  bound : l.bytes ≤ l.place-index * 131074;
}
