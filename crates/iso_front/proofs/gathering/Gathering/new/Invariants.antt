use Rattle.std.proofs.Common.{◌≡◌, ◌<◌, ℕ, length}
use Rattle.std.specs.Prelude.{slice_index_or}
use Rattle.iso_front.specs.declared.gathering.Heard.{Heard}
use Rattle.iso_front.specs.Gathering.{at_first}
use Rattle.iso_front.proofs.gathering.Gathering.new.Given as goal

-- the places so far are as they are to be
abbrev pub invariant-loop-place : goal.invariant-loop-place
invariant-loop-place l = record {
  long : length l.heard ≡ 64;
  so_far : (n : ℕ) (d : Heard) → n < l.place → slice_index_or l.heard n d ≡ at_first l.route l.count n;
}
