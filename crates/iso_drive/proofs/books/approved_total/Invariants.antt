use Rattle.std.proofs.Common.{◌≡◌, ◌≤◌, ◌*◌, take}
use Rattle.std.specs.Prelude.{sum_by}
use Rattle.iso_drive.specs.Books.{spent_by}
use Rattle.iso_drive.proofs.books.approved_total.Given as goal

-- each amount is a u64, and the greatest one is 18,446,744,073,709,551,615
abbrev pub invariant-loop-of : goal.invariant-loop-of
invariant-loop-of l = record {
  added : l.total ≡ sum_by (spent_by l.pan) (take l.of-index l.made);
  most : l.total ≤ l.of-index * 18446744073709551615;
}
