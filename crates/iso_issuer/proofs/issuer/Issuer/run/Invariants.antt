use Rattle.std.proofs.Common.{◌≡◌, ◌≤◌, take, length}
use Rattle.std.specs.Prelude.{vec_len, vec_capacity}
use Rattle.iso_issuer.specs.Books.{IsRun}
use Rattle.iso_issuer.proofs.issuer.Issuer.run.Given as goal

abbrev pub invariant-loop-order : goal.invariant-loop-order
invariant-loop-order l = record {
  run : IsRun l.fn.self (take l.order-index l.orders) l.answers.items l.self;
  count : vec_len l.answers ≡ l.order-index;
  room : length l.orders ≤ vec_capacity l.answers;
}
