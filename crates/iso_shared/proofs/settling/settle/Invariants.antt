use Rattle.std.proofs.Common.{◌≡◌, false}
use Rattle.iso_shared.specs.Store.{Grows, SentOnly}
use Rattle.iso_shared.proofs.settling.settle.Given as goal

abbrev pub invariant-loop : goal.invariant-loop
invariant-loop g l = record {
  grows : Grows (g.S.Store.kept l.fn.store) (g.S.Store.kept l.store);
  sent : SentOnly (g.S.Store.sent l.fn.store) (g.S.Store.sent l.store) l.bytes;
  unsent : l.is_sent ≡ false → g.S.Store.sent l.store ≡ g.S.Store.sent l.fn.store;
}
