use Rattle.std.proofs.Common.{◌≡◌, ◌++◌, take}
use Rattle.iso_durable.specs.World.{IsStart}
use Rattle.iso_shared.specs.Kept.{orders_of}
use Rattle.iso_shared.specs.Written.{AreWritten}
use Rattle.iso_shared.proofs.standby.take_rows.Given as goal

abbrev pub invariant-loop-row : goal.invariant-loop-row
invariant-loop-row l = record {
  accounts : l.issuer.accounts ≡ l.fn.issuer.accounts;
  limit : l.issuer.limit ≡ l.fn.issuer.limit;
  orders : l.issuer.orders ≡ l.fn.issuer.orders ++ orders_of (take l.row-index l.rows);
  written : AreWritten l.fn.issuer.accounts l.fn.issuer.limit l.fn.issuer.orders (take l.row-index l.rows);
  start : IsStart l.fn.issuer.limit l.fn.issuer.orders → IsStart l.issuer.limit l.issuer.orders;
}
