use Rattle.std.proofs.Common.{◌≡◌, ◌++◌}
use Rattle.iso_log.specs.Slots.{slots_from}
use Rattle.iso_journal.specs.Orders.{orders_of}
use Rattle.iso_journal.specs.Written.{AreWritten}
use Rattle.iso_journal.proofs.replaying.replay_piece.Given as goal

abbrev pub invariant-loop-place : goal.invariant-loop-place
invariant-loop-place l = record {
  accounts : l.issuer.accounts ≡ l.fn.issuer.accounts;
  limit : l.issuer.limit ≡ l.fn.issuer.limit;
  orders : l.issuer.orders ≡ l.fn.issuer.orders ++ orders_of (slots_from l.place 0 l.piece);
  written : AreWritten l.fn.issuer.accounts l.fn.issuer.limit l.fn.issuer.orders (slots_from l.place 0 l.piece);
}
