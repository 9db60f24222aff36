use Rattle.std.proofs.Common.{◌≡◌}
use Rattle.iso_shared.specs.Store.{Grows}
use Rattle.iso_shared.specs.Standby.{IsFollowing}
use Rattle.iso_shared.proofs.standby.Standby.catch_up.Given as goal

abbrev pub invariant-loop : goal.invariant-loop
invariant-loop g l = record {
  following : IsFollowing g.S.Store.kept l.fn.self → IsFollowing g.S.Store.kept l.self;
  accounts : l.self.issuer.accounts ≡ l.fn.self.issuer.accounts;
  limit : l.self.issuer.limit ≡ l.fn.self.issuer.limit;
  grows : Grows (g.S.Store.kept l.fn.self.store) (g.S.Store.kept l.self.store);
  good : l.self.has_failed ≡ l.fn.self.has_failed;
}
