use Rattle.std.proofs.Common.{◌≡◌, drop}
use Rattle.std.specs.List.{list_any}
use Rattle.iso_links.specs.Network.{has}
use Rattle.iso_links.proofs.terms.is_in_one.Given as goal

-- the networks so far don't have the address
abbrev pub invariant-loop-network : goal.invariant-loop-network
invariant-loop-network l = list_any (λ n. has n l.address) (drop l.network-index l.networks) ≡ list_any (λ n. has n l.address) l.networks
