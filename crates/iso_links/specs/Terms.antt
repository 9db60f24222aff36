-- Who may connect to a link, and whom its peers may speak for.
use Rattle.std.specs.Prelude.{ℕ, ◌==◌, ◌||◌, Bool, List, length}
use Rattle.std.specs.List.{list_any}
use Rattle.std.specs.declared.net.ip_addr.IpAddr.{IpAddr}
use Rattle.iso_links.specs.declared.network.Network.{Network}
use Rattle.iso_links.specs.Network.{has}

-- the address is in one of the networks
abbrev pub is_in_one : List Network → IpAddr → Bool
is_in_one networks address = list_any (λ n. has n address) networks

-- it may connect: it is in one of the networks, or none is named
abbrev pub lets_connect : List Network → IpAddr → Bool
lets_connect networks address = (length networks == 0) || is_in_one networks address

-- the acquirer is one of those, or none is named
abbrev pub speaks_for : List ℕ → ℕ → Bool
speaks_for acquirers acquirer = (length acquirers == 0) || list_any (λ a. a == acquirer) acquirers
