-- Who is let in.
use Rattle.std.specs.Prelude.{ℕ, nat_lt, List, Option, Some, None, if◌then◌else◌}
use Rattle.std.specs.declared.net.ip_addr.IpAddr.{IpAddr}
use Rattle.iso_links.specs.declared.limits.Limits.{Limits}
use Rattle.iso_links.specs.declared.network.Network.{Network}
use Rattle.iso_links.specs.Terms.{lets_connect}
use Rattle.iso_lines.specs.declared.event.Refusal.{Refusal}
use Rattle.iso_lines.specs.declared.event.Refusal.TheVariants as refusal

-- why a peer is not let in beside so many: its address is in none of the networks, or there are as many as may be
abbrev pub refusal_of : List Network → Limits → ℕ → IpAddr → Option Refusal
refusal_of networks limits peers address =
    if lets_connect networks address
    then (if nat_lt peers limits.peers then None else Some refusal.Peers)
    else Some refusal.Network
