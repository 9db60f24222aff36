use Rattle.std.proofs.Common.{◌≡◌, ◌∙◌, IsNone, ℕ, List, Option, Some, sym, arith}
use Rattle.std.proofs.NetLemmas.Theorems.{IsIpText_unique}
use Rattle.std.specs.declared.net.ip_addr.IpAddr.{IpAddr}
use Rattle.std.specs.Net.Grammar.{IsIpText}
use Rattle.iso_links.specs.declared.network.Network.{Network}
use Rattle.iso_links.specs.Network.{network_of, size_of, WrittenByTwo}
use Rattle.iso_links.proofs.network.written_by_two.Goals as goal

-- what the texts write is one address and one size
only : (front back : List ℕ) (a : IpAddr) (size : ℕ) (r : Option Network) → IsIpText front a → size_of back ≡ Some size → r ≡ network_of a size → IsNone r
    → (n : Network) → WrittenByTwo front back n → ⊥
only front back a size r reads sized is none n (b, other, writes, same_size, writes_it) =
    let same : a ≡ b = IsIpText_unique front a b reads writes in
    let fits : Some size ≡ Some other = sym sized ∙ same_size in
    grind (arith, same, fits, writes_it, is, none)

pub returns-clause-none : goal.returns-clause-none
returns-clause-none c = only c.args.address.now c.args.size.now c.in_ok-address.address c.in_ok-size.size c.new.result c.in_ok-address.ensures.found (grind (arith, c.in_ok-size.ensures, c.in_ok-size.was)) c.new.ensures
