-- Which addresses are in a network, and how one is written.
use Rattle.std.specs.Prelude.{◌≡◌, ◌<◌, ◌⊎◌, length, ℕ, ◌+◌, ◌-◌, ◌*◌, ◌==◌, ◌&&◌, nat_le, Bool, false, List, [], ◌∷◌, Option, None, Some, if◌then◌else◌}
use Rattle.iso_parts.specs.Class.{is_digit}
use Rattle.std.specs.List.{position_or_len, before_first, after_first}
use Rattle.std.specs.Net.Grammar.{IsIpText}
use Rattle.std.specs.declared.net.ip_addr.IpAddr.{IpAddr}
use Rattle.iso_links.specs.Number.{number_of, width_of, first_bits, last_bits}
use Rattle.iso_links.specs.declared.number.Number.{Number}
use Rattle.iso_links.specs.declared.number.Number.TheVariants.{Four, Six}
use Rattle.iso_links.specs.declared.network.Network.{Network}

-- two addresses are of one family, and their first n bits are the same
abbrev pub begin_alike : ℕ → Number → Number → Bool
begin_alike n (Four a) (Four b) = first_bits n (Four a) == first_bits n (Four b)
begin_alike n (Six a) (Six b) = first_bits n (Six a) == first_bits n (Six b)
begin_alike n (Four a) (Six b) = false
begin_alike n (Six a) (Four b) = false

-- the address is in the network
abbrev pub has : Network → IpAddr → Bool
has n address = begin_alike n.size n.first (number_of address)

-- so many bits of an address can be those of a network that begins with it: the bits behind them are zeros
abbrev pub is_first : ℕ → Number → Bool
is_first n number = nat_le n (width_of number) && (last_bits n number == 0)

-- the network whose addresses begin with the first n bits of this one
abbrev pub network_of : IpAddr → ℕ → Option Network
network_of address n = if is_first n (number_of address)
    then Some (record { first = number_of address; size = n }) else None

-- a digit from 1 to 9
abbrev pub leads : ℕ → Bool
leads b = nat_le 49 b && nat_le b 57

-- the number, if the test holds
abbrev pub only_if : Bool → ℕ → Option ℕ
only_if holds n = if holds then Some n else None

-- the number that one to three digits write, without leading zeros, below 200
abbrev pub size_of : List ℕ → Option ℕ
size_of [] = None
size_of (a ∷ []) = only_if (is_digit a) (a - 48)
size_of (a ∷ b ∷ []) = only_if (leads a && is_digit b) (10 * (a - 48) + (b - 48))
size_of (a ∷ b ∷ c ∷ []) =
    only_if (a == 49 && is_digit b && is_digit c) (100 + 10 * (b - 48) + (c - 48))
size_of (a ∷ b ∷ c ∷ d ∷ ds) = None

-- the slash
abbrev pub is_slash : ℕ → Bool
is_slash b = b == 47

-- two texts write an address and how many of its bits the network's addresses begin with
abbrev pub WrittenByTwo : List ℕ → List ℕ → Network → Type 0
WrittenByTwo front back n = (a : IpAddr) × (size : ℕ) × IsIpText front a
    × (size_of back ≡ Some size) × (network_of a size ≡ Some n)

-- a text writes the one address of the network
abbrev pub WrittenByOne : List ℕ → Network → Type 0
WrittenByOne text n = (a : IpAddr) × IsIpText text a
    × (network_of a (width_of (number_of a)) ≡ Some n)

-- a text writes the network: as an address, a slash and a size, or as an address without a slash
abbrev pub IsNetworkText : List ℕ → Network → Type 0
IsNetworkText text n =
    ((position_or_len is_slash text < length text)
    × WrittenByTwo (before_first is_slash text) (after_first is_slash text) n)
    ⊎ ((position_or_len is_slash text ≡ length text) × WrittenByOne text n)
