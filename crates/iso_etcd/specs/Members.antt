-- How members are written.
use Rattle.std.specs.Prelude.{◌≡◌, ◌⊎◌, ◌<◌, ℕ, ◌^◌, ◌&&◌, ◌||◌, ◌==◌, nat_le, Bool, false, IsTrue, List, [], ◌∷◌, length, string_bytes}
use Rattle.std.specs.List.{list_all, position_or_len, before_first, after_first}
use Rattle.std.specs.Str.Parse.{IsNumeral, digits_value}
use Rattle.std.specs.Net.Grammar.{IsIpv6Text}
use Rattle.std.specs.declared.net.ipv6_addr.Ipv6Addr.{Ipv6Addr}
use Rattle.iso_etcd.specs.Name.{is_from_to}
use Rattle.iso_etcd.specs.declared.member.Member.{Member}

-- the mark is in the text
abbrev pub Has : ℕ → List ℕ → Type 0
Has mark text = position_or_len (λ byte. byte == mark) text < length text

-- it isn't
abbrev pub Lacks : ℕ → List ℕ → Type 0
Lacks mark text = position_or_len (λ byte. byte == mark) text ≡ length text

-- what stands before the first mark, and behind it
abbrev pub before : ℕ → List ℕ → List ℕ
before mark text = before_first (λ byte. byte == mark) text

-- what stands behind the first mark
abbrev pub behind : ℕ → List ℕ → List ℕ
behind mark text = after_first (λ byte. byte == mark) text

-- a digit, a letter, '-', '.' or '_'
abbrev pub is_host_byte : ℕ → Bool
is_host_byte byte =
    is_from_to 48 57 byte || is_from_to 65 90 byte || is_from_to 97 122 byte || byte == 45 || byte
    == 46 || byte == 95

-- the name of a host, or an address of IPv4: 1 to 253 of these
abbrev pub is_host : List ℕ → Bool
is_host text = nat_le 1 (length text) && nat_le (length text) 253 && list_all is_host_byte text

-- a digit from 1 to 9 stands in front
abbrev pub leads : List ℕ → Bool
leads [] = false
leads (first ∷ rest) = is_from_to 49 57 first

-- a port: 1 to 65535 in decimal digits, without leading zeros
abbrev pub IsPort : List ℕ → ℕ → Type 0
IsPort text port = IsTrue (leads text) × IsNumeral 10 text × (digits_value 10 text < 2 ^ 16)
    × (port ≡ digits_value 10 text)

-- a port behind a colon
abbrev pub IsPortBehind : List ℕ → ℕ → Type 0
IsPortBehind text port = Has 58 text × (before 58 text ≡ []) × IsPort (behind 58 text) port

-- a host, a colon and a port
abbrev pub IsNamed : List ℕ → List ℕ → ℕ → Type 0
IsNamed text host port = Has 58 text × (host ≡ before 58 text) × IsTrue (is_host host)
    × IsPort (behind 58 text) port

-- an address of IPv6, a closing bracket, a colon and a port
abbrev pub IsBracketed : List ℕ → List ℕ → ℕ → Type 0
IsBracketed text host port =
    Has 93 text × (host ≡ before 93 text) × ((address : Ipv6Addr) × IsIpv6Text host address)
    × IsPortBehind (behind 93 text) port

-- a text writes a host and a port, either way
abbrev pub IsHostAndPort : List ℕ → List ℕ → ℕ → Type 0
IsHostAndPort text host port =
    (Has 91 text × (before 91 text ≡ []) × IsBracketed (behind 91 text) host port)
    ⊎ (Lacks 91 text × IsNamed text host port)

-- a text writes a member
abbrev pub IsMember : List ℕ → Member → Type 0
IsMember text member = IsHostAndPort text (string_bytes member.host) member.port
    × (string_bytes member.text ≡ text)
