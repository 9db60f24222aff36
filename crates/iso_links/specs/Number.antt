-- Addresses as numbers.
use Rattle.std.specs.Prelude.{ℕ, ◌/◌, ◌%◌, ◌^◌, ◌-◌, ◌==◌, if◌then◌else◌}
use Rattle.std.specs.declared.net.ip_addr.IpAddr.{IpAddr}
use Rattle.std.specs.declared.net.ip_addr.IpAddr.TheVariants.{V4, V6}
use Rattle.std.specs.Net.Addr.{ipv4_bits, ipv6_bits}
use Rattle.iso_links.specs.declared.number.Number.{Number}
use Rattle.iso_links.specs.declared.number.Number.TheVariants.{Four, Six}

-- the number of an address: ::ffff:a.b.c.d counts as a.b.c.d
abbrev pub number_of : IpAddr → Number
number_of (V4 a) = Four (ipv4_bits a)
number_of (V6 a) =
    if ipv6_bits a / 2 ^ 32 == 65535 then Four (ipv6_bits a % 2 ^ 32) else Six (ipv6_bits a)

-- how many bits it has
abbrev pub width_of : Number → ℕ
width_of (Four bits) = 32
width_of (Six bits) = 128

-- the first n of them, as a number
abbrev pub first_bits : ℕ → Number → ℕ
first_bits n (Four bits) = bits / 2 ^ (32 - n)
first_bits n (Six bits) = bits / 2 ^ (128 - n)

-- those behind the first n, as a number
abbrev pub last_bits : ℕ → Number → ℕ
last_bits n (Four bits) = bits % 2 ^ (32 - n)
last_bits n (Six bits) = bits % 2 ^ (128 - n)
