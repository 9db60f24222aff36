-- The whole frames at the front of bytes.
use Rattle.std.specs.Prelude.{◌≡◌, ℕ, ◌≤◌, List, length, drop}
use Rattle.iso_wire.specs.Framing.{Splits}
use Rattle.iso_wire.specs.declared.header.Header.{Header}
use Rattle.iso_compare.specs.declared.splitting.Front.{Front}

-- so many frames of so many bytes, each of at least one, and no whole frame begins the rest
pub record IsFront (h : Header) (bytes : List ℕ) (front : Front) : Type 0 where
  pub bodies : List (List ℕ)
  pub splits : Splits h bytes bodies (drop front.size bytes)
  pub count : front.frames ≡ length bodies
  pub within : front.size ≤ length bytes
  pub small : front.frames ≤ front.size
