-- The bytes that come from a peer, which are frames.
use Rattle.std.specs.Prelude.{ℕ, List}
use Rattle.iso_wire.specs.declared.header.Header.{Header}

-- the bytes that came, and the header of their frames
pub record Came : Type 0 where
  pub header : Header
  pub bytes : List ℕ
