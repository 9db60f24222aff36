-- One peer of a host, and what waits for it.
use Rattle.std.specs.Prelude.{ℕ, List}
use Rattle.iso_host.specs.Peers.{Unfinished}

-- its link with the bytes of the frame that isn't whole, and the bytes of its answers that aren't written yet
pub record ConnectionState : Type 0 where
  pub peer : Unfinished
  pub waiting : List ℕ
