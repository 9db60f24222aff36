-- How many reads and writes the command makes.
use Rattle.std.specs.Prelude.{◌≡◌, ◌⊎◌, ℕ, ◌+◌, List, [], ◌∷◌, codes}
use Rattle.std.specs.Io.KnownBytes.{Appends}
use Rattle.iso_wire.specs.declared.header.Header.{Header}
use Rattle.iso_host.specs.Counts.{Stream, Usage}
use Rattle.iso_host.specs.Serving.{UsesAllTurns}
use Rattle.iso_cli.specs.Stop.{status_of, line_of}
use Rattle.iso_cli.specs.Words.{header_name}
use Rattle.iso_cli.specs.declared.stop.Stop.{Stop}
use Rattle.iso_cli.specs.declared.stop.Stop.TheVariants.{TooManyTurns}

-- the most reads of a whole input
abbrev pub most_reads : ℕ
most_reads = 2000000

-- the most reads and writes together of a host on a stream, and of one on a port for each connection
abbrev pub most_turns : ℕ
most_turns = 100000000

-- the words ask for a host on a stream, and it took all of its turns
abbrev pub RunUsesAllTurns : List (List ℕ) → Usage → Usage → Type 0
RunUsesAllTurns words before after =
    (table : List ℕ) × (accounts : List ℕ) × (header : Header)
    × (words ≡ codes "run" ∷ table ∷ accounts ∷ header_name header ∷ [])
    × UsesAllTurns before after most_turns

-- the line of what failed was told; of too many turns, only where `run` took all of them
pub record TellsFailure (words : List (List ℕ)) (used_before used_after : Usage)
    (before after : Stream) : Type 0 where
  pub stop : Stop
  pub status : status_of stop ≡ 3
  pub line : Appends before.bytes after.bytes (line_of stop)
  pub turns : stop ≡ TooManyTurns → RunUsesAllTurns words used_before used_after

-- that, or the fault stream itself failed
abbrev pub HasFailed : List (List ℕ) → Usage → Usage → Stream → Stream → Type 0
HasFailed words used_before used_after before after =
    TellsFailure words used_before used_after before after
    ⊎ (after.counts.failures ≡ before.counts.failures + 1)
