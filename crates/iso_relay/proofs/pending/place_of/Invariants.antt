use Rattle.std.proofs.Common.{◌≡◌, ◌+◌, drop}
use Rattle.std.specs.Prelude.{option_map}
use Rattle.iso_relay.specs.Entries.{place_of}
use Rattle.iso_relay.proofs.pending.place_of.Given as goal

-- the requests so far aren't the one that is sought
abbrev pub invariant-loop-place : goal.invariant-loop-place
invariant-loop-place l =
    option_map (λ n. n + l.place) (place_of l.key (drop l.place l.entries)) ≡ place_of l.key l.entries
