use Rattle.std.proofs.Common.{take}
use Rattle.iso_issuer.specs.Places.{TellsPlaces}
use Rattle.iso_issuer.proofs.key_places.KeyPlaces.grown.Given as goal

abbrev pub invariant-loop-place : goal.invariant-loop-place
invariant-loop-place l = TellsPlaces l.places.slots.items l.places.others (take l.place l.orders)
