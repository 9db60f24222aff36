use Rattle.std.proofs.Common.{◌≡◌, length}
use Rattle.iso_issuer.specs.Places.{sought}
use Rattle.iso_issuer.proofs.key_places.sought.Given as goal

abbrev pub invariant-loop-rest : goal.invariant-loop-rest
invariant-loop-rest l = sought l.rest l.tag l.orders l.key ≡ sought l.slots l.tag l.orders l.key

abbrev pub decreases-loop-rest : goal.decreases-loop-rest
decreases-loop-rest l = length l.rest
