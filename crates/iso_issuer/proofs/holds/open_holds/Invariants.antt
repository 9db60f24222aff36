use Rattle.std.proofs.Common.{◌≡◌, take}
use Rattle.iso_issuer.proofs.Holding.{open_among}
use Rattle.iso_issuer.proofs.holds.open_holds.Given as goal

abbrev pub invariant-loop-place : goal.invariant-loop-place
invariant-loop-place l = l.holds.items ≡ open_among l.journal l.pan (take l.place l.journal)
