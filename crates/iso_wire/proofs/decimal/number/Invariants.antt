use Rattle.std.proofs.Common.{◌≡◌, ◌<◌, ◌^◌, take}
use Rattle.iso_wire.specs.Decimal.{number}
use Rattle.iso_wire.proofs.decimal.number.Given as goal

abbrev pub invariant-loop-byte : goal.invariant-loop-byte
invariant-loop-byte l = (l.so_far ≡ number (take l.byte-index l.text)) × (l.so_far < 10 ^ l.byte-index)
