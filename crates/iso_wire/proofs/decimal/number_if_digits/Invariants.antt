use Rattle.std.proofs.Common.{◌≡◌, ◌<◌, ◌^◌, true, take}
use Rattle.std.specs.List.{list_all}
use Rattle.iso_parts.specs.Class.{is_digit}
use Rattle.iso_wire.specs.Decimal.{number}
use Rattle.iso_wire.proofs.decimal.number_if_digits.Given as goal

abbrev pub invariant-loop-byte : goal.invariant-loop-byte
invariant-loop-byte l = record {
  digits : list_all is_digit (take l.byte-index l.text) ≡ true;
  value : l.so_far ≡ number (take l.byte-index l.text);
  below : l.so_far < 10 ^ l.byte-index;
}
