use Rattle.std.proofs.Common.{◌≡◌, ◌+◌, ◌<◌, ◌^◌, length, take, drop, IfSome}
use Rattle.iso_input.specs.Digits.{digits_at, after, bytes_at}
use Rattle.iso_input.proofs.Reading.{pairs_from}
use Rattle.iso_input.proofs.digits.append_digits.Given as goal

abbrev pub invariant-loop-byte : goal.invariant-loop-byte
invariant-loop-byte l = record {
  read : after l.initial.out.items (bytes_at l.fn.place l.text) ≡ after l.out.items (pairs_from l.half (digits_at l.next (drop l.byte-index l.text)));
  kept : take (length l.initial.out.items) l.out.items ≡ l.initial.out.items;
  line : l.next.line + length l.text < 2 ^ 64 + l.byte-index;
  column : l.next.column + length l.text < 2 ^ 64 + l.byte-index;
  small : IfSome l.half (λ digit. digit.value < 16);
}
