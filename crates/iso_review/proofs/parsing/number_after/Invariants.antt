use Rattle.std.proofs.Common.{◌≡◌, ◌<◌, drop}
use Rattle.iso_review.specs.RowText.{number_after}
use Rattle.iso_review.proofs.parsing.number_after.Given as goal

-- the number so far, and the digits of the rest
-- the number is a u16, and so below 65,536
abbrev pub invariant-loop-digit : goal.invariant-loop-digit
invariant-loop-digit l = record {
  small : l.number < 65536;
  rest : number_after l.number (drop l.digit-index l.digits) ≡ number_after l.before l.digits;
}
