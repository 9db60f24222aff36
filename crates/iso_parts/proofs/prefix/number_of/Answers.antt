-- Four ASCII digits are the count that they write in decimal.
use Rattle.std.proofs.Common.{rules, ◌≡◌, ◌+◌, ◌*◌, ◌-◌, Some, ap}
use Rattle.iso_parts.specs.Digits.{four_digits}
use Rattle.iso_parts.specs.Reading.{or_bad_length}
use Rattle.iso_parts.proofs.prefix.number_of.Goals as goal

pub returns-in-48-to-57-48-to-57-48-to-57-48-to-57 : goal.returns-in-48-to-57-48-to-57-48-to-57-48-to-57
returns-in-48-to-57-48-to-57-48-to-57-48-to-57 c =
    let number : Some (1000 * (c.args.k - 48) + 100 * (c.args.h - 48) + 10 * (c.args.t - 48) + (c.args.o - 48)) ≡ four_digits c.args.k c.args.h c.args.t c.args.o = search rules in
    ap or_bad_length number
