use Rattle.std.proofs.Common.{◌+◌, ◌-◌, drop}
use Rattle.iso_parts.specs.Class.{is_digit}
use Rattle.iso_order.proofs.Digits.{list_all-take, list_all-drop}
use Rattle.iso_order.proofs.fields.number_from.Goals as goal

pub number-requires-clause-digits : goal.number-requires-clause-digits
number-requires-clause-digits c =
    list_all-take is_digit (c.args.from + c.args.count - c.args.from) (drop c.args.from c.args.text.now)
    (list_all-drop is_digit c.args.from c.args.text.now c.requires.digits)
