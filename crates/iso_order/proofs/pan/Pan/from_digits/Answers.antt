use Rattle.std.proofs.Common.{sym}
use Rattle.iso_order.proofs.Digits.{pan-valid}
use Rattle.iso_order.proofs.pan.Pan.from_digits.Goals as goal

pub invariant_of-result : goal.invariant_of-result
invariant_of-result c = pan-valid c.args.text.now c.in_ok-digits.digits (sym c.in_ok-digits.ensures.value) c.in_ok-digits.ensures.within
