use Rattle.std.proofs.Common.{◌≡◌, take}
use Rattle.iso_order.specs.Adding.{elements_with_value}
use Rattle.iso_order.specs.Response.{element}
use Rattle.iso_order.proofs.response.add_all.Given as goal

abbrev pub invariant-loop-n : goal.invariant-loop-n
invariant-loop-n l = l.response ≡ record l.fn.response { elements = elements_with_value (element l.message l.answer) (take l.n-index l.numbers) }
