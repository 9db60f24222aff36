use Rattle.std.proofs.Common.{◌≡◌, take}
use Rattle.iso_order.specs.Adding.{elements_with_value}
use Rattle.iso_order.specs.Requests.{request_value}
use Rattle.iso_order.proofs.requests.add_all.Given as goal

abbrev pub invariant-loop-n : goal.invariant-loop-n
invariant-loop-n l = l.request ≡ record l.fn.request { elements = elements_with_value (request_value l.key l.act) (take l.n-index l.numbers) }
