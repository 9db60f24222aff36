use Rattle.std.proofs.Common.{ℕ, List, ◌++◌, get_or, sym, ap, ◌∙◌}
use Rattle.iso_parts.specs.Numbers.{is_element}
use Rattle.iso_wire.specs.Contents.{Contents}
use Rattle.iso_order.specs.Listing.{element_where}
use Rattle.iso_order.specs.Requests.{request_value}
use Rattle.iso_order.proofs.Ascending.{IsBelow-front, elements_with_value-more}
use Rattle.iso_order.proofs.requests.add_all.Goals as goal

pub add-requires-clause-behind : goal.add-requires-clause-behind
add-requires-clause-behind c =
    rw c.loop-n.invariant (IsBelow-front is_element (request_value c.args.key.now c.args.act.now) 2 c.args.numbers.now c.loop-n.n-index c.requires.numbers c.loop-n-test.true)

pub loop-n-preserved : goal.loop-n-preserved
loop-n-preserved c =
    let value = request_value c.args.key.now c.args.act.now in
    let n = get_or c.args.numbers.now c.loop-n.n-index 0 in
    c.in_ok-add.ensures
    ∙ ap (λ (made : Contents). record made { elements = made.elements ++ element_where n (value n) }) c.loop-n.invariant
    ∙ ap (λ (es : List (ℕ × List ℕ)). record c.args.request.now { elements = es }) (sym (elements_with_value-more value c.args.numbers.now c.loop-n.n-index c.loop-n-test.true))
