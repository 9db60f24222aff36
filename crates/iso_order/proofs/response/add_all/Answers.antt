use Rattle.std.proofs.Common.{ℕ, List, ◌++◌, length, take, get_or, sym, ap, ◌∙◌}
use Rattle.iso_wire.specs.Contents.{Contents}
use Rattle.iso_order.specs.Listing.{element_where}
use Rattle.iso_order.specs.Response.{element}
use Rattle.iso_order.specs.Adding.{is_responded, elements_with_value}
use Rattle.iso_order.proofs.Ascending.{are_ascending-each, IsBelow-front, elements_with_value-more, elements_with_value-front, on-err}
use Rattle.iso_order.proofs.response.add_all.Goals as goal

pub add-requires-clause-number : goal.add-requires-clause-number
add-requires-clause-number c = are_ascending-each is_responded 2 c.args.numbers.now c.loop-n.n-index c.requires.numbers c.loop-n-test.true

pub add-requires-clause-behind : goal.add-requires-clause-behind
add-requires-clause-behind c =
    rw c.loop-n.invariant (IsBelow-front is_responded (element c.args.message.now c.args.answer.now) 2 c.args.numbers.now c.loop-n.n-index c.requires.numbers c.loop-n-test.true)

pub loop-n-preserved : goal.loop-n-preserved
loop-n-preserved c =
    let value = element c.args.message.now c.args.answer.now in
    let n = get_or c.args.numbers.now c.loop-n.n-index 0 in
    c.in_ok-add.ensures.ok
    ∙ ap (λ (made : Contents). record made { elements = made.elements ++ element_where n (value n) }) c.loop-n.invariant
    ∙ ap (λ (es : List (ℕ × List ℕ)). record c.args.response.now { elements = es }) (sym (elements_with_value-more value c.args.numbers.now c.loop-n.n-index c.loop-n-test.true))

pub returns-in_err-add-clause-begun : goal.returns-in_err-add-clause-begun
returns-in_err-add-clause-begun c =
    let value = element c.args.message.now c.args.answer.now in
    let front = elements_with_value value (take c.loop-n.n-index c.args.numbers.now) in
    on-err c.from_residual.result (
      length front,
      c.in_err-add.ensures.unchanged ∙ c.loop-n.invariant ∙ ap (λ (es : List (ℕ × List ℕ)). record c.args.response.now { elements = es }) (elements_with_value-front value c.args.numbers.now c.loop-n.n-index),
    )
