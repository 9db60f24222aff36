use Rattle.std.proofs.Common.{ℕ, [], take, sym, ap, ◌∙◌}
use Rattle.iso_wire.specs.Contents.{Contents}
use Rattle.iso_order.specs.Adding.{elements_with_value, answered}
use Rattle.iso_order.specs.Response.{element}
use Rattle.iso_order.proofs.Ascending.{response-listed, response-each, response-begun, on-err}
use Rattle.iso_order.proofs.response.respond_into.Goals as goal

pub returns-clause-whole : goal.returns-clause-whole
returns-clause-whole c =
    let value = element c.args.message.now c.args.answer.now in
    c.in_ok-add_answered.ensures.whole
    ∙ ap (λ (made : Contents). record made { elements = elements_with_value value answered }) c.in_ok-start_over.ensures
    ∙ ap (λ (mti : ℕ). record { mti = mti; elements = elements_with_value value answered }) c.response_type-mti.ensures
    ∙ sym (response-listed c.args.message.now c.args.answer.now)

pub returns-clause-each : goal.returns-clause-each
returns-clause-each c = λ n low high. rw (returns-clause-whole c) (response-each c.args.message.now c.args.answer.now n low high)

pub returns-in_err-start_over-clause-begun : goal.returns-in_err-start_over-clause-begun
returns-in_err-start_over-clause-begun c =
    let empty = c.in_err-start_over.ensures ∙ ap (λ (mti : ℕ). record { mti = mti; elements = [] }) c.response_type-mti.ensures in
    on-err c.from_residual.result (response-begun c.args.message.now c.args.answer.now c.start_over.new.self 0 empty)

pub returns-in_err-add_answered-clause-begun : goal.returns-in_err-add_answered-clause-begun
returns-in_err-add_answered-clause-begun c =
    let value = element c.args.message.now c.args.answer.now in
    let front = c.in_err-add_answered.ensures.begun in
    let made =
    front.1
    ∙ ap (λ (made : Contents). record made { elements = take front.0 (elements_with_value value answered) }) c.in_ok-start_over.ensures
    ∙ ap (λ (mti : ℕ). record { mti = mti; elements = take front.0 (elements_with_value value answered) }) c.response_type-mti.ensures in
    on-err c.from_residual-in_err-add_answered.result (response-begun c.args.message.now c.args.answer.now c.add_answered.new.response front.0 made)
