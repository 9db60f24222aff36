use Rattle.std.proofs.Common.{ℕ, List, [], ◌∷◌, sym, ap, subst, ◌∙◌, arith}
use Rattle.std.specs.Prelude.{IsTrue}
use Rattle.iso_wire.specs.Contents.{Contents}
use Rattle.iso_order.specs.declared.act.Act.{Act}
use Rattle.iso_order.specs.declared.key.TxKey.{TxKey}
use Rattle.iso_order.specs.Adding.{elements_with_value}
use Rattle.iso_order.specs.Order.{Instruction, is_valid}
use Rattle.iso_order.specs.Requests.{AsksFor, FitsEdition87, request_value}
use Rattle.iso_order.proofs.RequestFits.{request-listed}
use Rattle.iso_order.proofs.RequestVerdicts.{value-is}
use Rattle.iso_order.proofs.Valid.{KeyFacts, key_facts, valid-parts}
use Rattle.iso_order.proofs.requests.request.Goals as goal

-- what holds of the key of a valid order
order-key : (o : Instruction) → IsTrue (is_valid o) → KeyFacts o.key
order-key o h = key_facts o.key (valid-parts o h).0

pub mti_of-mti-requires : goal.mti_of-mti-requires
mti_of-mti-requires c = rw c.key-key.ensures.value (omega (arith, (order-key c.args.order.now c.key-key.ensures.valid).small))

pub add_all-requires-clause-acquirer : goal.add_all-requires-clause-acquirer
add_all-requires-clause-acquirer c = rw c.key-key.ensures.value (omega (arith, (order-key c.args.order.now c.key-key.ensures.valid).acquirer))

pub returns-clause-whole : goal.returns-clause-whole
returns-clause-whole c =
    let numbers : List ℕ = 2 ∷ 3 ∷ 4 ∷ 7 ∷ 11 ∷ 32 ∷ 49 ∷ 90 ∷ 95 ∷ [] in
    let value = request_value c.key-key.result c.act-act.result in
    c.in_ok-add_all.ensures
    ∙ ap (λ (made : Contents). record made { elements = elements_with_value value numbers }) c.in_ok-request.ensures
    ∙ ap (λ (mti : ℕ). record { mti = mti; elements = elements_with_value value numbers }) c.mti_of-mti.ensures
    ∙ ap (λ (k : TxKey). record { mti = k.base; elements = elements_with_value (request_value k c.act-act.result) numbers }) c.key-key.ensures.value
    ∙ ap (λ (a : Act). record { mti = c.args.order.now.key.base; elements = elements_with_value (request_value c.args.order.now.key a) numbers }) c.act-act.ensures.value
    ∙ sym (request-listed c.args.order.now)

pub returns-clause-each : goal.returns-clause-each
returns-clause-each c = λ n low high.
    let o = c.args.order.now in
    rw (returns-clause-whole c) (value-is o.key o.act (valid-parts o c.key-key.ensures.valid).0 n low high)

pub returns-clause-order : goal.returns-clause-order
returns-clause-order c =
    subst (λ (made : Contents). AsksFor made c.args.order.now) (sym (returns-clause-whole c)) (c.requests_ask.ensures c.args.order.now c.key-key.ensures.valid)

pub returns-clause-fits : goal.returns-clause-fits
returns-clause-fits c =
    subst FitsEdition87 (sym (returns-clause-whole c)) (c.requests_fit.ensures c.args.order.now c.key-key.ensures.valid)
