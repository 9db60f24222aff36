use Rattle.std.proofs.Common.{◌≡◌, arith, ◌∙◌, ap, ◌+◌, ◌++◌, ◌∷◌, [], length, rules}
use Rattle.iso_acquirer.specs.Acquirer.{slots_with, transaction_of}
use Rattle.iso_acquirer.proofs.Kept.{kept-begun}
use Rattle.iso_acquirer.proofs.acquirer.Acquirer.begin.Goals as goal

pub invariant_of-self-2 : goal.invariant_of-self-2
invariant_of-self-2 c =
    let slots = c.self.inside.slots.items in
    let items : c.push_reserved.new.self.items ≡ slots_with slots c.debit-order.result =
    c.push_reserved.ensures.items ∙ ap (λ xs. xs ++ transaction_of c.debit-order.result ∷ []) c.reserve.ensures.items in
    let many : c.len-used.result ≡ length slots = c.len-used.ensures ∙ c.self.inside.slots.ok.0 in
    rw items
    (kept-begun c.self.inside.id slots c.self.inside.reversals_left _ _ _ _ c.debit-order.result c.self.invariant
    (ap (λ o. o.key.stan) c.debit-order.ensures ∙ ap (λ k. k.stan) c.request_key-key.ensures ∙ ap (λ n. n + 1) many)
    (ap (λ o. o.key.base) c.debit-order.ensures ∙ ap (λ k. k.base) c.request_key-key.ensures)
    (omega (arith, many, c.if-used.false))
    (omega (arith, c.in_ok-reserve.ensures.ok, c.push_reserved.ensures.len, c.push_reserved.ensures.capacity)))

-- the debit stands behind all that the acquirer has
pub returns-clause-begun : goal.returns-clause-begun
returns-clause-begun c = search rules
