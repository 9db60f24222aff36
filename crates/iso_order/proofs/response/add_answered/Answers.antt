-- Where the message lacks the other elements, the shorter list of numbers gives the whole response.
use Rattle.std.proofs.Common.{◌≡◌, ℕ, List, [], ◌∷◌, take, false, sym, ap, ◌∙◌}
use Rattle.std.proofs.lemmas.Result.{on_ok_weaker, on_err_weaker}
use Rattle.iso_order.specs.Adding.{elements_with_value, answered, is_rare_payment, is_rare_network}
use Rattle.iso_order.specs.Response.{element}
use Rattle.iso_order.proofs.Suffices.{payment, network}
use Rattle.iso_order.proofs.response.add_answered.Goals as goal

pub returns-then-not-is_rare_payment-clause-whole : goal.returns-then-not-is_rare_payment-clause-whole
returns-then-not-is_rare_payment-clause-whole c =
    let m = c.args.message.now in
    let value = element m c.args.answer.now in
    let rare : is_rare_payment m ≡ false = sym c.is_rare_payment.ensures ∙ c.if-not-is_rare_payment.true in
    let same : elements_with_value value answered ≡ elements_with_value value (2 ∷ 3 ∷ 4 ∷ 7 ∷ 11 ∷ 32 ∷ 38 ∷ 39 ∷ 49 ∷ 54 ∷ []) = payment m c.args.answer.now rare in
    on_ok_weaker c.add_all.result (λ is. is ∙ ap (λ (es : List (ℕ × List ℕ)). record c.args.response.now { elements = es }) (sym same)) c.add_all.ensures.whole

pub returns-then-not-is_rare_payment-clause-begun : goal.returns-then-not-is_rare_payment-clause-begun
returns-then-not-is_rare_payment-clause-begun c =
    let m = c.args.message.now in
    let value = element m c.args.answer.now in
    let rare : is_rare_payment m ≡ false = sym c.is_rare_payment.ensures ∙ c.if-not-is_rare_payment.true in
    let same : elements_with_value value answered ≡ elements_with_value value (2 ∷ 3 ∷ 4 ∷ 7 ∷ 11 ∷ 32 ∷ 38 ∷ 39 ∷ 49 ∷ 54 ∷ []) = payment m c.args.answer.now rare in
    on_err_weaker c.add_all.result (λ begun. (begun.0, begun.1 ∙ ap (λ (es : List (ℕ × List ℕ)). record c.args.response.now { elements = take begun.0 es }) (sym same))) c.add_all.ensures.begun

pub returns-then-not-is_rare_network-clause-whole : goal.returns-then-not-is_rare_network-clause-whole
returns-then-not-is_rare_network-clause-whole c =
    let m = c.args.message.now in
    let value = element m c.args.answer.now in
    let rare : is_rare_network m ≡ false = sym c.is_rare_network.ensures ∙ c.if-not-is_rare_network.true in
    let same : elements_with_value value answered ≡ elements_with_value value (7 ∷ 11 ∷ 38 ∷ 39 ∷ 54 ∷ 70 ∷ []) = network m c.args.answer.now rare in
    on_ok_weaker c.add_all-then-not-is_rare_network.result (λ is. is ∙ ap (λ (es : List (ℕ × List ℕ)). record c.args.response.now { elements = es }) (sym same)) c.add_all-then-not-is_rare_network.ensures.whole

pub returns-then-not-is_rare_network-clause-begun : goal.returns-then-not-is_rare_network-clause-begun
returns-then-not-is_rare_network-clause-begun c =
    let m = c.args.message.now in
    let value = element m c.args.answer.now in
    let rare : is_rare_network m ≡ false = sym c.is_rare_network.ensures ∙ c.if-not-is_rare_network.true in
    let same : elements_with_value value answered ≡ elements_with_value value (7 ∷ 11 ∷ 38 ∷ 39 ∷ 54 ∷ 70 ∷ []) = network m c.args.answer.now rare in
    on_err_weaker c.add_all-then-not-is_rare_network.result (λ begun. (begun.0, begun.1 ∙ ap (λ (es : List (ℕ × List ℕ)). record c.args.response.now { elements = take begun.0 es }) (sym same))) c.add_all-then-not-is_rare_network.ensures.begun
