use Rattle.std.proofs.Common.{ap, ◌∙◌, sym, length, List, ℕ}
use Rattle.iso_order.specs.Outcome.{Outcome}
use Rattle.iso_order.proofs.Shown.{shown-currency}
use Rattle.iso_order.proofs.response.add_balance.Goals as goal

pub additional-requires : goal.additional-requires
additional-requires c =
    ap (λ (t : List ℕ). length t) c.text.ensures
    ∙ shown-currency c.args.message.now c.args.answer.now.shown c.in-Some.shown (sym (ap (λ (a : Outcome). a.shown) c.answer.view_is) ∙ c.in-Some.is) c.requires.shown
