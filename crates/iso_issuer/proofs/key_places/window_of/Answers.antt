use Rattle.std.proofs.Common.{ap, sym, ◌∙◌, take, drop}
use Rattle.iso_issuer.proofs.Placed.{window-is, window-empty}
use Rattle.iso_issuer.proofs.key_places.window_of.Goals as goal

pub returns-then-slots-le-WINDOW : goal.returns-then-slots-le-WINDOW
returns-then-slots-le-WINDOW c = sym (window-empty c.args.slots.now c.args.key.now c.if-slots-le-WINDOW.true)

pub returns : goal.returns
returns c =
    c.split_at-2.ensures.front ∙ ap (take 16) (c.split_at.ensures.back ∙ ap (λ n. drop n c.args.slots.now) c.start_of.ensures.value)
    ∙ sym (window-is c.args.slots.now c.args.key.now c.if-slots-le-WINDOW.false)
