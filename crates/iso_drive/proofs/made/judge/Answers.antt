use Rattle.std.proofs.Common.{◌≡◌, true, arith, sym, ap, ◌∙◌, subst}
use Rattle.std.proofs.lemmas.Grind.{common_steps}
use Rattle.iso_order.specs.Key.{same_key}
use Rattle.iso_drive.specs.declared.heard.Heard.{Heard}
use Rattle.iso_drive.specs.Answered.{ComesTo}
use Rattle.iso_drive.specs.Made.{told_by}
use Rattle.iso_drive.proofs.Answer.{own-judged, undo-judged}
use Rattle.iso_drive.proofs.made.judge.Goals as goal

pub returns-in-Payment : goal.returns-in-Payment
returns-in-Payment c = λ slots t.
    let same : same_key c.in-Some.of.key c.args.key.now ≡ true = grind (arith, common_steps, c.is_same.ensures, c.if-not-is_same.false) in
    subst (λ (h : Heard). ComesTo slots c.args.key.now c.args.code h) (sym (c.told_by.ensures ∙ ap (told_by c.args.key.now.stan) c.own_end.ensures))
    (own-judged slots c.args.key.now c.args.code c.in-Some.of c.in-Payment.state t.in_row (c.in-Some.ensures slots t) same c.in-Payment.is)

pub returns-in-Reversal : goal.returns-in-Reversal
returns-in-Reversal c = λ slots t.
    let same : same_key c.in-Some.of.key c.args.key.now ≡ true = grind (arith, common_steps, c.is_same.ensures, c.if-not-is_same.false) in
    subst (λ (h : Heard). ComesTo slots c.args.key.now c.args.code h) (sym (c.told_by-in-Reversal.ensures ∙ ap (told_by c.in-Reversal.original) (c.undo_end_at.ensures slots t)))
    (undo-judged slots c.args.key.now c.args.code c.in-Some.of c.in-Reversal.original t.in_row (c.in-Some.ensures slots t) same c.in-Reversal.is)
