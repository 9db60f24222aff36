use Rattle.std.proofs.Common.{◌≡◌, ℕ, Option, sym, ◌∙◌}
use Rattle.iso_wire.specs.Contents.{Contents}
use Rattle.iso_wire.specs.Reading.{message_at, whole}
use Rattle.iso_order.specs.declared.told.Told.{Told}
use Rattle.iso_order.specs.Told.{told_of}
use Rattle.iso_exchange.specs.Answer.{told_in}
use Rattle.iso_exchange.proofs.Viewed.{told-all, if-ok}
use Rattle.iso_exchange.proofs.answer.answer_in.Goals as goal

pub returns : goal.returns
returns c =
    let t = c.args.table.now in
    let b = c.args.body.now in
    let v = c.in-Ok.message in
    if-ok (λ (told : Option Told). (m : Contents) (size : ℕ) → message_at t b ≡ whole m size → m.mti ≡ v.mti → told ≡ told_of m) (λ told. told ≡ told_in t b) c.told_of.result
    (λ told h. told-all t v b c.in-Ok.ensures.exact (sym c.used.ensures ∙ c.if-used-body.false) told h) c.told_of.ensures.told
