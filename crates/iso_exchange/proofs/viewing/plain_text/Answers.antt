use Rattle.std.proofs.Common.{◌≡◌, ℕ, List, Bor, Option, Some, None}
use Rattle.std.specs.Prelude.{IfSome, MatchOption}
use Rattle.iso_wire.specs.Contents.{Contents}
use Rattle.iso_wire.specs.Elements.{value_in}
use Rattle.iso_wire.specs.Reading.{message_at, whole}
use Rattle.iso_order.specs.Fields.{text}
use Rattle.iso_exchange.proofs.Viewed.{plain-read}
use Rattle.iso_exchange.proofs.viewing.plain_text.Goals as goal

pub returns : goal.returns
returns c = go c.wire.result c.wire.ensures.body
  where
    go : (r : Option (Bor (List ℕ))) → MatchOption r (value_in c.args.message.now.wires c.args.n ≡ None) (λ v. value_in c.args.message.now.wires c.args.n ≡ Some v.now)
        → IfSome r (λ v. (m : Contents) (size : ℕ) → message_at c.args.table.now c.args.body.now ≡ whole m size → v.now ≡ text m c.args.n)
    go None h = tt
    go (Some v) h = λ m size read.
        plain-read c.args.table.now c.args.message.now c.args.body.now c.requires.viewed c.requires.all c.args.n c.in_ok-row.row.now v.now m size read h c.in_ok-row.ensures.row
        (c.is_plain.ensures c.if-not-is_plain.false)
