use Rattle.std.proofs.Common.{◌≡◌, ℕ, ◌*◌, Option, Some, None}
use Rattle.std.specs.Prelude.{IfSome}
use Rattle.iso_parts.specs.Part.{characters}
use Rattle.iso_wire.specs.Contents.{Contents}
use Rattle.iso_wire.specs.Decimal.{number, number_in}
use Rattle.iso_wire.specs.Reading.{message_at, whole}
use Rattle.iso_order.specs.Fields.{text}
use Rattle.iso_exchange.proofs.Viewed.{packed-read}
use Rattle.iso_exchange.proofs.viewing.packed_at.Goals as goal

pub returns : goal.returns
returns c = go c.packed_number.result c.packed_number.ensures
  where
    go : (r : Option ℕ) → IfSome r (λ k. k ≡ number (characters c.in_ok-wire.wire.now))
        → IfSome r (λ k. (m : Contents) (size : ℕ) → message_at c.args.table.now c.args.body.now ≡ whole m size
        → Some k ≡ number_in (2 * c.args.bytes) (2 * c.args.bytes) (text m c.args.n))
    go None h = tt
    go (Some k) h = λ m size read.
        packed-read c.args.table.now c.args.message.now c.args.body.now c.requires.viewed c.requires.all c.args.n c.args.bytes c.in_ok-row.row.now c.in_ok-wire.wire.now k m size read
        c.in_ok-wire.ensures.body c.in_ok-row.ensures.row (c.is_packed.ensures c.if-not-is_packed.false) h
