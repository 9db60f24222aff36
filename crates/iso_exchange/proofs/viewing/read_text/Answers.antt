use Rattle.std.proofs.Common.{◌≡◌, ℕ, ◌-◌, List, drop, sym, ap, ◌∙◌}
use Rattle.iso_parts.specs.Reading.{got, part_at, prefix_size}
use Rattle.iso_wire.specs.Contents.{Contents}
use Rattle.iso_wire.specs.Reading.{message_at, whole}
use Rattle.iso_order.specs.Fields.{text}
use Rattle.iso_exchange.proofs.Purchases.{on-ok}
use Rattle.iso_exchange.proofs.Viewed.{no-text, text-read, row-there}
use Rattle.iso_exchange.proofs.viewing.read_text.Goals as goal

pub returns-in_default : goal.returns-in_default
returns-in_default c = record {
  text = λ m size read.
      c.clear.ensures.items ∙ no-text c.args.table.now c.args.message.now c.args.body.now c.requires.viewed c.requires.all c.views.ensures c.args.n m size read c.in_default.ensures;
}

pub returns-in_default-row : goal.returns-in_default-row
returns-in_default-row c = record {
  text = λ m size read.
      absurd (row-there c.args.table.now c.args.message.now c.args.body.now c.requires.viewed c.requires.all c.views.ensures c.args.n c.in-Some.place.start c.in-Some.ensures.3 (sym c.in_default-row.ensures.row));
}

pub decode_front-requires : goal.decode_front-requires
decode_front-requires c = record { good = c.row.ensures.good c.args.n c.in-Some-row.row.now (sym c.in-Some-row.ensures.row) }

pub returns : goal.returns
returns c =
    let t = c.args.table.now in
    let b = c.args.body.now in
    let row = c.in-Some-row.row.now in
    let start = c.in-Some.place.start in
    let new = c.decode_front.new.value.items in
    let place : c.split_at.result.1.now ≡ drop (start - prefix_size row.length) b =
    c.split_at.ensures.back ∙ ap (λ (k : ℕ). drop k b) (c.saturating_sub-at.ensures ∙ ap (λ (k : ℕ). start - k) c.prefix_size.ensures.size) in
    record {
      text = on-ok ((v : List ℕ) (used : ℕ) → part_at row c.split_at.result.1.now ≡ got v used → new ≡ v)
          ((m : Contents) (size : ℕ) → message_at t b ≡ whole m size → new ≡ text m c.args.n) c.decode_front.result
          (λ told m size read.
          let found = text-read t c.args.message.now b c.requires.viewed c.requires.all c.parts.ensures c.views.ensures c.row.ensures.good c.args.n start row m size read c.in-Some.ensures.3 (sym c.in-Some-row.ensures.row) in
          told (text m c.args.n) found.0 (ap (part_at row) place ∙ found.1))
          c.decode_front.ensures.value;
    }
