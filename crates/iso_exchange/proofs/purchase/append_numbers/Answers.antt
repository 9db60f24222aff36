use Rattle.std.proofs.Common.{refl}
use Rattle.iso_wire.specs.Decimal.{decimal}
use Rattle.iso_exchange.specs.Purchase.{four_elements, AddsPart, AddsParts}
use Rattle.iso_exchange.proofs.Purchases.{four-added, on-ok}
use Rattle.iso_exchange.proofs.purchase.append_numbers.Goals as goal

pub returns-then-are_packed : goal.returns-then-are_packed
returns-then-are_packed c =
    four-added c.parts.ensures c.decimals.ensures c.args.table.now.rows c.are_packed.ensures.good (c.are_packed.ensures.packed c.if-are_packed.true) c.args.amount c.args.key.now c.args.out.now.items
    c.append_at_once.new.out.items c.in_ok-append_at_once.ensures

pub returns : goal.returns
returns c =
    let rows = c.args.table.now.rows in
    let third = c.append_number-3.new.out.items in
    let new = c.append_number-4.new.out.items in
    on-ok (AddsPart rows 11 (decimal 6 c.args.key.now.stan) third new) (AddsParts rows (four_elements c.args.amount c.args.key.now) c.args.out.now.items new) c.append_number-4.result
    (λ last. (
      c.append_number.new.out.items,
      c.in_ok-append_number.ensures,
      (
        c.append_number-2.new.out.items,
        c.in_ok-append_number-2.ensures,
        (third, c.in_ok-append_number-3.ensures, (new, last, refl)),
      ),
    ))
    c.append_number-4.ensures
