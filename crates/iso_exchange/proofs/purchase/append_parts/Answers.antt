use Rattle.std.proofs.Common.{◌≡◌, ◌++◌, ◌∷◌, [], arith, refl}
use Rattle.std.specs.List.{flat_map}
use Rattle.iso_wire.specs.Decimal.{decimal}
use Rattle.iso_wire.specs.Spelling.{Parts, plain_of}
use Rattle.iso_order.specs.Requests.{account_number, acquirer_code}
use Rattle.iso_exchange.specs.Purchase.{purchase_elements, four_elements, AddsPart, AddsParts}
use Rattle.iso_exchange.proofs.Purchases.{parts-more, parts-written, parts-spelled, on-ok}
use Rattle.iso_exchange.proofs.purchase.append_parts.Goals as goal

-- the account's number, with the zeros before it that it has
account : (c : goal.After-append_part) → AddsPart c.args.table.now.rows 2 (account_number c.args.money.now) c.args.out.now.items c.append_digits.new.out.items
account c = rw (← c.len-len.ensures.value, ← c.digits-account.ensures.value) c.in_ok-append_digits.ensures

-- the acquirer's number in its own digits
own : (c : goal.After-append_part) → acquirer_code c.args.key.now.acquirer ≡ decimal c.digits_of-digits.result c.args.key.now.acquirer
own c =
    let facts = c.digits_of-digits.ensures in
    (c.acquirers_in_own_digits.ensures c.digits_of-digits.result c.args.key.now.acquirer facts.some c.requires.few facts.fits facts.least).1

acquirer : (c : goal.After-append_part) → AddsPart c.args.table.now.rows 32 (acquirer_code c.args.key.now.acquirer) c.append_numbers.new.out.items c.append_digits-2.new.out.items
acquirer c = rw (own c) c.in_ok-append_digits-2.ensures

-- the parts, one behind the other
parts : (c : goal.After-append_part) → AddsPart c.args.table.now.rows 49 c.args.money.now.currency c.append_digits-2.new.out.items c.append_part.new.out.items
    → AddsParts c.args.table.now.rows (purchase_elements c.args.key.now c.args.money.now) c.args.out.now.items c.append_part.new.out.items
parts c last = (
  c.append_digits.new.out.items,
  account c,
  parts-more c.args.table.now.rows (four_elements c.args.money.now.amount c.args.key.now) ((32, acquirer_code c.args.key.now.acquirer) ∷ (49, c.args.money.now.currency) ∷ [])
      c.append_digits.new.out.items c.append_numbers.new.out.items c.append_part.new.out.items c.in_ok-append_numbers.ensures
      (c.append_digits-2.new.out.items, acquirer c, (c.append_part.new.out.items, last, refl)),
)

pub append_digits-requires-2-clause-few : goal.append_digits-requires-2-clause-few
append_digits-requires-2-clause-few c =
    let facts = c.digits_of-digits.ensures in
    let own = c.acquirers_in_own_digits.ensures c.digits_of-digits.result c.args.key.now.acquirer facts.some c.requires.few facts.fits facts.least in
    omega (arith, own.0)

pub returns-clause-written : goal.returns-clause-written
returns-clause-written c =
    let rows = c.args.table.now.rows in
    let es = purchase_elements c.args.key.now c.args.money.now in
    let old = c.args.out.now.items in
    let new = c.append_part.new.out.items in
    on-ok (AddsPart rows 49 c.args.money.now.currency c.append_digits-2.new.out.items new) (new ≡ old ++ flat_map (plain_of rows) es) c.append_part.result
    (λ last. parts-written rows es old new (parts c last)) c.append_part.ensures

pub returns-clause-spelled : goal.returns-clause-spelled
returns-clause-spelled c =
    let rows = c.args.table.now.rows in
    let es = purchase_elements c.args.key.now c.args.money.now in
    let old = c.args.out.now.items in
    let new = c.append_part.new.out.items in
    on-ok (AddsPart rows 49 c.args.money.now.currency c.append_digits-2.new.out.items new) (Parts rows es (flat_map (plain_of rows) es)) c.append_part.result
    (λ last. parts-spelled rows es old new (parts c last)) c.append_part.ensures
