use Rattle.std.proofs.Common.{◌≡◌, ◌/◌, ◌++◌, ℕ, List, arith, ap, subst, ◌∙◌}
use Rattle.std.specs.List.{flat_map}
use Rattle.iso_parts.specs.Bitmap.{contains, PlainBitmaps}
use Rattle.iso_parts.specs.Digits.{four_digits_of}
use Rattle.iso_parts.specs.Mti.{mti_number}
use Rattle.iso_parts.specs.declared.bitmap.BitmapCoding.{BitmapCoding}
use Rattle.iso_parts.specs.declared.digits.Digits.{Digits}
use Rattle.iso_wire.specs.Spelling.{Parts, PlainSpelling, plain_of}
use Rattle.iso_order.specs.declared.key.TxKey.{TxKey}
use Rattle.iso_order.specs.Requests.{request}
use Rattle.iso_exchange.specs.Purchase.{purchase_elements}
use Rattle.iso_exchange.proofs.Purchases.{on-both, purchase-small, purchase-spelled, three-pieces}
use Rattle.iso_exchange.proofs.purchase.append_purchase.Goals as goal

pub type_of-mti-requires : goal.type_of-mti-requires
type_of-mti-requires c =
    let small = purchase-small c.args.order.now c.args.money.now c.requires (c.requests_are_well_formed.ensures c.args.order.now c.key-key.ensures.valid) in
    rw c.key-key.ensures.value (omega (arith, small))

pub returns : goal.returns
returns c =
    let t = c.args.table.now in
    let o = c.args.order.now in
    let money = c.args.money.now in
    let rows = t.rows in
    let key = c.key-key.result in
    let mti = c.type_of-mti.result in
    let set = contains c.numbers.result in
    let old = c.args.out.now.items in
    let start = c.reserve.new.self.items in
    let new = c.append_parts.new.out.items in
    let maps = c.in_ok-append.ensures.ok.0 in
    let same : mti_number mti ≡ o.key.base = c.type_of-mti.ensures ∙ ap (λ (k : TxKey). k.base) c.key-key.ensures.value in
    let version : o.key.base / 1000 ≡ t.version = omega (arith, same, mti.version_digit, mti.class_digit, mti.function_digit, mti.origin_digit, c.if-mti-version.false, c.version.ensures.version) in
    let plain : PlainBitmaps t.bitmap set maps = subst (λ (k : BitmapCoding). PlainBitmaps k set maps) c.bitmap.ensures c.in_ok-append.ensures.ok.1 in
    let head : c.append_type.new.out.items ≡ start ++ four_digits_of t.mti o.key.base =
    c.in_ok-append_type.ensures ∙ ap (λ (k : Digits). start ++ four_digits_of k (mti_number mti)) c.mti.ensures ∙ ap (λ (n : ℕ). start ++ four_digits_of t.mti n) same in
    let bytes = four_digits_of t.mti o.key.base ++ (maps ++ flat_map (plain_of rows) (purchase_elements o.key money)) in
    on-both (new ≡ c.append.new.out.items ++ flat_map (plain_of rows) (purchase_elements key money))
    (Parts rows (purchase_elements key money) (flat_map (plain_of rows) (purchase_elements key money)))
    ((b : List ℕ) × PlainSpelling t (request o) b × (new ≡ old ++ b)) c.append_parts.result
    (λ written spelled.
    let tail : new ≡ c.append.new.out.items ++ flat_map (plain_of rows) (purchase_elements o.key money) =
    written ∙ ap (λ (k : TxKey). c.append.new.out.items ++ flat_map (plain_of rows) (purchase_elements k money)) c.key-key.ensures.value in
    let parts : Parts rows (purchase_elements o.key money) (flat_map (plain_of rows) (purchase_elements o.key money)) =
    subst (λ (k : TxKey). Parts rows (purchase_elements k money) (flat_map (plain_of rows) (purchase_elements k money))) c.key-key.ensures.value spelled in (
      bytes,
      purchase-spelled t o money set maps (c.requests_are_well_formed.ensures o c.key-key.ensures.valid) c.requires version (c.numbers.ensures o.key money) plain parts,
      three-pieces old start c.append_type.new.out.items c.append.new.out.items new (four_digits_of t.mti o.key.base) maps (flat_map (plain_of rows) (purchase_elements o.key money))
          c.in_ok-reserve.ensures.items head c.in_ok-append.ensures.ok.2 tail,
    ))
    c.append_parts.ensures.written c.append_parts.ensures.spelled
