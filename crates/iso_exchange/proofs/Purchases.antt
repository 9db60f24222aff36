-- The request for a purchase, part by part.
use Rattle.std.proofs.Common.{◌≡◌, ◌<◌, ◌*◌, ◌/◌, ℕ, Bool, refl, ap, sym, subst, ◌∙◌, List, [], ◌∷◌, ◌++◌, append_assoc, append-nil, Option, Result, Ok, Err}
use Rattle.std.specs.Prelude.{OnOk}
use Rattle.std.specs.List.{flat_map}
use Rattle.std.proofs.Math.Path.{fun_ext}
use Rattle.iso_parts.specs.Bitmap.{PlainBitmaps}
use Rattle.iso_parts.specs.Digits.{four_digits_of}
use Rattle.iso_parts.specs.declared.spec.FieldSpec.{FieldSpec}
use Rattle.iso_parts.specs.PartLaws.{PartLaws}
use Rattle.iso_table.specs.Layout.{Layout, AreGood}
use Rattle.iso_wire.specs.Decimal.{decimal}
use Rattle.iso_wire.specs.DecimalLaws.{DecimalLaws}
use Rattle.iso_wire.specs.Elements.{has}
use Rattle.iso_wire.specs.OneSpelling.{WellFormed}
use Rattle.iso_wire.specs.Spelling.{Parts, PlainSpelling, plain_of}
use Rattle.iso_order.specs.declared.act.Act.TheVariants.{Debit}
use Rattle.iso_order.specs.declared.act.Money.{Money}
use Rattle.iso_order.specs.declared.key.TxKey.{TxKey}
use Rattle.iso_order.specs.Order.{Instruction}
use Rattle.iso_order.specs.Requests.{request}
use Rattle.iso_exchange.specs.Packed.{packed, ArePacked, IsPackedAt}
use Rattle.iso_exchange.specs.Purchase.{purchase_elements, four_elements, four_packed, AddsPart, AddsParts}
use Rattle.iso_exchange.proofs.Packs.{adds-packed}

-- ---- the elements

pub purchase-listed : (k : TxKey) (m : Money) → request (record { key = k; act = Debit m }) ≡ record { mti = k.base; elements = purchase_elements k m }
unfolding request
purchase-listed k m = refl

-- ---- the parts

-- parts that are put behind others
pub parts-more : (rows : List (Option FieldSpec)) (xs ys : List (ℕ × List ℕ)) (old mid new : List ℕ) → AddsParts rows xs old mid → AddsParts rows ys mid new → AddsParts rows (xs ++ ys) old new
parts-more rows [] ys old mid new first rest = subst (λ (l : List ℕ). AddsParts rows ys l new) first rest
parts-more rows (x ∷ xs) ys old mid new first rest = (first.0, first.1, parts-more rows xs ys first.0 mid new first.2 rest)

-- where the table packs them, the bytes of four numbers are their parts
pub four-added : PartLaws → DecimalLaws → (rows : List (Option FieldSpec)) → AreGood rows → ArePacked rows → (amount : ℕ) (k : TxKey) (old new : List ℕ) → new ≡ old ++ four_packed amount k
    → AddsParts rows (four_elements amount k) old new
four-added laws decimals rows good are amount k old new written =
    let one = old ++ packed 3 0 in
    let two = one ++ packed 6 amount in
    let three = two ++ packed 5 k.sent in
    let four = three ++ packed 3 k.stan in
    let last : new ≡ four =
    written
    ∙ sym (append_assoc old (packed 3 0) (packed 6 amount ++ (packed 5 k.sent ++ packed 3 k.stan)))
    ∙ sym (append_assoc one (packed 6 amount) (packed 5 k.sent ++ packed 3 k.stan))
    ∙ sym (append_assoc two (packed 5 k.sent) (packed 3 k.stan)) in
    let put : (n bytes v : ℕ) (before : List ℕ) → IsPackedAt rows n bytes → AddsPart rows n (decimal (2 * bytes) v) before (before ++ packed bytes v) =
    λ n bytes v before is. adds-packed laws decimals rows n bytes v is.0 before (before ++ packed bytes v) (good n is.0 is.1) (sym is.1) is.2 refl in
    (one, put 3 3 0 old are.processing, (two, put 4 6 amount one are.amount, (three, put 7 5 k.sent two are.sent, (four, put 11 3 k.stan three are.stan, last))))

pub parts-written : (rows : List (Option FieldSpec)) (es : List (ℕ × List ℕ)) (old new : List ℕ) → AddsParts rows es old new → new ≡ old ++ flat_map (plain_of rows) es
parts-written rows [] old new h = h ∙ sym (append-nil old)
parts-written rows (e ∷ es) old new h =
    parts-written rows es h.0 new h.2 ∙ ap (λ (l : List ℕ). l ++ flat_map (plain_of rows) es) h.1.0 ∙ append_assoc old (plain_of rows e) (flat_map (plain_of rows) es)

pub parts-spelled : (rows : List (Option FieldSpec)) (es : List (ℕ × List ℕ)) (old new : List ℕ) → AddsParts rows es old new → Parts rows es (flat_map (plain_of rows) es)
parts-spelled rows [] old new h = refl
parts-spelled rows (e ∷ es) old new h = (plain_of rows e, flat_map (plain_of rows) es, h.1.1, parts-spelled rows es h.0 new h.2, refl)

-- ---- the whole

-- three pieces behind what was there, one after another
pub three-pieces : (old none one two all a b c : List ℕ) → none ≡ old → one ≡ none ++ a → two ≡ one ++ b → all ≡ two ++ c → all ≡ old ++ (a ++ (b ++ c))
three-pieces old none one two all a b c same first second third =
    third
    ∙ ap (λ (l : List ℕ). l ++ c) (second ∙ ap (λ (l : List ℕ). l ++ b) (first ∙ ap (λ (l : List ℕ). l ++ a) same))
    ∙ append_assoc (old ++ a) b c
    ∙ append_assoc old a (b ++ c)

-- the type, the bitmaps and the parts are the plain spelling of the request
pub purchase-spelled : (t : Layout) (o : Instruction) (money : Money) (set : ℕ → Bool) (maps : List ℕ) → WellFormed (request o) → o.act ≡ Debit money → o.key.base / 1000 ≡ t.version
    → ((k : ℕ) → set k ≡ has (purchase_elements o.key money) k) → PlainBitmaps t.bitmap set maps
    → Parts t.rows (purchase_elements o.key money) (flat_map (plain_of t.rows) (purchase_elements o.key money))
    → PlainSpelling t (request o) (four_digits_of t.mti o.key.base ++ (maps ++ flat_map (plain_of t.rows) (purchase_elements o.key money)))
purchase-spelled t o money set maps well act version agrees plain parts =
    let es = purchase_elements o.key money in
    let listed : request o ≡ record { mti = o.key.base; elements = es } = ap (λ a. request (record { key = o.key; act = a })) act ∙ purchase-listed o.key money in
    let own : PlainBitmaps t.bitmap (has es) maps = subst (λ (s : ℕ → Bool). PlainBitmaps t.bitmap s maps) (fun_ext agrees) plain in
    rw listed (record {
      spelling = record {
        mti = rw listed at well.mti;
        version = version;
        ascending = rw listed at well.ascending;
        secondary = own.two;
        maps = maps;
        parts = flat_map (plain_of t.rows) es;
        bitmaps = own.spelled;
        elements = parts;
        bytes = refl;
      };
      bitmaps = own;
      parts = refl;
    })

-- what follows of an answer that is good follows of the answer
pub on-ok : {T E : Type 0} (P Q : Type 0) (r : Result T E) → (P → Q) → OnOk r P → OnOk r Q
on-ok P Q (Ok x) f h = f h
on-ok P Q (Err e) f h = tt

pub on-both : {T E : Type 0} (P R Q : Type 0) (r : Result T E) → (P → R → Q) → OnOk r P → OnOk r R → OnOk r Q
on-both P R Q (Ok x) f h i = f h i
on-both P R Q (Err e) f h i = tt

-- its type has four digits
pub purchase-small : (o : Instruction) (money : Money) → o.act ≡ Debit money → WellFormed (request o) → o.key.base < 10000
purchase-small o money act well =
    let listed : request o ≡ record { mti = o.key.base; elements = purchase_elements o.key money } = ap (λ a. request (record { key = o.key; act = a })) act ∙ purchase-listed o.key money in
    rw listed at well.mti
