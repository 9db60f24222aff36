-- Under a table that is ready for a host every response that is written is short.
use Rattle.std.proofs.Common.{◌≡◌, ℕ, ◌+◌, ◌-◌, ◌*◌, ◌≤◌, Bool, true, ◌&&◌, List, [], ◌∷◌, ◌++◌, length, length-append, Option, Some, None, refl, ap, subst, sym, ◌∙◌, arith, map}
use Rattle.std.specs.Prelude.{nat_le, ◌==◌, IfSome}
use Rattle.std.specs.List.{flat_map, list_all}
use Rattle.std.proofs.lemmas.Bool.{and_parts, eqb-true}
use Rattle.std.proofs.lemmas.Bool.Decides.{nat_tests}
use Rattle.iso_parts.specs.Digits.{four_digits_of}
use Rattle.iso_parts.specs.declared.fault.FieldFault.{FieldFault}
use Rattle.iso_parts.specs.declared.padding.Pad.{Pad}
use Rattle.iso_parts.specs.declared.padding.Pad.TheVariants as pads
use Rattle.iso_parts.specs.declared.digits.Digits.{Digits}
use Rattle.iso_parts.specs.declared.digits.Digits.TheVariants as digits
use Rattle.iso_parts.specs.declared.spec.FieldSpec.{FieldSpec}
use Rattle.iso_parts.specs.MapLaws.{MapLaws}
use Rattle.iso_parts.specs.Part.{with_pads, with_padding, prefix, plain, plain_part}
use Rattle.iso_parts.specs.PartLaws.{PartLaws}
use Rattle.iso_parts.specs.Spec.{is_exact, refusal, Fits}
use Rattle.iso_table.specs.declared.host_ready.HostRow.{HostRow}
use Rattle.iso_table.specs.declared.host_ready.Shape.{Shape}
use Rattle.iso_table.specs.declared.host_ready.Shape.TheVariants as shapes
use Rattle.iso_table.specs.HostReady.{is_n, is_an, is_n_or_an, is_fixed, is_ll_or_lll, is_unpadded, is_shape, host_rows, IsHostRow, AreHostRows}
use Rattle.iso_table.specs.Layout.{row_at}
use Rattle.iso_wire.specs.Contents.{Contents}
use Rattle.iso_wire.specs.DecimalLaws.{DecimalLaws}
use Rattle.iso_wire.specs.Refusal.{refused_field, refused_by}
use Rattle.iso_wire.specs.Spelling.{plain_by, plain_of}
use Rattle.iso_order.specs.Fields.{text}
use Rattle.iso_order.specs.Fitting.{ResponsesAreShort}
use Rattle.iso_order.specs.Listing.{element_where}
use Rattle.iso_order.specs.Adding.{elements_with_value}
use Rattle.iso_order.specs.Outcome.{Outcome}
use Rattle.iso_order.specs.Response.{element, response, is_showable}
use Rattle.iso_order.proofs.Ascending.{response-listed}
use Rattle.iso_order.proofs.Fits.{IsTaken, Values, balance_by, length-additional, element_taken}
use Rattle.iso_order.proofs.Rows.{length_by}
use Rattle.iso_order.proofs.Shown.{shown-currency}

-- ---- rows

part_short : PartLaws → (s : FieldSpec) (v : List ℕ) → Fits s v → s.max ≤ 99 → length (plain_part s v) ≤ 202
part_short laws s v fits few = omega (arith, laws.short s v fits)

unpadded : (p : Pad) (n : ℕ) (v : List ℕ) → is_unpadded p ≡ true → with_pads p n v ≡ v
unpadded pads.None n v is = refl
unpadded (pads.Left p) n v is = absurd cc
unpadded (pads.Right p) n v is = absurd cc

-- an unpadded value is written alike under every maximum: under one that is its own length it is short
unpadded_short : PartLaws → (s : FieldSpec) (v : List ℕ) → is_unpadded s.pad ≡ true → Fits s v → length v ≤ 99 → length (plain_part s v) ≤ 202
unpadded_short laws s v is fits few =
    let narrow : FieldSpec = record s { max = length v } in
    let fits_narrow : Fits narrow v = record { length = length_by (is_exact s.length s.pad) (length v) (length v) refl; class = fits.class; pad = fits.pad } in
    let same : with_padding narrow v ≡ with_padding s v = unpadded s.pad (length v - length v) v is ∙ sym (unpadded s.pad (s.max - length v) v is) in
    let alike : length (plain_part narrow v) ≡ length (plain_part s v) = ap (λ (w : List ℕ). length (prefix s.length (length v) ++ plain s.coding w)) same in
    omega (arith, laws.short narrow v fits_narrow)

-- values have at most 99 characters; those of amounts stand at element 54 alone
abbrev is_narrow_by : Shape → ℕ → Bool
is_narrow_by (shapes.Digits n) number = nat_le n 99
is_narrow_by (shapes.DigitsUpTo n) number = nat_le n 99
is_narrow_by (shapes.Text n) number = nat_le n 99
is_narrow_by shapes.Amounts number = number == 54
is_narrow_by (shapes.AnyUpTo n) number = nat_le n 99

abbrev is_narrow : HostRow → Bool
is_narrow h = is_narrow_by h.shape h.number

same_few : (max n : ℕ) → (max == n) ≡ true → nat_le n 99 ≡ true → max ≤ 99
same_few max n same few = grind (arith, nat_tests)

most_few : (max n : ℕ) → nat_le max n ≡ true → nat_le n 99 ≡ true → max ≤ 99
most_few max n most few = grind (arith, nat_tests)

shape_short : PartLaws → (h : Shape) (number : ℕ) (s : FieldSpec) (v : List ℕ) → is_narrow_by h number ≡ true → is_shape h s ≡ true → Fits s v → ((number == 54) ≡ true → length v ≡ 20) → length (plain_part s v) ≤ 202
shape_short laws (shapes.Digits n) number s v few shape fits amount =
    let p = and_parts (is_n s.class && is_fixed s.length && (s.max == n)) (is_unpadded s.pad) shape in
    part_short laws s v fits (same_few s.max n (and_parts (is_n s.class && is_fixed s.length) (s.max == n) p.0).1 few)
shape_short laws (shapes.DigitsUpTo n) number s v few shape fits amount =
    let p = and_parts (is_n s.class && is_ll_or_lll s.length && nat_le s.max n) (is_unpadded s.pad) shape in
    part_short laws s v fits (most_few s.max n (and_parts (is_n s.class && is_ll_or_lll s.length) (nat_le s.max n) p.0).1 few)
shape_short laws (shapes.Text n) number s v few shape fits amount =
    let p = and_parts (is_n_or_an s.class && is_fixed s.length && (s.max == n)) (is_unpadded s.pad) shape in
    part_short laws s v fits (same_few s.max n (and_parts (is_n_or_an s.class && is_fixed s.length) (s.max == n) p.0).1 few)
shape_short laws shapes.Amounts number s v is shape fits amount =
    let p = and_parts (is_an s.class && is_ll_or_lll s.length && nat_le 20 s.max) (is_unpadded s.pad) shape in
    let twenty = amount is in
    unpadded_short laws s v p.1 fits (omega arith)
shape_short laws (shapes.AnyUpTo n) number s v few shape fits amount = part_short laws s v fits (most_few s.max n shape few)

accepted_by : (n : ℕ) (e : Option FieldFault) → refused_field n e ≡ None → e ≡ None
accepted_by n None h = refl
accepted_by n (Some e) h = absurd cc

value_short : PartLaws → (h : HostRow) (r : Option FieldSpec) (v : List ℕ) → is_narrow h ≡ true → IsHostRow h r → refused_by r h.number v ≡ None → ((h.number == 54) ≡ true → length v ≡ 20) → length (plain_by r v) ≤ 202
value_short laws h None v narrow row taken amount = omega arith
value_short laws h (Some s) v narrow row taken amount =
    shape_short laws h.shape h.number s v narrow row ((laws.fits s v).1 (accepted_by h.number (refusal s v) taken)) amount

-- ---- the elements

entry_short : PartLaws → (rows : List (Option FieldSpec)) (h : HostRow) (o : Option (List ℕ)) (es : Values) (most : ℕ) → is_narrow h ≡ true → IsHostRow h (row_at rows h.number) → IfSome o (IsTaken rows h.number) → ((h.number == 54) ≡ true → IfSome o (λ v. length v ≡ 20))
    → length (flat_map (plain_of rows) es) ≤ most → length (flat_map (plain_of rows) (element_where h.number o ++ es)) ≤ 202 + most
entry_short laws rows h (Some v) es most narrow row taken amount rest =
    let here = value_short laws h (row_at rows h.number) v narrow row taken amount in
    omega (arith, length-append (plain_of rows (h.number, v)) (flat_map (plain_of rows) es))
entry_short laws rows h None es most narrow row taken amount rest = omega arith

elements_short : PartLaws → (rows : List (Option FieldSpec)) (value : ℕ → Option (List ℕ)) (hs : List HostRow) → list_all is_narrow hs ≡ true → AreHostRows hs rows → ((n : ℕ) → IfSome (value n) (IsTaken rows n)) → ((n : ℕ) → (n == 54) ≡ true → IfSome (value n) (λ v. length v ≡ 20))
    → length (flat_map (plain_of rows) (elements_with_value value (map (λ (h : HostRow). h.number) hs))) ≤ 202 * length hs
elements_short laws rows value [] narrow good taken amount = omega arith
elements_short laws rows value (h ∷ hs) narrow good taken amount =
    let both = and_parts (is_narrow h) (list_all is_narrow hs) narrow in
    let rest = elements_short laws rows value hs both.1 good.1 taken amount in
    let whole = entry_short laws rows h (value h.number) (elements_with_value value (map (λ (k : HostRow). k.number) hs)) (202 * length hs) both.0 good.0 (taken h.number) (amount h.number) rest in
    omega arith

-- what is shown has twenty characters
amount_twenty : DecimalLaws → (m : Contents) (a : Outcome) → is_showable m a.shown ≡ true → (n : ℕ) → (n == 54) ≡ true → IfSome (element m a n) (λ v. length v ≡ 20)
amount_twenty decimals m a shown n is =
    subst (λ (k : ℕ). IfSome (element m a k) (λ v. length v ≡ 20)) (sym (eqb-true n 54 is))
    (balance_by m a.shown (λ v. length v ≡ 20) shown (λ z some. length-additional decimals (text m 49) z (shown-currency m (Some z) z refl some)))

-- ---- the type

type_short : (k : Digits) (n : ℕ) → length (four_digits_of k n) ≤ 4
type_short digits.Ascii n = omega arith
type_short digits.Bcd n = omega arith

-- ---- the whole response

pub responses_short_lem : PartLaws → MapLaws → DecimalLaws → ResponsesAreShort
responses_short_lem laws map_laws decimals t m a out s plain =
    let value = element m a in
    let listed : (response m a).elements ≡ elements_with_value value (map (λ (h : HostRow). h.number) host_rows) = ap (λ (made : Contents). made.elements) (response-listed m a) in
    let maps = plain.spelling.maps in
    let parts = plain.spelling.parts in
    let bytes = ap length plain.spelling.bytes in
    let kind = type_short t.mti (response m a).mti in
    let bitmaps = map_laws.short t.bitmap _ maps plain.bitmaps in
    let written : length parts ≡ length (flat_map (plain_of t.rows) (elements_with_value value (map (λ (h : HostRow). h.number) host_rows))) = ap length (plain.parts ∙ ap (flat_map (plain_of t.rows)) listed) in
    let elements = elements_short laws t.rows value host_rows refl s.ready.rows (element_taken laws decimals t m a s) (amount_twenty decimals m a s.shown) in
    let front = length-append (four_digits_of t.mti (response m a).mti) (maps ++ parts) in
    let behind = length-append maps parts in
    omega arith
