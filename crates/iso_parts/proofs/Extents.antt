-- A part takes at most as many bytes as its row's longest one, and bytes that end inside a part are fewer; and which
-- faults its length and its body have.
use Rattle.std.proofs.Common.{◌≡◌, ℕ, ◌+◌, ◌-◌, ◌*◌, ◌/◌, ◌%◌, ◌≤◌, ◌&&◌, ◌||◌, Bool, true, false, cond, eqb, ltb, List, [], ◌∷◌, length, take, drop, Some, None, Result, Ok, Err, refl, subst, arith}
use Rattle.hex.specs.Hex.{decode_of}
use Rattle.hex.specs.declared.error.FromHexError.{FromHexError}
use Rattle.std.proofs.lemmas.Bool.{ltb-true, ltb-false}
use Rattle.iso_parts.specs.declared.encoding.Coding.{Coding}
use Rattle.iso_parts.specs.declared.encoding.Coding.TheVariants as codings
use Rattle.iso_parts.specs.declared.spec.FieldSpec.{FieldSpec}
use Rattle.iso_parts.specs.declared.fault.FieldFault.{FieldFault}
use Rattle.iso_parts.specs.declared.fault.FieldFault.TheVariants.{BadLengthDigits, LengthOver, BadFiller, BadHex, NotInClass}
use Rattle.iso_parts.specs.declared.digits.Digits.TheVariants as digits
use Rattle.iso_parts.specs.declared.prefix.Length.{Length}
use Rattle.iso_parts.specs.declared.prefix.Length.TheVariants as lengths
use Rattle.iso_parts.specs.Class.{is_digit, is_in_class}
use Rattle.iso_parts.specs.Part.{characters}
use Rattle.iso_parts.specs.PartLaws.{IsUpTo, IsLengthFault, IsBodyFault}
use Rattle.iso_parts.specs.Reading.{◌>>=◌, or_bad_length, number_of, prefix_size, prefix_of, count_of, behind_filler, or_bad_hex, text_of, without_padding, value_of, body_size, body_of, FieldReading, more, at_body, at_prefix, part_at}

more_up_to : (t : Bool) (most len size : ℕ) (o : FieldReading) → ltb len size ≡ t → size ≤ most → IsUpTo most len o → IsUpTo most len (cond t more o)
more_up_to true most len size o is le rest = omega (arith, ltb-true len size is)
more_up_to false most len size o is le rest = rest

body_up_to : (most len size : ℕ) (r : Result (List ℕ) FieldFault) → size ≤ most → IsUpTo most len (at_body size r)
body_up_to most len size (Ok v) le = le
body_up_to most len size (Err e) le = tt

size_grows : (c : Coding) (n max : ℕ) → n ≤ max → body_size c n ≤ body_size c max
size_grows codings.Ascii n max le = le
size_grows codings.Raw n max le = le
size_grows codings.Bcd n max le = omega arith
size_grows codings.HexText n max le = omega arith

abbrev up_to_max : ℕ → ℕ → Result ℕ FieldFault
up_to_max max n = cond (ltb max n) (Err LengthOver) (Ok n)

max_by : (t : Bool) (max n m : ℕ) → ltb max n ≡ t → cond t (Err LengthOver) (Ok n) ≡ Ok m → m ≤ max
max_by true max n m is e = absurd cc
max_by false max n m is e = let same : n ≡ m = cc in omega (arith, ltb-false max n is)

count_by : (r : Result ℕ FieldFault) (max m : ℕ) → (r >>= up_to_max max) ≡ Ok m → m ≤ max
count_by (Ok n) max m e = max_by (ltb max n) max n m refl e
count_by (Err d) max m e = absurd cc

prefix_up_to : (s : FieldSpec) (b : List ℕ) (r : Result ℕ FieldFault) → prefix_of s (take (prefix_size s.length) b) ≡ r → IsUpTo (prefix_size s.length + body_size s.coding s.max) (length b) (at_prefix s b r)
prefix_up_to s b (Err e) is = tt
prefix_up_to s b (Ok n) is =
    let front = prefix_size s.length in
    let size = body_size s.coding n in
    let most = front + body_size s.coding s.max in
    let le : front + size ≤ most = omega (arith, size_grows s.coding n s.max (count_by (count_of s.length s.max (take front b)) s.max n is)) in
    more_up_to (ltb (length b) (front + size)) most (length b) (front + size) (at_body (front + size) (body_of s n (take size (drop front b)))) refl le (body_up_to most (length b) (front + size) (body_of s n (take size (drop front b))) le)

pub part_up_to : (s : FieldSpec) (b : List ℕ) → IsUpTo (prefix_size s.length + body_size s.coding s.max) (length b) (part_at s b)
part_up_to s b =
    let front = prefix_size s.length in
    more_up_to (ltb (length b) front) (front + body_size s.coding s.max) (length b) front (at_prefix s b (prefix_of s (take front b))) refl (omega arith) (prefix_up_to s b (prefix_of s (take front b)) refl)

-- ---- which faults

over_fault : (t : Bool) (n : ℕ) (e : FieldFault) → cond t (Err LengthOver) (Ok n) ≡ Err e → IsLengthFault e
over_fault true n e is = let same : LengthOver ≡ e = cc in subst IsLengthFault same tt
over_fault false n e is = absurd cc

digits_fault : (t : Bool) (n : ℕ) (e : FieldFault) → or_bad_length (cond t (Some n) None) ≡ Err e → IsLengthFault e
digits_fault true n e is = absurd cc
digits_fault false n e is = let same : BadLengthDigits ≡ e = cc in subst IsLengthFault same tt

number_fault : (p : List ℕ) (e : FieldFault) → number_of p ≡ Err e → IsLengthFault e
number_fault [] e is = let same : BadLengthDigits ≡ e = cc in subst IsLengthFault same tt
number_fault (h ∷ []) e is = let same : BadLengthDigits ≡ e = cc in subst IsLengthFault same tt
number_fault (h ∷ t ∷ []) e is = let same : BadLengthDigits ≡ e = cc in subst IsLengthFault same tt
number_fault (h ∷ t ∷ o ∷ []) e is = let same : BadLengthDigits ≡ e = cc in subst IsLengthFault same tt
number_fault (k ∷ h ∷ t ∷ o ∷ []) e is = digits_fault (is_digit k && is_digit h && is_digit t && is_digit o) (1000 * (k - 48) + 100 * (h - 48) + 10 * (t - 48) + (o - 48)) e is
number_fault (k ∷ h ∷ t ∷ o ∷ x ∷ rest) e is = let same : BadLengthDigits ≡ e = cc in subst IsLengthFault same tt

zero_fault : (t : Bool) (p : List ℕ) (e : FieldFault) → cond t (number_of p) (Err BadLengthDigits) ≡ Err e → IsLengthFault e
zero_fault true p e is = number_fault p e is
zero_fault false p e is = let same : BadLengthDigits ≡ e = cc in subst IsLengthFault same tt

count_fault : (k : Length) (max : ℕ) (p : List ℕ) (e : FieldFault) → count_of k max p ≡ Err e → IsLengthFault e
count_fault lengths.Fixed max p e is = absurd cc
count_fault (lengths.LL digits.Ascii) max p e is = number_fault (48 ∷ 48 ∷ p) e is
count_fault (lengths.LL digits.Bcd) max p e is = number_fault (48 ∷ 48 ∷ characters p) e is
count_fault (lengths.LLL digits.Ascii) max p e is = number_fault (48 ∷ p) e is
count_fault (lengths.LLLL digits.Ascii) max p e is = number_fault p e is
count_fault (lengths.LLLL digits.Bcd) max p e is = number_fault (characters p) e is
count_fault (lengths.LLL digits.Bcd) max [] e is = let same : BadLengthDigits ≡ e = cc in subst IsLengthFault same tt
count_fault (lengths.LLL digits.Bcd) max (x ∷ p) e is = zero_fault (eqb (48 + x / 16) 48) (characters (x ∷ p)) e is

prefix_fault : (max : ℕ) (r : Result ℕ FieldFault) (e : FieldFault) → ((f : FieldFault) → r ≡ Err f → IsLengthFault f) → (r >>= up_to_max max) ≡ Err e → IsLengthFault e
prefix_fault max (Ok n) e of_count is = over_fault (ltb max n) n e is
prefix_fault max (Err f) e of_count is = of_count e is

pub length_fault : (s : FieldSpec) (p : List ℕ) (e : FieldFault) → prefix_of s p ≡ Err e → IsLengthFault e
length_fault s p e is = prefix_fault s.max (count_of s.length s.max p) e (count_fault s.length s.max p) is

class_fault : (t : Bool) (v : List ℕ) (e : FieldFault) → cond t (Ok v) (Err NotInClass) ≡ Err e → IsBodyFault e
class_fault true v e is = absurd cc
class_fault false v e is = let same : NotInClass ≡ e = cc in subst IsBodyFault same tt

value_fault : (s : FieldSpec) (r : Result (List ℕ) FieldFault) (e : FieldFault) → ((f : FieldFault) → r ≡ Err f → IsBodyFault f) → (r >>= value_of s) ≡ Err e → IsBodyFault e
value_fault s (Ok w) e of_text is = class_fault (is_in_class s.class (without_padding s.pad w)) (without_padding s.pad w) e is
value_fault s (Err f) e of_text is = of_text e is

filler_by : (t : Bool) (w : List ℕ) (e : FieldFault) → cond t (Ok w) (Err BadFiller) ≡ Err e → IsBodyFault e
filler_by true w e is = absurd cc
filler_by false w e is = let same : BadFiller ≡ e = cc in subst IsBodyFault same tt

filler_fault : (w : List ℕ) (e : FieldFault) → behind_filler w ≡ Err e → IsBodyFault e
filler_fault [] e is = let same : BadFiller ≡ e = cc in subst IsBodyFault same tt
filler_fault (f ∷ w) e is = filler_by (eqb f 48 || eqb f 63) w e is

packed_fault : (t : Bool) (w : List ℕ) (e : FieldFault) → cond t (behind_filler w) (Ok w) ≡ Err e → IsBodyFault e
packed_fault true w e is = filler_fault w e is
packed_fault false w e is = absurd cc

hex_fault : (r : Result (List ℕ) FromHexError) (e : FieldFault) → or_bad_hex r ≡ Err e → IsBodyFault e
hex_fault (Ok w) e is = absurd cc
hex_fault (Err f) e is = let same : BadHex ≡ e = cc in subst IsBodyFault same tt

text_fault : (c : Coding) (n : ℕ) (b : List ℕ) (e : FieldFault) → text_of c n b ≡ Err e → IsBodyFault e
text_fault codings.Ascii n b e is = absurd cc
text_fault codings.Raw n b e is = absurd cc
text_fault codings.Bcd n b e is = packed_fault (eqb (n % 2) 1) (characters b) e is
text_fault codings.HexText n b e is = hex_fault (decode_of b) e is

pub body_fault : (s : FieldSpec) (n : ℕ) (b : List ℕ) (e : FieldFault) → body_of s n b ≡ Err e → IsBodyFault e
body_fault s n b e is = value_fault s (text_of s.coding n b) e (text_fault s.coding n b) is
