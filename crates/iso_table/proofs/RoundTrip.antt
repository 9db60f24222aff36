-- What a table's document stands for is the table.
use Rattle.std.proofs.Common.{◌≡◌, ℕ, zero, suc, ◌+◌, ◌*◌, ◌<◌, ◌≤◌, Bool, true, false, nat_le, List, [], ◌∷◌, length, max, Option, Some, None, Ok, option_map, refl, ap, ◌∙◌, arith}
use Rattle.std.specs.Prelude.{◌&&◌, codes}
use Rattle.std.proofs.Math.Nat.{max-le}
use Rattle.std.proofs.lemmas.Bool.Decides.{nat_tests}
use Rattle.hex.specs.Hex.{encode_upper, upper_digits, IsBytes}
use Rattle.hex.proofs.HexLemmas.{decode_of-encode_upper, length-encode_with, decode_sized-twice}
use Rattle.serde_json.specs.Data.{Data, number, unsigned, string, object, member, depth, items_depth}
use Rattle.serde_json.specs.Written.{has_float, items_have_float}
use Rattle.iso_parts.specs.declared.class.CharClass.{CharClass}
use Rattle.iso_parts.specs.declared.class.CharClass.TheVariants.{N, A, AN, ANS, Z, ZD, XN, B}
use Rattle.iso_parts.specs.declared.encoding.Coding.{Coding}
use Rattle.iso_parts.specs.declared.encoding.Coding.TheVariants as codings
use Rattle.iso_parts.specs.declared.digits.Digits.{Digits}
use Rattle.iso_parts.specs.declared.digits.Digits.TheVariants as digits
use Rattle.iso_parts.specs.declared.prefix.Length.{Length}
use Rattle.iso_parts.specs.declared.prefix.Length.TheVariants as lengths
use Rattle.iso_parts.specs.declared.padding.Pad.{Pad}
use Rattle.iso_parts.specs.declared.padding.Pad.TheVariants as pads
use Rattle.iso_parts.specs.declared.spec.FieldSpec.{FieldSpec}
use Rattle.iso_parts.specs.declared.bitmap.BitmapCoding.{BitmapCoding}
use Rattle.iso_parts.specs.declared.bitmap.BitmapCoding.TheVariants as bitmaps
use Rattle.iso_parts.specs.Spec.{IsGood, limit, is_pad_byte, is_good_pad, is_padded}
use Rattle.iso_table.specs.declared.draft.Row.{Row}
use Rattle.iso_table.specs.declared.reading.Profile.TheVariants.{Two}
use Rattle.iso_table.specs.Layout.{Layout, IsAccepted, row_at, is_version}
use Rattle.iso_table.specs.Accepted.{DraftContents, Holds}
use Rattle.iso_table.specs.Rows.{rows_from, draft_of}
use Rattle.iso_table.specs.Document.{digits_at, class_in, coding_in, length_in, pad_in, spec_in, document_row, rows_in, bitmap_in, list_in, with_rows, members_in, or_shape, draft_in, table_in, prefix_named, prefix_members, row_object, row_data, rows_data, document}
use Rattle.iso_table.specs.Members.{◌>>=◌, up_to, whole_at}
use Rattle.iso_table.specs.Names.{class_name, class_named, coding_name, coding_named, digits_name, digits_named, bitmap_name, bitmap_named, length_name, pad_name, pad_named, byte_by, byte_of}
use Rattle.iso_table.proofs.DraftLemmas.{draft_accepted, draft_held}
use Rattle.iso_table.proofs.DocumentLemmas.{table_found}

-- ---- names

class_again : (c : CharClass) → class_named (class_name c) ≡ Some c
class_again N = refl
class_again A = refl
class_again AN = refl
class_again ANS = refl
class_again Z = refl
class_again ZD = refl
class_again XN = refl
class_again B = refl

coding_again : (c : Coding) → coding_named (coding_name c) ≡ Some c
coding_again codings.Ascii = refl
coding_again codings.Bcd = refl
coding_again codings.Raw = refl
coding_again codings.HexText = refl

digits_again : (d : Digits) → digits_named (digits_name d) ≡ Some d
digits_again digits.Ascii = refl
digits_again digits.Bcd = refl

bitmap_again : (b : BitmapCoding) → bitmap_named (bitmap_name b) ≡ Some b
bitmap_again bitmaps.Raw = refl
bitmap_again bitmaps.Hex = refl

-- ---- pads

byte_again : (p : ℕ) → IsBytes (p ∷ []) → byte_of (encode_upper (p ∷ [])) ≡ Some p
byte_again p h =
    let long : length (encode_upper (p ∷ [])) ≡ 2 * 1 = length-encode_with upper_digits (p ∷ []) in
    ap byte_by (decode_sized-twice (encode_upper (p ∷ [])) 1 long ∙ decode_of-encode_upper (p ∷ []) h)

low_pad : (c : Coding) (p : ℕ) → is_pad_byte c p ≡ true → p < 256
low_pad codings.Ascii p h = grind (arith, nat_tests)
low_pad codings.Bcd p h = grind (arith, nat_tests)
low_pad codings.Raw p h = absurd (cc)
low_pad codings.HexText p h = absurd (cc)

second : (a b : Bool) → (a && b) ≡ true → b ≡ true
second true b h = h
second false b h = absurd (cc)

one_byte : (p : ℕ) → p < 256 → IsBytes (p ∷ [])
one_byte p h zero = h
one_byte p h (suc i) = omega arith

pad_again : (s : FieldSpec) (p : Pad) → is_good_pad s p ≡ true → pad_named (pad_name p) ≡ Some p
pad_again s pads.None h = refl
pad_again s (pads.Left p) h = ap (option_map pads.Left) (byte_again p (one_byte p (low_pad s.coding p (second (is_padded s.class s.length) (is_pad_byte s.coding p) h))))
pad_again s (pads.Right p) h = ap (option_map pads.Right) (byte_again p (one_byte p (low_pad s.coding p (second (is_padded s.class s.length) (is_pad_byte s.coding p) h))))

-- ---- rows

up_to_low : (most n : ℕ) → n ≤ most → up_to most n ≡ Some n
up_to_low most n h = grind (arith, nat_tests)

low_max : (l : Length) (n : ℕ) → (nat_le 1 n && nat_le n (limit l)) ≡ true → n ≤ 65535
low_max lengths.Fixed n h = grind (arith, nat_tests)
low_max (lengths.LL d) n h = grind (arith, nat_tests)
low_max (lengths.LLL d) n h = grind (arith, nat_tests)
low_max (lengths.LLLL d) n h = grind (arith, nat_tests)

-- the object of a row, of its parts
object_of : ℕ → List ℕ → List ℕ → Length → ℕ → List ℕ → Data
object_of n class coding l max pad =
    object (member (codes "class") (string class)
    (member (codes "coding") (string coding)
    (member (codes "length") (string (length_name l))
    (member (codes "max") (number (unsigned max))
    (member (codes "number") (number (unsigned n))
    (member (codes "pad") (string pad) (prefix_members (prefix_named l))))))))

length_again : (n : ℕ) (class coding : List ℕ) (l : Length) (max : ℕ) (pad : List ℕ) → length_in Two (object_of n class coding l max pad) ≡ Some l
unfolding object_of
length_again n class coding lengths.Fixed max pad = refl
length_again n class coding (lengths.LL d) max pad = ap (option_map lengths.LL) (digits_again d)
length_again n class coding (lengths.LLL d) max pad = ap (option_map lengths.LLL) (digits_again d)
length_again n class coding (lengths.LLLL d) max pad = ap (option_map lengths.LLLL) (digits_again d)

spec_by : (d : Data) (s : FieldSpec) → class_in d ≡ Some s.class → coding_in d ≡ Some s.coding → length_in Two d ≡ Some s.length → whole_at (codes "max") 65535 d ≡ Some s.max → pad_in d ≡ Some s.pad → spec_in Two d ≡ Some s
spec_by d s a b c e f =
    ap (λ (x : Option CharClass). x >>= (λ class. coding_in d >>= (λ coding. length_in Two d >>= (λ length. whole_at (codes "max") 65535 d >>= (λ max. pad_in d >>= (λ pad. Some (record { class = class; coding = coding; length = length; max = max; pad = pad }))))))) a
    ∙ ap (λ (x : Option Coding). x >>= (λ coding. length_in Two d >>= (λ length. whole_at (codes "max") 65535 d >>= (λ max. pad_in d >>= (λ pad. Some (record { class = s.class; coding = coding; length = length; max = max; pad = pad })))))) b
    ∙ ap (λ (x : Option Length). x >>= (λ length. whole_at (codes "max") 65535 d >>= (λ max. pad_in d >>= (λ pad. Some (record { class = s.class; coding = s.coding; length = length; max = max; pad = pad }))))) c
    ∙ ap (λ (x : Option ℕ). x >>= (λ max. pad_in d >>= (λ pad. Some (record { class = s.class; coding = s.coding; length = s.length; max = max; pad = pad })))) e
    ∙ ap (λ (x : Option Pad). x >>= (λ pad. Some (record { class = s.class; coding = s.coding; length = s.length; max = s.max; pad = pad }))) f

spec_again : (n : ℕ) (s : FieldSpec) → IsGood s → spec_in Two (row_data n s) ≡ Some s
unfolding object_of
spec_again n s g = spec_by (row_data n s) s
    (class_again s.class)
    (coding_again s.coding)
    (length_again n (class_name s.class) (coding_name s.coding) s.length s.max (pad_name s.pad))
    (up_to_low 65535 s.max (low_max s.length s.max g.max))
    (pad_again s s.pad g.pad)

row_again : (n : ℕ) (s : FieldSpec) → n ≤ 65535 → IsGood s → document_row Two (row_data n s) ≡ Some (record { number = n; spec = s })
row_again n s h g =
    ap (λ (x : Option ℕ). x >>= (λ m. spec_in Two (row_data n s) >>= (λ spec. Some (record { number = m; spec = spec })))) (up_to_low 65535 n h)
    ∙ ap (λ (x : Option FieldSpec). x >>= (λ spec. Some (record { number = n; spec = spec }))) (spec_again n s g)

rows_again : (n : ℕ) (rs : List (Option FieldSpec)) → n + length rs ≤ 65535 → ((k : ℕ) (s : FieldSpec) → row_at rs k ≡ Some s → IsGood s) → rows_in Two (rows_data n rs) ≡ Some (rows_from n rs)
rows_again n [] h g = refl
rows_again n (None ∷ rs) h g = rows_again (n + 1) rs (omega arith) (λ k s e. g (suc k) s e)
rows_again n (Some s ∷ rs) h g =
    ap (λ (x : Option Row). x >>= (λ row. option_map (λ rows. row ∷ rows) (rows_in Two (rows_data (n + 1) rs)))) (row_again n s (omega arith) (g zero s refl))
    ∙ ap (option_map (λ rows. record { number = n; spec = s } ∷ rows)) (rows_again (n + 1) rs (omega arith) (λ k t e. g (suc k) t e))

-- ---- the whole document

low_version : (v : ℕ) → is_version v ≡ true → v ≤ 255
low_version v h = grind (arith, nat_tests)

draft_by : (d : Data) (c : DraftContents) → draft_in d ≡ or_shape (members_in Two d) → whole_at (codes "version") 255 d ≡ Some c.version → digits_at (codes "mti") d ≡ Some c.mti → bitmap_in d ≡ Some c.bitmap → list_in Two d ≡ Some c.rows → draft_in d ≡ Ok c
draft_by d c whole a b e f =
    whole
    ∙ ap or_shape (
    ap (λ (x : Option ℕ). x >>= (λ version. digits_at (codes "mti") d >>= (λ mti. bitmap_in d >>= (λ bitmap. with_rows version mti bitmap (list_in Two d))))) a
    ∙ ap (λ (x : Option Digits). x >>= (λ mti. bitmap_in d >>= (λ bitmap. with_rows c.version mti bitmap (list_in Two d)))) b
    ∙ ap (λ (x : Option BitmapCoding). x >>= (λ bitmap. with_rows c.version c.mti bitmap (list_in Two d))) e
    ∙ ap (with_rows c.version c.mti c.bitmap) f)

draft_again : (t : Layout) → IsAccepted t → draft_in (document t) ≡ Ok (draft_of t)
draft_again t a = draft_by (document t) (draft_of t) refl
    (up_to_low 255 t.version (low_version t.version a.version))
    (digits_again t.mti)
    (bitmap_again t.bitmap)
    (rows_again 0 t.rows (let size = a.places in omega arith) a.good)

-- ---- the document's rows are accepted

pub found_again : (t : Layout) → IsAccepted t → (c : DraftContents) × (table_in (document t) ≡ Ok c) × Holds t c
found_again t a = (draft_of t, table_found (document t) (draft_of t) (draft_again t a) (draft_accepted t a), draft_held t)

-- ---- the document nests little, and has no float

row_depth : (n : ℕ) (s : FieldSpec) (pad : List ℕ) (p : Option Digits) → depth (row_object n s pad p) ≡ 1
row_depth n s pad None = refl
row_depth n s pad (Some d) = refl

rows_depth : (n : ℕ) (rs : List (Option FieldSpec)) → items_depth (rows_data n rs) ≤ 1
rows_depth n [] = omega arith
rows_depth n (None ∷ rs) = rows_depth (n + 1) rs
rows_depth n (Some s ∷ rs) = let here = row_depth n s (pad_name s.pad) (prefix_named s.length) in max-le (omega arith) (rows_depth (n + 1) rs)

pub document_depth : (t : Layout) → depth (document t) ≤ 127
document_depth t = let rows = rows_depth 0 t.rows in omega arith

row_float : (n : ℕ) (s : FieldSpec) (pad : List ℕ) (p : Option Digits) → has_float (row_object n s pad p) ≡ false
row_float n s pad None = refl
row_float n s pad (Some d) = refl

rows_float : (n : ℕ) (rs : List (Option FieldSpec)) → items_have_float (rows_data n rs) ≡ false
rows_float n [] = refl
rows_float n (None ∷ rs) = rows_float (n + 1) rs
rows_float n (Some s ∷ rs) = rw (row_float n s (pad_name s.pad) (prefix_named s.length)) (rows_float (n + 1) rs)

pub document_float : (t : Layout) → has_float (document t) ≡ false
document_float t = rw (rows_float 0 t.rows) refl
