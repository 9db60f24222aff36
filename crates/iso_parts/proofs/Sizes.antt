-- How many bytes the part of a value and the bitmaps take at most, as they are written.
use Rattle.std.proofs.Common.{◌≡◌, ℕ, ◌+◌, ◌-◌, ◌*◌, ◌%◌, ◌≤◌, Bool, true, false, List, [], ◌∷◌, length, length-append, ap, arith, replicate}
use Rattle.std.specs.Prelude.{nat_le, ◌==◌, if◌then◌else◌}
use Rattle.std.proofs.lemmas.Bool.{leb-true}
use Rattle.std.proofs.lemmas.Bool.Decides.{nat_tests}
use Rattle.std.proofs.lemmas.List.{length-replicate, length-drop}
use Rattle.hex.specs.Hex.{upper_digits}
use Rattle.hex.proofs.HexLemmas.{length-encode_with}
use Rattle.iso_parts.specs.declared.bitmap.BitmapCoding.{BitmapCoding}
use Rattle.iso_parts.specs.declared.bitmap.BitmapCoding.TheVariants.{Raw, Hex}
use Rattle.iso_parts.specs.declared.encoding.Coding.{Coding}
use Rattle.iso_parts.specs.declared.encoding.Coding.TheVariants as codings
use Rattle.iso_parts.specs.declared.padding.Pad.{Pad}
use Rattle.iso_parts.specs.declared.padding.Pad.TheVariants as pads
use Rattle.iso_parts.specs.declared.digits.Digits.TheVariants as digits
use Rattle.iso_parts.specs.declared.prefix.Length.{Length}
use Rattle.iso_parts.specs.declared.prefix.Length.TheVariants as lengths
use Rattle.iso_parts.specs.declared.spec.FieldSpec.{FieldSpec}
use Rattle.iso_parts.specs.Bitmap.{Bitmaps, PlainBitmaps, in_coding}
use Rattle.iso_parts.specs.Part.{with_pads, with_padding, with_filler, prefix, pairs, plain, plain_part}
use Rattle.iso_parts.specs.Spec.{is_exact, Fits}

-- ---- a part

length-pairs : (w : List ℕ) → 2 * length (pairs w) ≤ length w
length-pairs [] = omega arith
length-pairs (h ∷ []) = omega arith
length-pairs (h ∷ l ∷ rest) = let shorter = length-pairs rest in omega arith

filled_by : (t : Bool) (w : List ℕ) → length (if t then 48 ∷ w else w) ≤ length w + 1
filled_by true w = omega arith
filled_by false w = omega arith

plain_most : (c : Coding) (w : List ℕ) → length (plain c w) ≤ 2 * length w
plain_most codings.Ascii w = omega arith
plain_most codings.Raw w = omega arith
plain_most codings.Bcd w =
    let filled : length (with_filler 48 w) ≤ length w + 1 = filled_by (length w % 2 == 1) w in
    let shorter = length-pairs (with_filler 48 w) in
    omega arith
plain_most codings.HexText w = omega (arith, length-encode_with upper_digits w)

prefix_most : (l : Length) (n : ℕ) → length (prefix l n) ≤ 4
prefix_most lengths.Fixed n = omega arith
prefix_most (lengths.LL digits.Ascii) n = omega arith
prefix_most (lengths.LL digits.Bcd) n = omega arith
prefix_most (lengths.LLL digits.Ascii) n = omega arith
prefix_most (lengths.LLL digits.Bcd) n = omega arith
prefix_most (lengths.LLLL digits.Ascii) n = omega arith
prefix_most (lengths.LLLL digits.Bcd) n = omega arith

-- at most four bytes for the length, and two for each character
pub plain_part_most : (s : FieldSpec) (v : List ℕ) → length (plain_part s v) ≤ 2 * length (with_padding s v) + 4
plain_part_most s v =
    let front = prefix_most s.length (length v) in
    let body = plain_most s.coding (with_padding s v) in
    omega (arith, length-append (prefix s.length (length v)) (plain s.coding (with_padding s v)))

most_by : (t : Bool) (n max : ℕ) → (if t then n == max else nat_le n max) ≡ true → n ≤ max
most_by true n max h = grind (arith, nat_tests)
most_by false n max h = leb-true n max h

with_pads_most : (p : Pad) (v : List ℕ) (max : ℕ) → length v ≤ max → length (with_pads p (max - length v) v) ≤ max
with_pads_most pads.None v max within = within
with_pads_most (pads.Left p) v max within = omega (arith, length-append (replicate (max - length v) p) v, length-replicate (max - length v) p)
with_pads_most (pads.Right p) v max within = omega (arith, length-append v (replicate (max - length v) p), length-replicate (max - length v) p)

-- a value that fits is filled up to the row's maximum at most
pub padded_most : (s : FieldSpec) (v : List ℕ) → Fits s v → length (with_padding s v) ≤ s.max
padded_most s v fits = with_pads_most s.pad v s.max (most_by (is_exact s.length s.pad) (length v) s.max fits.length)

-- ---- bitmaps

raw_most : (two : Bool) (set : ℕ → Bool) (raw : List ℕ) → Bitmaps Raw two set raw → length raw ≤ 16
raw_most true set raw maps = let back = maps.secondary.eight in omega (arith, length-drop 8 raw)
raw_most false set raw maps = let front = maps.primary.eight in omega arith

in_coding_most : (c : BitmapCoding) (raw : List ℕ) → length raw ≤ 16 → length (in_coding c raw) ≤ 32
in_coding_most Raw raw few = omega arith
in_coding_most Hex raw few = omega (arith, length-encode_with upper_digits raw)

pub plain_maps_most : (c : BitmapCoding) (set : ℕ → Bool) (b : List ℕ) → PlainBitmaps c set b → length b ≤ 32
plain_maps_most c set b plain =
    let few = in_coding_most c plain.raw (raw_most plain.two set plain.raw plain.maps) in
    let same = ap length plain.bytes in
    omega arith
