-- The bitmaps that are written are bitmaps of the set.
use Rattle.std.proofs.Common.{◌≡◌, ℕ, ◌/◌, ◌%◌, Bool, true, false, List, [], ◌∷◌, ◌++◌, length, take, drop, get_or, refl, sym, ap, ◌∙◌, arith}
use Rattle.std.proofs.lemmas.List.{take_at, drop_at, take-append-drop}
use Rattle.hex.specs.Hex.{decode_of, encode_with, encode_upper, upper_digits, IsBytes}
use Rattle.hex.proofs.HexLemmas.{decode_of-encode_upper, length-encode_with}
use Rattle.iso_parts.specs.declared.bitmap.BitmapCoding.{BitmapCoding}
use Rattle.iso_parts.specs.declared.bitmap.BitmapCoding.TheVariants.{Raw, Hex}
use Rattle.iso_parts.specs.Bitmap.{Bits, BitsIn, primary_bits, secondary_bits, Bitmaps, in_coding}
use Rattle.iso_parts.proofs.BitmapLaws.{bytes_take, bytes_drop}

encode_with-append : (t xs ys : List ℕ) → encode_with t (xs ++ ys) ≡ encode_with t xs ++ encode_with t ys
unfolding encode_with
encode_with-append t [] ys = refl
encode_with-append t (x ∷ xs) ys = ap (λ (l : List ℕ). get_or t (x / 16) 0 ∷ get_or t (x % 16) 0 ∷ l) (encode_with-append t xs ys)

hex_bits : (set : ℕ → Bool) (raw b : List ℕ) → IsBytes raw → Bits set raw → b ≡ encode_upper raw → BitsIn Hex set b
hex_bits set raw b fits bits is = (raw, ap decode_of is ∙ decode_of-encode_upper raw fits, bits)

-- two bitmaps, digit by digit
hex_split : (raw : List ℕ) → encode_upper raw ≡ encode_upper (take 8 raw) ++ encode_upper (drop 8 raw)
hex_split raw = ap encode_upper (sym (take-append-drop 8 raw)) ∙ encode_with-append upper_digits (take 8 raw) (drop 8 raw)

pub plain_maps : (c : BitmapCoding) (two : Bool) (set : ℕ → Bool) (raw : List ℕ) → IsBytes raw → Bitmaps Raw two set raw → Bitmaps c two set (in_coding c raw)
plain_maps Raw two set raw fits maps = maps
plain_maps Hex true set raw fits maps =
    let front : List ℕ = encode_upper (take 8 raw) in
    let back : List ℕ = encode_upper (drop 8 raw) in
    let size : length front ≡ 16 = omega (arith, length-encode_with upper_digits (take 8 raw), maps.primary.eight) in
    record {
      primary = hex_bits (primary_bits true set) (take 8 raw) (take 16 (encode_upper raw)) (bytes_take 8 raw fits) maps.primary (ap (take 16) (hex_split raw) ∙ take_at front back 16 size);
      secondary = hex_bits (secondary_bits set) (drop 8 raw) (drop 16 (encode_upper raw)) (bytes_drop 8 raw fits) maps.secondary (ap (drop 16) (hex_split raw) ∙ drop_at front back 16 size);
    }
plain_maps Hex false set raw fits maps = record {
  primary = hex_bits (primary_bits false set) raw (encode_upper raw) fits maps.primary refl;
  none = maps.none;
}
