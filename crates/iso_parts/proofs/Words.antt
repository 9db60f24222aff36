-- One bitmap: the word that is read is that of the bytes, and bytes of a set tell its word.
use Rattle.std.proofs.Common.{◌≡◌, ℕ, ◌-◌, ◌^◌, ◌<◌, Bool, eqb, List, length, get_or, Some, Result, Ok, Err, refl, ap, subst, arith}
use Rattle.std.specs.Int.{bit_at, w64, from_be_bytes}
use Rattle.hex.specs.Hex.{decode_of}
use Rattle.hex.specs.declared.error.FromHexError.{FromHexError}
use Rattle.hex.proofs.HexLemmas.{decode_of-ok}
use Rattle.iso_parts.specs.declared.bitmap.BitmapCoding.{BitmapCoding}
use Rattle.iso_parts.specs.declared.bitmap.BitmapCoding.TheVariants.{Raw, Hex}
use Rattle.iso_parts.specs.Bitmap.{Bits, BitsIn, map_size}
use Rattle.iso_parts.specs.MapLaws.{IsWordOf}
use Rattle.iso_parts.specs.BitmapReading.{word_of, word_in}

-- eight bytes are a word
pub word_fits : (b : List ℕ) → ((i : ℕ) → get_or b i 0 < 256) → from_be_bytes w64 b < 2 ^ 64
word_fits b fits = omega (arith, fits 0, fits 1, fits 2, fits 3, fits 4, fits 5, fits 6, fits 7)

-- ---- bytes of a set tell its word

pub word_again : (c : BitmapCoding) (set : ℕ → Bool) (b : List ℕ) → ((i : ℕ) → get_or b i 0 < 256) → BitsIn c set b → IsWordOf c set b
word_again Raw set b fits bits = record { word = from_be_bytes w64 b; read = refl; small = word_fits b fits; size = bits.eight; bits = bits.bit }
word_again Hex set b fits bits =
    let raw : List ℕ = bits.0 in
    let known = decode_of-ok b raw bits.1 in
    record {
      word = from_be_bytes w64 raw;
      read = ap word_of bits.1;
      small = word_fits raw known.3;
      size = omega (arith, known.2, bits.2.eight);
      bits = bits.2.bit;
    }

-- ---- a word that is read is that of the bytes

pub record WordTaken (c : BitmapCoding) (b : List ℕ) (word : ℕ) : Type 0 where
  pub small : word < 2 ^ 64
  pub bits : BitsIn c (λ k. eqb (bit_at word (64 - k)) 1) b

raw_taken : (b : List ℕ) (w : ℕ) → length b ≡ 8 → from_be_bytes w64 b ≡ w → Bits (λ k. eqb (bit_at w (64 - k)) 1) b
raw_taken b w eight e = record { eight = eight; bit = λ k low high. ap (λ (n : ℕ). eqb (bit_at n (64 - k)) 1) e }

some_is : (x y : ℕ) → Some x ≡ Some y → x ≡ y
some_is x y e = cc

hex_taken : (b : List ℕ) (w : ℕ) (r : Result (List ℕ) FromHexError) → decode_of b ≡ r → length b ≡ 16 → word_of r ≡ Some w → WordTaken Hex b w
hex_taken b w (Err e) is size h = absurd cc
hex_taken b w (Ok raw) is size h =
    let known = decode_of-ok b raw is in
    let e : from_be_bytes w64 raw ≡ w = some_is _ _ h in
    record {
      small = subst (λ (n : ℕ). n < 2 ^ 64) e (word_fits raw known.3);
      bits = (raw, is, raw_taken raw w (omega (arith, known.2)) e);
    }

pub word_taken : (c : BitmapCoding) (b : List ℕ) (w : ℕ) → ((i : ℕ) → get_or b i 0 < 256) → length b ≡ map_size c → word_in c b ≡ Some w → WordTaken c b w
word_taken Raw b w fits size h =
    let e : from_be_bytes w64 b ≡ w = some_is _ _ h in
    record { small = subst (λ (n : ℕ). n < 2 ^ 64) e (word_fits b fits); bits = raw_taken b w size e }
word_taken Hex b w fits size h = hex_taken b w (decode_of b) refl size h
