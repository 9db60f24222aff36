use Rattle.std.proofs.Common.{◌≡◌, ◌<◌, ◌/◌, ◌%◌, ℕ, Bool, true, false, refl, ◌∙◌, arith, ◌++◌, ◌∷◌, []}
use Rattle.std.specs.Prelude.{◌&&◌, nat_le, nat_lt, slice_index, codes}
use Rattle.std.specs.Char.{encode_utf8}
use Rattle.std.specs.List.{list_all}
use Rattle.std.proofs.lemmas.Bool.Decides.{nat_tests}
use Rattle.std.proofs.lemmas.List.Folds.{list_all_at}
use Rattle.std.proofs.lemmas.Str.{encode_ascii}
use Rattle.std.proofs.Output.{has_written_of_eq}
use Rattle.hex.specs.Hex.{upper_digits, encode_with}
use Rattle.iso_wire.specs.Masking.{readable_byte}
use Rattle.iso_wire.proofs.masking.write_byte.Goals.{in_default-via-then-b-lt32, in_default-via-else-b-lt32+else-b-lt127}
use Rattle.iso_wire.proofs.masking.write_byte.Goals as goal

-- where each of the sixteen digits is ASCII, one of them is too
ascii_by : (t : Bool) (c : ℕ) → nat_lt c 128 ≡ t → (t ≡ false → list_all (λ k. nat_lt k 128) upper_digits ≡ false) → c < 128
ascii_by true c is other = grind (arith, nat_tests)
ascii_by false c is other = let both : true ≡ false = other refl in cc

-- a hexadecimal digit is one byte of text
digit_text : (d : ℕ) → d < 16 → encode_utf8 (slice_index upper_digits d) ≡ slice_index upper_digits d ∷ []
digit_text d below =
    let c : ℕ = slice_index upper_digits d in
    encode_ascii c (ascii_by (nat_lt c 128) c refl (λ bad. list_all_at (λ k. nat_lt k 128) upper_digits d 0 below bad))

-- the text of a byte that is no printable character
hex_text : (b high low : ℕ) → b < 256 → (nat_le 32 b && nat_le b 126) ≡ false → high ≡ slice_index upper_digits (b / 16) → low ≡ slice_index upper_digits (b % 16)
    → codes "\\x" ++ (encode_utf8 high ++ encode_utf8 low) ≡ readable_byte b
unfolding encode_with
hex_text b high low small other h l = rw (other, h, l, digit_text (b / 16) (omega arith), digit_text (b % 16) (omega arith)) refl

pub returns-in_default : goal.returns-in_default
returns-in_default g c =
    let b : ℕ = c.args.b in
    let other : (nat_le 32 b && nat_le b 126) ≡ false =
    elim c.in_default.branch [
      | in_default-via-then-b-lt32 w ↦ grind (arith, nat_tests)
      | in_default-via-else-b-lt32+else-b-lt127 w ↦ grind (arith, nat_tests)
    ] in
    λ plain ok.
    has_written_of_eq _ _ _ _ _
    (hex_text b c.from-high.result c.from-low.result c.ranges.b.fits other (c.from-high.ensures ∙ c.hex_digit.ensures) (c.from-low.ensures ∙ c.hex_digit-in_default.ensures))
    (c.write-in_default.ensures.writes plain ok)
