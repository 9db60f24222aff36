-- Digits in any spacing stand for what they decode to without it.
use Rattle.std.specs.Prelude.{◌≡◌, ℕ, not, false, List, filter, Ok}
use Rattle.std.specs.Result.{result_ok}
use Rattle.hex.specs.Hex.{IsBytes, decode_of, encode_lower, encode_upper}
use Rattle.iso_input.specs.Digits.{is_spacing}
use Rattle.iso_input.specs.Dump.{is_dump, hex_bytes}

-- the text without what only stands between digits
abbrev pub tight : List ℕ → List ℕ
tight text = filter (λ b. not (is_spacing b)) text

-- a text that is no dump stands for the bytes that it decodes to without its spacing, and for none where it doesn't decode
abbrev pub IsDecoded : Type 0
IsDecoded = (text : List ℕ) → is_dump text ≡ false
    → result_ok (hex_bytes text) ≡ result_ok (decode_of (tight text))

-- the digits of bytes, in either case and without spacing, stand for the bytes
abbrev pub ComesBack : Type 0
ComesBack = (bytes : List ℕ) → IsBytes bytes
    → (hex_bytes (encode_lower bytes) ≡ Ok bytes) × (hex_bytes (encode_upper bytes) ≡ Ok bytes)
