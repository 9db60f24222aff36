-- Likely mistakes behind bytes that aren't the message that their table wants.
use Rattle.std.specs.Prelude.{ℕ, ◌/◌, ◌==◌, ◌&&◌, ◌||◌, not, Bool, true, false, List, [], ◌∷◌, length, take, drop, filter, Option, Some, None, Result, Ok, Err, is_ok}
use Rattle.hex.specs.Hex.{decode_of}
use Rattle.hex.specs.declared.error.FromHexError.{FromHexError}
use Rattle.iso_parts.specs.Digits.{four_digits_in}
use Rattle.iso_parts.specs.Mti.{mti_size}
use Rattle.iso_parts.specs.declared.digits.Digits.{Digits}
use Rattle.iso_parts.specs.declared.digits.Digits.TheVariants as digits
use Rattle.iso_table.specs.Layout.{Layout}
use Rattle.iso_wire.specs.Framing.{FrameReading, got, more, bad, frame_at}
use Rattle.iso_wire.specs.Contents.{Contents}
use Rattle.iso_wire.specs.Reading.{message_at}
use Rattle.iso_wire.specs.declared.fault.UnpackFault.{UnpackFault}
use Rattle.iso_wire.specs.declared.header.Header.{Header}
use Rattle.iso_wire.specs.declared.header.Header.TheVariants as headers
use Rattle.iso_explain.specs.declared.hinting.Hint.{Hint}
use Rattle.iso_explain.specs.declared.hinting.Hint.TheVariants as hints

-- ---- what bytes are

-- the bytes begin with a message
abbrev pub reads : Layout → List ℕ → Bool
reads t b = is_ok (message_at t b)

-- a message takes so many bytes
abbrev pub takes_all : Result (Contents × ℕ) UnpackFault → ℕ → Bool
takes_all (Ok read) size = read.1 == size
takes_all (Err e) size = false

-- the bytes are one message, and no byte more
abbrev pub fills : Layout → List ℕ → Bool
fills t b = takes_all (message_at t b) (length b)

-- a frame takes so many bytes, or its body is a message
abbrev pub counts_what_follows : Layout → FrameReading → ℕ → Bool
counts_what_follows t (got body used) size = used == size || fills t body
counts_what_follows t more size = false
counts_what_follows t bad size = false

-- the bytes are one frame: the header counts exactly the rest; or they begin with the frame of a message
abbrev pub is_framed : Layout → Header → List ℕ → Bool
is_framed t h b = counts_what_follows t (frame_at h b) (length b)

-- the bytes that hexadecimal digits stand for begin with a message
abbrev pub reads_decoded : Layout → Result (List ℕ) FromHexError → Bool
reads_decoded t (Ok b) = reads t b
reads_decoded t (Err e) = false

-- blanks and the ends of lines
abbrev pub is_blank : ℕ → Bool
is_blank b = b == 32 || b == 9 || b == 10 || b == 13

-- the bytes are hexadecimal digits and blanks, and what they stand for begins with a message
abbrev pub is_hex_text : Layout → List ℕ → Bool
is_hex_text t b = reads_decoded t (decode_of (filter (λ x. not (is_blank x)) b))

-- the number of a message type is of a version
abbrev pub is_number_of : ℕ → Option ℕ → Bool
is_number_of version None = false
is_number_of version (Some n) = n / 1000 == version

-- the bytes begin with a message type of a version, in these digits
abbrev pub has_type : Digits → ℕ → List ℕ → Bool
has_type d version b = is_number_of version (four_digits_in d (take (mti_size d) b))

-- two digits to a byte
abbrev pub is_bcd : Digits → Bool
is_bcd digits.Bcd = true
is_bcd digits.Ascii = false

-- the first byte is that of a TPDU
abbrev pub begins_tpdu : List ℕ → Bool
begins_tpdu [] = false
begins_tpdu (b ∷ bs) = b == 96

-- ---- when each mistake is likely

-- the bytes look as if they were what the hint says
abbrev pub is_likely : Layout → List ℕ → Hint → Bool
is_likely t b (hints.Framed h) = is_framed t h b
is_likely t b hints.Behind2 =
    fills t (drop 2 b) && not (is_framed t headers.Binary2 b) && not (is_framed t headers.Bcd2 b)
is_likely t b hints.Behind4 = fills t (drop 4 b) && not (is_framed t headers.Ascii4 b)
is_likely t b hints.Tpdu = begins_tpdu b && reads t (drop 5 b)
is_likely t b hints.HexText = is_hex_text t b
is_likely t b hints.TextUnderBcd = is_bcd t.mti && has_type digits.Ascii t.version b
is_likely t b hints.BcdUnderText = not (is_bcd t.mti) && has_type digits.Bcd t.version b
is_likely t b (hints.Edition version) = not (version == t.version) && has_type t.mti version b

-- the mistakes that are looked for, in this order
abbrev pub all_hints : List Hint
all_hints =
    hints.Framed headers.Binary2 ∷ hints.Framed headers.Ascii4 ∷ hints.Framed headers.Bcd2
    ∷ hints.Behind2 ∷ hints.Behind4 ∷ hints.Tpdu ∷ hints.HexText
    ∷ hints.TextUnderBcd ∷ hints.BcdUnderText ∷ hints.Edition 0 ∷ hints.Edition 1 ∷ hints.Edition 2
    ∷ []

-- the likely ones of these
abbrev pub likely_of : Layout → List ℕ → List Hint → List Hint
likely_of t b of = filter (is_likely t b) of

-- the likely ones
abbrev pub likely : Layout → List ℕ → List Hint
likely t b = likely_of t b all_hints
