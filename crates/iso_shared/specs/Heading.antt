-- The first record of a batch, which tells its place and its writer. The columns:
--
--   0  28  the words, and the version of the records in 4 digits
--  28  10  the place, the first of which is 1
--  38  32  who wrote it, in hex digits
--  70  57  blanks
-- 127   1  the end of the line
use Rattle.std.specs.Prelude.{◌≡◌, ℕ, ◌^◌, ◌==◌, ◌&&◌, nat_lt, Bool, true}
use Rattle.std.specs.Prelude.{List, ◌++◌, length, codes, bytes_eq}
use Rattle.std.specs.Prelude.{Option, Some, None, Result, Ok, Err, if◌then◌else◌}
use Rattle.std.specs.List.{list_all}
use Rattle.hex.specs.declared.error.FromHexError.{FromHexError}
use Rattle.hex.specs.Hex.{encode_lower, decode_sized}
use Rattle.iso_wire.specs.Decimal.{decimal, number_in}
use Rattle.iso_log.specs.Slots.{is_whole}
use Rattle.iso_record.specs.Row.{blanks, part}
use Rattle.iso_shared.specs.declared.heading.Writer.{Writer}
use Rattle.iso_shared.specs.declared.heading.Heading.{Heading as Head}

-- the words that a batch begins with, and the version of its records
unfoldable pub magic : List ℕ
magic = codes "ISO 8583 ISSUER BATCH   0001"

-- the record of a heading
unfoldable pub heading_bytes : Head → List ℕ
heading_bytes h =
    magic ++ (decimal 10 h.place ++ (encode_lower h.writer.bits ++ (blanks 57 ++ codes "\n")))

-- 16 bytes
abbrev pub is_writer : Writer → Bool
is_writer w = length w.bits == 16 && list_all (λ b. nat_lt b 256) w.bits

-- a heading that can be written
abbrev pub is_heading : Head → Bool
is_heading h = nat_lt h.place (10 ^ 10) && is_writer h.writer

-- the writer of 32 hex digits
abbrev pub writer_by : Result (List ℕ) FromHexError → Option Writer
writer_by (Ok bits) = Some (record { bits = bits })
writer_by (Err e) = None

-- only the very bytes that are written
abbrev pub heading_by : List ℕ → Option ℕ → Option Writer → Option Head
heading_by text (Some place) (Some writer) =
    let h : Head = record { place = place; writer = writer } in
    if bytes_eq (heading_bytes h) text then Some h else None
heading_by text _ _ = None

-- the heading that 128 bytes are
unfoldable pub heading_in : List ℕ → Option Head
heading_in text =
    heading_by text (number_in 10 10 (part text 28 10))
    (writer_by (decode_sized (part text 38 32) 16))

-- each is a record,
abbrev pub HeadingsAreWhole : Type 0
HeadingsAreWhole = (h : Head) → is_writer h.writer ≡ true → is_whole (heading_bytes h) ≡ true

-- and comes back
abbrev pub HeadingsComeBack : Type 0
HeadingsComeBack = (h : Head) → is_heading h ≡ true → heading_in (heading_bytes h) ≡ Some h

-- nothing else is read as one
abbrev pub NoOtherHeading : Type 0
NoOtherHeading = (text : List ℕ) (h : Head) → heading_in text ≡ Some h → heading_bytes h ≡ text
