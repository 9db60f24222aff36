-- The first record of a diary. The columns: 0 the words, 24 the version of the records in 4 digits, 28 that of the rules in
-- 5, 33 the acquirer's number in 11, 44 blanks, 127 the end of the line.
use Rattle.std.specs.Prelude.{◌≡◌, ◌<◌, ◌^◌, ◌==◌, ℕ, true, not, List, [], ◌∷◌, ◌++◌, codes, bytes_eq, if◌then◌else◌, Option, Some, None}
use Rattle.iso_wire.specs.Decimal.{decimal}
use Rattle.iso_log.specs.Slots.{is_whole}
use Rattle.iso_record.specs.Row.{blanks, part}
use Rattle.iso_diary.specs.declared.heading.Heading.{Heading as Head}
use Rattle.iso_diary.specs.declared.heading.HeadingFault.{HeadingFault}
use Rattle.iso_diary.specs.declared.heading.HeadingFault.TheVariants.{Format, Rules, Acquirer}

-- the words that a diary begins with
unfoldable pub magic : List ℕ
magic = codes "ISO 8583 ACQUIRER DIARY "

-- the record of a heading
unfoldable pub heading_bytes : Head → List ℕ
heading_bytes h = magic
    ++ (decimal 4 1 ++ (decimal 5 h.rules ++ (decimal 11 h.acquirer ++ (blanks 83 ++ codes "\n"))))

-- what a first record tells otherwise than the one that is wanted, looked at from the front
abbrev pub heading_fault : List ℕ → List ℕ → Option HeadingFault
heading_fault text wanted =
    if bytes_eq text wanted then None
    else if not (bytes_eq (part text 0 28) (part wanted 0 28)) then Some Format
    else if not (bytes_eq (part text 28 5) (part wanted 28 5)) then Some Rules
    else Some Acquirer

-- what a heading can be: an acquirer's number has at most 11 digits
pub record IsHeading (h : Head) : Type 0 where
  pub rules : h.rules < 2 ^ 16
  pub acquirer : h.acquirer < 10 ^ 11

-- each is a record,
abbrev pub HeadingsAreWhole : Type 0
HeadingsAreWhole = (h : Head) → is_whole (heading_bytes h) ≡ true

-- and those of two headings differ
abbrev pub HeadingsDiffer : Type 0
HeadingsDiffer = (a b : Head) → IsHeading a → IsHeading b → heading_bytes a ≡ heading_bytes b
    → a ≡ b

-- what differs is told: the rules, or else the acquirer
abbrev pub HeadingsAreToldApart : Type 0
HeadingsAreToldApart =
    (a b : Head) → IsHeading a → IsHeading b → (a ≡ b → ⊥)
    → heading_fault (heading_bytes a) (heading_bytes b)
    ≡ (if a.rules == b.rules then Some Acquirer else Some Rules)
