-- The first record of a journal. The columns: 0 the words, 24 the version of the records in 4 digits, 28 that of the rules
-- in 5, 33 the digest of the accounts in four numbers of 20 digits, 113 blanks, 127 the end of the line.
use Rattle.std.specs.Prelude.{◌≡◌, ◌<◌, ◌^◌, ◌*◌, ◌==◌, ℕ, true, not, List, ◌++◌, take, drop, codes, bytes_eq, if◌then◌else◌, Option, Some, None}
use Rattle.std.specs.Int.{w64, from_be_bytes}
use Rattle.sha2.specs.Sha256.{sha256}
use Rattle.iso_wire.specs.Decimal.{decimal}
use Rattle.iso_log.specs.Slots.{is_whole}
use Rattle.iso_record.specs.Row.{blanks, part}
use Rattle.iso_record.specs.declared.heading.Heading.{Heading as Head}
use Rattle.iso_record.specs.declared.heading.HeadingFault.{HeadingFault}
use Rattle.iso_record.specs.declared.heading.HeadingFault.TheVariants.{Format, Rules, Accounts}

-- the words that a journal begins with
unfoldable pub magic : List ℕ
magic = codes "ISO 8583 ISSUER JOURNAL "

-- the record of a heading
unfoldable pub heading_bytes : Head → List ℕ
heading_bytes h =
    magic ++ (decimal 4 1 ++ (decimal 5 h.rules ++ (decimal 20 h.first ++ (decimal 20 h.second
    ++ (decimal 20 h.third ++ (decimal 20 h.fourth ++ (blanks 14 ++ codes "\n")))))))

-- eight bytes of a digest as a number
abbrev pub word : List ℕ → ℕ → ℕ
word digest k = from_be_bytes w64 (take 8 (drop (8 * k) digest))

-- the heading of the accounts in a document, by their digest
abbrev pub heading_for : ℕ → List ℕ → Head
heading_for rules document =
    record {
      rules = rules;
      first = word (sha256 document) 0;
      second = word (sha256 document) 1;
      third = word (sha256 document) 2;
      fourth = word (sha256 document) 3;
    }

-- what a first record tells otherwise than the one that is wanted, looked at from the front
abbrev pub heading_fault : List ℕ → List ℕ → Option HeadingFault
heading_fault text wanted =
    if bytes_eq text wanted then None
    else if not (bytes_eq (part text 0 28) (part wanted 0 28)) then Some Format
    else if not (bytes_eq (part text 28 5) (part wanted 28 5)) then Some Rules
    else Some Accounts

-- what a `Heading` can be
pub record IsHeading (h : Head) : Type 0 where
  pub rules : h.rules < 2 ^ 16
  pub first : h.first < 2 ^ 64
  pub second : h.second < 2 ^ 64
  pub third : h.third < 2 ^ 64
  pub fourth : h.fourth < 2 ^ 64

-- each is a record,
abbrev pub HeadingsAreWhole : Type 0
HeadingsAreWhole = (h : Head) → is_whole (heading_bytes h) ≡ true

-- and those of two headings differ
abbrev pub HeadingsDiffer : Type 0
HeadingsDiffer = (a b : Head) → IsHeading a → IsHeading b → heading_bytes a ≡ heading_bytes b
    → a ≡ b

-- what differs is told: the rules, or else the accounts
abbrev pub HeadingsAreToldApart : Type 0
HeadingsAreToldApart =
    (a b : Head) → IsHeading a → IsHeading b → (a ≡ b → ⊥)
    → heading_fault (heading_bytes a) (heading_bytes b)
    ≡ (if a.rules == b.rules then Some Accounts else Some Rules)
