-- A message as lines for human eyes: its type with the words for its digits, each element, and how many bytes it took.
use Rattle.std.specs.Prelude.{◌≡◌, ◌⊎◌, ℕ, ◌+◌, ◌-◌, ◌/◌, ◌%◌, ◌^◌, ◌<◌, ◌≤◌, ◌==◌, Bool, if◌then◌else◌, List, [], ◌∷◌, ◌++◌, length, take, drop, replicate, Option, Some, None, codes}
use Rattle.hex.specs.Hex.{encode_upper}
use Rattle.iso_parts.specs.Digits.{four_digits_of}
use Rattle.iso_parts.specs.declared.digits.Digits.TheVariants.{Ascii}
use Rattle.iso_parts.specs.declared.class.CharClass.{CharClass}
use Rattle.iso_parts.specs.declared.class.CharClass.TheVariants as classes
use Rattle.iso_parts.specs.declared.spec.FieldSpec.{FieldSpec}
use Rattle.iso_table.specs.Layout.{Layout, row_at}
use Rattle.iso_wire.specs.Contents.{Contents}
use Rattle.iso_wire.specs.Decimal.{decimal}
use Rattle.iso_wire.specs.Masking.{shown_front, shown_end}

-- ---- the type

-- a digit without a meaning
abbrev pub reserved_word : ℕ → List ℕ
reserved_word d = codes "Reserved(" ++ (48 + d) ∷ codes ")"

-- the edition of the standard, in a word
unfoldable pub version_word : ℕ → List ℕ
version_word d =
    if d == 0 then codes "1987"
    else if d == 1 then codes "1993"
    else if d == 2 then codes "2003"
    else if d == 9 then codes "Private"
    else reserved_word d

-- what the message is about, in a word
unfoldable pub class_word : ℕ → List ℕ
class_word d =
    if d == 1 then codes "Authorization"
    else if d == 2 then codes "Financial"
    else if d == 3 then codes "FileAction"
    else if d == 4 then codes "Reversal"
    else if d == 5 then codes "Reconciliation"
    else if d == 6 then codes "Administrative"
    else if d == 7 then codes "FeeCollection"
    else if d == 8 then codes "NetworkManagement"
    else reserved_word d

-- what the message does, in a word
unfoldable pub function_word : ℕ → List ℕ
function_word d =
    if d == 0 then codes "Request"
    else if d == 1 then codes "Response"
    else if d == 2 then codes "Advice"
    else if d == 3 then codes "AdviceResponse"
    else reserved_word d

-- who sent the message, in a word
unfoldable pub origin_word : ℕ → List ℕ
origin_word d =
    if d == 0 then codes "Acquirer"
    else if d == 1 then codes "AcquirerRepeat"
    else if d == 2 then codes "Issuer"
    else if d == 3 then codes "IssuerRepeat"
    else if d == 4 then codes "Other"
    else if d == 5 then codes "OtherRepeat"
    else reserved_word d

-- the four digits, and the word of each
abbrev pub type_line : ℕ → List ℕ
type_line n =
    codes "MTI=" ++ four_digits_of Ascii n ++ codes " " ++ version_word (n / 1000) ++ codes " "
    ++ class_word (n / 100 % 10) ++ codes " " ++ function_word (n / 10 % 10) ++ codes " "
    ++ origin_word (n % 10) ++ codes "\n"

-- ---- an element

-- bytes in clear: of class B as hexadecimal digits, any others as they are
abbrev pub clear_text : CharClass → List ℕ → List ℕ
clear_text classes.B b = encode_upper b
clear_text class b = b

-- the class of a row; B where there is none
abbrev pub class_by : Option FieldSpec → CharClass
class_by None = classes.B
class_by (Some s) = s.class

-- what is shown of a value at its front, a star for each byte that is hidden, and what is shown at its end
abbrev pub value_text : CharClass → ℕ → List ℕ → List ℕ
value_text class n v =
    let front : ℕ = shown_front n (length v) in
    let end : ℕ = shown_end n (length v) in
    clear_text class (take front v)
    ++ (replicate (length v - front - end) 42 ++ clear_text class (drop (length v - end) v))

-- the whole value, or what a bystander may read of it
abbrev pub shown_text : Bool → CharClass → ℕ → List ℕ → List ℕ
shown_text is_clear class n v = if is_clear then clear_text class v else value_text class n v

-- the line of an element: its number, and what is shown of its value
abbrev pub element_line : Bool → List (Option FieldSpec) → ℕ → List ℕ → List ℕ
element_line is_clear rows n v = codes "DE" ++ (decimal 3 n
    ++ (codes "=" ++ (shown_text is_clear (class_by (row_at rows n)) n v ++ codes "\n")))

-- the lines of elements, in their order
abbrev pub element_lines : Bool → List (Option FieldSpec) → List (ℕ × List ℕ) → List ℕ
element_lines is_clear rows [] = []
element_lines is_clear rows (e ∷ es) =
    element_line is_clear rows e.0 e.1 ++ element_lines is_clear rows es

-- ---- the lines

-- the line of the type, and those of the elements
abbrev pub description : Bool → Layout → Contents → List ℕ
description is_clear t m = type_line m.mti ++ element_lines is_clear t.rows m.elements

-- ---- the bytes it took

-- the text is the number in decimal, with no zero before it
abbrev pub IsDecimal : ℕ → List ℕ → Type 0
IsDecimal v text = (d : ℕ) × (text ≡ decimal d v) × (1 ≤ d) × (v < 10 ^ d)
    × ((d ≡ 1) ⊎ (10 ^ (d - 1) ≤ v))

-- the line that tells how many bytes a message took, and of how many
abbrev pub IsUsedLine : ℕ → ℕ → List ℕ → Type 0
IsUsedLine used total line =
    (first : List ℕ) × (second : List ℕ) × IsDecimal used first × IsDecimal total second
    × (line ≡ codes "USED=" ++ (first ++ (codes "/" ++ (second ++ codes "\n"))))

-- how many bytes a message took, and of how many
pub record UsedBytes : Type 0 where
  pub used : ℕ
  pub total : ℕ

-- so many of so many
abbrev pub used_bytes : ℕ → ℕ → UsedBytes
used_bytes used total = record { used = used; total = total }

-- the description, and then that line
abbrev pub AreLinesOf : Bool → Layout → Contents → UsedBytes → List ℕ → Type 0
AreLinesOf is_clear t m size lines = (last : List ℕ) × IsUsedLine size.used size.total last
    × (lines ≡ description is_clear t m ++ last)
