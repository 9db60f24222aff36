-- A message from the front of bytes, piece by piece: its type, the primary bitmap, the secondary one where the first
-- bit of the primary says so, and then for each element its length and its body. A piece is judged when it is whole.
-- A fault tells the offset of the piece, and whose it is: 0 for the type and the primary bitmap, 1 for the secondary
-- bitmap, else the element's number.
use Rattle.std.specs.Prelude.{◌≡◌, ◌≢◌, ℕ, ◌+◌, ◌/◌, ◌==◌, nat_lt, List, [], ◌∷◌, length, take, drop, Option, Some, None, Result, Ok, Err, if◌then◌else◌}
use Rattle.iso_parts.specs.declared.bitmap.BitmapCoding.{BitmapCoding}
use Rattle.iso_parts.specs.declared.spec.FieldSpec.{FieldSpec}
use Rattle.iso_parts.specs.declared.fault.FieldFault.{FieldFault}
use Rattle.iso_parts.specs.declared.fault.FieldFault.TheVariants as fields
use Rattle.iso_parts.specs.Bitmap.{map_size}
use Rattle.iso_parts.specs.Mti.{mti_size}
use Rattle.iso_parts.specs.BitmapReading.{word_in, top}
use Rattle.iso_parts.specs.Digits.{four_digits_in}
use Rattle.iso_parts.specs.Reading.{FieldReading, got, more, fault, prefix_size, part_at}
use Rattle.iso_wire.specs.declared.fault.UnpackFault.{UnpackFault}
use Rattle.iso_wire.specs.declared.fault.UnpackCause.{UnpackCause}
use Rattle.iso_wire.specs.declared.fault.UnpackCause.TheVariants.{Short, BadMti, WrongVersion, BadHex, ThirdBitmap, UnknownElement, Field, Memory}
use Rattle.iso_wire.specs.Contents.{Contents}
use Rattle.iso_wire.specs.Faults.{out_of_memory}
use Rattle.iso_table.specs.Layout.{Layout, row_at}
use Rattle.iso_parts.specs.Numbers.{numbers_in}
use Rattle.iso_wire.specs.Numbers.{unknown}

infixl 10 ◌>>=◌
-- a step, and the next one where the first gave something
abbrev pub ◌>>=◌ : {A B : Type 0} → Result A UnpackFault → (A → Result B UnpackFault)
    → Result B UnpackFault
(Ok x) >>= f = f x
(Err e) >>= f = Err e

-- the piece of the element, or 0 or 1, that begins at the offset stops the message
abbrev pub halt : {A : Type 0} → ℕ → ℕ → UnpackCause → Result A UnpackFault
halt element at cause = Err (record { at = at; element = element; cause = cause })

-- ---- the message type

-- the type, if its digits are good and it is of the version
abbrev pub of_version : ℕ → Option ℕ → Result ℕ UnpackFault
of_version version None = halt 0 0 BadMti
of_version version (Some n) = if n / 1000 == version then Ok n else halt 0 0 WrongVersion

-- the message type that the bytes begin with
abbrev pub type_at : Layout → List ℕ → Result ℕ UnpackFault
type_at t b =
    if nat_lt (length b) (mti_size t.mti) then halt 0 0 Short
    else of_version t.version (four_digits_in t.mti (take (mti_size t.mti) b))

-- ---- the bitmaps, as words

-- the word that was read of a bitmap, or that its hexadecimal digits are bad
abbrev pub word_by : ℕ → ℕ → Option ℕ → Result ℕ UnpackFault
word_by element at None = halt element at BadHex
word_by element at (Some w) = Ok w

-- the word of one bitmap
abbrev pub word_at : BitmapCoding → ℕ → ℕ → List ℕ → Result ℕ UnpackFault
word_at c element at b =
    if nat_lt (length b) (map_size c) then halt element at Short
    else word_by element at (word_in c (take (map_size c) b))

-- the word, unless a number has no row
abbrev pub known_by : ℕ → ℕ → ℕ → Option ℕ → Result ℕ UnpackFault
known_by element at w None = Ok w
known_by element at w (Some n) = halt element at (UnknownElement n)

-- the word of the primary bitmap, if the table has a row for each of its elements
abbrev pub primary_at : Layout → ℕ → List ℕ → Result ℕ UnpackFault
primary_at t at b = do
  w ← word_at t.bitmap 0 at b
  known_by 0 at w (unknown t.rows (numbers_in w 0))

-- the word, if it tells of no third bitmap and the table has a row for each of its elements
abbrev pub secondary_known : Layout → ℕ → ℕ → Result ℕ UnpackFault
secondary_known t at w = if nat_lt w top then known_by 1 at w (unknown t.rows (numbers_in 0 w))
    else halt 1 at ThirdBitmap

-- such a word of the secondary bitmap
abbrev pub secondary_at : Layout → ℕ → List ℕ → Result ℕ UnpackFault
secondary_at t at b = do
  w ← word_at t.bitmap 1 at b
  secondary_known t at w

-- the secondary bitmap follows where the primary one has its first bit set
abbrev pub words_by : Layout → ℕ → List ℕ → ℕ → Result (ℕ × ℕ × ℕ) UnpackFault
words_by t at b primary =
    let size = map_size t.bitmap in
    if nat_lt primary top then Ok (primary, 0, size)
    else (do
      secondary ← secondary_at t (at + size) (drop size b)
      Ok (primary, secondary, size + size))

-- the words of the bitmaps at an offset, and how many bytes they take
abbrev pub words_at : Layout → ℕ → List ℕ → Result (ℕ × ℕ × ℕ) UnpackFault
words_at t at b = do
  primary ← primary_at t at b
  words_by t at b primary

-- ---- the elements

-- where a faulty part stops being one: at its length, or behind it
abbrev pub fault_place : FieldFault → ℕ → ℕ
fault_place fields.BadLengthDigits size = 0
fault_place fields.LengthOver size = 0
fault_place e size = size

-- the value and where the next part begins
abbrev pub answer : FieldSpec → ℕ → ℕ → ℕ → FieldReading → Result (List ℕ × ℕ) UnpackFault
answer s n at len (got v used) = Ok (v, used)
answer s n at len more =
    halt n (if nat_lt len (prefix_size s.length) then at else at + prefix_size s.length) Short
answer s n at len (fault e) = halt n (at + fault_place e (prefix_size s.length)) (Field e)

-- an element whose bitmap is good has a row
abbrev pub value_by : Option FieldSpec → ℕ → ℕ → List ℕ → Result (List ℕ × ℕ) UnpackFault
value_by None n at b = halt n at (UnknownElement n)
value_by (Some s) n at b = answer s n at (length b) (part_at s b)

-- the value of element n, whose part begins at an offset, and how many bytes it takes
abbrev pub value_at : List (Option FieldSpec) → ℕ → ℕ → List ℕ → Result (List ℕ × ℕ) UnpackFault
value_at rows n at b = value_by (row_at rows n) n at b

-- the elements with the numbers, and the offset behind them
abbrev pub elements_at : List (Option FieldSpec) → List ℕ → ℕ → List ℕ
    → Result (List (ℕ × List ℕ) × ℕ) UnpackFault
elements_at rows [] at b = Ok ([], at)
elements_at rows (n ∷ ns) at b = do
  first ← value_at rows n at b
  others ← elements_at rows ns (at + first.1) (drop first.1 b)
  Ok ((n, first.0) ∷ others.0, others.1)

-- ---- a whole message

-- the message that the bytes begin with, and how many bytes it takes
unfoldable pub message_at : Layout → List ℕ → Result (Contents × ℕ) UnpackFault
message_at t b = do
  mti ← type_at t b
  words ← words_at t (mti_size t.mti) (drop (mti_size t.mti) b)
  read ← elements_at t.rows (numbers_in words.0 words.1) (mti_size t.mti + words.2)
      (drop (mti_size t.mti + words.2) b)
  Ok (record { mti = mti; elements = read.0 }, read.1)

-- ---- what functions answer

-- the fault is what reading gives; where memory ran out, it tells nothing else
abbrev pub IsFaultOf : {Y : Type 0} → UnpackFault → Result Y UnpackFault → Type 0
IsFaultOf e read = (e.cause ≡ Memory → e ≡ out_of_memory) × (e.cause ≢ Memory → read ≡ Err e)

-- what a function answers, seen by view, is what reading gives, unless memory ran out
abbrev pub Gives : {X Y : Type 0} → (X → Y) → Result X UnpackFault → Result Y UnpackFault → Type 0
Gives view (Ok x) read = read ≡ Ok (view x)
Gives view (Err e) read = IsFaultOf e read

-- what unpacking answers is what reading gives, unless memory ran out
abbrev pub Unpacks : Result (Contents × ℕ) UnpackFault → Result (Contents × ℕ) UnpackFault → Type 0
Unpacks result read = Gives (λ x. x) result read

-- the message, of that many bytes
abbrev pub whole : Contents → ℕ → Result (Contents × ℕ) UnpackFault
whole m size = Ok (m, size)
