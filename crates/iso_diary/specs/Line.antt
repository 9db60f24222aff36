-- A note and its place in 128 bytes of text. The columns:
--
--   0  99  of a payment that began: its order, as in a journal
--          of a time-out: the trace number in 10 digits, and blanks
--          of an answer: the message type of the order's key in 5 digits, the trace number in 10, the time in 20, the
--          acquirer in 20, the response code in 3, and blanks
--  99   1  what happened: B a payment began, T no answer came in time, A an answer came
-- 100  20  the place in the diary
-- 120   7  blanks
-- 127   1  the end of the line
use Rattle.std.specs.Prelude.{◌≡◌, ℕ, ◌+◌, ◌*◌, ◌/◌, ◌%◌, ◌^◌, ◌<◌, ◌==◌, nat_lt, true, List, [], ◌∷◌, ◌++◌, take, slice_index, bytes_eq, codes, Option, Some, None, if◌then◌else◌}
use Rattle.iso_wire.specs.Decimal.{decimal}
use Rattle.iso_log.specs.Slots.{is_whole}
use Rattle.iso_order.specs.declared.key.TxKey.{TxKey}
use Rattle.iso_order.specs.Order.{is_valid}
use Rattle.iso_record.specs.declared.row.Row.{Row}
use Rattle.iso_record.specs.Key.{number_at}
use Rattle.iso_record.specs.Row.{blanks, order_bytes, answer_bytes, row_in}
use Rattle.iso_restarts.specs.declared.note.Note.{Note}
use Rattle.iso_restarts.specs.declared.note.Note.TheVariants.{Begun, TimedOut, Told}
use Rattle.iso_diary.specs.declared.line.Line.{Line}

-- ---- written

-- a number in twenty digits
abbrev pub long_digits : ℕ → List ℕ
long_digits v = decimal 10 (v / 10 ^ 10) ++ decimal 10 (v % 10 ^ 10)

-- the key of an order that got an answer, and the answer's code
unfoldable pub answered_bytes : TxKey → ℕ → List ℕ
answered_bytes k code =
    decimal 5 k.base ++ (decimal 10 k.stan
    ++ (long_digits k.sent ++ (long_digits k.acquirer ++ (decimal 3 code ++ blanks 41))))

-- what happened, in 99 bytes
abbrev pub body : Note → List ℕ
body (Begun o) = order_bytes o
body (TimedOut stan) = decimal 10 stan ++ blanks 89
body (Told k code) = answered_bytes k code

-- what happened, by a letter: B for begun, T for timed out, A for answered
abbrev pub letter : Note → ℕ
letter (Begun o) = 66
letter (TimedOut stan) = 84
letter (Told k code) = 65

-- the letter and the place, in the 29 bytes behind it
unfoldable pub tail : ℕ → ℕ → List ℕ
tail c place = c ∷ [] ++ (long_digits place ++ (blanks 7 ++ codes "\n"))

-- a note and its place, in 128 bytes
unfoldable pub line_bytes : Line → List ℕ
line_bytes l = body l.note ++ tail (letter l.note) l.place

-- ---- read

-- a number, where it is below another
abbrev pub below : ℕ → Option ℕ → Option ℕ
below most (Some n) = if nat_lt n most then Some n else None
below most None = None

-- the number of two numbers of ten digits, if 64 bits can be that
abbrev pub long_by : Option ℕ → Option ℕ → Option ℕ
long_by (Some front) (Some back) = below (2 ^ 64) (Some (front * 10 ^ 10 + back))
long_by _ _ = None

-- the number in twenty digits at a place
abbrev pub long_at : List ℕ → ℕ → Option ℕ
long_at text at = long_by (number_at text at 10) (number_at text (at + 10) 10)

-- what stands behind an order that has no answer
abbrev pub no_answer : List ℕ
no_answer = answer_bytes (record { code = 0; seq = 0; shown = None })

-- the payment of a row
abbrev pub begun_by : Option Row → Option Note
begun_by (Some r) = Some (Begun r.order)
begun_by None = None

-- the payment that began
abbrev pub begun_in : List ℕ → Option Note
begun_in text = begun_by (row_in (take 99 text ++ no_answer))

-- the transaction that timed out
abbrev pub timed_out_by : Option ℕ → Option Note
timed_out_by (Some stan) = Some (TimedOut stan)
timed_out_by None = None

-- the answer of its parts
abbrev pub answered_by : Option ℕ → Option ℕ → Option ℕ → Option ℕ → Option ℕ → Option Note
answered_by (Some base) (Some stan) (Some sent) (Some acquirer) (Some code) =
    Some (Told (record { base = base; stan = stan; sent = sent; acquirer = acquirer }) code)
answered_by _ _ _ _ _ = None

-- the answer that came
abbrev pub answered_in : List ℕ → Option Note
answered_in text =
    answered_by (below (2 ^ 16) (number_at text 0 5)) (below (2 ^ 32) (number_at text 5 10))
    (long_at text 15) (long_at text 35)
    (below (2 ^ 8) (number_at text 55 3))

-- what happened, by its letter
abbrev pub note_by : ℕ → List ℕ → Option Note
note_by c text =
    if c == 66 then begun_in text
    else if c == 84 then timed_out_by (below (2 ^ 32) (number_at text 0 10))
    else if c == 65 then answered_in text
    else None

-- only the very bytes that are written
abbrev pub line_if_same : List ℕ → Option Note → Option ℕ → Option Line
line_if_same text (Some n) (Some place) =
    let l : Line = record { place = place; note = n } in
    if bytes_eq (line_bytes l) text then Some l else None
line_if_same _ _ _ = None

-- the note and the place that 128 bytes are
unfoldable pub line_in : List ℕ → Option Line
line_in text = line_if_same text (note_by (slice_index text 99) text) (long_at text 100)

-- ---- what holds

-- a key that the code can hold
pub record IsKey (k : TxKey) : Type 0 where
  pub base : k.base < 2 ^ 16
  pub stan : k.stan < 2 ^ 32
  pub sent : k.sent < 2 ^ 64
  pub acquirer : k.acquirer < 2 ^ 64

-- a note that the code can hold
abbrev pub IsNote : Note → Type 0
IsNote (Begun o) = is_valid o ≡ true
IsNote (TimedOut stan) = stan < 2 ^ 32
IsNote (Told k code) = IsKey k × (code < 2 ^ 8)

-- the same of a note and its place
pub record IsLine (l : Line) : Type 0 where
  pub place : l.place < 2 ^ 64
  pub note : IsNote l.note

-- each line comes back,
abbrev pub LinesComeBack : Type 0
LinesComeBack = (l : Line) → IsLine l → line_in (line_bytes l) ≡ Some l

-- has 128 bytes, none of them zero,
abbrev pub LinesAreWhole : Type 0
LinesAreWhole = (l : Line) → IsLine l → is_whole (line_bytes l) ≡ true

-- and nothing else is read as one
abbrev pub NothingElse : Type 0
NothingElse = (text : List ℕ) (l : Line) → line_in text ≡ Some l → line_bytes l ≡ text
