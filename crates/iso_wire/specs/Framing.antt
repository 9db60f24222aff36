-- Frames: before each body of bytes a header that counts the body alone.
use Rattle.std.specs.Prelude.{◌≡◌, ℕ, ◌+◌, ◌*◌, ◌/◌, ◌%◌, ◌<◌, ◌≤◌, ◌&&◌, nat_lt, nat_le, not, if◌then◌else◌, Bool, true, false, List, [], ◌∷◌, ◌++◌, length, take, drop, Option, Some, None, Result, Ok, Err}
use Rattle.std.specs.List.{list_all}
use Rattle.iso_parts.specs.Class.{is_digit}
use Rattle.iso_parts.specs.Part.{characters}
use Rattle.iso_parts.specs.declared.digits.Digits.TheVariants as digits
use Rattle.iso_parts.specs.Digits.{four_digits_of, four_digits_in}
use Rattle.iso_wire.specs.declared.header.Header.{Header}
use Rattle.iso_wire.specs.declared.header.Header.TheVariants.{Binary2, Ascii4, Bcd2}
use Rattle.iso_wire.specs.declared.framing.Framed.{Framed}
use Rattle.iso_wire.specs.declared.framing.Framed.TheVariants.{Got, More}
use Rattle.iso_wire.specs.declared.framing.FrameFault.{FrameFault}
use Rattle.iso_wire.specs.declared.framing.FrameFault.TheVariants.{BadDigits}

-- ---- what frames are

-- the length of the longest body that a header can count
abbrev pub largest : Header → ℕ
largest Binary2 = 65535
largest Ascii4 = 9999
largest Bcd2 = 9999

-- how many bytes a header takes
abbrev pub header_size : Header → ℕ
header_size Binary2 = 2
header_size Ascii4 = 4
header_size Bcd2 = 2

-- the header of a body of n bytes
abbrev pub header_of : Header → ℕ → List ℕ
header_of Binary2 n = n / 256 ∷ n % 256 ∷ []
header_of Ascii4 n = four_digits_of digits.Ascii n
header_of Bcd2 n = four_digits_of digits.Bcd n

-- a body behind its header
abbrev pub frame_of : Header → List ℕ → List ℕ
frame_of h body = header_of h (length body) ++ body

-- these bodies, each behind its header, one after another
abbrev pub frames_of : Header → List (List ℕ) → List ℕ
frames_of h [] = []
frames_of h (body ∷ bodies) = frame_of h body ++ frames_of h bodies

-- a header can count each body
abbrev pub AllFit : Header → List (List ℕ) → Type 0
AllFit h [] = Unit {0}
AllFit h (body ∷ bodies) = (length body ≤ largest h) × AllFit h bodies

-- the bytes are the frames of these bodies, and nothing else
pub record Frames (h : Header) (bodies : List (List ℕ)) (bytes : List ℕ) : Type 0 where
  pub joined : bytes ≡ frames_of h bodies
  pub fit : AllFit h bodies

-- ---- frames at the front of bytes

-- the frame of this body, of so many bytes, begins the bytes
pub record Begins (h : Header) (bytes body : List ℕ) (used : ℕ) : Type 0 where
  pub whole : bytes ≡ frame_of h body ++ drop used bytes
  pub size : used ≡ length (frame_of h body)
  pub fits : length body ≤ largest h

-- no whole frame begins the bytes
abbrev pub NoFrame : Header → List ℕ → Type 0
NoFrame h bytes = (body more : List ℕ) → length body ≤ largest h → bytes ≡ frame_of h body ++ more
    → ⊥

-- whether a whole header that isn't of digits begins the bytes
abbrev pub is_bad_header : Header → List ℕ → Bool
is_bad_header Binary2 bytes = false
is_bad_header Ascii4 bytes = nat_le 4 (length bytes) && not (list_all is_digit (take 4 bytes))
is_bad_header Bcd2 bytes =
    nat_le 2 (length bytes) && not (list_all is_digit (characters (take 2 bytes)))

-- neither a whole frame nor a whole header that isn't of digits begins the bytes
pub record NeedsMore (h : Header) (bytes : List ℕ) : Type 0 where
  pub no_frame : NoFrame h bytes
  pub no_fault : is_bad_header h bytes ≡ false

-- the bytes are the frames of these bodies, and then a rest that begins with no whole frame
pub record Splits (h : Header) (bytes : List ℕ) (bodies : List (List ℕ))
    (rest : List ℕ) : Type 0 where
  pub joined : bytes ≡ frames_of h bodies ++ rest
  pub fit : AllFit h bodies
  pub partial : NoFrame h rest

-- ---- laws of frames

-- each stream of bytes is split in some way
abbrev pub SplitsSomehow : Type 0
SplitsSomehow = (h : Header) (bytes : List ℕ)
    → (bodies : List (List ℕ)) × (rest : List ℕ) × Splits h bytes bodies rest

-- and in one way
abbrev pub SplitsOnce : Type 0
SplitsOnce =
    (h : Header) (bytes : List ℕ) (bodies others : List (List ℕ)) (rest left : List ℕ)
    → Splits h bytes bodies rest → Splits h bytes others left
    → (others ≡ bodies) × (left ≡ rest)

-- frames that begin a stream are the first ones of its split
abbrev pub FirstOfSplit : Type 0
FirstOfSplit =
    (h : Header) (bytes : List ℕ) (done bodies : List (List ℕ)) (more rest : List ℕ) → AllFit h done
    → bytes ≡ frames_of h done ++ more → Splits h bytes bodies rest
    → take (length done) bodies ≡ done

-- frames in front of a stream come first in its split
abbrev pub SplitsBehind : Type 0
SplitsBehind =
    (h : Header) (done bodies : List (List ℕ)) (more rest : List ℕ) → AllFit h done
    → Splits h more bodies rest
    → Splits h (frames_of h done ++ more) (done ++ bodies) rest

-- where a header isn't of digits, no frame begins
abbrev pub BadIsNoFrame : Type 0
BadIsNoFrame = (h : Header) (bytes : List ℕ) → is_bad_header h bytes ≡ true → NoFrame h bytes

-- and it isn't whatever follows
abbrev pub BadStays : Type 0
BadStays = (h : Header) (bytes more : List ℕ) → is_bad_header h bytes ≡ true
    → is_bad_header h (bytes ++ more) ≡ true

-- a header and fewer bytes than it counts need more
abbrev pub CutNeedsMore : Type 0
CutNeedsMore = (h : Header) (n : ℕ) (part : List ℕ) → n ≤ largest h → length part < n
    → NeedsMore h (header_of h n ++ part)

-- ---- reading a frame from the front of bytes: the header, and then the body, each when it is whole

-- the length that a whole header tells, where it is of digits
abbrev pub header_length : Header → List ℕ → Option ℕ
header_length Binary2 (x ∷ y ∷ []) = Some (256 * x + y)
header_length Binary2 other = None
header_length Ascii4 b = four_digits_in digits.Ascii b
header_length Bcd2 b = four_digits_in digits.Bcd b

-- a body and how many bytes its frame takes; or that bytes are missing; or a header that isn't of digits
pub data FrameReading : Type 0 where
  got : List ℕ → ℕ → FrameReading
  more : FrameReading
  bad : FrameReading

-- what is read behind a header that tells so many bytes, or isn't of digits
abbrev pub at_length : Header → List ℕ → Option ℕ → FrameReading
at_length h bytes None = bad
at_length h bytes (Some n) =
    if nat_lt (length bytes) (header_size h + n) then more
    else got (take n (drop (header_size h) bytes)) (header_size h + n)

-- what is read of the frame that the bytes begin with
abbrev pub frame_at : Header → List ℕ → FrameReading
frame_at h bytes =
    if nat_lt (length bytes) (header_size h) then more
    else at_length h bytes (header_length h (take (header_size h) bytes))

-- ---- what functions answer

-- what unframing answers is what reading gives
abbrev pub Unframes : Result Framed FrameFault → FrameReading → Type 0
Unframes (Ok (Got body used)) o = o ≡ got body.now used
Unframes (Ok More) o = o ≡ more
Unframes (Err e) o = (e ≡ BadDigits) × (o ≡ bad)

-- the answer fits the front of the bytes
abbrev pub AnswersFront : Header → List ℕ → Result Framed FrameFault → Type 0
AnswersFront h bytes (Ok (Got body used)) = Begins h bytes body.now used
AnswersFront h bytes (Ok More) = NeedsMore h bytes
AnswersFront h bytes (Err e) = (e ≡ BadDigits) × (is_bad_header h bytes ≡ true)

-- the header at the front of the bytes counts this body's length; or the bytes end inside it; or it isn't of digits
abbrev pub TellsLength : Header → List ℕ → Result (Option ℕ) FrameFault → Type 0
TellsLength h bytes (Ok (Some n)) = (take (header_size h) bytes ≡ header_of h n) × (n ≤ largest h)
TellsLength h bytes (Ok None) = (length bytes < header_size h) × NeedsMore h bytes
TellsLength h bytes (Err e) = (e ≡ BadDigits) × (is_bad_header h bytes ≡ true)

-- the answer is this body, whose frame takes so many bytes
abbrev pub IsGot : Result Framed FrameFault → List ℕ → ℕ → Type 0
IsGot (Ok (Got body used)) want size = (body.now ≡ want) × (used ≡ size)
IsGot (Ok More) want size = ⊥
IsGot (Err e) want size = ⊥
