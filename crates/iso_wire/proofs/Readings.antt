-- A message is read as its type, its bitmaps and its elements, one after another. A part is judged as its length and its body.
use Rattle.std.proofs.Common.{◌≡◌, ℕ, ◌+◌, ◌≤◌, Bool, true, false, cond, ltb, List, length, take, drop, Option, Some, None, Result, Ok, Err, refl, sym, ap, ◌∙◌, arith}
use Rattle.std.proofs.lemmas.Bool.{ltb-false}
use Rattle.iso_parts.specs.Judging.{size_at, some_count, some_size}
use Rattle.iso_parts.specs.Mti.{mti_size}
use Rattle.iso_parts.specs.Numbers.{numbers_in}
use Rattle.iso_parts.specs.Part.{prefix}
use Rattle.iso_parts.specs.Reading.{prefix_size, body_size, body_of}
use Rattle.iso_parts.specs.declared.digits.Digits.TheVariants as digits
use Rattle.iso_parts.specs.declared.fault.FieldFault.{FieldFault}
use Rattle.iso_parts.specs.declared.prefix.Length.{Length}
use Rattle.iso_parts.specs.declared.prefix.Length.TheVariants as lengths
use Rattle.iso_parts.specs.declared.spec.FieldSpec.{FieldSpec}
use Rattle.iso_table.specs.Layout.{Layout}
use Rattle.iso_wire.specs.Contents.{Contents}
use Rattle.iso_wire.specs.Judging.{end_by}
use Rattle.iso_wire.specs.Reading.{◌>>=◌, type_at, words_at, elements_at, message_at, whole}
use Rattle.iso_wire.specs.declared.fault.UnpackFault.{UnpackFault}
use Rattle.iso_wire.proofs.Orders.{Values}

-- ---- a message

-- the message of that type, whose elements were read
abbrev pub made : ℕ → Values × ℕ → Result (Contents × ℕ) UnpackFault
made mti read = whole (record { mti = mti; elements = read.0 }) read.1

-- the message, behind its bitmaps
abbrev pub behind_maps : Layout → List ℕ → ℕ → ℕ × ℕ × ℕ → Result (Contents × ℕ) UnpackFault
behind_maps t b mti w = elements_at t.rows (numbers_in w.0 w.1) (mti_size t.mti + w.2) (drop (mti_size t.mti + w.2) b) >>= made mti

-- the message, behind its type
abbrev pub behind_type : Layout → List ℕ → ℕ → Result (Contents × ℕ) UnpackFault
behind_type t b mti = words_at t (mti_size t.mti) (drop (mti_size t.mti) b) >>= behind_maps t b mti

-- reading a message is reading its type, and then the rest
pub message_is : (t : Layout) (b : List ℕ) → message_at t b ≡ type_at t b >>= behind_type t b
unfolding message_at
message_is t b = refl

-- the words of the bitmaps, and how many bytes they take
abbrev pub words : ℕ → ℕ → ℕ → Result (ℕ × ℕ × ℕ) UnpackFault
words first second size = Ok (first, second, size)

-- ---- a length

-- it has its size
pub length-prefix : (k : Length) (n : ℕ) → length (prefix k n) ≡ prefix_size k
length-prefix lengths.Fixed n = refl
length-prefix (lengths.LL digits.Ascii) n = refl
length-prefix (lengths.LL digits.Bcd) n = refl
length-prefix (lengths.LLL digits.Ascii) n = refl
length-prefix (lengths.LLL digits.Bcd) n = refl
length-prefix (lengths.LLLL digits.Ascii) n = refl
length-prefix (lengths.LLLL digits.Bcd) n = refl

-- a whole good one tells its count
pub count_is : (t : Bool) (r : Result ℕ FieldFault) (n : ℕ) → cond t (Ok None) (some_count r) ≡ Ok (Some n) → (t ≡ false) × (r ≡ Ok n)
count_is true r n e = absurd cc
count_is false (Ok m) n e = let same : m ≡ n = cc in (refl, ap Ok same)
count_is false (Err f) n e = absurd cc

-- a whole bad one is the fault
pub count_fails : (t : Bool) (r : Result ℕ FieldFault) (e : FieldFault) → cond t (Ok None) (some_count r) ≡ Err e → (t ≡ false) × (r ≡ Err e)
count_fails true r e is = absurd cc
count_fails false (Ok m) e is = absurd cc
count_fails false (Err f) e is = let same : f ≡ e = cc in (refl, ap Err same)

-- the bytes end inside the length
pub lacks_by : (t : Bool) (r : Result ℕ FieldFault) → cond t (Ok None) (some_count r) ≡ Ok None → t ≡ true
lacks_by true r is = refl
lacks_by false (Ok m) is = absurd cc
lacks_by false (Err f) is = absurd cc

-- ---- a body

-- where the body ends tells its size
pub end_is : (n at end : ℕ) (r : Result (Option ℕ) FieldFault) → end_by n at r ≡ Ok end → (size : ℕ) × (r ≡ Ok (Some size)) × (at + size ≡ end)
end_is n at end (Ok (Some size)) e = (size, refl, cc)
end_is n at end (Ok None) e = absurd cc
end_is n at end (Err f) e = absurd cc

-- a whole good body, of that size
pub record SizeRead (s : FieldSpec) (c : ℕ) (b : List ℕ) (size : ℕ) : Type 0 where
  pub is : size ≡ body_size s.coding c
  pub room : size ≤ length b
  pub value : List ℕ
  pub read : body_of s c (take size b) ≡ Ok value

-- a whole good body tells its size, and has a value
pub size_by : (t : Bool) (r : Result (List ℕ) FieldFault) (n size : ℕ) → cond t (Ok None) (some_size n r) ≡ Ok (Some size) → (t ≡ false) × (n ≡ size) × ((v : List ℕ) × (r ≡ Ok v))
size_by true r n size e = absurd cc
size_by false (Ok v) n size e = (refl, cc, (v, refl))
size_by false (Err f) n size e = absurd cc

pub size_read : (s : FieldSpec) (c : ℕ) (b : List ℕ) (size : ℕ) → size_at s c b ≡ Ok (Some size) → SizeRead s c b size
size_read s c b size e =
    let n = body_size s.coding c in
    let one = size_by (ltb (length b) n) (body_of s c (take n b)) n size e in
    let room : n ≤ length b = ltb-false (length b) n one.0 in
    record { is = sym one.1; room = omega (arith, room, one.1); value = one.2.0; read = ap (λ (k : ℕ). body_of s c (take k b)) (sym one.1) ∙ one.2.1 }

-- the bytes end inside the body
pub short_by : (t : Bool) (r : Result (List ℕ) FieldFault) (n : ℕ) → cond t (Ok None) (some_size n r) ≡ Ok None → t ≡ true
short_by true r n e = refl
short_by false (Ok v) n e = absurd cc
short_by false (Err f) n e = absurd cc

-- a whole bad body is the fault
pub bad_by : (t : Bool) (r : Result (List ℕ) FieldFault) (n : ℕ) (f : FieldFault) → cond t (Ok None) (some_size n r) ≡ Err f → (t ≡ false) × (r ≡ Err f)
bad_by true r n f e = absurd cc
bad_by false (Ok v) n f e = absurd cc
bad_by false (Err g) n f e = (refl, let same : g ≡ f = cc in ap Err same)
