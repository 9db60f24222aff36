-- Reading never runs out of memory.
use Rattle.std.proofs.Common.{◌≢◌, ℕ, ◌+◌, Bool, true, false, cond, ltb, eqb, ◌/◌, List, [], ◌∷◌, length, take, drop, Option, Some, None, Result, Ok, Err}
use Rattle.iso_parts.specs.Digits.{four_digits_in}
use Rattle.iso_parts.specs.declared.spec.FieldSpec.{FieldSpec}
use Rattle.iso_parts.specs.Bitmap.{map_size}
use Rattle.iso_parts.specs.BitmapReading.{word_in, top}
use Rattle.iso_parts.specs.Reading.{FieldReading, got, more, fault, part_at}
use Rattle.iso_parts.specs.declared.bitmap.BitmapCoding.{BitmapCoding}
use Rattle.iso_table.specs.Layout.{Layout, row_at}
use Rattle.iso_wire.specs.declared.fault.UnpackFault.{UnpackFault}
use Rattle.iso_wire.specs.declared.fault.UnpackCause.TheVariants.{Short, WrongVersion, ThirdBitmap, Memory}
use Rattle.iso_parts.specs.Numbers.{numbers_in}
use Rattle.iso_wire.specs.Numbers.{unknown}
use Rattle.iso_parts.specs.Mti.{mti_size}
use Rattle.iso_wire.specs.Reading.{◌>>=◌, halt, of_version, type_at, word_by, word_at, known_by, primary_at, secondary_known, secondary_at, words_by, words_at, answer, value_by, value_at, elements_at, message_at, whole}
use Rattle.iso_wire.proofs.Orders.{Values}

abbrev pub NeverMemory : {A : Type 0} → Result A UnpackFault → Type 0
NeverMemory (Ok x) = Unit {0}
NeverMemory (Err e) = e.cause ≢ Memory

binds : {A B : Type 0} (r : Result A UnpackFault) (f : A → Result B UnpackFault) → NeverMemory r → ((x : A) → NeverMemory (f x)) → NeverMemory (r >>= f)
binds (Ok x) f one two = two x
binds (Err e) f one two = one

either : {A : Type 0} (t : Bool) (r q : Result A UnpackFault) → NeverMemory r → NeverMemory q → NeverMemory (cond t r q)
either true r q one two = one
either false r q one two = two

type_by : (version : ℕ) (o : Option ℕ) → NeverMemory (of_version version o)
type_by version None = λ e. cc
type_by version (Some n) = either (eqb (n / 1000) version) (Ok n) (halt 0 0 WrongVersion) tt (λ e. cc)

type : (t : Layout) (b : List ℕ) → NeverMemory (type_at t b)
type t b = either (ltb (length b) (mti_size t.mti)) (halt 0 0 Short) (of_version t.version (four_digits_in t.mti (take (mti_size t.mti) b))) (λ e. cc) (type_by t.version (four_digits_in t.mti (take (mti_size t.mti) b)))

hex : (element at : ℕ) (o : Option ℕ) → NeverMemory (word_by element at o)
hex element at None = λ e. cc
hex element at (Some w) = tt

word : (c : BitmapCoding) (element at : ℕ) (b : List ℕ) → NeverMemory (word_at c element at b)
word c element at b = either (ltb (length b) (map_size c)) (halt element at Short) (word_by element at (word_in c (take (map_size c) b))) (λ e. cc) (hex element at (word_in c (take (map_size c) b)))

known : (element at w : ℕ) (o : Option ℕ) → NeverMemory (known_by element at w o)
known element at w None = tt
known element at w (Some n) = λ e. cc

secondary : (t : Layout) (at : ℕ) (b : List ℕ) → NeverMemory (secondary_at t at b)
secondary t at b = binds (word_at t.bitmap 1 at b) (secondary_known t at) (word t.bitmap 1 at b) (λ w. either (ltb w top) (known_by 1 at w (unknown t.rows (numbers_in 0 w))) (halt 1 at ThirdBitmap) (known 1 at w (unknown t.rows (numbers_in 0 w))) (λ e. cc))

abbrev words_of : ℕ → ℕ → ℕ → Result (ℕ × ℕ × ℕ) UnpackFault
words_of first second size = Ok (first, second, size)

words : (t : Layout) (at : ℕ) (b : List ℕ) → NeverMemory (words_at t at b)
words t at b =
    let size = map_size t.bitmap in
    binds (primary_at t at b) (words_by t at b)
    (binds (word_at t.bitmap 0 at b) (λ w. known_by 0 at w (unknown t.rows (numbers_in w 0))) (word t.bitmap 0 at b) (λ w. known 0 at w (unknown t.rows (numbers_in w 0))))
    (λ first. either (ltb first top) (words_of first 0 size) (secondary_at t (at + size) (drop size b) >>= λ second. words_of first second (size + size)) tt
    (binds (secondary_at t (at + size) (drop size b)) (λ second. words_of first second (size + size)) (secondary t (at + size) (drop size b)) (λ second. tt)))

answers : (s : FieldSpec) (n at len : ℕ) (o : FieldReading) → NeverMemory (answer s n at len o)
answers s n at len (got v used) = tt
answers s n at len more = λ e. cc
answers s n at len (fault f) = λ e. cc

value : (r : Option FieldSpec) (n at : ℕ) (b : List ℕ) → NeverMemory (value_by r n at b)
value None n at b = λ e. cc
value (Some s) n at b = answers s n at (length b) (part_at s b)

abbrev values : Values × ℕ → Result (Values × ℕ) UnpackFault
values x = Ok x

elements : (rows : List (Option FieldSpec)) (ns : List ℕ) (at : ℕ) (b : List ℕ) → NeverMemory (elements_at rows ns at b)
elements rows [] at b = tt
elements rows (n ∷ ns) at b =
    binds (value_at rows n at b) (λ first. elements_at rows ns (at + first.1) (drop first.1 b) >>= λ others. values ((n, first.0) ∷ others.0, others.1)) (value (row_at rows n) n at b)
    (λ first. binds (elements_at rows ns (at + first.1) (drop first.1 b)) (λ others. values ((n, first.0) ∷ others.0, others.1)) (elements rows ns (at + first.1) (drop first.1 b)) (λ others. tt))

pub message : (t : Layout) (b : List ℕ) → NeverMemory (message_at t b)
unfolding message_at
message t b =
    let size = mti_size t.mti in
    let behind = λ (mti : ℕ). λ (w : ℕ × ℕ × ℕ). elements_at t.rows (numbers_in w.0 w.1) (size + w.2) (drop (size + w.2) b) >>= λ read. whole (record { mti = mti; elements = read.0 }) read.1 in
    binds (type_at t b) (λ mti. words_at t size (drop size b) >>= behind mti) (type t b)
    (λ mti. binds (words_at t size (drop size b)) (behind mti) (words t size (drop size b))
    (λ w. binds (elements_at t.rows (numbers_in w.0 w.1) (size + w.2) (drop (size + w.2) b)) (λ read. whole (record { mti = mti; elements = read.0 }) read.1) (elements t.rows (numbers_in w.0 w.1) (size + w.2) (drop (size + w.2) b)) (λ read. tt)))
