-- A part judged without its value: the length and the body, each when it is whole.
use Rattle.std.specs.Prelude.{◌≡◌, ◌≢◌, ◌≤◌, ℕ, nat_lt, List, length, take, Option, Some, None, Result, Ok, Err, if◌then◌else◌}
use Rattle.iso_parts.specs.declared.spec.FieldSpec.{FieldSpec}
use Rattle.iso_parts.specs.declared.fault.FieldFault.{FieldFault}
use Rattle.iso_parts.specs.declared.fault.FieldFault.TheVariants.{Memory}
use Rattle.iso_parts.specs.declared.judging.Judged.{Judged}
use Rattle.iso_parts.specs.declared.judging.Judged.TheVariants as judgements
use Rattle.iso_parts.specs.Reading.{FieldReading, got, more, fault, prefix_size, prefix_of, body_size, body_of}

-- the count of a length that is whole, or what is wrong with it
abbrev pub some_count : Result ℕ FieldFault → Result (Option ℕ) FieldFault
some_count (Ok n) = Ok (Some n)
some_count (Err e) = Err e

-- the count that the length at the front tells; nothing where bytes are missing
abbrev pub count_at : FieldSpec → List ℕ → Result (Option ℕ) FieldFault
count_at s b = if nat_lt (length b) (prefix_size s.length) then Ok None
    else some_count (prefix_of s (take (prefix_size s.length) b))

-- a length was judged as that count is: how many bytes it takes, which are there, and the count, at most the maximum
abbrev pub IsFront : FieldSpec → List ℕ → Result (Option (ℕ × ℕ)) FieldFault → Type 0
IsFront s b (Ok (Some x)) = (count_at s b ≡ Ok (Some x.1)) × (x.0 ≡ prefix_size s.length)
    × (x.0 ≤ length b) × (x.1 ≤ s.max)
IsFront s b (Ok None) = count_at s b ≡ Ok None
IsFront s b (Err e) = (count_at s b ≡ Err e) × (e ≢ Memory)

-- the size of a body that is whole, or what is wrong with it
abbrev pub some_size : ℕ → Result (List ℕ) FieldFault → Result (Option ℕ) FieldFault
some_size size (Ok v) = Ok (Some size)
some_size size (Err e) = Err e

-- how many bytes the body of n characters at the front takes; nothing where bytes are missing
abbrev pub size_at : FieldSpec → ℕ → List ℕ → Result (Option ℕ) FieldFault
size_at s n b =
    let size = body_size s.coding n in
    if nat_lt (length b) size then Ok None else some_size size (body_of s n (take size b))

-- the answer is that of reading, with where the body begins in place of the value
abbrev pub Judges : ℕ → Result Judged FieldFault → FieldReading → Type 0
Judges front (Ok (judgements.Got body used)) o = (body ≡ front)
    × ((value : List ℕ) × (o ≡ got value used))
Judges front (Ok judgements.More) o = o ≡ more
Judges front (Err e) o = o ≡ fault e

-- of what was judged good: where its body begins, and how many bytes its part takes
abbrev pub IfJudged : Result Judged FieldFault → (ℕ → ℕ → Type 0) → Type 0
IfJudged (Ok (judgements.Got body used)) P = P body used
IfJudged (Ok judgements.More) P = Unit {0}
IfJudged (Err e) P = Unit {0}
