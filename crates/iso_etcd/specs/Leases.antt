-- Tokens and leases, as etcd tells them.
use Rattle.std.specs.Prelude.{◌≡◌, ℕ, ◌<◌, ◌^◌, List, Option, Some, None, option_and_then, codes}
use Rattle.std.specs.Str.Parse.{IsNumeral, digits_value, without_leading_plus}
use Rattle.serde_json.specs.Data.{Data}
use Rattle.serde_json.specs.Find.{get, as_str}
use Rattle.iso_etcd.specs.Answers.{IsJson}

-- the text of a member
abbrev pub text_in : List ℕ → Data → Option (List ℕ)
text_in name answer = option_and_then as_str (get name answer)

-- decimal digits write a number of at most 64 bits
abbrev pub Writes : List ℕ → ℕ → Type 0
Writes text number =
    (IsNumeral 10 (without_leading_plus text)
    × (digits_value 10 (without_leading_plus text) < 2 ^ 64))
    × (number ≡ digits_value 10 (without_leading_plus text))

-- the number of a member, which is written as a text
abbrev pub IsWritten : Option (List ℕ) → ℕ → Type 0
IsWritten None number = ⊥
IsWritten (Some text) number = Writes text number

-- the member of that name has this number
abbrev pub IsNumber : List ℕ → Data → ℕ → Type 0
IsNumber name answer number = IsWritten (text_in name answer) number

-- the body tells this token
abbrev pub IsToken : List ℕ → List ℕ → Type 0
IsToken body token = (answer : Data) × IsJson body answer
    × (text_in (codes "token") answer ≡ Some token)

-- the body tells this lease, which is granted
abbrev pub IsLease : List ℕ → ℕ → Type 0
IsLease body lease = (answer : Data) × IsJson body answer × IsNumber (codes "ID") answer lease

-- the body tells that a lease is kept for so many seconds more; where it is gone, no seconds are told
abbrev pub KeepsFor : Option Data → ℕ → Type 0
KeepsFor None seconds = ⊥
KeepsFor (Some kept) seconds = IsNumber (codes "TTL") kept seconds

-- the body tells that its lease is kept for so many seconds more
abbrev pub IsKept : List ℕ → ℕ → Type 0
IsKept body seconds = (answer : Data) × IsJson body answer
    × KeepsFor (get (codes "result") answer) seconds
