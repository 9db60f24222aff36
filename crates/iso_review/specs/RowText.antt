-- A change to a row as a text: `48 class=ANS length=LLLL max=9999`.
use Rattle.std.specs.List.{slice_split, before_first, after_first, list_any}
use Rattle.std.specs.Prelude.{ℕ, ◌+◌, ◌-◌, ◌*◌, ◌==◌, if◌then◌else◌, List, [], ◌∷◌, Option, None, Some, option_and_then, Result, Ok, Err, codes, find}
use Rattle.std.specs.Str.{bytes_eq}
use Rattle.iso_parts.specs.Class.{is_digit}
use Rattle.iso_table.specs.Members.{up_to}
use Rattle.iso_table.specs.Names.{class_named, coding_named, digits_named, pad_named}
use Rattle.iso_review.specs.declared.change.RowChange.{RowChange}
use Rattle.iso_review.specs.declared.change.RowFault.{RowFault}
use Rattle.iso_review.specs.declared.change.RowFault.TheVariants.{NoNumber, NoMember, Twice, BadValue}
use Rattle.iso_review.specs.declared.change.Member.{Member}
use Rattle.iso_review.specs.declared.change.Member.TheVariants as members
use Rattle.iso_review.specs.declared.kinds.LengthKind.{LengthKind}
use Rattle.iso_review.specs.declared.kinds.LengthKind.TheVariants as kinds
use Rattle.iso_review.specs.Changes.{◌>>=◌}

-- the name of a kind of lengths
abbrev pub kind_name : LengthKind → List ℕ
kind_name kinds.Fixed = codes "fixed"
kind_name kinds.LL = codes "LL"
kind_name kinds.LLL = codes "LLL"
kind_name kinds.LLLL = codes "LLLL"

-- the kind of this name
abbrev pub kind_named : List ℕ → Option LengthKind
kind_named t =
    find (λ k. bytes_eq t (kind_name k)) (kinds.Fixed ∷ kinds.LL ∷ kinds.LLL ∷ kinds.LLLL ∷ [])

-- the name of a member
abbrev pub member_name : Member → List ℕ
member_name members.Class = codes "class"
member_name members.Coding = codes "coding"
member_name members.Length = codes "length"
member_name members.Prefix = codes "prefix"
member_name members.Max = codes "max"
member_name members.Pad = codes "pad"

-- the member of this name
abbrev pub member_named : List ℕ → Option Member
member_named t = find (λ m. bytes_eq t (member_name m)) (members.Class ∷ members.Coding
    ∷ members.Length ∷ members.Prefix ∷ members.Max ∷ members.Pad ∷ [])

-- the number that digits write behind a number, up to 65535
abbrev pub number_after : ℕ → List ℕ → Option ℕ
number_after n [] = Some n
number_after n (d ∷ ds) = if is_digit d
    then option_and_then (λ m. number_after m ds) (up_to 65535 (10 * n + (d - 48))) else None

-- the number that one or more digits write
abbrev pub number_of : List ℕ → Option ℕ
number_of [] = None
number_of (d ∷ ds) = number_after 0 (d ∷ ds)

-- a change that gives nothing
abbrev pub no_change : ℕ → RowChange
no_change n = record {
  number = n;
  class = None;
  coding = None;
  length = None;
  prefix = None;
  max = None;
  pad = None;
}

-- a value for a member that has none yet
abbrev pub given : {X : Type 0} → Option X → Option X → Member → Result (Option X) RowFault
given (Some old) value m = Err (Twice m)
given None None m = Err (BadValue m)
given None (Some x) m = Ok (Some x)

-- a step that may fail, and then one that can't
abbrev pub with_value : {X : Type 0} → Result (Option X) RowFault → (Option X → RowChange)
    → Result RowChange RowFault
with_value (Err e) f = Err e
with_value (Ok v) f = Ok (f v)

-- the change with the value of a text for the member
abbrev pub with_text : RowChange → Member → List ℕ → Result RowChange RowFault
with_text c members.Class t =
    with_value (given c.class (class_named t) members.Class) (λ v. record c { class = v })
with_text c members.Coding t =
    with_value (given c.coding (coding_named t) members.Coding) (λ v. record c { coding = v })
with_text c members.Length t =
    with_value (given c.length (kind_named t) members.Length) (λ v. record c { length = v })
with_text c members.Prefix t =
    with_value (given c.prefix (digits_named t) members.Prefix) (λ v. record c { prefix = v })
with_text c members.Max t =
    with_value (given c.max (number_of t) members.Max) (λ v. record c { max = v })
with_text c members.Pad t =
    with_value (given c.pad (pad_named t) members.Pad) (λ v. record c { pad = v })

-- the member that a word names in front of its sign of equality, if it names one
abbrev pub member_in : List ℕ → Option Member
member_in w =
    if list_any (λ b. b == 61) w then member_named (before_first (λ b. b == 61) w) else None

-- the change with the member of the word at this place
abbrev pub with_member : ℕ → Option Member → List ℕ → RowChange → Result RowChange RowFault
with_member place None w c = Err (NoMember place)
with_member place (Some m) w c = with_text c m (after_first (λ b. b == 61) w)

-- the change with the members of words, so many being before them; an empty word stands between two blanks
abbrev pub with_words : ℕ → List (List ℕ) → RowChange → Result RowChange RowFault
with_words place [] c = Ok c
with_words place ([] ∷ ws) c = with_words place ws c
with_words place ((b ∷ bs) ∷ ws) c =
    with_member (place + 1) (member_in (b ∷ bs)) (b ∷ bs) c >>= with_words (place + 1) ws

-- the change of an element, if the number is one
abbrev pub change_by : Option ℕ → List (List ℕ) → Result RowChange RowFault
change_by None ws = Err NoNumber
change_by (Some n) ws = with_words 0 ws (no_change n)

-- the change that words write: first the element's number
abbrev pub change_of : List (List ℕ) → Result RowChange RowFault
change_of [] = Err NoNumber
change_of (w ∷ ws) = change_by (number_of w) ws

-- the change that a text writes, its words standing between blanks
abbrev pub row_change : List ℕ → Result RowChange RowFault
row_change text = change_of (slice_split (λ b. b == 32) text)
