-- The members of a JSON object, as the documents of tables and of accounts read them.
use Rattle.std.specs.Prelude.{ℕ, ◌+◌, ◌==◌, nat_le, Bool, false, List, Option, None, Some, option_and_then, if◌then◌else◌}
use Rattle.serde_json.specs.Data.{Data, Members, no_members, member}
use Rattle.serde_json.specs.Find.{get, as_object, as_number, as_u64, as_str}

-- how many members there are
abbrev pub member_count : Members → ℕ
member_count no_members = 0
member_count (member k d ms) = member_count ms + 1

-- whether there are members, and so many
abbrev pub counts_to : ℕ → Option Members → Bool
counts_to n None = false
counts_to n (Some ms) = member_count ms == n

-- an object of so many members
abbrev pub has_size : ℕ → Data → Bool
has_size n d = counts_to n (as_object d)

-- the text at a member
abbrev pub text_at : List ℕ → Data → Option (List ℕ)
text_at key d = option_and_then as_str (get key d)

-- what a step gives, handed to the next one
infixl 10 ◌>>=◌
-- a step, and the next one where the first gave something
abbrev pub ◌>>=◌ : {X Y : Type 0} → Option X → (X → Option Y) → Option Y
None >>= f = None
Some x >>= f = f x

-- the number, if it isn't above the greatest one
abbrev pub up_to : ℕ → ℕ → Option ℕ
up_to most n = if nat_le n most then Some n else None

-- the whole number at a member, where it fits a u64
abbrev pub u64_at : List ℕ → Data → Option ℕ
u64_at key d = get key d >>= as_number >>= as_u64

-- the whole number at a member, up to a greatest one
abbrev pub whole_at : List ℕ → ℕ → Data → Option ℕ
whole_at key most d = u64_at key d >>= up_to most
