-- Elements whose values lie one behind another in a buffer, each up to its end.
-- Inner: bodies and proofs cite it, and no public clause does.
use Rattle.std.specs.Prelude.{◌≡◌, ◌≢◌, ℕ, ◌+◌, ◌-◌, ◌<◌, ◌≤◌, true, List, [], ◌∷◌, ◌++◌, length, take, drop}
use Rattle.iso_wire.specs.declared.elements.Elements.{Elements}
use Rattle.iso_parts.specs.declared.bitmap.Bitmap.{Bitmap}
use Rattle.iso_parts.specs.Bitmap.{contains}
use Rattle.iso_parts.specs.Numbers.{members}
use Rattle.iso_wire.specs.Elements.{has}

-- the elements with these numbers, whose values lie in a buffer from start on, each up to its end; where there are more
-- numbers than ends, those of the first numbers
abbrev pub elements_of : List ℕ → ℕ → List ℕ → List ℕ → List (ℕ × List ℕ)
elements_of ns start [] b = []
elements_of [] start (e ∷ es) b = []
elements_of (n ∷ ns) start (e ∷ es) b = (n, take (e - start) (drop start b)) ∷ elements_of ns e es b

-- the elements as a list, in their order
abbrev pub views : Elements → List (ℕ × List ℕ)
views x = elements_of (members x.numbers) 0 x.ends.items x.values.items

-- the ends don't descend from start on, and the last of them is given, or start where there is none
abbrev pub Ascend : ℕ → List ℕ → ℕ → Type 0
Ascend start [] last = start ≡ last
Ascend start (e ∷ es) last = (start ≤ e) × Ascend e es last

-- the last of the ends, or where the first value begins
abbrev pub last_end : ℕ → List ℕ → ℕ
last_end start [] = start
last_end start (e ∷ es) = last_end e es

-- an end, once bytes before it gave way to others
abbrev pub shifted_end : ℕ → ℕ → ℕ → ℕ
shifted_end removed added e = e - removed + added

-- each number has an end, and every byte of the buffer belongs to a value
pub record IsWhole (x : Elements) : Type 0 where
  pub ends : Ascend 0 x.ends.items (length x.values.items)
  pub count : length x.ends.items ≡ length (members x.numbers)

-- the first elements are there, and those with these numbers are still to come
pub record Awaits (x : Elements) (later : List ℕ) : Type 0 where
  pub ends : Ascend 0 x.ends.items (length x.values.items)
  pub done : List ℕ
  pub numbers : members x.numbers ≡ done ++ later
  pub count : length x.ends.items ≡ length done

-- the set has the numbers of the elements, and no other
abbrev pub IsNumbered : Elements → Type 0
IsNumbered x = (k : ℕ) → contains x.numbers k ≡ has (views x) k

-- the new set has the number n beside those of the old one
abbrev pub Adds : Bitmap → Bitmap → ℕ → Type 0
Adds old new n = (contains new n ≡ true) × ((k : ℕ) → k ≢ n → contains new k ≡ contains old k)

-- these ends and these bytes
pub record IsMadeOf (x : Elements) (es : List ℕ) (b : List ℕ) : Type 0 where
  pub ends : x.ends.items ≡ es
  pub values : x.values.items ≡ b

-- the same numbers, ends and bytes
pub record IsSame (old new : Elements) : Type 0 where
  pub numbers : new.numbers ≡ old.numbers
  pub ends : new.ends.items ≡ old.ends.items
  pub values : new.values.items ≡ old.values.items

-- the first number is above n
abbrev pub IsAbove : ℕ → List (ℕ × List ℕ) → Type 0
IsAbove n [] = Unit {0}
IsAbove n (e ∷ es) = n < e.0
