-- How a message is built: element by element, of ascending numbers.
-- Inner: bodies and proofs cite it, and no public clause does.
use Rattle.std.specs.Prelude.{ℕ, ◌+◌, Bool, true, ◌==◌, ◌&&◌, ◌||◌, nat_le, List, [], ◌∷◌, ◌++◌, Option}
use Rattle.iso_parts.specs.Numbers.{is_element}
use Rattle.iso_wire.specs.Contents.{Contents}
use Rattle.iso_wire.specs.Elements.{has}
use Rattle.iso_order.specs.Listing.{element_where}
use Rattle.iso_order.specs.Response.{is_echoed}

-- the elements of those numbers that have a value
abbrev pub elements_with_value : (ℕ → Option (List ℕ)) → List ℕ → List (ℕ × List ℕ)
elements_with_value value [] = []
elements_with_value value (n ∷ ns) = element_where n (value n) ++ elements_with_value value ns

-- numbers from `low` on that pass the test, ascending
abbrev pub are_ascending : (ℕ → Bool) → ℕ → List ℕ → Bool
are_ascending test low [] = true
are_ascending test low (n ∷ ns) = nat_le low n && test n && are_ascending test (n + 1) ns

-- a number that an element of a response can have
abbrev pub is_responded : ℕ → Bool
is_responded n = is_element n && (n == 38 || n == 39 || n == 54 || is_echoed n)

-- the numbers that an element of a response can have
abbrev pub answered : List ℕ
answered = 2 ∷ 3 ∷ 4 ∷ 7 ∷ 11 ∷ 12 ∷ 13 ∷ 32 ∷ 33 ∷ 37 ∷ 38 ∷ 39 ∷ 41 ∷ 42 ∷ 49 ∷ 54 ∷ 70 ∷ 90 ∷ []

-- whether the message has an element that is given back, but isn't one of most payments
abbrev pub is_rare_payment : Contents → Bool
is_rare_payment m =
    ((((((has m.elements 12 || has m.elements 13) || has m.elements 33) || has m.elements 37)
    || has m.elements 41) || has m.elements 42) || has m.elements 70) || has m.elements 90

-- whether the message has an element that is given back, but isn't one of most network messages
abbrev pub is_rare_network : Contents → Bool
is_rare_network m =
    ((((((((((has m.elements 2 || has m.elements 3) || has m.elements 4) || has m.elements 12)
    || has m.elements 13) || has m.elements 32) || has m.elements 33) || has m.elements 37)
    || has m.elements 41) || has m.elements 42) || has m.elements 49) || has m.elements 90
