-- Values that are made of parts.
use Rattle.std.specs.Prelude.{◌≡◌, ℕ, ◌+◌, ◌%◌, ◌==◌, ◌&&◌, ◌||◌, ◌≤◌, nat_le, Bool, List, [], ◌∷◌}
use Rattle.iso_meaning.specs.declared.splits.Part.{Part}

-- the parts lie side by side, from a first place to a last one, and none is empty
abbrev pub AreAdjacent : ℕ → ℕ → List Part → Type 0
AreAdjacent from to [] = from ≡ to
AreAdjacent from to (p ∷ ps) = (p.start ≡ from) × (p.start + 1 ≤ p.end) × AreAdjacent p.end to ps

-- the parts lie side by side, from a first place to a last one; some may be empty
abbrev pub AreOrdered : ℕ → ℕ → List Part → Type 0
AreOrdered from to [] = from ≡ to
AreOrdered from to (p ∷ ps) = (p.start ≡ from) × (p.start ≤ p.end) × AreOrdered p.end to ps

-- there are no parts, or they lie side by side and fill a value of this size
abbrev pub ArePartsOf : ℕ → List Part → Type 0
ArePartsOf size [] = Unit {0}
ArePartsOf size (p ∷ ps) = AreAdjacent 0 size (p ∷ ps)

-- from one to six additional amounts of twenty characters
abbrev pub are_amounts : ℕ → Bool
are_amounts size = nat_le 20 size && nat_le size 120 && size % 20 == 0

-- whether a value of this element and size is made of parts: processing code (3), additional amounts (54), original
-- data elements (90), replacement amounts (95)
abbrev pub has_parts : ℕ → ℕ → Bool
has_parts n size =
    (n == 3 && size == 6) || (n == 54 && are_amounts size) || ((n == 90 || n == 95) && size == 42)
