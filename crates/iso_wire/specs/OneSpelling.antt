-- Each message that a table doesn't refuse has one plain spelling.
use Rattle.std.specs.Prelude.{◌≡◌, ℕ, ◌<◌, List, [], ◌∷◌, None}
use Rattle.iso_table.specs.Layout.{Layout, AreGood}
use Rattle.iso_wire.specs.Contents.{Contents}
use Rattle.iso_wire.specs.Elements.{IsAscending}
use Rattle.iso_wire.specs.Refusal.{message_refusal}
use Rattle.iso_wire.specs.Spelling.{PlainSpelling, AreBytes}

-- each item of each value is a byte
abbrev pub AreOfBytes : List (ℕ × List ℕ) → Type 0
AreOfBytes [] = Unit {0}
AreOfBytes (e ∷ es) = AreBytes e.1 × AreOfBytes es

-- what holds of each message: its type has four digits, its elements ascend, and their values are of bytes
pub record WellFormed (m : Contents) : Type 0 where
  pub mti : m.mti < 10000
  pub ascending : IsAscending 2 m.elements
  pub bytes : AreOfBytes m.elements

-- each message that the table doesn't refuse has a plain spelling
abbrev pub HasPlain : Type 0
HasPlain = (t : Layout) (m : Contents) → AreGood t.rows → WellFormed m → message_refusal t m ≡ None
    → (b : List ℕ) × PlainSpelling t m b

-- and no message has two
abbrev pub PlainOnce : Type 0
PlainOnce = (t : Layout) (m : Contents) (a b : List ℕ) → PlainSpelling t m a → PlainSpelling t m b
    → a ≡ b
