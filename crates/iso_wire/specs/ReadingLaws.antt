-- What is read of bytes, and what they spell.
use Rattle.std.specs.Prelude.{◌≡◌, ◌↔◌, ℕ, List, ◌++◌, Result, Ok, Err}
use Rattle.iso_table.specs.Layout.{Layout, AreGood}
use Rattle.iso_wire.specs.declared.fault.UnpackFault.{UnpackFault}
use Rattle.iso_wire.specs.declared.fault.UnpackCause.TheVariants.{Short}
use Rattle.iso_wire.specs.Contents.{Contents}
use Rattle.iso_wire.specs.Reading.{message_at, whole}
use Rattle.iso_wire.specs.Spelling.{AreBytes, BeginsWith}

-- a message and a length are read exactly where the first bytes, so many of them, spell the message
abbrev pub ReadsSpellings : Type 0
ReadsSpellings = (t : Layout) (m : Contents) (n : ℕ) (b : List ℕ) → AreGood t.rows → AreBytes b
    → (message_at t b ≡ whole m n) ↔ BeginsWith t m n b

-- the bytes end inside a piece
abbrev pub IsShort : {A : Type 0} → Result A UnpackFault → Type 0
IsShort (Ok x) = ⊥
IsShort (Err e) = e.cause ≡ Short

-- what is read stays, whatever bytes follow, unless they end inside a piece
abbrev pub ReadingStays : Type 0
ReadingStays = (t : Layout) (b more : List ℕ) → AreGood t.rows → AreBytes b
    → (IsShort (message_at t b) → ⊥) → message_at t (b ++ more) ≡ message_at t b
