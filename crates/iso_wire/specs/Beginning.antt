-- What a message begins with, before its elements: its type, and its bitmaps, which tell the numbers of those that follow.
-- Inner: bodies and proofs cite it, and no public clause does.
use Rattle.std.specs.Prelude.{ℕ, ◌+◌, List, drop, Result, Ok}
use Rattle.iso_parts.specs.Mti.{mti_number, mti_size}
use Rattle.iso_parts.specs.Numbers.{members, numbers_in}
use Rattle.iso_table.specs.Layout.{Layout}
use Rattle.iso_wire.specs.declared.fault.UnpackFault.{UnpackFault}
use Rattle.iso_wire.specs.declared.front.Beginning.{Beginning}
use Rattle.iso_wire.specs.Reading.{◌>>=◌, type_at, words_at}

-- the type, the numbers of the elements, and the offset at which the first of them begins
abbrev pub beginning_at : Layout → List ℕ → Result (ℕ × List ℕ × ℕ) UnpackFault
beginning_at t b = do
  mti ← type_at t b
  words ← words_at t (mti_size t.mti) (drop (mti_size t.mti) b)
  Ok (mti, numbers_in words.0 words.1, mti_size t.mti + words.2)

-- the same three of a beginning that was read
abbrev pub begun : Beginning → ℕ × List ℕ × ℕ
begun x = (mti_number x.mti, members x.numbers, x.end)
