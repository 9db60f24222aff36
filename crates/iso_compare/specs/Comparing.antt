-- What becomes of an answer beside the one that was expected.
use Rattle.std.specs.Prelude.{◌≡◌, ℕ, ◌<◌, List, length}
use Rattle.iso_table.specs.Layout.{Layout}
use Rattle.iso_wire.specs.Contents.{Contents}
use Rattle.iso_wire.specs.Spelling.{Spelling, BeginsWith}
use Rattle.iso_wire.specs.Stops.{Stops}
use Rattle.iso_compare.specs.Differing.{Tells}
use Rattle.iso_compare.specs.declared.reading.NoMessage.{NoMessage}
use Rattle.iso_compare.specs.declared.reading.NoMessage.TheVariants.{Stopped, Trailing}
use Rattle.iso_compare.specs.declared.reading.Reading.{Reading}
use Rattle.iso_compare.specs.declared.reading.Reading.TheVariants as readings
use Rattle.iso_compare.specs.declared.comparison.Side.TheVariants.{Expected, Came}
use Rattle.iso_compare.specs.declared.comparison.Comparison.{Comparison}
use Rattle.iso_compare.specs.declared.comparison.Comparison.TheVariants.{Same, Differ, Unreadable}

-- why the bytes are no message: they stop being one at a place, or bytes follow it
abbrev pub IsNoMessage : Layout → List ℕ → NoMessage → Type 0
IsNoMessage t b (Stopped e) = Stops t b e.at e.element e.cause
IsNoMessage t b (Trailing used total) = ((m : Contents) × BeginsWith t m used b) × (used < total)
    × (total ≡ length b)

-- what the bytes are
abbrev pub IsReading : Layout → List ℕ → Reading → Type 0
IsReading t b (readings.Whole m) = Spelling t m b
IsReading t b (readings.No why) = IsNoMessage t b why

-- the bytes are the same; or two messages, which differ so; or the first that are no message, and why
abbrev pub Compares : Layout → List ℕ → List ℕ → Comparison → Type 0
Compares t expected came Same = expected ≡ came
Compares t expected came (Differ d) = (m : Contents) × (n : Contents) × Spelling t m expected
    × Spelling t n came × Tells m n d
Compares t expected came (Unreadable Expected why) = IsNoMessage t expected why
Compares t expected came (Unreadable Came why) = ((m : Contents) × Spelling t m expected)
    × IsNoMessage t came why
