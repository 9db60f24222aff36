-- A file with bytes that wait to be written over it.
use Rattle.std.specs.Prelude.{ℕ, List, [], ◌∷◌}
use Rattle.sqlite_disk.specs.Disk.{Mixed}
use Rattle.sqlite_disk.specs.Events.{overlaid}

-- the file as it reads: the bytes that wait are over it
abbrev pub shown : ℕ → List ℕ → List ℕ → List ℕ
shown at [] file = file
shown at (byte ∷ more) file = overlaid file at (byte ∷ more)

-- what a crash leaves: what it leaves of the file below, with each byte that waits come over it or not
abbrev pub Leaves : ℕ → List ℕ → (List ℕ → Type 0) → List ℕ → Type 0
Leaves at [] may_leave c = may_leave c
Leaves at (byte ∷ more) may_leave c = (d : List ℕ) × may_leave d × Mixed at (byte ∷ more) d c
