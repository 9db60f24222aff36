-- What a process that dies leaves is one of the outcomes of a crash.
use Rattle.std.specs.Prelude.{ℕ, List, [], ◌∷◌}
use Rattle.sqlite_disk.proofs.EventLemmas.{Holds-overlaid, Torn-overlaid, Mixed-held}
use Rattle.sqlite_disk.specs.Events.{overlaid}
use Rattle.iso_gather.specs.Shown.{shown, Leaves}

-- where a crash may leave a file, it may leave it as it is shown
pub shown_may_stay : (at : ℕ) (waiting : List ℕ) (may_leave : List ℕ → Type 0) (file : List ℕ)
    → may_leave file → Leaves at waiting may_leave (shown at waiting file)
shown_may_stay at [] may_leave file may = may
shown_may_stay at (byte ∷ more) may_leave file may =
    let bytes = byte ∷ more in (
      file,
      may,
      Mixed-held at bytes file (overlaid file at bytes)
          (Torn-overlaid file at bytes) (Holds-overlaid file at bytes),
    )
