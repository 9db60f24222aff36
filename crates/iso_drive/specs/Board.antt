-- What a driver has of its acquirer.
-- Inner: bodies and proofs cite it, and no public clause does but by `IsDriving`.
use Rattle.std.specs.Prelude.{◌≡◌, ℕ, List, if◌then◌else◌}
use Rattle.iso_acquirer.specs.declared.slot.Slot.{Slot}
use Rattle.iso_waits.specs.declared.due.Due.{Due}
use Rattle.iso_waits.specs.Waits.{times, without}
use Rattle.iso_drive.specs.declared.board.Board.{Board}
use Rattle.iso_drive.specs.declared.heard.Heard.{Heard}
use Rattle.iso_drive.specs.declared.heard.Heard.TheVariants.{Closed, Known, Foreign}
use Rattle.iso_drive.specs.Open.{is_open_at}
use Rattle.iso_drive.specs.Made.{IsTabled}

-- each open transaction waits once, and nothing else does
abbrev pub IsAwaited : List Due → List Slot → Type 0
IsAwaited waiting slots =
    (stan : ℕ) → times stan waiting ≡ (if is_open_at slots stan then 1 else 0)

-- it has these orders, and the open transactions among them wait
pub record IsBoard (b : Board) (slots : List Slot) : Type 0 where
  pub tabled : IsTabled b.made.items slots
  pub awaited : IsAwaited b.waiting.items slots

-- who waits once an answer came to that
abbrev pub waiting_after : List Due → Heard → List Due
waiting_after waiting (Closed stan state) = without stan waiting
waiting_after waiting Known = waiting
waiting_after waiting Foreign = waiting
