-- How each way to stop is told.
use Rattle.std.specs.Prelude.{ℕ}
use Rattle.rumpadol_tables.specs.declared.stop.Stop.{Stop}
use Rattle.rumpadol_tables.specs.declared.stop.Stop.TheVariants.{Refused, Words, Device, Output, Memory}

-- the status: 1 where an input is refused, 2 where the command line is, 3 where a device or memory failed
abbrev pub status_of : Stop → ℕ
status_of (Refused text) = 1
status_of (Words text) = 2
status_of (Device text) = 3
status_of Output = 3
status_of Memory = 3
