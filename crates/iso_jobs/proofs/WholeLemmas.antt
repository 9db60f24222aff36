-- What reading gives.
use Rattle.std.proofs.Common.{ℕ, Result, Ok, Err}
use Rattle.iso_wire.specs.Contents.{Contents}
use Rattle.iso_wire.specs.declared.fault.UnpackFault.{UnpackFault}

-- how many bytes a message took that was read
abbrev pub size_in : Result (Contents × ℕ) UnpackFault → ℕ
size_in (Ok read) = read.1
size_in (Err e) = 0
