-- What serving one connection leaves, and what telling its end does.
-- Inner: bodies and proofs cite it, and no public clause does.
use Rattle.std.specs.Prelude.{◌≡◌, ◌≢◌, ◌⊎◌, ℕ, List, Result, Err}
use Rattle.std.specs.Io.KnownBytes.{Appends}
use Rattle.iso_table.specs.Layout.{Layout}
use Rattle.iso_issuer.specs.Books.{Books}
use Rattle.iso_host.specs.declared.fault.Report.{Report}
use Rattle.iso_host.specs.declared.fault.ServeFault.{ServeFault}
use Rattle.iso_host.specs.declared.fault.ServeFault.TheVariants.{Memory}
use Rattle.iso_host.specs.Entering.{books_after_bodies}
use Rattle.iso_cli.specs.Connections.{CountsBodies, Lines, output_line, fault_line}

-- the orders of some bodies were entered, and no other
pub record IsConnection (t : Layout) (old new : Books)
    (ended : Result Report ServeFault) : Type 0 where
  pub bodies : List (List ℕ)
  pub journal : new ≡ books_after_bodies t old bodies
  pub counted : CountsBodies t bodies ended

-- the lines were written, and it didn't end for want of memory
pub record TellsEnd (before after : Lines) (ended : Result Report ServeFault) : Type 0 where
  pub output : Appends before.output after.output (output_line ended)
  pub faults : Appends before.faults after.faults (fault_line ended)
  pub memory : ended ≢ Err Memory

-- the status is 0 where that is so, and else 3
abbrev pub TellsConnectionEnd : Lines → Lines → Result Report ServeFault → ℕ → Type 0
TellsConnectionEnd before after ended status =
    ((status ≡ 0) × TellsEnd before after ended) ⊎ (status ≡ 3)
