-- The heading of a journal, and why a file has not the one that is wanted.
use Rattle.std.specs.Prelude.{◌≡◌, ℕ, List, [], ◌∷◌, Option, Some, None}
use Rattle.iso_log.specs.Slots.{records_of}
use Rattle.iso_record.specs.declared.heading.HeadingFault.{HeadingFault}
use Rattle.iso_record.specs.declared.heading.HeadingFault.TheVariants.{Format, Rules, Accounts}
use Rattle.iso_record.specs.Heading.{heading_bytes, heading_fault}
use Rattle.iso_books.specs.Records.{IsTaken}
use Rattle.iso_books.specs.declared.heading.Wanted.{Wanted}
use Rattle.iso_books.specs.declared.heading.Wanted.TheVariants.{Any, Only}
use Rattle.iso_books.specs.declared.fault.BooksFault.{BooksFault}
use Rattle.iso_books.specs.declared.fault.BooksFault.TheVariants as faults

-- that it is no journal of this format, if it tells that
abbrev pub format_alone : Option HeadingFault → Option HeadingFault
format_alone (Some Format) = Some Format
format_alone (Some Rules) = None
format_alone (Some Accounts) = None
format_alone None = None

-- what a first record tells otherwise than is wanted: any heading, or this one
abbrev pub told_by : Wanted → List ℕ → Option HeadingFault
told_by Any first = format_alone (heading_fault first
    (heading_bytes (record { rules = 0; first = 0; second = 0; third = 0; fourth = 0 })))
told_by (Only heading) first = heading_fault first (heading_bytes heading)

-- the same of all records: a file without any is no journal
abbrev pub told_of : Wanted → List (List ℕ) → Option HeadingFault
told_of wanted [] = Some Format
told_of wanted (first ∷ rs) = told_by wanted first

-- the file begins with a heading that is wanted, and this is left behind it
pub record IsHeaded (wanted : Wanted) (file rest : List ℕ) : Type 0 where
  pub first : List ℕ
  pub taken : IsTaken first file rest
  pub none : told_by wanted first ≡ None

-- the fault of a heading is what the file tells otherwise
abbrev pub IsOther : Wanted → List ℕ → BooksFault → Type 0
IsOther wanted file (faults.Other fault) = told_of wanted (records_of file) ≡ Some fault
IsOther wanted file faults.Read = Unit
IsOther wanted file faults.Write = Unit
IsOther wanted file faults.Memory = Unit
