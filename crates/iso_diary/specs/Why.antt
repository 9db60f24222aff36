-- Why a diary is refused.
use Rattle.std.specs.Prelude.{◌≡◌, ◌<◌, ◌+◌, ℕ, List, length, take, nat_lt, if◌then◌else◌, Option, Some}
use Rattle.iso_log.specs.Slots.{records_of}
use Rattle.iso_diary.specs.declared.heading.HeadingFault.{HeadingFault}
use Rattle.iso_diary.specs.declared.heading.HeadingFault.TheVariants.{Format}
use Rattle.iso_diary.specs.Heading.{heading_fault}
use Rattle.iso_diary.specs.declared.error.OpenError.{OpenError}
use Rattle.iso_diary.specs.declared.error.OpenError.TheVariants.{Memory, Disk, Unfit, Other, Damaged}
use Rattle.iso_diary.specs.Kept.{AreNotes}

-- what a file tells otherwise than the heading that is wanted. One with no record tells no format
abbrev pub other_heading : List ℕ → List ℕ → Option HeadingFault
other_heading wanted file =
    if nat_lt (length file) 128 then Some Format else heading_fault (take 128 file) wanted

-- the records in front of this one are notes at their places, and this one isn't
pub record IsDamaged (place : ℕ) (records : List (List ℕ)) : Type 0 where
  pub there : place < length records
  pub front : AreNotes (take place records)
  pub not : AreNotes (take (place + 1) records) → ⊥

-- the reason of each error that tells of the file
abbrev pub IsWhy : List ℕ → List ℕ → OpenError → Type 0
IsWhy wanted file (Other fault) = other_heading wanted file ≡ Some fault
IsWhy wanted file (Damaged place) = IsDamaged place (records_of file)
IsWhy wanted file Memory = Unit
IsWhy wanted file Disk = Unit
IsWhy wanted file Unfit = Unit

-- one that tells nothing of it
abbrev pub IsPlain : OpenError → Type 0
IsPlain (Other fault) = ⊥
IsPlain (Damaged place) = ⊥
IsPlain Memory = Unit
IsPlain Disk = Unit
IsPlain Unfit = Unit

-- what the heading may show
abbrev pub IsOther : List ℕ → List ℕ → OpenError → Type 0
IsOther wanted file (Other fault) = other_heading wanted file ≡ Some fault
IsOther wanted file (Damaged place) = ⊥
IsOther wanted file Memory = Unit
IsOther wanted file Disk = Unit
IsOther wanted file Unfit = Unit

-- what the records may show
abbrev pub IsScanFault : List (List ℕ) → OpenError → Type 0
IsScanFault records (Other fault) = ⊥
IsScanFault records (Damaged place) = IsDamaged place records
IsScanFault records Memory = Unit
IsScanFault records Disk = Unit
IsScanFault records Unfit = Unit
