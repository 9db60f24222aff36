-- Why a journal is refused.
use Rattle.std.specs.Prelude.{◌≡◌, ◌<◌, ◌+◌, ℕ, List, length, take, nat_lt, if◌then◌else◌, Option, Some}
use Rattle.iso_issuer.specs.declared.account.Account.{Account}
use Rattle.iso_log.specs.Slots.{records_of}
use Rattle.iso_record.specs.declared.heading.HeadingFault.{HeadingFault}
use Rattle.iso_record.specs.declared.heading.HeadingFault.TheVariants.{Format}
use Rattle.iso_record.specs.Heading.{heading_fault}
use Rattle.iso_journal.specs.declared.error.OpenError.{OpenError}
use Rattle.iso_journal.specs.declared.error.OpenError.TheVariants.{Memory, Disk, Unfit, Other, Damaged}
use Rattle.iso_journal.specs.Written.{IsReplayed}

-- what a file tells otherwise than the heading that is wanted. One with no record tells no format
abbrev pub other_heading : List ℕ → List ℕ → Option HeadingFault
other_heading wanted file =
    if nat_lt (length file) 128 then Some Format else heading_fault (take 128 file) wanted

-- a host writes the records in front of this one, and doesn't write it then
pub record IsDamaged (accounts : List Account) (limit place : ℕ)
    (records : List (List ℕ)) : Type 0 where
  pub there : place < length records
  pub front : IsReplayed accounts limit (take place records)
  pub not : IsReplayed accounts limit (take (place + 1) records) → ⊥

-- the reason of each error that tells of the file
abbrev pub IsWhy : List Account → ℕ → List ℕ → List ℕ → OpenError → Type 0
IsWhy accounts limit wanted file (Other fault) = other_heading wanted file ≡ Some fault
IsWhy accounts limit wanted file (Damaged place) = IsDamaged accounts limit place (records_of file)
IsWhy accounts limit wanted file Memory = Unit
IsWhy accounts limit wanted file Disk = Unit
IsWhy accounts limit wanted file Unfit = Unit

-- one that tells nothing of it
abbrev pub IsPlain : OpenError → Type 0
IsPlain (Other fault) = ⊥
IsPlain (Damaged place) = ⊥
IsPlain Memory = Unit
IsPlain Disk = Unit
IsPlain Unfit = Unit

-- what the heading may show
abbrev pub IsOther : List ℕ → List ℕ → OpenError → Type 0
IsOther wanted file (Other fault) = other_heading wanted file ≡ Some fault
IsOther wanted file (Damaged place) = ⊥
IsOther wanted file Memory = Unit
IsOther wanted file Disk = Unit
IsOther wanted file Unfit = Unit

-- what the replay may show
abbrev pub IsReplayFault : List Account → ℕ → List (List ℕ) → OpenError → Type 0
IsReplayFault accounts limit records (Other fault) = ⊥
IsReplayFault accounts limit records (Damaged place) = IsDamaged accounts limit place records
IsReplayFault accounts limit records Memory = Unit
IsReplayFault accounts limit records Disk = Unit
IsReplayFault accounts limit records Unfit = Unit
