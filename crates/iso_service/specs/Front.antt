-- What the first bytes of a file tell.
use Rattle.std.specs.Prelude.{◌==◌, ℕ, Bool, List, length, take, nat_lt, if◌then◌else◌, Option, Some, option_map}
use Rattle.std.specs.List.{list_all}
use Rattle.iso_record.specs.Heading.{heading_fault}
use Rattle.iso_record.specs.declared.heading.HeadingFault.{HeadingFault}
use Rattle.iso_record.specs.declared.heading.HeadingFault.TheVariants as heading
use Rattle.iso_service.specs.declared.front.FrontFault.{FrontFault}
use Rattle.iso_service.specs.declared.front.FrontFault.TheVariants.{Empty, Short, Zeros, Foreign, OtherRules, OtherAccounts}

-- a byte that no heading has
abbrev pub is_zero : ℕ → Bool
is_zero b = b == 0

-- a heading that isn't the one that is wanted
abbrev pub told : HeadingFault → FrontFault
told heading.Format = Foreign
told heading.Rules = OtherRules
told heading.Accounts = OtherAccounts

-- what the first bytes of a file tell, where the heading has these bytes: too few, all zeros, or what the heading tells
abbrev pub front_fault : List ℕ → List ℕ → Option FrontFault
front_fault front wanted =
    if length front == 0 then Some Empty
    else if nat_lt (length front) 128 then Some (Short (length front))
    else if list_all is_zero (take 128 front) then Some Zeros
    else option_map told (heading_fault (take 128 front) wanted)
