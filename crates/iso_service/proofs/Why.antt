-- Why a file is refused.
use Rattle.std.proofs.Common.{◌≡◌, ℕ, List, take, subst}
use Rattle.std.specs.Prelude.{Option, Some, None, IfSome}
use Rattle.iso_service.specs.Front.{front_fault}
use Rattle.iso_service.specs.Starting.{IsWhy, IsOfDisk}
use Rattle.iso_service.specs.declared.front.FrontFault.{FrontFault}
use Rattle.iso_service.specs.declared.fault.StartFault.{StartFault}
use Rattle.iso_service.specs.declared.fault.StartFault.TheVariants.{File, Front, Damaged, Cut, NotMade, Unfit}

-- by its first bytes
pub why_front : (known : Option (List ℕ)) (bytes wanted : List ℕ) (fault : FrontFault) → IfSome known (λ held. bytes ≡ take 128 held)
    → front_fault bytes wanted ≡ Some fault → IfSome known (λ held. IsWhy wanted held (Front fault))
why_front None bytes wanted fault same is = tt
why_front (Some held) bytes wanted fault same is = subst (λ (l : List ℕ). front_fault l wanted ≡ Some fault) same is

-- and not by them
pub why_other : (known : Option (List ℕ)) (wanted : List ℕ) (fault : StartFault) → IsOfDisk fault → IfSome known (λ held. IsWhy wanted held fault)
why_other None wanted fault other = tt
why_other (Some held) wanted (Front fault) other = absurd other
why_other (Some held) wanted (File fault) other = tt
why_other (Some held) wanted (Damaged place) other = tt
why_other (Some held) wanted Cut other = tt
why_other (Some held) wanted NotMade other = tt
why_other (Some held) wanted Unfit other = tt
