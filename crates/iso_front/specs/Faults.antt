-- Why prefixes aren't given to a shard.
use Rattle.iso_front.specs.declared.prefixes.Given.{Given}
use Rattle.iso_front.specs.declared.fault.GiveFault.{GiveFault}
use Rattle.iso_front.specs.declared.fault.GiveFault.TheVariants.{Meets, NoShard, Memory}

-- a fact on those that they meet, where they meet some
abbrev pub IfMeets : GiveFault → (Given → Type 0) → Type 0
IfMeets (Meets g) P = P g
IfMeets NoShard P = Unit {0}
IfMeets Memory P = Unit {0}
