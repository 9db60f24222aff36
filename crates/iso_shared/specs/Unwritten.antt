-- Why a batch isn't written.
use Rattle.std.specs.Prelude.{◌≡◌, false}
use Rattle.iso_shared.specs.declared.why.Why.{Why}
use Rattle.iso_shared.specs.declared.why.Why.TheVariants.{Fenced, InDoubt, Away, TooLarge, Memory}
use Rattle.iso_shared.specs.Batch.{BatchContents, is_filed}

-- it has too many orders, or names a place behind the last one; or memory ran out
abbrev pub IsUnwritten : BatchContents → Why → Type 0
IsUnwritten b TooLarge = is_filed b ≡ false
IsUnwritten b Memory = Unit {0}
IsUnwritten b Fenced = ⊥
IsUnwritten b InDoubt = ⊥
IsUnwritten b Away = ⊥
