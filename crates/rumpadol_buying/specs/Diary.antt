-- Why there is no diary to go on with.
use Rattle.std.specs.Prelude.{Bool, true, false}
use Rattle.rumpadol_buying.specs.declared.diary.DiaryFault.{DiaryFault}
use Rattle.rumpadol_buying.specs.declared.diary.DiaryFault.TheVariants as why

-- what was given is refused: the path is taken, or the file is no diary of this acquirer that can be gone on with
abbrev pub is_refusal : DiaryFault → Bool
is_refusal why.Missing = false
is_refusal why.Exists = true
is_refusal why.Busy = false
is_refusal why.Denied = false
is_refusal (why.File f) = false
is_refusal (why.Other f) = true
is_refusal (why.Damaged place) = true
is_refusal why.Notes = true
is_refusal why.Device = false
is_refusal why.Unfit = false
is_refusal why.Memory = false
