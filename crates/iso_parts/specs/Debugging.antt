-- What `Debug` writes of a field that is read: how many bytes its value has, and none of them.
use Rattle.std.specs.Prelude.{ℕ, List, ◌++◌, length, codes}
use Rattle.std.specs.Fmt.{decimal}
use Rattle.iso_parts.specs.declared.field.Step.{Step}
use Rattle.iso_parts.specs.declared.field.Step.TheVariants as step

-- how long the value is, and how many bytes the field takes
abbrev pub debug_step : Step → List ℕ
debug_step (step.Got value used) = codes "Got { value_len: "
    ++ (decimal (length value.items) ++ (codes ", used: " ++ (decimal used ++ codes " }")))
debug_step step.More = codes "More"
