-- Values that lie in a message as they are.
use Rattle.std.specs.Prelude.{◌≡◌}
use Rattle.iso_parts.specs.declared.encoding.Coding.TheVariants as codings
use Rattle.iso_parts.specs.declared.padding.Pad.TheVariants as pads
use Rattle.iso_parts.specs.declared.spec.FieldSpec.{FieldSpec}

-- the characters of each value of the row are the bytes themselves, with no padding
pub record IsPlain (s : FieldSpec) : Type 0 where
  pub coding : s.coding ≡ codings.Ascii
  pub pad : s.pad ≡ pads.None
