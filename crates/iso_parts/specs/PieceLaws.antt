-- How reading judges the two pieces of a part of a good row, when they are whole.
use Rattle.std.specs.Prelude.{◌≡◌, ◌↔◌, ℕ, ◌≤◌, List, length, Ok, Err}
use Rattle.hex.specs.Hex.{IsBytes}
use Rattle.iso_parts.specs.declared.spec.FieldSpec.{FieldSpec}
use Rattle.iso_parts.specs.declared.fault.FieldFault.{FieldFault}
use Rattle.iso_parts.specs.Pieces.{IsCount, IsBadCount, IsBadBody}
use Rattle.iso_parts.specs.Reading.{prefix_size, prefix_of, body_size, body_of}
use Rattle.iso_parts.specs.Spec.{IsGood}

-- what holds of every length and every body
pub record PieceLaws : Type 0 where
  -- a length is read as the count that it tells, if the row allows so many characters
  pub count : (s : FieldSpec) (c : ℕ) (p : List ℕ) → IsGood s → IsBytes p
      → length p ≡ prefix_size s.length
      → (prefix_of s p ≡ Ok c) ↔ (IsCount s c p × (c ≤ s.max))
  -- it is refused for the first thing that is wrong with it
  pub bad_count : (s : FieldSpec) (e : FieldFault) (p : List ℕ) → IsGood s → IsBytes p
      → length p ≡ prefix_size s.length
      → (prefix_of s p ≡ Err e) ↔ IsBadCount s p e
  -- and so is a body
  pub bad_body : (s : FieldSpec) (c : ℕ) (e : FieldFault) (p : List ℕ)
      → length p ≡ body_size s.coding c → (body_of s c p ≡ Err e) ↔ IsBadBody s c p e
