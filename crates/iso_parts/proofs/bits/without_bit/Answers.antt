use Rattle.std.proofs.Common.{w64, inl, inr}
use Rattle.std.proofs.lemmas.Bool.{cases_lt}
use Rattle.std.proofs.lemmas.Nat.{and_le_l}
use Rattle.std.proofs.lemmas.Nat.Bits.{bit_at_clear_same, bit_at_clear_other}
use Rattle.iso_parts.proofs.BitsLemmas.{none_above}
use Rattle.iso_parts.proofs.bits.without_bit.Goals as goal

pub returns-clause-below : goal.returns-clause-below
returns-clause-below c = and_le_l c.args.word _

pub returns-clause-removed : goal.returns-clause-removed
returns-clause-removed c = bit_at_clear_same w64 c.args.word c.args.k c.requires

pub returns-clause-others : goal.returns-clause-others
returns-clause-others c = λ i other.
    elim (cases_lt i 64) [
      | inl within ↦ bit_at_clear_other w64 c.args.word c.args.k c.requires i within other
      | inr beyond ↦ none_above c.args.word _ i c.ranges.word.fits beyond
    ]
