-- What becomes of a frame where some fault is asked for.
use Rattle.std.proofs.Common.{◌≡◌, Bool, false, refl}
use Rattle.rand_pcg.specs.Lcg.{Lcg}
use Rattle.iso_plan.specs.declared.fate.Comes.{Comes}
use Rattle.iso_plan.specs.declared.plan.Faults.{Faults}
use Rattle.iso_plan.specs.Fate.{word_of, after_words, happens, comes_at, fate_at, is_none}

-- the first word says whether its connection is cut, those behind it how often it comes
pub fate-drawn : (g : Lcg) (f : Faults) (comes : Comes) (cuts : Bool) → is_none f ≡ false → comes ≡ comes_at f (after_words 1 g) → cuts ≡ happens f.cut (word_of g)
    → fate_at (record { generator = g; faults = f }) ≡ record { comes = comes; cuts = cuts }
fate-drawn g f comes cuts some first second = rw (some, first, second) refl
