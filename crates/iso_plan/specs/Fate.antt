-- What networks do to a frame, by the words of a generator.
use Rattle.std.specs.Prelude.{⊤, ◌≡◌, ◌≤◌, ◌+◌, ◌-◌, ◌*◌, ◌/◌, ◌^◌, ◌==◌, ◌&&◌, ℕ, zero, suc, Bool, true, false, nat_lt, if◌then◌else◌}
use Rattle.rand_pcg.specs.Lcg.{Lcg, started, increment_of}
use Rattle.rand_pcg.specs.Pcg.{pcg32, multiplier_64}
use Rattle.iso_plan.specs.declared.fate.Comes.{Comes}
use Rattle.iso_plan.specs.declared.fate.Comes.TheVariants.{Never, Once, Twice}
use Rattle.iso_plan.specs.declared.fate.Fate.{Fate}
use Rattle.iso_plan.specs.declared.plan.Faults.{Faults}

-- ---- what is sure

-- a delay from the least to the most
pub record IsDelayOf (least most delay : ℕ) : Type 0 where
  pub not_below : least ≤ delay
  pub not_above : delay ≤ most

-- each time it comes it is held back so long
abbrev pub AreDelays : ℕ → ℕ → Comes → Type 0
AreDelays least most Never = ⊤
AreDelays least most (Once d) = IsDelayOf least most d
AreDelays least most (Twice d e) = IsDelayOf least most d × IsDelayOf least most e

-- it never comes
abbrev pub is_lost : Comes → Bool
is_lost Never = true
is_lost (Once d) = false
is_lost (Twice d e) = false

-- it comes two times
abbrev pub is_twice : Comes → Bool
is_twice Never = false
is_twice (Once d) = false
is_twice (Twice d e) = true

-- a chance in millionths: none never comes about, and a million always does
pub record IsByChance (chance : ℕ) (happens : Bool) : Type 0 where
  pub never : chance ≡ 0 → happens ≡ false
  pub always : 1000000 ≤ chance → happens ≡ true

-- what is lost doesn't come twice, whatever the chance
pub record IsTwiceByChance (f : Faults) (comes : Comes) : Type 0 where
  pub never : f.repeat ≡ 0 → is_twice comes ≡ false
  pub always : f.lose ≡ 0 → 1000000 ≤ f.repeat → is_twice comes ≡ true

-- what becomes of a frame under these faults: what has no chance doesn't happen, what is certain does, and each delay is
-- within its bounds
pub record IsFateUnder (f : Faults) (fate : Fate) : Type 0 where
  pub lost : IsByChance f.lose (is_lost fate.comes)
  pub twice : IsTwiceByChance f fate.comes
  pub cut : IsByChance f.cut fate.cuts
  pub delays : f.delay.0 ≤ f.delay.1 → AreDelays f.delay.0 f.delay.1 fate.comes

-- ---- what is drawn

-- the next word of a generator, of 32 bits, and the generator behind it
abbrev pub word_of : Lcg → ℕ
word_of g = (pcg32 g).0

-- the generator behind one word
abbrev pub next_of : Lcg → Lcg
next_of g = (pcg32 g).1

-- the generator behind so many words
abbrev pub after_words : ℕ → Lcg → Lcg
after_words zero g = g
after_words (suc n) g = after_words n (next_of g)

-- a number below a range, by a word: as much of the range as the word is of all words
abbrev pub share : ℕ → ℕ → ℕ
share range word = word * range / 2 ^ 32

-- whether what has a chance in millionths happens
abbrev pub happens : ℕ → ℕ → Bool
happens chance word = nat_lt (share 1000000 word) chance

-- a delay of a range
abbrev pub delay_by : ℕ × ℕ → ℕ → ℕ
delay_by delay word = delay.0 + share (delay.1 - delay.0 + 1) word

-- how often a frame comes, and when: by a word whether it is lost, by one whether it comes twice, and by two how long it is
-- held back
abbrev pub comes_at : Faults → Lcg → Comes
comes_at f g =
    if happens f.lose (word_of g) then Never
    else if happens f.repeat (word_of (after_words 1 g))
    then Twice (delay_by f.delay (word_of (after_words 2 g)))
    (delay_by f.delay (word_of (after_words 3 g)))
    else Once (delay_by f.delay (word_of (after_words 2 g)))

-- what fates are drawn from
pub record Drawing : Type 0 where
  pub generator : Lcg
  pub faults : Faults

-- at the beginning: PCG's generator of the seed, in the stream of that direction
abbrev pub drawing_from : ℕ → ℕ → Faults → Drawing
drawing_from seed direction faults =
    record {
      generator = started 64 multiplier_64 seed (increment_of 64 direction);
      faults = faults;
    }

-- nothing is done to any frame
abbrev pub is_none : Faults → Bool
is_none f = f.lose == 0 && f.repeat == 0 && f.cut == 0 && f.delay.1 == 0

-- it comes once, at once, and nothing is cut
abbrev pub good : Fate
good = record { comes = Once 0; cuts = false }

-- what becomes of a frame under faults: by the first word whether its connection is cut, by four more how often it comes
abbrev pub fate_drawn : Drawing → Fate
fate_drawn d = record {
  comes = comes_at d.faults (after_words 1 d.generator);
  cuts = happens d.faults.cut (word_of d.generator);
}

-- what becomes of the next frame: where no fault is asked for nothing is drawn
abbrev pub fate_at : Drawing → Fate
fate_at d = if is_none d.faults then good else fate_drawn d

-- what the fates of the frames behind it are drawn from
abbrev pub drawing_after : Drawing → Drawing
drawing_after d = if is_none d.faults then d else record d { generator = after_words 5 d.generator }
