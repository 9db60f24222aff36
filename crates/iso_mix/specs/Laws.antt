-- What holds of each mix, and of what follows a hold.
use Rattle.std.specs.Prelude.{◌≡◌, ◌≤◌, ◌<◌, ◌+◌, ℕ, Bool, true, zero, suc, if◌then◌else◌}
use Rattle.iso_mix.specs.declared.mix.Kind.{Kind}
use Rattle.iso_mix.specs.declared.mix.Mix.{Mix}
use Rattle.iso_mix.specs.Counts.{is_hold_kind, is_completion_kind, is_inquiry_kind, is_undo_kind, is_purchase_kind}
use Rattle.iso_mix.specs.Mix.{is_fair, kind_of}
use Rattle.iso_mix.specs.Orders.{completed, left_of}

-- how many of the numbers below a limit are such
unfoldable pub count_below : (ℕ → Bool) → ℕ → ℕ
count_below such zero = 0
count_below such (suc n) = count_below such n + (if such n then 1 else 0)

-- of the hundred numbers that can be drawn, so many are of such a kind
abbrev pub draws : Mix → (Kind → Bool) → ℕ
draws m such = count_below (λ d. such (kind_of m d)) 100

-- of a hundred draws as many are of each kind as the mix says, and the others are purchases
pub record SharesAreKept : Type 0 where
  pub holds : (m : Mix) → is_fair m ≡ true → draws m is_hold_kind ≡ m.hold
  pub completions : (m : Mix) → is_fair m ≡ true → draws m is_completion_kind ≡ m.complete
  pub inquiries : (m : Mix) → is_fair m ≡ true → draws m is_inquiry_kind ≡ m.inquiry
  pub undone : (m : Mix) → is_fair m ≡ true → draws m is_undo_kind ≡ m.undo
  pub purchases : (m : Mix) → is_fair m ≡ true
      → draws m is_purchase_kind + (m.hold + m.complete + m.inquiry + m.undo) ≡ 100

-- a completion takes from 1 to the whole that is held, and a partial reversal leaves from 1 to less than that
pub record PartsAreFair : Type 0 where
  pub completed_from : (held share : ℕ) → 1 ≤ completed held share
  pub completed_to : (held share : ℕ) → 1 ≤ held → completed held share ≤ held
  pub left_from : (held share : ℕ) → 1 ≤ left_of held share
  pub left_to : (held share : ℕ) → 2 ≤ held → left_of held share < held
