-- Of a hundred draws as many are of each kind as the mix says.
use Rattle.std.proofs.Common.{◌≡◌, ℕ, zero, suc, Bool, true, false, refl, arith, ap, ◌∙◌, ◌≤◌, ◌+◌, ◌-◌, cond}
use Rattle.std.specs.Prelude.{◌&&◌, nat_le, nat_lt, min}
use Rattle.std.proofs.lemmas.Grind.{common_steps}
use Rattle.iso_mix.specs.declared.mix.Mix.{Mix}
use Rattle.iso_mix.specs.Counts.{is_hold_kind, is_completion_kind, is_inquiry_kind, is_undo_kind, is_purchase_kind}
use Rattle.iso_mix.specs.Mix.{is_fair, kind_of}
use Rattle.iso_mix.specs.Laws.{count_below, draws, SharesAreKept}
use Rattle.iso_mix.proofs.Placed.{is-le, not-le, is-lt, not-lt}

-- whether a number is from a to below b
abbrev is_within : ℕ → ℕ → ℕ → Bool
is_within a b d = nat_le a d && nat_lt d b

-- how many numbers below a limit are
within : (a b n : ℕ) → a ≤ b → count_below (is_within a b) n ≡ min n b - min n a
unfolding count_below
within a b zero h = omega arith
within a b (suc n) h = go (nat_le a n) refl (nat_lt n b) refl (within a b n h)
  where
    go : (c : Bool) → nat_le a n ≡ c → (e : Bool) → nat_lt n b ≡ e → count_below (is_within a b) n ≡ min n b - min n a →
        count_below (is_within a b) n + cond (nat_le a n && nat_lt n b) 1 0 ≡ min (suc n) b - min (suc n) a
    go true p true q ih = rw (p, q) (omega (arith, ih, is-le a n p, is-lt n b q))
    go true p false q ih = rw (p, q) (omega (arith, ih, is-le a n p, not-lt n b q, h))
    go false p e q ih = rw p (omega (arith, ih, not-le a n p, h))

alike : (such other : ℕ → Bool) (n : ℕ) → ((d : ℕ) → such d ≡ other d) → count_below such n ≡ count_below other n
unfolding count_below
alike such other zero h = refl
alike such other (suc n) h = ap (λ k. k + cond (such n) 1 0) (alike such other n h) ∙ ap (λ b. count_below other n + cond b 1 0) (h n)

-- how many of a hundred are from a to below b
share : (a b : ℕ) (such : ℕ → Bool) → a ≤ b → b ≤ 100 → ((d : ℕ) → such d ≡ is_within a b d) → count_below such 100 ≡ b - a
share a b such h most same = alike such (is_within a b) 100 same ∙ within a b 100 h ∙ omega (arith, h, most)

-- how many are not below a
above : (a n : ℕ) → count_below (nat_le a) n ≡ n - a
unfolding count_below
above a zero = omega arith
above a (suc n) = go (nat_le a n) refl (above a n)
  where
    go : (c : Bool) → nat_le a n ≡ c → count_below (nat_le a) n ≡ n - a → count_below (nat_le a) n + cond (nat_le a n) 1 0 ≡ suc n - a
    go true p ih = rw p (omega (arith, ih, is-le a n p))
    go false p ih = rw p (omega (arith, ih, not-le a n p))

-- the five ranges in a row
module _ (m : Mix) (fair : is_fair m ≡ true) where
  most : m.hold + m.complete + m.inquiry + m.undo ≤ 100
  most = is-le (m.hold + m.complete + m.inquiry + m.undo) 100 fair

  pub holds : draws m is_hold_kind ≡ m.hold
  holds = share 0 m.hold (λ d. is_hold_kind (kind_of m d)) (omega arith) (omega (arith, most)) (λ d. grind (arith, common_steps)) ∙ omega arith

  pub completions : draws m is_completion_kind ≡ m.complete
  completions =
      share m.hold (m.hold + m.complete) (λ d. is_completion_kind (kind_of m d)) (omega arith) (omega (arith, most)) (λ d. grind (arith, common_steps)) ∙ omega arith

  pub inquiries : draws m is_inquiry_kind ≡ m.inquiry
  inquiries =
      share (m.hold + m.complete) (m.hold + m.complete + m.inquiry) (λ d. is_inquiry_kind (kind_of m d)) (omega arith) (omega (arith, most)) (λ d. grind (arith, common_steps)) ∙ omega arith

  pub undone : draws m is_undo_kind ≡ m.undo
  undone =
      share (m.hold + m.complete + m.inquiry) (m.hold + m.complete + m.inquiry + m.undo) (λ d. is_undo_kind (kind_of m d)) (omega arith) (omega (arith, most)) (λ d. grind (arith, common_steps)) ∙ omega arith

  pub purchases : draws m is_purchase_kind + (m.hold + m.complete + m.inquiry + m.undo) ≡ 100
  purchases =
      let total = m.hold + m.complete + m.inquiry + m.undo in
      let all : draws m is_purchase_kind ≡ 100 - total = alike (λ d. is_purchase_kind (kind_of m d)) (nat_le total) 100 (λ d. grind (arith, common_steps)) ∙ above total 100 in
      omega (arith, all, most)

pub shares : SharesAreKept
shares = record { holds = holds; completions = completions; inquiries = inquiries; undone = undone; purchases = purchases }
