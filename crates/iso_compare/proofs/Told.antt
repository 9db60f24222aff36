-- A set that is told number by number.
use Rattle.std.proofs.Common.{◌≡◌, ◌≢◌, ◌↔◌, ℕ, ◌+◌, ◌<◌, ◌≤◌, Bool, false, true, refl, sym, subst, ◌∙◌, arith, inl, inr}
use Rattle.std.proofs.lemmas.Bool.{cases_lt}

-- each number below n is in the set where it isn't the same, and none from n on
pub record Told (same : ℕ → Type 0) (set : ℕ → Bool) (n : ℕ) : Type 0 where
  pub below : (k : ℕ) → k < n → (set k ≡ false) ↔ same k
  pub above : (k : ℕ) → n ≤ k → set k ≡ false

-- one number more is told
pub told_more : (same : ℕ → Type 0) (old new : ℕ → Bool) (n : ℕ) → Told same old n → ((new n ≡ false) ↔ same n)
    → ((k : ℕ) → k ≢ n → new k ≡ old k) → Told same new (n + 1)
told_more same old new n told here others = record {
  below = λ k less. elim (cases_lt k n) [
    | inl lt ↦
        let other : k ≢ n = omega arith in
        let e : new k ≡ old k = others k other in
        (λ h. (told.below k lt).0 (sym e ∙ h), λ s. e ∙ (told.below k lt).1 s)
    | inr ge ↦
        let is : n ≡ k = omega arith in
        let P : ℕ → Type 0 = λ i. (new i ≡ false) ↔ same i in
        subst P is here
  ];
  above = λ k later. let other : k ≢ n = omega arith in others k other ∙ told.above k (omega arith);
}

-- it is put into the set, since it isn't the same
pub told_added : (same : ℕ → Type 0) (old new : ℕ → Bool) (n : ℕ) → Told same old n → (other : Bool) → other ≡ true → (same n → other ≡ false)
    → new n ≡ true → ((k : ℕ) → k ≢ n → new k ≡ old k) → Told same new (n + 1)
told_added same old new n told other is differs put others =
    told_more same old new n told (
      (λ h. absurd (let f : true ≡ false = sym put ∙ h in cc)),
      λ s. absurd (let f : true ≡ false = sym is ∙ differs s in cc),
    ) others

-- it is left out, since it is the same
pub told_left : (same : ℕ → Type 0) (set : ℕ → Bool) (n : ℕ) → Told same set n → same n → Told same set (n + 1)
told_left same set n told is = told_more same set set n told (λ h. is, λ s. told.above n (omega arith)) (λ k other. refl)
