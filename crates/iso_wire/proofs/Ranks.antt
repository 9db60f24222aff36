-- The numbers of a set below one number, that number, and those above it.
use Rattle.std.proofs.Common.{◌≡◌, ◌≢◌, ℕ, zero, suc, ◌+◌, ◌-◌, ◌<◌, ◌≤◌, Bool, true, false, List, [], ◌∷◌, ◌++◌, refl, sym, ap, subst, ◌∙◌, arith}
use Rattle.iso_parts.specs.declared.bitmap.Bitmap.{Bitmap}
use Rattle.iso_parts.specs.Bitmap.{in_words, contains}
use Rattle.iso_parts.specs.Numbers.{numbers, members, members_below}
use Rattle.iso_wire.proofs.NumberLaws.{one_more, no_more, no_numbers, numbers_agree, numbers_none}
use Rattle.iso_wire.proofs.Buffers.{Below, Above}

-- ---- numbers in a row

append_by : (t : Bool) (set : ℕ → Bool) (a b m : ℕ) → set m ≡ t → numbers set (a + b) (m + 1) ≡ numbers set a (m + 1) ++ numbers set b (m + 1 + a) → numbers set (suc (a + b)) m ≡ numbers set (suc a) m ++ numbers set b (m + suc a)
append_by true set a b m is rest =
    let end : m + 1 + a ≡ m + suc a = omega arith in
    one_more set (a + b) m is ∙ ap (λ (l : List ℕ). m ∷ l) rest ∙ ap (λ (k : ℕ). m ∷ (numbers set a (m + 1) ++ numbers set b k)) end ∙ ap (λ (l : List ℕ). l ++ numbers set b (m + suc a)) (sym (one_more set a m is))
append_by false set a b m is rest =
    let end : m + 1 + a ≡ m + suc a = omega arith in
    no_more set (a + b) m is ∙ rest ∙ ap (λ (k : ℕ). numbers set a (m + 1) ++ numbers set b k) end ∙ ap (λ (l : List ℕ). l ++ numbers set b (m + suc a)) (sym (no_more set a m is))

numbers-append : (set : ℕ → Bool) (a b m : ℕ) → numbers set (a + b) m ≡ numbers set a m ++ numbers set b (m + a)
numbers-append set zero b m =
    let end : m ≡ m + 0 = omega arith in
    let size : 0 + b ≡ b = omega arith in
    ap (λ (k : ℕ). numbers set k m) size ∙ ap (λ (k : ℕ). numbers set b k) end ∙ ap (λ (l : List ℕ). l ++ numbers set b (m + 0)) (sym (no_numbers set m))
numbers-append set (suc a) b m =
    let size : suc a + b ≡ suc (a + b) = omega arith in
    ap (λ (k : ℕ). numbers set k m) size ∙ append_by (set m) set a b m refl (numbers-append set a b (m + 1))

below_by : (t : Bool) (set : ℕ → Bool) (count m n : ℕ) → set m ≡ t → m < n → Below n (numbers set count (m + 1)) → Below n (numbers set (suc count) m)
below_by true set count m n is lt rest = subst (Below n) (sym (one_more set count m is)) (lt, rest)
below_by false set count m n is lt rest = subst (Below n) (sym (no_more set count m is)) rest

numbers_below : (set : ℕ → Bool) (count m n : ℕ) → m + count ≤ n → Below n (numbers set count m)
numbers_below set zero m n le = subst (Below n) (sym (no_numbers set m)) tt
numbers_below set (suc count) m n le = below_by (set m) set count m n refl (omega (arith, le)) (numbers_below set count (m + 1) n (omega (arith, le)))

above_by : (t : Bool) (set : ℕ → Bool) (count m n : ℕ) → set m ≡ t → n < m → Above n (numbers set count (m + 1)) → Above n (numbers set (suc count) m)
above_by true set count m n is lt rest = subst (Above n) (sym (one_more set count m is)) lt
above_by false set count m n is lt rest = subst (Above n) (sym (no_more set count m is)) rest

numbers_above : (set : ℕ → Bool) (count m n : ℕ) → n < m → Above n (numbers set count m)
numbers_above set zero m n lt = subst (Above n) (sym (no_numbers set m)) tt
numbers_above set (suc count) m n lt = above_by (set m) set count m n refl lt (numbers_above set count (m + 1) n (omega (arith, lt)))

-- ---- the numbers of a set

-- the numbers above n
abbrev pub members_above : Bitmap → ℕ → List ℕ
members_above s n = numbers (in_words s.primary s.secondary) (128 - n) (n + 1)

pub no_members : (s : Bitmap) → ((k : ℕ) → contains s k ≡ false) → members s ≡ []
no_members s none = numbers_none (in_words s.primary s.secondary) 127 2 (λ k low high. none k)

pub same_members : (s t : Bitmap) → ((k : ℕ) → contains s k ≡ contains t k) → members s ≡ members t
same_members s t same = numbers_agree (in_words s.primary s.secondary) (in_words t.primary t.secondary) 127 2 (λ k low high. same k)

module _ (s : Bitmap) (n : ℕ) (low : 2 ≤ n) (high : n ≤ 128) where
  abbrev set : ℕ → Bool
  set = in_words s.primary s.secondary

  split : members s ≡ members_below s n ++ numbers set (suc (128 - n)) n
  split =
      let all : 127 ≡ n - 2 + suc (128 - n) = omega (arith, low, high) in
      let from : 2 + (n - 2) ≡ n = omega (arith, low) in
      ap (λ (k : ℕ). numbers set k 2) all ∙ numbers-append set (n - 2) (suc (128 - n)) 2 ∙ ap (λ (k : ℕ). numbers set (n - 2) 2 ++ numbers set (suc (128 - n)) k) from

  pub members_there : contains s n ≡ true → members s ≡ members_below s n ++ n ∷ members_above s n
  members_there is = split ∙ ap (λ (l : List ℕ). members_below s n ++ l) (one_more set (128 - n) n is)

  pub members_lacking : contains s n ≡ false → members s ≡ members_below s n ++ members_above s n
  members_lacking is = split ∙ ap (λ (l : List ℕ). members_below s n ++ l) (no_more set (128 - n) n is)

  pub all_below : Below n (members_below s n)
  all_below = numbers_below set (n - 2) 2 n (omega (arith, low))

  pub all_above : Above n (members_above s n)
  all_above = numbers_above set (128 - n) (n + 1) n (omega arith)

  module _ (t : Bitmap) (others : (k : ℕ) → k ≢ n → contains t k ≡ contains s k) where
    pub same_below : members_below t n ≡ members_below s n
    same_below = numbers_agree (in_words t.primary t.secondary) set (n - 2) 2 (λ k from to. others k (λ same. omega (arith, from, to, same)))

    pub same_above : members_above t n ≡ members_above s n
    same_above = numbers_agree (in_words t.primary t.secondary) set (128 - n) (n + 1) (λ k from to. others k (λ same. omega (arith, from, to, same)))

  -- no number of the set is above n
  pub none_above : ((k : ℕ) → n < k → contains s k ≡ false) → members_above s n ≡ []
  none_above none = numbers_none set (128 - n) (n + 1) (λ k from to. none k (omega (arith, from)))
