-- The order of keys.
use Rattle.std.proofs.Common.{◌≡◌, ℕ, zero, suc, ◌<◌, ◌≤◌, ◌+◌, ◌*◌, ◌/◌, ◌%◌, ◌^◌, ◌⊎◌, inl, inr, List, [], ◌∷◌, ◌++◌, length, refl, sym, ◌∙◌, ap, subst, arith, append_assoc, length-append, codes, pow-suc, Bool, true, false, nat_lt}
use borrow.Author.Tests.{ltb-true, ltb-false}
use Rattle.std.specs.Ordering.{nat_cmp, ordering_then}
use Rattle.std.specs.Cmp.{nat_cmp_is}
use Rattle.std.specs.Cmp.Lexicographic.{slice_cmp}
use Rattle.std.specs.declared.cmp.Ordering.{Ordering}
use Rattle.std.specs.declared.cmp.Ordering.TheVariants.{Less, Equal, Greater}
use Rattle.iso_etcd.specs.Keys.{digits, batch_key, end_key, heading_key, active_key}
use Rattle.iso_etcd.specs.KeyLaws.{IsBefore}

-- a number is itself
cmp-same_number : (number : ℕ) → nat_cmp number number ≡ Equal
cmp-same_number number = sym (nat_cmp_is number number Equal refl)

-- a smaller number comes before
cmp-smaller : (one other : ℕ) → one < other → nat_cmp one other ≡ Less
cmp-smaller one other smaller = sym (nat_cmp_is one other Less smaller)

-- bytes are themselves
pub cmp-same : (bytes : List ℕ) → slice_cmp nat_cmp bytes bytes ≡ Equal
cmp-same [] = refl
cmp-same (byte ∷ bytes) = rw (cmp-same_number byte) (cmp-same bytes)

-- what both begin with decides nothing
pub cmp-front : (front one other : List ℕ) → slice_cmp nat_cmp (front ++ one) (front ++ other) ≡ slice_cmp nat_cmp one other
cmp-front [] one other = refl
cmp-front (byte ∷ front) one other = rw (cmp-same_number byte) (cmp-front front one other)

-- fronts of one length that differ decide
cmp-fronts : (front back one other : List ℕ) → length front ≡ length back → slice_cmp nat_cmp front back ≡ Less
    → slice_cmp nat_cmp (front ++ one) (back ++ other) ≡ Less
cmp-fronts [] [] one other same before = absurd (cc)
cmp-fronts [] (y ∷ ys) one other same before = absurd (omega arith)
cmp-fronts (x ∷ xs) [] one other same before = absurd (omega arith)
cmp-fronts (x ∷ xs) (y ∷ ys) one other same before =
    go (nat_cmp x y) refl (λ rest. cmp-fronts xs ys one other (omega (arith, same)) rest)
  where
    go : (order : Ordering) → nat_cmp x y ≡ order → (slice_cmp nat_cmp xs ys ≡ Less → slice_cmp nat_cmp (xs ++ one) (ys ++ other) ≡ Less)
        → ordering_then (nat_cmp x y) (slice_cmp nat_cmp (xs ++ one) (ys ++ other)) ≡ Less
    go Less is rest = rw is refl
    go Equal is rest = rw is (rest (rw is at before))
    go Greater is rest = let never : Greater ≡ Less = rw is at before in absurd (cc)

-- so many digits
digits-length : (count number : ℕ) → length (digits count number) ≡ count
unfolding digits
digits-length zero number = refl
digits-length (suc count) number = omega (arith, length-append (digits count (number / 10)) ((48 + number % 10) ∷ []), digits-length count (number / 10))

-- a tenth of what has one digit more
tenth-small : (count number : ℕ) → number < 10 ^ suc count → number / 10 < 10 ^ count
tenth-small count number small = let more : 10 ^ suc count ≡ 10 ^ count * 10 = pow-suc 10 count in omega (arith, small, more)

-- either the digits before the last one are smaller, or they are the same and the last one is smaller
tenths : (one other : ℕ) → one < other → (one / 10 < other / 10) ⊎ ((one / 10 ≡ other / 10) × (one % 10 < other % 10))
tenths one other smaller = by (nat_lt (one / 10) (other / 10)) refl
  where
    by : (test : Bool) → nat_lt (one / 10) (other / 10) ≡ test → (one / 10 < other / 10) ⊎ ((one / 10 ≡ other / 10) × (one % 10 < other % 10))
    by true is = inl (ltb-true (one / 10) (other / 10) is)
    by false is = let above : other / 10 ≤ one / 10 = ltb-false (one / 10) (other / 10) is in inr (omega arith, omega arith)

-- the last digit decides where those before it are the same
cmp-last : (front back : List ℕ) (one other : ℕ) → front ≡ back → one < other → slice_cmp nat_cmp (front ++ one ∷ []) (back ++ other ∷ []) ≡ Less
cmp-last front back one other same smaller =
    subst (λ (digits : List ℕ). slice_cmp nat_cmp (front ++ one ∷ []) (digits ++ other ∷ []) ≡ Less) same
    (cmp-front front (one ∷ []) (other ∷ []) ∙ (rw (cmp-smaller one other smaller) refl))

-- a smaller number has smaller digits
pub digits-Less : (count one other : ℕ) → one < other → other < 10 ^ count → slice_cmp nat_cmp (digits count one) (digits count other) ≡ Less
unfolding digits
digits-Less zero one other smaller small = absurd (omega (arith, small))
digits-Less (suc count) one other smaller small = elim (tenths one other smaller) [
  | inl front ↦ cmp-fronts (digits count (one / 10)) (digits count (other / 10)) ((48 + one % 10) ∷ []) ((48 + other % 10) ∷ [])
      (digits-length count (one / 10) ∙ sym (digits-length count (other / 10)))
      (digits-Less count (one / 10) (other / 10) front (tenth-small count other small))
  | inr last ↦ cmp-last (digits count (one / 10)) (digits count (other / 10)) (48 + one % 10) (48 + other % 10)
      (ap (digits count) last.0) (omega (arith, last.1))
]

-- the keys of batches are in the order of their places
pub in_order : (name : List ℕ) (one other : ℕ) → one < other → other < 2 ^ 32 → IsBefore (batch_key name one) (batch_key name other)
in_order name one other smaller small =
    cmp-front (name ++ codes "/batch/") (digits 10 one) (digits 10 other) ∙ digits-Less 10 one other smaller (omega (arith, small))

-- what comes before isn't the same
before-other : (one other : List ℕ) → IsBefore one other → one ≡ other → ⊥
before-other one other before same =
    let equal : slice_cmp nat_cmp one other ≡ Equal = subst (λ (bytes : List ℕ). slice_cmp nat_cmp one bytes ≡ Equal) same (cmp-same one) in
    cc (before, equal)

-- distinct places have distinct keys
pub distinct : (name : List ℕ) (one other : ℕ) → one < 2 ^ 32 → other < 2 ^ 32 → batch_key name one ≡ batch_key name other → one ≡ other
distinct name one other small1 small2 same = by (nat_lt one other) (nat_lt other one) refl refl
  where
    by : (less more : Bool) → nat_lt one other ≡ less → nat_lt other one ≡ more → one ≡ other
    by true more is is-more = absurd (before-other _ _ (in_order name one other (ltb-true one other is) small2) same)
    by false true is is-more = absurd (before-other _ _ (in_order name other one (ltb-true other one is-more) small1) (sym same))
    by false false is is-more = omega (arith, ltb-false one other is, ltb-false other one is-more)

-- '/' comes before '0'
pub within : (name : List ℕ) (place : ℕ) → IsBefore (batch_key name place) (end_key name)
within name place =
    subst (λ (key : List ℕ). IsBefore key (end_key name)) (sym (append_assoc name (codes "/batch/") (digits 10 place)))
    (cmp-front name (codes "/batch/" ++ digits 10 place) (codes "/batch0"))

-- 'b' comes before 'h'
pub heading_behind : (name : List ℕ) → IsBefore (end_key name) (heading_key name)
heading_behind name = cmp-front name (codes "/batch0") (codes "/heading")

-- 'a' comes before 'b'
pub active_before : (name : List ℕ) (place : ℕ) → IsBefore (active_key name) (batch_key name place)
active_before name place =
    subst (λ (key : List ℕ). IsBefore (active_key name) key) (sym (append_assoc name (codes "/batch/") (digits 10 place)))
    (cmp-front name (codes "/active") (codes "/batch/" ++ digits 10 place))
