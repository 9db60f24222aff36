-- Numbers that no element may have.
use Rattle.std.proofs.Common.{◌≡◌, ℕ, ◌≤◌, ◌<◌, ◌+◌, false, eqb, None, List, [], ◌∷◌, refl, sym, ◌∙◌, arith}
use Rattle.std.proofs.lemmas.Bool.Decides.{nat_tests}
use Rattle.iso_parts.specs.Numbers.{is_element}
use Rattle.iso_wire.specs.Elements.{value_in, IsAscending}
use Rattle.iso_compare.specs.Differing.{IsSameAt}

-- no list of elements has one
absent : (low n : ℕ) (es : List (ℕ × List ℕ)) → IsAscending low es → 2 ≤ low → is_element n ≡ false → value_in es n ≡ None
absent low n [] ascending two not_one = refl
absent low n (e ∷ es) h two not_one =
    let above : low ≤ e.0 = h.0 in
    let below : e.0 ≤ 128 = h.1 in
    let not_65 = h.2 in
    let other : eqb e.0 n ≡ false = grind (arith, nat_tests) in
    rw other (absent (e.0 + 1) n es h.3 (omega arith) not_one)

-- so no two lists differ there
pub alike : (n : ℕ) (left right : List (ℕ × List ℕ)) → IsAscending 2 left → IsAscending 2 right → is_element n ≡ false → IsSameAt left right n
alike n left right l r not_one = absent 2 n left l (omega arith) not_one ∙ sym (absent 2 n right r (omega arith) not_one)

pub none_below : (n : ℕ) → n < 2 → is_element n ≡ false
none_below n low = grind (arith, nat_tests)

pub none_above : (n : ℕ) → 129 ≤ n → is_element n ≡ false
none_above n high = grind (arith, nat_tests)
