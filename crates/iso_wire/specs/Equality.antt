-- Whether two messages are the same.
use Rattle.std.specs.Prelude.{◌≡◌, ℕ, Bool, ◌&&◌, nat_eq, List}
use Rattle.std.specs.Bool.{Decides}
use Rattle.std.specs.Cmp.{IsEquivalence, decided, first_so, second_so, unsigned_Decides}
use Rattle.std.specs.Cmp.Lexicographic.{pointwise, pointwise_decides, bytes_decides}
use Rattle.std.proofs.Common.{ap}
use Rattle.iso_wire.specs.Contents.{Contents}

-- the same number and the same value
abbrev pub same_element : ℕ × List ℕ → ℕ × List ℕ → Bool
same_element d e = nat_eq d.0 e.0 && pointwise nat_eq d.1 e.1

-- the same type and the same elements
abbrev pub same_contents : Contents → Contents → Bool
same_contents m n = nat_eq m.mti n.mti && pointwise same_element m.elements n.elements

-- equal elements are the same ones, and no others
same_element_decides : (d e : ℕ × List ℕ) → Decides (same_element d e) (d ≡ e)
same_element_decides d e = (
  (λ h i. (
    (unsigned_Decides d.0 e.0).0 (first_so (nat_eq d.0 e.0) (pointwise nat_eq d.1 e.1) h) i,
    (bytes_decides d.1 e.1).0 (second_so (nat_eq d.0 e.0) (pointwise nat_eq d.1 e.1) h) i,
  )),
  λ h i. (unsigned_Decides d.0 e.0).1 (ap (λ (x : ℕ × List ℕ). x.0) h) i
      && (bytes_decides d.1 e.1).1 (ap (λ (x : ℕ × List ℕ). x.1) h) i,
)

-- equal messages are the same ones, and no others
pub same_contents_decides : (m n : Contents) → Decides (same_contents m n) (m ≡ n)
same_contents_decides m n = (
  (λ h i. record {
    mti = (unsigned_Decides m.mti n.mti).0
        (first_so (nat_eq m.mti n.mti) (pointwise same_element m.elements n.elements) h) i;
    elements = (pointwise_decides same_element_decides m.elements n.elements).0
        (second_so (nat_eq m.mti n.mti) (pointwise same_element m.elements n.elements) h) i;
  }),
  λ h i. (unsigned_Decides m.mti n.mti).1 (ap (λ (x : Contents). x.mti) h) i && (pointwise_decides
      same_element_decides m.elements n.elements).1 (ap (λ (x : Contents). x.elements) h) i,
)

-- equality of messages is an equivalence
pub same_contents_equiv : IsEquivalence same_contents
same_contents_equiv = decided same_contents same_contents_decides
