-- Numbers that suffice for a response, since the message has no element of the others.
use Rattle.std.proofs.Common.{◌≡◌, ℕ, Bool, true, false, ◌||◌, List, [], ◌∷◌, ◌++◌, refl, ap, ◌∙◌}
use Rattle.std.specs.Prelude.{Option, Some, None, is_some}
use Rattle.iso_wire.specs.Contents.{Contents}
use Rattle.iso_wire.specs.Elements.{has, value_in}
use Rattle.iso_order.specs.Listing.{element_where}
use Rattle.iso_order.specs.Adding.{elements_with_value, answered, is_rare_payment, is_rare_network}
use Rattle.iso_order.specs.Outcome.{Outcome}
use Rattle.iso_order.specs.Response.{element}

abbrev Values : Type 0
Values = List (ℕ × List ℕ)

none_of : (v : Option (List ℕ)) → is_some v ≡ false → v ≡ None
none_of None is = refl
none_of (Some x) is = absurd cc

or_l : (a b : Bool) → (a || b) ≡ false → a ≡ false
or_l true b is = absurd cc
or_l false b is = refl

or_r : (a b : Bool) → (a || b) ≡ false → b ≡ false
or_r true b is = absurd cc
or_r false b is = is

-- a number without a value is left out
skips : (value : ℕ → Option (List ℕ)) (n : ℕ) (ns : List ℕ) → value n ≡ None → elements_with_value value (n ∷ ns) ≡ elements_with_value value ns
skips value n ns none = ap (λ (v : Option (List ℕ)). element_where n v ++ elements_with_value value ns) none

keeps : (value : ℕ → Option (List ℕ)) (n : ℕ) (ns ks : List ℕ) → elements_with_value value ns ≡ elements_with_value value ks → elements_with_value value (n ∷ ns) ≡ elements_with_value value (n ∷ ks)
keeps value n ns ks same = ap (λ (es : Values). element_where n (value n) ++ es) same

-- most payments have no element of the other numbers
pub payment : (m : Contents) (a : Outcome) → is_rare_payment m ≡ false → elements_with_value (element m a) answered ≡ elements_with_value (element m a) (2 ∷ 3 ∷ 4 ∷ 7 ∷ 11 ∷ 32 ∷ 38 ∷ 39 ∷ 49 ∷ 54 ∷ [])
payment m a rare =
    let value = element m a in
    let no90 : value 90 ≡ None = none_of (value_in m.elements 90) (or_r (((((((has m.elements 12 || has m.elements 13) || has m.elements 33) || has m.elements 37) || has m.elements 41) || has m.elements 42) || has m.elements 70)) (has m.elements 90) rare) in
    let h7 = or_l (((((((has m.elements 12 || has m.elements 13) || has m.elements 33) || has m.elements 37) || has m.elements 41) || has m.elements 42) || has m.elements 70)) (has m.elements 90) rare in
    let no70 : value 70 ≡ None = none_of (value_in m.elements 70) (or_r ((((((has m.elements 12 || has m.elements 13) || has m.elements 33) || has m.elements 37) || has m.elements 41) || has m.elements 42)) (has m.elements 70) h7) in
    let h6 = or_l ((((((has m.elements 12 || has m.elements 13) || has m.elements 33) || has m.elements 37) || has m.elements 41) || has m.elements 42)) (has m.elements 70) h7 in
    let no42 : value 42 ≡ None = none_of (value_in m.elements 42) (or_r (((((has m.elements 12 || has m.elements 13) || has m.elements 33) || has m.elements 37) || has m.elements 41)) (has m.elements 42) h6) in
    let h5 = or_l (((((has m.elements 12 || has m.elements 13) || has m.elements 33) || has m.elements 37) || has m.elements 41)) (has m.elements 42) h6 in
    let no41 : value 41 ≡ None = none_of (value_in m.elements 41) (or_r ((((has m.elements 12 || has m.elements 13) || has m.elements 33) || has m.elements 37)) (has m.elements 41) h5) in
    let h4 = or_l ((((has m.elements 12 || has m.elements 13) || has m.elements 33) || has m.elements 37)) (has m.elements 41) h5 in
    let no37 : value 37 ≡ None = none_of (value_in m.elements 37) (or_r (((has m.elements 12 || has m.elements 13) || has m.elements 33)) (has m.elements 37) h4) in
    let h3 = or_l (((has m.elements 12 || has m.elements 13) || has m.elements 33)) (has m.elements 37) h4 in
    let no33 : value 33 ≡ None = none_of (value_in m.elements 33) (or_r ((has m.elements 12 || has m.elements 13)) (has m.elements 33) h3) in
    let h2 = or_l ((has m.elements 12 || has m.elements 13)) (has m.elements 33) h3 in
    let no13 : value 13 ≡ None = none_of (value_in m.elements 13) (or_r (has m.elements 12) (has m.elements 13) h2) in
    let h1 = or_l (has m.elements 12) (has m.elements 13) h2 in
    let no12 : value 12 ≡ None = none_of (value_in m.elements 12) h1 in
    let from90 : elements_with_value value (90 ∷ []) ≡ elements_with_value value ([]) = skips value 90 ([]) no90 in
    let from70 : elements_with_value value (70 ∷ 90 ∷ []) ≡ elements_with_value value ([]) = skips value 70 (90 ∷ []) no70 ∙ from90 in
    let from54 : elements_with_value value (54 ∷ 70 ∷ 90 ∷ []) ≡ elements_with_value value (54 ∷ []) = keeps value 54 (70 ∷ 90 ∷ []) ([]) from70 in
    let from49 : elements_with_value value (49 ∷ 54 ∷ 70 ∷ 90 ∷ []) ≡ elements_with_value value (49 ∷ 54 ∷ []) = keeps value 49 (54 ∷ 70 ∷ 90 ∷ []) (54 ∷ []) from54 in
    let from42 : elements_with_value value (42 ∷ 49 ∷ 54 ∷ 70 ∷ 90 ∷ []) ≡ elements_with_value value (49 ∷ 54 ∷ []) = skips value 42 (49 ∷ 54 ∷ 70 ∷ 90 ∷ []) no42 ∙ from49 in
    let from41 : elements_with_value value (41 ∷ 42 ∷ 49 ∷ 54 ∷ 70 ∷ 90 ∷ []) ≡ elements_with_value value (49 ∷ 54 ∷ []) = skips value 41 (42 ∷ 49 ∷ 54 ∷ 70 ∷ 90 ∷ []) no41 ∙ from42 in
    let from39 : elements_with_value value (39 ∷ 41 ∷ 42 ∷ 49 ∷ 54 ∷ 70 ∷ 90 ∷ []) ≡ elements_with_value value (39 ∷ 49 ∷ 54 ∷ []) = keeps value 39 (41 ∷ 42 ∷ 49 ∷ 54 ∷ 70 ∷ 90 ∷ []) (49 ∷ 54 ∷ []) from41 in
    let from38 : elements_with_value value (38 ∷ 39 ∷ 41 ∷ 42 ∷ 49 ∷ 54 ∷ 70 ∷ 90 ∷ []) ≡ elements_with_value value (38 ∷ 39 ∷ 49 ∷ 54 ∷ []) = keeps value 38 (39 ∷ 41 ∷ 42 ∷ 49 ∷ 54 ∷ 70 ∷ 90 ∷ []) (39 ∷ 49 ∷ 54 ∷ []) from39 in
    let from37 : elements_with_value value (37 ∷ 38 ∷ 39 ∷ 41 ∷ 42 ∷ 49 ∷ 54 ∷ 70 ∷ 90 ∷ []) ≡ elements_with_value value (38 ∷ 39 ∷ 49 ∷ 54 ∷ []) = skips value 37 (38 ∷ 39 ∷ 41 ∷ 42 ∷ 49 ∷ 54 ∷ 70 ∷ 90 ∷ []) no37 ∙ from38 in
    let from33 : elements_with_value value (33 ∷ 37 ∷ 38 ∷ 39 ∷ 41 ∷ 42 ∷ 49 ∷ 54 ∷ 70 ∷ 90 ∷ []) ≡ elements_with_value value (38 ∷ 39 ∷ 49 ∷ 54 ∷ []) = skips value 33 (37 ∷ 38 ∷ 39 ∷ 41 ∷ 42 ∷ 49 ∷ 54 ∷ 70 ∷ 90 ∷ []) no33 ∙ from37 in
    let from32 : elements_with_value value (32 ∷ 33 ∷ 37 ∷ 38 ∷ 39 ∷ 41 ∷ 42 ∷ 49 ∷ 54 ∷ 70 ∷ 90 ∷ []) ≡ elements_with_value value (32 ∷ 38 ∷ 39 ∷ 49 ∷ 54 ∷ []) = keeps value 32 (33 ∷ 37 ∷ 38 ∷ 39 ∷ 41 ∷ 42 ∷ 49 ∷ 54 ∷ 70 ∷ 90 ∷ []) (38 ∷ 39 ∷ 49 ∷ 54 ∷ []) from33 in
    let from13 : elements_with_value value (13 ∷ 32 ∷ 33 ∷ 37 ∷ 38 ∷ 39 ∷ 41 ∷ 42 ∷ 49 ∷ 54 ∷ 70 ∷ 90 ∷ []) ≡ elements_with_value value (32 ∷ 38 ∷ 39 ∷ 49 ∷ 54 ∷ []) = skips value 13 (32 ∷ 33 ∷ 37 ∷ 38 ∷ 39 ∷ 41 ∷ 42 ∷ 49 ∷ 54 ∷ 70 ∷ 90 ∷ []) no13 ∙ from32 in
    let from12 : elements_with_value value (12 ∷ 13 ∷ 32 ∷ 33 ∷ 37 ∷ 38 ∷ 39 ∷ 41 ∷ 42 ∷ 49 ∷ 54 ∷ 70 ∷ 90 ∷ []) ≡ elements_with_value value (32 ∷ 38 ∷ 39 ∷ 49 ∷ 54 ∷ []) = skips value 12 (13 ∷ 32 ∷ 33 ∷ 37 ∷ 38 ∷ 39 ∷ 41 ∷ 42 ∷ 49 ∷ 54 ∷ 70 ∷ 90 ∷ []) no12 ∙ from13 in
    let from11 : elements_with_value value (11 ∷ 12 ∷ 13 ∷ 32 ∷ 33 ∷ 37 ∷ 38 ∷ 39 ∷ 41 ∷ 42 ∷ 49 ∷ 54 ∷ 70 ∷ 90 ∷ []) ≡ elements_with_value value (11 ∷ 32 ∷ 38 ∷ 39 ∷ 49 ∷ 54 ∷ []) = keeps value 11 (12 ∷ 13 ∷ 32 ∷ 33 ∷ 37 ∷ 38 ∷ 39 ∷ 41 ∷ 42 ∷ 49 ∷ 54 ∷ 70 ∷ 90 ∷ []) (32 ∷ 38 ∷ 39 ∷ 49 ∷ 54 ∷ []) from12 in
    let from7 : elements_with_value value (7 ∷ 11 ∷ 12 ∷ 13 ∷ 32 ∷ 33 ∷ 37 ∷ 38 ∷ 39 ∷ 41 ∷ 42 ∷ 49 ∷ 54 ∷ 70 ∷ 90 ∷ []) ≡ elements_with_value value (7 ∷ 11 ∷ 32 ∷ 38 ∷ 39 ∷ 49 ∷ 54 ∷ []) = keeps value 7 (11 ∷ 12 ∷ 13 ∷ 32 ∷ 33 ∷ 37 ∷ 38 ∷ 39 ∷ 41 ∷ 42 ∷ 49 ∷ 54 ∷ 70 ∷ 90 ∷ []) (11 ∷ 32 ∷ 38 ∷ 39 ∷ 49 ∷ 54 ∷ []) from11 in
    let from4 : elements_with_value value (4 ∷ 7 ∷ 11 ∷ 12 ∷ 13 ∷ 32 ∷ 33 ∷ 37 ∷ 38 ∷ 39 ∷ 41 ∷ 42 ∷ 49 ∷ 54 ∷ 70 ∷ 90 ∷ []) ≡ elements_with_value value (4 ∷ 7 ∷ 11 ∷ 32 ∷ 38 ∷ 39 ∷ 49 ∷ 54 ∷ []) = keeps value 4 (7 ∷ 11 ∷ 12 ∷ 13 ∷ 32 ∷ 33 ∷ 37 ∷ 38 ∷ 39 ∷ 41 ∷ 42 ∷ 49 ∷ 54 ∷ 70 ∷ 90 ∷ []) (7 ∷ 11 ∷ 32 ∷ 38 ∷ 39 ∷ 49 ∷ 54 ∷ []) from7 in
    let from3 : elements_with_value value (3 ∷ 4 ∷ 7 ∷ 11 ∷ 12 ∷ 13 ∷ 32 ∷ 33 ∷ 37 ∷ 38 ∷ 39 ∷ 41 ∷ 42 ∷ 49 ∷ 54 ∷ 70 ∷ 90 ∷ []) ≡ elements_with_value value (3 ∷ 4 ∷ 7 ∷ 11 ∷ 32 ∷ 38 ∷ 39 ∷ 49 ∷ 54 ∷ []) = keeps value 3 (4 ∷ 7 ∷ 11 ∷ 12 ∷ 13 ∷ 32 ∷ 33 ∷ 37 ∷ 38 ∷ 39 ∷ 41 ∷ 42 ∷ 49 ∷ 54 ∷ 70 ∷ 90 ∷ []) (4 ∷ 7 ∷ 11 ∷ 32 ∷ 38 ∷ 39 ∷ 49 ∷ 54 ∷ []) from4 in
    let from2 : elements_with_value value (2 ∷ 3 ∷ 4 ∷ 7 ∷ 11 ∷ 12 ∷ 13 ∷ 32 ∷ 33 ∷ 37 ∷ 38 ∷ 39 ∷ 41 ∷ 42 ∷ 49 ∷ 54 ∷ 70 ∷ 90 ∷ []) ≡ elements_with_value value (2 ∷ 3 ∷ 4 ∷ 7 ∷ 11 ∷ 32 ∷ 38 ∷ 39 ∷ 49 ∷ 54 ∷ []) = keeps value 2 (3 ∷ 4 ∷ 7 ∷ 11 ∷ 12 ∷ 13 ∷ 32 ∷ 33 ∷ 37 ∷ 38 ∷ 39 ∷ 41 ∷ 42 ∷ 49 ∷ 54 ∷ 70 ∷ 90 ∷ []) (3 ∷ 4 ∷ 7 ∷ 11 ∷ 32 ∷ 38 ∷ 39 ∷ 49 ∷ 54 ∷ []) from3 in
    from2

-- most network messages have no element of the other numbers
pub network : (m : Contents) (a : Outcome) → is_rare_network m ≡ false → elements_with_value (element m a) answered ≡ elements_with_value (element m a) (7 ∷ 11 ∷ 38 ∷ 39 ∷ 54 ∷ 70 ∷ [])
network m a rare =
    let value = element m a in
    let no90 : value 90 ≡ None = none_of (value_in m.elements 90) (or_r (((((((((((has m.elements 2 || has m.elements 3) || has m.elements 4) || has m.elements 12) || has m.elements 13) || has m.elements 32) || has m.elements 33) || has m.elements 37) || has m.elements 41) || has m.elements 42) || has m.elements 49)) (has m.elements 90) rare) in
    let h11 = or_l (((((((((((has m.elements 2 || has m.elements 3) || has m.elements 4) || has m.elements 12) || has m.elements 13) || has m.elements 32) || has m.elements 33) || has m.elements 37) || has m.elements 41) || has m.elements 42) || has m.elements 49)) (has m.elements 90) rare in
    let no49 : value 49 ≡ None = none_of (value_in m.elements 49) (or_r ((((((((((has m.elements 2 || has m.elements 3) || has m.elements 4) || has m.elements 12) || has m.elements 13) || has m.elements 32) || has m.elements 33) || has m.elements 37) || has m.elements 41) || has m.elements 42)) (has m.elements 49) h11) in
    let h10 = or_l ((((((((((has m.elements 2 || has m.elements 3) || has m.elements 4) || has m.elements 12) || has m.elements 13) || has m.elements 32) || has m.elements 33) || has m.elements 37) || has m.elements 41) || has m.elements 42)) (has m.elements 49) h11 in
    let no42 : value 42 ≡ None = none_of (value_in m.elements 42) (or_r (((((((((has m.elements 2 || has m.elements 3) || has m.elements 4) || has m.elements 12) || has m.elements 13) || has m.elements 32) || has m.elements 33) || has m.elements 37) || has m.elements 41)) (has m.elements 42) h10) in
    let h9 = or_l (((((((((has m.elements 2 || has m.elements 3) || has m.elements 4) || has m.elements 12) || has m.elements 13) || has m.elements 32) || has m.elements 33) || has m.elements 37) || has m.elements 41)) (has m.elements 42) h10 in
    let no41 : value 41 ≡ None = none_of (value_in m.elements 41) (or_r ((((((((has m.elements 2 || has m.elements 3) || has m.elements 4) || has m.elements 12) || has m.elements 13) || has m.elements 32) || has m.elements 33) || has m.elements 37)) (has m.elements 41) h9) in
    let h8 = or_l ((((((((has m.elements 2 || has m.elements 3) || has m.elements 4) || has m.elements 12) || has m.elements 13) || has m.elements 32) || has m.elements 33) || has m.elements 37)) (has m.elements 41) h9 in
    let no37 : value 37 ≡ None = none_of (value_in m.elements 37) (or_r (((((((has m.elements 2 || has m.elements 3) || has m.elements 4) || has m.elements 12) || has m.elements 13) || has m.elements 32) || has m.elements 33)) (has m.elements 37) h8) in
    let h7 = or_l (((((((has m.elements 2 || has m.elements 3) || has m.elements 4) || has m.elements 12) || has m.elements 13) || has m.elements 32) || has m.elements 33)) (has m.elements 37) h8 in
    let no33 : value 33 ≡ None = none_of (value_in m.elements 33) (or_r ((((((has m.elements 2 || has m.elements 3) || has m.elements 4) || has m.elements 12) || has m.elements 13) || has m.elements 32)) (has m.elements 33) h7) in
    let h6 = or_l ((((((has m.elements 2 || has m.elements 3) || has m.elements 4) || has m.elements 12) || has m.elements 13) || has m.elements 32)) (has m.elements 33) h7 in
    let no32 : value 32 ≡ None = none_of (value_in m.elements 32) (or_r (((((has m.elements 2 || has m.elements 3) || has m.elements 4) || has m.elements 12) || has m.elements 13)) (has m.elements 32) h6) in
    let h5 = or_l (((((has m.elements 2 || has m.elements 3) || has m.elements 4) || has m.elements 12) || has m.elements 13)) (has m.elements 32) h6 in
    let no13 : value 13 ≡ None = none_of (value_in m.elements 13) (or_r ((((has m.elements 2 || has m.elements 3) || has m.elements 4) || has m.elements 12)) (has m.elements 13) h5) in
    let h4 = or_l ((((has m.elements 2 || has m.elements 3) || has m.elements 4) || has m.elements 12)) (has m.elements 13) h5 in
    let no12 : value 12 ≡ None = none_of (value_in m.elements 12) (or_r (((has m.elements 2 || has m.elements 3) || has m.elements 4)) (has m.elements 12) h4) in
    let h3 = or_l (((has m.elements 2 || has m.elements 3) || has m.elements 4)) (has m.elements 12) h4 in
    let no4 : value 4 ≡ None = none_of (value_in m.elements 4) (or_r ((has m.elements 2 || has m.elements 3)) (has m.elements 4) h3) in
    let h2 = or_l ((has m.elements 2 || has m.elements 3)) (has m.elements 4) h3 in
    let no3 : value 3 ≡ None = none_of (value_in m.elements 3) (or_r (has m.elements 2) (has m.elements 3) h2) in
    let h1 = or_l (has m.elements 2) (has m.elements 3) h2 in
    let no2 : value 2 ≡ None = none_of (value_in m.elements 2) h1 in
    let from90 : elements_with_value value (90 ∷ []) ≡ elements_with_value value ([]) = skips value 90 ([]) no90 in
    let from70 : elements_with_value value (70 ∷ 90 ∷ []) ≡ elements_with_value value (70 ∷ []) = keeps value 70 (90 ∷ []) ([]) from90 in
    let from54 : elements_with_value value (54 ∷ 70 ∷ 90 ∷ []) ≡ elements_with_value value (54 ∷ 70 ∷ []) = keeps value 54 (70 ∷ 90 ∷ []) (70 ∷ []) from70 in
    let from49 : elements_with_value value (49 ∷ 54 ∷ 70 ∷ 90 ∷ []) ≡ elements_with_value value (54 ∷ 70 ∷ []) = skips value 49 (54 ∷ 70 ∷ 90 ∷ []) no49 ∙ from54 in
    let from42 : elements_with_value value (42 ∷ 49 ∷ 54 ∷ 70 ∷ 90 ∷ []) ≡ elements_with_value value (54 ∷ 70 ∷ []) = skips value 42 (49 ∷ 54 ∷ 70 ∷ 90 ∷ []) no42 ∙ from49 in
    let from41 : elements_with_value value (41 ∷ 42 ∷ 49 ∷ 54 ∷ 70 ∷ 90 ∷ []) ≡ elements_with_value value (54 ∷ 70 ∷ []) = skips value 41 (42 ∷ 49 ∷ 54 ∷ 70 ∷ 90 ∷ []) no41 ∙ from42 in
    let from39 : elements_with_value value (39 ∷ 41 ∷ 42 ∷ 49 ∷ 54 ∷ 70 ∷ 90 ∷ []) ≡ elements_with_value value (39 ∷ 54 ∷ 70 ∷ []) = keeps value 39 (41 ∷ 42 ∷ 49 ∷ 54 ∷ 70 ∷ 90 ∷ []) (54 ∷ 70 ∷ []) from41 in
    let from38 : elements_with_value value (38 ∷ 39 ∷ 41 ∷ 42 ∷ 49 ∷ 54 ∷ 70 ∷ 90 ∷ []) ≡ elements_with_value value (38 ∷ 39 ∷ 54 ∷ 70 ∷ []) = keeps value 38 (39 ∷ 41 ∷ 42 ∷ 49 ∷ 54 ∷ 70 ∷ 90 ∷ []) (39 ∷ 54 ∷ 70 ∷ []) from39 in
    let from37 : elements_with_value value (37 ∷ 38 ∷ 39 ∷ 41 ∷ 42 ∷ 49 ∷ 54 ∷ 70 ∷ 90 ∷ []) ≡ elements_with_value value (38 ∷ 39 ∷ 54 ∷ 70 ∷ []) = skips value 37 (38 ∷ 39 ∷ 41 ∷ 42 ∷ 49 ∷ 54 ∷ 70 ∷ 90 ∷ []) no37 ∙ from38 in
    let from33 : elements_with_value value (33 ∷ 37 ∷ 38 ∷ 39 ∷ 41 ∷ 42 ∷ 49 ∷ 54 ∷ 70 ∷ 90 ∷ []) ≡ elements_with_value value (38 ∷ 39 ∷ 54 ∷ 70 ∷ []) = skips value 33 (37 ∷ 38 ∷ 39 ∷ 41 ∷ 42 ∷ 49 ∷ 54 ∷ 70 ∷ 90 ∷ []) no33 ∙ from37 in
    let from32 : elements_with_value value (32 ∷ 33 ∷ 37 ∷ 38 ∷ 39 ∷ 41 ∷ 42 ∷ 49 ∷ 54 ∷ 70 ∷ 90 ∷ []) ≡ elements_with_value value (38 ∷ 39 ∷ 54 ∷ 70 ∷ []) = skips value 32 (33 ∷ 37 ∷ 38 ∷ 39 ∷ 41 ∷ 42 ∷ 49 ∷ 54 ∷ 70 ∷ 90 ∷ []) no32 ∙ from33 in
    let from13 : elements_with_value value (13 ∷ 32 ∷ 33 ∷ 37 ∷ 38 ∷ 39 ∷ 41 ∷ 42 ∷ 49 ∷ 54 ∷ 70 ∷ 90 ∷ []) ≡ elements_with_value value (38 ∷ 39 ∷ 54 ∷ 70 ∷ []) = skips value 13 (32 ∷ 33 ∷ 37 ∷ 38 ∷ 39 ∷ 41 ∷ 42 ∷ 49 ∷ 54 ∷ 70 ∷ 90 ∷ []) no13 ∙ from32 in
    let from12 : elements_with_value value (12 ∷ 13 ∷ 32 ∷ 33 ∷ 37 ∷ 38 ∷ 39 ∷ 41 ∷ 42 ∷ 49 ∷ 54 ∷ 70 ∷ 90 ∷ []) ≡ elements_with_value value (38 ∷ 39 ∷ 54 ∷ 70 ∷ []) = skips value 12 (13 ∷ 32 ∷ 33 ∷ 37 ∷ 38 ∷ 39 ∷ 41 ∷ 42 ∷ 49 ∷ 54 ∷ 70 ∷ 90 ∷ []) no12 ∙ from13 in
    let from11 : elements_with_value value (11 ∷ 12 ∷ 13 ∷ 32 ∷ 33 ∷ 37 ∷ 38 ∷ 39 ∷ 41 ∷ 42 ∷ 49 ∷ 54 ∷ 70 ∷ 90 ∷ []) ≡ elements_with_value value (11 ∷ 38 ∷ 39 ∷ 54 ∷ 70 ∷ []) = keeps value 11 (12 ∷ 13 ∷ 32 ∷ 33 ∷ 37 ∷ 38 ∷ 39 ∷ 41 ∷ 42 ∷ 49 ∷ 54 ∷ 70 ∷ 90 ∷ []) (38 ∷ 39 ∷ 54 ∷ 70 ∷ []) from12 in
    let from7 : elements_with_value value (7 ∷ 11 ∷ 12 ∷ 13 ∷ 32 ∷ 33 ∷ 37 ∷ 38 ∷ 39 ∷ 41 ∷ 42 ∷ 49 ∷ 54 ∷ 70 ∷ 90 ∷ []) ≡ elements_with_value value (7 ∷ 11 ∷ 38 ∷ 39 ∷ 54 ∷ 70 ∷ []) = keeps value 7 (11 ∷ 12 ∷ 13 ∷ 32 ∷ 33 ∷ 37 ∷ 38 ∷ 39 ∷ 41 ∷ 42 ∷ 49 ∷ 54 ∷ 70 ∷ 90 ∷ []) (11 ∷ 38 ∷ 39 ∷ 54 ∷ 70 ∷ []) from11 in
    let from4 : elements_with_value value (4 ∷ 7 ∷ 11 ∷ 12 ∷ 13 ∷ 32 ∷ 33 ∷ 37 ∷ 38 ∷ 39 ∷ 41 ∷ 42 ∷ 49 ∷ 54 ∷ 70 ∷ 90 ∷ []) ≡ elements_with_value value (7 ∷ 11 ∷ 38 ∷ 39 ∷ 54 ∷ 70 ∷ []) = skips value 4 (7 ∷ 11 ∷ 12 ∷ 13 ∷ 32 ∷ 33 ∷ 37 ∷ 38 ∷ 39 ∷ 41 ∷ 42 ∷ 49 ∷ 54 ∷ 70 ∷ 90 ∷ []) no4 ∙ from7 in
    let from3 : elements_with_value value (3 ∷ 4 ∷ 7 ∷ 11 ∷ 12 ∷ 13 ∷ 32 ∷ 33 ∷ 37 ∷ 38 ∷ 39 ∷ 41 ∷ 42 ∷ 49 ∷ 54 ∷ 70 ∷ 90 ∷ []) ≡ elements_with_value value (7 ∷ 11 ∷ 38 ∷ 39 ∷ 54 ∷ 70 ∷ []) = skips value 3 (4 ∷ 7 ∷ 11 ∷ 12 ∷ 13 ∷ 32 ∷ 33 ∷ 37 ∷ 38 ∷ 39 ∷ 41 ∷ 42 ∷ 49 ∷ 54 ∷ 70 ∷ 90 ∷ []) no3 ∙ from4 in
    let from2 : elements_with_value value (2 ∷ 3 ∷ 4 ∷ 7 ∷ 11 ∷ 12 ∷ 13 ∷ 32 ∷ 33 ∷ 37 ∷ 38 ∷ 39 ∷ 41 ∷ 42 ∷ 49 ∷ 54 ∷ 70 ∷ 90 ∷ []) ≡ elements_with_value value (7 ∷ 11 ∷ 38 ∷ 39 ∷ 54 ∷ 70 ∷ []) = skips value 2 (3 ∷ 4 ∷ 7 ∷ 11 ∷ 12 ∷ 13 ∷ 32 ∷ 33 ∷ 37 ∷ 38 ∷ 39 ∷ 41 ∷ 42 ∷ 49 ∷ 54 ∷ 70 ∷ 90 ∷ []) no2 ∙ from3 in
    from2
