-- What a message tells by its parts.
use Rattle.std.proofs.Common.{◌≡◌, ◌≤◌, ◌<◌, ◌+◌, ◌^◌, ℕ, Bool, true, false, refl, sym, ◌∙◌, List, arith, Some, None}
use Rattle.std.specs.Prelude.{nat_le, if◌then◌else◌}
use Rattle.std.proofs.lemmas.Bool.{le-leb}
use Rattle.iso_wire.specs.Decimal.{are_digits, number, number_in}
use Rattle.iso_wire.specs.DecimalLaws.{DecimalLaws}

pub none_if : {X : Type 0} (t : Bool) (x : X) → None ≡ (if t then Some x else None) → t ≡ false
none_if true x h = absurd cc
none_if false x h = refl

pub some_if : {X : Type 0} (t : Bool) (x y : X) → Some y ≡ (if t then Some x else None) → (t ≡ true) × (y ≡ x)
some_if true x y h = (refl, cc)
some_if false x y h = absurd cc

-- ---- how large a number of few digits is

-- a number of so many digits at most
few-told : DecimalLaws → (least most n : ℕ) (t : List ℕ) → Some n ≡ number_in least most t → n < 10 ^ most
few-told decimals least most n t is =
    let h = some_if (are_digits least most t) (number t) n is in
    rw h.1 (decimals.below least most t h.0)

-- it isn't too large
pub not-large : DecimalLaws → (least most n limit : ℕ) (t : List ℕ) → Some n ≡ number_in least most t → 10 ^ most ≤ limit + 1 → None ≡ (if nat_le n limit then Some n else None) → ⊥
not-large decimals least most n limit t is room none =
    let lt = few-told decimals least most n t is in
    let small : nat_le n limit ≡ true = le-leb n limit (omega (arith, lt, room)) in
    absurd (let both : false ≡ true = sym (none_if (nat_le n limit) n none) ∙ small in cc)
