-- Padding that is put on and taken off again.
use Rattle.std.proofs.Common.{◌≡◌, ℕ, zero, suc, ◌-◌, ◌≤◌, Bool, true, false, cond, eqb, List, [], ◌∷◌, ◌++◌, length, reverse, replicate, refl, sym, ap, ◌∙◌, arith}
use Rattle.std.proofs.lemmas.Bool.{eqb-true}
use Rattle.std.proofs.lemmas.List.{reverse-append, reverse-reverse, length-reverse}
use Rattle.std.proofs.lemmas.Grind.{common_steps}
use Rattle.iso_parts.specs.declared.padding.Pad.{Pad}
use Rattle.iso_parts.specs.declared.padding.Pad.TheVariants as pads
use Rattle.iso_parts.specs.Spec.{begins_with, has_pad_end}
use Rattle.iso_parts.specs.Part.{with_pads}
use Rattle.iso_parts.specs.Reading.{without_front, without_padding}

without_front-clean : (p : ℕ) (v : List ℕ) → begins_with p v ≡ false → without_front p v ≡ v
without_front-clean p [] h = refl
without_front-clean p (x ∷ xs) h = rw h refl

without_front-replicate : (p n : ℕ) (v : List ℕ) → begins_with p v ≡ false → without_front p (replicate n p ++ v) ≡ v
without_front-replicate p zero v h = without_front-clean p v h
without_front-replicate p (suc n) v h = grind (arith, common_steps, without_front-replicate p n v h)

-- what is taken off are pads, and no more stand in front
record IsFront (p : ℕ) (w v : List ℕ) : Type 0 where
  pub whole : replicate (length w - length v) p ++ v ≡ w
  pub clean : begins_with p v ≡ false
  pub shorter : length v ≤ length w

front_step : (p x : ℕ) (xs r : List ℕ) (b : Bool) → eqb x p ≡ b → IsFront p xs r → IsFront p (x ∷ xs) (cond b r (x ∷ xs))
front_step p x xs r true e rest =
    let same : x ≡ p = eqb-true x p e in
    let len : suc (length xs) - length r ≡ suc (length xs - length r) = omega (arith, rest.shorter) in
    record {
      whole = rw (len, same) (ap (λ (l : List ℕ). p ∷ l) rest.whole);
      clean = rest.clean;
      shorter = omega (arith, rest.shorter);
    }
front_step p x xs r false e rest =
    let none : suc (length xs) - suc (length xs) ≡ 0 = omega arith in
    record { whole = rw none refl; clean = e; shorter = omega arith }

IsFront-without : (p : ℕ) (w : List ℕ) → IsFront p w (without_front p w)
IsFront-without p [] = record { whole = refl; clean = refl; shorter = omega arith }
IsFront-without p (x ∷ xs) = front_step p x xs (without_front p xs) (eqb x p) refl (IsFront-without p xs)

replicate_end : (n p : ℕ) → replicate n p ++ p ∷ [] ≡ p ∷ replicate n p
replicate_end zero p = refl
replicate_end (suc n) p = ap (λ (l : List ℕ). p ∷ l) (replicate_end n p)

reverse-replicate : (n p : ℕ) → reverse (replicate n p) ≡ replicate n p
reverse-replicate zero p = refl
reverse-replicate (suc n) p = reverse-append (p ∷ []) (replicate n p) ∙ rw (reverse-replicate n p) (replicate_end n p)

-- what is put on is taken off
pub without_padding-with_pads : (pad : Pad) (n : ℕ) (v : List ℕ) → has_pad_end pad v ≡ false → without_padding pad (with_pads pad n v) ≡ v
without_padding-with_pads pads.None n v h = refl
without_padding-with_pads (pads.Left p) n v h = without_front-replicate p n v h
without_padding-with_pads (pads.Right p) n v h =
    rw (reverse-append, reverse-replicate, without_front-replicate p n (reverse v) h) (reverse-reverse v)

-- what is taken off leaves a value without a pad at its end, and is what puts it on again
pub record IsUnpadded (pad : Pad) (w v : List ℕ) : Type 0 where
  pub whole : with_pads pad (length w - length v) v ≡ w
  pub clean : has_pad_end pad v ≡ false
  pub shorter : length v ≤ length w

pub IsUnpadded-without_padding : (pad : Pad) (w : List ℕ) → IsUnpadded pad w (without_padding pad w)
IsUnpadded-without_padding pads.None w = record { whole = refl; clean = refl; shorter = omega arith }
IsUnpadded-without_padding (pads.Left p) w =
    let front = IsFront-without p w in
    record { whole = front.whole; clean = front.clean; shorter = front.shorter }
IsUnpadded-without_padding (pads.Right p) w =
    let v = without_front p (reverse w) in
    let front = IsFront-without p (reverse w) in
    let whole : reverse v ++ replicate (length w - length (reverse v)) p ≡ w =
    ap (λ (l : List ℕ). reverse v ++ l) (ap (λ (n : ℕ). replicate n p) (ap (λ (n : ℕ). n - length (reverse v)) (sym (length-reverse w)) ∙ ap (λ (n : ℕ). length (reverse w) - n) (length-reverse v)) ∙ sym (reverse-replicate (length (reverse w) - length v) p))
    ∙ sym (reverse-append (replicate (length (reverse w) - length v) p) v) ∙ ap reverse front.whole ∙ reverse-reverse w in
    record {
      whole = whole;
      clean = rw (reverse-reverse v) front.clean;
      shorter = omega (arith, front.shorter, length-reverse v, length-reverse w);
    }
