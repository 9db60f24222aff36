-- A header tells the length that it was made of.
use Rattle.std.proofs.Common.{◌≡◌, ℕ, ◌+◌, ◌*◌, ◌/◌, ◌<◌, ◌≤◌, List, [], ◌∷◌, ◌++◌, length, get_or, take, drop, Some, sym, refl, ap, ◌∙◌, arith, append_assoc}
use Rattle.std.proofs.lemmas.List.{length-take-le, take-append-drop}
use Rattle.std.proofs.Math.Seq.{drop-append_seam}
use Rattle.iso_parts.specs.declared.digits.Digits.TheVariants as digits
use Rattle.iso_wire.specs.Framing.{largest, header_size, header_of, frame_of, Begins, header_length}
use Rattle.iso_wire.specs.declared.header.Header.{Header}
use Rattle.iso_wire.specs.declared.header.Header.TheVariants.{Binary2, Ascii4, Bcd2}
use Rattle.iso_wire.proofs.Types.{mti_takes}

pub length-header_of : (h : Header) (n : ℕ) → length (header_of h n) ≡ header_size h
length-header_of Binary2 n = refl
length-header_of Ascii4 n = refl
length-header_of Bcd2 n = refl

-- the bytes are the header of a body of n bytes
pub record IsHeader (h : Header) (n : ℕ) (bytes : List ℕ) : Type 0 where
  pub same : bytes ≡ header_of h n
  pub fits : n ≤ largest h

binary_takes : (x y n : ℕ) → y < 256 → x < 256 → Some (256 * x + y) ≡ Some n → IsHeader Binary2 n (x ∷ y ∷ [])
binary_takes x y n low high e =
    let value : 256 * x + y ≡ n = cc in
    record { same = ap (λ (z : ℕ). z ∷ y ∷ []) (omega arith) ∙ ap (λ (z : ℕ). (n / 256) ∷ z ∷ []) (omega arith); fits = omega arith }

-- a length that is read is the one that was written
pub header_takes : (h : Header) (n : ℕ) (p : List ℕ) → ((i : ℕ) → get_or p i 0 < 256) → header_length h p ≡ Some n → IsHeader h n p
header_takes Binary2 n [] fits e = absurd cc
header_takes Binary2 n (x ∷ []) fits e = absurd cc
header_takes Binary2 n (x ∷ y ∷ []) fits e = binary_takes x y n (fits 1) (fits 0) e
header_takes Binary2 n (x ∷ y ∷ z ∷ p) fits e = absurd cc
header_takes Ascii4 n p fits e =
    let t = mti_takes digits.Ascii n p fits e in
    record { same = t.bytes; fits = omega (arith, t.small) }
header_takes Bcd2 n p fits e =
    let t = mti_takes digits.Bcd n p fits e in
    record { same = t.bytes; fits = omega (arith, t.small) }

-- where a header is followed by its body, their frame begins the bytes
begins_with : (h : Header) (n : ℕ) (front rest : List ℕ) → IsHeader h n front → n ≤ length rest → front ++ rest ≡ frame_of h (take n rest) ++ drop n rest
begins_with h n front rest is room =
    let size : length (take n rest) ≡ n = length-take-le n rest room in
    sym (append_assoc (header_of h (length (take n rest))) (take n rest) (drop n rest)
    ∙ ap (λ l. header_of h (length (take n rest)) ++ l) (take-append-drop n rest)
    ∙ ap (λ k. header_of h k ++ rest) size
    ∙ ap (λ l. l ++ rest) (sym is.same))

length-frame_of : (h : Header) (body : List ℕ) → length (frame_of h body) ≡ header_size h + length body
length-frame_of Binary2 body = omega arith
length-frame_of Ascii4 body = omega arith
length-frame_of Bcd2 body = omega arith

pub frame_begins : (h : Header) (n : ℕ) (bytes front rest : List ℕ) → bytes ≡ front ++ rest → IsHeader h n front → n ≤ length rest
    → Begins h bytes (take n rest) (header_size h + n)
frame_begins h n bytes front rest e is room =
    let size : length (take n rest) ≡ n = length-take-le n rest room in
    let whole : bytes ≡ frame_of h (take n rest) ++ drop n rest = e ∙ begins_with h n front rest is room in
    let used : header_size h + n ≡ length (frame_of h (take n rest)) = omega (arith, length-frame_of h (take n rest), size) in
    record {
      whole = whole ∙ ap (λ l. frame_of h (take n rest) ++ l) (sym (ap (λ k. drop k bytes) used ∙ ap (λ l. drop (length (frame_of h (take n rest))) l) whole ∙ drop-append_seam (frame_of h (take n rest)) (drop n rest)));
      size = used;
      fits = omega (arith, size, is.fits);
    }
