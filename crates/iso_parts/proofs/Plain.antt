-- The plain part is a part.
use Rattle.std.proofs.Common.{◌≡◌, ℕ, zero, suc, ◌-◌, ◌<◌, Bool, true, false, not, Some, None, ◌&&◌, cond, List, [], ◌∷◌, ◌++◌, length, get_or, replicate, refl, subst, arith}
use Rattle.std.specs.List.{list_all}
use Rattle.std.proofs.lemmas.Bool.{and_parts}
use Rattle.std.proofs.lemmas.Bool.Decides.{nat_tests}
use Rattle.iso_parts.specs.declared.class.CharClass.{CharClass}
use Rattle.iso_parts.specs.declared.class.CharClass.TheVariants as classes
use Rattle.iso_parts.specs.declared.encoding.Coding.{Coding}
use Rattle.iso_parts.specs.declared.encoding.Coding.TheVariants as codings
use Rattle.iso_parts.specs.declared.padding.Pad.{Pad}
use Rattle.iso_parts.specs.declared.padding.Pad.TheVariants as pads
use Rattle.iso_parts.specs.declared.spec.FieldSpec.{FieldSpec}
use Rattle.iso_parts.specs.declared.fault.FieldFault.{FieldFault}
use Rattle.iso_parts.specs.declared.fault.FieldFault.TheVariants.{WrongLength, NotInClass, PadEnd}
use Rattle.iso_parts.specs.Class.{is_within, is_digit, is_in_class}
use Rattle.iso_parts.specs.Spec.{is_coded, is_pad_byte, is_good_pad, is_length, has_pad_end, refusal, IsGood, Fits}
use Rattle.iso_parts.specs.Part.{with_pads, with_padding, plain, plain_part, Part}
use Rattle.iso_parts.proofs.Texts.{has_nibbles, AreCoded, plain_stands}

both : (a b : Bool) → a ≡ true → b ≡ true → (a && b) ≡ true
both a b e f = rw (e, f) refl

-- ---- under BCD each character has a nibble

digit_nibble : (b : ℕ) → is_digit b ≡ true → is_within 48 63 b ≡ true
digit_nibble b h = grind (arith, nat_tests)

digits_nibbles : (v : List ℕ) → list_all is_digit v ≡ true → has_nibbles v ≡ true
digits_nibbles [] h = refl
digits_nibbles (x ∷ xs) h = let p = and_parts _ _ h in both _ _ (digit_nibble x p.0) (digits_nibbles xs p.1)

class_nibbles : (c : CharClass) (v : List ℕ) → is_coded codings.Bcd c ≡ true → is_in_class c v ≡ true → has_nibbles v ≡ true
class_nibbles c [] coded h = refl
class_nibbles classes.N (x ∷ xs) coded h = digits_nibbles (x ∷ xs) h
class_nibbles classes.Z (x ∷ xs) coded h = h
class_nibbles classes.A (x ∷ xs) coded h = absurd cc
class_nibbles classes.AN (x ∷ xs) coded h = absurd cc
class_nibbles classes.ANS (x ∷ xs) coded h = absurd cc
class_nibbles classes.ZD (x ∷ xs) coded h = absurd cc
class_nibbles classes.XN (x ∷ xs) coded h = absurd cc
class_nibbles classes.B (x ∷ xs) coded h = absurd cc

has_nibbles-append : (a b : List ℕ) → has_nibbles a ≡ true → has_nibbles b ≡ true → has_nibbles (a ++ b) ≡ true
has_nibbles-append [] b ha hb = hb
has_nibbles-append (x ∷ xs) b ha hb = let p = and_parts _ _ ha in both _ _ p.0 (has_nibbles-append xs b p.1 hb)

has_nibbles-replicate : (n p : ℕ) → is_within 48 63 p ≡ true → has_nibbles (replicate n p) ≡ true
has_nibbles-replicate zero p h = refl
has_nibbles-replicate (suc n) p h = both _ _ h (has_nibbles-replicate n p h)

pads_nibbles : (s : FieldSpec) (pad : Pad) (n : ℕ) (v : List ℕ) → s.coding ≡ codings.Bcd → is_good_pad s pad ≡ true → has_nibbles v ≡ true → has_nibbles (with_pads pad n v) ≡ true
pads_nibbles s pads.None n v bcd good h = h
pads_nibbles s (pads.Left p) n v bcd good h =
    let pad_byte : is_pad_byte s.coding p ≡ true = (and_parts _ _ good).1 in
    has_nibbles-append (replicate n p) v (has_nibbles-replicate n p (subst (λ (c : Coding). is_pad_byte c p ≡ true) bcd pad_byte)) h
pads_nibbles s (pads.Right p) n v bcd good h =
    let pad_byte : is_pad_byte s.coding p ≡ true = (and_parts _ _ good).1 in
    has_nibbles-append v (replicate n p) h (has_nibbles-replicate n p (subst (λ (c : Coding). is_pad_byte c p ≡ true) bcd pad_byte))

-- ---- under hexadecimal digits nothing is padded

no_hex_pad : (c : Coding) (p : ℕ) → c ≡ codings.HexText → is_pad_byte c p ≡ true → ⊥
no_hex_pad codings.Ascii p hex h = absurd cc
no_hex_pad codings.Bcd p hex h = absurd cc
no_hex_pad codings.Raw p hex h = absurd cc
no_hex_pad codings.HexText p hex h = absurd cc

unpadded_hex : (s : FieldSpec) (pad : Pad) (n : ℕ) (v : List ℕ) → s.coding ≡ codings.HexText → is_good_pad s pad ≡ true → with_pads pad n v ≡ v
unpadded_hex s pads.None n v hex good = refl
unpadded_hex s (pads.Left p) n v hex good = absurd (no_hex_pad s.coding p hex (and_parts _ _ good).1)
unpadded_hex s (pads.Right p) n v hex good = absurd (no_hex_pad s.coding p hex (and_parts _ _ good).1)

pub plain_is_part : (s : FieldSpec) (v : List ℕ) → IsGood s → Fits s v → ((i : ℕ) → get_or v i 0 < 256) → Part s v (plain_part s v)
plain_is_part s v good fits bytes =
    let coded : AreCoded s.coding (with_padding s v) = record {
      bytes = λ hex i. rw (unpadded_hex s s.pad (s.max - length v) v hex good.pad) (bytes i);
      nibbles = λ bcd. pads_nibbles s s.pad (s.max - length v) v bcd good.pad (class_nibbles s.class v (subst (λ (c : Coding). is_coded c s.class ≡ true) bcd good.coding) fits.class);
    } in
    (plain s.coding (with_padding s v), (fits, plain_stands s.coding (with_padding s v) coded), refl)

accepted_by : (a b c : Bool) (x y z : FieldFault) → cond (not a) (Some x) (cond (not b) (Some y) (cond c (Some z) None)) ≡ None → (a ≡ true) × (b ≡ true) × (c ≡ false)
accepted_by true true false x y z e = (refl, refl, refl)
accepted_by true true true x y z e = absurd cc
accepted_by true false c x y z e = absurd cc
accepted_by false b c x y z e = absurd cc

-- what is not refused fits
pub fits_from_refusal : (s : FieldSpec) (v : List ℕ) → refusal s v ≡ None → Fits s v
fits_from_refusal s v e =
    let p = accepted_by (is_length s (length v)) (is_in_class s.class v) (has_pad_end s.pad v) WrongLength NotInClass PadEnd e in
    record { length = p.0; class = p.1; pad = p.2 }

-- what fits is not refused
pub refusal_from_fits : (s : FieldSpec) (v : List ℕ) → Fits s v → refusal s v ≡ None
refusal_from_fits s v fits = rw (fits.length, fits.class, fits.pad) refl
