-- How many characters of a value are written.
use Rattle.std.proofs.Common.{◌≡◌, ℕ, zero, suc, ◌+◌, ◌-◌, ◌≤◌, true, cond, eqb, leb, List, ◌++◌, length, replicate, refl, ap, ◌∙◌, arith}
use Rattle.std.proofs.lemmas.Bool.{and_parts, eqb-true}
use Rattle.std.proofs.lemmas.Bool.Decides.{nat_tests}
use Rattle.std.proofs.lemmas.List.{length-append}
use Rattle.iso_parts.specs.declared.class.CharClass.{CharClass}
use Rattle.iso_parts.specs.declared.prefix.Length.{Length}
use Rattle.iso_parts.specs.declared.prefix.Length.TheVariants as lengths
use Rattle.iso_parts.specs.declared.padding.Pad.{Pad}
use Rattle.iso_parts.specs.declared.padding.Pad.TheVariants as pads
use Rattle.iso_parts.specs.declared.spec.FieldSpec.{FieldSpec}
use Rattle.iso_parts.specs.Spec.{is_padded, is_good_pad, is_exact, limit, IsGood, Fits}
use Rattle.iso_parts.specs.Part.{with_pads, with_padding, prefix}

pub length-replicate : (n p : ℕ) → length (replicate n p) ≡ n
length-replicate zero p = refl
length-replicate (suc n) p = ap suc (length-replicate n p)

-- only fixed lengths are padded
pub padded_is_fixed : (c : CharClass) (k : Length) → is_padded c k ≡ true → k ≡ lengths.Fixed
padded_is_fixed c lengths.Fixed h = refl
padded_is_fixed c (lengths.LL d) h = absurd cc
padded_is_fixed c (lengths.LLL d) h = absurd cc
padded_is_fixed c (lengths.LLLL d) h = absurd cc

-- what is known of the count
pub record IsWireCount (k : Length) (max n v : ℕ) : Type 0 where
  pub at_most : n ≤ max
  pub fixed : k ≡ lengths.Fixed → n ≡ max
  pub prefix : prefix k v ≡ prefix k n

unpadded_counts : (k : Length) (max n : ℕ) → cond (is_exact k pads.None) (eqb n max) (leb n max) ≡ true → IsWireCount k max n n
unpadded_counts lengths.Fixed max n h = let e = eqb-true n max h in record { at_most = omega arith; fixed = λ _. e; prefix = refl }
unpadded_counts (lengths.LL d) max n h = record { at_most = grind (arith, nat_tests); fixed = λ e. absurd cc; prefix = refl }
unpadded_counts (lengths.LLL d) max n h = record { at_most = grind (arith, nat_tests); fixed = λ e. absurd cc; prefix = refl }
unpadded_counts (lengths.LLLL d) max n h = record { at_most = grind (arith, nat_tests); fixed = λ e. absurd cc; prefix = refl }

padded_counts : (k : Length) (max n v : ℕ) → k ≡ lengths.Fixed → n ≡ max → IsWireCount k max n v
padded_counts k max n v fixed e = record { at_most = omega arith; fixed = λ _. e; prefix = rw fixed refl }

filled : (max p : ℕ) (v : List ℕ) → leb (length v) max ≡ true → length (replicate (max - length v) p) + length v ≡ max
filled max p v h = let le : length v ≤ max = grind (arith, nat_tests) in omega (arith, length-replicate (max - length v) p)

counts_by_pad : (s : FieldSpec) (pad : Pad) (v : List ℕ) → is_good_pad s pad ≡ true → cond (is_exact s.length pad) (eqb (length v) s.max) (leb (length v) s.max) ≡ true → IsWireCount s.length s.max (length (with_pads pad (s.max - length v) v)) (length v)
counts_by_pad s pads.None v good fits = unpadded_counts s.length s.max (length v) fits
counts_by_pad s (pads.Left p) v good fits =
    let fixed = padded_is_fixed s.class s.length (and_parts _ _ good).0 in
    let fits_filled : leb (length v) s.max ≡ true = rw fixed at fits in
    padded_counts s.length s.max (length (replicate (s.max - length v) p ++ v)) (length v) fixed (length-append (replicate (s.max - length v) p) v ∙ filled s.max p v fits_filled)
counts_by_pad s (pads.Right p) v good fits =
    let fixed = padded_is_fixed s.class s.length (and_parts _ _ good).0 in
    let fits_filled : leb (length v) s.max ≡ true = rw fixed at fits in
    let whole = filled s.max p v fits_filled in
    padded_counts s.length s.max (length (v ++ replicate (s.max - length v) p)) (length v) fixed (length-append v (replicate (s.max - length v) p) ∙ omega arith)

pub counts : (s : FieldSpec) (v : List ℕ) → IsGood s → Fits s v → IsWireCount s.length s.max (length (with_padding s v)) (length v)
counts s v good fits = counts_by_pad s s.pad v good.pad fits.length

-- the greatest count has a prefix
pub max_small : (s : FieldSpec) → IsGood s → s.max ≤ limit s.length
max_small s good = grind (arith, nat_tests, good.max)
