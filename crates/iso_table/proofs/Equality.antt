-- Two tables say the same exactly where they are equal.
use Rattle.std.proofs.Common.{◌≡◌, ℕ, ◌&&◌, List, Option, Some, None, refl, ap}
use Rattle.std.specs.Bool.{Decides}
use Rattle.std.specs.Option.{option_eq}
use Rattle.std.specs.Cmp.{unsigned_Decides}
use Rattle.std.specs.Cmp.Lexicographic.{pointwise_decides}
use Rattle.std.proofs.lemmas.Bool.{and_parts}
use denote.Enum.Bare.{same_true, true_same}
use Rattle.iso_parts.specs.declared.bitmap.BitmapCoding.{BitmapCoding}
use Rattle.iso_parts.specs.declared.class.CharClass.{CharClass}
use Rattle.iso_parts.specs.declared.digits.Digits.{Digits}
use Rattle.iso_parts.specs.declared.encoding.Coding.{Coding}
use Rattle.iso_parts.specs.declared.padding.Pad.{Pad}
use Rattle.iso_parts.specs.declared.padding.Pad.TheVariants as pads
use Rattle.iso_parts.specs.declared.prefix.Length.{Length}
use Rattle.iso_parts.specs.declared.prefix.Length.TheVariants as lengths
use Rattle.iso_parts.specs.declared.spec.FieldSpec.{FieldSpec}
use Rattle.iso_parts.specs.contracts.bitmap.BitmapCoding.{the_type as bitmap_type}
use Rattle.iso_parts.specs.contracts.class.CharClass.{the_type as class_type}
use Rattle.iso_parts.specs.contracts.class.CharClassPartialEq.TheImpl as class
use Rattle.iso_parts.specs.contracts.digits.Digits.{the_type as digits_type}
use Rattle.iso_parts.specs.contracts.encoding.Coding.{the_type as coding_type}
use Rattle.iso_parts.specs.contracts.encoding.CodingPartialEq.TheImpl as coding
use Rattle.iso_parts.specs.contracts.padding.PadPartialEq.TheImpl as pad
use Rattle.iso_parts.specs.contracts.prefix.LengthPartialEq.TheImpl as length
use Rattle.iso_table.specs.Layout.{Layout}
use Rattle.iso_table.specs.Equality.{same_digits, same_coding, same_spec, same_rows, same_layout}
use Rattle.iso_table.proofs.SameTable.{equal_layout}

-- ---- the parts of a row

class_decides : (a b : CharClass) → Decides (class.eq-value.it a b) (a ≡ b)
class_decides a b = (λ h. same_true class_type tt a b h, λ e. true_same class_type a b e)

coding_decides : (a b : Coding) → Decides (coding.eq-value.it a b) (a ≡ b)
coding_decides a b = (λ h. same_true coding_type tt a b h, λ e. true_same coding_type a b e)

digits_decides : (a b : Digits) → Decides (same_digits a b) (a ≡ b)
digits_decides a b = (λ h. same_true digits_type tt a b h, λ e. true_same digits_type a b e)

bitmap_decides : (a b : BitmapCoding) → Decides (same_coding a b) (a ≡ b)
bitmap_decides a b = (λ h. same_true bitmap_type tt a b h, λ e. true_same bitmap_type a b e)

length_decides : (a b : Length) → Decides (length.eq-value.it a b) (a ≡ b)
length_decides lengths.Fixed lengths.Fixed = (λ h. refl, λ e. refl)
length_decides lengths.Fixed (lengths.LL k) = (λ h. absurd (cc), λ e. absurd (cc))
length_decides lengths.Fixed (lengths.LLL k) = (λ h. absurd (cc), λ e. absurd (cc))
length_decides lengths.Fixed (lengths.LLLL k) = (λ h. absurd (cc), λ e. absurd (cc))
length_decides (lengths.LL d) lengths.Fixed = (λ h. absurd (cc), λ e. absurd (cc))
length_decides (lengths.LL d) (lengths.LL k) = (λ h. ap (λ (d : Digits). lengths.LL d) ((digits_decides d k).0 h), λ e. (digits_decides d k).1 (cc))
length_decides (lengths.LL d) (lengths.LLL k) = (λ h. absurd (cc), λ e. absurd (cc))
length_decides (lengths.LL d) (lengths.LLLL k) = (λ h. absurd (cc), λ e. absurd (cc))
length_decides (lengths.LLL d) lengths.Fixed = (λ h. absurd (cc), λ e. absurd (cc))
length_decides (lengths.LLL d) (lengths.LL k) = (λ h. absurd (cc), λ e. absurd (cc))
length_decides (lengths.LLL d) (lengths.LLL k) = (λ h. ap (λ (d : Digits). lengths.LLL d) ((digits_decides d k).0 h), λ e. (digits_decides d k).1 (cc))
length_decides (lengths.LLL d) (lengths.LLLL k) = (λ h. absurd (cc), λ e. absurd (cc))
length_decides (lengths.LLLL d) lengths.Fixed = (λ h. absurd (cc), λ e. absurd (cc))
length_decides (lengths.LLLL d) (lengths.LL k) = (λ h. absurd (cc), λ e. absurd (cc))
length_decides (lengths.LLLL d) (lengths.LLL k) = (λ h. absurd (cc), λ e. absurd (cc))
length_decides (lengths.LLLL d) (lengths.LLLL k) = (λ h. ap (λ (d : Digits). lengths.LLLL d) ((digits_decides d k).0 h), λ e. (digits_decides d k).1 (cc))

pad_decides : (a b : Pad) → Decides (pad.eq-value.it a b) (a ≡ b)
pad_decides pads.None pads.None = (λ h. refl, λ e. refl)
pad_decides pads.None (pads.Left q) = (λ h. absurd (cc), λ e. absurd (cc))
pad_decides pads.None (pads.Right q) = (λ h. absurd (cc), λ e. absurd (cc))
pad_decides (pads.Left p) pads.None = (λ h. absurd (cc), λ e. absurd (cc))
pad_decides (pads.Left p) (pads.Left q) = (λ h. ap (λ (p : ℕ). pads.Left p) ((unsigned_Decides p q).0 h), λ e. (unsigned_Decides p q).1 (cc))
pad_decides (pads.Left p) (pads.Right q) = (λ h. absurd (cc), λ e. absurd (cc))
pad_decides (pads.Right p) pads.None = (λ h. absurd (cc), λ e. absurd (cc))
pad_decides (pads.Right p) (pads.Left q) = (λ h. absurd (cc), λ e. absurd (cc))
pad_decides (pads.Right p) (pads.Right q) = (λ h. ap (λ (p : ℕ). pads.Right p) ((unsigned_Decides p q).0 h), λ e. (unsigned_Decides p q).1 (cc))

-- ---- rows

same_parts : (s t : FieldSpec) → s.class ≡ t.class → s.coding ≡ t.coding → s.length ≡ t.length → s.max ≡ t.max → s.pad ≡ t.pad → s ≡ t
same_parts s t a b c d e = λ i. record { class = a i; coding = b i; length = c i; max = d i; pad = e i }

spec_decides : (s t : FieldSpec) → Decides (same_spec s t) (s ≡ t)
spec_decides s t = (
  (λ h.
      let a = and_parts _ _ h in
      let b = and_parts _ _ a.1 in
      let c = and_parts _ _ b.1 in
      let d = and_parts _ _ c.1 in
      same_parts s t ((class_decides s.class t.class).0 a.0) ((coding_decides s.coding t.coding).0 b.0) ((length_decides s.length t.length).0 c.0) ((unsigned_Decides s.max t.max).0 d.0) ((pad_decides s.pad t.pad).0 d.1)),
  λ e i.
      (class_decides s.class t.class).1 (ap (λ (x : FieldSpec). x.class) e) i
      && ((coding_decides s.coding t.coding).1 (ap (λ (x : FieldSpec). x.coding) e) i
      && ((length_decides s.length t.length).1 (ap (λ (x : FieldSpec). x.length) e) i
      && ((unsigned_Decides s.max t.max).1 (ap (λ (x : FieldSpec). x.max) e) i
      && (pad_decides s.pad t.pad).1 (ap (λ (x : FieldSpec). x.pad) e) i))),
)

place_decides : (a b : Option FieldSpec) → Decides (option_eq same_spec a b) (a ≡ b)
place_decides None None = (λ h. refl, λ e. refl)
place_decides None (Some t) = (λ h. absurd (cc), λ e. absurd (cc))
place_decides (Some s) None = (λ h. absurd (cc), λ e. absurd (cc))
place_decides (Some s) (Some t) = (λ h. ap (λ (x : FieldSpec). Some x) ((spec_decides s t).0 h), λ e. (spec_decides s t).1 (cc))

rows_decide : (xs ys : List (Option FieldSpec)) → Decides (same_rows xs ys) (xs ≡ ys)
rows_decide xs ys = pointwise_decides place_decides xs ys

-- ---- tables

pub layout_decides : (t u : Layout) → Decides (same_layout t u) (t ≡ u)
layout_decides t u = (
  (λ h.
      let both = and_parts _ _ h in
      let front = and_parts _ _ both.0 in
      let back = and_parts _ _ both.1 in
      equal_layout t u ((unsigned_Decides t.version u.version).0 front.0) ((digits_decides t.mti u.mti).0 front.1) ((bitmap_decides t.bitmap u.bitmap).0 back.0) ((rows_decide t.rows u.rows).0 back.1)),
  λ e i.
      ((unsigned_Decides t.version u.version).1 (ap (λ (x : Layout). x.version) e) i && (digits_decides t.mti u.mti).1 (ap (λ (x : Layout). x.mti) e) i)
      && ((bitmap_decides t.bitmap u.bitmap).1 (ap (λ (x : Layout). x.bitmap) e) i && (rows_decide t.rows u.rows).1 (ap (λ (x : Layout). x.rows) e) i),
)
