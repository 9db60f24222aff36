-- The elements of a message that its table takes, and that are read back from their texts.
use Rattle.std.proofs.Common.{◌≡◌, ◌≢◌, ℕ, ◌+◌, ◌<◌, ◌≤◌, true, false, List, [], ◌∷◌, Option, Some, None, refl, ap, sym, ◌∙◌, arith}
use Rattle.std.specs.Prelude.{◌&&◌, ◌==◌, nat_le, not}
use Rattle.std.specs.Option.{option_or}
use Rattle.std.proofs.lemmas.Bool.{and_from, le-leb, ne_eqb}
use Rattle.iso_parts.specs.Numbers.{is_element}
use Rattle.iso_parts.specs.Spec.{refusal}
use Rattle.iso_parts.specs.declared.fault.FieldFault.{FieldFault}
use Rattle.iso_parts.specs.declared.spec.FieldSpec.{FieldSpec}
use Rattle.iso_table.specs.Layout.{row_at}
use Rattle.iso_wire.specs.Describing.{class_by, clear_text}
use Rattle.iso_wire.specs.Elements.{IsAscending}
use Rattle.iso_wire.specs.OneSpelling.{AreOfBytes}
use Rattle.iso_wire.specs.Refusal.{first_refusal, refused_by, refused_field}
use Rattle.iso_wire.specs.Spelling.{AreBytes}
use Rattle.iso_wire.specs.declared.fault.PackFault.{PackFault}
use Rattle.iso_json.specs.RoundTrip.{HasNoStars}
use Rattle.iso_json.specs.Texts.{is_masked}

-- an element that its row takes, and whose text has no star where a description puts some
pub record IsReady (rows : List (Option FieldSpec)) (e : ℕ × List ℕ) : Type 0 where
  pub row : FieldSpec
  pub found : row_at rows e.0 ≡ Some row
  pub fits : refusal row e.1 ≡ None
  pub bytes : AreBytes e.1
  pub number : is_element e.0 ≡ true
  pub most : e.0 < 129
  pub clear : is_masked e.0 (clear_text row.class e.1) ≡ false

abbrev pub AreReady : List (Option FieldSpec) → List (ℕ × List ℕ) → Type 0
AreReady rows [] = Unit {0}
AreReady rows (e ∷ es) = IsReady rows e × AreReady rows es

neither : (a b : Option PackFault) → option_or a b ≡ None → (a ≡ None) × (b ≡ None)
neither None b h = (refl, h)
neither (Some x) b h = absurd (cc)

not_refused : (n : ℕ) (o : Option FieldFault) → refused_field n o ≡ None → o ≡ None
not_refused n None h = refl
not_refused n (Some e) h = absurd (cc)

-- a row that refuses nothing is there
abbrev Taken : Option FieldSpec → List ℕ → Type 0
Taken r v = (s : FieldSpec) × (r ≡ Some s) × (refusal s v ≡ None)

taken : (r : Option FieldSpec) (n : ℕ) (v : List ℕ) → refused_by r n v ≡ None → Taken r v
taken None n v h = absurd (cc)
taken (Some s) n v h = (s, refl, not_refused n (refusal s v) h)

element_from : (n : ℕ) → 2 ≤ n → n ≤ 128 → n ≢ 65 → is_element n ≡ true
element_from n low high other = and_from (nat_le 2 n && nat_le n 128) (not (n == 65)) (and_from (nat_le 2 n) (nat_le n 128) (le-leb 2 n low) (le-leb n 128 high)) (ap not (ne_eqb n 65 other))

pub are_ready : (rows : List (Option FieldSpec)) (es : List (ℕ × List ℕ)) (low : ℕ) → 2 ≤ low → IsAscending low es → AreOfBytes es → first_refusal rows es ≡ None → HasNoStars rows es → AreReady rows es
are_ready rows [] low least up bytes fits stars = tt
are_ready rows (e ∷ es) low least up bytes fits stars =
    let both = neither (refused_by (row_at rows e.0) e.0 e.1) (first_refusal rows es) fits in
    let row : Taken (row_at rows e.0) e.1 = taken (row_at rows e.0) e.0 e.1 both.0 in
    let class = ap (λ (r : Option FieldSpec). is_masked e.0 (clear_text (class_by r) e.1)) row.1 in (
      record {
        row = row.0;
        found = row.1;
        fits = row.2;
        bytes = bytes.0;
        number = element_from e.0 (omega arith) up.1 up.2;
        most = omega arith;
        clear = sym class ∙ stars.0;
      },
      are_ready rows es (e.0 + 1) (omega arith) up.3 bytes.1 both.1 stars.1,
    )
