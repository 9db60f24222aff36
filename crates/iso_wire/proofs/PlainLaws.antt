-- Each message that a table doesn't refuse has a plain spelling, and only one.
use Rattle.std.specs.Option.{option_or}
use Rattle.std.proofs.Common.{◌≡◌, ℕ, ◌-◌, ◌/◌, Bool, true, false, cond, eqb, List, [], ◌∷◌, ◌++◌, drop, Option, Some, None, refl, sym, ap, subst, ◌∙◌}
use Rattle.std.specs.List.{flat_map}
use Rattle.std.proofs.lemmas.Bool.{eqb-true}
use Rattle.iso_parts.specs.Digits.{four_digits_of}
use Rattle.iso_parts.specs.declared.fault.FieldFault.{FieldFault}
use Rattle.iso_parts.specs.declared.spec.FieldSpec.{FieldSpec}
use Rattle.iso_parts.specs.Part.{Part}
use Rattle.iso_parts.specs.Spec.{refusal}
use Rattle.iso_parts.specs.MapLaws.{MapLaws}
use Rattle.iso_parts.specs.PartLaws.{PartLaws}
use Rattle.iso_table.specs.Layout.{row_at, AreGood}
use Rattle.iso_wire.specs.declared.fault.PackFault.{PackFault}
use Rattle.iso_wire.specs.declared.fault.PackFault.TheVariants.{WrongVersion}
use Rattle.iso_wire.specs.Elements.{has}
use Rattle.iso_wire.specs.Ends.{elements_of}
use Rattle.iso_wire.specs.OneSpelling.{AreOfBytes, HasPlain, PlainOnce}
use Rattle.iso_wire.specs.Refusal.{refused_field, refused_by, first_refusal}
use Rattle.iso_wire.specs.Spelling.{plain_by, plain_of, PartAs, Parts, AreBytes}
use Rattle.iso_wire.proofs.Bytes.{bytes_take, bytes_drop}
use Rattle.iso_wire.proofs.Orders.{Values}
use Rattle.iso_wire.proofs.Packs.{plain_spelling_lem}

-- values out of a buffer of bytes
pub bytes-elements_of : (ns : List ℕ) (start : ℕ) (ends b : List ℕ) → AreBytes b → AreOfBytes (elements_of ns start ends b)
bytes-elements_of ns start [] b fits = tt
bytes-elements_of [] start (e ∷ es) b fits = tt
bytes-elements_of (n ∷ ns) start (e ∷ es) b fits = (bytes_take (e - start) (drop start b) (bytes_drop start b fits), bytes-elements_of ns e es b fits)

-- ---- a message that isn't refused

field_taken : (n : ℕ) (e : Option FieldFault) → refused_field n e ≡ None → e ≡ None
field_taken n None h = refl
field_taken n (Some e) h = absurd cc

both_taken : (first rest : Option PackFault) → option_or first rest ≡ None → (first ≡ None) × (rest ≡ None)
both_taken None rest h = (refl, h)
both_taken (Some e) rest h = absurd cc

version_taken : (t : Bool) (n version : ℕ) (o : Option PackFault) → eqb n version ≡ t → cond t o (Some WrongVersion) ≡ None → (n ≡ version) × (o ≡ None)
version_taken true n version o is h = (eqb-true n version is, h)
version_taken false n version o is h = absurd cc

-- ---- it has a plain spelling

module _ (part_laws : PartLaws) (map_laws : MapLaws) where
  row_plain : (rows : List (Option FieldSpec)) (n : ℕ) (v : List ℕ) (r : Option FieldSpec) → AreGood rows → AreBytes v → row_at rows n ≡ r → refused_by r n v ≡ None → PartAs rows n v (plain_by (row_at rows n) v)
  row_plain rows n v None good bytes is h = absurd cc
  row_plain rows n v (Some s) good bytes is h =
      let part = part_laws.plain s v (good n s is) ((part_laws.fits s v).1 (field_taken n (refusal s v) h)) bytes in
      (s, is, subst (λ (r : Option FieldSpec). Part s v (plain_by r v)) (sym is) part)

  parts_plain : (rows : List (Option FieldSpec)) (es : Values) → AreGood rows → AreOfBytes es → first_refusal rows es ≡ None → Parts rows es (flat_map (plain_of rows) es)
  parts_plain rows [] good bytes h = refl
  parts_plain rows (e ∷ es) good bytes h =
      let taken = both_taken (refused_by (row_at rows e.0) e.0 e.1) (first_refusal rows es) h in (
        plain_of rows e,
        flat_map (plain_of rows) es,
        row_plain rows e.0 e.1 (row_at rows e.0) good bytes.0 refl taken.0,
        parts_plain rows es good bytes.1 taken.1,
        refl,
      )

  pub has_plain : HasPlain
  has_plain t m good well h =
      let parts : List ℕ = flat_map (plain_of t.rows) m.elements in
      let taken = version_taken (eqb (m.mti / 1000) t.version) (m.mti / 1000) t.version (first_refusal t.rows m.elements) refl h in
      let maps = map_laws.some t.bitmap (has m.elements) in
      let out : List ℕ = four_digits_of t.mti m.mti ++ (maps.0 ++ parts) in
      (out, plain_spelling_lem t m (has m.elements) maps.0 out well.mti taken.0 well.ascending (λ k. refl) maps.1 (parts_plain t.rows m.elements good well.bytes taken.1) refl)

-- ---- and only one

module _ (map_laws : MapLaws) where
  pub plain_once : PlainOnce
  plain_once t m a b one other =
      let type : List ℕ = four_digits_of t.mti m.mti in
      one.spelling.bytes
      ∙ ap (λ (l : List ℕ). type ++ (l ++ one.spelling.parts)) (map_laws.once t.bitmap (has m.elements) one.spelling.maps other.spelling.maps one.bitmaps other.bitmaps)
      ∙ ap (λ (l : List ℕ). type ++ (other.spelling.maps ++ l)) (one.parts ∙ sym other.parts)
      ∙ sym other.spelling.bytes
