-- Whether two tables are the same: what `==` answers.
use Rattle.std.specs.Prelude.{Bool, ◌&&◌, nat_eq, List, Option}
use Rattle.std.specs.Option.{option_eq}
use Rattle.std.specs.Cmp.{IsEquivalence, on_equiv, and_equiv, nat_eq_equiv}
use Rattle.std.specs.Cmp.Lexicographic.{pointwise, lists_equiv, options_equiv}
use Rattle.iso_parts.specs.declared.bitmap.BitmapCoding.{BitmapCoding}
use Rattle.iso_parts.specs.declared.digits.Digits.{Digits}
use Rattle.iso_parts.specs.declared.spec.FieldSpec.{FieldSpec}
use Rattle.iso_parts.specs.contracts.bitmap.BitmapCodingEq.TheImpl.Laws as coding_laws
use Rattle.iso_parts.specs.contracts.bitmap.BitmapCodingPartialEq.TheImpl as coding
use Rattle.iso_parts.specs.contracts.digits.DigitsEq.TheImpl.Laws as digits_laws
use Rattle.iso_parts.specs.contracts.digits.DigitsPartialEq.TheImpl as digits
use Rattle.iso_parts.specs.contracts.spec.FieldSpecEq.TheImpl.Laws as spec_laws
use Rattle.iso_parts.specs.contracts.spec.FieldSpecPartialEq.TheImpl as spec
use Rattle.iso_table.specs.Layout.{Layout}

-- digits are written in the same way
abbrev pub same_digits : Digits → Digits → Bool
same_digits = digits.eq-value.it

-- bitmaps are written in the same way
abbrev pub same_coding : BitmapCoding → BitmapCoding → Bool
same_coding = coding.eq-value.it

-- two fields are laid out in the same way
abbrev pub same_spec : FieldSpec → FieldSpec → Bool
same_spec = spec.eq-value.it

-- the same rows stand at the same places
abbrev pub same_rows : List (Option FieldSpec) → List (Option FieldSpec) → Bool
same_rows = pointwise (option_eq same_spec)

-- two tables say the same
abbrev pub same_layout : Layout → Layout → Bool
same_layout t u = (nat_eq t.version u.version && same_digits t.mti u.mti)
    && (same_coding t.bitmap u.bitmap && same_rows t.rows u.rows)

-- each table says the same as itself, and so on
pub same_layout_equiv : IsEquivalence same_layout
same_layout_equiv = and_equiv
    (and_equiv (on_equiv (λ (t : Layout). t.version) nat_eq_equiv)
    (on_equiv (λ (t : Layout). t.mti) digits_laws.laws-law))
    (and_equiv (on_equiv (λ (t : Layout). t.bitmap) coding_laws.laws-law)
    (on_equiv (λ (t : Layout). t.rows) (lists_equiv (options_equiv spec_laws.laws-law))))
