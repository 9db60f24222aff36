-- What is appended is the value without its padding, of a plain body or a packed one.
use Rattle.std.proofs.Common.{◌≡◌, ◌⊎◌, ℕ, List, Ok, inl, inr, sym, ap, ◌∙◌, arith}
use Rattle.std.proofs.lemmas.Grind.{common_steps}
use Rattle.iso_parts.specs.declared.encoding.Coding.{Coding}
use Rattle.iso_parts.specs.declared.encoding.Coding.TheVariants.{Ascii, Raw}
use Rattle.iso_parts.specs.declared.fault.FieldFault.TheVariants.{NotInClass}
use Rattle.iso_parts.specs.declared.spec.FieldSpec.{FieldSpec}
use Rattle.iso_parts.specs.Class.{is_in_class}
use Rattle.iso_parts.specs.Reading.{◌>>=◌, text_of, value_of, without_padding, body_of}
use Rattle.iso_parts.specs.Texts.{IsTold}
use Rattle.iso_parts.proofs.Prefixes.{chosen_ok}
use Rattle.iso_parts.proofs.building.decode_judged_body.Goals as goal

plain_body : (s : FieldSpec) (n : ℕ) (b : List ℕ) → (s.coding ≡ Ascii) ⊎ (s.coding ≡ Raw) → body_of s n b ≡ value_of s b
plain_body s n b (inl ascii) = ap (λ (c : Coding). text_of c n b >>= value_of s) ascii
plain_body s n b (inr raw) = ap (λ (c : Coding). text_of c n b >>= value_of s) raw

plain_told : (s : FieldSpec) (n : ℕ) (b : List ℕ) → (s.coding ≡ Ascii) ⊎ (s.coding ≡ Raw) → IsTold (body_of s n b) → body_of s n b ≡ Ok (without_padding s.pad b)
plain_told s n b plain told =
    let kept = chosen_ok (is_in_class s.class (without_padding s.pad b)) NotInClass (without_padding s.pad b) told.0 (sym (plain_body s n b plain) ∙ told.1) in
    told.1 ∙ sym (ap Ok kept.1)

pub returns-in-Ascii : goal.returns-in-Ascii
returns-in-Ascii c =
    let s = c.args.spec.now in
    let b : List ℕ = c.args.body.now in
    let told : body_of s c.args.n b ≡ Ok c.without_padding.result.now = plain_told s c.args.n b c.in-Ascii.is c.requires ∙ ap Ok (sym c.without_padding.ensures) in
    grind (arith, common_steps)

pub returns-in_ok-decode_judged_text-in-Bcd : goal.returns-in_ok-decode_judged_text-in-Bcd
returns-in_ok-decode_judged_text-in-Bcd c = grind (arith, common_steps)
