-- What is shown of a value, as text.
use Rattle.std.proofs.Common.{◌≡◌, ◌++◌, ℕ, Bool, true, false, List, [], refl, append-nil}
use Rattle.std.proofs.lemmas.List.{nil_from_length}
use Rattle.hex.specs.Hex.{encode_with}
use Rattle.iso_parts.specs.declared.class.CharClass.{CharClass}
use Rattle.iso_parts.specs.declared.class.CharClass.TheVariants as classes
use Rattle.iso_wire.specs.Describing.{clear_text, shown_text}
use Rattle.iso_wire.specs.declared.masking.Shown.{Shown}
use Rattle.iso_explain.specs.Seen.{ShowsValue, shown_as}

-- no bytes are no text
pub of_nothing : (class : CharClass) → clear_text class [] ≡ []
unfolding encode_with
of_nothing classes.N = refl
of_nothing classes.A = refl
of_nothing classes.AN = refl
of_nothing classes.ANS = refl
of_nothing classes.Z = refl
of_nothing classes.ZD = refl
of_nothing classes.XN = refl
of_nothing classes.B = refl

-- what is shown of a value is its text in a description
pub as_described : (is_clear : Bool) (class : CharClass) (n : ℕ) (v : List ℕ) (s : Shown) → ShowsValue is_clear n v s
    → shown_as class s ≡ shown_text is_clear class n v
as_described true class n v s h =
    let all : clear_text class v ++ [] ≡ clear_text class v = append-nil (clear_text class v) in
    rw (h.front, h.hidden, nil_from_length s.end.now h.end, of_nothing class) all
as_described false class n v s h = rw (h.front, h.hidden, h.end) refl
