-- Message types as texts of four ASCII digits (ISO 8583:1987, message type identifier).
use Rattle.std.specs.Prelude.{◌≡◌, ◌↔◌, ℕ, ◌+◌, List, [], ◌∷◌, Some, None, Result, IsOkAnd, MatchResult}
use Rattle.iso_parts.specs.declared.mti.Mti.{Mti}
use Rattle.iso_parts.specs.declared.mti_text.ParseMtiError.{ParseMtiError}
use Rattle.iso_parts.specs.Mti.{digits, digits_in}

-- the four digits as ASCII characters
abbrev pub mti_text : Mti → List ℕ
mti_text m = (48 + m.version) ∷ (48 + m.class) ∷ (48 + m.function) ∷ (48 + m.origin) ∷ []

-- the answer is what the text writes: the type of four digits, or none; so it is a type exactly for that type's own text
pub record ReadsType (text : List ℕ) (r : Result Mti ParseMtiError) : Type 0 where
  pub read : MatchResult r (λ m. digits_in text ≡ Some (digits m)) (λ _. digits_in text ≡ None)
  pub written : (m : Mti) → IsOkAnd r (λ k. digits k ≡ digits m) ↔ (text ≡ mti_text m)
