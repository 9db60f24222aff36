-- What an issuer answers (ISO 8583:1987, elements 39, 38, 54).
use Rattle.std.specs.Prelude.{ℕ, ℤ, Option, None}

-- the response code, the place in the journal, and the balance that is shown
pub record Outcome : Type 0 where
  pub code : ℕ
  pub seq : ℕ
  pub shown : Option ℤ

-- a response code alone: no place in the journal, and no balance
abbrev pub code_alone : ℕ → Outcome
code_alone code = record { code = code; seq = 0; shown = None }
