-- The bytes of a message that a document says.
use Rattle.std.specs.Prelude.{◌≡◌, ℕ, List, ◌++◌, Result, MatchResult}
use Rattle.iso_table.specs.Layout.{Layout}
use Rattle.iso_wire.specs.Contents.{Contents}
use Rattle.iso_wire.specs.Spelling.{PlainSpelling}
use Rattle.iso_json.specs.declared.complaint.Refusal.{Refusal}
use Rattle.iso_json.specs.declared.complaint.Refusal.TheVariants as refusals
use Rattle.iso_json.specs.RoundTrip.{IsClearJson}
use Rattle.iso_json.specs.Said.{IsMessage}

-- the plain spelling of the message is appended
abbrev pub AppendsPlain : Layout → Contents → List ℕ → List ℕ → Type 0
AppendsPlain t m old new = (b : List ℕ) × PlainSpelling t m b × (new ≡ old ++ b)

-- the plain spelling of the message that the text says is appended
abbrev pub AppendsSaid : Layout → List ℕ → List ℕ → List ℕ → Type 0
AppendsSaid t text old new = (m : Contents) × IsMessage t text m × AppendsPlain t m old new

-- from the JSON in clear of a message its plain spelling is appended, unless memory ran out
abbrev pub EncodesClear : Layout → List ℕ → List ℕ → List ℕ → Result (Unit {0}) Refusal → Type 0
EncodesClear t text old new r =
    (m : Contents) → IsClearJson t m text
    → MatchResult r (λ _. AppendsPlain t m old new) (λ e. e ≡ refusals.Memory)
