-- The tables and the names that the command line names.
use Rattle.std.specs.Prelude.{◌≡◌, ◌<◌, ◌⊎◌, ℕ, List, [], Option, Some, None, IfSome, MatchBool, bytes_eq, codes, length}
use Rattle.iso_parts.specs.declared.digits.Digits.TheVariants.{Ascii, Bcd}
use Rattle.iso_table.specs.Layout.{Layout}
use Rattle.iso_table.specs.Edition87.{IsEdition87}
use Rattle.iso_table.specs.Document.{IsTableOf}
use Rattle.iso_review.specs.Complaints.{IsTable}
use Rattle.iso_names.specs.Own.{NetworkNames}
use Rattle.iso_names.specs.Document.{IsNamesOf}
use Rattle.rumpadol_tables.specs.Source.{IfHeld}

-- the table of a word: `ascii87` and `bcd87` are built in, every other word names a document
abbrev pub IsNamed : (List ℕ → Option (List ℕ)) → Option (List ℕ) → List ℕ → Layout → Type 0
IsNamed file input word t =
    MatchBool (bytes_eq word (codes "ascii87")) (IsEdition87 Ascii t)
    (MatchBool (bytes_eq word (codes "bcd87")) (IsEdition87 Bcd t)
    (IfHeld file input word (λ text. IsTableOf text t)))

-- the bytes are no document of a table: they are too many, or stand for none
abbrev pub IsRefused : List ℕ → Type 0
IsRefused text = (1048576 < length text) ⊎ (IsTable text → ⊥)

-- the word names a document that is refused
abbrev pub NamesNone : (List ℕ → Option (List ℕ)) → Option (List ℕ) → List ℕ → Type 0
NamesNone file input word =
    MatchBool (bytes_eq word (codes "ascii87")) ⊥
    (MatchBool (bytes_eq word (codes "bcd87")) ⊥
    (IfHeld file input word IsRefused))

-- the names of a path, laid over those of a version; without a path only the version's
abbrev pub AreNames : (List ℕ → Option (List ℕ)) → Option (List ℕ) → ℕ → NetworkNames → Type 0
AreNames file None version n = (n.version ≡ version) × (n.own ≡ [])
AreNames file (Some path) version n = IfSome (file path) (λ text. IsNamesOf version text n)
