-- The tables that the command line names.
use Rattle.std.specs.Prelude.{ℕ, List, Option, IfSome, MatchBool, bytes_eq, codes}
use Rattle.iso_parts.specs.declared.digits.Digits.TheVariants.{Ascii, Bcd}
use Rattle.iso_table.specs.Layout.{Layout}
use Rattle.iso_table.specs.Edition87.{IsEdition87}
use Rattle.iso_table.specs.Document.{IsTableOf}

-- the table of a word: `ascii87` and `bcd87` are built in, every other word is the path of a document
abbrev pub IsNamed : (List ℕ → Option (List ℕ)) → List ℕ → Layout → Type 0
IsNamed file word t =
    MatchBool (bytes_eq word (codes "ascii87")) (IsEdition87 Ascii t)
    (MatchBool (bytes_eq word (codes "bcd87")) (IsEdition87 Bcd t)
    (IfSome (file word) (λ text. IsTableOf text t)))
