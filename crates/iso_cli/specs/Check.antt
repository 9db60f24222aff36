-- What `check` writes.
use Rattle.std.specs.Prelude.{◌≡◌, ℕ, IsTrue, List, [], ◌∷◌, ◌++◌, Option, is_some, codes, decimal}
use Rattle.std.specs.List.{count_by}
use Rattle.std.specs.Io.KnownBytes.{Appends}
use Rattle.iso_table.specs.Layout.{Layout}
use Rattle.iso_table.specs.Sizes.{max_bytes}
use Rattle.iso_cli.specs.Tables.{IsNamed}
use Rattle.iso_cli.specs.Words.{is_name}

-- a table's version, how many rows it has, and how many bytes a message may take
abbrev pub table_line : Layout → List ℕ
table_line t =
    codes "OK version="
    ++ (decimal t.version ++ (codes " rows=" ++ (decimal (count_by is_some t.rows)
    ++ (codes " max=" ++ (decimal (max_bytes t) ++ codes "\n")))))

-- what was appended is that line of the table that is named
abbrev pub ChecksOnStreams : (List ℕ → Option (List ℕ)) → List ℕ → Option (List ℕ)
    → Option (List ℕ) → Type 0
ChecksOnStreams file table old new = (t : Layout) × IsNamed file table t
    × Appends old new (table_line t)

-- where the words ask to check, that was appended
abbrev pub ChecksIfAsked : List (List ℕ) → (List ℕ → Option (List ℕ)) → Option (List ℕ)
    → Option (List ℕ) → Type 0
ChecksIfAsked words file old new = (table : List ℕ) → IsTrue (is_name table)
    → words ≡ codes "check" ∷ table ∷ [] → ChecksOnStreams file table old new
