-- What is done with tables.
use Rattle.std.specs.Prelude.{◌≡◌, ◌↔◌, Bool, false, ℕ, List, [], ◌∷◌, ◌++◌, None, is_some, codes, decimal, Result, Ok}
use Rattle.std.specs.List.{count_by}
use Rattle.std.specs.Io.KnownBytes.{Appends}
use Rattle.serde_json.specs.Written.{compact_text}
use Rattle.iso_parts.specs.declared.digits.Digits.TheVariants.{Ascii, Bcd}
use Rattle.iso_table.specs.Layout.{Layout}
use Rattle.iso_table.specs.Sizes.{max_bytes}
use Rattle.iso_table.specs.Rows.{draft_of}
use Rattle.iso_table.specs.Accepted.{DraftContents, IsAcceptable, Holds}
use Rattle.iso_table.specs.Edition87.{IsEdition87}
use Rattle.iso_table.specs.Document.{document}
use Rattle.iso_table.specs.Names.{digits_name, bitmap_name}
use Rattle.iso_review.specs.Changes.{◌>>=◌, applied, without_row}
use Rattle.iso_review.specs.RowText.{row_change}
use Rattle.iso_review.specs.declared.change.RowFault.{RowFault}
use Rattle.rumpadol_tables.specs.Named.{IsNamed}
use Rattle.rumpadol_tables.specs.Streams.{Output, Sources}

-- a version, how many rows there are, and how many bytes a message may take
abbrev pub sizes_text : ℕ → ℕ → ℕ → List ℕ
sizes_text version rows longest =
    codes "version " ++ (decimal version ++ (codes ", "
    ++ (decimal rows ++ (codes " rows, at most " ++ (decimal longest ++ codes " bytes")))))

-- the line of a good table
abbrev pub good_line : List ℕ → Layout → List ℕ
good_line name t = name ++ (codes ": good, "
    ++ (sizes_text t.version (count_by is_some t.rows) (max_bytes t) ++ codes "\n"))

-- what was appended is that line of the table that is named
abbrev pub TellsGoodTable : Sources → List ℕ → Output → Type 0
TellsGoodTable sources word output = (t : Layout) × IsNamed sources.file sources.input word t
    × Appends output.old output.new (good_line word t)

-- the line of a built-in table: its name, its version, its codings, and how many rows it has
abbrev pub list_line : List ℕ → Layout → List ℕ
list_line name t =
    name ++ (codes "  version " ++ (decimal t.version
    ++ (codes ", type in " ++ (digits_name t.mti ++ (codes ", bitmaps in " ++ (bitmap_name t.bitmap
    ++ (codes ", " ++ (decimal (count_by is_some t.rows) ++ codes " rows\n"))))))))

-- what was appended are the lines of the built-in tables
abbrev pub ListsBuiltIn : Output → Type 0
ListsBuiltIn output =
    (a : Layout) × (b : Layout) × IsEdition87 Ascii a × IsEdition87 Bcd b
    × Appends output.old output.new (list_line (codes "ascii87") a ++ list_line (codes "bcd87") b)

-- a draft without the rows of these elements
abbrev pub without_rows : DraftContents → List ℕ → DraftContents
without_rows d [] = d
without_rows d (n ∷ ns) = without_rows (without_row d n) ns

-- the draft with the row that a text writes
abbrev pub with_text : DraftContents → List ℕ → Result DraftContents RowFault
with_text d text = row_change text >>= applied d

-- the draft with the rows that texts write, one after the other
abbrev pub with_texts : DraftContents → List (List ℕ) → Result DraftContents RowFault
with_texts d [] = Ok d
with_texts d (text ∷ texts) = with_text d text >>= (λ e. with_texts e texts)

-- the table is the other one without the rows of these elements, and then with the rows that these texts write
abbrev pub IsChanged : Layout → List ℕ → List (List ℕ) → Layout → Type 0
IsChanged from drops texts t =
    (d : DraftContents) × (with_texts (without_rows (draft_of from) drops) texts ≡ Ok d)
    × IsAcceptable d × Holds t d

-- what was appended is the document of such a table, and a newline
abbrev pub WritesMadeTable : Sources → List ℕ → List ℕ → List (List ℕ) → Output → Type 0
WritesMadeTable sources word drops texts output =
    (from : Layout) × (t : Layout) × IsNamed sources.file sources.input word from
    × IsChanged from drops texts t
    × Appends output.old output.new (compact_text (document t) ++ codes "\n")

-- the tables differ or are equal, and where they are equal nothing was appended; of a second one on the input nothing is said,
-- since the first one may have read it
abbrev pub Compares : Sources → List ℕ → List ℕ → Output → Bool → Type 0
Compares sources first second output differ =
    (a : Layout) × (b : Layout) × IsNamed sources.file sources.input first a
    × IsNamed sources.file None second b × ((differ ≡ false) ↔ (a ≡ b))
    × (differ ≡ false → Appends output.old output.new [])
