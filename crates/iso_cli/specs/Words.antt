-- What the words of a command line ask.
use Rattle.std.specs.Prelude.{◌≡◌, ◌⊎◌, ◌==◌, not, IsTrue, Bool, true, false, ℕ, List, [], ◌∷◌, codes}
use Rattle.iso_wire.specs.declared.header.Header.{Header}
use Rattle.iso_wire.specs.declared.header.Header.TheVariants.{Binary2, Ascii4, Bcd2}
use Rattle.iso_cli.specs.declared.words.Job.{Job}
use Rattle.iso_cli.specs.declared.words.Job.TheVariants.{Echo, Check, Show, Convert, Run}

-- the word doesn't start with a dash
abbrev pub is_name : List ℕ → Bool
is_name [] = true
is_name (byte ∷ rest) = not (byte == 45)

-- `show`, where the flag `--clear` is given before or after the table or not at all
abbrev pub AsksShow : List (List ℕ) → List ℕ → Bool → Type 0
AsksShow words table false = words ≡ codes "show" ∷ table ∷ []
AsksShow words table true =
    (words ≡ codes "show" ∷ codes "--clear" ∷ table ∷ [])
    ⊎ (words ≡ codes "show" ∷ table ∷ codes "--clear" ∷ [])

-- the name of a header
abbrev pub header_name : Header → List ℕ
header_name Binary2 = codes "binary2"
header_name Ascii4 = codes "ascii4"
header_name Bcd2 = codes "bcd2"

-- these words spell this job
abbrev pub Asks : List (List ℕ) → Job → Type 0
Asks words Echo = words ≡ []
Asks words (Check table) = IsTrue (is_name table.now) × (words ≡ codes "check" ∷ table.now ∷ [])
Asks words (Show table clear) = IsTrue (is_name table.now) × AsksShow words table.now clear
Asks words (Convert from to) =
    IsTrue (is_name from.now) × IsTrue (is_name to.now)
    × (words ≡ codes "convert" ∷ from.now ∷ to.now ∷ [])
Asks words (Run table accounts header) =
    IsTrue (is_name table.now) × IsTrue (is_name accounts.now)
    × (words ≡ codes "run" ∷ table.now ∷ accounts.now ∷ header_name header ∷ [])

-- these words spell no job
abbrev pub AsksNothing : List (List ℕ) → Type 0
AsksNothing words = (job : Job) → Asks words job → ⊥
