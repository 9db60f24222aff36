-- What is left of a journal's file, from its front on.
use Rattle.std.specs.Prelude.{◌≡◌, ℕ, ◌*◌, ◌==◌, Bool, List, [], ◌∷◌, length, take, drop, if◌then◌else◌, Option, Some, None}
use Rattle.std.specs.List.{list_all}
use Rattle.iso_log.specs.Slots.{is_whole, records_of}

-- where the bytes are known, this holds of those that were left and those that are left now
abbrev pub Between : (List ℕ → List ℕ → Type 0) → Option (List ℕ) → Option (List ℕ) → Type 0
Between Holds None new = Unit
Between Holds (Some file) None = ⊥
Between Holds (Some file) (Some rest) = Holds file rest

-- a byte that no record has
abbrev pub is_zero : ℕ → Bool
is_zero b = b == 0

-- the bytes behind the records
abbrev pub behind : List ℕ → List ℕ
behind file = drop (128 * length (records_of file)) file

-- only zeros are behind them: no crash tore a record
abbrev pub is_clear : List ℕ → Bool
is_clear file = list_all is_zero (behind file)

-- a record was taken from the front
pub record IsTaken (bytes file rest : List ℕ) : Type 0 where
  pub records : records_of file ≡ bytes ∷ records_of rest
  pub clear : is_clear file ≡ is_clear rest

-- the first 128 bytes, if they are a record
abbrev pub first_of : List ℕ → Option (List ℕ)
first_of bytes = if is_whole (take 128 bytes) then Some (take 128 bytes) else None

-- the record at the front, where there is one
abbrev pub FrontIs : Option (List ℕ) → List ℕ → Type 0
FrontIs None file = (records_of file ≡ []) × (is_clear file ≡ list_all is_zero file)
FrontIs (Some bytes) file = IsTaken bytes file (drop 128 file)
