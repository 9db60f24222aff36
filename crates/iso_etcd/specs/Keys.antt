-- Under which keys a journal is kept.
use Rattle.std.specs.Prelude.{ℕ, zero, suc, ◌+◌, ◌/◌, ◌%◌, List, [], ◌∷◌, ◌++◌, codes, string_bytes}
use Rattle.iso_etcd.specs.declared.name.Name.{Name}

-- the text of a name
abbrev pub name_text : Name → List ℕ
name_text name = string_bytes name.text

-- the last so many decimal digits of a number, with zeros in front
unfoldable pub digits : ℕ → ℕ → List ℕ
digits zero number = []
digits (suc count) number = digits count (number / 10) ++ (48 + number % 10) ∷ []

-- the batch at a place: ten digits
abbrev pub batch_key : List ℕ → ℕ → List ℕ
batch_key name place = name ++ codes "/batch/" ++ digits 10 place

-- behind the keys of all batches: '0' follows '/'
abbrev pub end_key : List ℕ → List ℕ
end_key name = name ++ codes "/batch0"

-- what the journal is
abbrev pub heading_key : List ℕ → List ℕ
heading_key name = name ++ codes "/heading"

-- who is active
abbrev pub active_key : List ℕ → List ℕ
active_key name = name ++ codes "/active"
