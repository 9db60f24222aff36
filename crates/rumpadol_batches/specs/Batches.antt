-- The batches of a copy.
use Rattle.std.specs.Prelude.{◌≡◌, ℕ, zero, suc, ◌+◌, ◌*◌, ◌/◌, List, [], ◌++◌, length, take, drop}

-- how many batches a copy of these records has: the fewest that hold them
abbrev pub batches_of : List ℕ → ℕ
batches_of records = (length records + 131071) / 131072

-- the records of the batch before which so many stand
abbrev pub part_at : List ℕ → ℕ → List ℕ
part_at records before = take 131072 (drop (131072 * before) records)

-- the records of so many batches, one behind the other
abbrev pub joined : ℕ → List ℕ → List ℕ
joined zero records = []
joined (suc n) records = joined n records ++ part_at records n

-- the batches of a copy have the records of the journal: all of them, in their order
abbrev pub BatchesHoldAll : Type 0
BatchesHoldAll = (records : List ℕ) → joined (batches_of records) records ≡ records
