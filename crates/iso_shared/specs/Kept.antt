-- The batches of a store, as hosts over one log see them.
use Rattle.std.specs.Prelude.{ℕ, ◌+◌, ◌-◌, ◌*◌, List, [], ◌∷◌, map, take, Option, Some, None}
use Rattle.iso_order.specs.Order.{Instruction}
use Rattle.iso_record.specs.declared.row.Row.{Row}
use Rattle.iso_hosts.specs.World.{Batch, orders_in}
use Rattle.iso_shared.specs.declared.heading.Writer.{Writer}
use Rattle.iso_shared.specs.Batch.{BatchContents, batch_in}

-- the number that bytes are, the highest first, behind those of `before`
abbrev pub number_behind : ℕ → List ℕ → ℕ
number_behind before [] = before
number_behind before (b ∷ bs) = number_behind (256 * before + b) bs

-- the number by which the hosts over one log know a writer
abbrev pub writer_number : Writer → ℕ
writer_number w = number_behind 0 w.bits

-- the orders of rows
abbrev pub orders_of : List Row → List Instruction
orders_of rows = map (λ r. r.order) rows

-- a batch as those hosts see it, who count the places from 0 on
abbrev pub seen_as : BatchContents → Batch
seen_as b = record {
  place = b.heading.place - 1;
  writer = writer_number b.heading.writer;
  orders = orders_of b.rows;
}

-- bytes that are no batch: no store that was opened has them
abbrev pub batch_or_nothing : Option BatchContents → Batch
batch_or_nothing (Some b) = seen_as b
batch_or_nothing None = record { place = 0; writer = 0; orders = [] }

-- the batch that bytes are
abbrev pub batch_of : List ℕ → Batch
batch_of bytes = batch_or_nothing (batch_in bytes)

-- the batches of a store
abbrev pub batches_of : List (List ℕ) → List Batch
batches_of kept = map batch_of kept

-- the orders of the first batches of a store
abbrev pub orders_kept : List (List ℕ) → ℕ → List Instruction
orders_kept kept n = orders_in (batches_of (take n kept))
