-- The transaction that a message names (element 90, original data elements), as `original_of` gives it.
-- Inner: bodies and proofs cite it, and no public clause does.
use Rattle.std.specs.Prelude.{◌≡◌}
use Rattle.iso_parts.specs.Mti.{mti_number}
use Rattle.iso_wire.specs.Contents.{Contents}
use Rattle.iso_order.specs.declared.original.Original.{Original}
use Rattle.iso_order.specs.Fields.{is_own, original_mti, original_of}

-- its message type, its key under the message's own acquirer, and whether it names that acquirer or none
pub record IsNamedIn (m : Contents) (o : Original) : Type 0 where
  pub mti : mti_number o.mti ≡ original_mti m
  pub key : o.key ≡ original_of m
  pub own : o.is_own ≡ is_own m
