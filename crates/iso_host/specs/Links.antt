-- What one side of a line has agreed on with a host.
use Rattle.iso_table.specs.Layout.{Layout}
use Rattle.iso_wire.specs.declared.header.Header.{Header}

-- the table of its messages, and the header of its frames
pub record Agreed : Type 0 where
  pub table : Layout
  pub header : Header

-- this table and this header
abbrev pub agreed : Layout → Header → Agreed
agreed t h = record { table = t; header = h }
