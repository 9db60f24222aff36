-- Faults that tell nothing of the file.
use Rattle.iso_books.specs.declared.fault.BooksFault.{BooksFault}
use Rattle.iso_books.specs.declared.fault.BooksFault.TheVariants.{Read, Write, Memory, Other}

-- a device or memory failed
abbrev pub IsPlain : BooksFault → Type 0
IsPlain Read = Unit
IsPlain Write = Unit
IsPlain Memory = Unit
IsPlain (Other fault) = ⊥
