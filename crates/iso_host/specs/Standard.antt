-- A std reader or writer with the counts of its calls, as contracts see it.
use Rattle.iso_host.specs.Counts.{Counts}
use Rattle.iso_host.specs.declared.standard.Std.{Std}

-- the reader or writer itself
abbrev pub stream_of : {S : Type 0} → Std S → S
stream_of s = s.stream

-- the counts of the calls so far
abbrev pub counts_of : {S : Type 0} → Std S → Counts
counts_of s = s.tally.counts
