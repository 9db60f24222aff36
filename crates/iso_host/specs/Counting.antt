-- What one call adds to the counts.
use Rattle.std.specs.Prelude.{◌+◌}
use Rattle.iso_host.specs.Counts.{Counts}
use Rattle.iso_host.specs.declared.counting.Call.{Call}
use Rattle.iso_host.specs.declared.counting.Call.TheVariants.{Read, Wrote, Failed, Flushed, FlushFailed}

-- the counts after one more call
abbrev pub counts_after : Counts → Call → Counts
counts_after c (Read n) = record c { calls = c.calls + 1; moved = c.moved + n }
counts_after c (Wrote n) =
    record c { calls = c.calls + 1; moved = c.moved + n; unflushed = c.unflushed + n }
counts_after c Failed = record c { calls = c.calls + 1; failures = c.failures + 1 }
counts_after c Flushed = record c { unflushed = 0 }
counts_after c FlushFailed = record c { failures = c.failures + 1 }
