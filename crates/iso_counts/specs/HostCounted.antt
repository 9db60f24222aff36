-- What an event changes of the counts of a host and its journal.
use Rattle.std.specs.Prelude.{ℕ, max, false}
use Rattle.iso_counts.specs.Counting.{more_of, added_to}
use Rattle.iso_counts.specs.declared.host_counts.HostCounts.{HostCounts}
use Rattle.iso_lines.specs.declared.event.Event.{Event}
use Rattle.iso_lines.specs.declared.event.Event.TheVariants as Told

-- one more sync, which kept so many orders and took so many microseconds
abbrev pub kept_of : HostCounts → ℕ → ℕ → HostCounts
kept_of h orders micros = record h { syncs = added_to h.syncs micros; kept = more_of h.kept orders }

-- what each event changes: an entry that is answered is in the journal, and a failed log can't be written
abbrev pub host_counted_of : HostCounts → Event → HostCounts
host_counted_of h (Told.Kept orders micros) = kept_of h orders micros
host_counted_of h (Told.Answered link peer kind key code entry micros) =
    record h { entries = max h.entries entry }
host_counted_of h (Told.Journal entries limit hundredths) =
    record h { entries = entries; limit = limit }
host_counted_of h Told.LogFailed = record h { can_write = false }
host_counted_of h _ = h
