-- Which link an event is of, and what it changes of the counts of all links.
use Rattle.std.specs.Prelude.{ℕ, List, Option, Some, None, slice_get, slice_set}
use Rattle.iso_counts.specs.Counted.{counted_of}
use Rattle.iso_counts.specs.declared.link_counts.LinkCounts.{LinkCounts}
use Rattle.iso_lines.specs.declared.event.Event.{Event}
use Rattle.iso_lines.specs.declared.event.Event.TheVariants as Told

-- the link that an event is of, if it is of one
abbrev pub link_of : Event → Option ℕ
link_of (Told.Kept orders micros) = None
link_of (Told.Journal entries limit hundredths) = None
link_of Told.LogFailed = None
link_of (Told.Stopping why) = None
link_of (Told.Listening link address) = Some link
link_of (Told.Connected link peer address) = Some link
link_of (Told.Refused link address why) = Some link
link_of (Told.NotAccepted link) = Some link
link_of (Told.Answered link peer kind key code entry micros) = Some link
link_of (Told.Replied link peer kind code micros) = Some link
link_of (Told.Foreign link peer kind key micros) = Some link
link_of (Told.Silent link peer kind) = Some link
link_of (Told.Unreadable link peer kind fault) = Some link
link_of (Told.Closed link peer why counts) = Some link
link_of (Told.Moved link came went) = Some link

-- the counts of all links, of which only those at a place change, if there is such a place
abbrev pub changed_at : List LinkCounts → ℕ → Event → Option LinkCounts → List LinkCounts
changed_at links link event None = links
changed_at links link event (Some counts) = slice_set links link (counted_of counts event)

-- the counts of all links after an event at one of them
abbrev pub link_counted : List LinkCounts → ℕ → Event → List LinkCounts
link_counted links link event = changed_at links link event (slice_get links link)
