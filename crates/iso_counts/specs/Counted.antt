-- What an event changes of the counts of a link: its own counts, and no other.
use Rattle.std.specs.Prelude.{ℕ, ◌-◌}
use Rattle.iso_counts.specs.Counting.{more_of, counted_at, added_to}
use Rattle.iso_counts.specs.Kind.{kind_place, kind_of_frame}
use Rattle.iso_counts.specs.Reasons.{refusal_place, closing_place}
use Rattle.iso_counts.specs.declared.kind.Kind.{Kind}
use Rattle.iso_counts.specs.declared.kind.Kind.TheVariants as Kinds
use Rattle.iso_counts.specs.declared.link_counts.LinkCounts.{LinkCounts}
use Rattle.iso_lines.specs.declared.event.Refusal.{Refusal}
use Rattle.iso_lines.specs.declared.standing.Closing.{Closing}
use Rattle.iso_lines.specs.declared.event.Event.{Event}
use Rattle.iso_lines.specs.declared.event.Event.TheVariants as Told

-- one more frame of a kind
abbrev pub framed_of : LinkCounts → Kind → LinkCounts
framed_of l kind = record l { frames = counted_at l.frames (kind_place kind) }

-- one more frame of a kind, and its answer of a code, which took so many microseconds
abbrev pub answered_of : LinkCounts → Kind → ℕ → ℕ → LinkCounts
answered_of l kind code micros =
    record l {
      frames = counted_at l.frames (kind_place kind);
      answers = counted_at l.answers code;
      times = added_to l.times micros;
    }

-- one more peer that isn't let in
abbrev pub refused_of : LinkCounts → Refusal → LinkCounts
refused_of l why = record l { refused = counted_at l.refused (refusal_place why) }

-- one more peer that is connected
abbrev pub opened_of : LinkCounts → LinkCounts
opened_of l = record l { opened = more_of l.opened 1; connected = more_of l.connected 1 }

-- one peer less that is connected
abbrev pub closed_of : LinkCounts → Closing → LinkCounts
closed_of l why =
    record l { connected = l.connected - 1; closed = counted_at l.closed (closing_place why) }

-- so many more bytes that came and went
abbrev pub moved_of : LinkCounts → ℕ → ℕ → LinkCounts
moved_of l came went = record l { came = more_of l.came came; went = more_of l.went went }

-- what each frame changes, by what came of it; any other event counts no frame
abbrev pub heard_of : LinkCounts → Event → LinkCounts
heard_of l (Told.Answered link peer kind key code entry micros) =
    answered_of l (kind_of_frame kind) code micros
heard_of l (Told.Replied link peer kind code micros) =
    answered_of l (kind_of_frame kind) code micros
heard_of l (Told.Foreign link peer kind key micros) =
    record (answered_of l (kind_of_frame kind) 12 micros) { foreign = more_of l.foreign 1 }
heard_of l (Told.Silent link peer kind) =
    record (framed_of l (kind_of_frame kind)) { silent = more_of l.silent 1 }
heard_of l (Told.Unreadable link peer kind fault) = framed_of l Kinds.Unreadable
heard_of l _ = l

-- what each event changes
abbrev pub counted_of : LinkCounts → Event → LinkCounts
counted_of l (Told.Connected link peer address) = opened_of l
counted_of l (Told.Refused link address why) = refused_of l why
counted_of l (Told.NotAccepted link) = record l { not_accepted = more_of l.not_accepted 1 }
counted_of l (Told.Closed link peer why counts) = closed_of l why
counted_of l (Told.Moved link came went) = moved_of l came went
counted_of l (Told.Listening link address) = l
counted_of l (Told.Kept orders micros) = l
counted_of l (Told.Journal entries limit hundredths) = l
counted_of l Told.LogFailed = l
counted_of l (Told.Stopping why) = l
counted_of l event = heard_of l event
