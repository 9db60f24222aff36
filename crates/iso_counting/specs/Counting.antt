-- How the answers that come are counted.
use Rattle.std.specs.Prelude.{Bool, true, false}
use Rattle.iso_drive.specs.declared.heard.Heard.{Heard}
use Rattle.iso_drive.specs.declared.heard.Heard.TheVariants.{Closed, Known, Foreign}
use Rattle.iso_mix.specs.declared.hearing.Hearing.{Hearing}
use Rattle.iso_mix.specs.declared.hearing.Hearing.TheVariants as beside
use Rattle.iso_tally.specs.declared.tally.Tally.{Tally}
use Rattle.iso_tally.specs.Tally.{one_more}

-- one that tells nothing new came late, or again; with other bytes than the one that closed, it differs
abbrev pub counted_late : Tally → Bool → Tally
counted_late t true = record t { late = one_more t.late; differing = one_more t.differing }
counted_late t false = record t { late = one_more t.late }

-- each is an answer; beside that it closes a transaction, or tells nothing new, or is of nobody's order
abbrev pub counted_as : Tally → Heard → Bool → Tally
counted_as t (Closed stan state) differs = t
counted_as t Known differs = counted_late t differs
counted_as t Foreign differs = record t { foreign = one_more t.foreign }

-- an answer comes, whose bytes differ from those of the one that closed, or don't
abbrev pub counted : Tally → Heard → Bool → Tally
counted t heard differs = counted_as (record t { answers = one_more t.answers }) heard differs

-- an answer to an order that is no purchase; one to another key is none of these
abbrev pub counted_beside : Tally → Hearing → Tally
counted_beside t beside.First = record t { answers = one_more t.answers }
counted_beside t beside.Known = record t { answers = one_more t.answers; late = one_more t.late }
counted_beside t beside.Differs =
    record t {
      answers = one_more t.answers;
      late = one_more t.late;
      differing = one_more t.differing;
    }
counted_beside t beside.Foreign = t
