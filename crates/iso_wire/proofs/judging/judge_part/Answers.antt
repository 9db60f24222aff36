-- Behind a part that was judged good at once, the other elements go on.
use Rattle.std.proofs.Common.{sym, ℕ, List, arith}
use Rattle.std.proofs.lemmas.List.{length-drop}
use Rattle.iso_parts.specs.Numbers.{members}
use Rattle.iso_wire.proofs.Resumes.{part_goes_on}
use Rattle.iso_wire.proofs.judging.judge_part.Goals as goal

pub judge_field-requires : goal.judge_field-requires
judge_field-requires c = c.row.ensures.good c.args.n c.in-Some.row.now (sym c.in-Some.ensures.row)

pub returns-in-Ok-Got : goal.returns-in-Ok-Got
returns-in-Ok-Got c =
    let s = c.in-Some.row.now in
    let b : List ℕ = c.args.bytes.now in
    let at = c.args.at in
    let used = c.in-Ok-Got.used in
    let read = rw (c.in-Ok-Got.field-0-is, c.split_at.ensures.back) at c.in-Ok-Got.ensures.exact in
    let room = rw (c.in-Ok-Got.field-0-is, c.split_at.ensures.back) at c.in-Ok-Got.ensures.room in (
      part_goes_on c.parts.ensures c.args.table.now.rows s (members c.args.from) (members c.args.rest) read.1.0 c.args.n used at b c.requires.first (sym c.in-Some.ensures.row) read.1.1 c.requires.within,
      omega (arith, room.1, length-drop at b, c.requires.within),
    )
