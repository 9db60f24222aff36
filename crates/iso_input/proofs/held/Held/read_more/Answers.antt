use Rattle.std.proofs.Common.{ℕ, ◌+◌, ◌≤◌, List, ◌++◌, length, take, slice_range, ◌<◌, length-take, ap, ◌∙◌, arith}
use Rattle.std.specs.Prelude.{OnErr, Result, Ok, Err}
use Rattle.std.proofs.lemmas.Grind.{common_steps}
use Rattle.iso_input.proofs.Blocks.{same_part, grown, piece_length}
use Rattle.iso_input.proofs.held.Held.read_more.Goals as goal

on_err : {T E P : Type 0} (r : Result T E) → P → OnErr r P
on_err (Ok x) h = tt
on_err (Err e) h = h

pub returns-in_err-count-clause-unchanged : goal.returns-in_err-count-clause-unchanged
returns-in_err-count-clause-unchanged g c =
    let before = c.make_room.new.self in
    on_err c.from_residual-in_err-count.result
    (same_part before.block.items c.read_at.new.block.items before.start before.end before.ordered c.read_at.ensures.front ∙ c.make_room.ensures.same)

pub returns-clause-read : goal.returns-clause-read
returns-clause-read g c =
    let before = c.make_room.new.self in
    let block = c.read_at.new.block.items in
    let count = c.in_ok-count.count in
    let fits : count ≤ 65536 = c.in_ok-count.ensures.bound in
    let more = grown before.block.items block before.start before.end count 65536 before.ordered fits c.read_at.ensures.front in
    let room : before.end + 65536 ≤ length block = grind (arith, common_steps, c.in_ok-make_room.ensures.room, c.in_ok-count.ensures.len) in
    let size = piece_length block before.end 65536 65536 (omega arith) room in
    let some : 0 < length (slice_range block before.end (before.end + 65536)) = omega (arith, size, length-take 65536 (slice_range block before.end (before.end + 65536))) in (
      take count (slice_range block before.end (before.end + 65536)),
      more ∙ ap (λ (r : List ℕ). r ++ take count (slice_range block before.end (before.end + 65536))) c.make_room.ensures.same,
      piece_length block before.end count 65536 fits room,
      fits,
      c.in_ok-count.ensures.bytes.0,
      λ none. c.in_ok-count.ensures.bytes.1 none some,
    )
