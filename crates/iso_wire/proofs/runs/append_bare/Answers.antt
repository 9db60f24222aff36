use Rattle.std.proofs.Common.{◌+◌, ◌-◌, List, ℕ, length, drop, ap, refl, arith}
use Rattle.iso_wire.specs.Reading.{answer}
use Rattle.iso_wire.specs.Runs.{run_in}
use Rattle.iso_wire.proofs.RunLaws.{bare_value, run_pushed}
use Rattle.iso_wire.proofs.runs.append_bare.Goals as goal

pub returns-clause-exact : goal.returns-clause-exact
returns-clause-exact c =
    let s = c.args.row.now in
    let b : List ℕ = c.args.bytes.now in
    let at = c.args.at in
    let body = c.in_ok-body.body in
    let used = c.in_ok-body.used in
    let begun = c.in_ok-begun.begun in
    let part = rw c.split_at.ensures.back at c.in_ok-body.ensures.part in
    let value = bare_value s c.requires.bare b part.0 at body used c.in_ok-body.ensures.exact.0 part.1 in
    let room = c.in_ok-body.ensures.room in
    let behind = c.in_ok-begun.ensures.run (at + used) (omega (arith, room.0)) in (
      (part.0, used),
      ap (answer s c.args.n at (length (drop at b))) part.1,
      refl,
      run_pushed c.args.elements.now c.start_run.new.elements c.close_behind.new.self b (run_in b c.args.from at) part.0 (at + body) begun (at + used) (length c.start_run.new.elements.values.items + (at + used - begun)) c.in_ok-begun.ensures.numbers c.in_ok-begun.ensures.ends
          behind value c.close_behind.ensures.numbers c.in_ok-close_behind.ensures.ok refl (omega (arith, c.in_ok-begun.ensures.from, room.0)) (omega (arith, room.1, c.split_at.ensures.back_len, c.requires.within)),
    )
