use Rattle.std.proofs.Common.{ℕ, List, ◌+◌, sym, refl}
use Rattle.iso_parts.specs.Reading.{prefix_size}
use Rattle.iso_wire.specs.declared.judging.ResumePoint.TheVariants as points
use Rattle.iso_parts.specs.Numbers.{members}
use Rattle.iso_wire.proofs.Resumes.{length_goes_on, length_ends, passes_from}
use Rattle.iso_wire.proofs.judging.judge_pieces.Goals as goal

pub returns-in-Ok-Some : goal.returns-in-Ok-Some
returns-in-Ok-Some c =
    let t = c.args.table.now in
    let s = c.in-Some.row.now in
    let b : List ℕ = c.args.bytes.now in
    let place : ℕ = c.args.at + prefix_size s.length in
    let read = rw (c.in-Ok-Some.field-0-is, c.split_at.ensures.back) at c.in-Ok-Some.ensures.exact in
    let on = length_goes_on c.parts.ensures t.rows s (members c.args.from) (members c.args.rest) c.args.n c.in-Ok-Some.count c.args.at b c.requires.first (sym c.in-Some.ensures.row) (sym read) c.requires.within in
    let step = rw c.prefix_size-front.ensures.size at c.judge_value.ensures in
    passes_from t (points.Elements c.args.from c.args.at) (points.Body c.args.n c.in-Ok-Some.count c.args.rest place) c.args.rest b c.judge_value.result on step

pub returns-in-Err : goal.returns-in-Err
returns-in-Err c =
    let t = c.args.table.now in
    let s = c.in-Some.row.now in
    let b : List ℕ = c.args.bytes.now in
    let read = rw c.split_at.ensures.back at c.in-Err.ensures.exact in
    rw c.new-in-Err.ensures (record {
      read = length_ends c.parts.ensures t.rows s (members c.args.from) (members c.args.rest) c.args.n c.args.at b c.in-Err.fault c.requires.first (sym c.in-Some.ensures.row) (sym read);
      goes_on = λ x. refl;
      within = c.requires.within;
    })
