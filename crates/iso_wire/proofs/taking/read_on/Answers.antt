use Rattle.std.proofs.Common.{◌≡◌, Err, ◌∙◌}
use Rattle.iso_wire.specs.Reading.{message_at}
use Rattle.iso_wire.proofs.Feeds.{is_read}
use Rattle.iso_wire.proofs.Fronts.{resumed_in}
use Rattle.iso_wire.proofs.Resumes.{resumed_fault, fault_no_memory}
use Rattle.iso_wire.proofs.taking.read_on.Goals as goal

pub build-requires : goal.build-requires
build-requires c =
    let t = c.args.table.now in
    let b = c.args.bytes.now in
    let read = c.judge_from-judged.result in
    record { read = is_read (message_at t b) c.in-Ok.field-0 (resumed_in t c.args.point read.0 b read.1 c.requires c.judge_from-judged.ensures ∙ c.in-Ok.is) }

pub returns-in-Err : goal.returns-in-Err
returns-in-Err c =
    let t = c.args.table.now in
    let b = c.args.bytes.now in
    let read = c.judge_from-judged.result in
    let e = c.in-Err.fault in
    let fault : message_at t b ≡ Err e = resumed_fault t b e (resumed_in t c.args.point read.0 b read.1 c.requires c.judge_from-judged.ensures ∙ c.in-Err.is) in
    record { exact = (λ memory. absurd (fault_no_memory t b e fault memory), λ _. fault) }
