use Rattle.std.proofs.Common.{◌≡◌, Err, subst, ◌∙◌, arith}
use Rattle.iso_wire.specs.declared.fault.UnpackCause.{UnpackCause}
use Rattle.iso_wire.specs.Reading.{message_at}
use Rattle.iso_wire.specs.ReadingLaws.{IsShort}
use Rattle.iso_wire.specs.Stops.{Stops}
use Rattle.iso_wire.proofs.Resumes.{resumed_here, resumed_fault, short_has_no_end}
use Rattle.iso_wire.proofs.taking.missing.Goals as goal

pub unreachable-requires : goal.unreachable-requires
unreachable-requires c =
    let t = c.args.table.now in
    let read = c.judge_from-read.result in
    short_has_no_end (message_at t c.args.taken.now) c.in_default.field-0 c.requires.short
    (resumed_here t c.args.point read.0 c.args.taken.now read.1 c.requires.resumed c.judge_from-read.ensures ∙ c.in_default.is)

pub returns-clause-exact : goal.returns-clause-exact
returns-clause-exact c =
    let t = c.args.table.now in
    let read = c.judge_from-read.result in
    resumed_fault t c.args.taken.now c.in-Err.fault (resumed_here t c.args.point read.0 c.args.taken.now read.1 c.requires.resumed c.judge_from-read.ensures ∙ c.in-Err.is)

pub returns-clause-short : goal.returns-clause-short
returns-clause-short c =
    let t = c.args.table.now in
    let read = c.judge_from-read.result in
    let fault : message_at t c.args.taken.now ≡ Err c.in-Err.fault =
    resumed_fault t c.args.taken.now c.in-Err.fault (resumed_here t c.args.point read.0 c.args.taken.now read.1 c.requires.resumed c.judge_from-read.ensures ∙ c.in-Err.is) in
    subst IsShort fault c.requires.short

pub returns-clause-stops : goal.returns-clause-stops
returns-clause-stops c =
    let t = c.args.table.now in
    let e = c.in-Err.fault in
    let read = c.judge_from-read.result in
    let fault : message_at t c.args.taken.now ≡ Err e =
    resumed_fault t c.args.taken.now e (resumed_here t c.args.point read.0 c.args.taken.now read.1 c.requires.resumed c.judge_from-read.ensures ∙ c.in-Err.is) in
    let stop = (c.stops.ensures.exact t c.args.taken.now e.at e.element e.cause c.version-version.ensures.good (λ i. omega (arith, c.type_inv.taken i))).0 fault in
    subst (λ (k : UnpackCause). Stops t c.args.taken.now e.at e.element k) (subst IsShort fault c.requires.short) stop
