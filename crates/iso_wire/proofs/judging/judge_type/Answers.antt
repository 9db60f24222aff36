use Rattle.iso_parts.specs.Mti.{mti_number}
use Rattle.iso_wire.specs.declared.judging.ResumePoint.TheVariants as points
use Rattle.std.proofs.Common.{refl}
use Rattle.iso_wire.proofs.Resumes.{resumes_then, type_goes_on, type_ends}
use Rattle.iso_wire.proofs.judging.judge_type.Goals as goal

pub returns-in-Ok : goal.returns-in-Ok
returns-in-Ok c =
    let t = c.args.table.now in
    let b = c.args.bytes.now in
    resumes_then t points.Type points.Primary c.judge_primary.result.0 b c.judge_primary.result.1 (type_goes_on t b (mti_number c.in-Ok.field-0) c.in-Ok.ensures.exact) c.judge_primary.ensures

pub returns-in-Err : goal.returns-in-Err
returns-in-Err c = record {
  read = type_ends c.args.table.now c.args.bytes.now c.in-Err.fault (c.in-Err.ensures.exact.1 c.in-Err.ensures.no_memory);
  goes_on = λ x. refl;
  within = tt;
}
