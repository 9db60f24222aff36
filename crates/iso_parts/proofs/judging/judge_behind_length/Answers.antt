use Rattle.std.proofs.Common.{◌+◌, ℕ, List, sym, ap, ◌∙◌}
use Rattle.iso_parts.specs.Reading.{got}
use Rattle.iso_parts.proofs.Judges.{length_fails, body_fails, body_good}
use Rattle.iso_parts.proofs.judging.judge_behind_length.Goals as goal

pub returns-in-Err-clause-exact : goal.returns-in-Err-clause-exact
returns-in-Err-clause-exact c =
    let told = rw c.in-Err.is at c.judge_front.ensures in
    length_fails c.args.spec.now c.args.bytes.now c.in-Err.fault told.0

pub returns-in-Ok-Some-judge_body-clause-exact : goal.returns-in-Ok-Some-judge_body-clause-exact
returns-in-Ok-Some-judge_body-clause-exact c =
    let s = c.args.spec.now in
    let b : List ℕ = c.args.bytes.now in
    let size = c.in-Ok-Some-judge_body.size in
    let told = c.in-Ok-Some.told in
    let front = rw c.in-Ok-Some.field-0-is at c.in-Ok-Some.ensures in
    let body_read = rw (c.in-Ok-Some-judge_body.field-0-is, c.split_at.ensures.back, front.1) at c.in-Ok-Some-judge_body.ensures.exact in
    let part = body_good s b told.1 size front.0 (sym body_read) in
    (front.1, (part.0, part.1 ∙ ap (λ (k : ℕ). got part.0 (k + size)) (sym front.1)))

pub returns-in-Err-judge_body-clause-exact : goal.returns-in-Err-judge_body-clause-exact
returns-in-Err-judge_body-clause-exact c =
    let front = rw c.in-Ok-Some.field-0-is at c.in-Ok-Some.ensures in
    let body_read = rw (c.split_at.ensures.back, front.1) at c.in-Err-judge_body.ensures.exact in
    body_fails c.args.spec.now c.args.bytes.now c.in-Ok-Some.told.1 c.in-Err-judge_body.fault front.0 (sym body_read)
