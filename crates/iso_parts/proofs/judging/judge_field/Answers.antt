use Rattle.std.proofs.Common.{arith}
use Rattle.iso_parts.specs.Reading.{prefix_size}
use Rattle.iso_parts.proofs.Judges.{is_judged}
use Rattle.iso_parts.proofs.PartStops.{judged_ends, judged_stops}
use Rattle.iso_parts.proofs.judging.judge_field.Goals as goal

pub returns-clause-found : goal.returns-clause-found
returns-clause-found c = is_judged c.args.spec.now c.args.bytes.now c.judged_of.result (prefix_size c.args.spec.now.length) c.requires (λ i. omega (arith, c.type_inv.bytes i)) c.judged_of.ensures.exact

pub returns-clause-more : goal.returns-clause-more
returns-clause-more c = judged_ends c.args.spec.now c.args.bytes.now (prefix_size c.args.spec.now.length) c.judged_of.result c.requires (λ i. omega (arith, c.type_inv.bytes i)) c.judged_of.ensures.exact

pub returns-clause-stops : goal.returns-clause-stops
returns-clause-stops c = judged_stops c.args.spec.now c.args.bytes.now (prefix_size c.args.spec.now.length) c.judged_of.result c.requires (λ i. omega (arith, c.type_inv.bytes i)) c.judged_of.ensures.exact
