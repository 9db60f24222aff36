use Rattle.std.proofs.Common.{arith}
use Rattle.iso_mix.proofs.laws.parts_are_fair.Goals as goal

pub returns : goal.returns
returns c = record {
  completed_from = λ held share. omega arith;
  completed_to = λ held share h. omega (arith, h);
  left_from = λ held share. omega arith;
  left_to = λ held share h. omega (arith, h);
}
