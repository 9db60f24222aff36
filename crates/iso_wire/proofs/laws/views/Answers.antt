use Rattle.iso_wire.proofs.ViewedValues.{value_there, value_absent}
use Rattle.iso_wire.proofs.laws.views.Goals as goal

pub returns : goal.returns
returns c = record {
  there = value_there;
  absent = value_absent;
}
