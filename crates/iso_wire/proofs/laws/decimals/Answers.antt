use Rattle.iso_wire.proofs.Decimals.{list_all-decimal, length-decimal, are_digits-decimal, number-decimal, are_digits-most, number-most}
use Rattle.iso_wire.proofs.laws.decimals.Goals as goal

pub returns : goal.returns
returns c = record {
  digits = list_all-decimal;
  size = length-decimal;
  text = are_digits-decimal;
  most = are_digits-most;
  below = number-most;
  number = number-decimal;
}
