use Rattle.iso_record.proofs.Fields.{number_read, numbers, same_digits}
use Rattle.iso_record.proofs.Back.{nonzero_digits, nonzero_blanks}
use Rattle.iso_record.proofs.laws.columns.Goals as goal

pub returns : goal.returns
returns c = record {
  read = number_read c.decimals.ensures;
  apart = numbers c.decimals.ensures;
  compared = same_digits c.decimals.ensures;
  digits = nonzero_digits;
  blanks = nonzero_blanks;
}
