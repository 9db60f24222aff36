use Rattle.iso_input.proofs.Decoding.{is_decoded, comes_back}
use Rattle.iso_input.proofs.laws.digits_decode.Goals as goal

pub returns : goal.returns
returns c = record { decoded = is_decoded; back = comes_back }
