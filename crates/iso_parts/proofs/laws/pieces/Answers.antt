use Rattle.iso_parts.proofs.PieceLaws.{piece_laws}
use Rattle.iso_parts.proofs.laws.pieces.Goals as goal

pub returns : goal.returns
returns c = piece_laws
