use Rattle.std.proofs.Common.{arith, get_or}
use Rattle.hex.specs.Hex.{upper_digits}
use Rattle.hex.proofs.Pairs.{encode_step, encode_done}
use Rattle.iso_parts.proofs.HexPairs.{HEX_PAIRS_at}
use Rattle.iso_parts.proofs.encoding.write_hex.Goals as goal

pub loop-i-preserved : goal.loop-i-preserved
loop-i-preserved c =
    let pair = HEX_PAIRS_at (get_or c.args.bytes.now c.loop-i.i 0) (omega arith) in
    encode_step upper_digits c.args.bytes.now c.loop-i.room c.loop-i.i _ _ (omega arith) (omega arith) pair.0 pair.1 c.loop-i.invariant

pub returns : goal.returns
returns c =
    encode_done upper_digits _ _ c.loop-i.i (omega arith) (omega arith) c.loop-i.invariant
