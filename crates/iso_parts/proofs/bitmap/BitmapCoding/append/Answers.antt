-- In hexadecimal, the digits of the bitmaps stand behind what was there.
use Rattle.std.proofs.Common.{rules}
use Rattle.iso_parts.proofs.bitmap.BitmapCoding.append.Goals as goal

pub returns-in-Hex-clause-ok : goal.returns-in-Hex-clause-ok
returns-in-Hex-clause-ok c = let written = c.encode_map_digits.ensures.ok in search rules
