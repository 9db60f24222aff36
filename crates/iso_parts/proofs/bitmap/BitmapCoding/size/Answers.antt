-- A bitmap in hexadecimal takes as many bytes as it has digits: 16.
use Rattle.std.proofs.Common.{sym, ap}
use Rattle.iso_parts.specs.Bitmap.{map_size}
use Rattle.iso_parts.proofs.bitmap.BitmapCoding.size.Goals as goal

pub returns-in-Hex : goal.returns-in-Hex
returns-in-Hex c = sym (ap map_size c.in-Hex.is)
