use Rattle.std.proofs.Common.{◌≡◌, ◌<◌, ◌^◌, ℕ, List, length, Some}
use Rattle.hex.specs.Hex.{IsBytes}
use Rattle.iso_parts.specs.declared.bitmap.BitmapCoding.{BitmapCoding}
use Rattle.iso_parts.specs.Bitmap.{BitsIn, map_size}
use Rattle.iso_parts.specs.BitmapReading.{word_in}
use Rattle.iso_parts.specs.MapLaws.{has_bit}
use Rattle.iso_parts.proofs.SetBitmaps.{has_plain_maps, plain_maps_once}
use Rattle.iso_parts.proofs.Sizes.{plain_maps_most}
use Rattle.iso_parts.proofs.Words.{word_again, word_taken}
use Rattle.iso_parts.proofs.laws.bitmaps.Goals as goal

taken : (c : BitmapCoding) (b : List ℕ) (word : ℕ) → IsBytes b → length b ≡ map_size c → word_in c b ≡ Some word → (word < 2 ^ 64) × BitsIn c (has_bit word) b
taken c b word bytes size read = let was = word_taken c b word bytes size read in (was.small, was.bits)

pub returns : goal.returns
returns c = record {
  again = word_again;
  taken = taken;
  some = has_plain_maps;
  once = plain_maps_once;
  short = plain_maps_most;
}
