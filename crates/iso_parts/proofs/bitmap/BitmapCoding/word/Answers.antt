-- A bitmap in hexadecimal is the word that its digits write.
use Rattle.std.proofs.Common.{sym, ap, ◌∙◌}
use Rattle.iso_parts.specs.declared.bitmap.BitmapCoding.{BitmapCoding}
use Rattle.iso_parts.specs.BitmapReading.{word_in}
use Rattle.iso_parts.proofs.bitmap.BitmapCoding.word.Goals as goal

pub returns-in-Hex : goal.returns-in-Hex
returns-in-Hex c = c.hex_word.ensures ∙ sym (ap (λ (k : BitmapCoding). word_in k c.args.bytes.now) c.in-Hex.is)
